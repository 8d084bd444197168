-- What `replay` makes of an ops table: the answers of a sequential account to its rows, in order.
use Rattle.std.specs.Prelude.{◌≡◌, ℕ, Option, Some, None, List, [], ◌∷◌, ◌++◌, Result, Ok, reverse}
use Rattle.account_core.specs.Ledger.{Ledger}
use Rattle.account_core.specs.Answers.{answer}
use Rattle.account_core.specs.Entries.{EntryData}
use Rattle.account_core.specs.Places.{refusal}
use Rattle.account_core.specs.Wrong.{reply_or_fault}
use Rattle.account_core.specs.declared.entry.Reply.{Reply}
use Rattle.account_core.specs.declared.fault.AccountFault.{AccountFault}
use Rattle.table_core.specs.Judging.{and_then}
use Rattle.table_core.specs.declared.fault.RowFault.{RowFault}
use Rattle.book_texts.specs.Asks.{SeatAsk, asks_of}
use Rattle.book_texts.specs.ReplayLines.{response_line}

-- the line of an operation: its refusal, or else its reply
abbrev pub line_by : Option AccountFault → Reply → List ℕ
line_by refused reply = response_line (reply_or_fault refused reply)

-- the history after an operation, newest first: a refused one makes no entry
abbrev pub history_by : Option AccountFault → EntryData → List EntryData → List EntryData
history_by (Some why) entry h = h
history_by None entry h = entry ∷ h

-- the line of an operation after a history
abbrev pub line_of_ask : ℕ → Option ℕ → ℕ → List EntryData → SeatAsk → List ℕ
line_of_ask opening until limit h ask = line_by (refusal limit h ask.asked) (answer opening until h ask.asked)

-- the history after an operation
abbrev pub history_after : ℕ → Option ℕ → ℕ → List EntryData → SeatAsk → List EntryData
history_after opening until limit h ask =
    history_by (refusal limit h ask.asked) (record { seat = ask.seat; asked = ask.asked; reply = answer opening until h ask.asked }) h

-- the lines of what is asked, from a history on
unfoldable pub replay_lines : ℕ → Option ℕ → ℕ → List EntryData → List SeatAsk → List ℕ
replay_lines opening until limit h [] = []
replay_lines opening until limit h (ask ∷ asks) = line_of_ask opening until limit h ask ++ replay_lines opening until limit (history_after opening until limit h ask) asks

-- the same, where there are no faults before the lines
abbrev pub replayed_lines : ℕ → Option ℕ → ℕ → List EntryData → Result (List SeatAsk) RowFault → Result (List ℕ) RowFault
replayed_lines opening until limit h asks = and_then asks (λ asked. Ok (replay_lines opening until limit h asked))

-- the lines of a table, to an account without a last moment
abbrev pub replayed : ℕ → ℕ → List (List (List ℕ)) → Result (List ℕ) RowFault
replayed opening limit rows = replayed_lines opening None limit [] (asks_of rows)

-- ---- while a table is read

-- the history after some asks, newest first
unfoldable pub history_of : ℕ → Option ℕ → ℕ → List EntryData → List SeatAsk → List EntryData
history_of opening until limit h [] = h
history_of opening until limit h (ask ∷ asks) = history_of opening until limit (history_after opening until limit h ask) asks

-- what was replayed so far: these asks, whose lines were printed, and whose history the ledger has
pub record IsReplayed (opening : ℕ) (until : Option ℕ) (limit : ℕ) (text : List ℕ) (ledger : Ledger) (asks : List SeatAsk) : Type 0 where
  pub opened : ledger.opening ≡ opening
  pub lasting : ledger.until ≡ until
  pub limited : ledger.limit ≡ limit
  pub lines : replay_lines opening until limit [] asks ≡ text
  pub history : history_of opening until limit [] asks ≡ reverse ledger.history
