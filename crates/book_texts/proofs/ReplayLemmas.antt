-- The lines so far are those of the asks so far.
use Rattle.std.proofs.Common.{◌≡◌, ℕ, None, Option, List, [], ◌∷◌, ◌++◌, Result, Ok, Err, refl, sym, ap, ◌∙◌, append_assoc, append-nil, inl, inr, reverse}
use Rattle.std.specs.Prelude.{◌≢◌, IfErr, IfOk, OnErr, OnOk}
use Rattle.std.proofs.lemmas.List.{reverse-append}
use Rattle.account_core.specs.Asked.{Asked}
use Rattle.account_core.specs.Entries.{EntryData}
use Rattle.account_core.specs.Ledger.{IsRefusal, Ledger, answer_of, entry_by, refusal_of}
use Rattle.account_core.specs.Tellers.{IsTellerOf, entered}
use Rattle.account_core.specs.declared.teller.Teller.{Teller}
use Rattle.account_core.specs.declared.entry.Reply.{Reply}
use Rattle.account_core.specs.declared.fault.AccountFault.{AccountFault}
use Rattle.account_core.specs.declared.fault.AccountFault.TheVariants as fault
use Rattle.table_core.specs.Taking.{TakesNextRow}
use Rattle.table_core.specs.declared.fault.RowKind.{RowKind}
use Rattle.table_core.specs.declared.taking.TakeFault.{TakeFault}
use Rattle.table_core.specs.declared.taking.TakeFault.TheVariants as out
use Rattle.book_texts.specs.Asks.{SeatAsk}
use Rattle.book_texts.specs.ReplayLines.{response_line}
use Rattle.book_texts.specs.Replays.{IsReplayed, history_after, history_of, line_of_ask, replay_lines}

-- ---- one more ask

pub history_more : (opening : ℕ) (until : Option ℕ) (limit : ℕ) (h : List EntryData) (asks : List SeatAsk) (ask : SeatAsk)
    → history_of opening until limit h (asks ++ ask ∷ []) ≡ history_after opening until limit (history_of opening until limit h asks) ask
unfolding history_of
history_more opening until limit h [] ask = refl
history_more opening until limit h (first ∷ asks) ask = history_more opening until limit (history_after opening until limit h first) asks ask

pub lines_more : (opening : ℕ) (until : Option ℕ) (limit : ℕ) (h : List EntryData) (asks : List SeatAsk) (ask : SeatAsk)
    → replay_lines opening until limit h (asks ++ ask ∷ []) ≡ replay_lines opening until limit h asks ++ line_of_ask opening until limit (history_of opening until limit h asks) ask
unfolding history_of replay_lines
lines_more opening until limit h [] ask = append-nil (line_of_ask opening until limit h ask)
lines_more opening until limit h (first ∷ asks) ask =
    rw (lines_more opening until limit (history_after opening until limit h first) asks ask) (sym (append_assoc (line_of_ask opening until limit h first) _ _))

-- before the first ask
pub none_replayed : (opening : ℕ) (until : Option ℕ) (limit : ℕ) (teller : Teller) (text : List ℕ) → IsTellerOf (record { opening = opening; until = until; limit = limit; history = [] }) teller → text ≡ []
    → (ledger : Ledger) × IsTellerOf ledger teller × IsReplayed opening until limit text ledger []
unfolding history_of replay_lines
none_replayed opening until limit teller text is none =
    (record { opening = opening; until = until; limit = limit; history = [] }, is, record { opened = refl; lasting = refl; limited = refl; lines = sym none; history = refl })

-- ---- one operation

-- what the answer to an ask does to the lines and to the history
pub record IsStep (old new : Ledger) (ask : SeatAsk) (response : Result Reply AccountFault) : Type 0 where
  pub line : response_line response ≡ line_of_ask old.opening old.until old.limit (reverse old.history) ask
  pub history : reverse new.history ≡ history_after old.opening old.until old.limit (reverse old.history) ask
  pub opening : new.opening ≡ old.opening
  pub until : new.until ≡ old.until
  pub limit : new.limit ≡ old.limit

-- the ledger after an answer
abbrev pub ledger_after : Ledger → ℕ → Asked → Result Reply AccountFault → Ledger
ledger_after ledger seat asked (Ok reply) = entered ledger (entry_by seat asked reply)
ledger_after ledger seat asked (Err why) = ledger

refused_step : (ledger : Ledger) (seat : ℕ) (asked : Asked) (why : AccountFault) → IsRefusal ledger asked why → why ≢ fault.OutOfMemory
    → IsStep ledger ledger (record { seat = seat; asked = asked }) (Err why)
refused_step ledger seat asked why (inl refused) memory = record { line = rw refused refl; history = rw refused refl; opening = refl; until = refl; limit = refl }
refused_step ledger seat asked why (inr refused) memory = absurd (memory refused.1)

module _ (old new : Teller) (ledger : Ledger) (is : IsTellerOf ledger old) (seat : ℕ) (asked : Asked) where
  pub step : (response : Result Reply AccountFault)
      → IfOk response (λ reply. (l : Ledger) → IsTellerOf l old → reply ≡ answer_of l asked)
      → OnOk response ((l : Ledger) → IsTellerOf l old → refusal_of l asked ≡ None)
      → IfErr response (λ why. (l : Ledger) → IsTellerOf l old → IsRefusal l asked why)
      → response ≢ Err fault.OutOfMemory → IsStep ledger (ledger_after ledger seat asked response) (record { seat = seat; asked = asked }) response
  step (Ok reply) answered admitted refused memory =
      let none : refusal_of ledger asked ≡ None = admitted ledger is in
      let right : reply ≡ answer_of ledger asked = answered ledger is in
      record {
        line = rw (none, right) refl;
        history = rw (none, ← right) (reverse-append ledger.history (entry_by seat asked reply ∷ []));
        opening = refl;
        until = refl;
        limit = refl;
      }
  step (Err why) answered admitted refused memory = refused_step ledger seat asked why (refused ledger is) (λ same. memory (ap Err same))

  pub teller_after : (response : Result Reply AccountFault)
      → IfOk response (λ reply. (l : Ledger) → IsTellerOf l old → IsTellerOf (entered l (entry_by seat asked reply)) new)
      → OnErr response ((l : Ledger) → IsTellerOf l old → IsTellerOf l new)
      → IsTellerOf (ledger_after ledger seat asked response) new
  teller_after (Ok reply) entered kept = entered ledger is
  teller_after (Err why) entered kept = kept ledger is

pub one_replayed : (opening : ℕ) (until : Option ℕ) (limit : ℕ) (text : List ℕ) (old new : Ledger) (asks : List SeatAsk) (ask : SeatAsk) (response : Result Reply AccountFault)
    → IsReplayed opening until limit text old asks → IsStep old new ask response → IsReplayed opening until limit (text ++ response_line response) new (asks ++ ask ∷ [])
one_replayed opening until limit text old new asks ask response was step = record {
  opened = step.opening ∙ was.opened;
  lasting = step.until ∙ was.lasting;
  limited = step.limit ∙ was.limited;
  lines = lines_more opening until limit [] asks ask ∙ rw (was.lines, was.history, step.line, was.opened, was.lasting, was.limited) refl;
  history = history_more opening until limit [] asks ask ∙ rw (was.history, step.history, was.opened, was.lasting, was.limited) refl;
}

-- ---- a row is taken

module _ (opening limit : ℕ) (before after : Teller) (text now : List ℕ) (ledger : Ledger) (asks : List SeatAsk) (ask : SeatAsk) (answer : Result Reply AccountFault)
    (is : IsTellerOf ledger before) (was : IsReplayed opening None limit text ledger asks) where
  pub answer_taken : {X : Type 0} (written : Result X TakeFault) (judged : Result (List SeatAsk) RowKind) → judged ≡ Ok (asks ++ ask ∷ [])
      → OnOk written (now ≡ text ++ response_line answer) → OnOk written (answer ≢ Err fault.OutOfMemory) → IfErr written (λ why. why ≡ out.OutOfMemory)
      → IfOk answer (λ reply. (l : Ledger) → IsTellerOf l before → reply ≡ answer_of l ask.asked)
      → OnOk answer ((l : Ledger) → IsTellerOf l before → refusal_of l ask.asked ≡ None)
      → IfErr answer (λ why. (l : Ledger) → IsTellerOf l before → IsRefusal l ask.asked why)
      → IfOk answer (λ reply. (l : Ledger) → IsTellerOf l before → IsTellerOf (entered l (entry_by ask.seat ask.asked reply)) after)
      → OnErr answer ((l : Ledger) → IsTellerOf l before → IsTellerOf l after)
      → TakesNextRow (λ asks. (l : Ledger) × IsTellerOf l after × IsReplayed opening None limit now l asks) written judged
  answer_taken (Ok done) judged judged_is line known why answered admitted refused enters kept = (
    asks ++ ask ∷ [],
    judged_is,
    (
      ledger_after ledger ask.seat ask.asked answer,
      teller_after before after ledger is ask.seat ask.asked answer enters kept,
      rw line (one_replayed opening None limit text ledger _ asks ask answer was (step before after ledger is ask.seat ask.asked answer answered admitted refused known)),
    ),
  )
  answer_taken (Err other) judged judged_is line known why answered admitted refused enters kept = rw why tt
