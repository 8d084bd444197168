-- What each step of a turn says to whoever makes it.
use Rattle.std.specs.Prelude.{◌≡◌, ◌≢◌, ◌⊎◌, ◌%◌, ◌^◌, ℕ, Option, Some, List, [], ◌∷◌, ◌++◌}
use Rattle.atomic_table.specs.Table.{Me, Step, rest}
use Rattle.account_core.specs.Answers.{IsLegal}
use Rattle.account_core.specs.Entries.{EntryData}
use Rattle.account_core.specs.Ledger.{Ledger}
use Rattle.account_core.specs.Own.{own}
use Rattle.account_core.specs.Prefixes.{IsPrefix}
use Rattle.turn_account.specs.Views.{at_stage, its_ticket, seeing}
use Rattle.turn_account.specs.declared.board.Stage.TheVariants.{Idles, Serves, Waits}
use Rattle.turn_account.specs.declared.board.View.{View}

-- who makes a step: a view, and what was taken out of the slot
abbrev pub Sitter : Type 0
Sitter = Me (Option Ledger) View

-- a step on the board of an account
abbrev pub At : Type 0
At = Step (Option Ledger)

-- an account with one more entry
abbrev pub with_entry : Ledger → EntryData → Ledger
with_entry account entry = record account { history = account.history ++ entry ∷ [] }

-- the same seat, later: it has seen a legal history that begins with what it had seen, and has no more entries of its own
pub record IsLater (before after : View) : Type 0 where
  pub number : after.number ≡ before.number
  pub opening : after.seen.opening ≡ before.seen.opening
  pub until : after.seen.until ≡ before.seen.until
  pub limit : after.seen.limit ≡ before.seen.limit
  pub legal : IsLegal after.seen.opening after.seen.until after.seen.history
  pub begins : IsPrefix before.seen.history after.seen.history
  pub own : own before.number after.seen.history ≡ own before.number before.seen.history
  pub ended : after.ended ≡ before.ended

-- a ticket is issued
abbrev pub issued : At → Sitter → ℕ → Sitter → Type 0
issued step before found after =
    (found ≡ its_ticket after.0.stage % 2 ^ 64) × (after.0 ≡ at_stage before.0 (Waits (its_ticket after.0.stage))) × (after.1 ≡ before.1)

-- where one's own ticket is served, the turn has come, and the account is in hand
pub record HasCome (before after : Sitter) : Type 0 where
  pub later : IsLater before.0 after.0
  pub stage : after.0.stage ≡ Serves (its_ticket before.0.stage)
  pub taken : after.1 ≡ (0, Some after.0.seen) ∷ before.1

-- a look at the served ticket: the turn has come where it is one's own
abbrev pub looked : At → Sitter → ℕ → Sitter → Type 0
looked step before found after =
    (found ≡ its_ticket before.0.stage % 2 ^ 64 → HasCome before after) × (found ≢ its_ticket before.0.stage % 2 ^ 64 → after ≡ before)

-- an entry is counted
abbrev pub appended : EntryData → At → Sitter → ℕ → Sitter → Type 0
appended entry step before found after = (after.0 ≡ seeing before.0 (with_entry before.0.seen entry)) × (after.1 ≡ before.1)

-- the turn is passed on, what was taken lies in the slot again, and what was seen is legal
abbrev pub handed : At → Sitter → ℕ → Sitter → Type 0
handed step before found after =
    (after.0 ≡ at_stage before.0 Idles) × (after.1 ≡ rest before.1) × IsLegal before.0.seen.opening before.0.seen.until before.0.seen.history

-- the longer of what was seen and what was heard, which begins with the other
pub record HasMet (seen heard : List EntryData) (before after : View) : Type 0 where
  pub stage : after.stage ≡ before.stage
  pub number : after.number ≡ before.number
  pub opening : after.seen.opening ≡ before.seen.opening
  pub until : after.seen.until ≡ before.seen.until
  pub limit : after.seen.limit ≡ before.seen.limit
  pub one : (after.seen.history ≡ heard) ⊎ (after.seen.history ≡ seen)
  pub legal : IsLegal after.seen.opening after.seen.until after.seen.history
  pub begins_seen : IsPrefix seen after.seen.history
  pub begins_heard : IsPrefix heard after.seen.history
  pub own : own before.number after.seen.history ≡ own before.number before.seen.history
  pub ended : after.ended ≡ before.ended

-- two views have met
abbrev pub compared : At → Sitter → ℕ → Sitter → Type 0
compared step before found after = HasMet before.0.seen.history before.0.heard.history before.0 after.0 × (after.1 ≡ before.1)
