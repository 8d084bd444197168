-- An account as its callers see it.
use Rattle.std.specs.Prelude.{◌≡◌, ℕ, ◌⊎◌, Option, Some, None, List, reverse}
use Rattle.account_core.specs.Asked.{Asked}
use Rattle.account_core.specs.Answers.{answer}
use Rattle.account_core.specs.Entries.{EntryData}
use Rattle.account_core.specs.Places.{refusal}
use Rattle.account_core.specs.declared.entry.Reply.{Reply}
use Rattle.account_core.specs.declared.fault.AccountFault.{AccountFault}
use Rattle.account_core.specs.declared.fault.AccountFault.TheVariants as fault

-- the credit that it was opened with, the last moment of that, if it has one, how many entries it may have, and those that it has, oldest first
pub record Ledger : Type 0 where
  pub opening : ℕ
  pub until : Option ℕ
  pub limit : ℕ
  pub history : List EntryData

-- the reply of an account to an operation
abbrev pub answer_of : Ledger → Asked → Reply
answer_of ledger asked = answer ledger.opening ledger.until (reverse ledger.history) asked

-- why an account refuses an operation, if it does and memory is there
abbrev pub refusal_of : Ledger → Asked → Option AccountFault
refusal_of ledger asked = refusal ledger.limit (reverse ledger.history) asked

-- the entry of a seat's operation and its reply
abbrev pub entry_by : ℕ → Asked → Reply → EntryData
entry_by seat asked reply = record { seat = seat; asked = asked; reply = reply }

-- the fault is that of the operation, and out of memory only where it has none
abbrev pub IsRefusal : Ledger → Asked → AccountFault → Type 0
IsRefusal ledger asked why =
    (refusal_of ledger asked ≡ Some why) ⊎ ((refusal_of ledger asked ≡ None) × (why ≡ fault.OutOfMemory))
