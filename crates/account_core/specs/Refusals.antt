-- What a seat knows of its account, and the refusals that this shows to be right.
use Rattle.std.specs.Prelude.{◌≡◌, ℕ, List, reverse}
use Rattle.account_core.specs.Answers.{IsLegal}
use Rattle.account_core.specs.Asked.{Asked}
use Rattle.account_core.specs.Entries.{EntryData}
use Rattle.account_core.specs.Ledger.{IsRefusal, Ledger}
use Rattle.account_core.specs.Places.{IsOwed}
use Rattle.account_core.specs.declared.fault.AccountFault.{AccountFault}
use Rattle.account_core.specs.Own.{of_call}

-- a refusal: the account as it was, what was asked of it, and the fault with which it refused
pub record Refusal : Type 0 where
  pub account : Ledger
  pub asked : Asked
  pub why : AccountFault

-- what is known of an account's refusals: when a seat's own entries were these, the seat got this one
abbrev pub Knowing : Type 1
Knowing = List EntryData → Refusal → Type 0

-- when a seat's own entries were these, it asked its account for an operation, and the account, as the seat knows it, refused that with this fault. Its history was legal; and no operation is refused that closes a call by that history and by the seat's own entries too
pub record IsRefusedAt (Was : Knowing) (mine : List EntryData) (asked : Asked) (why : AccountFault) : Type 0 where
  pub account : Ledger
  pub was : Was mine (record { account = account; asked = asked; why = why })
  pub legal : IsLegal account.opening account.until account.history
  pub refused : IsRefusal account asked why
  pub room : IsOwed (reverse account.history) asked → IsOwed (reverse mine) asked → ⊥

-- a call is a seat's alone: the account, whenever it refused the seat, had no entries of the call but the seat's own
abbrev pub IsAlone : Knowing → ℕ → Type 0
IsAlone Was call = (mine : List EntryData) (refusal : Refusal) → Was mine refusal → of_call call refusal.account.history ≡ of_call call mine
