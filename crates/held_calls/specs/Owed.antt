-- What a call is owed by the accounts.
use Rattle.std.specs.Prelude.{◌≡◌, ℕ, List, reverse}
use Rattle.account_core.specs.Asked.{Asked, call_of}
use Rattle.account_core.specs.Entries.{EntryData}
use Rattle.account_core.specs.Places.{IsOwed}
use Rattle.account_core.specs.declared.fault.AccountFault.{AccountFault}
use Rattle.account_core.specs.Refusals.{IsAlone, Knowing}
use Rattle.runs_core.specs.Talks.{Showing}
use Rattle.runs_core.specs.Refusals.{WasAt}

-- a call is of the seat at each place alone
abbrev pub IsAloneWith : {T : Type 0} → (T → Knowing) → List T → ℕ → Type 0
IsAloneWith Was seats call = (place : ℕ) → IsAlone (WasAt Was seats place) call

-- what a call is owed, by the own entries of the seat that asks, is never refused
abbrev pub NeverRefusesOwed : (ℕ → Showing) → ℕ → Type 0
NeverRefusesOwed Shows call =
    (place : ℕ) (mine : List EntryData) (asked : Asked) (why : AccountFault) → call_of asked ≡ call → IsOwed (reverse mine) asked → Shows place mine asked why → ⊥
