-- What sharing an account among seats rests on.
use Rattle.std.specs.Prelude.{◌≡◌, ◌≢◌, ◌+◌, ◌≤◌, ℕ, Some, List, ◌∷◌}
use Rattle.account_core.specs.Asked.{Asked, call_of}
use Rattle.account_core.specs.Entries.{EntryData}
use Rattle.account_core.specs.Known.{known}
use Rattle.account_core.specs.Places.{owed, owed_to, refusal}
use Rattle.account_core.specs.declared.fault.AccountFault.TheVariants as fault

-- an entry, legal or not, changes what is owed to its own call alone
abbrev pub EntriesOweToTheirCalls : Type 0
EntriesOweToTheirCalls = (h : List EntryData) (entry : EntryData)
    → owed (entry ∷ h) + owed_to (known (call_of entry.asked) h) ≡ owed h + owed_to (known (call_of entry.asked) (entry ∷ h))

-- no call is owed more than all are
abbrev pub EachIsOwedItsShare : Type 0
EachIsOwedItsShare = (h : List EntryData) (call : ℕ) → owed_to (known call h) ≤ owed h

-- an account by itself never refuses for a gate
abbrev pub AccountsHaveNoGate : Type 0
AccountsHaveNoGate = (limit : ℕ) (h : List EntryData) (asked : Asked) → refusal limit h asked ≢ Some fault.GateClosed
