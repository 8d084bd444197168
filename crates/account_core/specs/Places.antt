-- The places of a history that are kept for closing its calls.
use Rattle.std.specs.Prelude.{◌≡◌, ◌+◌, ◌&&◌, ℕ, Bool, true, Option, Some, None, List, if◌then◌else◌, length, nat_lt, sum_by}
use Rattle.account_core.specs.Asked.{Asked, Credits, Reserves, Settles, Returns, call_of}
use Rattle.account_core.specs.Available.{calls}
use Rattle.account_core.specs.Answers.{inadmissible_for}
use Rattle.account_core.specs.Entries.{EntryData}
use Rattle.account_core.specs.Known.{CallFacts, is_open, known}
use Rattle.account_core.specs.declared.fault.AccountFault.{AccountFault}
use Rattle.account_core.specs.declared.fault.AccountFault.TheVariants as fault

-- an open call is owed a place for its Return, and one more for a Settle while none has come since its last grant
abbrev pub places_owed : Bool → Bool → ℕ
places_owed open_call awaits = if open_call then (if awaits then 2 else 1) else 0

-- the places owed to a call
unfoldable pub owed_to : CallFacts → ℕ
owed_to known = places_owed (is_open known) known.awaits

-- the places owed to all calls
unfoldable pub owed : List EntryData → ℕ
owed h = sum_by (λ call. owed_to (known call h)) (calls h)

-- the places that an operation takes beyond those owed: its own entry, and for a Reserve those that its grant would owe anew
abbrev pub places_needed : Bool → Bool → Asked → ℕ
places_needed open_call awaits (Credits amount moment) = 1
places_needed open_call awaits (Reserves call plan wanted least at) = if open_call then (if awaits then 1 else 2) else 3
places_needed open_call awaits (Settles call number info) = if open_call && awaits then 0 else 1
places_needed open_call awaits (Returns call) = if open_call then 0 else 1

-- the places that an operation takes beyond those owed, by what is known of its call
abbrev pub needed_by : CallFacts → Asked → ℕ
needed_by known asked = places_needed (is_open known) known.awaits asked

-- the same after a history
abbrev pub needed : List EntryData → Asked → ℕ
needed h asked = needed_by (known (call_of asked) h) asked

-- the first fault of an operation, and else the second
abbrev pub or_else : Option AccountFault → Option AccountFault → Option AccountFault
or_else (Some why) later = Some why
or_else None later = later

-- an operation passes the limit where the entries, the places owed and those that it needs are more
abbrev pub over_limit : ℕ → ℕ → ℕ → Option AccountFault
over_limit limit kept needs = if nat_lt limit (kept + needs) then Some fault.HistoryFull else None

-- why an operation is refused, if it is and memory is there: inadmissible, else over the limit
abbrev pub refusal_for : ℕ → ℕ → ℕ → CallFacts → Asked → Option AccountFault
refusal_for limit entries owed call asked = or_else (inadmissible_for call asked) (over_limit limit (entries + owed) (needed_by call asked))

-- why an account with a limit refuses an operation after a history
unfoldable pub refusal : ℕ → List EntryData → Asked → Option AccountFault
refusal limit h asked = refusal_for limit (length h) (owed h) (known (call_of asked) h) asked

-- a Return of an open call, or its first Settle since its last grant: its place is owed
abbrev pub IsOwed : List EntryData → Asked → Type 0
IsOwed h (Credits amount moment) = ⊥
IsOwed h (Reserves call plan wanted least at) = ⊥
IsOwed h (Settles call number info) = (is_open (known call h) ≡ true) × ((known call h).awaits ≡ true)
IsOwed h (Returns call) = is_open (known call h) ≡ true
