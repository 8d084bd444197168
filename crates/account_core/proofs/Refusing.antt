-- What an account refuses an operation with.
use Rattle.std.proofs.Common.{◌≡◌, ◌≢◌, ◌∙◌, ap, ℕ, Bool, true, false, Option, Some, None, List, inl, inr, refl, sym, subst}
use Rattle.std.specs.Prelude.{◌+◌, if◌then◌else◌, length, nat_lt, reverse}
use Rattle.account_core.specs.Answers.{misplaced}
use Rattle.account_core.specs.Asked.{Asked, Credits, Reserves, Returns, Settles, call_of, is_in_range}
use Rattle.account_core.specs.Entries.{EntryData}
use Rattle.account_core.specs.Known.{CallFacts, is_open, known}
use Rattle.account_core.specs.Ledger.{IsRefusal, Ledger}
use Rattle.account_core.specs.Places.{needed_by, or_else, over_limit, owed, refusal}
use Rattle.account_core.specs.declared.fault.AccountFault.{AccountFault}
use Rattle.account_core.specs.declared.fault.AccountFault.TheVariants as fault
use Rattle.account_core.specs.SharingLaws.{AccountsHaveNoGate}
use Rattle.account_core.specs.Kinds.{ClosesCall, IsFaultOf, OpensCall, RefusalsAreOfTheirKind}

-- a Return that the account doesn't owe is of a call that isn't open
pub return_closed : (open_yet : Bool) (account : Ledger) (call : ℕ) (why : AccountFault) → is_open (known call (reverse account.history)) ≡ open_yet
    → (open_yet ≡ true → ⊥) → IsRefusal account (Returns call) why → why ≡ fault.NotOpen
unfolding refusal
return_closed true account call why is never refused = absurd (never refl)
return_closed false account call why is never (inl response) =
    let first : Some fault.NotOpen ≡ Some why = rw is at response in cc first
return_closed false account call why is never (inr response) =
    let first : Some fault.NotOpen ≡ None = rw is at response.0 in cc first

-- ---- the kind of a fault

over_full : (b : Bool) (asked : Asked) (why : AccountFault) → is_in_range asked ≡ true → (if b then Some fault.HistoryFull else None) ≡ Some why → IsFaultOf asked why
over_full true asked why ranged is = let same : fault.HistoryFull ≡ why = cc is in let F : AccountFault → Type 0 = IsFaultOf asked in subst F same ranged
over_full false asked why ranged is = cc is

used_or : (b c : Bool) (asked : Asked) (why : AccountFault) → OpensCall asked → is_in_range asked ≡ true
    → or_else (if b then Some fault.CallUsed else None) (if c then Some fault.HistoryFull else None) ≡ Some why → IsFaultOf asked why
used_or true c asked why opens ranged is = let same : fault.CallUsed ≡ why = cc is in let F : AccountFault → Type 0 = IsFaultOf asked in subst F same (opens, ranged)
used_or false c asked why opens ranged is = over_full c asked why ranged is

closed_or : (b c : Bool) (asked : Asked) (why : AccountFault) → ClosesCall asked → is_in_range asked ≡ true
    → or_else (if b then None else Some fault.NotOpen) (if c then Some fault.HistoryFull else None) ≡ Some why → IsFaultOf asked why
closed_or true c asked why closes ranged is = over_full c asked why ranged is
closed_or false c asked why closes ranged is = let same : fault.NotOpen ≡ why = cc is in let F : AccountFault → Type 0 = IsFaultOf asked in subst F same closes

in_place : (call : CallFacts) (c : Bool) (asked : Asked) (why : AccountFault) → is_in_range asked ≡ true
    → or_else (misplaced call asked) (if c then Some fault.HistoryFull else None) ≡ Some why → IsFaultOf asked why
in_place call c (Credits amount moment) why ranged is = over_full c (Credits amount moment) why ranged is
in_place call c (Reserves number plan wanted least at) why ranged is = used_or call.returned c (Reserves number plan wanted least at) why tt ranged is
in_place call c (Settles number mail info) why ranged is = closed_or (is_open call) c (Settles number mail info) why tt ranged is
in_place call c (Returns number) why ranged is = closed_or (is_open call) c (Returns number) why tt ranged is

ranged_or : (b c : Bool) (call : CallFacts) (asked : Asked) (why : AccountFault) → is_in_range asked ≡ b
    → or_else (if b then misplaced call asked else Some fault.OutOfRange) (if c then Some fault.HistoryFull else None) ≡ Some why → IsFaultOf asked why
ranged_or true c call asked why ranged is = in_place call c asked why ranged is
ranged_or false c call asked why ranged is = let same : fault.OutOfRange ≡ why = cc is in let F : AccountFault → Type 0 = IsFaultOf asked in subst F same ranged

unranged_has : (b : Bool) (call : CallFacts) (asked : Asked) (over : Option AccountFault) → or_else (if b then misplaced call asked else Some fault.OutOfRange) over ≡ None → b ≡ true
unranged_has true call asked over is = refl
unranged_has false call asked over is = cc is

refusal_kind : (limit : ℕ) (h : List EntryData) (asked : Asked) (why : AccountFault) → refusal limit h asked ≡ Some why → IsFaultOf asked why
unfolding refusal
refusal_kind limit h asked why is =
    ranged_or (is_in_range asked) (nat_lt limit (length h + owed h + needed_by (known (call_of asked) h) asked)) (known (call_of asked) h) asked why refl is

memory_kind : (limit : ℕ) (h : List EntryData) (asked : Asked) → refusal limit h asked ≡ None → is_in_range asked ≡ true
unfolding refusal
memory_kind limit h asked is =
    unranged_has (is_in_range asked) (known (call_of asked) h) asked (over_limit limit (length h + owed h) (needed_by (known (call_of asked) h) asked)) is

fault_kind : (account : Ledger) (asked : Asked) (why : AccountFault) → IsRefusal account asked why → IsFaultOf asked why
fault_kind account asked why (inl is) = refusal_kind account.limit (reverse account.history) asked why is
fault_kind account asked why (inr is) =
    let F : AccountFault → Type 0 = IsFaultOf asked in subst F (sym is.1) (memory_kind account.limit (reverse account.history) asked is.0)

-- ---- every refusal of an account

not_shut : AccountsHaveNoGate → (account : Ledger) (asked : Asked) (why : AccountFault) → IsRefusal account asked why → why ≢ fault.GateClosed
not_shut none account asked why (inl is) = λ shut. none account.limit (reverse account.history) asked (is ∙ ap Some shut)
not_shut none account asked why (inr is) = λ shut. let never : fault.OutOfMemory ≡ fault.GateClosed = sym is.1 ∙ shut in cc never

pub of_their_kind : AccountsHaveNoGate → RefusalsAreOfTheirKind
of_their_kind none account asked why is = (fault_kind account asked why is, not_shut none account asked why is)
