-- How a port keeps one call, whatever else it keeps: as an account's history would.
use Rattle.std.specs.Prelude.{◌≡◌, ◌+◌, ◌≤◌, ℕ, Option, Some, None, IsSome, Result, Ok, Err}
use Rattle.account_core.specs.Answers.{accepted_times, misplaced}
use Rattle.account_core.specs.Asked.{Asked, IsOfCall, Reserves, Returns, Settles}
use Rattle.account_core.specs.Known.{CallFacts, deed, known_after}
use Rattle.account_core.specs.Ledger.{entry_by}
use Rattle.account_core.specs.declared.entry.Reply.{Reply}
use Rattle.account_core.specs.declared.entry.Reply.TheVariants as reply
use Rattle.account_core.specs.declared.fault.AccountFault.{AccountFault}
use Rattle.price_core.specs.declared.times.TheConstants.{DAY}

-- the units of a grant: some, at least the least and at most those wanted, and within a day with the times of the call
pub record IsGrant (known : CallFacts) (wanted least units : ℕ) : Type 0 where
  pub some : 1 ≤ units
  pub enough : least ≤ units
  pub within : units ≤ wanted
  pub day : known.times.before + known.times.after + units ≤ DAY

-- a reply that an account may give by what is known of the call. A grant is made, or not, at will; a report is settled exactly where it is lawful
abbrev pub FitsCall : CallFacts → Asked → Reply → Type 0
FitsCall known (Reserves call plan wanted least at) (reply.Granted units last available) = IsGrant known wanted least units
FitsCall known (Reserves call plan wanted least at) (reply.Denied available) = Unit {0}
FitsCall known (Settles call number info) (reply.Settled paid available) = IsSome (accepted_times known info)
FitsCall known (Settles call number info) (reply.Forfeit paid available) = accepted_times known info ≡ None
FitsCall known (Returns call) (reply.Returned paid available) = Unit {0}
FitsCall known asked other = ⊥

-- an operation of this call was in its place and got such a reply
abbrev pub FitsOperation : ℕ → CallFacts → Asked → Reply → Type 0
FitsOperation call known asked answer = IsOfCall call asked → (misplaced known asked ≡ None) × FitsCall known asked answer

-- what is known of a call before an operation and after it: a refusal changes nothing, a reply what its entry would
abbrev pub MovesCall : ℕ → CallFacts → Asked → Result Reply AccountFault → Option CallFacts → Type 0
MovesCall call before asked (Err fault) after = after ≡ Some before
MovesCall call before asked (Ok answer) after =
    (after ≡ Some (known_after before (deed call (entry_by 0 asked answer)))) × FitsOperation call before asked answer
