-- What is true of each record of a run, in words of its own.
use Rattle.std.specs.Prelude.{◌≡◌, Bool, true, false}
use Rattle.run_outputs.specs.Records.{IsRecord, Run}
use Rattle.run_outputs.specs.declared.call_record.CallRecord.{CallRecord}
use Rattle.run_outputs.specs.declared.outcome.Outcome.{Outcome}
use Rattle.run_outputs.specs.declared.outcome.Outcome.TheVariants as outcome

-- the outcomes of a call that no account has granted anything: it was denied or refused, or has no account
abbrev pub is_unserved : Outcome → Bool
is_unserved outcome.Unknown = true
is_unserved outcome.Denied = true
is_unserved outcome.Refused = true
is_unserved _ = false

-- a call that no account has granted anything, as it was denied or refused or has no account, has paid nothing
abbrev pub UnservedCallsPayNothing : Type 0
UnservedCallsPayNothing = (run : Run) (call : CallRecord) → IsRecord run call → is_unserved call.outcome ≡ true → call.paid ≡ 0
