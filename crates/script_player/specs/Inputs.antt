-- What an input does to one gsmSSF, and when its next timer is due.
use Rattle.std.specs.Prelude.{◌≡◌, ◌<◌, ◌≤◌, ℕ, Option, Some, None, List, []}
use Rattle.std.specs.Option.{ForSome}
use Rattle.ssf_core.specs.Calls.{Advances, IsNextDue, Stands, TakesAt, View}
use Rattle.ssf_core.specs.Happenings.{Happening}
use Rattle.ssf_core.specs.Inputs.{meets, operates}
use Rattle.ssf_core.specs.declared.fault.SsfFault.{SsfFault}
use Rattle.ssf_core.specs.declared.fault.SsfFault.TheVariants as why
use Rattle.ssf_core.specs.declared.item.Out.{Out}
use Rattle.script_player.specs.declared.network.Input.{Input}
use Rattle.script_player.specs.declared.network.Input.TheVariants as input

-- a trace goes on by an input: the timers run, and then the operation or the event is taken or refused as the rules say, and the fault is that of the rules; where time passes the timers run, and there is none
abbrev pub GoesOnBy : View → View → ℕ → Input → List Happening → List Out → Option SsfFault → Type 0
GoesOnBy before after now (input.Operate op) trace sent fault = TakesAt before after now (operates op) trace sent fault
GoesOnBy before after now (input.Meet event) trace sent fault = TakesAt before after now (meets event) trace sent fault
GoesOnBy before after now input.Wait trace sent fault = Advances before after now trace sent × (fault ≡ None)

-- a gsmSSF is given an input at a moment, sends this, and may refuse it by a fault; for a moment before its last one it stays as it is, sends nothing and refuses
pub record IsGiven (before after : View) (now : ℕ) (input : Input) (sent : List Out) : Type 0 where
  pub fault : Option SsfFault
  pub same_config : after.config ≡ before.config
  pub backwards : now < before.last → (after ≡ before) × (sent ≡ []) × (fault ≡ Some why.TimeBackwards)
  pub moment : before.last ≤ now → after.last ≡ now
  pub goes_on : before.last ≤ now → (trace : List Happening) → Stands before trace → GoesOnBy before after now input trace sent fault

-- the next timer of a gsmSSF is due at a moment, which isn't before its last one, or none runs
pub record IsNextTimer (view : View) (due : Option ℕ) : Type 0 where
  pub least : (trace : List Happening) → Stands view trace → IsNextDue view.config trace due
  pub ahead : ForSome due (λ at. view.last ≤ at)
