-- What a list of happenings says, the newest first.
use Rattle.std.specs.Prelude.{◌+◌, ◌*◌, ℕ, Bool, Option, Some, None, List, [], ◌∷◌, unwrap_or}
use Rattle.cap_values.specs.Arms.{arm_at}
use Rattle.cap_values.specs.declared.arming.Point.{Point}
use Rattle.cap_values.specs.declared.mode.Mode.{Mode}
use Rattle.cap_values.specs.declared.mode.Mode.TheVariants.{Transparent}
use Rattle.cap_values.specs.declared.operation.ScfOp.TheVariants.{RequestReport, ApplyCharging}
use Rattle.ssf_core.specs.Happenings.{Happening, What, Took, Expired}
use Rattle.ssf_core.specs.declared.ssf.Input.TheVariants.{Operate, Meet}
use Rattle.ssf_core.specs.declared.item.BcsmEvent.TheVariants.{Answer}
use Rattle.ssf_core.specs.declared.timers.Timer.TheVariants.{Tsw, Tcp}

-- an accepted period adds its units
abbrev pub granted_after : What → ℕ → ℕ
granted_after (Took (Operate (ApplyCharging charge))) before = before + charge.period
granted_after _ before = before

-- the sum of the accepted periods
abbrev pub granted : List Happening → ℕ
granted [] = 0
granted (e ∷ trace) = granted_after e.what (granted trace)

-- an accepted period is pending until Tcp expires
abbrev pub pending_after : What → Option Bool → Option Bool
pending_after (Took (Operate (ApplyCharging charge))) before = Some charge.release
pending_after (Expired Tcp) before = None
pending_after _ before = before

-- the period that was accepted and hasn't expired, by its wish to release the call at its end
abbrev pub pending : List Happening → Option Bool
pending [] = None
pending (e ∷ trace) = pending_after e.what (pending trace)

-- a period ends where Tcp expires, until the next one is accepted
abbrev pub period_end_after : What → ℕ → Option ℕ → Option ℕ
period_end_after (Took (Operate (ApplyCharging charge))) now before = None
period_end_after (Expired Tcp) now before = Some now
period_end_after _ now before = before

-- the end of the last period, until a further one is accepted
abbrev pub period_end : List Happening → Option ℕ
period_end [] = None
period_end (e ∷ trace) = period_end_after e.what e.at (period_end trace)

-- the moment of the answer
abbrev pub answered_after : What → ℕ → Option ℕ → Option ℕ
answered_after (Took (Meet Answer)) now before = Some now
answered_after _ now before = before

-- the moment of the answer
abbrev pub answered : List Happening → Option ℕ
answered [] = None
answered (e ∷ trace) = answered_after e.what e.at (answered trace)

-- the moment at which Tsw expired
abbrev pub switched_after : What → ℕ → Option ℕ → Option ℕ
switched_after (Expired Tsw) now before = Some now
switched_after _ now before = before

-- the moment of the tariff switch, once it came
abbrev pub switched : List Happening → Option ℕ
switched [] = None
switched (e ∷ trace) = switched_after e.what e.at (switched trace)

-- the Tsw rule: an interval in seconds starts Tsw anew unless it has expired; without one Tsw is left as it is
abbrev pub started_switch : Option ℕ → ℕ → Option ℕ → Option ℕ → Option ℕ
started_switch None now came before = before
started_switch (Some seconds) now None before = Some (now + 10 * seconds)
started_switch (Some seconds) now (Some moment) before = before

-- an accepted period may set when the switch is due
abbrev pub switch_due_after : What → ℕ → Option ℕ → Option ℕ → Option ℕ
switch_due_after (Took (Operate (ApplyCharging charge))) now came before = started_switch charge.switch now came before
switch_due_after _ now came before = before

-- the moment for which the last interval set the switch
abbrev pub switch_due : List Happening → Option ℕ
switch_due [] = None
switch_due (e ∷ trace) = switch_due_after e.what e.at (switched trace) (switch_due trace)

-- the moment of an input that was taken
abbrev pub last_input_after : What → ℕ → ℕ → ℕ
last_input_after (Took input) now before = now
last_input_after (Expired timer) now before = before

-- the moment of the last accepted input
abbrev pub last_input : List Happening → ℕ
last_input [] = 0
last_input (e ∷ trace) = last_input_after e.what e.at (last_input trace)

-- accepted armings set the mode of a point
abbrev pub mode_after : What → Point → Mode → Mode
mode_after (Took (Operate (RequestReport arms))) point before = unwrap_or (arm_at arms point) before
mode_after _ point before = before

-- the mode of a point
abbrev pub mode_at : List Happening → Point → Mode
mode_at [] point = Transparent
mode_at (e ∷ trace) point = mode_after e.what point (mode_at trace point)

-- the moment of the last happening
abbrev pub last_happening_moment : List Happening → ℕ
last_happening_moment [] = 0
last_happening_moment (e ∷ trace) = e.at
