-- The stages of the code: where a call is, with its data.
use Rattle.std.specs.Prelude.{◌≡◌, ◌+◌, ◌*◌, ◌≤◌, ◌<◌, ℕ, Option, Some, None, if◌then◌else◌, nat_le, nat_lt}
use Rattle.cap_values.specs.declared.mode.Mode.TheVariants.{Transparent}
use Rattle.ssf_core.specs.declared.stage.Active.{Active}
use Rattle.ssf_core.specs.declared.stage.Charging.{Charging}
use Rattle.ssf_core.specs.declared.stage.Charging.TheVariants as charging
use Rattle.ssf_core.specs.declared.stage.Early.{Early}
use Rattle.ssf_core.specs.declared.stage.Stage.{Stage}
use Rattle.ssf_core.specs.declared.stage.Stage.TheVariants as stage
use Rattle.ssf_core.specs.declared.stage.Switch.{Switch}
use Rattle.ssf_core.specs.declared.stage.Switch.TheVariants as switch
use Rattle.ssf_core.specs.declared.timers.Expiry.{Expiry}
use Rattle.ssf_core.specs.declared.timers.Timer.{Timer}
use Rattle.ssf_core.specs.declared.timers.Timer.TheVariants.{Tsw, Tcp, Tccd, Tssf}
use Rattle.price_core.specs.declared.times.TheConstants.{DAY, HORIZON}

-- the Tsw rule
abbrev pub started : Switch → ℕ → Option ℕ → Switch
started (switch.Passed moment) now seconds = switch.Passed moment
started switch.Unset now (Some seconds) = switch.Due (now + 10 * seconds)
started switch.Unset now None = switch.Unset
started (switch.Due moment) now (Some seconds) = switch.Due (now + 10 * seconds)
started (switch.Due moment) now None = switch.Due moment

-- the moment of the switch, once it came
abbrev pub passed_switch : Switch → Option ℕ
passed_switch switch.Unset = None
passed_switch (switch.Due moment) = None
passed_switch (switch.Passed moment) = Some moment

-- when Tsw is due
abbrev pub switch_due_of : Switch → Option ℕ
switch_due_of switch.Unset = None
switch_due_of (switch.Due moment) = Some moment
switch_due_of (switch.Passed moment) = None

-- when Tcp is due, of a period that ends at a moment
abbrev pub tcp_due_of : ℕ → Charging → Option ℕ
tcp_due_of end charging.Off = None
tcp_due_of end (charging.Running release) = Some end
tcp_due_of end (charging.Over moment) = None

-- when Tccd is due
abbrev pub tccd_due_of : Charging → Option ℕ
tccd_due_of charging.Off = None
tccd_due_of (charging.Running release) = None
tccd_due_of (charging.Over moment) = Some moment

-- when the timers of an active call are due
abbrev pub active_due : Active → Timer → Option ℕ
active_due active Tsw = switch_due_of active.switch
active_due active Tcp = tcp_due_of (active.answered + active.granted) active.charging
active_due active Tccd = tccd_due_of active.charging
active_due active Tssf = None

-- when the timers of a call that waits before its answer are due
abbrev pub initial_due : Early → ℕ → Timer → Option ℕ
initial_due early moment Tsw = switch_due_of early.switch
initial_due early moment Tcp = None
initial_due early moment Tccd = None
initial_due early moment Tssf = Some moment

-- when the timers of a call that is monitored before its answer are due
abbrev pub early_due : Early → Timer → Option ℕ
early_due early Tsw = switch_due_of early.switch
early_due early Tcp = None
early_due early Tccd = None
early_due early Tssf = None

-- when the timers are due while the service is told of the end
abbrev pub down_due : ℕ → Timer → Option ℕ
down_due moment Tsw = None
down_due moment Tcp = None
down_due moment Tccd = None
down_due moment Tssf = Some moment

-- when a timer of a stage is due
abbrev pub stage_due : Stage → Timer → Option ℕ
stage_due stage.Unused timer = None
stage_due stage.Requested timer = None
stage_due (stage.Initial early moment) timer = initial_due early moment timer
stage_due (stage.Early early) timer = early_due early timer
stage_due (stage.Active active) timer = active_due active timer
stage_due (stage.Down moment) timer = down_due moment timer
stage_due stage.Ended timer = None

-- a switch that is due isn't past, and one that came isn't ahead
abbrev pub IsSwitchTimely : ℕ → Switch → Type 0
IsSwitchTimely now switch.Unset = Unit {0}
IsSwitchTimely now (switch.Due moment) = now ≤ moment
IsSwitchTimely now (switch.Passed moment) = moment ≤ now

-- the end of the period, or of the wait for a further one, isn't past
abbrev pub IsChargingTimely : ℕ → ℕ → Charging → Type 0
IsChargingTimely now end charging.Off = Unit {0}
IsChargingTimely now end (charging.Running release) = now ≤ end
IsChargingTimely now end (charging.Over moment) = now ≤ moment

-- an active call that is timely
pub record IsActiveTimely (now : ℕ) (active : Active) : Type 0 where
  pub answered : active.answered ≤ now
  pub granted : active.granted ≤ DAY
  pub charging : IsChargingTimely now (active.answered + active.granted) active.charging
  pub switch : IsSwitchTimely now active.switch

-- what has come isn't ahead, and no moment that is due is past
abbrev pub IsTimelyStage : ℕ → Stage → Type 0
IsTimelyStage now stage.Unused = Unit {0}
IsTimelyStage now stage.Requested = Unit {0}
IsTimelyStage now (stage.Initial early moment) = (now ≤ moment) × IsSwitchTimely now early.switch
IsTimelyStage now (stage.Early early) = IsSwitchTimely now early.switch
IsTimelyStage now (stage.Active active) = IsActiveTimely now active
IsTimelyStage now (stage.Down moment) = now ≤ moment
IsTimelyStage now stage.Ended = Unit {0}

-- no timer is due by now
abbrev pub IsQuiet : ℕ → Stage → Type 0
IsQuiet now stage = (timer : Timer) (d : ℕ) → stage_due stage timer ≡ Some d → now < d

-- moments that can be added to
abbrev pub IsBounded : Stage → Type 0
IsBounded stage.Unused = Unit {0}
IsBounded stage.Requested = Unit {0}
IsBounded (stage.Initial early moment) = Unit {0}
IsBounded (stage.Early early) = Unit {0}
IsBounded (stage.Active active) = (active.answered ≤ HORIZON) × (active.granted ≤ DAY)
IsBounded (stage.Down moment) = Unit {0}
IsBounded stage.Ended = Unit {0}

-- an expiry of a timer that runs
abbrev pub expiry_of : Timer → Option ℕ → Option Expiry
expiry_of timer None = None
expiry_of timer (Some moment) = Some (record { due = moment; timer = timer })

-- the sooner of two expiries, the first at one moment
abbrev pub sooner_of : Option Expiry → Option Expiry → Option Expiry
sooner_of None second = second
sooner_of (Some first) None = Some first
sooner_of (Some first) (Some second) = if nat_lt second.due first.due then Some second else Some first

-- the next expiry of a stage
abbrev pub next_expiry_of : Stage → Option Expiry
next_expiry_of stage =
    sooner_of (expiry_of Tsw (stage_due stage Tsw))
    (sooner_of (expiry_of Tcp (stage_due stage Tcp)) (sooner_of (expiry_of Tccd (stage_due stage Tccd)) (expiry_of Tssf (stage_due stage Tssf))))

-- the moment of an expiry
abbrev pub expiry_moment : Option Expiry → Option ℕ
expiry_moment None = None
expiry_moment (Some expiry) = Some expiry.due

-- an expiry that is due by now
abbrev pub due_by : ℕ → Option Expiry → Option Expiry
due_by now None = None
due_by now (Some expiry) = if nat_le expiry.due now then Some expiry else None

-- before anything is armed, charged or switched
abbrev pub blank : Early
blank = record {
  modes = record {
    route_select_failure = Transparent;
    called_party_busy = Transparent;
    no_answer = Transparent;
    answer = Transparent;
    disconnect_one = Transparent;
    disconnect_two = Transparent;
    abandon = Transparent;
  };
  charge = None;
  switch = switch.Unset;
}

-- how many items can still come of a period
abbrev pub items_after_period : Charging → ℕ
items_after_period charging.Off = 0
items_after_period (charging.Running release) = 3
items_after_period (charging.Over moment) = 2

-- the most items that the timers of a stage send
abbrev pub items_left : Stage → ℕ
items_left stage.Unused = 0
items_left stage.Requested = 0
items_left (stage.Initial early moment) = 2
items_left (stage.Early early) = 0
items_left (stage.Active active) = items_after_period active.charging
items_left (stage.Down moment) = 2
items_left stage.Ended = 0

-- how often Tsw can still expire
abbrev pub switches_left : Switch → ℕ
switches_left switch.Unset = 0
switches_left (switch.Due moment) = 1
switches_left (switch.Passed moment) = 0

-- how often Tcp and Tccd can still expire
abbrev pub periods_left : Charging → ℕ
periods_left charging.Off = 0
periods_left (charging.Running release) = 2
periods_left (charging.Over moment) = 1

-- the most expiries that a stage has before its next input
abbrev pub expiries_left : Stage → ℕ
expiries_left stage.Unused = 0
expiries_left stage.Requested = 0
expiries_left (stage.Initial early moment) = 1 + switches_left early.switch
expiries_left (stage.Early early) = switches_left early.switch
expiries_left (stage.Active active) = periods_left active.charging + switches_left active.switch
expiries_left (stage.Down moment) = 1
expiries_left stage.Ended = 0
