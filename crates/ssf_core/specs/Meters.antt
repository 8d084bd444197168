-- The meter of a call: all that charging needs of a trace, and how it moves with each item that is sent.
use Rattle.std.specs.Prelude.{◌≡◌, ◌+◌, ◌≤◌, ◌⊎◌, ℕ, Bool, true, false, Option, Some, List, [], ◌∷◌, is_some}
use Rattle.cap_values.specs.Orders.{Period, order_of, periods_in}
use Rattle.cap_values.specs.declared.message.SsfMsg.TheVariants.{ChargingReport}
use Rattle.price_core.specs.declared.times.TimeInfo.{TimeInfo}
use Rattle.ssf_core.specs.Calls.{Stands, View}
use Rattle.ssf_core.specs.Happenings.{Happening, What, Took}
use Rattle.ssf_core.specs.Quantities.{answered, granted, last_happening_moment, pending, switch_due, switched}
use Rattle.ssf_core.specs.Split.{split}
use Rattle.ssf_core.specs.declared.ssf.Input.TheVariants.{Operate}
use Rattle.ssf_core.specs.declared.item.Item.{Item}
use Rattle.ssf_core.specs.declared.item.Item.TheVariants.{Msg}
use Rattle.ssf_core.specs.declared.item.Out.{Out}

-- the sum of the accepted periods, whether one is pending, the moments of the answer and of the switch, whether a switch was ordered, and the latest moment
pub record Meter : Type 0 where
  pub granted : ℕ
  pub pending : Bool
  pub answered : Option ℕ
  pub switched : Option ℕ
  pub awaited : Bool
  pub last : ℕ

-- the meter of a trace as of a moment
abbrev pub meter_at : List Happening → ℕ → Meter
meter_at trace now = record {
  granted = granted trace;
  pending = is_some (pending trace);
  answered = answered trace;
  switched = switched trace;
  awaited = is_some (switch_due trace);
  last = now;
}

-- the meter of a trace
abbrev pub meter_of : List Happening → Meter
meter_of trace = meter_at trace (last_happening_moment trace)

-- time passes, and no period is taken: the sum stays, nothing becomes pending, answer and switch stay once they are there, and a switch that comes was ordered and isn't behind
pub record Later (before after : Meter) : Type 0 where
  pub same_granted : after.granted ≡ before.granted
  pub none_pending : before.pending ≡ false → after.pending ≡ false
  pub same_awaited : after.awaited ≡ before.awaited
  pub keeps_answer : (moment : ℕ) → before.answered ≡ Some moment → after.answered ≡ Some moment
  pub keeps_switch : (moment : ℕ) → before.switched ≡ Some moment → after.switched ≡ Some moment
  pub comes : (moment : ℕ) → after.switched ≡ Some moment → (before.switched ≡ Some moment) ⊎ (before.last ≤ moment)
  pub came : (moment : ℕ) → after.switched ≡ Some moment → (moment ≤ after.last) × (after.awaited ≡ true)
  pub no_fall : before.last ≤ after.last

-- a charging report as of a moment: the exact split, while a period is pending and within the sum of the periods; where the call goes on just that sum, and then none is pending
pub record Reports (before : Meter) (now : ℕ) (active : Bool) (info : TimeInfo) (after : Meter) : Type 0 where
  pub answer : ℕ
  pub was_answered : before.answered ≡ Some answer
  pub exact : info ≡ split answer before.switched now
  pub within : now ≤ answer + before.granted
  pub whole : active ≡ true → now ≡ answer + before.granted
  pub was_pending : before.pending ≡ true
  pub last : before.last ≤ now
  pub behind : (moment : ℕ) → before.switched ≡ Some moment → moment ≤ now
  pub ends : active ≡ true → after.pending ≡ false
  pub later : Later before after
  pub same_switch : after.switched ≡ before.switched
  pub moment : now ≤ after.last

-- an item is sent as of a moment
abbrev pub MetersItem : Meter → ℕ → Item → Meter → Type 0
MetersItem before now (Msg (ChargingReport active info)) after = Reports before now active info after
MetersItem before now _ after = Later before after

-- a period is taken: it adds to the sum; a switch is awaited from now on only if it was, or if the ApplyCharging has one
pub record TakesPeriod (period : Period) (before after : Meter) : Type 0 where
  pub more_granted : after.granted ≡ before.granted + period.units
  pub ordered : after.awaited ≡ true → (before.awaited ≡ true) ⊎ (is_some period.switch ≡ true)
  pub same_answer : after.answered ≡ before.answered
  pub same_switch : after.switched ≡ before.switched
  pub came : (moment : ℕ) → after.switched ≡ Some moment → (moment ≤ after.last) × (after.awaited ≡ true)
  pub no_fall : before.last ≤ after.last

-- after all items: the period of an ApplyCharging is refused or taken
abbrev pub EndsMeter : List Period → Meter → Meter → Type 0
EndsMeter [] before after = Later before after
EndsMeter (period ∷ periods) before after = Later before after ⊎ TakesPeriod period before after

-- the items are sent one after the other, and time passes between them
abbrev pub RunsThrough : List Period → Meter → List Out → Meter → Type 0
RunsThrough periods before [] after = (ready : Meter) × (Later before ready × EndsMeter periods ready after)
RunsThrough periods before (out ∷ outs) after =
    (ready : Meter) × (Later before ready × ((sent : Meter) × (MetersItem ready out.at out.item sent × RunsThrough periods sent outs after)))

-- the period of an input, if that is an ApplyCharging
abbrev pub periods_of : What → List Period
periods_of (Took (Operate op)) = periods_in (order_of op ∷ [])
periods_of _ = []

-- the gsmSSF shows a meter: that of a trace that it stands for
abbrev pub Shows : View → Meter → Type 0
Shows view meter = (trace : List Happening) × (Stands view trace × (meter ≡ meter_of trace))

-- from each meter that was shown a call's items lead to one that is shown now
abbrev pub Metered : List Period → View → List Out → View → Type 0
Metered periods before sent after =
    (meter : Meter) → Shows before meter → (later : Meter) × (Shows after later × RunsThrough periods meter sent later)
