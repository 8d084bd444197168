-- The ceiling and the units afforded, in words of their own.
use Rattle.std.specs.Prelude.{◌≡◌, ◌+◌, ◌-◌, ◌<◌, ◌≤◌, ℕ, true, Some, IsSome, None}
use Rattle.price_core.specs.Afford.{units_afforded}
use Rattle.price_core.specs.Ceiling.{are_times, ceiling_of, may_come}
use Rattle.price_core.specs.Lawful.{is_lawful}
use Rattle.price_core.specs.Price.{price_at}
use Rattle.price_core.specs.Rates.{Rates}
use Rattle.price_core.specs.Reading.{times_read}
use Rattle.price_core.specs.Times.{Elapsed}
use Rattle.price_core.specs.declared.plan.TheConstants.{MAX_RATE}
use Rattle.price_core.specs.declared.times.TimeInfo.{TimeInfo}
use Rattle.price_core.specs.declared.times.TheConstants.{DAY}

-- the plan with the highest fee and the highest rate, no time free, and a whole day billed for the last unit of a day
abbrev pub dearest_plan : Rates
dearest_plan = record { fee = MAX_RATE; before = MAX_RATE; after = None; free = 0; first = DAY - 1; step = DAY }

-- a call with these times may be charged under the plan
pub record MayStand (plan : Rates) (times : Elapsed) : Type 0 where
  pub times_are : are_times times ≡ true
  pub rated : times.switched ≡ true → IsSome plan.after

-- some times that the call may come to cost the ceiling
abbrev pub CeilingIsAttained : Type 0
CeilingIsAttained = (plan : Rates) (old : Elapsed) (more : ℕ) → MayStand plan old
    → (new : Elapsed) × (may_come plan old (old.before + old.after + more) new ≡ true) × (price_at plan new ≡ ceiling_of plan old more)

-- and none cost more
abbrev pub CeilingIsNotPassed : Type 0
CeilingIsNotPassed = (plan : Rates) (old : Elapsed) (more : ℕ) (new : Elapsed)
    → may_come plan old (old.before + old.after + more) new ≡ true → price_at plan new ≤ ceiling_of plan old more

-- the units afforded are at most those wanted, and go no further than a day
abbrev pub AffordedAreWithin : Type 0
AffordedAreWithin = (plan : Rates) (old : Elapsed) (wanted money : ℕ) → old.before + old.after ≤ DAY
    → (units_afforded plan old wanted money ≤ wanted) × (old.before + old.after + units_afforded plan old wanted money ≤ DAY)

-- the money covers them, if there are any
abbrev pub AffordedAreCovered : Type 0
AffordedAreCovered = (plan : Rates) (old : Elapsed) (wanted money : ℕ)
    → 1 ≤ units_afforded plan old wanted money → ceiling_of plan old (units_afforded plan old wanted money) ≤ money

-- and of more, within what is wanted and a day, it covers none
abbrev pub AffordedAreLast : Type 0
AffordedAreLast = (plan : Rates) (old : Elapsed) (wanted money units : ℕ)
    → units_afforded plan old wanted money < units → units ≤ wanted → old.before + old.after + units ≤ DAY → money < ceiling_of plan old units

-- times that a call may come to may be charged under its plan, and lie within what was granted
abbrev pub ComingTimesStand : Type 0
ComingTimesStand = (plan : Rates) (old : Elapsed) (granted : ℕ) (new : Elapsed)
    → may_come plan old granted new ≡ true → MayStand plan new × (new.before + new.after ≤ granted)

-- a call may stay at its times
abbrev pub TimesMayStay : Type 0
TimesMayStay = (plan : Rates) (times : Elapsed) (granted : ℕ) → MayStand plan times → times.before + times.after ≤ granted → may_come plan times granted times ≡ true

-- what is lawful after times that a call may come to, it may come to as well
abbrev pub ComingIsTransitive : Type 0
ComingIsTransitive = (plan : Rates) (first : Elapsed) (granted : ℕ) (second third : Elapsed) → may_come plan first granted second ≡ true
    → are_times third ≡ true → is_lawful plan second third granted ≡ true → may_come plan first granted third ≡ true

-- what is read from a report are times within a day
abbrev pub ReadTimesAre : Type 0
ReadTimesAre = (old : Elapsed) (report : TimeInfo) (new : Elapsed) → times_read old report ≡ Some new → (are_times new ≡ true) × (new.before + new.after ≤ DAY)
