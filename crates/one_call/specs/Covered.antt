-- What holds between the gsmSSF, the service and the port of one call, so that each report is settled. The gsmSSF is seen by its meter,
-- the service by its phase, the port by what it keeps of the call; an ApplyCharging on its way is a period that is queued.
use Rattle.std.specs.Prelude.{◌≡◌, ◌+◌, ◌-◌, ◌≤◌, ◌⊎◌, ◌++◌, ℕ, Bool, true, false, Option, Some, None, IsSome, List, [], ◌∷◌, is_some, nat_le, if◌then◌else◌}
use Rattle.account_core.specs.Answers.{accepted_times}
use Rattle.account_core.specs.Asked.{Asked, Reserves, Settles, Returns}
use Rattle.account_core.specs.Known.{CallFacts, Reports, known_after, nothing_known}
use Rattle.cap_values.specs.Orders.{Period, periods_in}
use Rattle.dialogue_core.specs.Phases.{Conditions, Phase, Says, FirstAsk, Running, Settling, MoreAsk, Returning, Asks, Sends, Finished}
use Rattle.ssf_core.specs.Meters.{Meter}
use Rattle.price_core.specs.Rates.{Rates}
use Rattle.price_core.specs.Times.{Elapsed, no_times}
use Rattle.price_core.specs.declared.times.TimeInfo.{TimeInfo}
use Rattle.price_core.specs.declared.times.TheConstants.{DAY}

-- the units of the periods that are queued
abbrev pub units_in : List Period → ℕ
units_in [] = 0
units_in (period ∷ queued) = period.units + units_in queued

-- at most one period is queued: then no period is pending, and it has a switch only where the plan has a second rate
abbrev pub IsSingle : Meter → Rates → List Period → Type 0
IsSingle meter plan [] = Unit {0}
IsSingle meter plan (period ∷ []) = (meter.pending ≡ false) × (is_some period.switch ≡ true → is_some plan.after ≡ true)
IsSingle meter plan (period ∷ (next ∷ queued)) = ⊥

-- the times, at a moment, of a call that was answered at one and switched at another
abbrev pub times_at : ℕ → Option ℕ → ℕ → Elapsed
times_at answer None now = record { before = now - answer; after = 0; switched = false }
times_at answer (Some switch) now =
    if nat_le switch answer then record { before = 0; after = now - answer; switched = true }
    else record { before = switch - answer; after = now - switch; switched = true }

-- the times that the port keeps are those of the call at a moment by now; a switch that they don't have came no sooner
pub record KnowsTimes (meter : Meter) (times : Elapsed) : Type 0 where
  pub answer : ℕ
  pub switch : Option ℕ
  pub moment : ℕ
  pub was_answered : meter.answered ≡ Some answer
  pub behind : moment ≤ meter.last
  pub are : times ≡ times_at answer switch moment
  pub same_switch : (s : ℕ) → switch ≡ Some s → meter.switched ≡ Some s
  pub later_switch : (s : ℕ) → switch ≡ None → meter.switched ≡ Some s → moment ≤ s

-- the periods that the gsmSSF took and those queued are within what the port granted, and its times agree with the call
pub record IsCovered (meter : Meter) (queued : List Period) (kept : CallFacts) : Type 0 where
  pub plan : Rates
  pub is_plan : kept.plan ≡ Some plan
  pub covers : meter.granted + units_in queued ≤ kept.granted
  pub within_day : kept.granted ≤ DAY
  pub single : IsSingle meter plan queued
  pub agrees : (kept.times ≡ no_times) ⊎ KnowsTimes meter kept.times
  pub rated : meter.awaited ≡ true → is_some plan.after ≡ true
  pub unforfeited : kept.forfeited ≡ false

-- all that was granted was talked, and nothing is queued
pub record IsUsedUp (meter : Meter) (queued : List Period) (kept : CallFacts) : Type 0 where
  pub covered : IsCovered meter queued kept
  pub none_queued : queued ≡ []
  pub none_pending : meter.pending ≡ false
  pub all : kept.times.before + kept.times.after ≡ meter.granted

-- the first time was asked for: nothing was granted, taken or queued
pub record IsFreshCall (call : ℕ) (meter : Meter) (queued : List Period) (kept : CallFacts) (t : Conditions) (plan : Rates) (of : ℕ) : Type 0 where
  pub ours : of ≡ call
  pub its_call : t.call ≡ call
  pub its_plan : plan ≡ t.plan
  pub none_kept : kept ≡ nothing_known
  pub none_queued : queued ≡ []
  pub none_granted : meter.granted ≡ 0
  pub none_pending : meter.pending ≡ false
  pub none_awaited : meter.awaited ≡ false
  pub rated : is_some t.switch ≡ true → is_some t.plan.after ≡ true

-- a report is settled: it is accepted, and where the call goes on all that was granted was talked
pub record IsSettled (call : ℕ) (meter : Meter) (queued : List Period) (kept : CallFacts) (t : Conditions) (active : Bool) (of : ℕ) (info : TimeInfo) : Type 0 where
  pub ours : of ≡ call
  pub its_call : t.call ≡ call
  pub accepted : IsSome (accepted_times kept info)
  pub goes_on : active ≡ true → IsUsedUp meter queued (known_after kept (Reports info))

-- more time is asked for
pub record IsMore (call : ℕ) (meter : Meter) (queued : List Period) (kept : CallFacts) (t : Conditions) (of : ℕ) : Type 0 where
  pub ours : of ≡ call
  pub its_call : t.call ≡ call
  pub used_up : IsUsedUp meter queued kept

-- the port is asked this, in this phase
abbrev pub IsAsking : ℕ → Meter → List Period → CallFacts → Phase → Asked → Type 0
IsAsking call meter queued kept (FirstAsk t) (Reserves of plan wanted least moment) = IsFreshCall call meter queued kept t plan of
IsAsking call meter queued kept (Settling t active since) (Settles of number info) = IsSettled call meter queued kept t active of info
IsAsking call meter queued kept (MoreAsk t) (Reserves of plan wanted least moment) = IsMore call meter queued kept t of
IsAsking call meter queued kept (Returning after) (Returns of) = of ≡ call
IsAsking call meter queued kept phase asked = ⊥

-- nothing is asked. A call that was granted time is covered; no other is settled any more
abbrev pub IsResting : ℕ → Meter → List Period → CallFacts → Phase → Type 0
IsResting call meter queued kept (Running t) = (t.call ≡ call) × IsCovered meter queued kept
IsResting call meter queued kept phase = Unit {0}

-- what was said fits: the periods of the operations that are sent are queued
abbrev pub FitsMeter : ℕ → Meter → List Period → CallFacts → Phase → Says → Type 0
FitsMeter call meter queued kept phase (Asks asked) = IsAsking call meter queued kept phase asked
FitsMeter call meter queued kept phase (Sends orders) = IsResting call meter (queued ++ periods_in orders) kept phase
FitsMeter call meter queued kept phase Finished = IsResting call meter queued kept phase

-- the port keeps something of the call, and what was said fits it
pub record IsReadyCall (call : ℕ) (meter : Meter) (queued : List Period) (standing : Option CallFacts) (phase : Phase) (said : Says) : Type 0 where
  pub kept : CallFacts
  pub stands : standing ≡ Some kept
  pub fits : FitsMeter call meter queued kept phase said

-- the same while nothing is asked
abbrev pub IsAtRest : ℕ → Meter → List Period → Option CallFacts → Phase → Type 0
IsAtRest call meter queued standing phase = IsReadyCall call meter queued standing phase Finished
