use Rattle.std.proofs.Common.{◌≤◌, ◌+◌, ℕ, List, length}
use Rattle.ssf_core.specs.Happenings.{Happening}
use Rattle.ssf_core.specs.Running.{Runs}
use Rattle.ssf_core.specs.Stages.{IsTimelyStage, expiries_left, items_left}
use Rattle.ssf_core.proofs.timers.run_timers.Given as goal

abbrev pub invariant-loop-expiry : goal.invariant-loop-expiry
invariant-loop-expiry l = record {
  clock : ℕ;
  behind : clock ≤ l.now;
  timely : IsTimelyStage clock l.stage;
  room : length l.sent.items + items_left l.stage ≤ 3;
  traced : (t : List Happening) → Runs l.config l.last l.initial.stage t clock l.stage l.sent.items;
}

abbrev pub decreases-loop-expiry : goal.decreases-loop-expiry
decreases-loop-expiry l = expiries_left l.stage
