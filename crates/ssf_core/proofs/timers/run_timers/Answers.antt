use Rattle.std.proofs.Common.{◌∙◌, sym, arith}
use Rattle.ssf_core.proofs.ExpiryLemmas.{fires, runs_later, runs_more, runs_none}
use Rattle.ssf_core.proofs.TimerLemmas.{few_left, quiet_by, timely_later}
use Rattle.ssf_core.proofs.timers.run_timers.Goals as goal

pub loop-expiry-init : goal.loop-expiry-init
loop-expiry-init c = record {
  clock = c.args.last;
  behind = c.requires.last;
  timely = c.requires.timely;
  room = let few = few_left c.args.stage in rw c.requires.empty (omega (arith, few));
  traced = λ t stands. rw c.requires.empty (runs_none c.args.config.now t c.args.last c.args.stage stands);
}

pub expire-stage-requires-clause-moment : goal.expire-stage-requires-clause-moment
expire-stage-requires-clause-moment c =
    let fire = fires c.loop-expiry.invariant.clock c.args.now c.loop-expiry.stage c.in-Some.expiry c.loop-expiry.invariant.timely (sym c.in-Some.ensures) in
    omega (arith, fire.by_now, c.requires.moment)

pub expire-stage-requires-clause-timely : goal.expire-stage-requires-clause-timely
expire-stage-requires-clause-timely c = (fires c.loop-expiry.invariant.clock c.args.now c.loop-expiry.stage c.in-Some.expiry c.loop-expiry.invariant.timely (sym c.in-Some.ensures)).timely

pub expire-stage-requires-clause-due : goal.expire-stage-requires-clause-due
expire-stage-requires-clause-due c = (fires c.loop-expiry.invariant.clock c.args.now c.loop-expiry.stage c.in-Some.expiry c.loop-expiry.invariant.timely (sym c.in-Some.ensures)).is_due

pub loop-expiry-preserved : goal.loop-expiry-preserved
loop-expiry-preserved c =
    let s = c.loop-expiry.stage in
    let e = c.in-Some.expiry in
    let invariant = c.loop-expiry.invariant in
    let fire = fires invariant.clock c.args.now s e invariant.timely (sym c.in-Some.ensures) in
    record {
      clock = e.due;
      behind = fire.by_now;
      timely = c.expire-stage.ensures.timely;
      room = let left = c.expire-stage.ensures.room in let before = invariant.room in omega arith;
      traced = λ t stands.
          runs_more c.args.config.now t invariant.clock s c.expire-stage.result c.loop-expiry.sent.items c.expire-stage.new.sent.items e invariant.timely fire.is_next
          c.expire-stage.ensures.expires (invariant.traced t stands);
    }

pub returns-clause-quiet : goal.returns-clause-quiet
returns-clause-quiet c = quiet_by c.args.now c.loop-expiry.stage (sym c.next_expiry_by.ensures ∙ c.in_default.is)

pub returns-clause-timely : goal.returns-clause-timely
returns-clause-timely c =
    timely_later c.loop-expiry.invariant.clock c.args.now c.loop-expiry.stage c.loop-expiry.invariant.timely c.loop-expiry.invariant.behind
    (λ timer d due. let later = quiet_by c.args.now c.loop-expiry.stage (sym c.next_expiry_by.ensures ∙ c.in_default.is) timer d due in omega arith)

pub returns-clause-traced : goal.returns-clause-traced
returns-clause-traced c = λ t stands.
    runs_later c.args.config.now t c.loop-expiry.invariant.clock c.args.now c.loop-expiry.stage c.loop-expiry.sent.items c.loop-expiry.invariant.behind
    (c.loop-expiry.invariant.traced t stands)
