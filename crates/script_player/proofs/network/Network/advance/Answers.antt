use Rattle.std.proofs.Common.{refl}
use Rattle.script_player.proofs.CallItems.{grows_on}
use Rattle.script_player.proofs.TimerLemmas.{runs_timers, waited_more, waited_none}
use Rattle.script_player.proofs.network.Network.advance.Goals as goal

pub loop-call-init : goal.loop-call-init
loop-call-init c =
    waited_none c.args.now c.args.self.now c.into_iter-call-iterator.result c.into_iter-call-iterator.result refl
    (rw (c.into_iter-call-iterator.ensures.into_iter_gives, c.iter-call-items.ensures.rest) c.in_ok-due.ensures)

pub returns-in_err-give-clause-grows : goal.returns-in_err-give-clause-grows
returns-in_err-give-clause-grows c = grows_on c.args.self.now c.loop-call.self c.give.new.self c.loop-call.invariant.grows c.give.ensures.grows

pub loop-call-preserved : goal.loop-call-preserved
loop-call-preserved c =
    waited_more c.args.now c.in-Some.call.now c.args.self.now c.loop-call.self c.give.new.self c.into_iter-call-iterator.result c.loop-call.call-iterator c.next.new.self c.loop-call.invariant
    c.in-Some.ensures.steps c.give.ensures.grows c.in_ok-give.ensures.gives.gives (c.in_ok-give.ensures.waited refl)

pub returns-clause-runs : goal.returns-clause-runs
returns-clause-runs c =
    runs_timers c.args.now c.args.self.now c.loop-call.self c.into_iter-call-iterator.result c.loop-call.call-iterator c.loop-call.invariant c.in-None.ensures.steps.0
    (rw (c.into_iter-call-iterator.ensures.into_iter_gives, c.iter-call-items.ensures.rest) c.iter-call-items.ensures.ordered)
    (rw (c.into_iter-call-iterator.ensures.into_iter_gives, c.iter-call-items.ensures.rest) c.in_ok-due.ensures)
