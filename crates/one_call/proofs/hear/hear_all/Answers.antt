use Rattle.std.proofs.Common.{◌++◌, ◌∙◌, arith, ◌≡◌, length}
use Rattle.std.proofs.Math.Seq.{drop-length}
use Rattle.dialogue_core.specs.Views.{phase_of}
use Rattle.one_call.specs.Deliveries.{queued_in}
use Rattle.one_call.proofs.Hearing.{rest_ends, rest_later, run_next}
use Rattle.one_call.proofs.Orders.{both_sent}
use Rattle.one_call.proofs.hear.hear_all.Goals as goal

pub loop-out-preserved : goal.loop-out-preserved
loop-out-preserved g c = record {
  kept = λ call meter after handed rest runs.
      let now = c.loop-out.invariant.rests call meter after handed rest runs in
      let next = run_next handed now.0 after c.args.sent.now c.loop-out.out-index c.out-item.result c.loop-out-test.true c.out-item.is now.1.1 in
      c.in_ok-hear_one.ensures.kept call c.out-item.result.at next.0 next.1.1.0 handed
      (rest_later call now.0 next.0 (handed ++ queued_in c.loop-out.deliveries.items) (g.P.Port.state c.loop-out.port call) (phase_of c.loop-out.dialogue) next.1.0 now.1.0)
      next.1.1.1.0
      ∙ c.loop-out.invariant.kept call meter after handed rest runs;
  rests = λ call meter after handed rest runs.
      let now = c.loop-out.invariant.rests call meter after handed rest runs in
      let next = run_next handed now.0 after c.args.sent.now c.loop-out.out-index c.out-item.result c.loop-out-test.true c.out-item.is now.1.1 in (
        next.1.1.0,
        (
          c.in_ok-hear_one.ensures.rests call c.out-item.result.at next.0 next.1.1.0 handed
              (rest_later call now.0 next.0 (handed ++ queued_in c.loop-out.deliveries.items) (g.P.Port.state c.loop-out.port call) (phase_of c.loop-out.dialogue) next.1.0 now.1.0)
              next.1.1.1.0,
          next.1.1.1.1,
        ),
      );
  sent = both_sent c.args.due c.args.to c.args.deliveries.now.items c.loop-out.deliveries.items c.hear_one.new.deliveries.items c.loop-out.invariant.sent c.in_ok-hear_one.ensures.sent;
}

pub returns-clause-rests : goal.returns-clause-rests
returns-clause-rests g c = λ call meter after handed rest runs.
    let now = c.loop-out.invariant.rests call meter after handed rest runs in
    let ended : c.loop-out.out-index ≡ length c.args.sent.now = omega (arith, c.loop-out-test.false, c.loop-out.auto.out-index-end) in
    rest_ends call handed (queued_in c.loop-out.deliveries.items) now.0 after (g.P.Port.state c.loop-out.port call) (phase_of c.loop-out.dialogue)
    (rw (ended, drop-length c.args.sent.now) at now.1.1) now.1.0
