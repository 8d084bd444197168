use Rattle.script_player.proofs.InputLemmas.{given_by}
use Rattle.script_player.proofs.TraceLemmas.{goes_by}
use Rattle.script_player.specs.declared.network.Input.TheVariants as input
use Rattle.script_player.proofs.network.step.Goals as goal

pub returns-in-Operate : goal.returns-in-Operate
returns-in-Operate c = record {
  goes_on = goes_by c.args.ssf.now c.operation.new.self c.args.now c.operation.result.sent.items c.operation.result.fault c.requires c.operation.ensures.backwards c.operation.ensures.moment
      (λ late t stands. let took = c.operation.ensures.trace late t stands in (_, (took.stands, took.sends)));
  given = rw c.in-Operate.is (given_by c.args.ssf.now c.operation.new.self c.args.now (input.Operate c.in-Operate.op) c.operation.result.sent.items c.operation.result.fault
      c.operation.ensures.backwards c.operation.ensures.moment c.operation.ensures.trace);
}

pub returns-in-Meet : goal.returns-in-Meet
returns-in-Meet c = record {
  goes_on = goes_by c.args.ssf.now c.event.new.self c.args.now c.event.result.sent.items c.event.result.fault c.requires c.event.ensures.backwards c.event.ensures.moment
      (λ late t stands. let took = c.event.ensures.trace late t stands in (_, (took.stands, took.sends)));
  given = rw c.in-Meet.is (given_by c.args.ssf.now c.event.new.self c.args.now (input.Meet c.in-Meet.event) c.event.result.sent.items c.event.result.fault
      c.event.ensures.backwards c.event.ensures.moment c.event.ensures.trace);
}

pub returns-in-Wait : goal.returns-in-Wait
returns-in-Wait c =
    record {
      goes_on = goes_by c.args.ssf.now c.advance.new.self c.args.now c.advance.result.sent.items c.advance.result.fault c.requires c.advance.ensures.backwards
          (λ late. let moment = c.advance.ensures.moment late in (moment.0, moment.1))
          (λ late t stands. let went = c.advance.ensures.trace late t stands in (went.timed, (went.stands, went.sends)));
      given = rw c.in-Wait.is (given_by c.args.ssf.now c.advance.new.self c.args.now input.Wait c.advance.result.sent.items c.advance.result.fault c.advance.ensures.backwards
          (λ late. let moment = c.advance.ensures.moment late in (moment.0, moment.1))
          (λ late t stands. (c.advance.ensures.trace late t stands, (c.advance.ensures.moment late).2)));
    }
