use Rattle.std.proofs.Common.{[], ap, ◌∙◌, ◌+◌}
use Rattle.cap_values.specs.Orders.{operations_in}
use Rattle.dialogue_core.specs.Views.{phase_of, says_of}
use Rattle.one_call.specs.declared.counts.Counts.{Counts}
use Rattle.one_call.proofs.Counting.{input_counts}
use Rattle.one_call.proofs.Hearing.{first_rests}
use Rattle.one_call.proofs.Starting.{begun_ready}
use Rattle.one_call.proofs.rounds.play.Goals as goal

pub inputs-init : goal.inputs-init
inputs-init g c = λ new.
    let (meter, (shows, unpaid)) = c.started-ssf.ensures.started in
    let ready = begun_ready c.args.call.0 c.args.start c.args.service.now.wanted c.args.service.now.least c.args.route meter (g.P.Port.state c.args.port.now c.args.call.0)
    (phase_of c.begin-turn.result.0) (says_of c.begin-turn.result.1) c.begin-turn.ensures new unpaid in
    record {
      none = c.converse-instructions.ensures.kept c.args.call.0 meter [] ready ∙ c.started-ssf.ensures.none;
      meter = meter;
      shows = shows;
      rests = first_rests c.args.call.0 (c.args.start + c.from-delay.result) c.args.call.0 meter c.new-deliveries.result.items c.send.new.deliveries.items (operations_in c.converse-instructions.result)
          (g.P.Port.state c.converse-instructions.new.port c.args.call.0) (phase_of c.converse-instructions.new.dialogue) c.new-deliveries.ensures.items c.in_ok-send.ensures.sent
          (c.converse-instructions.ensures.rests c.args.call.0 meter [] ready);
    }

pub inputs-preserved : goal.inputs-preserved
inputs-preserved g c = λ new.
    let inv = c.inputs.invariant new in
    let (handed, (queue, metered)) = c.step-step.ensures.metered in
    let (later, (shows, runs)) = metered inv.meter inv.shows in
    let rest = rw queue at inv.rests in
    let run = rw (← c.as_slice-sent.ensures.value) at runs in
    record {
      none = c.in_ok-hear_all.ensures.kept c.args.call.0 inv.meter later handed rest run
          ∙ (ap (λ (t : Counts). t.forfeits) c.with_input-counts.ensures ∙ (input_counts c.inputs.counts c.step-step.result.fault ∙ inv.none));
      meter = later;
      shows = shows;
      rests = c.in_ok-hear_all.ensures.rests c.args.call.0 inv.meter later handed rest run;
    }
