use Rattle.ssf_core.specs.declared.ssf.Input.TheVariants.{Meet}
use Rattle.ssf_core.proofs.MeterLemmas.{call_metered}
use Rattle.ssf_core.proofs.ssf.Ssf.event.Goals as goal

pub returns-clause-metered : goal.returns-clause-metered
returns-clause-metered c =
    call_metered c.args.self.now c.input.new.self c.args.now (Meet c.args.event) c.input.result.sent.items c.input.result.fault _ c.input.ensures.backwards c.input.ensures.trace
