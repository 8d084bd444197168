use Rattle.ssf_core.specs.declared.ssf.Input.TheVariants.{Operate}
use Rattle.ssf_core.proofs.MeterLemmas.{call_metered}
use Rattle.ssf_core.proofs.ssf.Ssf.operation.Goals as goal

pub returns-clause-metered : goal.returns-clause-metered
returns-clause-metered c =
    call_metered c.args.self.now c.input.new.self c.args.now (Operate c.args.op) c.input.result.sent.items c.input.result.fault _ c.input.ensures.backwards c.input.ensures.trace
