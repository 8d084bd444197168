use Rattle.std.proofs.Common.{◌≤◌, [], ◌∙◌, arith, refl}
use Rattle.ssf_core.specs.Happenings.{Took}
use Rattle.script_player.proofs.StartLemmas.{has_begun}
use Rattle.script_player.proofs.network.begin.Goals as goal

pub returns : goal.returns
returns c =
    let fresh : c.new-ssf.result.last ≤ c.args.now = omega (arith, c.new-ssf.ensures.last) in
    let invoked = c.invoke-sent.ensures.moment fresh in
    let ready : c.invoke-sent.new.self.last ≤ c.args.now = omega (arith, invoked.0) in
    has_begun c.args.config c.new-ssf.result c.invoke-sent.new.self c.trigger-sent.new.self c.args.now c.args.call c.args.calling c.args.called c.invoke-sent.result.sent.items c.trigger-sent.result.sent.items
    c.invoke-sent.result.fault c.trigger-sent.result.fault (Took _) (Took _) ((c.trigger-sent.ensures.moment ready).1 ∙ invoked.1 ∙ c.new-ssf.ensures.config) (c.trigger-sent.ensures.moment ready).0
    (c.invoke-sent.ensures.trace fresh [] c.new-ssf.ensures.stands) refl (c.trigger-sent.ensures.trace ready) (λ trace. refl) refl refl
