use Rattle.cap_values.specs.declared.arming.Point.TheVariants as point
use Rattle.ssf_core.specs.declared.item.BcsmEvent.TheVariants as met
use Rattle.ssf_core.specs.declared.ssf.Input.TheVariants.{Meet}
use Rattle.ssf_core.proofs.InputLemmas.{follows_after}
use Rattle.ssf_core.proofs.events.disconnect.Goals as goal

pub returns-clause-takes : goal.returns-clause-takes
returns-clause-takes c = rw c.in-Active.is
    (λ t m.
    rw (m.same_modes (point.Disconnect c.args.leg), ← c.mode_of-mode.ensures)
    (follows_after _ _ (c.send_last_report.ensures.items c.args.config.now.tccd t m) (c.by_mode.ensures.follows t (Meet (met.Disconnect c.args.leg)))))
