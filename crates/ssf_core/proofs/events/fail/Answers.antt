use Rattle.ssf_core.proofs.events.fail.Goals as goal

pub returns-clause-takes : goal.returns-clause-takes
returns-clause-takes c = rw c.in-Early.is
    (λ t input m. rw (m.same_modes c.args.point, ← c.mode_of.ensures) (c.by_mode.ensures.follows t input))
