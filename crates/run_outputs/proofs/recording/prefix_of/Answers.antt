use Rattle.run_outputs.proofs.recording.prefix_of.Goals as goal

pub returns-in_default : goal.returns-in_default
returns-in_default c = rw c.as_bytes.ensures at c.in_default.ensures.none
