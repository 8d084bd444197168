use Rattle.prepaid.proofs.program.write_refusals.Goals as goal

pub returns-in-Ok : goal.returns-in-Ok
returns-in-Ok g c = rw (c.as_bytes.ensures.value, c.as_str.ensures.value, c.in-Ok.ensures) at c.write_both.ensures
