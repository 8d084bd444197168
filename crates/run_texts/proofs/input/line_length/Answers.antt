use Rattle.run_texts.proofs.SectionLemmas.{ended_line, last_line}
use Rattle.run_texts.proofs.input.line_length.Goals as goal

pub returns-in-Some-clause-line : goal.returns-in-Some-clause-line
returns-in-Some-clause-line c = ended_line c.args.text.now c.in-Some.place c.in-Some.ensures

pub returns-in-None-clause-line : goal.returns-in-None-clause-line
returns-in-None-clause-line c = last_line c.args.text.now c.requires c.in-None.ensures
