use Rattle.run_texts.proofs.SectionLemmas.{too_many}
use Rattle.run_texts.proofs.input.divide.Goals as goal

pub returns-in-Some : goal.returns-in-Some
returns-in-Some c = too_many c.args.input.now _ _ _ _ _ _ c.in_ok-tariff.ensures.divided.sections c.in_ok-setup.ensures.divided.sections c.in-Some.ensures.divided.sections
