use Rattle.run_texts.proofs.FieldLemmas.{no_party}
use Rattle.run_texts.proofs.fields.party.Goals as goal

pub returns-in_default : goal.returns-in_default
returns-in_default c = no_party c.args.field.now c.in_default.ensures.cases.0
