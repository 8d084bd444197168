use Rattle.std.proofs.Common.{◌∙◌, ap, refl}
use Rattle.table_core.proofs.FieldLemmas.{found_or_none}
use Rattle.table_core.proofs.fields.field.Goals as goal

pub returns : goal.returns
returns c = ap (λ s. s.now) c.unwrap_or.ensures ∙ found_or_none (λ s. s.now) c.get.result _ _ c.args.place refl c.get.ensures.value
