use Rattle.tariff_core.proofs.TableLemmas.{steps_of_rows}
use Rattle.tariff_core.proofs.bands.Bands.have_steps.Goals as goal

pub returns : goal.returns
returns c = rw (← c.self.view_is) (rw (c.any_has_steps.ensures, c.as_slice.ensures.value) (steps_of_rows c.self.inside.rows.items))
