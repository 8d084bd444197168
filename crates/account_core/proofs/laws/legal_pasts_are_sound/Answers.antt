use Rattle.account_core.proofs.Fitting.{answers_fit}
use Rattle.account_core.proofs.SoundPasts.{legal_is_sound}
use Rattle.account_core.proofs.laws.legal_pasts_are_sound.Goals as goal

pub returns : goal.returns
returns c = record { sound = legal_is_sound c.tariff_laws.ensures; fitting = answers_fit c.tariff_laws.ensures }
