use Rattle.account_core.proofs.FittingAnswers.{kindly}
use Rattle.account_core.proofs.laws.answers_fit_their_operations.Goals as goal

pub returns : goal.returns
returns c = kindly c.tariff_laws.ensures
