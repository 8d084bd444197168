use Rattle.price_core.proofs.CeilingLemmas.{attained, ceiling_covers}
use Rattle.price_core.proofs.laws.ceiling_is_greatest.Goals as goal

pub returns-clause-attained : goal.returns-clause-attained
returns-clause-attained c = λ plan old more stands. attained plan old more stands.times_are stands.rated

pub returns-clause-not_passed : goal.returns-clause-not_passed
returns-clause-not_passed c = λ plan old more new may. ceiling_covers plan old more new may
