use Rattle.part_laws.proofs.Apart.{accounts_apart}
use Rattle.part_laws.proofs.laws.accounts_dont_interfere.Goals as goal

pub returns : goal.returns
returns c = accounts_apart
