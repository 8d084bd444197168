use Rattle.tariff_core.proofs.ReadBack.{moments_plain, moments_read}
use Rattle.tariff_core.proofs.laws.printed_moments_are_read.Goals as goal

pub returns-clause-read : goal.returns-clause-read
returns-clause-read c = moments_read c.printed_decimals_are_read.ensures.read

pub returns-clause-plain : goal.returns-clause-plain
returns-clause-plain c = moments_plain c.printed_decimals_are_read.ensures.plain
