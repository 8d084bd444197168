use Rattle.std.proofs.Common.{arith}
use Rattle.rating.proofs.LineLemmas.{minus, then_to}
use Rattle.rating.proofs.line.push_negative.Goals as goal

pub returns : goal.returns
returns c = then_to c.push_decimal.result _ _ _ (rw c.in_ok-extend_from_slice.ensures.items at c.push_decimal.ensures) (minus c.args.text.now.items c.args.number (omega (arith, c.ranges.number.fits)))
