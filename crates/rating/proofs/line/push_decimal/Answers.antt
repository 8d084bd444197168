use Rattle.std.proofs.Common.{◌∙◌, arith}
use Rattle.rating.proofs.LineLemmas.{appended, decimal_cell}
use Rattle.rating.proofs.line.push_decimal.Goals as goal

pub returns : goal.returns
returns c = appended c.extend_from_slice.result _ _ _ _ c.extend_from_slice.ensures.items
    (c.as_bytes.ensures.value ∙ c.format.ensures.text ∙ decimal_cell c.args.number (omega (arith, c.ranges.number.fits)))
