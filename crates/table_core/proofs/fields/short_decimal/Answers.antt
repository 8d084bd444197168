use Rattle.std.proofs.Common.{◌≡◌, true, get_or, rules, arith}
use Rattle.std.specs.Char.{is_ascii_digit}
use Rattle.table_core.proofs.DecimalLemmas.{digits_more, value_more_by, short_powers}
use Rattle.table_core.proofs.fields.short_decimal.Goals as goal

pub overflow_mul-number : goal.overflow_mul-number
overflow_mul-number c = omega (arith, c.loop-byte.invariant.2, (short_powers c.loop-byte.byte-index (omega (arith, c.requires.short))).0)

pub overflow_add-number : goal.overflow_add-number
overflow_add-number c =
    let is_digit : is_ascii_digit (get_or c.args.text.now c.loop-byte.byte-index 0) ≡ true = search rules in
    let (value, below) = value_more_by c.args.text.now c.loop-byte.byte-index c.loop-byte.number c.loop-byte-test.true is_digit c.loop-byte.invariant.1 c.loop-byte.invariant.2 in
    omega (arith, c.from.ensures, below, (short_powers c.loop-byte.byte-index (omega (arith, c.requires.short))).1)

pub loop-byte-preserved : goal.loop-byte-preserved
loop-byte-preserved c =
    let is_digit : is_ascii_digit (get_or c.args.text.now c.loop-byte.byte-index 0) ≡ true = search rules in
    let (value, below) = value_more_by c.args.text.now c.loop-byte.byte-index c.loop-byte.number c.loop-byte-test.true is_digit c.loop-byte.invariant.1 c.loop-byte.invariant.2 in (
      digits_more c.args.text.now c.loop-byte.byte-index c.loop-byte.number c.loop-byte-test.true c.loop-byte.invariant.0 is_digit,
      rw c.from.ensures value,
      rw c.from.ensures below,
    )
