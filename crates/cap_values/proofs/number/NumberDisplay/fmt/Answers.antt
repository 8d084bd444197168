use Rattle.std.proofs.lemmas.Str.{IsUtf8-from_ascii}
use Rattle.cap_values.specs.NumberDigits.{digits_of_number}
use Rattle.cap_values.proofs.AsciiDigits.{number_ascii}
use Rattle.cap_values.proofs.number.NumberDisplay.fmt.Goals as goal

pub unreachable-requires : goal.unreachable-requires
unreachable-requires g c =
    let digits = digits_of_number c.args.self.now in
    c.in-Err.ensures.cases.0 (rw c.as_bytes.ensures (IsUtf8-from_ascii digits (number_ascii digits c.args.self.now.in_range)))
