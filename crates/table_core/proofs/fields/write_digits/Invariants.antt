use Rattle.std.proofs.Common.{◌≡◌, ◌++◌, string_bytes, take}
use Rattle.table_core.specs.Decimals.{digits_text}
use Rattle.table_core.proofs.fields.write_digits.Given as goal

-- the digits so far are behind the text
abbrev pub invariant-loop-digit : goal.invariant-loop-digit
invariant-loop-digit l = string_bytes l.text ≡ string_bytes l.fn.text ++ digits_text (take l.digit-index l.digits)
