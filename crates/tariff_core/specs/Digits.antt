-- What a few digits of the code say.
use Rattle.std.specs.Prelude.{ℕ, List, take}
use Rattle.tariff_core.specs.declared.digits.Digits.{Digits}

-- the text of the digits
abbrev pub text_of_digits : Digits → List ℕ
text_of_digits digits = take digits.len digits.bytes
