-- The fields of a row: how many there are, and the number of a party, which is text.
use Rattle.std.proofs.Common.{◌≡◌, ℕ, Bool, true, false, List, Ok, Err, refl}
use Rattle.std.specs.Prelude.{if◌then◌else◌}
use Rattle.std.specs.Str.{IsUtf8}
use Rattle.std.proofs.lemmas.Str.{IsUtf8-from_ascii}
use Rattle.cap_values.proofs.AsciiDigits.{number_ascii}
use Rattle.cap_values.specs.Numbers.{is_number}
use Rattle.table_core.specs.declared.fault.RowKind.TheVariants as kind
use Rattle.run_texts.specs.Setups.{party_in_field}

by_test : (b : Bool) (text : List ℕ) → is_number text ≡ b → (IsUtf8 text → ⊥) → Err kind.Number ≡ (if b then Ok text else Err kind.Number)
by_test true text is not_text =
    absurd (not_text (IsUtf8-from_ascii text (number_ascii text is)))
by_test false text is not_text = refl

-- what isn't text isn't the number of a party
pub no_party : (field : List ℕ) → (IsUtf8 field → ⊥) → Err kind.Number ≡ party_in_field field
no_party field not_text = by_test _ field refl not_text
