use Rattle.std.proofs.Common.{◌≡◌, ◌∙◌, ◌+◌, Bool, false, length, refl, sym}
use Rattle.std.specs.Prelude.{◌==◌, ◌||◌}
use Rattle.std.specs.List.{list_any}
use Rattle.tariff_core.specs.Digits.{text_of_digits}
use Rattle.tariff_core.proofs.row.Row.counts_on.Goals as goal

or_else : (a b : Bool) → a ≡ false → b ≡ (a || b)
or_else a b is = rw is refl

pub returns-else-is_empty : goal.returns-else-is_empty
returns-else-is_empty c =
    let days = text_of_digits c.args.self.now.days in
    let found = rw c.digits-days.ensures at c.contains.ensures.value in
    let empty = rw c.digits-days.ensures at c.is_empty.ensures in
    found ∙ or_else (length days == 0) (list_any (λ digit. digit == 48 + c.args.day) days) (sym empty ∙ c.if-is_empty.false)
