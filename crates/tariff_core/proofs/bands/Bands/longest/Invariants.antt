use Rattle.std.proofs.Common.{◌≤◌, ◌<◌, ℕ, get_or, length}
use Rattle.tariff_core.specs.Digits.{text_of_digits}
use Rattle.tariff_core.specs.declared.row.Row.{Row}
use Rattle.tariff_core.proofs.bands.Bands.longest.Given as goal

-- no prefix so far has more digits
abbrev pub invariant-loop-row : goal.invariant-loop-row
invariant-loop-row l =
    (l.longest ≤ 15) × ((k : ℕ) (d : Row) → k < l.row-index → length (text_of_digits (get_or l.row-items k d).prefix) ≤ l.longest)
