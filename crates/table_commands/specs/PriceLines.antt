-- The lines that `price` prints.
use Rattle.std.specs.Prelude.{◌-◌, ℕ, List, [], ◌∷◌, ◌++◌, codes}
use Rattle.std.specs.Fmt.{decimal}
use Rattle.price_core.specs.Price.{price_at}
use Rattle.price_core.specs.Rates.{Rates}
use Rattle.price_core.specs.Times.{Elapsed}

-- `debit D total T`, T being the price so far and D what it grew by
abbrev pub debit_line : ℕ → ℕ → List ℕ
debit_line last total = codes "debit " ++ (decimal (total - last) ++ (codes " total " ++ (decimal total ++ codes "\n")))

-- `total T`
abbrev pub total_line : ℕ → List ℕ
total_line total = codes "total " ++ (decimal total ++ codes "\n")

-- a line for each report, where `last` was the price before it, and the total
unfoldable pub price_lines : Rates → ℕ → List Elapsed → List ℕ
price_lines plan last [] = total_line last
price_lines plan last (times ∷ rest) = debit_line last (price_at plan times) ++ price_lines plan (price_at plan times) rest
