-- The lines so far and those of the reports that are left are the lines of all.
use Rattle.std.proofs.Common.{◌≡◌, ℕ, ◌+◌, ◌-◌, ◌<◌, ◌≤◌, true, List, ◌∷◌, ◌++◌, length, get_or, drop, refl, sym, ap, ◌∙◌, append_assoc, arith, codes}
use Rattle.std.proofs.lemmas.List.{drop_all, drop_more}
use Rattle.std.specs.Fmt.{decimal}
use Rattle.price_core.specs.Lawful.{is_lawful}
use Rattle.price_core.specs.Price.{price_at}
use Rattle.price_core.specs.Rates.{Rates}
use Rattle.price_core.specs.Times.{Elapsed}
use Rattle.table_commands.specs.PriceLines.{price_lines, total_line}
use Rattle.table_commands.specs.Reports.{AreInOrder}

next_report : (reports : List Elapsed) (i : ℕ) (times : Elapsed) → i < length reports → times ≡ get_or reports i times → drop i reports ≡ times ∷ drop (i + 1) reports
next_report reports i times within is = drop_more reports i times within ∙ ap (λ t. t ∷ drop (i + 1) reports) (sym is)

-- the next report is lawful after the last, and those behind it are in order
pub next_in_order : (plan : Rates) (last times : Elapsed) (reports : List Elapsed) (i : ℕ) → i < length reports → times ≡ get_or reports i times
    → AreInOrder plan last (drop i reports) → (is_lawful plan last times 864000 ≡ true) × AreInOrder plan times (drop (i + 1) reports)
unfolding AreInOrder
next_in_order plan last times reports i within is order = rw (next_report reports i times within is) at order

pub line_printed : (plan : Rates) (total debit : ℕ) (times : Elapsed) (reports : List Elapsed) (i : ℕ) (all text : List ℕ) → i < length reports → times ≡ get_or reports i times
    → total + debit ≡ price_at plan times → all ≡ text ++ price_lines plan total (drop i reports)
    → all ≡ (text ++ (codes "debit " ++ (decimal debit ++ (codes " total " ++ (decimal (total + debit) ++ codes "\n"))))) ++ price_lines plan (total + debit) (drop (i + 1) reports)
unfolding price_lines
line_printed plan total debit times reports i all text within is adds so_far =
    let grown : price_at plan times - total ≡ debit = omega arith in
    so_far ∙ rw (next_report reports i times within is, adds, grown) (sym (append_assoc text _ _))

pub total_printed : (plan : Rates) (total : ℕ) (reports : List Elapsed) (i : ℕ) (all text : List ℕ) → length reports ≤ i
    → all ≡ text ++ price_lines plan total (drop i reports) → text ++ total_line total ≡ all
unfolding price_lines
total_printed plan total reports i all text done so_far = sym (so_far ∙ rw (drop_all i reports done) refl)
