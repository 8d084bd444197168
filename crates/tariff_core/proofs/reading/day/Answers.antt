use Rattle.std.proofs.Common.{◌≡◌, ◌-◌, ◌∙◌, List, ℕ, arith, drop, length, refl, sym, take}
use Rattle.std.proofs.lemmas.List.{length-drop, take_all}
use Rattle.std.specs.Prelude.{slice_index}
use Rattle.table_core.specs.Decimals.{decimal_of}
use Rattle.tariff_core.specs.Reading.{day_by, day_of}
use Rattle.tariff_core.proofs.reading.day.Goals as goal

-- what is read of a text of this length, with its two signs
written : (text : List ℕ) → length text ≡ 10 → slice_index text 4 ≡ 45 → slice_index text 7 ≡ 45
    → day_of text ≡ day_by (decimal_of 9999 (take 4 text)) (decimal_of 12 (take 2 (drop 5 text)))
    (decimal_of 31 (take (length text - 8) (drop 8 text)))
unfolding day_of
written text long first second =
    let all = take_all (length text - 8) (drop 8 text) (omega (arith, length-drop 8 text)) in
    rw all (rw (long, first, second) refl)

pub returns-in_err-year-clause-value : goal.returns-in_err-year-clause-value
returns-in_err-year-clause-value c =
    let text = c.args.text.now in
    let is = written text c.if-text-ne10.false c.if-text-ne45.false c.if-text-ne45-2.false in
    rw (is, sym c.decimal.ensures.value ∙ c.in_err-year.was) c.from_residual.ensures

pub returns-in_err-month-clause-value : goal.returns-in_err-month-clause-value
returns-in_err-month-clause-value c =
    let text = c.args.text.now in
    let is = written text c.if-text-ne10.false c.if-text-ne45.false c.if-text-ne45-2.false in
    let year = sym c.decimal.ensures.value ∙ c.in_ok-year.was in
    let month = sym c.decimal-2.ensures.value ∙ c.in_err-month.was in
    rw (is, year, month) c.from_residual-in_err-month.ensures

pub returns-in_err-day-clause-value : goal.returns-in_err-day-clause-value
returns-in_err-day-clause-value c =
    let text = c.args.text.now in
    let is = written text c.if-text-ne10.false c.if-text-ne45.false c.if-text-ne45-2.false in
    let year = sym c.decimal.ensures.value ∙ c.in_ok-year.was in
    let month = sym c.decimal-2.ensures.value ∙ c.in_ok-month.was in
    let day = sym c.decimal-3.ensures.value ∙ c.in_err-day.was in
    rw (is, year, month, day) c.from_residual-in_err-day.ensures

pub returns-clause-value : goal.returns-clause-value
returns-clause-value c =
    let text = c.args.text.now in
    let is = written text c.if-text-ne10.false c.if-text-ne45.false c.if-text-ne45-2.false in
    let year = sym c.decimal.ensures.value ∙ c.in_ok-year.was in
    let month = sym c.decimal-2.ensures.value ∙ c.in_ok-month.was in
    let day = sym c.decimal-3.ensures.value ∙ c.in_ok-day.was in
    rw (is, year, month, day) c.day_number.ensures.value
