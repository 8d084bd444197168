-- The meaning of a reports table: times that follow one another lawfully, or the first fault.
use Rattle.std.specs.Prelude.{◌≡◌, ℕ, true, List, [], ◌∷◌, Result, Ok, Err, ⊤, if◌then◌else◌, nat_lt, codes}
use Rattle.table_core.specs.Fields.{number_in}
use Rattle.table_core.specs.Judging.{adds, and_then}
use Rattle.table_core.specs.Tables.{TableForm, table_form, table_of}
use Rattle.table_core.specs.declared.fault.RowFault.{RowFault}
use Rattle.table_core.specs.declared.fault.RowKind.{RowKind}
use Rattle.table_core.specs.declared.fault.RowKind.TheVariants as kind
use Rattle.price_core.specs.Lawful.{is_lawful}
use Rattle.price_core.specs.Rates.{Rates}
use Rattle.price_core.specs.Times.{Elapsed, no_times}
use Rattle.price_core.specs.declared.times.TheConstants.{DAY}

-- times as reported: a time after the switch means that there was one
abbrev pub times_reported : ℕ → ℕ → Elapsed
times_reported first second = record { before = first; after = second; switched = nat_lt 0 second }

-- the times, where a call that may talk a day may report them after the last
abbrev pub judged_report : Rates → Elapsed → Elapsed → Result Elapsed RowKind
judged_report plan last times = if is_lawful plan last times DAY then Ok times else Err kind.Order

-- the report in a row of two fields, after the times before it
abbrev pub report_row_in : Rates → Elapsed → List (List ℕ) → Result Elapsed RowKind
report_row_in plan last fields =
    and_then (number_in fields 0 DAY) (λ first. and_then (number_in fields 1 DAY) (λ second. judged_report plan last (times_reported first second)))

-- the times of the last report, and those before the first one
unfoldable pub last_times_after : Elapsed → List Elapsed → Elapsed
last_times_after last [] = last
last_times_after last (times ∷ rest) = last_times_after times rest

-- `before,after`, and 10,000 rows at most; each row is a report after the ones before it
abbrev pub reports_form : Rates → TableForm (List Elapsed) RowKind RowFault
reports_form plan =
    table_form ((codes "before" ∷ codes "after" ∷ []) ∷ []) 10000 [] (λ header. adds (λ reports. report_row_in plan (last_times_after no_times reports)))

-- the reports of a table
abbrev pub table_reports_of : Rates → List (List (List ℕ)) → Result (List Elapsed) RowFault
table_reports_of plan rows = table_of (reports_form plan) rows

-- each of the times is lawful after the one before it
unfoldable pub AreInOrder : Rates → Elapsed → List Elapsed → Type 0
AreInOrder plan last [] = ⊤
AreInOrder plan last (times ∷ rest) = (is_lawful plan last times DAY ≡ true) × AreInOrder plan times rest
