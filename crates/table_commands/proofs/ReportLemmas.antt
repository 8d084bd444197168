-- Each report of a table is lawful after the one before it.
use Rattle.std.proofs.Common.{◌≡◌, ℕ, Bool, true, false, List, [], ◌∷◌, ◌++◌, Result, Ok, Err, refl}
use Rattle.std.specs.Prelude.{if◌then◌else◌}
use Rattle.table_core.specs.Fields.{number_in}
use Rattle.table_core.specs.Judging.{and_then}
use Rattle.table_core.specs.Rows.{Fields}
use Rattle.table_core.specs.declared.fault.RowKind.{RowKind}
use Rattle.table_core.specs.declared.fault.RowKind.TheVariants as kind
use Rattle.table_core.proofs.TableLemmas.{table_keeps}
use Rattle.price_core.specs.Lawful.{is_lawful}
use Rattle.price_core.specs.Rates.{Rates}
use Rattle.price_core.specs.Times.{Elapsed, no_times}
use Rattle.table_commands.specs.Reports.{AreInOrder, judged_report, last_times_after, report_row_in, times_reported, reports_form, table_reports_of}

-- ---- one more report

-- before the first report
pub none_reported : (plan : Rates) (times : List Elapsed) → times ≡ [] → (plan ≡ plan) × (times ≡ []) × (no_times ≡ last_times_after no_times [])
unfolding last_times_after
none_reported plan times none = (refl, none, refl)

pub last_more : (last : Elapsed) (reports : List Elapsed) (times : Elapsed) → last_times_after last (reports ++ times ∷ []) ≡ times
unfolding last_times_after
last_more last [] times = refl
last_more last (first ∷ reports) times = last_more first reports times

order_more : (plan : Rates) (last : Elapsed) (reports : List Elapsed) (times : Elapsed) → is_lawful plan (last_times_after last reports) times 864000 ≡ true
    → AreInOrder plan last reports → AreInOrder plan last (reports ++ times ∷ [])
unfolding last_times_after AreInOrder
order_more plan last [] times lawful order = (lawful, tt)
order_more plan last (first ∷ reports) times lawful order = (order.0, order_more plan first reports times lawful order.1)

-- ---- a row that is a report is lawful

judged_lawful : (plan : Rates) (last times given : Elapsed) (b : Bool) → is_lawful plan last given 864000 ≡ b
    → (if b then Ok given else Err kind.Order) ≡ Ok times → is_lawful plan last times 864000 ≡ true
judged_lawful plan last times given true lawful is = let same : given ≡ times = cc in rw (← same) lawful
judged_lawful plan last times given false lawful is = cc

numbers_read : (plan : Rates) (last times : Elapsed) (first second : Result ℕ RowKind)
    → and_then first (λ b. and_then second (λ a. judged_report plan last (times_reported b a))) ≡ Ok times → is_lawful plan last times 864000 ≡ true
numbers_read plan last times (Ok b) (Ok a) is = judged_lawful plan last times (times_reported b a) _ refl is
numbers_read plan last times (Ok b) (Err why) is = cc
numbers_read plan last times (Err why) second is = cc

row_keeps : (plan : Rates) (read next : List Elapsed) (row : Result Elapsed RowKind)
    → ((times : Elapsed) → row ≡ Ok times → is_lawful plan (last_times_after no_times read) times 864000 ≡ true)
    → and_then row (λ times. Ok (read ++ times ∷ [])) ≡ Ok next → AreInOrder plan no_times read → AreInOrder plan no_times next
row_keeps plan read next (Ok times) lawful is order =
    let same : read ++ times ∷ [] ≡ next = cc in rw (← same) (order_more plan no_times read times (lawful times refl) order)
row_keeps plan read next (Err why) lawful is order = cc

-- the reports of a table are in order
pub in_order : (plan : Rates) (rows : List Fields) (reports : List Elapsed) → table_reports_of plan rows ≡ Ok reports → AreInOrder plan no_times reports
unfolding AreInOrder
in_order plan rows reports is =
    table_keeps (reports_form plan) (AreInOrder plan no_times)
    (λ header read next fields judged_report. row_keeps plan read next (report_row_in plan (last_times_after no_times read) fields)
    (λ times. numbers_read plan (last_times_after no_times read) times (number_in fields 0 864000) (number_in fields 1 864000)) judged_report)
    rows reports tt is
