-- The rows so far and those that are left are the rows of the table.
use Rattle.std.proofs.Common.{◌≡◌, ℕ, ◌+◌, ◌≤◌, Bool, true, false, List, [], ◌∷◌, length, Option, Some, None, Result, Ok, Err, refl, ap, ◌∙◌, arith}
use Rattle.std.specs.Prelude.{IsErrAnd, if◌then◌else◌, map, nat_le, nat_lt}
use Rattle.std.proofs.lemmas.Bool.Decides.{nat_tests}
use Rattle.std.specs.List.{list_any}
use Rattle.table_core.specs.Judging.{and_then}
use Rattle.table_core.specs.Rows.{Fields, rows_of}
use Rattle.table_core.specs.Tables.{below, own_fault, rows_from, table_of, then_rows, unless_own, which_header}
use Rattle.table_core.specs.declared.fault.TableFault.{TableFault}
use Rattle.table_core.specs.declared.fault.TableFault.TheVariants as fault
use Rattle.table_core.specs.Reading.{header_of, row_number_of, row_width}
use Rattle.table_core.specs.declared.table.Table.{Table}
use Rattle.table_core.proofs.TableLemmas.{IsRead, Stops}
use Rattle.table_core.proofs.Known.{at_known}
use Rattle.tariff_core.specs.Bands.{Band, have_steps}
use Rattle.price_core.specs.Rates.{are_steps}
use Rattle.tariff_core.specs.Tariff.{band_of}
use Rattle.tariff_core.specs.TariffFaults.{fault_from, kind_from}
use Rattle.tariff_core.specs.TariffTable.{ComesBy, GivesBands, NotBefore, RefusesBands, band_in, bands_of, complete, complete_by, days_in, first_in, free_in, tariff_header, money_in, new_band, new_band_in, prefix_in, repeats, band_start_in, step_in, tariff_form, without_midnight}
use Rattle.tariff_core.specs.declared.row.Row.{Row}
use Rattle.tariff_core.specs.declared.tariff_fault.TariffFault.{TariffFault}
use Rattle.tariff_core.specs.declared.tariff_fault.TariffKind.{TariffKind}
use Rattle.tariff_core.specs.declared.tariff_fault.TariffKind.TheVariants as kind

-- ---- one row

-- a step that was taken, and those after it
pub after_is : {X Y E : Type 0} (step : Result X E) (next : X → Result Y E) (y : Y) → and_then step next ≡ Ok y → (x : X) × (step ≡ Ok x) × (next x ≡ Ok y)
after_is (Ok x) next y is = (x, refl, is)
after_is (Err why) next y is = absurd (cc)

new_is : (repeated : Bool) (band new : Band) → (if repeated then Err kind.Repeated else Ok band) ≡ Ok new → (repeated ≡ false) × (band ≡ new)
new_is true band new is = absurd (cc)
new_is false band new is = (refl, cc is)

-- a row that is taken is what its fields say, and no repetition
pub taken_band : (which : ℕ) (earlier : List Band) (fields : Fields) (band : Band) → new_band_in which earlier fields ≡ Ok band
    → (band_in which fields ≡ Ok band) × (repeats earlier band ≡ false)
taken_band which earlier fields band is =
    let (given, read, kept) = after_is (band_in which fields) (new_band earlier) band is in
    let (new, same) = new_is (repeats earlier given) given band kept in
    (rw (← same) read, rw (← same) new)

-- the start and the days of a row are what its fields say
pub read_parts : (which : ℕ) (fields : Fields) (band : Band) → band_in which fields ≡ Ok band → (band_start_in fields ≡ Ok band.start) × (days_in which fields ≡ Ok band.days)
read_parts which fields band is =
    let one = after_is (prefix_in fields) _ band is in
    let two = after_is (band_start_in fields) _ band one.2 in
    let three = after_is (money_in fields 2) _ band two.2 in
    let four = after_is (money_in fields 3) _ band three.2 in
    let five = after_is (free_in which fields) _ band four.2 in
    let six = after_is (first_in which fields) _ band five.2 in
    let seven = after_is (step_in which fields) _ band six.2 in
    let eight = after_is (days_in which fields) _ band seven.2 in
    let start : two.0 ≡ band.start = ap (start_of two.0) eight.2 in
    let days : eight.0 ≡ band.days = ap (days_of eight.0) eight.2 in
    (two.1 ∙ ap Ok start, eight.1 ∙ ap Ok days)
  where
    start_of : ℕ → Result Band TariffKind → ℕ
    start_of none (Ok band) = band.start
    start_of none (Err why) = none

    days_of : List ℕ → Result Band TariffKind → List ℕ
    days_of none (Ok band) = band.days
    days_of none (Err why) = none

older : (which : ℕ) → nat_le 3 which ≡ false → nat_lt which 3 ≡ true
older which is = grind (arith, nat_tests, is)

no_days : (lower : Bool) (rest : Result (List ℕ) TariffKind) (days : List ℕ) → lower ≡ true → (if lower then Ok [] else rest) ≡ Ok days → days ≡ []
no_days true rest days low is = cc
no_days false rest days low is = cc

-- under an older header a row has no days of its own
pub without_days : (which : ℕ) (fields : Fields) (band : Band) → nat_le 3 which ≡ false → band_in which fields ≡ Ok band → band.days ≡ []
without_days which fields band is read = no_days (nat_lt which 3) _ band.days (older which is) (read_parts which fields band read).1

-- ---- rows that bill in steps

-- a row of the code bills in steps where what it says does
pub steps_of_rows : (rows : List Row) → list_any (λ row. are_steps row.cost.first row.cost.step) rows ≡ have_steps (map band_of rows)
steps_of_rows [] = refl
steps_of_rows (row ∷ rows) = rw (steps_of_rows rows) refl

-- ---- the columns of a row

-- a fault of the table's own
pub refused_at : (why : TariffKind) (number : ℕ) (meaning : Result (List Band) TariffFault) → meaning ≡ Err (record { row = number; kind = why }) → RefusesBands why number meaning
refused_at kind.Csv number meaning is = is
refused_at kind.Header number meaning is = is
refused_at kind.Digits number meaning is = is
refused_at kind.From number meaning is = is
refused_at kind.Money number meaning is = is
refused_at kind.Repeated number meaning is = is
refused_at kind.NoMidnightBand number meaning is = is
refused_at kind.OutOfMemory number meaning is = rw is (omega arith)
refused_at kind.Device number meaning is = rw is (omega arith)
refused_at kind.TooManyRows number meaning is = is
refused_at kind.Free number meaning is = is
refused_at kind.First number meaning is = is
refused_at kind.Step number meaning is = is
refused_at kind.Days number meaning is = is

-- ---- where a table that can't be read on may be given up

-- the two kinds that aren't the table's own, and the rest
comes_at : (why : TariffKind) (row : ℕ) → ComesBy row why row
comes_at kind.Csv row = omega arith
comes_at kind.Header row = omega arith
comes_at kind.Digits row = omega arith
comes_at kind.From row = omega arith
comes_at kind.Money row = omega arith
comes_at kind.Repeated row = omega arith
comes_at kind.NoMidnightBand row = tt
comes_at kind.OutOfMemory row = omega arith
comes_at kind.Device row = omega arith
comes_at kind.TooManyRows row = omega arith
comes_at kind.Free row = omega arith
comes_at kind.First row = omega arith
comes_at kind.Step row = omega arith
comes_at kind.Days row = omega arith

comes_later : (why : TariffKind) (low high row : ℕ) → low ≤ high → ComesBy high why row → ComesBy low why row
comes_later kind.Csv low high row le by = omega (arith, by)
comes_later kind.Header low high row le by = omega (arith, by)
comes_later kind.Digits low high row le by = omega (arith, by)
comes_later kind.From low high row le by = omega (arith, by)
comes_later kind.Money low high row le by = omega (arith, by)
comes_later kind.Repeated low high row le by = omega (arith, by)
comes_later kind.NoMidnightBand low high row le by = tt
comes_later kind.OutOfMemory low high row le by = omega (arith, by)
comes_later kind.Device low high row le by = omega (arith, by)
comes_later kind.TooManyRows low high row le by = omega (arith, by)
comes_later kind.Free low high row le by = omega (arith, by)
comes_later kind.First low high row le by = omega (arith, by)
comes_later kind.Step low high row le by = omega (arith, by)
comes_later kind.Days low high row le by = omega (arith, by)

not_before_later : (meaning : Result (List Band) TariffFault) (low high : ℕ) → low ≤ high → NotBefore high meaning → NotBefore low meaning
not_before_later (Ok bands) low high le by = tt
not_before_later (Err fault) low high le by = comes_later fault.kind low high fault.row le by

not_before_row : (number : ℕ) (judged : Result (List Band) TariffKind) (rest : List Band → Result (List Band) TariffFault)
    → ((read : List Band) → NotBefore (number + 1) (rest read)) → NotBefore number (then_rows tariff_form number judged rest)
not_before_row number (Ok read) rest later = not_before_later (rest read) number (number + 1) (omega arith) (later read)
not_before_row number (Err why) rest later = comes_at why number

-- the rows from a number on have no fault before it
pub rows_not_before : (which width number : ℕ) (earlier : List Band) (left : List Fields) → NotBefore number (rows_from tariff_form which width number earlier left)
unfolding rows_from
rows_not_before which width number earlier [] = tt
rows_not_before which width number earlier (fields ∷ rows) =
    not_before_row number (unless_own tariff_form (own_fault 10000 width number fields) (tariff_form.judge which earlier fields)) (λ read. rows_from tariff_form which width (number + 1) read rows)
    (λ read. rows_not_before which width (number + 1) read rows)

below_not_before : (first : Fields) (rows : List Fields) (which : Option ℕ) → NotBefore 1 (below tariff_form first rows which)
below_not_before first rows None = omega arith
below_not_before first rows (Some tariff_header) =
    not_before_later (rows_from tariff_form tariff_header (length first) 2 [] rows) 1 2 (omega arith) (rows_not_before tariff_header (length first) 2 [] rows)

-- a table has no fault before its header
pub bands_not_before : (rows : List Fields) → NotBefore 1 (bands_of rows)
unfolding table_of
bands_not_before [] = omega arith
bands_not_before (first ∷ rows) = below_not_before first rows (which_header tariff_form.headers first)

-- after the rows so far, none up to the next one has a fault
pub none_before : {R : Type 0} (remaining : R → Option (List ℕ)) (known : Option (List ℕ)) (table : Table R) (read : List Band) (text : List ℕ) → known ≡ Some text
    → IsRead tariff_form remaining known table read → NotBefore (row_number_of table + 1) (bands_of (rows_of text))
none_before remaining known table read text is so_far =
    let at = at_known known _ text is so_far.so_far in
    rw at.is (rows_not_before (header_of table) (row_width table) (row_number_of table + 1) read at.left)

-- a table that is given up at a row, with none refused before it
pub given_up : (row : ℕ) (why : TableFault) (meaning : Result (List Band) TariffFault) → NotBefore row meaning → Stops tariff_form why meaning
    → GivesBands (Err (fault_from row why)) meaning
given_up row (fault.Row own) meaning by is = refused_at (kind_from own.kind) own.row meaning is
given_up row fault.Device meaning by is = by
given_up row fault.OutOfMemory meaning by is = by

not_before_complete : (bands : List Band) (missing : Option ℕ) (row : ℕ) → NotBefore row (complete_by bands missing)
not_before_complete bands None row = tt
not_before_complete bands (Some number) row = tt

not_before_whole : (row : ℕ) (meaning : Result (List Band) TariffFault) → NotBefore row meaning → NotBefore row (and_then meaning complete)
not_before_whole row (Ok bands) by = not_before_complete bands (without_midnight bands 2 bands) row
not_before_whole row (Err fault) by = by

-- a fault of the rows is one of the table
pub refused_whole : (why : TariffKind) (row : ℕ) (meaning : Result (List Band) TariffFault) → RefusesBands why row meaning → RefusesBands why row (and_then meaning complete)
refused_whole kind.Csv row meaning is = rw is refl
refused_whole kind.Header row meaning is = rw is refl
refused_whole kind.Digits row meaning is = rw is refl
refused_whole kind.From row meaning is = rw is refl
refused_whole kind.Money row meaning is = rw is refl
refused_whole kind.Repeated row meaning is = rw is refl
refused_whole kind.NoMidnightBand row meaning is = rw is refl
refused_whole kind.OutOfMemory row meaning is = not_before_whole row meaning is
refused_whole kind.Device row meaning is = not_before_whole row meaning is
refused_whole kind.TooManyRows row meaning is = rw is refl
refused_whole kind.Free row meaning is = rw is refl
refused_whole kind.First row meaning is = rw is refl
refused_whole kind.Step row meaning is = rw is refl
refused_whole kind.Days row meaning is = rw is refl

-- a fault that is passed on
pub passed_on : (answer : Result (List Band) TariffFault) (fault : TariffFault) (meaning : Result (List Band) TariffFault)
    → IsErrAnd answer (λ met. met ≡ fault) → GivesBands (Err fault) meaning → GivesBands answer meaning
passed_on (Ok bands) fault meaning met gives = absurd met
passed_on (Err why) fault meaning met gives = rw met gives
