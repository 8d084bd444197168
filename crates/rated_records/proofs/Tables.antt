-- What `rate` prints of the table of a run's calls: a row of each.
use Rattle.std.proofs.Common.{◌≡◌, ◌==◌, ◌<◌, ◌≤◌, ◌+◌, ◌∙◌, ℕ, Bool, true, false, Some, List, [], ◌∷◌, ◌++◌, Ok, Err, Result, All, length, map, refl, sym, ap, subst, arith, append_assoc}
use Rattle.std.specs.Prelude.{MatchResult, nat_lt, slice_index}
use Rattle.std.specs.Char.{is_ascii_digit}
use Rattle.std.specs.Fmt.{decimal}
use Rattle.std.specs.List.{AllZip, flat_map}
use Rattle.std.proofs.lemmas.Bool.Decides.{nat_tests}
use Rattle.std.proofs.lemmas.Fmt.{decimal_nonempty}
use Rattle.std.proofs.lemmas.List.Elements.{All-cons, All-from_recursion, All-head, All-nil, All-tail}
use Rattle.run_outputs.specs.Records.{IsPrefixOf, IsRecord, Run, prefix_of}
use Rattle.run_outputs.specs.Tables.{IsCallText, call_text, record_row}
use Rattle.run_outputs.specs.declared.call_record.CallRecord.{CallRecord}
use Rattle.cap_values.specs.NumberDigits.{digits_of_number}
use Rattle.cap_values.specs.Numbers.{is_number}
use Rattle.cap_values.specs.declared.number.Number.{Number}
use Rattle.csv.specs.Reading.{strip_bom}
use Rattle.tariff_core.specs.Laws.{IsProper, ReadTariffsAreProper}
use Rattle.tariff_core.specs.MomentLaws.{MomentsArePlain, MomentsAreRead}
use Rattle.tariff_core.specs.Printing.{moment_text}
use Rattle.tariff_core.specs.Reading.{moment_of}
use Rattle.tariff_core.specs.declared.clock.Clock.{Clock}
use Rattle.rated_records.proofs.Fields.{fields_plain, record_size}
use Rattle.rated_records.specs.Laws.{IsRatedBy, RecordsHaveNoDifference, record_says}
use Rattle.rated_records.specs.Tables.{IsInputOf, IsPrintable, IsRatedTable, IsRowOf, TablesHaveNoDifference, header_fields, names_by_start, record_fields}
use Rattle.rating.specs.Calls.{CallSaid, rated_call_in, said_in, row_size, with_commas}
use Rattle.rating.specs.Columns.{found_columns, place_from}
use Rattle.rating.specs.Rated.{IsPriced, Faulty}
use Rattle.rating.specs.Texts.{IsRatedRow, IsRatedText, RateInput, RatedRow, headed, rate_input_of, rated_text}
use Rattle.rating.specs.declared.fault.RateFault.{RateFault}
use Rattle.rating.specs.declared.kind.RateKind.{RateKind}
use Rattle.rating.specs.declared.score.Score.{Score}
use Rattle.run_laws.specs.Records.{IsServedRun, RecordsAreInRange}
use Rattle.run_laws.specs.Starts.{HaveTheirStarts}
use Rattle.run_texts.specs.Inputs.{as_input_fault}
use Rattle.run_texts.specs.declared.input_fault.InputFault.{InputFault}
use Rattle.run_texts.specs.declared.input_fault.InputFault.TheVariants as fault
use Rattle.account_core.specs.Closed.{Closed}
use Rattle.account_core.specs.Refusals.{Knowing}
use Rattle.table_core.specs.Decimals.{decimal_of}
use Rattle.table_core.specs.Printed.{DecimalsArePlain, DecimalsAreRead, IsPlain, IsPlainRow, TablesAreRead, line_of, lines_of}
use Rattle.table_core.specs.Rows.{Fields, rows_of}
use Rattle.tariff_core.specs.Bands.{Band}
use Rattle.tariff_core.specs.TariffTable.{tariff_of}

-- ---- the table is the lines of its fields

record_line : (clock : Clock) (call : CallRecord) → record_row clock call ≡ line_of (record_fields clock call)
record_line clock call = simp append_assoc

records_lines : (clock : Clock) (calls : List CallRecord) → flat_map (record_row clock) calls ≡ lines_of (map (record_fields clock) calls)
records_lines clock [] = refl
records_lines clock (call ∷ calls) = rw (record_line clock call, records_lines clock calls) refl

abbrev table_fields : Clock → List CallRecord → List Fields
table_fields clock calls = header_fields ∷ map (record_fields clock) calls

table_lines : (clock : Clock) (calls : List CallRecord) → call_text clock calls ≡ lines_of (table_fields clock calls)
table_lines clock calls = ap (λ text. line_of header_fields ++ text) (records_lines clock calls)

unmarked : (rows : List Fields) → strip_bom (lines_of (header_fields ∷ rows)) ≡ lines_of (header_fields ∷ rows)
unfolding strip_bom
unmarked rows = refl

header_plain : IsPlainRow header_fields
header_plain = record {
  several = omega arith;
  plain = All-from_recursion IsPlain header_fields (refl, (refl, (refl, (refl, (refl, (refl, (refl, (refl, (refl, (refl, (refl, (refl, tt))))))))))));
}

-- ---- what the row of a record says

some_bytes : (count : ℕ) → 0 < count → (count == 0) ≡ false
some_bytes count some = grind (arith, nat_tests)

not_empty : (text : List ℕ) → is_ascii_digit (slice_index text 0) ≡ true → (length text == 0) ≡ false
not_empty [] digit = absurd (cc)
not_empty (c ∷ text) digit = some_bytes (length (c ∷ text)) (omega arith)

not_over : (count most : ℕ) → count ≤ most → nat_lt most count ≡ false
not_over count most within = grind (arith, nat_tests)

-- the tariff, the header and the rows of an input, and what the row of each record says under it
record HasTable (bands : List Band) (clock : Clock) (rows : List Fields) (Printed : CallRecord → Type 0) (input : RateInput) : Type 0 where
  bands_are : input.bands ≡ bands
  header_is : input.header ≡ header_fields
  rows_are : input.rows ≡ rows
  says : (call : CallRecord) → Printed call → said_in (length input.header) input.columns (record_fields clock call) ≡ record_says call

abbrev ReadsTable : List Band → Clock → List Fields → (CallRecord → Type 0) → Result RateInput RateFault → Type 0
ReadsTable bands clock rows Printed meaning = MatchResult meaning (HasTable bands clock rows Printed) (λ why. ⊥)

first_same : {x y : Fields} {xs ys : List Fields} → x ∷ xs ≡ y ∷ ys → x ≡ y
first_same same = cc

others_same : {x y : Fields} {xs ys : List Fields} → x ∷ xs ≡ y ∷ ys → xs ≡ ys
others_same same = cc

-- what is known of a record that is printed
record IsPrinted (run : Run) (call : CallRecord) : Type 0 where
  printable : IsPrintable call
  is_record : IsRecord run call

module _ (Stood : Closed → ℕ → Knowing) (read : DecimalsAreRead) (plain : DecimalsArePlain) (moments : MomentsAreRead) (moments_plain : MomentsArePlain) (tables : TablesAreRead)
    (right : RecordsHaveNoDifference Stood) (ranges : RecordsAreInRange Stood)
    (run : Run) (clock : Clock) (is : IsServedRun Stood run) (starts : HaveTheirStarts run.given) (proper : IsProper run.setup.tariff) where
  own_prefix : (call : CallRecord) → IsRecord run call → IsPrefixOf run.setup.tariff (digits_of_number call.called) (prefix_of call)
  own_prefix call record_is =
      let Prefix : Number → Type 0 = λ called. IsPrefixOf run.setup.tariff (digits_of_number called) (prefix_of call) in
      subst Prefix (sym record_is.from.called) record_is.from.prefix

  rows_plain : (calls : List CallRecord) → All IsPrintable calls → All (IsRecord run) calls → All IsPlainRow (map (record_fields clock) calls)
  rows_plain [] printable records = All-nil IsPlainRow
  rows_plain (call ∷ calls) printable records =
      let record_is = All-head (IsRecord run) call calls records in
      All-cons IsPlainRow (record_fields clock call) (map (record_fields clock) calls)
      (fields_plain plain moments moments_plain clock run.setup.tariff call (own_prefix call record_is) (All-head IsPrintable call calls printable) (ranges run call is record_is))
      (rows_plain calls (All-tail IsPrintable call calls printable) (All-tail (IsRecord run) call calls records))

  table_rows : (calls : List CallRecord) → All IsPrintable calls → All (IsRecord run) calls → rows_of (call_text clock calls) ≡ table_fields clock calls
  table_rows calls printable records =
      rw (table_lines clock calls) (tables (table_fields clock calls)
      (All-cons IsPlainRow header_fields (map (record_fields clock) calls) header_plain (rows_plain calls printable records)) (unmarked (map (record_fields clock) calls)))

  reads : (rows : List Fields) → ReadsTable run.setup.tariff clock rows (IsPrinted run) (headed names_by_start run.setup.tariff (header_fields ∷ rows))
  unfolding found_columns place_from said_in rated_call_in with_commas
  reads rows = record {
    bands_are = refl;
    header_is = refl;
    rows_are = refl;
    says = λ call printed.
        let range = ranges run call is printed.is_record in
        let size = record_size plain moments moments_plain clock run.setup.tariff call (own_prefix call printed.is_record) printed.printable range in
        let long : nat_lt 65536 (row_size (record_fields clock call)) ≡ false = not_over (row_size (record_fields clock call)) 65536 (omega (arith, size)) in
        let number : is_number (digits_of_number call.called) ≡ true = call.called.in_range in
        let charged : (length (decimal call.paid) == 0) ≡ false = some_bytes (length (decimal call.paid)) (decimal_nonempty call.paid (omega (arith, range.paid))) in
        let paid : decimal_of 1000000000000000 (decimal call.paid) ≡ Some call.paid = read 1000000000000000 call.paid (omega arith) range.paid in
        let answered : (length (moment_text clock call.start) == 0) ≡ false =
        not_empty (moment_text clock call.start) (moments_plain clock call.start (omega (arith, printed.printable.start))).digit in
        let at : moment_of 1000000000000 (moment_text clock call.start) ≡ Some call.start = moments clock 1000000000000 call.start (omega arith) printed.printable.start in
        let before : decimal_of 864000 (decimal call.times.before) ≡ Some call.times.before = read 864000 call.times.before (omega arith) (omega (arith, range.times)) in
        let after : decimal_of 864000 (decimal call.times.after) ≡ Some call.times.after = read 864000 call.times.after (omega arith) (omega (arith, range.times)) in
        let short : nat_lt 864000 (call.times.before + call.times.after) ≡ false = not_over (call.times.before + call.times.after) 864000 range.times in
        rw (long, number, charged, paid, answered, at, before, after, short) refl;
  }

  -- ---- each row that was rated

  row_rated : (input : RateInput) (rows : List Fields) (call : CallRecord) (row : RatedRow) → HasTable run.setup.tariff clock rows (IsPrinted run) input → IsPrinted run call
      → record_fields clock call ≡ row.fields → IsRatedRow input row → IsRowOf clock call row
  row_rated input rows call row has printed same rated = record {
    fields = sym same;
    rating = λ lawful.
        let By : Result CallSaid RateKind → Type 0 = λ said. MatchResult said (λ it. IsPriced input.bands it.called it.answered it.paid row.rating) (λ why. row.rating ≡ Faulty why) in
        let Of : Fields → Type 0 = λ fields. By (said_in (length input.header) input.columns fields) in
        let On : List Band → Type 0 = λ bands. MatchResult (record_says call) (λ it. IsPriced bands it.called it.answered it.paid row.rating) (λ why. row.rating ≡ Faulty why) in
        let by_record : IsRatedBy run call row.rating = subst On has.bands_are (subst By (has.says call printed) (subst Of (sym same) rated)) in
        right run call row.rating is starts proper printed.is_record lawful by_record;
  }

  rows_rated : (input : RateInput) (rows : List Fields) → HasTable run.setup.tariff clock rows (IsPrinted run) input → (calls : List CallRecord) (rated : List RatedRow)
      → map (record_fields clock) calls ≡ map (λ row. row.fields) rated → All IsPrintable calls → All (IsRecord run) calls → All (IsRatedRow input) rated → AllZip (IsRowOf clock) calls rated
  rows_rated input rows has [] [] same printable records each = tt
  rows_rated input rows has [] (row ∷ rated) same printable records each = cc
  rows_rated input rows has (call ∷ calls) [] same printable records each = cc
  rows_rated input rows has (call ∷ calls) (row ∷ rated) same printable records each =
      let first : record_fields clock call ≡ row.fields = first_same same in
      let others : map (record_fields clock) calls ≡ map (λ (r : RatedRow). r.fields) rated = others_same same in
      let printed : IsPrinted run call = record { printable = All-head IsPrintable call calls printable; is_record = All-head (IsRecord run) call calls records } in (
        row_rated input rows call row has printed first (All-head (IsRatedRow input) row rated each),
        rows_rated input rows has calls rated others (All-tail IsPrintable call calls printable) (All-tail (IsRecord run) call calls records) (All-tail (IsRatedRow input) row rated each),
      )

  -- ---- the text

  table_rated : (table input : List ℕ) → (text : IsCallText clock run table) → All IsPrintable text.calls → IsInputOf run table input → (differing : Bool) (printed : List ℕ) (score : Score)
      → IsRatedText differing (rate_input_of names_by_start input) printed score → IsRatedTable differing clock text.calls printed score
  table_rated table input text printable input_is differing printed score rated =
      let rows : List Fields = map (record_fields clock) text.calls in
      let read_as : rows_of input_is.first.rest ≡ header_fields ∷ rows = ap rows_of (input_is.rest ∙ text.is) ∙ table_rows text.calls printable text.are.each in
      let means : rate_input_of names_by_start input ≡ headed names_by_start run.setup.tariff (header_fields ∷ rows) =
      rw (input_is.is_first, input_is.tariff) (ap (headed names_by_start run.setup.tariff) read_as) in
      let As : Result RateInput RateFault → Type 0 = ReadsTable run.setup.tariff clock rows (IsPrinted run) in
      let has : HasTable run.setup.tariff clock rows (IsPrinted run) rated.input = subst As (sym means ∙ rated.is_input) (reads rows) in
      let Header : Fields → Type 0 = λ header. printed ≡ rated_text differing header rated.rated in
      record {
        rated = rated.rated;
        each = rows_rated rated.input rows has text.calls rated.rated (sym has.rows_are ∙ rated.are_rated.rows_are) printable text.are.each rated.are_rated.each;
        printed_is = subst Header has.header_is rated.printed_is;
        score_is = rated.score_is;
      }

was_said : {X E : Type 0} (tell : E → InputFault) (found : Result X E) (x : X) → as_input_fault tell found ≡ Ok x → found ≡ Ok x
was_said tell (Ok other) x is = let same : other ≡ x = cc in ap Ok same
was_said tell (Err why) x is = cc

pub tables_rated : (Stood : Closed → ℕ → Knowing) → DecimalsAreRead → DecimalsArePlain → MomentsAreRead → MomentsArePlain → TablesAreRead → RecordsHaveNoDifference Stood → RecordsAreInRange Stood
    → ReadTariffsAreProper → TablesHaveNoDifference Stood
tables_rated Stood read plain moments moments_plain tables right ranges propers run clock table input is starts text printable input_is =
    let proper : IsProper run.setup.tariff = propers run.setup.tariff (rows_of input_is.first.section, was_said fault.Tariff (tariff_of (rows_of input_is.first.section)) run.setup.tariff input_is.tariff) in
    table_rated Stood read plain moments moments_plain tables right ranges run clock is starts proper table input text printable input_is
