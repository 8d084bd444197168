-- The fields of a record in the table of calls: they need no quotes, are short, and say what the record does.
use Rattle.std.proofs.Common.{◌≡◌, ◌==◌, ◌<◌, ◌≤◌, ◌-◌, ◌*◌, ◌^◌, ◌∙◌, ℕ, Bool, true, false, true≢false, Option, Some, None, List, [], ◌∷◌, ◌++◌, length, drop, take, refl, sym, ap, arith, length-append, length-drop}
use Rattle.std.specs.Prelude.{◌&&◌, ◌||◌, IfSome, if◌then◌else◌, is_some, nat_le, option_and_then, slice_index, unwrap_or}
use Rattle.std.specs.Char.{is_ascii_digit}
use Rattle.std.specs.Fmt.{decimal}
use Rattle.std.specs.List.{All, list_all}
use Rattle.std.specs.Option.{option_or}
use Rattle.std.proofs.lemmas.Bool.{and_parts, leb-true}
use Rattle.std.proofs.lemmas.Bool.Decides.{nat_tests}
use Rattle.std.proofs.lemmas.Fmt.{length-decimal-le}
use Rattle.std.proofs.lemmas.List.Elements.{All-from_recursion, All-head, All-tail}
use Rattle.std.proofs.lemmas.List.Folds.{list_all-append, list_any-append}
use Rattle.table_core.proofs.PrintedLemmas.{digits_plain}
use Rattle.run_outputs.specs.Records.{IsPrefixOf, prefix_of}
use Rattle.run_outputs.specs.Tables.{outcome_word}
use Rattle.run_outputs.specs.declared.call_record.CallRecord.{CallRecord}
use Rattle.run_outputs.specs.declared.outcome.Outcome.{Outcome}
use Rattle.run_outputs.specs.declared.outcome.Outcome.TheVariants as outcome
use Rattle.cap_values.specs.NumberDigits.{digits_of_number}
use Rattle.cap_values.specs.declared.number.Number.{Number}
use Rattle.csv.specs.Writing.{comma, default_writer, field_text, needs_byte}
use Rattle.tariff_core.specs.MomentLaws.{MomentsArePlain, MomentsAreRead}
use Rattle.tariff_core.specs.Printing.{moment_or_empty, moment_text}
use Rattle.tariff_core.specs.Reading.{at_most, both, date_and_time_of, day_of, moment_of, seconds_of, written_time}
use Rattle.tariff_core.specs.declared.clock.Clock.{Clock}
use Rattle.rated_records.specs.Tables.{IsPrintable, record_fields}
use Rattle.rating.specs.Calls.{row_size, with_commas}
use Rattle.run_laws.specs.Records.{RecordIsInRange}
use Rattle.table_core.specs.Decimals.{decimal_of, digits_text, is_decimal}
use Rattle.table_core.specs.Printed.{DecimalsArePlain, IsPlain, IsPlainRow}
use Rattle.table_core.specs.Rows.{Fields}
use Rattle.tariff_core.specs.Bands.{Band}
use Rattle.tariff_core.specs.TariffTable.{time_of as minutes_of}
use Rattle.table_core.specs.Fields.{number_or_empty}

-- ---- how long a moment's text is

when : {X : Type 0} (b : Bool) (found : Option X) → is_some (if b then found else None) ≡ true → is_some found ≡ true
when true found is = is
when false found is = absurd (true≢false (sym is))

second : (each : ℕ) (one other : Option ℕ) → is_some (both each one other) ≡ true → is_some other ≡ true
second each None other is = absurd (true≢false (sym is))
second each (Some count) None is = absurd (true≢false (sym is))
second each (Some count) (Some units) is = refl

seconds_by : (two four : Bool) (length_is : ℕ) (one other : Option ℕ) → (length_is == 2) ≡ two → (length_is == 4) ≡ four
    → (marked : Bool) → is_some (if two then one else (if four && marked then other else None)) ≡ true → length_is ≤ 4
seconds_by true four length_is one other is_two is_four marked is = grind (arith, nat_tests)
seconds_by false true length_is one other is_two is_four marked is = grind (arith, nat_tests)
seconds_by false false length_is one other is_two is_four marked is = absurd (true≢false (sym is))

seconds_short : (text : List ℕ) → is_some (seconds_of text) ≡ true → length text ≤ 4
unfolding seconds_of
seconds_short text is =
    seconds_by (length text == 2) (length text == 4) (length text) (both 10 (decimal_of 59 text) (Some 0)) (both 10 (decimal_of 59 (take 2 text)) (decimal_of 9 (drop 3 text))) refl refl
    (slice_index text 2 == 46) is

time_short : (text : List ℕ) → is_some (written_time text) ≡ true → length text ≤ 10
unfolding written_time
time_short text is =
    let inner = when (nat_le 6 (length text) && (slice_index text 5 == 58)) (both 1 (minutes_of (take 5 text)) (seconds_of (drop 6 text))) is in
    let short = seconds_short (drop 6 text) (second 1 (minutes_of (take 5 text)) (seconds_of (drop 6 text)) inner) in
    omega (arith, short, length-drop 6 text)

date_short : (text : List ℕ) → is_some (date_and_time_of text) ≡ true → length text ≤ 21
unfolding date_and_time_of
date_short text is =
    let inner = when (nat_le 11 (length text) && ((slice_index text 10 == 84) || (slice_index text 10 == 32))) (both 864000 (day_of (take 10 text)) (written_time (drop 11 text))) is in
    let short = time_short (drop 11 text) (second 864000 (day_of (take 10 text)) (written_time (drop 11 text)) inner) in
    omega (arith, short, length-drop 11 text)

decimal_short_by : (text : List ℕ) (small : Bool) (value : ℕ) → is_some (if is_decimal text && small then Some value else None) ≡ true → length text ≤ 20
decimal_short_by text small value is = by (is_decimal text && small) refl is
  where
    by : (both_are : Bool) → (is_decimal text && small) ≡ both_are → is_some (if both_are then Some value else None) ≡ true → length text ≤ 20
    by true same some =
        let decimals = (and_parts (is_decimal text) small same).0 in
        let lengths = (and_parts (nat_le 1 (length text) && nat_le (length text) 20) (list_all is_ascii_digit text) decimals).0 in
        leb-true (length text) 20 (and_parts (nat_le 1 (length text)) (nat_le (length text) 20) lengths).1
    by false same some = absurd (true≢false (sym some))

decimal_of_short : (most : ℕ) (text : List ℕ) → is_some (decimal_of most text) ≡ true → length text ≤ 20
unfolding decimal_of
decimal_of_short most text is = decimal_short_by text _ _ is

dated : (most : ℕ) (date : Option ℕ) → is_some (option_and_then (at_most most) date) ≡ true → is_some date ≡ true
dated most None is = is
dated most (Some at) is = refl

moment_short : (most : ℕ) (text : List ℕ) (at : ℕ) → moment_of most text ≡ Some at → length text ≤ 21
moment_short most text at is = by (decimal_of most text) refl is
  where
    by : (found : Option ℕ) → decimal_of most text ≡ found → option_or found (option_and_then (at_most most) (date_and_time_of text)) ≡ Some at → length text ≤ 21
    by (Some number) same read = let short = decimal_of_short most text (rw same refl) in omega (arith, short)
    by None same read = date_short text (dated most (date_and_time_of text) (rw read refl))

-- ---- digits

digit_small : (c : ℕ) → is_ascii_digit c ≡ true → c ≤ 57
digit_small c digit = grind (arith, nat_tests)

-- ---- a field that needs no quotes, and is short

abbrev Fits : List ℕ → Type 0
Fits field = IsPlain field × (length field ≤ 300)

party_digits : (party : Number) → (list_all is_ascii_digit (digits_of_number party) ≡ true) × (length (digits_of_number party) ≤ 15)
party_digits party =
    let (lengths, digits) = and_parts (nat_le 1 (length (digits_of_number party)) && nat_le (length (digits_of_number party)) 15) (list_all is_ascii_digit (digits_of_number party)) party.in_range in
    (digits, leb-true (length (digits_of_number party)) 15 (and_parts (nat_le 1 (length (digits_of_number party))) (nat_le (length (digits_of_number party)) 15) lengths).1)

party_fits : (party : Number) → Fits (digits_of_number party)
party_fits party = let (digits, short) = party_digits party in (digits_plain (digits_of_number party) digits, omega (arith, short))

word_fits : (word : Outcome) → Fits (outcome_word word)
word_fits outcome.Unknown = (refl, omega arith)
word_fits outcome.NoRoute = (refl, omega arith)
word_fits outcome.Denied = (refl, omega arith)
word_fits outcome.Refused = (refl, omega arith)
word_fits outcome.Forfeit = (refl, omega arith)
word_fits outcome.Open = (refl, omega arith)
word_fits outcome.Busy = (refl, omega arith)
word_fits outcome.NoAnswer = (refl, omega arith)
word_fits outcome.RouteFail = (refl, omega arith)
word_fits outcome.Abandoned = (refl, omega arith)
word_fits outcome.Ended = (refl, omega arith)
word_fits outcome.Cut = (refl, omega arith)
word_fits outcome.Released = (refl, omega arith)

-- the bytes of a row, where no field needs quotes
size_by : (fields : Fields) → All Fits fields → row_size fields ≤ 301 * length fields
unfolding with_commas
size_by [] fit = omega arith
size_by (field ∷ fields) fit =
    let (plain, short) = All-head Fits field fields fit in
    let rest : row_size fields ≤ 301 * length fields = size_by fields (All-tail Fits field fields fit) in
    let bare : field_text default_writer field ≡ field = rw plain refl in
    let here = length-append (field_text default_writer field ++ (comma ∷ [])) (with_commas fields) in
    let first = length-append (field_text default_writer field) (comma ∷ []) in
    omega (arith, rest, here, first, ap length bare, short)

all_plain : (fields : Fields) → All Fits fields → All IsPlain fields
all_plain fields fit = λ k d within. (fit k d within).0

-- ---- the fields of a record

module _ (plain : DecimalsArePlain) where
  decimal_fits : (number : ℕ) → number < 2 ^ 64 → Fits (decimal number)
  decimal_fits number small = (plain number small, let short = length-decimal-le 20 number (omega arith) (omega (arith, small)) small in omega (arith, short))

  optional_fits : (number : Option ℕ) → IfSome number (λ n. n < 2 ^ 64) → Fits (number_or_empty number)
  optional_fits None small = (refl, omega arith)
  optional_fits (Some number) small = decimal_fits number small

  digits_fit : (prefix : List ℕ) → list_all is_ascii_digit prefix ≡ true → IsPlain (digits_text prefix) × (length (digits_text prefix) ≤ 20 * length prefix)
  digits_fit [] digits = (refl, omega arith)
  digits_fit (c ∷ prefix) digits =
      let (first, others) = and_parts (is_ascii_digit c) (list_all is_ascii_digit prefix) digits in
      let (bare, short) = digits_fit prefix others in
      let low = digit_small c first in
      let small : c - 48 < 2 ^ 64 = omega (arith, low) in
      let one = length-decimal-le 20 (c - 48) (omega arith) (omega (arith, low)) small in (
        list_any-append (needs_byte default_writer) (decimal (c - 48)) (digits_text prefix) ∙ rw (plain (c - 48) small, bare) refl,
        omega (arith, length-append (decimal (c - 48)) (digits_text prefix), one, short),
      )

  prefix_fits : (bands : List Band) (party : Number) (prefix : Option (List ℕ)) → IsPrefixOf bands (digits_of_number party) prefix → Fits (digits_text (unwrap_or prefix []))
  prefix_fits bands party None is = (refl, omega arith)
  prefix_fits bands party (Some prefix) is =
      let (digits, few) = party_digits party in
      let called = is.begins.1 in
      let front = (and_parts (list_all is_ascii_digit prefix) (list_all is_ascii_digit is.begins.0) (sym (list_all-append is_ascii_digit prefix is.begins.0) ∙ ap (list_all is_ascii_digit) (sym called) ∙ digits)).0 in
      let (bare, short) = digits_fit prefix front in
      (bare, omega (arith, short, few, ap length called, length-append prefix is.begins.0))

  module _ (moments : MomentsAreRead) (moments_plain : MomentsArePlain) (clock : Clock) where
    moment_fits : (at : ℕ) → at < 2 ^ 64 → Fits (moment_text clock at)
    moment_fits at small =
        let short = moment_short (2 ^ 64 - 1) (moment_text clock at) at (moments clock (2 ^ 64 - 1) at (omega arith) (omega (arith, small))) in
        ((moments_plain clock at small).plain, omega (arith, short))

    optional_moment_fits : (at : Option ℕ) → IfSome at (λ m. m < 2 ^ 64) → Fits (moment_or_empty clock at)
    optional_moment_fits None small = (refl, omega arith)
    optional_moment_fits (Some at) small = moment_fits at small

    fields_fit : (bands : List Band) (call : CallRecord) → IsPrefixOf bands (digits_of_number call.called) (prefix_of call) → IsPrintable call → RecordIsInRange call → All Fits (record_fields clock call)
    fields_fit bands call prefix printable range =
        All-from_recursion Fits (record_fields clock call) (
          decimal_fits call.call printable.number,
          (
            party_fits call.calling,
            (
              party_fits call.called,
              (
                optional_fits call.account printable.account,
                (
                  prefix_fits bands call.called (prefix_of call) prefix,
                  (
                    moment_fits call.start (omega (arith, printable.start)),
                    (
                      optional_moment_fits call.answer printable.answer,
                      (
                        optional_moment_fits call.end printable.end,
                        (
                          decimal_fits call.times.before (omega (arith, range.times)),
                          (
                            decimal_fits call.times.after (omega (arith, range.times)),
                            (decimal_fits call.paid (omega (arith, range.paid)), (word_fits call.outcome, tt)),
                          ),
                        ),
                      ),
                    ),
                  ),
                ),
              ),
            ),
          ),
        )

    pub fields_plain : (bands : List Band) (call : CallRecord) → IsPrefixOf bands (digits_of_number call.called) (prefix_of call) → IsPrintable call → RecordIsInRange call → IsPlainRow (record_fields clock call)
    fields_plain bands call prefix printable range =
        record { several = omega arith; plain = all_plain (record_fields clock call) (fields_fit bands call prefix printable range) }

    -- the bytes of its row are few
    pub record_size : (bands : List Band) (call : CallRecord) → IsPrefixOf bands (digits_of_number call.called) (prefix_of call) → IsPrintable call → RecordIsInRange call
        → row_size (record_fields clock call) ≤ 3612
    record_size bands call prefix printable range = size_by (record_fields clock call) (fields_fit bands call prefix printable range)
