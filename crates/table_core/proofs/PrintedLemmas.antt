-- What is printed is read back.
use Rattle.std.proofs.Common.{◌≡◌, ℕ, zero, suc, ◌+◌, ◌<◌, ◌≤◌, true, false, List, [], ◌∷◌, ◌++◌, length, Some, refl, sym, ap, append-nil, length-append, arith}
use Rattle.std.specs.Prelude.{codes, nat_le}
use Rattle.std.specs.Char.{is_ascii_digit}
use Rattle.std.specs.Fmt.{decimal}
use Rattle.std.specs.Int.{IsInRange}
use Rattle.std.specs.List.{All, join_with_byte, list_all}
use Rattle.std.specs.Str.Parse.{AllDigits}
use Rattle.std.proofs.lemmas.Bool.Decides.{nat_tests}
use Rattle.std.proofs.lemmas.Fmt.{decimal_is_IsNumeral, length-decimal-le}
use Rattle.std.proofs.lemmas.List.Elements.{All-head, All-tail}
use Rattle.std.proofs.lemmas.Str.Parse.{digit_from_value}
use Rattle.std.proofs.lemmas.Bool.{and_parts}
use Rattle.csv.proofs.RoundTrip.{read-write-many}
use Rattle.csv.specs.Machine.{next_record}
use Rattle.csv.specs.Reading.{default_config, records_from}
use Rattle.csv.specs.Writing.{comma, default_writer, fields_text, is_blank, needs_byte, row_text}
use Rattle.csv.specs.declared.parser.State.TheVariants as st
use Rattle.table_core.specs.Decimals.{decimal_of}
use Rattle.table_core.specs.Printed.{DecimalsArePlain, DecimalsAreRead, IsPlain, IsPlainRow, TablesAreRead, line_of, lines_of}
use Rattle.table_core.specs.Rows.{Fields, rows_of}

-- ---- decimals

digit_tested : (c : ℕ) → IsInRange 48 57 c → is_ascii_digit c ≡ true
digit_tested c range = grind (arith, nat_tests)

digit_bare : (c : ℕ) → is_ascii_digit c ≡ true → needs_byte default_writer c ≡ false
digit_bare c digit = grind (arith, nat_tests)

digits_tested : (text : List ℕ) → AllDigits 10 text → list_all is_ascii_digit text ≡ true
digits_tested [] digits = refl
digits_tested (c ∷ text) digits = rw (digit_tested c (digit_from_value c digits.0), digits_tested text digits.1) refl

pub digits_plain : (text : List ℕ) → list_all is_ascii_digit text ≡ true → IsPlain text
digits_plain [] digits = refl
digits_plain (c ∷ text) digits =
    let (first, others) = and_parts (is_ascii_digit c) (list_all is_ascii_digit text) digits in
    rw (digit_bare c first, digits_plain text others) refl

le_tested : (a b : ℕ) → a ≤ b → nat_le a b ≡ true
le_tested a b le = grind (arith, nat_tests)

pub decimals_read : DecimalsAreRead
unfolding decimal_of
decimals_read most number small within =
    let (numeral, value) = decimal_is_IsNumeral number (omega arith) in
    let some : nat_le 1 (length (decimal number)) ≡ true = le_tested 1 _ (omega (arith, numeral.0)) in
    let few : nat_le (length (decimal number)) 20 ≡ true = le_tested _ 20 (length-decimal-le 20 number (omega arith) (omega arith) (omega arith)) in
    rw (some, few, digits_tested (decimal number) numeral.1, value, le_tested number most within) refl

pub decimals_plain : DecimalsArePlain
decimals_plain number small = digits_plain (decimal number) (digits_tested (decimal number) (decimal_is_IsNumeral number small).0.1)

-- ---- rows

-- after the first field, a row is what a writer writes of it
joined : (field : List ℕ) (fields : Fields) → All IsPlain fields → join_with_byte comma (field ∷ fields) ≡ field ++ fields_text default_writer fields
unfolding fields_text
joined field [] plain = sym (append-nil field)
joined field (next ∷ fields) plain =
    let bare : IsPlain next = All-head IsPlain next fields plain in
    rw (joined next fields (All-tail IsPlain next fields plain), bare) refl

line_written : (x y : List ℕ) (ys : Fields) → All IsPlain (x ∷ y ∷ ys) → line_of (x ∷ y ∷ ys) ≡ row_text default_writer (x ∷ y ∷ ys)
unfolding is_blank
line_written x y ys plain =
    let bare : IsPlain x = All-head IsPlain x (y ∷ ys) plain in
    rw (joined x (y ∷ ys) (All-tail IsPlain x (y ∷ ys) plain), bare) refl

line_read : (row : Fields) (rest : List ℕ) → IsPlainRow row
    → next_record default_config st.StartRecord [] [] (line_of row ++ rest) ≡ Some (row, st.StartRecord, rest)
line_read [] rest is = absurd (omega (arith, is.several))
line_read (x ∷ []) rest is = absurd (omega (arith, is.several))
line_read (x ∷ y ∷ ys) rest is = rw (line_written x y ys is.plain) (read-write-many x y ys rest)

-- ---- tables

-- as many rows as are asked for are read, where that is more than there are
lines_read : (rows : List Fields) (fuel : ℕ) → length rows < fuel → All IsPlainRow rows → records_from default_config fuel st.StartRecord (lines_of rows) ≡ rows
unfolding records_from next_record
lines_read [] zero enough plain = refl
lines_read [] (suc fuel) enough plain = refl
lines_read (row ∷ rows) zero enough plain = absurd (omega (arith, enough))
lines_read (row ∷ rows) (suc fuel) enough plain =
    rw (line_read row (lines_of rows) (All-head IsPlainRow row rows plain))
    (ap (λ more. row ∷ more) (lines_read rows fuel (omega (arith, enough)) (All-tail IsPlainRow row rows plain)))

-- each line has a byte at least
lines_longer : (rows : List Fields) → length rows ≤ length (lines_of rows)
lines_longer [] = omega arith
lines_longer (row ∷ rows) =
    omega (arith, lines_longer rows, length-append (line_of row) (lines_of rows), length-append (join_with_byte comma row) (codes "\n"))

pub tables_read : TablesAreRead
unfolding rows_of
tables_read rows plain unmarked = rw unmarked (lines_read rows (length (lines_of rows) + 1) (omega (arith, lines_longer rows)) plain)
