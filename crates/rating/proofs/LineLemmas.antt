-- The text of a row, field by field.
use Rattle.std.proofs.Common.{◌≡◌, ℕ, suc, ◌+◌, ◌<◌, ◌≤◌, Bool, true, false, List, [], ◌∷◌, ◌++◌, length, get_or, drop, refl, sym, ap, ◌∙◌, append_assoc, append-nil, drop-cons, arith}
use Rattle.std.proofs.lemmas.List.{drop_all}
use Rattle.std.specs.Prelude.{if◌then◌else◌, ◌==◌, codes, Result, Ok, Err, OnOk, is_ok}
use Rattle.std.proofs.lemmas.Bool.Decides.{nat_tests}
use Rattle.csv.specs.Writing.{comma, default_writer, escaped, field_text, fields_text, is_blank, quoted, row_body, row_text}
use Rattle.table_core.proofs.PrintedLemmas.{decimals_plain}
use Rattle.table_core.specs.Printed.{IsPlain}
use Rattle.table_core.specs.Rows.{Fields}
use Rattle.std.specs.Fmt.{decimal}
use Rattle.rating.specs.Calls.{with_commas}
use Rattle.rating.specs.Lines.{cell, columns_of, columns_text, difference, header_line, rate_kind_name, names, rating_line, shown}
use Rattle.rating.specs.Rated.{Rating, Faulty, Priced}

by_quote : (is : Bool) (mark byte : ℕ) (rest : List ℕ) → (if is then mark ∷ byte ∷ rest else byte ∷ rest) ≡ (if is then mark ∷ byte ∷ [] else byte ∷ []) ++ rest
by_quote true mark byte rest = refl
by_quote false mark byte rest = refl

escaped_first : (byte : ℕ) (rest : List ℕ) → escaped default_writer (byte ∷ rest) ≡ escaped default_writer (byte ∷ []) ++ escaped default_writer rest
unfolding escaped
escaped_first byte rest = by_quote (byte == 34) 34 byte (escaped default_writer rest)

-- what was appended, where that went well
pub appended : {X E : Type 0} (answer : Result X E) (new old text all : List ℕ) → new ≡ (if is_ok answer then old ++ text else old) → text ≡ all → OnOk answer (new ≡ old ++ all)
appended (Ok done) new old text all is same = rw (← same) is
appended (Err why) new old text all is same = tt

pub escaped_quote : (byte : ℕ) → byte ≡ 34 → 34 ∷ 34 ∷ [] ≡ escaped default_writer (byte ∷ [])
unfolding escaped
escaped_quote byte is = rw is refl

plain_by : (is : Bool) (mark byte : ℕ) → is ≡ false → byte ∷ [] ≡ (if is then mark ∷ byte ∷ [] else byte ∷ [])
plain_by true mark byte isnt = cc
plain_by false mark byte isnt = refl

no_quote : (byte : ℕ) → (byte ≡ 34 → ⊥) → (byte == 34) ≡ false
no_quote byte other = grind (arith, nat_tests)

pub escaped_plain : (byte : ℕ) → (byte ≡ 34 → ⊥) → byte ∷ [] ≡ escaped default_writer (byte ∷ [])
unfolding escaped
escaped_plain byte other = plain_by (byte == 34) 34 byte (no_quote byte other)

-- one byte more of a field in quotes
pub escaped_next : (field : List ℕ) (i byte : ℕ) (now all : List ℕ) → i < length field → byte ≡ get_or field i 0
    → now ++ escaped default_writer (drop i field) ≡ all → (now ++ escaped default_writer (byte ∷ [])) ++ escaped default_writer (drop (i + 1) field) ≡ all
escaped_next field i byte now all within is so_far =
    let next : i + 1 ≡ suc i = omega arith in
    let first : escaped default_writer (drop i field) ≡ escaped default_writer (byte ∷ []) ++ escaped default_writer (drop (suc i) field) =
    rw (drop-cons field i 0 within, ← is) (escaped_first byte (drop (suc i) field)) in
    append_assoc now _ _ ∙ ap (λ k. now ++ (escaped default_writer (byte ∷ []) ++ escaped default_writer (drop k field))) next ∙ ap (λ l. now ++ l) (sym first) ∙ so_far

-- one field more of a row
pub field_next : (fields : Fields) (i : ℕ) (field now : List ℕ) (all : List ℕ) → i < length fields → field ≡ get_or fields i []
    → now ++ with_commas (drop i fields) ≡ all → ((now ++ field_text default_writer field) ++ (comma ∷ [])) ++ with_commas (drop (i + 1) fields) ≡ all
unfolding with_commas
field_next fields i field now all within is so_far =
    let next : i + 1 ≡ suc i = omega arith in
    let first : with_commas (drop i fields) ≡ (field_text default_writer field ++ (comma ∷ [])) ++ with_commas (drop (suc i) fields) =
    rw (drop-cons fields i [] within, ← is) refl in
    ap (λ l. l ++ with_commas (drop (i + 1) fields)) (append_assoc now (field_text default_writer field) (comma ∷ []))
    ∙ append_assoc now _ _ ∙ ap (λ k. now ++ ((field_text default_writer field ++ (comma ∷ [])) ++ with_commas (drop k fields))) next ∙ ap (λ l. now ++ l) (sym first) ∙ so_far

-- no field is left behind the last
pub fields_end : (fields : Fields) (i : ℕ) (now all : List ℕ) → length fields ≤ i → now ++ with_commas (drop i fields) ≡ all → now ≡ all
unfolding with_commas
fields_end fields i now all past so_far = sym (append-nil now) ∙ ap (λ l. now ++ l) (sym (rw (drop_all i fields past) refl)) ∙ so_far

-- the quote behind a field
pub appended_last : {X E : Type 0} (field : List ℕ) (i : ℕ) (answer : Result X E) (new now old : List ℕ) → new ≡ (if is_ok answer then now ++ 34 ∷ [] else now)
    → length field ≤ i → now ++ escaped default_writer (drop i field) ≡ old ++ (34 ∷ escaped default_writer field) → OnOk answer (new ≡ old ++ quoted default_writer field)
unfolding escaped
appended_last field i (Ok done) new now old is past so_far =
    let now_is : now ≡ old ++ (34 ∷ escaped default_writer field) = sym (append-nil now) ∙ ap (λ l. now ++ l) (sym (rw (drop_all i field past) refl)) ∙ so_far in
    is ∙ ap (λ l. l ++ 34 ∷ []) now_is ∙ append_assoc old _ _
appended_last field i (Err why) new now old is past so_far = tt

-- ---- rows

text_behind : (field next : List ℕ) (fields : Fields) → row_text default_writer (field ∷ next ∷ fields) ≡ field_text default_writer field ++ (comma ∷ (row_body default_writer (next ∷ fields) ++ (10 ∷ [])))
unfolding fields_text is_blank
text_behind field next fields = append_assoc (field_text default_writer field) (comma ∷ row_body default_writer (next ∷ fields)) (10 ∷ [])

-- a field and a comma before a row of two fields or more
before_row : (field next last : List ℕ) (fields : Fields) → (field_text default_writer field ++ (comma ∷ [])) ++ row_text default_writer (next ∷ last ∷ fields)
    ≡ row_text default_writer (field ∷ next ∷ last ∷ fields)
unfolding is_blank
before_row field next last fields =
    append_assoc (field_text default_writer field) (comma ∷ []) (row_text default_writer (next ∷ last ∷ fields)) ∙ sym (text_behind field next (last ∷ fields))

pub record IsSeveral (fields : Fields) : Type 0 where
  pub first : List ℕ
  pub second : List ℕ
  pub more : Fields
  pub is : fields ≡ first ∷ second ∷ more

several_behind : (front fields : Fields) → IsSeveral fields → IsSeveral (front ++ fields)
several_behind [] fields some = some
several_behind (x ∷ []) fields some = record { first = x; second = some.first; more = some.second ∷ some.more; is = ap (λ l. x ∷ l) some.is }
several_behind (x ∷ y ∷ front) fields some = record { first = x; second = y; more = front ++ fields; is = refl }

before_some : (field : List ℕ) (fields : Fields) → IsSeveral fields → (field_text default_writer field ++ (comma ∷ [])) ++ row_text default_writer fields ≡ row_text default_writer (field ∷ fields)
before_some field fields some = rw some.is (before_row field some.first some.second some.more)

-- fields with a comma behind each, and then a row of two fields or more, are a row
pub commas_before : (front fields : Fields) → IsSeveral fields → with_commas front ++ row_text default_writer fields ≡ row_text default_writer (front ++ fields)
unfolding with_commas
commas_before [] fields some = refl
commas_before (field ∷ front) fields some =
    append_assoc (field_text default_writer field ++ (comma ∷ [])) (with_commas front) (row_text default_writer fields)
    ∙ ap (λ l. (field_text default_writer field ++ (comma ∷ [])) ++ l) (commas_before front fields some)
    ∙ before_some field (front ++ fields) (several_behind front fields some)

-- the six columns are a row
priced_text : (p b a r d : List ℕ) → p ++ ((codes "," ++ (b ++ (codes "," ++ (a ++ (codes "," ++ (r ++ codes ",")))))) ++ (d ++ codes ",\n"))
    ≡ (p ++ (comma ∷ (b ++ (comma ∷ (a ++ (comma ∷ (r ++ (comma ∷ (d ++ (comma ∷ [])))))))))) ++ (10 ∷ [])
priced_text p b a r d =
    rw (
      append_assoc p (comma ∷ (b ++ (comma ∷ (a ++ (comma ∷ (r ++ (comma ∷ (d ++ (comma ∷ []))))))))) (10 ∷ []),
      append_assoc b (comma ∷ (a ++ (comma ∷ (r ++ (comma ∷ (d ++ (comma ∷ []))))))) (10 ∷ []),
      append_assoc a (comma ∷ (r ++ (comma ∷ (d ++ (comma ∷ []))))) (10 ∷ []),
      append_assoc r (comma ∷ (d ++ (comma ∷ []))) (10 ∷ []),
      append_assoc d (comma ∷ []) (10 ∷ []),
      append_assoc b (codes "," ++ (a ++ (codes "," ++ (r ++ codes ",")))) (d ++ codes ",\n"),
      append_assoc a (codes "," ++ (r ++ codes ",")) (d ++ codes ",\n"),
      append_assoc r (codes ",") (d ++ codes ",\n"),
    ) refl

fault_text : (name : List ℕ) → codes ",,,,," ++ (name ++ codes "\n") ≡ (comma ∷ comma ∷ comma ∷ comma ∷ comma ∷ (name ++ [])) ++ (10 ∷ [])
fault_text name = rw (append-nil name) refl

columns_row : (rating : Rating) → columns_text rating ≡ row_text default_writer (columns_of rating)
unfolding fields_text is_blank
columns_row (Priced prefix charge paid) = priced_text (cell prefix) (cell (decimal charge.before)) (cell (decimal charge.after)) (cell (decimal charge.price)) (cell (difference charge.price paid))
columns_row (Faulty why) = fault_text (cell (rate_kind_name why))

several_columns : (rating : Rating) → IsSeveral (columns_of rating)
several_columns (Priced prefix charge paid) = record { first = prefix; second = decimal charge.before; more = _; is = refl }
several_columns (Faulty why) = record { first = []; second = []; more = _; is = refl }

-- the line of a row, in the two pieces in which it is written
pub row_written : (now : List ℕ) (fields : Fields) (rating : Rating) → (now ++ with_commas (shown fields)) ++ columns_text rating ≡ now ++ rating_line fields rating
row_written now fields rating =
    append_assoc now (with_commas (shown fields)) (columns_text rating)
    ∙ ap (λ l. now ++ l) (ap (λ l. with_commas (shown fields) ++ l) (columns_row rating) ∙ commas_before (shown fields) (columns_of rating) (several_columns rating))

-- the line of a header
header_written : (header : Fields) → with_commas header ++ codes "prefix,before,after,price,difference,fault\n" ≡ header_line header
unfolding fields_text is_blank
header_written header = commas_before header names (record { first = codes "prefix"; second = codes "before"; more = _; is = refl })

pub appended_names : {X E : Type 0} (answer : Result X E) (new old : List ℕ) → new ≡ (if is_ok answer then old ++ codes "prefix,before,after,price,difference,fault\n" else old)
    → OnOk answer ((header : Fields) → old ≡ with_commas header → new ≡ header_line header)
appended_names (Ok done) new old is = λ header fields. is ∙ ap (λ l. l ++ codes "prefix,before,after,price,difference,fault\n") fields ∙ header_written header
appended_names (Err why) new old is = tt

-- ---- decimals

plain_cell : (field : List ℕ) → IsPlain field → field ≡ cell field
plain_cell field plain = rw plain refl

pub decimal_cell : (number : ℕ) → number < 18446744073709551616 → decimal number ≡ cell (decimal number)
decimal_cell number small = plain_cell (decimal number) (decimals_plain number small)

minus_cell : (number : ℕ) → number < 18446744073709551616 → codes "-" ++ decimal number ≡ cell (codes "-" ++ decimal number)
minus_cell number small = let plain = decimals_plain number small in plain_cell (45 ∷ decimal number) plain

-- a number behind a minus
pub minus : (now : List ℕ) (number : ℕ) → number < 18446744073709551616 → (now ++ codes "-") ++ cell (decimal number) ≡ now ++ cell (codes "-" ++ decimal number)
minus now number small =
    append_assoc now (codes "-") (cell (decimal number)) ∙ ap (λ l. now ++ l) (ap (λ l. codes "-" ++ l) (sym (decimal_cell number small)) ∙ minus_cell number small)

-- where all went well the text is one, which is all
pub then_to : {X E : Type 0} (answer : Result X E) (new one all : List ℕ) → OnOk answer (new ≡ one) → one ≡ all → OnOk answer (new ≡ all)
then_to (Ok done) new one all is same = is ∙ same
then_to (Err why) new one all is same = tt
