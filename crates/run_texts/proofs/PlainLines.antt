-- A line of plain bytes is one row: what is between its commas.
use Rattle.std.proofs.Common.{◌≡◌, ℕ, ◌<◌, Bool, true, false, Option, None, List, [], ◌∷◌, ◌++◌, length, map, refl, sym, append-nil, arith}
use Rattle.std.specs.Prelude.{◌==◌, codes}
use Rattle.std.specs.Iterator.{Yields}
use Rattle.std.specs.List.{All, list_all, onto_first, slice_split}
use Rattle.std.proofs.lemmas.Bool.{and_parts}
use Rattle.std.proofs.lemmas.Bool.Decides.{nat_tests}
use Rattle.std.proofs.lemmas.Iterator.{YieldsList}
use Rattle.std.proofs.lemmas.Iterator.Consumers.{YieldsList-end}
use Rattle.std.proofs.lemmas.List.Elements.{All-cons, All-head, All-nil, All-tail}
use Rattle.std.proofs.lemmas.List.Splits.{join_with_byte-slice_split, slice_split-cons_no, slice_split-cons_yes}
use Rattle.csv.specs.Reading.{strip_bom}
use Rattle.csv.specs.Writing.{default_writer, needs_byte}
use Rattle.run_texts.specs.Lines.{is_plain}
use Rattle.table_core.proofs.PrintedLemmas.{tables_read}
use Rattle.table_core.specs.Printed.{IsPlain, IsPlainRow, line_of, lines_of}
use Rattle.table_core.specs.Rows.{Fields, rows_of}

-- whether a byte is a comma
abbrev pub is_comma : ℕ → Bool
is_comma byte = byte == 44

-- what is between the commas of a text
abbrev pub parts_of : List ℕ → Fields
parts_of text = slice_split is_comma text

-- ---- the parts need no quotes

is_bare : (byte : ℕ) → is_plain byte ≡ true → is_comma byte ≡ false → needs_byte default_writer byte ≡ false
is_bare byte plain other = grind (arith, nat_tests)

longer : (byte : ℕ) (parts : Fields) → needs_byte default_writer byte ≡ false → All IsPlain parts → All IsPlain (onto_first byte parts)
longer byte [] bare all = All-cons IsPlain (byte ∷ []) [] (rw bare refl) (All-nil IsPlain)
longer byte (part ∷ parts) bare all =
    All-cons IsPlain (byte ∷ part) parts (rw (bare, All-head IsPlain part parts all) refl) (All-tail IsPlain part parts all)

one_more : (byte : ℕ) (text : List ℕ) (comma : Bool) → is_comma byte ≡ comma → is_plain byte ≡ true
    → All IsPlain (parts_of text) → All IsPlain (parts_of (byte ∷ text))
one_more byte text true is plain all = rw (slice_split-cons_yes is_comma byte text is) (All-cons IsPlain [] (parts_of text) refl all)
one_more byte text false is plain all = rw (slice_split-cons_no is_comma byte text is) (longer byte (parts_of text) (is_bare byte plain is) all)

parts_plain : (text : List ℕ) → list_all is_plain text ≡ true → All IsPlain (parts_of text)
parts_plain [] plain = All-cons IsPlain [] [] refl (All-nil IsPlain)
parts_plain (byte ∷ text) plain =
    let (first, others) = and_parts (is_plain byte) (list_all is_plain text) plain in
    one_more byte text (is_comma byte) refl first (parts_plain text others)

-- ---- no byte order mark

pub low_is_no_mark : (byte : ℕ) (rest : List ℕ) → byte < 128 → strip_bom (byte ∷ rest) ≡ byte ∷ rest
unfolding strip_bom
low_is_no_mark byte [] low = refl
low_is_no_mark byte (c ∷ []) low = refl
low_is_no_mark byte (c ∷ d ∷ rest) low = grind (arith, nat_tests)

low : (byte : ℕ) → is_plain byte ≡ true → byte < 128
low byte plain = grind (arith, nat_tests)

unmarked : (text : List ℕ) → list_all is_plain text ≡ true → strip_bom (text ++ codes "\n") ≡ text ++ codes "\n"
unmarked [] plain = low_is_no_mark 10 [] (omega arith)
unmarked (byte ∷ text) plain = low_is_no_mark byte (text ++ codes "\n") (low byte (and_parts _ (list_all is_plain text) plain).0)

-- ---- the row

is_line : (text : List ℕ) → lines_of (parts_of text ∷ []) ≡ text ++ codes "\n"
is_line text = rw (append-nil (line_of (parts_of text)), join_with_byte-slice_split 44 text) refl

pub line_is_row : (text : List ℕ) → list_all is_plain text ≡ true → 1 < length (parts_of text) → rows_of (text ++ codes "\n") ≡ parts_of text ∷ []
line_is_row text plain several =
    rw (sym (is_line text))
    (tables_read (parts_of text ∷ [])
    (All-cons IsPlainRow (parts_of text) [] (record { several = several; plain = parts_plain text plain }) (All-nil IsPlainRow))
    (rw (is_line text) (unmarked text plain)))

-- ---- a loop over the parts

-- at its end a loop has yielded all that its iterator gives
pub all_yielded : {S A B : Type 0} {steps : S → Option A → S → Type 0} {v : A → B} {start : S} {all : List B} (items : List A) (at end : S) (last : Option A)
    → Yields steps start items at → last ≡ None → steps at last end → YieldsList steps v start all → map v items ≡ all
all_yielded items at end last yields ended step list = (YieldsList-end list items at yields last end ended step).0
