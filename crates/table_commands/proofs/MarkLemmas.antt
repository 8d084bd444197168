-- A byte order mark at the start of a table.
use Rattle.std.proofs.Common.{◌≡◌, ◌∙◌, ◌+◌, ◌<◌, ◌≤◌, ℕ, zero, suc, Bool, true, false, List, [], ◌∷◌, ◌++◌, length, take, drop, get_or, length-drop, refl, subst, sym, ap, arith}
use Rattle.std.proofs.lemmas.List.{drop-drop, take_all}
use Rattle.std.specs.Prelude.{if◌then◌else◌}
use Rattle.csv.specs.Reading.{default_config, is_bom, records, strip_bom}
use Rattle.table_core.specs.Rows.{rows_of}
use Rattle.table_commands.specs.RowStarts.{BeginsLine, BeginsRow, HasFewer}
use Rattle.table_commands.specs.Walks.{BeginsRowBehind, HasFewerBehind, IsMark}

three_more : (a b c count : ℕ) (rest : List ℕ) (n : ℕ) → n ≡ suc (suc (suc count)) → take n (a ∷ b ∷ c ∷ rest) ≡ a ∷ b ∷ c ∷ take count rest
three_more a b c count rest n is = rw is refl

stripped : (a b c : ℕ) (rest : List ℕ) (bom : Bool) → is_bom a b c ≡ bom → strip_bom (a ∷ b ∷ c ∷ rest) ≡ (if bom then rest else a ∷ b ∷ c ∷ rest)
unfolding strip_bom
stripped a b c rest bom is = rw is refl

pub marked : (text : List ℕ) → 3 ≤ length text → is_bom (get_or text 0 0) (get_or text 1 0) (get_or text 2 0) ≡ true → IsMark 3 text
marked [] long is = absurd (omega (arith, long))
marked (a ∷ []) long is = absurd (omega (arith, long))
marked (a ∷ b ∷ []) long is = absurd (omega (arith, long))
marked (a ∷ b ∷ c ∷ rest) long is = λ count. ap strip_bom (three_more a b c count rest (3 + count) (omega arith)) ∙ stripped a b c (take count rest) true is

short : (text : List ℕ) → length text < 3 → (count : ℕ) → strip_bom (take count text) ≡ take count text
unfolding strip_bom
short [] few zero = refl
short [] few (suc count) = refl
short (a ∷ []) few zero = refl
short (a ∷ []) few (suc zero) = refl
short (a ∷ []) few (suc (suc count)) = refl
short (a ∷ b ∷ []) few zero = refl
short (a ∷ b ∷ []) few (suc zero) = refl
short (a ∷ b ∷ []) few (suc (suc zero)) = refl
short (a ∷ b ∷ []) few (suc (suc (suc count))) = refl
short (a ∷ b ∷ c ∷ rest) few count = absurd (omega (arith, few))

other : (a b c : ℕ) (rest : List ℕ) → is_bom a b c ≡ false → (count : ℕ) → strip_bom (take count (a ∷ b ∷ c ∷ rest)) ≡ take count (a ∷ b ∷ c ∷ rest)
unfolding strip_bom
other a b c rest is zero = refl
other a b c rest is (suc zero) = refl
other a b c rest is (suc (suc zero)) = refl
other a b c rest is (suc (suc (suc count))) = stripped a b c (take count rest) false is

from_none : (text : List ℕ) → ((count : ℕ) → strip_bom (take count text) ≡ take count text) → IsMark 0 text
from_none text same = λ count. ap (λ n. strip_bom (take n text)) (omega arith) ∙ same count

pub short_unmarked : (text : List ℕ) → length text < 3 → IsMark 0 text
short_unmarked text few = from_none text (short text few)

pub unmarked : (text : List ℕ) → 3 ≤ length text → is_bom (get_or text 0 0) (get_or text 1 0) (get_or text 2 0) ≡ false → IsMark 0 text
unmarked [] long is = absurd (omega (arith, long))
unmarked (a ∷ []) long is = absurd (omega (arith, long))
unmarked (a ∷ b ∷ []) long is = absurd (omega (arith, long))
unmarked (a ∷ b ∷ c ∷ rest) long is = from_none (a ∷ b ∷ c ∷ rest) (other a b c rest is)

-- ---- a row begins where it does behind the mark

module _ (mark row at : ℕ) (text : List ℕ) (marks : IsMark mark text) where
  stripped_text : strip_bom text ≡ drop mark text
  stripped_text =
      ap strip_bom (sym (take_all (mark + length text) text (omega arith))) ∙ marks (length text)
      ∙ take_all (length text) (drop mark text) (omega (arith, length-drop mark text))

  rows_text : rows_of text ≡ records default_config (drop mark text)
  unfolding rows_of
  rows_text = ap (records default_config) stripped_text

  rows_front : rows_of (take (mark + at) text) ≡ records default_config (take at (drop mark text))
  unfolding rows_of
  rows_front = ap (records default_config) (marks at)

  pub behind_mark : BeginsRowBehind (drop mark text) row at → BeginsRow text row (mark + at)
  behind_mark begins = record {
    above = ap (λ rows. length rows + 1) rows_front ∙ begins.above;
    whole = rows_text ∙ begins.whole ∙ ap (λ rows. rows ++ records default_config (drop at (drop mark text))) (sym rows_front)
        ∙ ap (λ rest. rows_of (take (mark + at) text) ++ records default_config rest) (drop-drop at mark text);
    begins = subst BeginsLine (drop-drop at mark text) begins.begins;
  }

  pub fewer_behind : HasFewerBehind (drop mark text) row → HasFewer text row
  fewer_behind few = λ some. rw rows_text (few some)
