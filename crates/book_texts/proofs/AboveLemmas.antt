-- The rows of a table down to the one that was read last come to what was read of them.
use Rattle.std.proofs.Common.{◌≡◌, ℕ, ◌+◌, true, List, [], ◌∷◌, ◌++◌, length, Option, Some, None, Result, Ok, Err, refl, sym, ap, subst, ◌∙◌, arith}
use Rattle.std.proofs.lemmas.List.{append_assoc, length-append}
use Rattle.csv.specs.Records.{fields_of}
use Rattle.table_core.specs.Reading.{HasRows, IsNextRow, Opens, StepsRow}
use Rattle.table_core.specs.Rows.{Fields, rows_of}
use Rattle.table_core.specs.Tables.{TableForm, own_fault, rows_from, table_of, then_rows, unless_own, which_header}
use Rattle.table_core.specs.declared.fault.RowKind.{RowKind}
use Rattle.table_core.specs.declared.table.Table.{Table}
use Rattle.table_core.proofs.TableLemmas.{no_fault}

module _ {S K F : Type 0} (form : TableForm S K F) where
  rows_more_by : (number : ℕ) (own : Option RowKind) (judged : Result S K) (rest longer : S → Result S F) (all next : S)
      → ((read : S) → rest read ≡ Ok all → longer read ≡ Ok next)
      → then_rows form number (unless_own form own judged) rest ≡ Ok all → then_rows form number (unless_own form own judged) longer ≡ Ok next
  rows_more_by number None (Ok read) rest longer all next so is = so read is
  rows_more_by number None (Err why) rest longer all next so is = cc
  rows_more_by number (Some why) judged rest longer all next so is = cc

  -- one row more
  rows_more : (header width number : ℕ) (read : S) (rows : List Fields) (fields : Fields) (all next : S) → rows_from form header width number read rows ≡ Ok all
      → own_fault form.most_rows width (number + length rows) fields ≡ None → form.judge header all fields ≡ Ok next
      → rows_from form header width number read (rows ++ fields ∷ []) ≡ Ok next
  unfolding rows_from
  rows_more header width number read [] fields all next is fresh judged =
      let N : ℕ → Type 0 = λ n. own_fault form.most_rows width n fields ≡ None in
      let here : own_fault form.most_rows width number fields ≡ None = subst N (omega arith) fresh in
      let same : read ≡ all = cc in
      rw (same, here, judged) refl
  rows_more header width number read (row ∷ rows) fields all next is fresh judged =
      let N : ℕ → Type 0 = λ n. own_fault form.most_rows width n fields ≡ None in
      rows_more_by number (own_fault form.most_rows width number row) (form.judge header read row) _ _ all next
      (λ one rest. rows_more header width (number + 1) one rows fields all next rest (subst N (omega arith) fresh) judged) is

  table_below : (first : Fields) (rows : List Fields) (header width : ℕ) (read : S) → which_header form.headers first ≡ Some header → width ≡ length first
      → rows_from form header width 2 form.start rows ≡ Ok read → table_of form (first ∷ rows) ≡ Ok read
  unfolding table_of
  table_below first rows header width read which wide is = rw (which, ← wide) is

  module _ {R : Type 0} (remaining : R → Option (List ℕ)) where
    -- the rows above those that are left
    pub record IsAbove (table : Table R) (read : S) (text : List ℕ) : Type 0 where
      pub first : Fields
      pub rows : List Fields
      pub left : List Fields
      pub rows_are : rows_of text ≡ first ∷ (rows ++ left)
      pub has : HasRows remaining table left
      pub which : which_header form.headers first ≡ Some table.header
      pub wide : table.width ≡ length first
      pub number : table.number ≡ length rows + 1
      pub is : rows_from form table.header table.width 2 form.start rows ≡ Ok read

    -- what they come to
    pub above_is : (table : Table R) (read : S) (text : List ℕ) (above : IsAbove table read text) → table_of form (above.first ∷ above.rows) ≡ Ok read
    above_is table read text above = table_below above.first above.rows table.header table.width read above.which above.wide above.is

    -- below the header
    pub at_first : (table : Table R) (text : List ℕ) → table.number ≡ 1 → Opens remaining form.headers (Ok table) (rows_of text) → IsAbove table form.start text
    unfolding rows_from
    at_first table text number (first, left, rows_are, which, wide, has) =
        record { first = first; rows = []; left = left; rows_are = rows_are; has = has; which = which; wide = wide; number = number; is = refl }

    -- a row further
    pub next_above : (before after : Table R) (read now : S) (text : List ℕ) → before.most_rows ≡ form.most_rows → IsNextRow before after → StepsRow remaining before after (Ok true)
        → form.judge before.header read (fields_of after.rows.row) ≡ Ok now → (above : IsAbove before read text)
        → (next : IsAbove after now text) × (next.first ≡ above.first) × (next.rows ≡ above.rows ++ fields_of after.rows.row ∷ [])
    next_above before after read now text most_rows next steps judged above =
        let fields = fields_of after.rows.row in
        let (rest, left_are, has) = steps above.left above.has in
        let fresh : own_fault form.most_rows before.width (2 + length above.rows) fields ≡ None =
        no_fault form.most_rows before.width (2 + length above.rows) fields (next.width ∙ next.same.width)
        (omega (arith, next.within, next.number, next.same.most_rows, most_rows, above.number)) in (
          record {
            first = above.first;
            rows = above.rows ++ fields ∷ [];
            left = rest;
            rows_are = above.rows_are ∙ ap (λ l. above.first ∷ l) (ap (λ l. above.rows ++ l) left_are ∙ sym (append_assoc above.rows (fields ∷ []) rest));
            has = has;
            which = rw next.same.header above.which;
            wide = next.same.width ∙ above.wide;
            number = omega (arith, next.number, above.number, length-append above.rows (fields ∷ []));
            is = rw (next.same.header, next.same.width) (rows_more before.header before.width 2 form.start above.rows fields read now above.is fresh judged);
          },
          refl,
          refl,
        )
