-- What a reader of a script keeps beside the rows.
use Rattle.std.proofs.Common.{◌≡◌, ◌==◌, ◌≤◌, ℕ, Bool, true, false, List, [], ◌∷◌, ◌++◌, refl, reverse, sym, arith}
use Rattle.std.specs.Prelude.{◌||◌, cond, map, nat_le}
use Rattle.std.specs.BTreeSet.{BTreeSet, IsEmpty, contains}
use Rattle.std.specs.Ordering.{nat_cmp}
use Rattle.std.proofs.lemmas.Bool.Decides.{nat_tests}
use Rattle.std.proofs.lemmas.List.Elements.{All-push}
use Rattle.std.proofs.lemmas.List.{map-append, reverse-append, reverse-reverse}
use Rattle.std.proofs.lemmas.Bool.{and_parts, and_from}
use Rattle.price_core.specs.declared.times.TheConstants.{MAX_MOMENT}
use Rattle.tariff_core.proofs.IndexLemmas.{is_eq-nat_cmp}
use Rattle.run_texts.specs.Happenings.{RowData, Happens, Meets, Recharges, Starts, is_in_time}
use Rattle.run_texts.specs.Scripts.{is_started, starts}
use Rattle.run_texts.specs.ScriptsRead.{AreRowsOf, last_moment_of}
use Rattle.run_texts.specs.Starts.{HasCalls, NotesStart}
use Rattle.run_texts.specs.Views.{happens_of, rows_are_in_order, row_data}
use Rattle.run_texts.specs.declared.script.ScriptRow.{ScriptRow}

-- ---- the sets

one_more : (new old : Bool) → cond new true old ≡ (old || new)
one_more true true = refl
one_more true false = refl
one_more false true = refl
one_more false false = refl

no_more : (old : Bool) → old ≡ (old || false)
no_more true = refl
no_more false = refl

call_more : (before after : BTreeSet ℕ) (what : Happens) (q : ℕ) (is : Bool) → NotesStart what before after → contains nat_cmp before q ≡ is
    → contains nat_cmp after q ≡ (is || starts q what)
call_more before after (Starts call calling called) q is notes has = rw (notes.0 q, is_eq-nat_cmp call q, has) (one_more (call == q) is)
call_more before after (Meets call event) q is notes has = rw (notes, has) (no_more is)
call_more before after (Recharges account amount until) q is notes has = rw (notes, has) (no_more is)

calls_more : (before after : BTreeSet ℕ) (row : RowData) (earlier : List RowData) → NotesStart row.what before after → HasCalls before earlier → HasCalls after (row ∷ earlier)
calls_more before after row earlier notes has q = call_more before after row.what q (is_started q earlier) notes (has q)

-- ---- the rows so far, newest first

abbrev earlier_of : List ScriptRow → List RowData
earlier_of rows = reverse (map row_data rows)

data_more : (rows : List ScriptRow) (row : ScriptRow) → map row_data (rows ++ row ∷ []) ≡ map row_data rows ++ row_data row ∷ []
data_more rows row = map-append row_data rows (row ∷ [])

earlier_more : (rows : List ScriptRow) (row : ScriptRow) → earlier_of (rows ++ row ∷ []) ≡ row_data row ∷ earlier_of rows
earlier_more rows row = rw (data_more rows row) (reverse-append (map row_data rows) (row_data row ∷ []))

-- ---- the order of the moments

pub end_more : (start : ℕ) (rows : List ScriptRow) (row : ScriptRow) → last_moment_of start (rows ++ row ∷ []) ≡ row.at
end_more start [] row = refl
end_more start (first ∷ rows) row = end_more first.at rows row

pub order_more : (start : ℕ) (rows : List ScriptRow) (row : ScriptRow) → rows_are_in_order start rows ≡ true → last_moment_of start rows ≤ row.at
    → rows_are_in_order start (rows ++ row ∷ []) ≡ true
order_more start [] row ordered after = and_from (nat_le start row.at) true (grind (arith, nat_tests, after)) refl
order_more start (first ∷ rows) row ordered after =
    let sections = and_parts (nat_le start first.at) (rows_are_in_order first.at rows) ordered in
    and_from (nat_le start first.at) (rows_are_in_order first.at (rows ++ row ∷ [])) sections.0 (order_more first.at rows row sections.1 after)

-- ---- the rows

-- the rows so far, in turn
pub rows_in_turn : (rows : List ScriptRow) → reverse (earlier_of rows) ≡ map row_data rows
rows_in_turn rows = reverse-reverse (map row_data rows)

-- ---- a script, row after row

-- before the first row
pub no_rows : (calls : BTreeSet ℕ) (rows : List ScriptRow) → IsEmpty calls → rows ≡ [] → AreRowsOf [] calls 0 rows
no_rows calls rows none is = rw is (record {
  say = refl;
  started = λ call. rw none refl;
  before = refl;
  ends = refl;
  in_range = λ k d below. absurd (omega (arith, below));
  in_time = λ k d below. absurd (omega (arith, below));
  in_order = refl;
})

pub row_more : (earlier : List RowData) (calls after : BTreeSet ℕ) (last : ℕ) (rows : List ScriptRow) (row : ScriptRow) → AreRowsOf earlier calls last rows → NotesStart (happens_of row.what) calls after
    → row.at ≤ MAX_MOMENT → is_in_time (happens_of row.what) ≡ true → last ≤ row.at → AreRowsOf (row_data row ∷ earlier) after row.at (rows ++ row ∷ [])
row_more earlier calls after last rows row are notes in_range in_time in_turn = record {
  say = rw are.say (sym (earlier_more rows row));
  started = calls_more calls after (row_data row) earlier notes are.started;
  before = refl;
  ends = sym (end_more 0 rows row);
  in_range = All-push (λ (row : ScriptRow). row.at ≤ MAX_MOMENT) rows row are.in_range in_range;
  in_time = All-push (λ (row : ScriptRow). is_in_time (happens_of row.what) ≡ true) rows row are.in_time in_time;
  in_order = order_more 0 rows row are.in_order (rw are.ends at in_turn);
}
