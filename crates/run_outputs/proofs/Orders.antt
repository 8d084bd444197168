-- The rows of each part are in order, and in range, where those of the whole script are.
use Rattle.std.proofs.Common.{◌≡◌, ◌<◌, ◌+◌, ◌∙◌, ◌==◌, ℕ, Bool, true, false, cond, Option, List, [], ◌∷◌, length, map, refl, sym, subst, arith, All}
use Rattle.std.proofs.Math.ListN.{get_or-map}
use Rattle.std.proofs.lemmas.Bool.{and_parts, and_from}
use Rattle.std.proofs.lemmas.Bool.Decides.{nat_tests}
use Rattle.std.proofs.lemmas.List.{get_or_default, length-map}
use Rattle.std.proofs.lemmas.List.Elements.{All-filter}
use Rattle.std.specs.List.{filter}
use Rattle.std.specs.Prelude.{nat_le}
use Rattle.run_outputs.specs.Parts.{AreParts, part_of, part_rows}
use Rattle.run_texts.specs.Views.{rows_are_in_order, happens_of}
use Rattle.run_texts.specs.declared.script.ScriptRow.{ScriptRow}

sooner : (start later : ℕ) (rows : List ScriptRow) → nat_le start later ≡ true → rows_are_in_order later rows ≡ true → rows_are_in_order start rows ≡ true
sooner start later [] before are = refl
sooner start later (row ∷ rows) before are =
    let (first, rest) = and_parts (nat_le later row.at) (rows_are_in_order row.at rows) are in
    and_from (nat_le start row.at) (rows_are_in_order row.at rows) (grind (arith, nat_tests)) rest

one : (start : ℕ) (row : ScriptRow) (kept : List ScriptRow) (passes : Bool) → nat_le start row.at ≡ true → rows_are_in_order row.at kept ≡ true
    → rows_are_in_order start (cond passes (row ∷ kept) kept) ≡ true
one start row kept true first rest = and_from (nat_le start row.at) (rows_are_in_order row.at kept) first rest
one start row kept false first rest = sooner start row.at kept first rest

filtered : (p : ScriptRow → Bool) (start : ℕ) (rows : List ScriptRow) → rows_are_in_order start rows ≡ true → rows_are_in_order start (filter p rows) ≡ true
filtered p start [] are = refl
filtered p start (row ∷ rows) are =
    let (first, rest) = and_parts (nat_le start row.at) (rows_are_in_order row.at rows) are in
    one start row (filter p rows) (p row) first (filtered p row.at rows rest)

-- what holds of the rows of each part holds of each pile
pub of_each : {V : Type 0} (inside : V → List ScriptRow) (P : List ScriptRow → Type 0) (firsts : List ℕ) (payer : ℕ → Option ℕ) (rows : List ScriptRow) (piles : List V)
    → AreParts firsts payer rows (map inside piles) → ((part : ℕ) → P (part_rows firsts payer rows part)) → All (λ pile. P (inside pile)) piles
of_each inside P firsts payer rows piles are holds = λ k d within.
    let here : k < 1 + length firsts = let count = are.count in let as_many = length-map piles inside in omega (arith, count, as_many, within) in
    let there : k < length (map inside piles) = let count = are.count in omega (arith, count, here) in
    subst P (sym (sym (get_or-map inside piles k d) ∙ get_or_default (map inside piles) k (inside d) [] there ∙ are.each k here)) (holds k)

pub in_order : (firsts : List ℕ) (payer : ℕ → Option ℕ) (rows : List ScriptRow) (part : ℕ) → rows_are_in_order 0 rows ≡ true → rows_are_in_order 0 (part_rows firsts payer rows part) ≡ true
in_order firsts payer rows part are = filtered (λ row. part_of firsts payer (happens_of row.what) == part) 0 rows are

pub in_range : (P : ScriptRow → Type 0) (firsts : List ℕ) (payer : ℕ → Option ℕ) (rows : List ScriptRow) (part : ℕ) → All P rows → All P (part_rows firsts payer rows part)
in_range P firsts payer rows part all = All-filter (λ row. part_of firsts payer (happens_of row.what) == part) P rows all
