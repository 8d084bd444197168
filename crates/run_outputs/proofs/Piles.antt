-- Rows are laid onto the piles of their parts.
use Rattle.std.proofs.Common.{◌≡◌, ◌==◌, ◌<◌, ◌≤◌, ◌+◌, ◌∙◌, ℕ, Bool, true, false, cond, Option, List, [], ◌∷◌, ◌++◌, length, map, refl, sym, ap, subst, get_or, take, arith}
use Rattle.std.proofs.Math.ListN.{get_or-map, set}
use Rattle.std.proofs.lemmas.Bool.{eqb-false, eqb-true}
use Rattle.std.proofs.lemmas.List.{append-nil, get_or-replicate, get_or_default, get_or-set_other, get_or-set_same, length-replicate, length-set, map-set, map_push, replicate_more, take_more}
use Rattle.std.proofs.lemmas.List.Elements.{filter-append}
use Rattle.std.specs.List.{filter}
use Rattle.std.specs.Prelude.{replicate}
use Rattle.run_outputs.specs.Parts.{AreParts, part_of}
use Rattle.run_texts.specs.Views.{happens_of}
use Rattle.run_texts.specs.declared.script.ScriptRow.{ScriptRow}

one_more : (p : ScriptRow → Bool) (done : List ScriptRow) (row : ScriptRow) (passes : Bool) → p row ≡ passes → filter p (done ++ row ∷ []) ≡ filter p done ++ cond passes (row ∷ []) []
one_more p done row passes is = filter-append p done (row ∷ []) ∙ rw is refl

module _ (firsts : List ℕ) (payer : ℕ → Option ℕ) (done : List ScriptRow) (row : ScriptRow) (piles : List (List ScriptRow)) (at : ℕ) (is : at ≡ part_of firsts payer (happens_of row.what))
    (below : at < length piles) (are : AreParts firsts payer done piles) where
  on_pile : (part : ℕ) (here : Bool) → (at == part) ≡ here → get_or (set piles at (get_or piles at [] ++ row ∷ [])) part [] ≡ get_or piles part [] ++ cond here (row ∷ []) []
  on_pile part true same =
      subst (λ k. get_or (set piles at (get_or piles at [] ++ row ∷ [])) k [] ≡ get_or piles k [] ++ row ∷ []) (eqb-true at part same)
      (get_or-set_same piles at (get_or piles at [] ++ row ∷ []) [] below)
  on_pile part false same =
      get_or-set_other piles at part (get_or piles at [] ++ row ∷ []) [] (λ other. eqb-false at part same (sym other)) ∙ sym (append-nil (get_or piles part []))

  pub laid : AreParts firsts payer (done ++ row ∷ []) (set piles at (get_or piles at [] ++ row ∷ []))
  laid = record {
    count = length-set piles at (get_or piles at [] ++ row ∷ []) ∙ are.count;
    each = λ part within.
        on_pile part (at == part) refl ∙ ap (λ rows. rows ++ cond (at == part) (row ∷ []) []) (are.each part within)
        ∙ sym (one_more (λ r. part_of firsts payer (happens_of r.what) == part) done row (at == part) (ap (λ k. k == part) (sym is)));
  }

-- the step of the loop
pub laid_next : {V : Type 0} (inside : V → List ScriptRow) (firsts : List ℕ) (payer : ℕ → Option ℕ) (rows : List ScriptRow) (i : ℕ) (row : ScriptRow) (piles : List V) (at : ℕ) (pile new : V)
    → i < length rows → row ≡ get_or rows i row → at ≡ part_of firsts payer (happens_of row.what) → at ≤ length firsts → pile ≡ get_or piles at pile → inside new ≡ inside pile ++ row ∷ []
    → AreParts firsts payer (take i rows) (map inside piles) → AreParts firsts payer (take (i + 1) rows) (map inside (set piles at new))
laid_next inside firsts payer rows i row piles at pile new within row_is is below pile_is grown are =
    let Are : List ScriptRow → List (List ScriptRow) → Type 0 = λ done now. AreParts firsts payer done now in
    let here : at < length (map inside piles) = omega (arith, below, are.count) in
    let before : inside pile ≡ get_or (map inside piles) at [] = ap inside pile_is ∙ sym (get_or-map inside piles at pile) ∙ get_or_default (map inside piles) at (inside pile) [] here in
    let next : take (i + 1) rows ≡ take i rows ++ row ∷ [] = take_more rows i row within ∙ ap (λ r. take i rows ++ r ∷ []) (sym row_is) in
    let there : map inside (set piles at new) ≡ set (map inside piles) at (get_or (map inside piles) at [] ++ row ∷ []) =
    map-set inside piles at new ∙ ap (λ p. set (map inside piles) at p) (grown ∙ ap (λ p. p ++ row ∷ []) before) in
    subst (λ done. Are done (map inside (set piles at new))) (sym next)
    (subst (λ now. Are (take i rows ++ row ∷ []) now) (sym there) (laid firsts payer (take i rows) row (map inside piles) at is here are))

-- no rows yet
pub none_laid : (firsts : List ℕ) (payer : ℕ → Option ℕ) (piles : List (List ScriptRow)) → piles ≡ replicate (1 + length firsts) [] → AreParts firsts payer [] piles
none_laid firsts payer piles is = record {
  count = ap length is ∙ length-replicate (1 + length firsts) [];
  each = λ part within. ap (λ p. get_or p part []) is ∙ get_or-replicate (1 + length firsts) part [] [] within;
}

-- one pile more, with nothing on it
pub pile_more : {V : Type 0} (inside : V → List ScriptRow) (piles more : List V) (pile : V) (n : ℕ) → more ≡ piles ++ pile ∷ [] → inside pile ≡ [] → map inside piles ≡ replicate n []
    → map inside more ≡ replicate (n + 1) []
pile_more inside piles more pile n is none are =
    ap (map inside) is ∙ map_push inside piles pile ∙ ap (λ p. map inside piles ++ p ∷ []) none ∙ ap (λ ps. ps ++ [] ∷ []) are ∙ replicate_more n []
