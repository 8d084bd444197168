-- Items are laid out on piles, one after the other.
use Rattle.std.proofs.Common.{◌≡◌, ◌<◌, ℕ, ◌+◌, List, [], ◌∷◌, ◌++◌, length, length-append, map, refl, ap, sym, ◌∙◌, arith, suc}
use Rattle.std.proofs.Math.ListN.{get_or, get_or-map, set}
use Rattle.std.proofs.lemmas.List.{append_assoc, length-map, map-set}
use Rattle.runs_core.specs.LaidOut.{laid_out}

pub none_laid_out_behind : {X : Type 0} (piles : List (List X)) → laid_out piles [] ≡ piles
none_laid_out_behind [] = refl
none_laid_out_behind (pile ∷ piles) = refl

pub laid_out_length : {X : Type 0} (piles : List (List X)) (items : List X) → length (laid_out piles items) ≡ length piles
laid_out_length [] items = refl
laid_out_length (pile ∷ piles) [] = refl
laid_out_length (pile ∷ piles) (item ∷ items) = ap suc (laid_out_length piles items)

pub laid_out_more : {X : Type 0} (piles : List (List X)) (done : List X) (item : X) (d : List X) → length done < length piles
    → set (laid_out piles done) (length done) (get_or (laid_out piles done) (length done) d ++ item ∷ []) ≡ laid_out piles (done ++ item ∷ [])
laid_out_more [] done item d below = absurd (omega (arith, below))
laid_out_more (pile ∷ piles) [] item d below = ap (λ rest. (pile ++ item ∷ []) ∷ rest) (sym (none_laid_out_behind piles))
laid_out_more (pile ∷ piles) (first ∷ done) item d below =
    ap (λ rest. (pile ++ first ∷ []) ∷ rest) (laid_out_more piles done item d (omega (arith, below)))

-- the items before a place are laid out, and the rest is yet to come
pub record AreLaidOut {X : Type 0} (piles : List (List X)) (items rest : List X) (at : ℕ) (now : List (List X)) : Type 0 where
  pub done : List X
  pub split : done ++ rest ≡ items
  pub count : at ≡ length done
  pub laid_out_so : now ≡ laid_out piles done

pub none_laid_out : {X : Type 0} (piles : List (List X)) (items rest : List X) → rest ≡ items → AreLaidOut piles items rest 0 piles
none_laid_out piles items rest whole = record { done = []; split = whole; count = refl; laid_out_so = sym (none_laid_out_behind piles) }

-- the pile of the next item
pub has_pile : {V X : Type 0} (inside : V → List X) (piles : List (List X)) (items : List X) (item : X) (rest : List X) (at : ℕ) (now : List V)
    → length items ≡ length piles → AreLaidOut piles items (item ∷ rest) at (map inside now) → at < length now
has_pile inside piles items item rest at now enough laid_out_now =
    let here : length (map inside now) ≡ length piles = ap length laid_out_now.laid_out_so ∙ laid_out_length piles laid_out_now.done in
    let all : length (laid_out_now.done ++ item ∷ rest) ≡ length items = ap length laid_out_now.split in
    let parts = length-append laid_out_now.done (item ∷ rest) in
    omega (arith, here, all, parts, enough, length-map now inside, laid_out_now.count)

pub one_laid_out : {V X : Type 0} (inside : V → List X) (piles : List (List X)) (items : List X) (item : X) (rest : List X) (at : ℕ) (now : List V) (pile new : V)
    → length items ≡ length piles → AreLaidOut piles items (item ∷ rest) at (map inside now) → pile ≡ get_or now at pile → inside new ≡ inside pile ++ item ∷ []
    → AreLaidOut piles items rest (at + 1) (map inside (set now at new))
one_laid_out inside piles items item rest at now pile new enough laid_out_now is grown =
    let below = has_pile inside piles items item rest at now enough laid_out_now in
    let before : inside pile ≡ get_or (laid_out piles laid_out_now.done) (length laid_out_now.done) (inside pile) =
    ap inside is ∙ sym (get_or-map inside now at pile) ∙ ap (λ now. get_or now at (inside pile)) laid_out_now.laid_out_so ∙ ap (λ n. get_or (laid_out piles laid_out_now.done) n (inside pile)) laid_out_now.count in
    record {
      done = laid_out_now.done ++ item ∷ [];
      split = append_assoc laid_out_now.done (item ∷ []) rest ∙ laid_out_now.split;
      count = ap (λ n. n + 1) laid_out_now.count ∙ sym (length-append laid_out_now.done (item ∷ []));
      laid_out_so = map-set inside now at new
          ∙ ap (λ pile. set (map inside now) at pile) (grown ∙ ap (λ pile. pile ++ item ∷ []) before)
          ∙ ap (λ now. set now at (get_or (laid_out piles laid_out_now.done) (length laid_out_now.done) (inside pile) ++ item ∷ [])) laid_out_now.laid_out_so
          ∙ ap (λ n. set (laid_out piles laid_out_now.done) n (get_or (laid_out piles laid_out_now.done) (length laid_out_now.done) (inside pile) ++ item ∷ [])) laid_out_now.count
          ∙ laid_out_more piles laid_out_now.done item (inside pile) (let here : length (map inside now) ≡ length piles = ap length laid_out_now.laid_out_so ∙ laid_out_length piles laid_out_now.done in
          omega (arith, below, here, length-map now inside, laid_out_now.count));
    }
