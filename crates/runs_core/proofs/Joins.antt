-- Lists that go on with others, one after the other.
use Rattle.std.proofs.Common.{◌≡◌, ◌<◌, ℕ, ◌+◌, List, [], ◌∷◌, ◌++◌, length, length-append, map, refl, ap, sym, ◌∙◌, arith, suc, zero}
use Rattle.std.proofs.Math.ListN.{get_or, get_or-map, set}
use Rattle.std.proofs.lemmas.List.{append-nil, append_assoc, length-map, map-set}
use Rattle.runs_core.specs.Crews.{joined_lists}

pub joined_none : {X : Type 0} (lists : List (List X)) → joined_lists lists [] ≡ lists
joined_none [] = refl
joined_none (xs ∷ lists) = refl

pub joined_length : {X : Type 0} (lists more : List (List X)) → length (joined_lists lists more) ≡ length lists
joined_length [] more = refl
joined_length (xs ∷ lists) [] = refl
joined_length (xs ∷ lists) (ys ∷ more) = ap suc (joined_length lists more)

joined_more : {X : Type 0} (lists done : List (List X)) (ys d : List X) → length done < length lists
    → set (joined_lists lists done) (length done) (get_or (joined_lists lists done) (length done) d ++ ys) ≡ joined_lists lists (done ++ ys ∷ [])
joined_more [] done ys d below = absurd (omega (arith, below))
joined_more (xs ∷ lists) [] ys d below = ap (λ rest. (xs ++ ys) ∷ rest) (sym (joined_none lists))
joined_more (xs ∷ lists) (first ∷ done) ys d below = ap (λ rest. (xs ++ first) ∷ rest) (joined_more lists done ys d (omega (arith, below)))

-- the list at a place, where there are as many
pub joined_at : {X : Type 0} (lists more : List (List X)) (place : ℕ) → length more ≡ length lists → get_or (joined_lists lists more) place [] ≡ get_or lists place [] ++ get_or more place []
joined_at [] [] place many = refl
joined_at [] (ys ∷ more) place many = absurd (omega (arith, many))
joined_at (xs ∷ lists) [] place many = absurd (omega (arith, many))
joined_at (xs ∷ lists) (ys ∷ more) zero many = refl
joined_at (xs ∷ lists) (ys ∷ more) (suc place) many = joined_at lists more place (omega (arith, many))

-- the lists before a place have gone on, and the rest is yet to come
pub record AreJoined {X : Type 0} (lists more rest : List (List X)) (at : ℕ) (now : List (List X)) : Type 0 where
  pub done : List (List X)
  pub split : done ++ rest ≡ more
  pub count : at ≡ length done
  pub joined_so : now ≡ joined_lists lists done

pub none_joined : {X : Type 0} (lists more rest : List (List X)) → rest ≡ more → AreJoined lists more rest 0 lists
none_joined lists more rest whole = record { done = []; split = whole; count = refl; joined_so = sym (joined_none lists) }

-- the list of the next
pub has_list : {V X : Type 0} (inside : V → List X) (lists more : List (List X)) (ys : List X) (rest : List (List X)) (at : ℕ) (now : List V)
    → length more ≡ length lists → AreJoined lists more (ys ∷ rest) at (map inside now) → at < length now
has_list inside lists more ys rest at now enough are =
    let here : length (map inside now) ≡ length lists = ap length are.joined_so ∙ joined_length lists are.done in
    let all : length (are.done ++ ys ∷ rest) ≡ length more = ap length are.split in
    let parts = length-append are.done (ys ∷ rest) in
    omega (arith, here, all, parts, enough, length-map now inside, are.count)

-- the list at the next place goes on
pub joined_next : {V X : Type 0} (inside : V → List X) (lists done : List (List X)) (ys : List X) (at : ℕ) (now : List V) (one new : V)
    → map inside now ≡ joined_lists lists done → at ≡ length done → length done < length lists → one ≡ get_or now at one → inside new ≡ inside one ++ ys
    → map inside (set now at new) ≡ joined_lists lists (done ++ ys ∷ [])
joined_next inside lists done ys at now one new so count below is grown =
    let before : inside one ≡ get_or (joined_lists lists done) (length done) (inside one) =
    ap inside is ∙ sym (get_or-map inside now at one) ∙ ap (λ now. get_or now at (inside one)) so ∙ ap (λ n. get_or (joined_lists lists done) n (inside one)) count in
    map-set inside now at new
    ∙ ap (λ list. set (map inside now) at list) (grown ∙ ap (λ list. list ++ ys) before)
    ∙ ap (λ now. set now at (get_or (joined_lists lists done) (length done) (inside one) ++ ys)) so
    ∙ ap (λ n. set (joined_lists lists done) n (get_or (joined_lists lists done) (length done) (inside one) ++ ys)) count
    ∙ joined_more lists done ys (inside one) below

pub one_joined : {V X : Type 0} (inside : V → List X) (lists more : List (List X)) (ys : List X) (rest : List (List X)) (at : ℕ) (now : List V) (one new : V)
    → length more ≡ length lists → AreJoined lists more (ys ∷ rest) at (map inside now) → one ≡ get_or now at one → inside new ≡ inside one ++ ys
    → AreJoined lists more rest (at + 1) (map inside (set now at new))
one_joined inside lists more ys rest at now one new enough are is grown =
    let below = has_list inside lists more ys rest at now enough are in
    let here : length (map inside now) ≡ length lists = ap length are.joined_so ∙ joined_length lists are.done in
    record {
      done = are.done ++ ys ∷ [];
      split = append_assoc are.done (ys ∷ []) rest ∙ are.split;
      count = ap (λ n. n + 1) are.count ∙ sym (length-append are.done (ys ∷ []));
      joined_so = joined_next inside lists are.done ys at now one new are.joined_so are.count (omega (arith, below, here, length-map now inside, are.count)) is grown;
    }

pub all_joined : {X : Type 0} (lists more rest : List (List X)) (at : ℕ) (now : List (List X)) → rest ≡ [] → AreJoined lists more rest at now → now ≡ joined_lists lists more
all_joined lists more rest at now none are =
    are.joined_so ∙ ap (joined_lists lists) (sym (append-nil are.done) ∙ ap (λ r. are.done ++ r) (sym none) ∙ are.split)
