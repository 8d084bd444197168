-- Items that are handed out to the workers, one after the other.
use Rattle.std.proofs.Common.{◌≡◌, ◌≢◌, ◌<◌, ◌≤◌, ℕ, ◌+◌, ◌-◌, Bool, true, false, List, [], ◌∷◌, ◌++◌, length, length-append, map, refl, ap, sym, subst, ◌∙◌, arith, suc, zero, take}
use Rattle.std.specs.Prelude.{◌==◌, drop, filter, replicate}
use Rattle.std.specs.List.{HoldsAt}
use Rattle.std.proofs.Math.ListN.{get_or, get_or-map, set}
use Rattle.std.proofs.Math.Seq.{drop-append_seam}
use Rattle.std.proofs.lemmas.Bool.{eq-eqb}
use Rattle.std.proofs.lemmas.Bool.Decides.{nat_tests}
use Rattle.std.proofs.lemmas.List.{append-nil, get_or_default, get_or-set_other, get_or-set_same, length-drop, length-replicate, length-take-le, length-set, map-append, map-set, take_all, take_more}
use Rattle.std.proofs.lemmas.List.Elements.{filter-append}
use Rattle.run_values.specs.declared.post.Body.{Body}
use Rattle.run_values.specs.declared.post.Post.{Post}
use Rattle.runs_core.proofs.Joins.{joined_at, joined_length}
use Rattle.runs_core.specs.Crews.{joined_lists}
use Rattle.runs_core.specs.Shares.{AreShares, HaveHandled, Item, item_at, item_of, numbered, share, share_from, worker_of}

numbered-push : (number : ℕ) (given : List (ℕ × Body)) (next : ℕ × Body) → numbered number (given ++ next ∷ []) ≡ numbered number given ++ item_at (number + length given) next ∷ []
numbered-push number [] next = ap (λ n. item_at n next ∷ []) (omega (arith))
numbered-push number (first ∷ given) next =
    let here : number + 1 + length given ≡ number + suc (length given) = omega (arith) in
    ap (λ items. item_at number first ∷ items) (numbered-push (number + 1) given next ∙ ap (λ n. numbered (number + 1) given ++ item_at n next ∷ []) here)

share-its : (workers first : ℕ) (given : List (ℕ × Body)) (next : ℕ × Body) (worker : ℕ) → (worker_of workers next.1 == worker) ≡ true
    → share_from workers first (given ++ next ∷ []) worker ≡ share_from workers first given worker ++ item_at (first + length given) next ∷ []
share-its workers first given next worker its =
    ap (filter (λ (item : Item). worker_of workers item.body == worker)) (numbered-push first given next)
    ∙ filter-append (λ (item : Item). worker_of workers item.body == worker) (numbered first given) (item_at (first + length given) next ∷ [])
    ∙ rw (its) refl

share-other : (workers first : ℕ) (given : List (ℕ × Body)) (next : ℕ × Body) (worker : ℕ) → (worker_of workers next.1 == worker) ≡ false
    → share_from workers first (given ++ next ∷ []) worker ≡ share_from workers first given worker
share-other workers first given next worker other =
    ap (filter (λ (item : Item). worker_of workers item.body == worker)) (numbered-push first given next)
    ∙ filter-append (λ (item : Item). worker_of workers item.body == worker) (numbered first given) (item_at (first + length given) next ∷ [])
    ∙ rw (other) (append-nil _)

pub differs : (s t : ℕ) → (s == t) ≡ false → t ≢ s
differs s t other = λ same. let is : (s == t) ≡ true = eq-eqb s t (sym same) in absurd (cc)

pub agrees : (s t : ℕ) → (s == t) ≡ true → s ≡ t
agrees s t is = grind (arith, nat_tests, is)

-- the list of one worker has one post more
one_share : (workers first : ℕ) (given : List (ℕ × Body)) (next : ℕ × Body) (shares : List (List Post)) (post : Post) (worker v : ℕ) (same : Bool) → (worker == v) ≡ same
    → AreShares workers first given shares → worker_of workers next.1 ≡ worker → worker < workers → v < workers → item_of post ≡ item_at (first + length given) next
    → map item_of (get_or (set shares worker (get_or shares worker [] ++ post ∷ [])) v []) ≡ share_from workers first (given ++ next ∷ []) v
one_share workers first given next shares post worker v true is before goes within below posted =
    let v_is : worker ≡ v = agrees worker v is in
    let at_v = subst (λ w. w < workers) v_is within in
    subst (λ w. map item_of (get_or (set shares worker (get_or shares worker [] ++ post ∷ [])) w []) ≡ share_from workers first (given ++ next ∷ []) w) v_is
    (ap (map item_of) (get_or-set_same shares worker (get_or shares worker [] ++ post ∷ []) [] (omega (arith, within, before.count)))
    ∙ map-append item_of (get_or shares worker []) (post ∷ [])
    ∙ ap (λ items. items ++ item_of post ∷ []) (before.each worker within)
    ∙ ap (λ item. share_from workers first given worker ++ item ∷ []) posted
    ∙ sym (share-its workers first given next worker (eq-eqb _ _ goes)))
one_share workers first given next shares post worker v false is before goes within below posted =
    ap (map item_of) (get_or-set_other shares worker v (get_or shares worker [] ++ post ∷ []) [] (differs worker v is))
    ∙ before.each v below
    ∙ sym (share-other workers first given next v (ap (λ w. w == v) goes ∙ is))

shares_more : (workers first : ℕ) (given : List (ℕ × Body)) (next : ℕ × Body) (shares : List (List Post)) (post : Post) (worker : ℕ)
    → AreShares workers first given shares → worker_of workers next.1 ≡ worker → worker < workers → item_of post ≡ item_at (first + length given) next
    → AreShares workers first (given ++ next ∷ []) (set shares worker (get_or shares worker [] ++ post ∷ []))
shares_more workers first given next shares post worker before goes within posted = record {
  count = length-set shares worker (get_or shares worker [] ++ post ∷ []) ∙ before.count;
  each = λ v below. one_share workers first given next shares post worker v (worker == v) refl before goes within below posted;
}

none_at : (count worker : ℕ) → get_or (replicate {A = List Post} count []) worker [] ≡ []
none_at zero worker = refl
none_at (suc count) zero = refl
none_at (suc count) (suc worker) = none_at count worker

-- nothing is shared out as yet
pub none_shared : (workers first : ℕ) (given : List (ℕ × Body)) (place : ℕ) (shares : List (List Post)) → place ≡ 0 → shares ≡ replicate workers [] → AreShares workers first (take place given) shares
none_shared workers first given place shares none empty = rw (none, empty) (record {
  count = length-replicate workers [];
  each = λ worker below. ap (map item_of) (none_at workers worker);
})

-- one post more is shared out, to its worker
pub share_more : {V : Type 0} (inside : V → List Post) (workers first : ℕ) (given : List (ℕ × Body)) (place : ℕ) (shares : List V) (post : Post) (worker : ℕ) (share new : V)
    → place < length given → AreShares workers first (take place given) (map inside shares) → worker < workers → share ≡ get_or shares worker share
    → inside new ≡ inside share ++ post ∷ [] → HoldsAt (λ next. item_of post ≡ item_at (first + place) next) given place → worker_of workers post.body ≡ worker
    → AreShares workers first (take (place + 1) given) (map inside (set shares worker new))
share_more inside workers first given place shares post worker share new within before below is grown posted goes =
    let next = get_or given place (0, post.body) in
    let same_body : post.body ≡ next.1 = ap (λ (item : Item). item.body) (posted (0, post.body)) in
    let its_number : length (take place given) ≡ place = length-take-le place given (omega (arith, within)) in
    let was : inside share ≡ get_or (map inside shares) worker [] =
    ap inside is ∙ sym (get_or-map inside shares worker share) ∙ get_or_default (map inside shares) worker (inside share) [] (omega (arith, below, before.count)) in
    let now : map inside (set shares worker new) ≡ set (map inside shares) worker (get_or (map inside shares) worker [] ++ post ∷ []) =
    map-set inside shares worker new ∙ ap (set (map inside shares) worker) (grown ∙ ap (λ posts. posts ++ post ∷ []) was) in
    rw (now, take_more given place (0, post.body) within)
    (shares_more workers first (take place given) next (map inside shares) post worker before
    (ap (worker_of workers) (sym same_body) ∙ goes) below
    (posted (0, post.body) ∙ ap (λ n. item_at (first + n) next) (sym its_number)))

-- ---- over a whole run

-- no worker has handled anything
pub none_handled : (workers : ℕ) (handled : List (List Post)) → handled ≡ replicate workers [] → HaveHandled workers [] handled
none_handled workers handled empty = rw (empty) (record {
  count = length-replicate workers [];
  each = λ worker below. ap (map item_of) (none_at workers worker);
})

pub numbered-append : (first : ℕ) (given added : List (ℕ × Body)) → numbered first (given ++ added) ≡ numbered first given ++ numbered (first + length given) added
numbered-append first [] added = let here : first ≡ first + 0 = omega (arith) in ap (λ n. numbered n added) here
numbered-append first (item ∷ given) added =
    let here : first + 1 + length given ≡ first + suc (length given) = omega (arith) in
    ap (λ items. item_at first item ∷ items) (numbered-append (first + 1) given added ∙ ap (λ n. numbered (first + 1) given ++ numbered n added) here)

share-append : (workers : ℕ) (given added : List (ℕ × Body)) (worker : ℕ) → share workers (given ++ added) worker ≡ share workers given worker ++ share_from workers (length given) added worker
share-append workers given added worker =
    let here : 0 + length given ≡ length given = omega (arith) in
    ap (filter (λ (item : Item). worker_of workers item.body == worker)) (numbered-append 0 given added ∙ ap (λ n. numbered 0 given ++ numbered n added) here)
    ∙ filter-append (λ (item : Item). worker_of workers item.body == worker) (numbered 0 given) (numbered (length given) added)

-- a round more
pub handled_more : (workers : ℕ) (given added : List (ℕ × Body)) (handled shares : List (List Post)) → HaveHandled workers given handled → AreShares workers (length given) added shares
    → HaveHandled workers (given ++ added) (joined_lists handled shares)
handled_more workers given added handled shares before are = record {
  count = joined_length handled shares ∙ before.count;
  each = λ worker below. ap (map item_of) (joined_at handled shares worker (are.count ∙ sym before.count))
      ∙ map-append item_of (get_or handled worker []) (get_or shares worker [])
      ∙ ap (λ items. items ++ map item_of (get_or shares worker [])) (before.each worker below)
      ∙ ap (λ items. share workers given worker ++ items) (are.each worker below)
      ∙ sym (share-append workers given added worker);
}

-- what was given before is no more than what is given now
pub longer_by : (given before added now first : List (ℕ × Body)) → given ≡ before ++ added → now ≡ given → first ≡ before → length first ≤ length now
longer_by given before added now first grown now_is first_is = rw (now_is, first_is, grown) (omega (arith, length-append before added))

-- with what was added since, it is all
pub whole_by : (now first : List (ℕ × Body)) → length first ≤ length now → length first + length (take (length now - length first) (drop (length first) now)) ≡ length now
whole_by now first longer =
    let rest = length-drop (length first) now in
    omega (arith, longer, rest, length-take-le (length now - length first) (drop (length first) now) (omega (arith, rest)))

-- and what is read of it from there on is what was added
pub added_slice : (given before added now first : List (ℕ × Body)) → given ≡ before ++ added → now ≡ given → first ≡ before → take (length now - length first) (drop (length first) now) ≡ added
added_slice given before added now first grown now_is first_is =
    rw (now_is, first_is) (take_all (length given - length before) (drop (length before) given) (omega (arith, length-drop (length before) given)) ∙ ap (drop (length before)) grown ∙ drop-append_seam before added)
