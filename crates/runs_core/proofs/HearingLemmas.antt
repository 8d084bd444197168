-- What the driver hears: answers that are taken one after the other, round after round.
use Rattle.std.proofs.Common.{◌≡◌, ◌<◌, ◌≤◌, ◌+◌, ℕ, Bool, true, false, List, [], ◌∷◌, ◌++◌, length, length-append, map, refl, ap, sym, subst, ◌∙◌, arith, suc, zero, take}
use Rattle.std.specs.Prelude.{◌==◌, All, if◌then◌else◌}
use Rattle.std.proofs.Math.ListN.{get_or, get_or-map, set}
use Rattle.std.proofs.lemmas.Bool.{eq-eqb}
use Rattle.std.proofs.lemmas.List.{append-nil, append_assoc, flat_map_more, get_or_default, get_or-set_other, get_or-set_same, length-map, length-set, length-take-le, map-append, map-set, take_all, take_more}
use Rattle.std.proofs.lemmas.List.Elements.{All-head, All-tail}
use Rattle.run_values.specs.declared.post.Answer.{Answer}
use Rattle.run_values.specs.declared.post.Body.{Body}
use Rattle.runs_core.proofs.Joins.{joined_at, joined_length, joined_next, joined_none}
use Rattle.runs_core.proofs.HandOuts.{agrees, differs, numbered-append}
use Rattle.runs_core.specs.Crews.{joined_lists}
use Rattle.runs_core.specs.Hearing.{AnswersEach, AreAnswers, HearsMore, HearsRounds, all_heard, answers_to}
use Rattle.runs_core.specs.Shares.{Item, numbered, worker_of}

-- ---- answers after answers

pub numbered-length : (first : ℕ) (given : List (ℕ × Body)) → length (numbered first given) ≡ length given
numbered-length first [] = refl
numbered-length first (item ∷ given) = ap suc (numbered-length (first + 1) given)

pub many_answers : (first : ℕ) (given : List (ℕ × Body)) (answers : List Answer) → AnswersEach first given answers → length answers ≡ length given
many_answers first given answers each =
    sym (length-map answers (λ (a : Answer). a.number)) ∙ ap length each ∙ length-map (numbered first given) (λ (i : Item). i.number) ∙ numbered-length first given

pub each_more : (first : ℕ) (given added : List (ℕ × Body)) (answers more : List Answer) → AnswersEach first given answers → AnswersEach (first + length given) added more
    → AnswersEach first (given ++ added) (answers ++ more)
each_more first given added answers more each then_each =
    map-append (λ (a : Answer). a.number) answers more
    ∙ ap (λ ns. ns ++ map (λ (a : Answer). a.number) more) each
    ∙ ap (λ ns. map (λ (i : Item). i.number) (numbered first given) ++ ns) then_each
    ∙ sym (map-append (λ (i : Item). i.number) (numbered first given) (numbered (first + length given) added))
    ∙ sym (ap (map (λ (i : Item). i.number)) (numbered-append first given added))

kept_before : (its : Bool) (answer : Answer) (all some more : List Answer) → all ≡ some ++ more → (if its then answer ∷ all else all) ≡ (if its then answer ∷ some else some) ++ more
kept_before true answer all some more same = ap (λ list. answer ∷ list) same
kept_before false answer all some more same = same

pub answers_to-append : (workers worker : ℕ) (given added : List (ℕ × Body)) (answers more : List Answer) → length answers ≡ length given
    → answers_to workers worker (given ++ added) (answers ++ more) ≡ answers_to workers worker given answers ++ answers_to workers worker added more
answers_to-append workers worker [] added [] more many = refl
answers_to-append workers worker [] added (answer ∷ answers) more many = absurd (omega (arith, many))
answers_to-append workers worker (item ∷ given) added [] more many = absurd (omega (arith, many))
answers_to-append workers worker (item ∷ given) added (answer ∷ answers) more many =
    kept_before (worker_of workers item.1 == worker) answer _ _ _ (answers_to-append workers worker given added answers more (omega (arith, many)))

-- the answers to a round after those to all before
pub answers_more : (workers : ℕ) (given added : List (ℕ × Body)) (answers more : List Answer) (lists replies : List (List Answer)) → AreAnswers workers 0 given answers lists
    → AreAnswers workers (length given) added more replies → AreAnswers workers 0 (given ++ added) (answers ++ more) (joined_lists lists replies)
answers_more workers given added answers more lists replies before are =
    let here : length given ≡ 0 + length given = omega (arith) in
    record {
      numbers = each_more 0 given added answers more before.numbers (subst (λ n. AnswersEach n added more) here are.numbers);
      count = joined_length lists replies ∙ before.count;
      each = λ worker below. joined_at lists replies worker (are.count ∙ sym before.count)
          ∙ ap (λ list. list ++ get_or replies worker []) (before.each worker below)
          ∙ ap (λ list. answers_to workers worker given answers ++ list) (are.each worker below)
          ∙ sym (answers_to-append workers worker given added answers more (many_answers 0 given answers before.numbers));
    }

-- ---- the answers to a round, taken one by one

-- of the items so far each has its answer, and those of a worker stood first in its list
pub record AreTaken (workers first : ℕ) (given : List (ℕ × Body)) (answers : List Answer) (old now : List (List Answer)) : Type 0 where
  pub numbers : AnswersEach first given answers
  pub count : length now ≡ workers
  pub each : (worker : ℕ) → worker < workers → get_or old worker [] ≡ answers_to workers worker given answers ++ get_or now worker []

pub none_taken : (workers first : ℕ) (given : List (ℕ × Body)) (place : ℕ) (answers : List Answer) (old now : List (List Answer)) → place ≡ 0 → answers ≡ [] → now ≡ old → length old ≡ workers
    → AreTaken workers first (take place given) answers old now
none_taken workers first given place answers old now none empty same many = rw (none, empty, same) (record {
  numbers = refl;
  count = many;
  each = λ worker below. refl;
})

answers_to-one : (workers worker : ℕ) (item : ℕ × Body) (answer : Answer) (its : Bool) → (worker_of workers item.1 == worker) ≡ its
    → answers_to workers worker (item ∷ []) (answer ∷ []) ≡ (if its then answer ∷ [] else [])
answers_to-one workers worker item answer its is = ap (λ b. if b then answer ∷ [] else []) is

-- the list of one worker has one answer less
one_taken : (workers first : ℕ) (given : List (ℕ × Body)) (item : ℕ × Body) (answers : List Answer) (answer : Answer) (old now : List (List Answer)) (rest : List Answer) (worker v : ℕ) (same : Bool)
    → (worker == v) ≡ same → AreTaken workers first given answers old now → worker_of workers item.1 ≡ worker → worker < workers → v < workers → get_or now worker [] ≡ answer ∷ rest
    → get_or old v [] ≡ answers_to workers v (given ++ item ∷ []) (answers ++ answer ∷ []) ++ get_or (set now worker rest) v []
one_taken workers first given item answers answer old now rest worker v true is before goes within below next =
    let v_is : worker ≡ v = agrees worker v is in
    let Its : ℕ → Type 0 = λ w. get_or old w [] ≡ answers_to workers w (given ++ item ∷ []) (answers ++ answer ∷ []) ++ get_or (set now worker rest) w [] in
    let own = answers_to workers worker given answers in
    subst Its v_is
    (before.each worker within
    ∙ ap (λ list. own ++ list) next
    ∙ sym (append_assoc own (answer ∷ []) rest)
    ∙ ap (λ list. (own ++ list) ++ rest) (sym (answers_to-one workers worker item answer true (eq-eqb _ _ goes)))
    ∙ ap (λ list. list ++ rest) (sym (answers_to-append workers worker given (item ∷ []) answers (answer ∷ []) (many_answers first given answers before.numbers)))
    ∙ ap (λ list. answers_to workers worker (given ++ item ∷ []) (answers ++ answer ∷ []) ++ list) (sym (get_or-set_same now worker rest [] (omega (arith, within, before.count)))))
one_taken workers first given item answers answer old now rest worker v false is before goes within below next =
    let others = answers_to workers v given answers in
    before.each v below
    ∙ ap (λ list. list ++ get_or now v []) (sym (append-nil others))
    ∙ ap (λ list. (others ++ list) ++ get_or now v []) (sym (answers_to-one workers v item answer false (ap (λ w. w == v) goes ∙ is)))
    ∙ ap (λ list. list ++ get_or now v []) (sym (answers_to-append workers v given (item ∷ []) answers (answer ∷ []) (many_answers first given answers before.numbers)))
    ∙ ap (λ list. answers_to workers v (given ++ item ∷ []) (answers ++ answer ∷ []) ++ list) (sym (get_or-set_other now worker v rest [] (differs worker v is)))

-- one answer more is taken, of the worker of its item
pub take_one : {V : Type 0} (inside : V → List Answer) (workers first : ℕ) (given : List (ℕ × Body)) (place : ℕ) (answers more : List Answer) (answer : Answer) (old : List (List Answer)) (now : List V) (worker : ℕ) (queue rest : V) (item : ℕ × Body)
    → place < length given → AreTaken workers first (take place given) answers old (map inside now) → worker < workers → queue ≡ get_or now worker queue → inside queue ≡ answer ∷ inside rest
    → answer.number ≡ first + place → item ≡ get_or given place item → worker ≡ worker_of workers item.1 → more ≡ answers ++ answer ∷ []
    → AreTaken workers first (take (place + 1) given) more old (map inside (set now worker rest))
take_one inside workers first given place answers more answer old now worker queue rest item within before below is next number item_is goes grown =
    let done = take place given in
    let its_number : length done ≡ place = length-take-le place given (omega (arith, within)) in
    let was : get_or (map inside now) worker [] ≡ answer ∷ inside rest =
    sym (get_or_default (map inside now) worker (inside queue) [] (omega (arith, below, before.count))) ∙ get_or-map inside now worker queue ∙ sym (ap inside is) ∙ next in
    let items : take (place + 1) given ≡ done ++ item ∷ [] = take_more given place item within ∙ ap (λ i. done ++ i ∷ []) (sym item_is) in
    let last : AnswersEach (first + length done) (item ∷ []) (answer ∷ []) = ap (λ n. n ∷ []) (number ∙ ap (λ n. first + n) (sym its_number)) in
    let grows : AreTaken workers first (done ++ item ∷ []) (answers ++ answer ∷ []) old (set (map inside now) worker (inside rest)) = record {
      numbers = each_more first done (item ∷ []) answers (answer ∷ []) before.numbers last;
      count = length-set (map inside now) worker (inside rest) ∙ before.count;
      each = λ v under. one_taken workers first done item answers answer old (map inside now) (inside rest) worker v (worker == v) refl before (sym goes) below under was;
    } in
    rw (items, grown, map-set inside now worker rest) grows

nothing_at : {V : Type 0} (inside : V → List Answer) (now : List V) (worker : ℕ) → All (λ queue. inside queue ≡ []) now → get_or (map inside now) worker [] ≡ []
nothing_at inside [] worker none = refl
nothing_at inside (queue ∷ now) zero none = All-head (λ q. inside q ≡ []) queue now none
nothing_at inside (queue ∷ now) (suc worker) none = nothing_at inside now worker (All-tail (λ q. inside q ≡ []) queue now none)

-- and none is left
pub all_taken : {V : Type 0} (inside : V → List Answer) (workers first : ℕ) (given : List (ℕ × Body)) (place : ℕ) (answers : List Answer) (old : List (List Answer)) (now : List V) → length given ≤ place → length old ≡ workers
    → All (λ queue. inside queue ≡ []) now → AreTaken workers first (take place given) answers old (map inside now) → AreAnswers workers first given answers old
all_taken inside workers first given place answers old now whole many none are =
    let Its : List (ℕ × Body) → Type 0 = λ g. AreTaken workers first g answers old (map inside now) in
    let done = subst Its (take_all place given whole) are in
    record {
      numbers = done.numbers;
      count = many;
      each = λ worker below. done.each worker below ∙ ap (λ list. answers_to workers worker given answers ++ list) (nothing_at inside now worker none) ∙ append-nil _;
    }

-- ---- round after round

pub all_heard-more : (heard : List (List Answer)) (answers : List Answer) → all_heard (heard ++ answers ∷ []) ≡ all_heard heard ++ answers
all_heard-more heard answers = sym (flat_map_more (λ (list : List Answer). list) [] heard answers)

-- a driver has heard answers round by round, after these, and hasn't ended in any of the rounds
abbrev pub AreRounds : {D : Type 0} → (D → List (ℕ × Body)) → (D → Bool) → (D → List Answer → D → Type 0) → List Answer → D → List (List Answer) → D → Type 0
AreRounds given ended hears before_this old [] new = new ≡ old
AreRounds {D} given ended hears before_this old (answers ∷ heard) new =
    (between : D) × HearsMore given hears before_this old answers between × (ended between ≡ false) × AreRounds given ended hears (before_this ++ answers) between heard new

hears_after : {D : Type 0} (given : D → List (ℕ × Body)) (hears : D → List Answer → D → Type 0) (before_this then_this : List Answer) (old : D) (answers : List Answer) (new : D) → before_this ≡ then_this
    → HearsMore given hears before_this old answers new → HearsMore given hears then_this old answers new
hears_after given hears before_this then_this old answers new same more = subst (λ view. HearsMore given hears view old answers new) same more

-- a round more
pub round_more : {D : Type 0} (given : D → List (ℕ × Body)) (ended : D → Bool) (hears : D → List Answer → D → Type 0) (before_this : List Answer) (old : D) (heard : List (List Answer)) (between : D) (answers : List Answer) (new : D)
    → AreRounds given ended hears before_this old heard between → HearsMore given hears (before_this ++ all_heard heard) between answers new → ended new ≡ false
    → AreRounds given ended hears before_this old (heard ++ answers ∷ []) new
round_more {D = D} given ended hears before_this old [] between answers new are more goes_on =
    let From : D → Type 0 = λ d. HearsMore given hears before_this d answers new in
    (new, subst From are (hears_after given hears _ _ between answers new (append-nil before_this) more), goes_on, refl)
round_more given ended hears before_this old (first ∷ heard) between answers new are more goes_on = (
  are.0,
  are.1,
  are.2,
  round_more given ended hears (before_this ++ first) are.0 heard between answers new are.3
      (hears_after given hears _ _ between answers new (sym (append_assoc before_this first (all_heard heard))) more) goes_on,
)

-- the last round
pub round_last : {D : Type 0} (given : D → List (ℕ × Body)) (ended : D → Bool) (hears : D → List Answer → D → Type 0) (before_this : List Answer) (old : D) (heard : List (List Answer)) (between : D) (answers : List Answer) (new : D)
    → AreRounds given ended hears before_this old heard between → HearsMore given hears (before_this ++ all_heard heard) between answers new → ended new ≡ true
    → HearsRounds given ended hears before_this old (heard ++ answers ∷ []) new
round_last {D = D} given ended hears before_this old [] between answers new are more ends =
    let From : D → Type 0 = λ d. HearsMore given hears before_this d answers new in
    (subst From are (hears_after given hears _ _ between answers new (append-nil before_this) more), ends)
round_last given ended hears before_this old (first ∷ []) between answers new are more ends = (
  are.0,
  are.1,
  are.2,
  round_last given ended hears (before_this ++ first) are.0 [] between answers new are.3
      (hears_after given hears _ _ between answers new (sym (append_assoc before_this first [])) more) ends,
)
round_last given ended hears before_this old (first ∷ second ∷ heard) between answers new are more ends = (
  are.0,
  are.1,
  are.2,
  round_last given ended hears (before_this ++ first) are.0 (second ∷ heard) between answers new are.3
      (hears_after given hears _ _ between answers new (sym (append_assoc before_this first (all_heard (second ∷ heard)))) more) ends,
)

-- ---- the answers that come by the links

-- the answers by the links before a place have come, and were put down
pub record AreHeard {L V : Type 0} (heard_by : L → List Answer) (inside : V → List Answer) (old : List L) (at : ℕ) (now : List L) (lists : List V) : Type 0 where
  pub joined_so : map heard_by now ≡ joined_lists (map heard_by old) (map inside lists)
  pub count : at ≡ length lists

pub none_heard : {L V : Type 0} (heard_by : L → List Answer) (inside : V → List Answer) (old : List L) (at : ℕ) (lists : List V) → at ≡ 0 → lists ≡ [] → AreHeard heard_by inside old at old lists
none_heard heard_by inside old at lists none empty = rw (none, empty) (record { joined_so = sym (joined_none (map heard_by old)); count = refl })

-- one more has come, where none has failed
pub one_heard : {L V : Type 0} (heard_by : L → List Answer) (inside : V → List Answer) (old : List L) (at : ℕ) (now : List L) (lists more : List V) (list : V) (link new : L)
    → length now ≡ length old → at < length now → link ≡ get_or now at link → AreHeard heard_by inside old at now lists → heard_by new ≡ heard_by link ++ inside list → more ≡ lists ++ list ∷ []
    → AreHeard heard_by inside old (at + 1) (set now at new) more
one_heard heard_by inside old at now lists more list link new many below is was comes grown =
    let within : length (map inside lists) < length (map heard_by old) = omega (arith, below, many, was.count, length-map lists inside, length-map old heard_by) in
    let here : at ≡ length (map inside lists) = was.count ∙ sym (length-map lists inside) in
    let down : map inside lists ++ inside list ∷ [] ≡ map inside more = sym (ap (map inside) grown ∙ map-append inside lists (list ∷ [])) in
    record {
      joined_so = joined_next heard_by (map heard_by old) (map inside lists) (inside list) at now link new was.joined_so here within is comes ∙ ap (joined_lists (map heard_by old)) down;
      count = ap (λ n. n + 1) was.count ∙ sym (length-append lists (list ∷ [])) ∙ sym (ap length grown);
    }
