-- The refusals that the answers of a run name, put down worker by worker.
use Rattle.std.proofs.Common.{◌≡◌, ◌<◌, ◌≤◌, ◌+◌, ◌++◌, ◌∷◌, ◌∙◌, ℕ, zero, suc, Bool, true, false, Option, List, [], length, map, refl, ap, sym, subst, arith, take}
use Rattle.std.specs.Prelude.{◌==◌, if◌then◌else◌, replicate}
use Rattle.std.proofs.Math.ListN.{get_or, get_or-map, set}
use Rattle.std.proofs.lemmas.Bool.{eq-eqb}
use Rattle.std.proofs.lemmas.List.{append-nil, get_or_default, get_or-set_other, get_or-set_same, length-replicate, length-set, length-take-le, map-append, map-set, take_all, take_more}
use Rattle.account_core.specs.declared.fault.AccountFault.{AccountFault}
use Rattle.run_values.specs.declared.post.Answer.{Answer}
use Rattle.run_values.specs.declared.post.Body.{Body}
use Rattle.runs_core.specs.Chains.{refusals_in}
use Rattle.runs_core.specs.Handled.{AnswerView, answer_view}
use Rattle.runs_core.proofs.HearingLemmas.{answers_to-append}
use Rattle.runs_core.proofs.HandOuts.{agrees, differs}
use Rattle.runs_core.specs.Hearing.{HaveRefused, answers_to}
use Rattle.runs_core.specs.Shares.{worker_of}

abbrev answer_to : ℕ → ℕ → List (ℕ × Body) → List Answer → List (Option AccountFault)
answer_to workers worker given answers = refusals_in (map answer_view (answers_to workers worker given answers))

view-append : (answers more : List Answer) → refusals_in (map answer_view (answers ++ more)) ≡ refusals_in (map answer_view answers) ++ refusals_in (map answer_view more)
view-append answers more =
    ap refusals_in (map-append answer_view answers more) ∙ map-append (λ (t : AnswerView). t.refused) (map answer_view answers) (map answer_view more)

none_at : (count worker : ℕ) → get_or (replicate {A = List (Option AccountFault)} count []) worker [] ≡ []
none_at zero worker = refl
none_at (suc count) zero = refl
none_at (suc count) (suc worker) = none_at count worker

-- nothing is put down as yet
pub none_answer : (workers : ℕ) (given : List (ℕ × Body)) (answers : List Answer) (place : ℕ) (lists : List (List (Option AccountFault))) → place ≡ 0 → lists ≡ replicate workers []
    → HaveRefused workers (take place given) (take place answers) lists
none_answer workers given answers place lists none empty = rw (none, empty) (record {
  count = length-replicate workers [];
  each = λ worker below. none_at workers worker;
})

answer_one : (workers worker : ℕ) (item : ℕ × Body) (answer : Answer) (its : Bool) → (worker_of workers item.1 == worker) ≡ its
    → answer_to workers worker (item ∷ []) (answer ∷ []) ≡ (if its then answer.refused ∷ [] else [])
answer_one workers worker item answer true is = rw (is) refl
answer_one workers worker item answer false is = rw (is) refl

one_more : (workers : ℕ) (given : List (ℕ × Body)) (item : ℕ × Body) (answers : List Answer) (answer : Answer) (lists : List (List (Option AccountFault))) (worker v : ℕ) (same : Bool)
    → (worker == v) ≡ same → length answers ≡ length given → HaveRefused workers given answers lists → worker_of workers item.1 ≡ worker → worker < workers → v < workers
    → get_or (set lists worker (get_or lists worker [] ++ answer.refused ∷ [])) v [] ≡ answer_to workers v (given ++ item ∷ []) (answers ++ answer ∷ [])
one_more workers given item answers answer lists worker v true is many before goes within below =
    let v_is : worker ≡ v = agrees worker v is in
    let Its : ℕ → Type 0 = λ w. get_or (set lists worker (get_or lists worker [] ++ answer.refused ∷ [])) w [] ≡ answer_to workers w (given ++ item ∷ []) (answers ++ answer ∷ []) in
    subst Its v_is
    (get_or-set_same lists worker (get_or lists worker [] ++ answer.refused ∷ []) [] (omega (arith, within, before.count))
    ∙ ap (λ list. list ++ answer.refused ∷ []) (before.each worker within)
    ∙ ap (λ list. answer_to workers worker given answers ++ list) (sym (answer_one workers worker item answer true (eq-eqb _ _ goes)))
    ∙ sym (view-append (answers_to workers worker given answers) (answers_to workers worker (item ∷ []) (answer ∷ [])))
    ∙ sym (ap (λ list. refusals_in (map answer_view list)) (answers_to-append workers worker given (item ∷ []) answers (answer ∷ []) many)))
one_more workers given item answers answer lists worker v false is many before goes within below =
    get_or-set_other lists worker v (get_or lists worker [] ++ answer.refused ∷ []) [] (differs worker v is)
    ∙ before.each v below
    ∙ sym (append-nil (answer_to workers v given answers))
    ∙ ap (λ list. answer_to workers v given answers ++ list) (sym (answer_one workers v item answer false (ap (λ w. w == v) goes ∙ is)))
    ∙ sym (view-append (answers_to workers v given answers) (answers_to workers v (item ∷ []) (answer ∷ [])))
    ∙ sym (ap (λ list. refusals_in (map answer_view list)) (answers_to-append workers v given (item ∷ []) answers (answer ∷ []) many))

-- one refusal more is put down, or none, for the worker of its item
pub one_answer : {V : Type 0} (inside : V → List (Option AccountFault)) (workers : ℕ) (given : List (ℕ × Body)) (answers : List Answer) (place : ℕ) (lists : List V) (item : ℕ × Body) (answer : Answer) (worker : ℕ) (list new : V)
    → place < length given → length answers ≡ length given → HaveRefused workers (take place given) (take place answers) (map inside lists) → worker < workers → list ≡ get_or lists worker list
    → inside new ≡ inside list ++ answer.refused ∷ [] → item ≡ get_or given place item → answer ≡ get_or answers place answer → worker_of workers item.1 ≡ worker
    → HaveRefused workers (take (place + 1) given) (take (place + 1) answers) (map inside (set lists worker new))
one_answer inside workers given answers place lists item answer worker list new within many before below is grown item_is answer_is goes =
    let items : take (place + 1) given ≡ take place given ++ item ∷ [] = take_more given place item within ∙ ap (λ i. take place given ++ i ∷ []) (sym item_is) in
    let view : take (place + 1) answers ≡ take place answers ++ answer ∷ [] = take_more answers place answer (omega (arith, within, many)) ∙ ap (λ a. take place answers ++ a ∷ []) (sym answer_is) in
    let long : length (take place answers) ≡ length (take place given) = length-take-le place answers (omega (arith, within, many)) ∙ sym (length-take-le place given (omega (arith, within))) in
    let was : inside list ≡ get_or (map inside lists) worker [] =
    ap inside is ∙ sym (get_or-map inside lists worker list) ∙ get_or_default (map inside lists) worker (inside list) [] (omega (arith, below, before.count)) in
    let now : map inside (set lists worker new) ≡ set (map inside lists) worker (get_or (map inside lists) worker [] ++ answer.refused ∷ []) =
    map-set inside lists worker new ∙ ap (set (map inside lists) worker) (grown ∙ ap (λ one. one ++ answer.refused ∷ []) was) in
    rw (items, view, now) (record {
      count = length-set (map inside lists) worker (get_or (map inside lists) worker [] ++ answer.refused ∷ []) ∙ before.count;
      each = λ v under. one_more workers (take place given) item (take place answers) answer (map inside lists) worker v (worker == v) refl long before goes below under;
    })

-- all are put down
pub all_answer : (workers : ℕ) (given : List (ℕ × Body)) (answers : List Answer) (place : ℕ) (lists : List (List (Option AccountFault))) → length given ≤ place → length answers ≡ length given
    → HaveRefused workers (take place given) (take place answers) lists → HaveRefused workers given answers lists
all_answer workers given answers place lists whole many are =
    let Its : List (ℕ × Body) → List Answer → Type 0 = λ g a. HaveRefused workers g a lists in
    subst (Its given) (take_all place answers (omega (arith, whole, many))) (subst (λ g. Its g (take place answers)) (take_all place given whole) are)
