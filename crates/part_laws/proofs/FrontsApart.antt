-- Two runs of which one is given at first just the items of some accounts that the other is given at first.
use Rattle.std.proofs.Common.{◌≡◌, ◌∙◌, ◌++◌, ◌≤◌, ℕ, Bool, true, false, List, [], ◌∷◌, length, map, take, refl, sym, ap, arith, length-append}
use Rattle.std.specs.Prelude.{if◌then◌else◌}
use Rattle.std.proofs.lemmas.List.{length-map, map-append}
use Rattle.std.proofs.lemmas.List.Elements.{filter-append}
use Rattle.runs_core.proofs.HearingLemmas.{many_answers}
use Rattle.live_recovery.proofs.Alone.{opening_at, until_at}
use Rattle.part_laws.proofs.Apart.{plain_chains, plain_many}
use Rattle.part_laws.proofs.Fronts.{fronts_alike}
use Rattle.part_laws.proofs.Plain.{AllShown, plain}
use Rattle.part_laws.specs.Chosen.{Choice, answers_for, chosen, is_chosen}
use Rattle.part_laws.specs.Laws.{FrontsDontInterfere}
use Rattle.part_laws.specs.Numbers.{unnumbered_answer}
use Rattle.run_values.specs.declared.post.Answer.{Answer}
use Rattle.run_values.specs.declared.post.Body.{Body}
use Rattle.runs_core.specs.Shares.{Item, item_at}
use Rattle.runs_core.specs.Chains.{at_first, seat_numbers}
use Rattle.runs_core.specs.Handled.{AnswerView}

-- the answers to the first items are the first of all answers
front_answers : (choice : Choice) (given more : List (ℕ × Body)) (answers : List Answer) → length given ≤ length answers
    → take (length (chosen choice given)) (map unnumbered_answer (answers_for choice (given ++ more) answers)) ≡ map unnumbered_answer (answers_for choice given answers)
front_answers choice [] more answers within = refl
front_answers choice (item ∷ given) more [] within = absurd (omega (arith, within))
front_answers choice (item ∷ given) more (answer ∷ answers) within = by_own (is_chosen choice item.1) (front_answers choice given more answers (omega (arith, within)))
  where
    by_own : (b : Bool) → take (length (chosen choice given)) (map unnumbered_answer (answers_for choice (given ++ more) answers)) ≡ map unnumbered_answer (answers_for choice given answers)
        → take (length (if b then item ∷ chosen choice given else chosen choice given))
        (map unnumbered_answer (if b then answer ∷ answers_for choice (given ++ more) answers else answers_for choice (given ++ more) answers))
        ≡ map unnumbered_answer (if b then answer ∷ answers_for choice given answers else answers_for choice given answers)
    by_own true rest = ap (λ l. unnumbered_answer answer ∷ l) rest
    by_own false rest = rest

pub fronts_apart : FrontsDontInterfere
fronts_apart setup choice given more own_more answers own_answers books own_books proper by run own_run none own_none =
    let all = given ++ more in
    let its = chosen choice given ++ own_more in
    let p = plain_chains setup choice all its answers own_answers books own_books by run own_run none own_none in
    let front : List Item = map (item_at 0) (chosen choice given) in
    let start = plain (at_first setup) in
    let items_are = p.items_are ∙ ap (map (item_at 0)) (filter-append (λ (item : ℕ × Body). is_chosen choice item.1) given more) ∙ map-append (item_at 0) (chosen choice given) (chosen choice more) in
    let own_items_are = p.own_items_are ∙ map-append (item_at 0) (chosen choice given) own_more in
    let theirs : List AnswerView = map unnumbered_answer (answers_for choice all answers) in
    let ours : List AnswerView = map unnumbered_answer own_answers in
    let same : take (length front) theirs ≡ take (length front) ours =
    fronts_alike (opening_at setup.accounts) (until_at setup.accounts) AllShown AllShown setup (seat_numbers 0 setup) proper front (map (item_at 0) (chosen choice more)) (map (item_at 0) own_more)
    p.posts p.own_posts theirs ours start p.last start p.own_last items_are own_items_are (plain_many setup) (λ call. tt) (record { lists = refl; talks = λ call. refl })
    p.none p.own_none p.legal p.own_legal p.chain p.own_chain in
    let count : length front ≡ length (chosen choice given) = length-map (chosen choice given) (item_at 0) in
    let within : length given ≤ length answers = omega (arith, many_answers 0 all answers run.each_heard, length-append given more) in
    ap (λ (n : ℕ). take n ours) (sym count) ∙ sym same ∙ ap (λ (n : ℕ). take n theirs) count ∙ front_answers choice given more answers within
