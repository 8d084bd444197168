-- The operations that answer what a round has added: of all items, and of those of some accounts.
use Rattle.std.proofs.Common.{◌≡◌, ◌∙◌, ◌++◌, ◌+◌, ◌≤◌, ℕ, Bool, true, false, Some, List, [], ◌∷◌, All, length, map, refl, sym, ap, subst, arith, append-nil, append_assoc, length-append}
use Rattle.std.specs.Prelude.{if◌then◌else◌}
use Rattle.std.specs.List.{slice_get}
use Rattle.std.proofs.lemmas.List.{append_cancel_left, map-append}
use Rattle.std.proofs.lemmas.List.Elements.{All-append, All-cons, All-head, All-nil, All-tail, filter-append}
use Rattle.runs_core.proofs.HandOuts.{numbered-append}
use Rattle.cap_values.specs.declared.operation.ScfOp.{ScfOp}
use Rattle.part_laws.proofs.Beside.{IsBetween, IsPartPlay, PassesOver, chosen_deliveries}
use Rattle.part_laws.proofs.InOrder.{of_delivery, order_more}
use Rattle.part_laws.proofs.Orders.{same_operations}
use Rattle.part_laws.specs.Chosen.{Choice, answers_for, chosen, is_chosen}
use Rattle.part_laws.specs.Numbers.{unnumbered_answer}
use Rattle.run_values.specs.declared.post.Answer.{Answer}
use Rattle.run_values.specs.declared.post.Body.{Body}
use Rattle.run_values.specs.declared.post.Body.TheVariants.{Ssf, Recharge}
use Rattle.runs_core.specs.Hearing.{AnswersEach}
use Rattle.runs_core.specs.Shares.{Item, numbered}
use Rattle.script_player.specs.Deliveries.{deliveries_for, deliveries_of, deliveries_to}
use Rattle.script_player.specs.Plays.{Play}
use Rattle.script_player.specs.Rounds.{waiting}
use Rattle.ssf_core.specs.Deliveries.{deliveries_at}
use Rattle.ssf_core.specs.declared.deliveries.Delivery.{Delivery}
use Rattle.runs_core.specs.Handled.{AnswerView}
use Rattle.cap_values.specs.Orders.{operations_in}

-- ---- item by item

-- the deliveries of answers, where each answer is at the place of its item
abbrev pub deliveries_each : ℕ → List (ℕ × Body) → List Answer → List Delivery
deliveries_each delay [] answers = []
deliveries_each delay (item ∷ added) [] = []
deliveries_each delay (item ∷ added) (answer ∷ answers) = deliveries_to delay (operations_in answer.instructions) item.0 item.1 ++ deliveries_each delay added answers

behind : (old added : List (ℕ × Body)) (item : ℕ × Body) → slice_get (old ++ item ∷ added) (length old) ≡ Some item
behind [] added item = refl
behind (first ∷ old) added item = behind old added item

each_delivered : (delay : ℕ) (old added : List (ℕ × Body)) (answers : List Answer) → AnswersEach (length old) added answers → deliveries_of delay (old ++ added) answers ≡ deliveries_each delay added answers
each_delivered delay old [] [] each = refl
each_delivered delay old [] (answer ∷ answers) each = absurd (cc)
each_delivered delay old (item ∷ added) [] each = refl
each_delivered delay old (item ∷ added) (answer ∷ answers) each =
    let number : answer.number ≡ length old = cc each in
    let rest : AnswersEach (length old + 1) added answers = cc each in
    let more = old ++ item ∷ [] in
    let count : length old + 1 ≡ length more = sym (length-append old (item ∷ [])) in
    let ops = operations_in answer.instructions in
    ap (λ (n : ℕ). deliveries_for delay ops (slice_get (old ++ item ∷ added) n) ++ deliveries_of delay (old ++ item ∷ added) answers) number
    ∙ ap (λ found. deliveries_for delay ops found ++ deliveries_of delay (old ++ item ∷ added) answers) (behind old added item)
    ∙ ap (λ (g : List (ℕ × Body)). deliveries_to delay ops item.0 item.1 ++ deliveries_of delay g answers) (sym (append_assoc old (item ∷ []) added))
    ∙ ap (λ l. deliveries_to delay ops item.0 item.1 ++ l) (each_delivered delay more added answers (subst (λ (n : ℕ). AnswersEach n added answers) count rest))

-- of an answer for each item, those to what was added last go on with its number
pub each_more : (given added : List (ℕ × Body)) (heard answers : List Answer) → AnswersEach 0 given heard → AnswersEach 0 (given ++ added) (heard ++ answers) → AnswersEach (length given) added answers
each_more given added heard answers each all =
    let n : Answer → ℕ = λ answer. answer.number in
    let m : Item → ℕ = λ item. item.number in
    let later = numbered (0 + length given) added in
    let split : map n heard ++ map n answers ≡ map m (numbered 0 given) ++ map m later =
    sym (map-append n heard answers) ∙ all ∙ ap (map m) (numbered-append 0 given added) ∙ map-append m (numbered 0 given) later in
    let same = append_cancel_left (map m (numbered 0 given)) (map n answers) (map m later) (ap (λ l. l ++ map n answers) (sym each) ∙ split) in
    let count : 0 + length given ≡ length given = omega arith in
    subst (λ (k : ℕ). AnswersEach k added answers) count same

-- ---- those of some calls

module _ (choice : Choice) (at call : ℕ) where
  abbrev sent : ScfOp → Delivery
  sent op = record { at = at; call = call; op = op }

  abbrev with_first : Bool → ScfOp → List ScfOp → List Delivery
  with_first b op ops = if b then sent op ∷ chosen_deliveries choice (deliveries_at at call ops) else chosen_deliveries choice (deliveries_at at call ops)

  all_own : (ops : List ScfOp) → choice.calls call ≡ true → chosen_deliveries choice (deliveries_at at call ops) ≡ deliveries_at at call ops
  all_own [] is = refl
  all_own (op ∷ ops) is = ap (λ (b : Bool). with_first b op ops) is ∙ ap (λ l. sent op ∷ l) (all_own ops is)

  none_own : (ops : List ScfOp) → choice.calls call ≡ false → chosen_deliveries choice (deliveries_at at call ops) ≡ []
  none_own [] is = refl
  none_own (op ∷ ops) is = ap (λ (b : Bool). with_first b op ops) is ∙ none_own ops is

module _ (choice : Choice) (delay : ℕ) where
  to_own : (ops : List ScfOp) (at : ℕ) (body : Body) → is_chosen choice body ≡ true → chosen_deliveries choice (deliveries_to delay ops at body) ≡ deliveries_to delay ops at body
  to_own ops at (Ssf call message) is = all_own choice (at + delay) call ops is
  to_own ops at (Recharge account amount until) is = refl

  to_others : (ops : List ScfOp) (at : ℕ) (body : Body) → is_chosen choice body ≡ false → chosen_deliveries choice (deliveries_to delay ops at body) ≡ []
  to_others ops at (Ssf call message) is = none_own choice (at + delay) call ops is
  to_others ops at (Recharge account amount until) is = refl

  none_each : (added : List (ℕ × Body)) → deliveries_each delay added [] ≡ []
  none_each [] = refl
  none_each (item ∷ added) = refl

  -- the deliveries of these calls answer the items of these
  each_chosen : (added : List (ℕ × Body)) (answers : List Answer) → chosen_deliveries choice (deliveries_each delay added answers) ≡ deliveries_each delay (chosen choice added) (answers_for choice added answers)
  each_chosen [] answers = refl
  each_chosen (item ∷ added) [] = sym (none_each (chosen choice (item ∷ added)))
  each_chosen (item ∷ added) (answer ∷ answers) =
      filter-append (λ (d : Delivery). choice.calls d.call) (deliveries_to delay (operations_in answer.instructions) item.0 item.1) (deliveries_each delay added answers)
      ∙ by_own (is_chosen choice item.1) refl (each_chosen added answers)
    where
      by_own : (b : Bool) → is_chosen choice item.1 ≡ b
          → chosen_deliveries choice (deliveries_each delay added answers) ≡ deliveries_each delay (chosen choice added) (answers_for choice added answers)
          → chosen_deliveries choice (deliveries_to delay (operations_in answer.instructions) item.0 item.1) ++ chosen_deliveries choice (deliveries_each delay added answers)
          ≡ deliveries_each delay (if b then item ∷ chosen choice added else chosen choice added) (if b then answer ∷ answers_for choice added answers else answers_for choice added answers)
      by_own true is rest =
          ap (λ l. l ++ chosen_deliveries choice (deliveries_each delay added answers)) (to_own (operations_in answer.instructions) item.0 item.1 is)
          ∙ ap (λ l. deliveries_to delay (operations_in answer.instructions) item.0 item.1 ++ l) rest
      by_own false is rest = ap (λ l. l ++ chosen_deliveries choice (deliveries_each delay added answers)) (to_others (operations_in answer.instructions) item.0 item.1 is) ∙ rest

-- answers that say the same bring the same
each_alike : (delay : ℕ) (added : List (ℕ × Body)) (answers others : List Answer) → map unnumbered_answer answers ≡ map unnumbered_answer others
    → deliveries_each delay added answers ≡ deliveries_each delay added others
each_alike delay [] answers others same = refl
each_alike delay (item ∷ added) [] [] same = refl
each_alike delay (item ∷ added) [] (other ∷ others) same = absurd (cc)
each_alike delay (item ∷ added) (answer ∷ answers) [] same = absurd (cc)
each_alike delay (item ∷ added) (answer ∷ answers) (other ∷ others) same =
    let first : unnumbered_answer answer ≡ unnumbered_answer other = cc same in
    let rest : map unnumbered_answer answers ≡ map unnumbered_answer others = cc same in
    let ops : operations_in answer.instructions ≡ operations_in other.instructions = same_operations (operations_in answer.instructions) (operations_in other.instructions) (ap (λ (view : AnswerView). view.orders) first) in
    ap (λ (o : List ScfOp). deliveries_to delay o item.0 item.1 ++ deliveries_each delay added answers) ops
    ∙ ap (λ l. deliveries_to delay (operations_in other.instructions) item.0 item.1 ++ l) (each_alike delay added answers others rest)

-- ---- when they come

all_at : (at call : ℕ) (ops : List ScfOp) → All (λ delivery. delivery.at ≡ at) (deliveries_at at call ops)
all_at at call [] = All-nil (λ (d : Delivery). d.at ≡ at)
all_at at call (op ∷ ops) = All-cons (λ (d : Delivery). d.at ≡ at) (record { at = at; call = call; op = op }) (deliveries_at at call ops) refl (all_at at call ops)

to_at : (delay now : ℕ) (ops : List ScfOp) (at : ℕ) (body : Body) → at ≡ now → All (λ delivery. delivery.at ≡ now + delay) (deliveries_to delay ops at body)
to_at delay now ops at (Ssf call message) is = subst (λ (n : ℕ). All (λ delivery. delivery.at ≡ n + delay) (deliveries_at (at + delay) call ops)) is (all_at (at + delay) call ops)
to_at delay now ops at (Recharge account amount until) is = All-nil (λ (d : Delivery). d.at ≡ now + delay)

-- operations that answer items of one moment come a delay after it
each_at : (delay now : ℕ) (added : List (ℕ × Body)) (answers : List Answer) → All (λ item. item.0 ≡ now) added → All (λ delivery. delivery.at ≡ now + delay) (deliveries_each delay added answers)
each_at delay now [] answers moments = All-nil (λ (d : Delivery). d.at ≡ now + delay)
each_at delay now (item ∷ added) [] moments = All-nil (λ (d : Delivery). d.at ≡ now + delay)
each_at delay now (item ∷ added) (answer ∷ answers) moments =
    let M : ℕ × Body → Type 0 = λ i. i.0 ≡ now in
    All-append (λ (d : Delivery). d.at ≡ now + delay) (deliveries_to delay (operations_in answer.instructions) item.0 item.1) (deliveries_each delay added answers)
    (to_at delay now (operations_in answer.instructions) item.0 item.1 (All-head M item added moments)) (each_at delay now added answers (All-tail M item added moments))

-- ---- once the answers to a round are heard

-- the items that a play has added, and one answer for each
pub record AddsAnswered (before after added : List (ℕ × Body)) (answers : List Answer) : Type 0 where
  pub grown : after ≡ before ++ added
  pub each : AnswersEach (length before) added answers

now_wait : (delay : ℕ) (before after added : List (ℕ × Body)) (answers : List Answer) → AddsAnswered before after added answers → deliveries_of delay after answers ≡ deliveries_each delay added answers
now_wait delay before after added answers adds = ap (λ (g : List (ℕ × Body)). deliveries_of delay g answers) adds.grown ∙ each_delivered delay before added answers adds.each

-- a play is between two rounds once the answers to the first are heard
pub between_on : (after : Play) (now : ℕ) (before added : List (ℕ × Body)) (answers : List Answer) → All (λ item. item.0 ≡ now) added → AddsAnswered before after.network.given added answers
    → IsBetween after after.queue now → IsBetween after (waiting after answers) now
between_on after now before added answers moments adds between =
    let until = now + after.delay in
    let sent = deliveries_of after.delay after.network.given answers in
    let at : All (λ delivery. delivery.at ≡ until) sent =
    subst (λ (l : List Delivery). All (λ delivery. delivery.at ≡ until) l) (sym (now_wait after.delay before after.network.given added answers adds)) (each_at after.delay now added answers moments) in
    record {
      timers = between.timers;
      rows = between.rows;
      rises = order_more of_delivery now until after.queue sent (omega arith) between.rises between.within at;
      within = All-append (λ (d : Delivery). d.at ≤ until) after.queue sent between.within (λ k d inside. omega (arith, at k d inside));
      stood = between.stood;
    }

-- a play that waits has nothing new on its way, where nothing of it was added
pub passes_on : (choice : Choice) (after part : Play) (own_queue : List Delivery) (before added : List (ℕ × Body)) (answers : List Answer) → AddsAnswered before after.network.given added answers
    → PassesOver choice after part own_queue added → IsPartPlay choice after part (waiting after answers) own_queue
passes_on choice after part own_queue before added answers adds passes =
    let D : List Delivery → List Delivery = chosen_deliveries choice in
    let delay = after.delay in
    let nothing : D (deliveries_of delay after.network.given answers) ≡ [] =
    ap D (now_wait delay before after.network.given added answers adds) ∙ each_chosen choice delay added answers
    ∙ ap (λ (l : List (ℕ × Body)). deliveries_each delay l (answers_for choice added answers)) passes.none in
    record {
      network = passes.beside.network;
      delay = passes.beside.delay;
      left = passes.beside.left;
      unplaced = passes.beside.unplaced;
      queue_is = passes.beside.queue_is ∙ sym (append-nil (D after.queue)) ∙ ap (λ l. D after.queue ++ l) (sym nothing)
          ∙ sym (filter-append (λ (d : Delivery). choice.calls d.call) after.queue (deliveries_of delay after.network.given answers));
    }

-- a play that has the same round has on its way what of all is of these calls, where its answers say what is said of these in all
pub goes_on : (choice : Choice) (after its : Play) (before own_before added : List (ℕ × Body)) (answers own_answers : List Answer) → AddsAnswered before after.network.given added answers
    → AddsAnswered own_before its.network.given (chosen choice added) own_answers → map unnumbered_answer own_answers ≡ map unnumbered_answer (answers_for choice added answers)
    → IsPartPlay choice after its after.queue its.queue → IsPartPlay choice after its (waiting after answers) (waiting its own_answers)
goes_on choice after its before own_before added answers own_answers adds own_adds said beside =
    let D : List Delivery → List Delivery = chosen_deliveries choice in
    let delay = after.delay in
    let own_sent = deliveries_of its.delay its.network.given own_answers in
    let same : own_sent ≡ D (deliveries_of delay after.network.given answers) =
    ap (λ (n : ℕ). deliveries_of n its.network.given own_answers) (sym beside.delay)
    ∙ now_wait delay own_before its.network.given (chosen choice added) own_answers own_adds ∙ each_alike delay (chosen choice added) own_answers (answers_for choice added answers) said
    ∙ sym (each_chosen choice delay added answers) ∙ ap D (sym (now_wait delay before after.network.given added answers adds)) in
    record {
      network = beside.network;
      delay = beside.delay;
      left = beside.left;
      unplaced = beside.unplaced;
      queue_is = ap (λ q. q ++ own_sent) beside.queue_is ∙ ap (λ l. D after.queue ++ l) same
          ∙ sym (filter-append (λ (d : Delivery). choice.calls d.call) after.queue (deliveries_of delay after.network.given answers));
    }
