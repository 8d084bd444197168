-- What is due by now lies in front of what isn't, among all and among some.
use Rattle.std.proofs.Common.{◌≡◌, ◌++◌, ◌+◌, ◌<◌, ◌≤◌, ◌||◌, ℕ, Bool, true, false, true≢false, Some, None, List, [], ◌∷◌, All, cond, refl, sym, ap, ◌∙◌, arith, subst}
use Rattle.std.proofs.lemmas.Bool.Decides.{nat_tests}
use Rattle.std.proofs.lemmas.Cmp.{nat_cmp_total}
use Rattle.std.proofs.lemmas.List.Elements.{All-cons, All-filter, All-head, All-nil, All-tail, filter-append}
use Rattle.std.proofs.lemmas.List.Kept.{IsStrictlySortedBy-filter}
use Rattle.std.proofs.lemmas.Map.Lookups.{btree_set_from_contains, exact_unsigned}
use Rattle.std.specs.BTreeMap.{is_at}
use Rattle.std.specs.BTreeSet.{BTreeSet}
use Rattle.std.specs.List.{filter}
use Rattle.std.specs.List.Sorted.{IsStrictlySortedBy}
use Rattle.std.specs.Option.{ForSome}
use Rattle.std.specs.Ordering.{nat_cmp}
use Rattle.std.specs.Prelude.{nat_le}
use Rattle.std.proofs.lemmas.Bool.{and_parts}
use Rattle.part_laws.proofs.Beside.{IsNetworkOf}
use Rattle.part_laws.proofs.ChosenSteps.{chosen_ssfs, own_ssf, same_choice, shown_alike}
use Rattle.part_laws.proofs.InOrder.{all_from, ComesInOrder, of_delivery, rest_in_order, starts_of, StartsFrom}
use Rattle.part_laws.proofs.OneSsf.{ssfs_turned, timer_too}
use Rattle.part_laws.specs.Chosen.{Choice}
use Rattle.run_texts.specs.Views.{rows_are_in_order}
use Rattle.run_texts.specs.declared.script.ScriptRow.{ScriptRow}
use Rattle.script_player.specs.Dues.{AreDueBy, HasTimer, IsDueBy, is_among}
use Rattle.script_player.specs.Networks.{Shown}
use Rattle.script_player.specs.Rows.{next_row}
use Rattle.ssf_core.specs.Deliveries.{next_delivery}
use Rattle.ssf_core.specs.declared.deliveries.Delivery.{Delivery}

-- ---- what is due by now, in front of what isn't

module _ {X : Type 0} (at : X → ℕ) where
  pub at_now : (now : ℕ) (front left : List X) → All (λ x. now ≤ at x) (front ++ left) → All (λ x. at x ≤ now) front → All (λ x. at x ≡ now) front
  at_now now [] left all due = All-nil (λ (x : X). at x ≡ now)
  at_now now (x ∷ front) left all due =
      let P : X → Type 0 = λ y. now ≤ at y in
      let Q : X → Type 0 = λ y. at y ≤ now in
      let first : now ≤ at x = All-head P x (front ++ left) all in
      let last : at x ≤ now = All-head Q x front due in
      All-cons (λ (y : X). at y ≡ now) x front (omega (arith, first, last)) (at_now now front left (All-tail P x (front ++ left) all) (All-tail Q x front due))

  module _ (now : ℕ) where
    abbrev Due : List X → Type 0
    Due xs = All (λ (x : X). at x ≤ now) xs

    abbrev Later : List X → Type 0
    Later xs = StartsFrom at (now + 1) xs

    same_split : (front others left rest : List X) → front ++ left ≡ others ++ rest → Due front → Due others → Later left → Later rest → (front ≡ others) × (left ≡ rest)
    same_split [] [] left rest same due its later after = (refl, same)
    same_split [] (other ∷ others) [] rest same due its later after = absurd (cc)
    same_split [] (other ∷ others) (x ∷ left) rest same due its later after =
        let one : x ≡ other = cc same in
        let first : at other ≤ now = All-head (λ (y : X). at y ≤ now) other others its in
        absurd (omega (arith, later, first, ap at one))
    same_split (first ∷ front) [] left [] same due its later after = absurd (cc)
    same_split (first ∷ front) [] left (x ∷ rest) same due its later after =
        let one : first ≡ x = cc same in
        let here : at first ≤ now = All-head (λ (y : X). at y ≤ now) first front due in
        absurd (omega (arith, after, here, ap at one))
    same_split (first ∷ front) (other ∷ others) left rest same due its later after =
        let P : X → Type 0 = λ y. at y ≤ now in
        let one : first ≡ other = cc same in
        let rests = same_split front others left rest (cc same) (All-tail P first front due) (All-tail P other others its) later after in
        (ap (λ y. y ∷ front) one ∙ ap (λ l. other ∷ l) rests.0, rests.1)

    -- of some, those are due that are due of all
    pub kept_split : (own : X → Bool) (was : ℕ) (front left its rest : List X) → ComesInOrder at was (front ++ left) → Due front → Later left → filter own (front ++ left) ≡ its ++ rest → Due its → Later rest
        → (filter own front ≡ its) × (filter own left ≡ rest)
    kept_split own was front left its rest order due later same its_due after =
        let behind = all_from at (now + 1) left (rest_in_order at was (now + 1) front left order later) in
        same_split (filter own front) its (filter own left) rest (sym (filter-append own front left) ∙ same) (All-filter own (λ (x : X). at x ≤ now) front due) its_due
        (starts_of at (now + 1) (filter own left) (All-filter own (λ (x : X). now + 1 ≤ at x) left behind)) after

-- ---- deliveries and rows

abbrev pub of_row : ScriptRow → ℕ
of_row row = row.at

pub in_order_rows : (from : ℕ) (rows : List ScriptRow) → rows_are_in_order from rows ≡ true → ComesInOrder of_row from rows
in_order_rows from [] is = tt
in_order_rows from (row ∷ rows) is =
    let parts = and_parts (nat_le from row.at) (rows_are_in_order row.at rows) is in
    let first : from ≤ row.at = grind (arith, nat_tests, parts.0) in (first, in_order_rows row.at rows parts.1)

pub rows_in_order : (from : ℕ) (rows : List ScriptRow) → ComesInOrder of_row from rows → rows_are_in_order from rows ≡ true
rows_in_order from [] order = refl
rows_in_order from (row ∷ rows) order =
    let first : from ≤ row.at = order.0 in
    let test : nat_le from row.at ≡ true = grind (arith, nat_tests, first) in
    rw (test, rows_in_order row.at rows order.1) refl

pub queue_starts : (from : ℕ) (queue : List Delivery) → ForSome (next_delivery queue) (λ at. from ≤ at) → StartsFrom of_delivery from queue
queue_starts from [] starts = tt
queue_starts from (delivery ∷ queue) starts = starts delivery.at refl

pub queue_later : (now : ℕ) (queue : List Delivery) → ForSome (next_delivery queue) (λ at. now < at) → StartsFrom of_delivery (now + 1) queue
queue_later now [] later = tt
queue_later now (delivery ∷ queue) later = let after : now < delivery.at = later delivery.at refl in omega (arith, after)

pub rows_start : (from : ℕ) (rows : List ScriptRow) → ForSome (next_row rows) (λ at. from ≤ at) → StartsFrom of_row from rows
rows_start from [] starts = tt
rows_start from (row ∷ rows) starts = starts row.at refl

pub rows_later : (now : ℕ) (rows : List ScriptRow) → ForSome (next_row rows) (λ at. now < at) → StartsFrom of_row (now + 1) rows
rows_later now [] later = tt
rows_later now (row ∷ rows) later = let after : now < row.at = later row.at refl in omega (arith, after)

-- the next one isn't before a moment where none is
pub next_delivery_from : (from at : ℕ) (queue : List Delivery) → StartsFrom of_delivery from queue → next_delivery queue ≡ Some at → from ≤ at
next_delivery_from from at [] starts is = absurd (cc)
next_delivery_from from at (delivery ∷ queue) starts is = let same : delivery.at ≡ at = cc is in subst (λ (n : ℕ). from ≤ n) same starts

pub next_row_from : (from at : ℕ) (rows : List ScriptRow) → StartsFrom of_row from rows → next_row rows ≡ Some at → from ≤ at
next_row_from from at [] starts is = absurd (cc)
next_row_from from at (row ∷ rows) starts is = let same : row.at ≡ at = cc is in subst (λ (n : ℕ). from ≤ n) same starts

-- ---- timers

module _ (choice : Choice) (whole part : Shown) (network : IsNetworkOf choice whole part) where
  -- a timer of some is one of all
  pub timer_of_all : (call at : ℕ) → HasTimer part.ssfs call at → HasTimer whole.ssfs call at
  timer_of_all call at timer = by_choice (choice.calls call) refl
    where
      by_choice : (b : Bool) → choice.calls call ≡ b → HasTimer whole.ssfs call at
      by_choice true own =
          let alike = shown_alike choice whole part network in
          let its = timer_too part.ssfs (chosen_ssfs choice whole.ssfs) call at (ssfs_turned (chosen_ssfs choice whole.ssfs) part.ssfs alike.ssfs) timer in
          record { view = its.view; is = sym (own_ssf choice call whole.ssfs own) ∙ its.is; next = its.next }
      by_choice false not = let none : Some timer.view ≡ None = sym timer.is ∙ network.ssfs.no_other call not in absurd (cc none)

  timer_of_some : (call at : ℕ) → choice.calls call ≡ true → HasTimer whole.ssfs call at → HasTimer part.ssfs call at
  timer_of_some call at own timer =
      timer_too (chosen_ssfs choice whole.ssfs) part.ssfs call at (shown_alike choice whole part network).ssfs
      (record { view = timer.view; is = own_ssf choice call whole.ssfs own ∙ timer.is; next = timer.next })

  is_chosen_call : (call at : ℕ) → HasTimer part.ssfs call at → choice.calls call ≡ true
  is_chosen_call call at timer = by_choice (choice.calls call) refl
    where
      by_choice : (b : Bool) → choice.calls call ≡ b → b ≡ true
      by_choice true own = refl
      by_choice false not = let none : Some timer.view ≡ None = sym timer.is ∙ network.ssfs.no_other call not in absurd (cc none)

  not_here : (call key : ℕ) (b : Bool) → choice.calls key ≡ b → (choice.calls call ≡ b → ⊥) → is_at (nat_cmp call) key ≡ false
  not_here call key b is not = by_here (is_at (nat_cmp call) key) refl
    where
      by_here : (here : Bool) → is_at (nat_cmp call) key ≡ here → here ≡ false
      by_here true same = absurd (not (sym (same_choice choice call key same) ∙ is))
      by_here false same = refl

  among_own : (call : ℕ) (calls : List ℕ) → choice.calls call ≡ true → is_among (filter choice.calls calls) call ≡ is_among calls call
  among_own call [] own = refl
  among_own call (key ∷ calls) own = by_kept (among_own call calls own) (choice.calls key) refl
    where
      by_kept : is_among (filter choice.calls calls) call ≡ is_among calls call → (b : Bool) → choice.calls key ≡ b → is_among (cond b (key ∷ filter choice.calls calls) (filter choice.calls calls)) call ≡ (is_at (nat_cmp call) key || is_among calls call)
      by_kept same true kept = ap (λ b. is_at (nat_cmp call) key || b) same
      by_kept same false dropped = rw (not_here call key false dropped (λ not. true≢false (sym own ∙ not))) same

  among_none : (call : ℕ) (calls : List ℕ) → choice.calls call ≡ false → is_among (filter choice.calls calls) call ≡ false
  among_none call [] not = refl
  among_none call (key ∷ calls) not = by_kept (among_none call calls not) (choice.calls key) refl
    where
      by_kept : is_among (filter choice.calls calls) call ≡ false → (b : Bool) → choice.calls key ≡ b → is_among (cond b (key ∷ filter choice.calls calls) (filter choice.calls calls)) call ≡ false
      by_kept none true kept = rw (not_here call key true kept (λ own. true≢false (sym own ∙ not))) none
      by_kept none false dropped = none

  -- the calls of some whose timers are due are those of all that are chosen
  pub kept_calls : (now : ℕ) (calls its : List ℕ) → IsStrictlySortedBy nat_cmp calls → IsStrictlySortedBy nat_cmp its → AreDueBy whole.ssfs now calls → AreDueBy part.ssfs now its → filter choice.calls calls ≡ its
  kept_calls now calls its rises rises_too due due_too =
      let first : BTreeSet ℕ = record { keys = filter choice.calls calls } in
      let second : BTreeSet ℕ = record { keys = its } in
      btree_set_from_contains nat_cmp_total first second (IsStrictlySortedBy-filter nat_cmp choice.calls calls rises) rises_too (λ call. by_choice call (choice.calls call) refl) exact_unsigned
    where
      in_its : (call : ℕ) → IsDueBy part.ssfs now call → IsDueBy whole.ssfs now call
      in_its call is = (is.0, (timer_of_all call is.0 is.1.0, is.1.1))

      in_all : (call : ℕ) → choice.calls call ≡ true → IsDueBy whole.ssfs now call → IsDueBy part.ssfs now call
      in_all call own is = (is.0, (timer_of_some call is.0 own is.1.0, is.1.1))

      by_both : (call : ℕ) → choice.calls call ≡ true → (b : Bool) → is_among calls call ≡ b → (c : Bool) → is_among its call ≡ c → is_among calls call ≡ is_among its call
      by_both call own true is true too = is ∙ sym too
      by_both call own false is false too = is ∙ sym too
      by_both call own true is false too = absurd (true≢false (sym (due_too.all call (in_all call own (due.due call is))) ∙ too))
      by_both call own false is true too = absurd (true≢false (sym (due.all call (in_its call (due_too.due call too))) ∙ is))

      none_among : (call : ℕ) → choice.calls call ≡ false → (b : Bool) → is_among its call ≡ b → b ≡ false
      none_among call not true is = let due_now = due_too.due call is in absurd (true≢false (sym (is_chosen_call call due_now.0 due_now.1.0) ∙ not))
      none_among call not false is = refl

      by_choice : (call : ℕ) (b : Bool) → choice.calls call ≡ b → is_among (filter choice.calls calls) call ≡ is_among its call
      by_choice call true own = among_own call calls own ∙ by_both call own (is_among calls call) refl (is_among its call) refl
      by_choice call false not = among_none call calls not ∙ sym (none_among call not (is_among its call) refl)
