-- Two plays of the same rows that hear the same do the same.
use Rattle.std.proofs.Common.{◌≡◌, ◌++◌, ◌<◌, ◌≤◌, ℕ, Bool, true, false, true≢false, Option, Some, None, List, [], ◌∷◌, map, refl, sym, ap, ◌∙◌, arith, subst, All}
use Rattle.std.proofs.lemmas.Bool.Decides.{nat_tests}
use Rattle.std.proofs.lemmas.List.Elements.{All-head, All-tail}
use Rattle.std.proofs.lemmas.Map.Lookups.{btree_set_from_contains, exact_unsigned}
use Rattle.std.proofs.lemmas.Cmp.{nat_cmp_total}
use Rattle.std.specs.BTreeSet.{BTreeSet}
use Rattle.std.specs.List.{slice_get}
use Rattle.std.specs.List.Sorted.{IsStrictlySortedBy}
use Rattle.std.specs.Option.{ForSome}
use Rattle.std.specs.Ordering.{nat_cmp}
use Rattle.std.specs.Prelude.{min, nat_lt}
use Rattle.cap_values.specs.Orders.{Order, operations_in}
use Rattle.cap_values.specs.declared.operation.ScfOp.{ScfOp}
use Rattle.part_laws.proofs.OneSsf.{HaveSsfsAlike, ShownAlike, due_too, first_same, gives_alike, happens_alike, row_fault_alike, ssfs_turned, stay_alike, timer_too}
use Rattle.part_laws.proofs.Orders.{same_operations}
use Rattle.part_laws.specs.OneWay.{PlaysGoOneWay, TimersRunOneWay, order_heard, orders_heard}
use Rattle.run_texts.specs.declared.script.ScriptRow.{ScriptRow}
use Rattle.run_values.specs.declared.post.Answer.{Answer}
use Rattle.run_values.specs.declared.post.Body.{Body}
use Rattle.ssf_core.specs.Calls.{View}
use Rattle.ssf_core.specs.Deliveries.{next_delivery}
use Rattle.ssf_core.specs.Moments.{in_reach, sooner}
use Rattle.ssf_core.specs.declared.config.SsfConfig.{SsfConfig}
use Rattle.ssf_core.specs.declared.deliveries.Delivery.{Delivery}
use Rattle.ssf_core.specs.declared.fault.SsfFault.{SsfFault}
use Rattle.script_player.specs.Chains.{Chain}
use Rattle.script_player.specs.Deliveries.{deliveries_for, deliveries_of}
use Rattle.script_player.specs.Dues.{AreDueBy, HasTimer, IsFirstDue, is_among}
use Rattle.script_player.specs.Networks.{Shown}
use Rattle.script_player.specs.Plays.{Play}
use Rattle.script_player.specs.Rounds.{IsEnd, IsRound, IsTurn, next_moment_of, waiting}
use Rattle.script_player.specs.Rows.{next_row}
use Rattle.script_player.specs.Runs.{Hears, fresh_play}
use Rattle.script_player.specs.Steps.{Delivers, DeliversDue, PlaysDue, PlaysRow, RunsTimers, Waits}
use Rattle.script_player.specs.Unplaced.{fault_of_row, unplaced_in, where_refused}
use Rattle.price_core.specs.declared.times.TheConstants.{HORIZON}

-- ---- steps one after another

chain_alike : {X : Type 0} (Step : Shown → X → Shown → Type 0)
    → ((x : X) (before after again last : Shown) → Step before x after → Step again x last → ShownAlike before again → ShownAlike after last)
    → (xs : List X) (before after again last : Shown) → Chain Step before xs after → Chain Step again xs last → ShownAlike before again → ShownAlike after last
chain_alike Step each [] before after again last is too alike = stay_alike before after again last is too alike
chain_alike Step each (x ∷ xs) before after again last is too alike =
    chain_alike Step each xs is.0 after too.0 last is.1.1 too.1.1 (each x before is.0 again too.0 is.1.0 too.1.0 alike)

-- the same rows have no place
rows_alike : TimersRunOneWay → (rows : List ScriptRow) (before after again last : Shown) (is : Chain PlaysRow before rows after) (too : Chain PlaysRow again rows last) → ShownAlike before again
    → unplaced_in before after rows is ≡ unplaced_in again last rows too
rows_alike one_way [] before after again last is too alike = refl
rows_alike one_way (row ∷ rows) before after again last is too alike =
    let rest = unplaced_in is.0 after rows is.1.1 in
    ap (λ (f : Option SsfFault). where_refused row f ++ rest) (row_fault_alike one_way row.at row.what before is.0 again too.0 is.1.0 too.1.0 alike)
    ∙ ap (λ (l : List ScriptRow). where_refused row (fault_of_row row.at row.what again too.0 too.1.0) ++ l)
    (rows_alike one_way rows is.0 after too.0 last is.1.1 too.1.1 (happens_alike one_way row.at row.what before is.0 again too.0 is.1.0 too.1.0 alike))

-- ---- what is due by now, in front of what isn't

module _ {X : Type 0} (at : X → ℕ) (now : ℕ) where
  abbrev Later : List X → Type 0
  Later [] = Unit {0}
  Later (x ∷ xs) = now < at x

  same_split : (front others left rest : List X) → front ++ left ≡ others ++ rest → All (λ x. at x ≤ now) front → All (λ x. at x ≤ now) others → Later left → Later rest
      → (front ≡ others) × (left ≡ rest)
  same_split [] [] left rest same due its later after = (refl, same)
  same_split [] (other ∷ others) [] rest same due its later after = absurd (cc)
  same_split [] (other ∷ others) (x ∷ left) rest same due its later after =
      let one : x ≡ other = cc same in
      let first : at other ≤ now = All-head (λ (y : X). at y ≤ now) other others its in
      absurd (omega (arith, later, first, ap at one))
  same_split (first ∷ front) [] left [] same due its later after = absurd (cc)
  same_split (first ∷ front) [] left (x ∷ rest) same due its later after =
      let one : first ≡ x = cc same in
      let here : at first ≤ now = All-head (λ (y : X). at y ≤ now) first front due in
      absurd (omega (arith, after, here, ap at one))
  same_split (first ∷ front) (other ∷ others) left rest same due its later after =
      let P : X → Type 0 = λ y. at y ≤ now in
      let one : first ≡ other = cc same in
      let rests = same_split front others left rest (cc same) (All-tail P first front due) (All-tail P other others its) later after in
      (ap (λ y. y ∷ front) one ∙ ap (λ l. other ∷ l) rests.0, rests.1)

later_delivery : (now : ℕ) (left : List Delivery) → ForSome (next_delivery left) (λ at. now < at) → Later (λ (d : Delivery). d.at) now left
later_delivery now [] later = tt
later_delivery now (delivery ∷ left) later = later delivery.at refl

later_row : (now : ℕ) (left : List ScriptRow) → ForSome (next_row left) (λ at. now < at) → Later (λ (row : ScriptRow). row.at) now left
later_row now [] later = tt
later_row now (row ∷ left) later = later row.at refl

-- ---- the calls whose timers run

calls_same : (one other : List (ℕ × View)) (now : ℕ) (calls its : List ℕ) → HaveSsfsAlike one other → IsStrictlySortedBy nat_cmp calls → IsStrictlySortedBy nat_cmp its
    → AreDueBy one now calls → AreDueBy other now its → calls ≡ its
calls_same one other now calls its alike rises rises_too due due_now =
    let first : BTreeSet ℕ = record { keys = calls } in
    let second : BTreeSet ℕ = record { keys = its } in
    btree_set_from_contains nat_cmp_total first second rises rises_too (λ call. by_both call (is_among calls call) refl (is_among its call) refl) exact_unsigned
  where
    by_both : (call : ℕ) (b : Bool) → is_among calls call ≡ b → (c : Bool) → is_among its call ≡ c → is_among calls call ≡ is_among its call
    by_both call true is true too = is ∙ sym too
    by_both call false is false too = is ∙ sym too
    by_both call true is false too = absurd (true≢false (sym (due_now.all call (due_too one other now call alike (due.due call is))) ∙ too))
    by_both call false is true too = absurd (true≢false (sym (due.all call (due_too other one now call (ssfs_turned one other alike) (due_now.due call too))) ∙ is))

-- ---- two plays

pub record PlayAlike (one other : Play) : Type 0 where
  pub network : ShownAlike one.network other.network
  pub queue : one.queue ≡ other.queue
  pub delay : one.delay ≡ other.delay
  pub left : one.left ≡ other.left
  pub ended : one.ended ≡ other.ended
  pub unplaced : one.unplaced ≡ other.unplaced

deliveries_same : (delay : ℕ) (given : List (ℕ × Body)) (answers others : List Answer) → map order_heard answers ≡ map order_heard others → deliveries_of delay given answers ≡ deliveries_of delay given others
deliveries_same delay given [] [] same = refl
deliveries_same delay given [] (other ∷ others) same = absurd (cc)
deliveries_same delay given (answer ∷ answers) [] same = absurd (cc)
deliveries_same delay given (answer ∷ answers) (other ∷ others) same =
    let first : order_heard answer ≡ order_heard other = cc same in
    let number : answer.number ≡ other.number = ap (λ (heard : ℕ × List Order). heard.0) first in
    let ops : operations_in answer.instructions ≡ operations_in other.instructions = same_operations (operations_in answer.instructions) (operations_in other.instructions) (ap (λ (heard : ℕ × List Order). heard.1) first) in
    let rest : map order_heard answers ≡ map order_heard others = cc same in
    ap (λ (n : ℕ). deliveries_for delay (operations_in answer.instructions) (slice_get given n) ++ deliveries_of delay given answers) number
    ∙ ap (λ (o : List ScfOp). deliveries_for delay o (slice_get given other.number) ++ deliveries_of delay given answers) ops
    ∙ ap (λ l. deliveries_for delay (operations_in other.instructions) (slice_get given other.number) ++ l) (deliveries_same delay given answers others rest)

waiting_same : (one other : Play) (answers others : List Answer) → PlayAlike one other → map order_heard answers ≡ map order_heard others → waiting one answers ≡ waiting other others
waiting_same one other answers others alike same =
    ap (λ q. q ++ deliveries_of one.delay one.network.given answers) alike.queue
    ∙ ap (λ (n : ℕ). other.queue ++ deliveries_of n one.network.given answers) alike.delay
    ∙ ap (λ (g : List (ℕ × Body)). other.queue ++ deliveries_of other.delay g answers) alike.network.given
    ∙ ap (λ l. other.queue ++ l) (deliveries_same other.delay other.network.given answers others same)

round_alike : TimersRunOneWay → (one after other last : Play) (answers others : List Answer) → IsRound one after answers → IsRound other last others → PlayAlike one other
    → map order_heard answers ≡ map order_heard others → PlayAlike after last
round_alike one_way one after other last answers others is too alike same =
    let waits = waiting_same one other answers others alike same in
    let due : is.due ≡ too.due = first_same one.network.ssfs other.network.ssfs is.due too.due alike.network.ssfs is.first_due too.first_due in
    let next : next_moment_of one answers is.due ≡ next_moment_of other others too.due =
    ap (λ (l : List ScriptRow). in_reach (sooner (sooner (next_row l) (next_delivery (waiting one answers))) is.due)) alike.left
    ∙ ap (λ (w : List Delivery). in_reach (sooner (sooner (next_row other.left) (next_delivery w)) is.due)) waits
    ∙ ap (λ (d : Option ℕ). in_reach (sooner (sooner (next_row other.left) (next_delivery (waiting other others))) d)) due in
    let some : Some is.now ≡ Some too.now = sym is.next ∙ next ∙ too.next in
    let now : too.now ≡ is.now = sym (cc some) in
    let delivers : DeliversDue is.now other.network too.delivered (waiting other others) last.queue = subst (λ (n : ℕ). DeliversDue n other.network too.delivered (waiting other others) last.queue) now too.delivers in
    let plays : PlaysDue is.now too.delivered too.played other.left last.left = record {
      played = too.plays.played;
      split = too.plays.split;
      due = subst (λ (n : ℕ). All (λ (row : ScriptRow). row.at ≤ n) too.plays.played) now too.plays.due;
      later = subst (λ (n : ℕ). ForSome (next_row last.left) (λ at. n < at)) now too.plays.later;
      plays = too.plays.plays;
    } in
    let runs : RunsTimers is.now too.played last.network = subst (λ (n : ℕ). RunsTimers n too.played last.network) now too.runs in
    let queues = same_split (λ (d : Delivery). d.at) is.now is.delivers.delivered delivers.delivered after.queue last.queue (sym is.delivers.split ∙ waits ∙ delivers.split) is.delivers.due delivers.due
    (later_delivery is.now after.queue is.delivers.later) (later_delivery is.now last.queue delivers.later) in
    let rows = same_split (λ (row : ScriptRow). row.at) is.now is.plays.played plays.played after.left last.left (sym is.plays.split ∙ alike.left ∙ plays.split) is.plays.due plays.due
    (later_row is.now after.left is.plays.later) (later_row is.now last.left plays.later) in
    let delivered = chain_alike (Delivers is.now) (λ d a b c e. gives_alike one_way is.now d.call _ a b c e) is.delivers.delivered one.network is.delivered other.network too.delivered
    is.delivers.delivers (subst (λ (l : List Delivery). Chain (Delivers is.now) other.network l too.delivered) (sym queues.0) delivers.delivers) alike.network in
    let played = chain_alike PlaysRow (λ row a b c e. happens_alike one_way row.at row.what a b c e) is.plays.played is.delivered is.played too.delivered too.played
    is.plays.plays (subst (λ (l : List ScriptRow). Chain PlaysRow too.delivered l too.played) (sym rows.0) plays.plays) delivered in
    let calls = calls_same is.played.ssfs too.played.ssfs is.now is.runs.calls runs.calls played.ssfs is.runs.ascending runs.ascending is.runs.due runs.due in
    let network = chain_alike (Waits is.now) (λ call a b c e. gives_alike one_way is.now call _ a b c e) is.runs.calls is.played after.network too.played last.network
    is.runs.waits (subst (λ (l : List ℕ). Chain (Waits is.now) too.played l last.network) (sym calls) runs.waits) played in
    let same_unplaced : unplaced_in is.delivered is.played is.plays.played is.plays.plays ≡ unplaced_in too.delivered too.played too.plays.played too.plays.plays =
    subst (λ (l : List ScriptRow). (chain : Chain PlaysRow too.delivered l too.played) → unplaced_in is.delivered is.played is.plays.played is.plays.plays ≡ unplaced_in too.delivered too.played l chain) rows.0
    (λ chain. rows_alike one_way is.plays.played is.delivered is.played too.delivered too.played is.plays.plays chain delivered) too.plays.plays in
    record {
      network = network;
      queue = queues.1;
      delay = is.same_delay ∙ alike.delay ∙ sym too.same_delay;
      left = rows.1;
      ended = is.running ∙ sym too.running;
      unplaced =
          is.unplaced ∙ ap (λ (l : List ScriptRow). l ++ unplaced_in is.delivered is.played is.plays.played is.plays.plays) alike.unplaced
          ∙ ap (λ (l : List ScriptRow). other.unplaced ++ l) same_unplaced ∙ sym too.unplaced;
    }

end_alike : (one after other last : Play) (answers others : List Answer) → IsEnd one after answers → IsEnd other last others → PlayAlike one other → map order_heard answers ≡ map order_heard others
    → PlayAlike after last
end_alike one after other last answers others is too alike same = record {
  network = stay_alike one.network after.network other.network last.network is.same_network too.same_network alike.network;
  queue = is.same_queue ∙ waiting_same one other answers others alike same ∙ sym too.same_queue;
  delay = is.same_delay ∙ alike.delay ∙ sym too.same_delay;
  left = is.same_left ∙ alike.left ∙ sym too.same_left;
  ended = is.ended ∙ sym too.ended;
  unplaced = is.same_unplaced ∙ alike.unplaced ∙ sym too.same_unplaced;
}

-- ---- no round comes where the other play ends

out_of_reach : (at : ℕ) → HORIZON < at → in_reach (Some at) ≡ None
out_of_reach at past = let far : nat_lt HORIZON at ≡ true = grind (arith, nat_tests, past) in rw far refl

nothing_near : (delivery due : Option ℕ) → ForSome delivery (λ at. HORIZON < at) → ForSome due (λ at. HORIZON < at) → in_reach (sooner (sooner None delivery) due) ≡ None
nothing_near None None far past = refl
nothing_near None (Some at) far past = out_of_reach at (past at refl)
nothing_near (Some at) None far past = out_of_reach at (far at refl)
nothing_near (Some at) (Some its) far past = out_of_reach (min at its) (omega (arith, far at refl, past its refl))

far_due : (one other : Play) (due : Option ℕ) → PlayAlike one other → IsFirstDue one.network.ssfs due → ((call at : ℕ) → HasTimer other.network.ssfs call at → HORIZON < at) → ForSome due (λ at. HORIZON < at)
far_due one other None alike first past = λ at is. absurd (cc)
far_due one other (Some moment) alike first past = λ at is. let same : moment ≡ at = cc is in subst (λ (n : ℕ). HORIZON < n) same (past first.0.0 moment (timer_too one.network.ssfs other.network.ssfs first.0.0 moment alike.network.ssfs first.0.1))

no_clash : (one after other last : Play) (answers others : List Answer) → IsRound one after answers → IsEnd other last others → PlayAlike one other → map order_heard answers ≡ map order_heard others → ⊥
no_clash one after other last answers others is too alike same =
    let waits = waiting_same one other answers others alike same in
    let left : one.left ≡ [] = alike.left ∙ too.no_row in
    let far : ForSome (next_delivery (waiting one answers)) (λ at. HORIZON < at) = subst (λ (w : List Delivery). ForSome (next_delivery w) (λ at. HORIZON < at)) (sym waits) too.delivery_past in
    let none : in_reach (sooner (sooner None (next_delivery (waiting one answers))) is.due) ≡ None =
    nothing_near (next_delivery (waiting one answers)) is.due far (far_due one other is.due alike is.first_due too.timers_past) in
    let next : next_moment_of one answers is.due ≡ None = ap (λ (l : List ScriptRow). in_reach (sooner (sooner (next_row l) (next_delivery (waiting one answers))) is.due)) left ∙ none in
    let some : Some is.now ≡ None = sym is.next ∙ next in absurd (cc some)

turned : (one other : Play) → PlayAlike one other → PlayAlike other one
turned one other alike = record {
  network = record { config = sym alike.network.config; given = sym alike.network.given; ssfs = ssfs_turned one.network.ssfs other.network.ssfs alike.network.ssfs };
  queue = sym alike.queue;
  delay = sym alike.delay;
  left = sym alike.left;
  ended = sym alike.ended;
  unplaced = sym alike.unplaced;
}

pub turn_alike : TimersRunOneWay → (more its : Bool) (one after other last : Play) (answers others : List Answer) → IsTurn more one after answers → IsTurn its other last others → PlayAlike one other
    → map order_heard answers ≡ map order_heard others → PlayAlike after last
turn_alike one_way true true one after other last answers others is too alike same = round_alike one_way one after other last answers others is too alike same
turn_alike one_way false false one after other last answers others is too alike same = end_alike one after other last answers others is too alike same
turn_alike one_way true false one after other last answers others is too alike same = absurd (no_clash one after other last answers others is too alike same)
turn_alike one_way false true one after other last answers others is too alike same = absurd (no_clash other last one after others answers too is (turned one other alike) (sym same))

-- ---- the law

heard_alike : TimersRunOneWay → (heard others : List (List Answer)) (before one again other : Play) → orders_heard heard ≡ orders_heard others → Chain Hears before heard one → Chain Hears again others other
    → PlayAlike before again → PlayAlike one other
heard_alike one_way [] [] before one again other same is too alike =
    subst (λ (p : Play). PlayAlike p other) (sym is) (subst (λ (p : Play). PlayAlike before p) (sym too) alike)
heard_alike one_way [] (answers ∷ others) before one again other same is too alike = absurd (cc)
heard_alike one_way (answers ∷ heard) [] before one again other same is too alike = absurd (cc)
heard_alike one_way (answers ∷ heard) (replies ∷ others) before one again other same is too alike =
    let first : map order_heard answers ≡ map order_heard replies = cc same in
    let rest : orders_heard heard ≡ orders_heard others = cc same in
    heard_alike one_way heard others is.0 one too.0 other rest is.1.1 too.1.1
    (turn_alike one_way is.1.0.more too.1.0.more before is.0 again too.0 answers replies is.1.0.turn too.1.0.turn alike first)

pub fresh_alike : (config : SsfConfig) (delay : ℕ) (rows : List ScriptRow) → PlayAlike (fresh_play config delay rows) (fresh_play config delay rows)
fresh_alike config delay rows =
    record { network = record { config = refl; given = refl; ssfs = λ call. tt }; queue = refl; delay = refl; left = refl; ended = refl; unplaced = refl }

pub plays_one_way : TimersRunOneWay → PlaysGoOneWay
plays_one_way one_way config delay rows heard others one other same is too =
    let alike = heard_alike one_way heard others (fresh_play config delay rows) one (fresh_play config delay rows) other same is too (fresh_alike config delay rows) in
    record { given = alike.network.given; queue = alike.queue; left = alike.left; ended = alike.ended; unplaced = alike.unplaced }
