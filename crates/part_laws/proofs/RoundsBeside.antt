-- The play of some rows has the rounds of the play of all that have something of it.
use Rattle.std.proofs.Common.{◌≡◌, ◌++◌, ◌+◌, ◌<◌, ◌≤◌, ◌⊎◌, ℕ, Bool, true, false, true≢false, Option, Some, None, List, [], ◌∷◌, All, inl, inr, refl, sym, ap, ◌∙◌, arith, subst, append-nil}
use Rattle.std.proofs.lemmas.Bool.{cases_lt}
use Rattle.std.proofs.lemmas.List.{append_cancel_left}
use Rattle.std.proofs.lemmas.List.Elements.{All-filter, All-nil, All-tail, filter-append}
use Rattle.std.specs.List.{filter}
use Rattle.std.specs.List.Sorted.{IsStrictlySortedBy}
use Rattle.std.specs.Option.{ForSome}
use Rattle.std.specs.Ordering.{nat_cmp}
use Rattle.part_laws.proofs.Beside.{EndsAreFollowed, HasEnded, IsAdded, IsBetween, IsFollowed, IsNetworkOf, IsPartPlay, RoundsAreFollowed, chosen_deliveries}
use Rattle.part_laws.proofs.ChosenFronts.{at_now, in_order_rows, kept_calls, kept_split, next_delivery_from, next_row_from, of_row, queue_later, queue_starts, rows_in_order, rows_later, rows_start, timer_of_all}
use Rattle.part_laws.proofs.InOrder.{all_from, ComesInOrder, kept_order, lower, lower_all, of_delivery, order_from, raise_all, rest_in_order, starts_of}
use Rattle.part_laws.proofs.ChosenSteps.{chain_followed, delivers_followed, plays_followed, rows_missed, waits_followed}
use Rattle.part_laws.proofs.LeastMoments.{From, IsLeast, least_of}
use Rattle.part_laws.proofs.RoundMoments.{AreTimely, GrowsAt, chain_at, delivers_at, expires_later, grows_both, happens_at, waits_at}
use Rattle.part_laws.specs.Chosen.{Choice, chosen, is_chosen}
use Rattle.part_laws.specs.OneWay.{TimersRunOneWay}
use Rattle.part_laws.specs.Rows.{chosen_rows, is_chosen_happening}
use Rattle.run_texts.specs.declared.script.ScriptRow.{ScriptRow}
use Rattle.run_values.specs.declared.post.Answer.{Answer}
use Rattle.run_values.specs.declared.post.Body.{Body}
use Rattle.script_player.specs.Chains.{Chain}
use Rattle.script_player.specs.Dues.{AreDueBy, HasTimer, IsFirstDue}
use Rattle.script_player.specs.Networks.{Shown}
use Rattle.script_player.specs.Plays.{Play}
use Rattle.script_player.specs.Rounds.{IsEnd, IsRound, IsTurn, waiting}
use Rattle.script_player.specs.Rows.{next_row}
use Rattle.script_player.specs.Steps.{Delivers, DeliversDue, PlaysDue, PlaysRow, RunsTimers, Waits}
use Rattle.script_player.specs.Unplaced.{unplaced_in}
use Rattle.ssf_core.specs.Deliveries.{next_delivery}
use Rattle.ssf_core.specs.declared.deliveries.Delivery.{Delivery}
use Rattle.price_core.specs.declared.times.TheConstants.{HORIZON}

-- ---- nothing is before a moment

least_in : (before after : Play) (answers : List Answer) (round : IsRound before after answers) → IsLeast (next_row before.left) (next_delivery (waiting before answers)) round.due round.now
least_in before after answers round = least_of (next_row before.left) (next_delivery (waiting before answers)) round.due round.now round.next

record NothingBefore (now : ℕ) (play : Play) (queue : List Delivery) : Type 0 where
  pub rows : All (λ (row : ScriptRow). now ≤ row.at) play.left
  pub deliveries : All (λ (delivery : Delivery). now ≤ delivery.at) queue
  pub timers : (call at : ℕ) → HasTimer play.network.ssfs call at → now ≤ at

timers_from : (play : Play) (due : Option ℕ) (now : ℕ) → IsFirstDue play.network.ssfs due → From now due → (call at : ℕ) → HasTimer play.network.ssfs call at → now ≤ at
timers_from play None now first from call at timer = absurd (first call at timer)
timers_from play (Some moment) now first from call at timer =
    let least : moment ≤ at = first.1 call at timer in
    let later : now ≤ moment = from moment refl in omega (arith, least, later)

nothing_before : (play after : Play) (answers : List Answer) (last : ℕ) (round : IsRound play after answers) → ComesInOrder of_delivery last (waiting play answers) → ComesInOrder of_row last play.left
    → NothingBefore round.now play (waiting play answers)
nothing_before play after answers last round queue_order row_order =
    let least = least_in play after answers round in
    let now : ℕ = round.now in
    let queue : List Delivery = waiting play answers in
    record {
      rows = all_from of_row now play.left (order_from of_row last now play.left row_order (rows_start now play.left least.row_from));
      deliveries = all_from of_delivery now queue (order_from of_delivery last now queue queue_order (queue_starts now queue least.delivery_from));
      timers = timers_from play round.due now round.first_due least.due_from;
    }

no_rows : (far : ℕ) (rows : List ScriptRow) → rows ≡ [] → All (λ (row : ScriptRow). far ≤ row.at) rows
no_rows far rows none = subst (λ (l : List ScriptRow). All (λ (row : ScriptRow). far ≤ row.at) l) (sym none) (All-nil (λ (row : ScriptRow). far ≤ row.at))

-- a play that ends has nothing up to the greatest moment that a gsmSSF takes
nothing_left : (play after : Play) (answers : List Answer) (last : ℕ) → IsEnd play after answers → ComesInOrder of_delivery last (waiting play answers) → NothingBefore (HORIZON + 1) play (waiting play answers)
nothing_left play after answers last end queue_order =
    let queue : List Delivery = waiting play answers in
    record {
      rows = no_rows (HORIZON + 1) play.left end.no_row;
      deliveries = all_from of_delivery (HORIZON + 1) queue (order_from of_delivery last (HORIZON + 1) queue queue_order (queue_later HORIZON queue end.delivery_past));
      timers = λ call at timer. let past : HORIZON < at = end.timers_past call at timer in omega (arith, past);
    }

sooner_too : (near far : ℕ) (play : Play) (queue : List Delivery) → near ≤ far → NothingBefore far play queue → NothingBefore near play queue
sooner_too near far play queue order none = record {
  rows = lower_all of_row near far play.left order none.rows;
  deliveries = lower_all of_delivery near far queue order none.deliveries;
  timers = λ call at timer. let its : far ≤ at = none.timers call at timer in omega (arith, order, its);
}

-- so it is for some
part_from : (choice : Choice) (now : ℕ) (whole part : Play) (queue own_queue : List Delivery) → NothingBefore now whole queue → IsPartPlay choice whole part queue own_queue → NothingBefore now part own_queue
part_from choice now whole part queue own_queue before beside = record {
  rows =
      let its = All-filter (λ (row : ScriptRow). is_chosen_happening choice row.what) (λ (row : ScriptRow). now ≤ row.at) whole.left before.rows in
      subst (λ (l : List ScriptRow). All (λ (row : ScriptRow). now ≤ row.at) l) (sym beside.left) its;
  deliveries =
      let its = All-filter (λ (delivery : Delivery). choice.calls delivery.call) (λ (delivery : Delivery). now ≤ delivery.at) queue before.deliveries in
      subst (λ (l : List Delivery). All (λ (delivery : Delivery). now ≤ delivery.at) l) (sym beside.queue_is) its;
  timers = λ call at timer. before.timers call at (timer_of_all choice whole.network part.network beside.network call at timer);
}

-- a round comes at no moment before which nothing is
round_from : (from : ℕ) (before after : Play) (answers : List Answer) (round : IsRound before after answers) → NothingBefore from before (waiting before answers) → from ≤ round.now
round_from from before after answers round none = by_one (least_in before after answers round).one_of
  where
    by_due : (due : Option ℕ) → IsFirstDue before.network.ssfs due → due ≡ Some round.now → from ≤ round.now
    by_due due first is = let its : IsFirstDue before.network.ssfs (Some round.now) = subst (IsFirstDue before.network.ssfs) is first in none.timers its.0.0 round.now its.0.1

    by_one : (next_row before.left ≡ Some round.now) ⊎ ((next_delivery (waiting before answers) ≡ Some round.now) ⊎ (round.due ≡ Some round.now)) → from ≤ round.now
    by_one (inl row) = next_row_from from round.now before.left (starts_of of_row from before.left none.rows) row
    by_one (inr (inl delivery)) = next_delivery_from from round.now (waiting before answers) (starts_of of_delivery from (waiting before answers) none.deliveries) delivery
    by_one (inr (inr due)) = by_due round.due round.first_due due

-- ---- all that is due by a moment

-- from one network to another, what is due by now is delivered and played, and the timers run
record GoesBy (now : ℕ) (before after : Shown) (queue queue_left : List Delivery) (rows rows_left : List ScriptRow) : Type 0 where
  pub delivered : Shown
  pub played : Shown
  pub delivers : DeliversDue now before delivered queue queue_left
  pub plays : PlaysDue now delivered played rows rows_left
  pub runs : RunsTimers now played after

-- the rows that had no place
abbrev missed_by : {now : ℕ} {before after : Shown} {queue queue_left : List Delivery} {rows rows_left : List ScriptRow} → GoesBy now before after queue queue_left rows rows_left → List ScriptRow
missed_by goes = unplaced_in goes.delivered goes.played goes.plays.played goes.plays.plays

abbrev goes_in : (before after : Play) (answers : List Answer) (round : IsRound before after answers) → GoesBy round.now before.network after.network (waiting before answers) after.queue before.left after.left
goes_in before after answers round = record { delivered = round.delivered; played = round.played; delivers = round.delivers; plays = round.plays; runs = round.runs }

no_calls : IsStrictlySortedBy nat_cmp []
unfolding IsStrictlySortedBy
no_calls = tt

-- where nothing is due by now, a play waits
abbrev waits_by : (now : ℕ) (play : Play) (queue : List Delivery) → NothingBefore (now + 1) play queue → GoesBy now play.network play.network queue queue play.left play.left
waits_by now play queue none = record {
  delivered = play.network;
  played = play.network;
  delivers = record { delivered = []; split = refl; due = All-nil (λ (delivery : Delivery). delivery.at ≤ now); later = later_delivery queue none.deliveries; delivers = refl };
  plays = record { played = []; split = refl; due = All-nil (λ (row : ScriptRow). row.at ≤ now); later = later_row play.left none.rows; plays = refl };
  runs = record { calls = []; ascending = no_calls; due = none_due; waits = refl; later = λ call at timer. let after : now + 1 ≤ at = none.timers call at timer in omega (arith, after) };
}
  where
    later_delivery : (queue : List Delivery) → All (λ (delivery : Delivery). now + 1 ≤ delivery.at) queue → ForSome (next_delivery queue) (λ at. now < at)
    later_delivery queue all = λ at is.
        let after = next_delivery_from (now + 1) at queue (starts_of of_delivery (now + 1) queue all) is in omega (arith, after)

    later_row : (rows : List ScriptRow) → All (λ (row : ScriptRow). now + 1 ≤ row.at) rows → ForSome (next_row rows) (λ at. now < at)
    later_row rows all = λ at is.
        let after = next_row_from (now + 1) at rows (starts_of of_row (now + 1) rows all) is in omega (arith, after)

    none_due : AreDueBy play.network.ssfs now []
    none_due = record {
      due = λ call is. absurd (true≢false (sym is));
      all = λ call is.
          let after : now + 1 ≤ is.0 = none.timers call is.0 is.1.0 in
          let by : is.0 ≤ now = is.1.1 in absurd (omega (arith, after, by));
    }

-- ---- of all and of some

record StandsBeside (choice : Choice) (after its : Shown) (queue own_queue : List Delivery) (rows own_rows : List ScriptRow) : Type 0 where
  pub network : IsNetworkOf choice after its
  pub queue_is : own_queue ≡ chosen_deliveries choice queue
  pub rows_are : own_rows ≡ chosen_rows choice rows

-- so they stand again, and the rows of some that had no place are those of all
record GoesBeside (choice : Choice) {now : ℕ} {whole after part its : Shown} {queue queue_left own_queue own_queue_left : List Delivery} {rows rows_left own_rows own_rows_left : List ScriptRow}
    (goes : GoesBy now whole after queue queue_left rows rows_left) (too : GoesBy now part its own_queue own_queue_left own_rows own_rows_left) : Type 0 where
  pub stands : StandsBeside choice after its queue_left own_queue_left rows_left own_rows_left
  pub missed : missed_by too ≡ chosen_rows choice (missed_by goes)

module _ (one_way : TimersRunOneWay) (choice : Choice) where
  goes_beside : (now last : ℕ) (whole after part its : Shown) (queue queue_left own_queue own_queue_left : List Delivery) (rows rows_left own_rows own_rows_left : List ScriptRow)
      → (goes : GoesBy now whole after queue queue_left rows rows_left) (too : GoesBy now part its own_queue own_queue_left own_rows own_rows_left) → ComesInOrder of_delivery last queue
      → ComesInOrder of_row last rows → StandsBeside choice whole part queue own_queue rows own_rows → GoesBeside choice goes too
  goes_beside now last whole after part its queue queue_left own_queue own_queue_left rows rows_left own_rows own_rows_left goes too queue_order row_order beside =
      let picks : Delivery → Bool = λ delivery. choice.calls delivery.call in
      let picks_row : ScriptRow → Bool = λ row. is_chosen_happening choice row.what in
      let delivers = goes.delivers in
      let its_delivers = too.delivers in
      let plays = goes.plays in
      let its_plays = too.plays in
      let queues = kept_split of_delivery now picks last delivers.delivered queue_left its_delivers.delivered own_queue_left (subst (ComesInOrder of_delivery last) delivers.split queue_order) delivers.due
      (queue_later now queue_left delivers.later) (ap (filter picks) (sym delivers.split) ∙ sym beside.queue_is ∙ its_delivers.split) its_delivers.due (queue_later now own_queue_left its_delivers.later) in
      let fronts = kept_split of_row now picks_row last plays.played rows_left its_plays.played own_rows_left (subst (ComesInOrder of_row last) plays.split row_order) plays.due
      (rows_later now rows_left plays.later) (ap (filter picks_row) (sym plays.split) ∙ sym beside.rows_are ∙ its_plays.split) its_plays.due (rows_later now own_rows_left its_plays.later) in
      let delivered : IsNetworkOf choice goes.delivered too.delivered =
      chain_followed choice (Delivers now) picks (delivers_followed choice one_way now) delivers.delivered whole goes.delivered part too.delivered
      delivers.delivers (subst (λ (l : List Delivery). Chain (Delivers now) part l too.delivered) (sym queues.0) its_delivers.delivers) beside.network in
      let played : IsNetworkOf choice goes.played too.played =
      chain_followed choice PlaysRow picks_row (plays_followed choice one_way) plays.played goes.delivered goes.played too.delivered too.played
      plays.plays (subst (λ (l : List ScriptRow). Chain PlaysRow too.delivered l too.played) (sym fronts.0) its_plays.plays) delivered in
      let calls = kept_calls choice goes.played too.played played now goes.runs.calls too.runs.calls goes.runs.ascending too.runs.ascending goes.runs.due too.runs.due in
      let network : IsNetworkOf choice after its =
      chain_followed choice (Waits now) choice.calls (waits_followed choice one_way now) goes.runs.calls goes.played after too.played its
      goes.runs.waits (subst (λ (l : List ℕ). Chain (Waits now) too.played l its) (sym calls) too.runs.waits) played in
      let missed = subst (λ (l : List ScriptRow). (c : Chain PlaysRow too.delivered l too.played) → unplaced_in too.delivered too.played l c ≡ filter picks_row (missed_by goes)) fronts.0
      (λ c. rows_missed choice one_way plays.played goes.delivered goes.played too.delivered too.played plays.plays c delivered) its_plays.plays in
      record { stands = record { network = network; queue_is = sym queues.1; rows_are = sym fronts.1 }; missed = missed }

-- ---- what a round gives, and how it leaves a play

module _ (whole after : Play) (answers : List Answer) (last : ℕ) (round : IsRound whole after answers) (between : IsBetween whole (waiting whole answers) last) where
  abbrev now : ℕ
  now = round.now

  before : NothingBefore now whole (waiting whole answers)
  before = nothing_before whole after answers last round between.rises (in_order_rows last whole.left between.rows)

  timely : AreTimely now whole.network
  timely call view is =
      let own = between.stood call view is in
      record { own = own; from = expires_later view now own (λ at next. before.timers call at (record { view = view; is = is; next = next })) }

  grows : GrowsAt now whole.network after.network
  grows =
      let delivered = chain_at now (Delivers now) (λ (d : Delivery). d.at ≤ now) (λ d a b due is. delivers_at now d a b is) round.delivers.delivered whole.network round.delivered
      round.delivers.due round.delivers.delivers timely in
      let rows = at_now of_row now round.plays.played after.left (subst (λ (l : List ScriptRow). All (λ (row : ScriptRow). now ≤ row.at) l) round.plays.split before.rows) round.plays.due in
      let played = chain_at now PlaysRow (λ (row : ScriptRow). row.at ≡ now) (λ row a b same is. happens_at now row.at row.what a b same is) round.plays.played round.delivered round.played
      rows round.plays.plays delivered.timely in
      let waited = chain_at now (Waits now) (λ (call : ℕ). Unit {0}) (λ call a b any is. waits_at now call a b is) round.runs.calls round.played after.network (λ k d within. tt) round.runs.waits
      played.timely in
      grows_both now whole.network round.played after.network (grows_both now whole.network round.delivered round.played delivered played) waited

  not_back : last ≤ now
  not_back = round_from last whole after answers round (record {
    rows = all_from of_row last whole.left (in_order_rows last whole.left between.rows);
    deliveries = all_from of_delivery last (waiting whole answers) between.rises;
    timers = λ call at timer. let later : last < at = between.timers call at timer in omega (arith, later);
  })

  all_rest : {X : Type 0} (P : X → Type 0) (front left : List X) → All P (front ++ left) → All P left
  all_rest P [] left all = all
  all_rest P (x ∷ front) left all = all_rest P front left (All-tail P x (front ++ left) all)

  in_time : last + whole.delay ≤ now + after.delay
  in_time = let same : after.delay ≡ whole.delay = round.same_delay in let later : last ≤ now = not_back in omega (arith, same, later)

  stays_between : IsBetween after after.queue now
  stays_between =
      let delivers = round.delivers in
      let plays = round.plays in
      let P : Delivery → Type 0 = λ delivery. delivery.at ≤ last + whole.delay in
      let soon : now ≤ now + 1 = omega arith in
      let within = all_rest P delivers.delivered after.queue (subst (λ (l : List Delivery). All P l) delivers.split between.within) in
      record {
        timers = round.runs.later;
        rows =
            let order = subst (ComesInOrder of_row last) plays.split (in_order_rows last whole.left between.rows) in
            rows_in_order now after.left (lower of_row now (now + 1) after.left soon (rest_in_order of_row last (now + 1) plays.played after.left order (rows_later now after.left plays.later)));
        rises =
            let order = subst (ComesInOrder of_delivery last) delivers.split between.rises in
            lower of_delivery now (now + 1) after.queue soon (rest_in_order of_delivery last (now + 1) delivers.delivered after.queue order (queue_later now after.queue delivers.later));
        within = raise_all of_delivery (last + whole.delay) (now + after.delay) after.queue in_time within;
        stood = λ call view is. (grows.timely call view is).own;
      }

  is_added : IsAdded whole after now grows.added
  is_added = record { grown = grows.grown; moments = grows.moments }

-- ---- the round of all, and the turn of some

module _ (one_way : TimersRunOneWay) (choice : Choice) (whole after part its : Play) (answers own_answers : List Answer) (last : ℕ) (round : IsRound whole after answers)
    (between : IsBetween whole (waiting whole answers) last) (beside : IsPartPlay choice whole part (waiting whole answers) (waiting part own_answers)) where
  goes_with : (after_part : Shown) (queue_left : List Delivery) (rows_left : List ScriptRow) (goes : GoesBy round.now part.network after_part (waiting part own_answers) queue_left part.left rows_left)
      → GoesBeside choice (goes_in whole after answers round) goes
  goes_with after_part queue_left rows_left goes =
      goes_beside one_way choice round.now last whole.network after.network part.network after_part (waiting whole answers) after.queue (waiting part own_answers) queue_left whole.left after.left part.left rows_left
      (goes_in whole after answers round) goes between.rises (in_order_rows last whole.left between.rows)
      (record { network = beside.network; queue_is = beside.queue_is; rows_are = beside.left })

  -- the same, whatever the moment of its round is called
  record TurnBeside (after_part : Shown) (queue_left : List Delivery) (rows_left : List ScriptRow) (moment : ℕ)
      (goes : GoesBy moment part.network after_part (waiting part own_answers) queue_left part.left rows_left) : Type 0 where
    stands : StandsBeside choice after.network after_part after.queue queue_left after.left rows_left
    missed : missed_by goes ≡ chosen_rows choice (missed_by (goes_in whole after answers round))

  all_missed : (own : List ScriptRow) → own ≡ chosen_rows choice (missed_by (goes_in whole after answers round)) → part.unplaced ++ own ≡ chosen_rows choice after.unplaced
  all_missed own missed =
      let new = missed_by (goes_in whole after answers round) in
      ap (λ l. l ++ own) beside.unplaced ∙ ap (λ l. chosen_rows choice whole.unplaced ++ l) missed
      ∙ sym (filter-append (λ (row : ScriptRow). is_chosen_happening choice row.what) whole.unplaced new) ∙ ap (chosen_rows choice) (sym round.unplaced)

  passes_over : NothingBefore (round.now + 1) part (waiting part own_answers) → IsFollowed choice whole after part its own_answers
  passes_over none =
      let goes = grows whole after answers last round between in
      let turn = goes_with part.network (waiting part own_answers) part.left (waits_by round.now part (waiting part own_answers) none) in
      let stands = turn.stands in
      let items : chosen choice whole.network.given ++ chosen choice goes.added ≡ chosen choice whole.network.given ++ [] =
      sym (filter-append (λ (item : ℕ × Body). is_chosen choice item.1) whole.network.given goes.added) ∙ ap (chosen choice) (sym goes.grown) ∙ sym stands.network.given ∙ beside.network.given
      ∙ sym (append-nil (chosen choice whole.network.given)) in
      record {
        now = round.now;
        added = goes.added;
        is_added = is_added whole after answers last round between;
        between = stays_between whole after answers last round between;
        follows = inl (record {
          none = append_cancel_left (chosen choice whole.network.given) (chosen choice goes.added) [] items;
          beside = record {
            network = stands.network;
            delay = round.same_delay ∙ beside.delay;
            left = stands.rows_are;
            unplaced = sym (append-nil part.unplaced) ∙ all_missed [] turn.missed;
            queue_is = stands.queue_is;
          };
        });
      }

  goes_along : (its_round : IsRound part its own_answers) → its_round.now ≡ round.now → IsFollowed choice whole after part its own_answers
  goes_along its_round same =
      let turn : TurnBeside its.network its.queue its.left its_round.now (goes_in part its own_answers its_round) =
      subst (λ (n : ℕ). (goes : GoesBy n part.network its.network (waiting part own_answers) its.queue part.left its.left) → TurnBeside its.network its.queue its.left n goes) (sym same)
      (λ goes. let turn = goes_with its.network its.queue its.left goes in record { stands = turn.stands; missed = turn.missed }) (goes_in part its own_answers its_round) in
      let stands = turn.stands in
      record {
        now = round.now;
        added = (grows whole after answers last round between).added;
        is_added = is_added whole after answers last round between;
        between = stays_between whole after answers last round between;
        follows = inr (record {
          running = its_round.running;
          beside = record {
            network = stands.network;
            delay = round.same_delay ∙ beside.delay ∙ sym its_round.same_delay;
            left = stands.rows_are;
            unplaced = its_round.unplaced ∙ all_missed (missed_by (goes_in part its own_answers its_round)) turn.missed;
            queue_is = stands.queue_is;
          };
        });
      }

  own_queue_order : ComesInOrder of_delivery last (waiting part own_answers)
  own_queue_order =
      subst (ComesInOrder of_delivery last) (sym beside.queue_is)
      (kept_order of_delivery (λ (delivery : Delivery). choice.calls delivery.call) last (waiting whole answers) between.rises)

  own_row_order : ComesInOrder of_row last part.left
  own_row_order =
      subst (ComesInOrder of_row last) (sym beside.left)
      (kept_order of_row (λ (row : ScriptRow). is_chosen_happening choice row.what) last whole.left (in_order_rows last whole.left between.rows))

  with_round : IsRound part its own_answers → IsFollowed choice whole after part its own_answers
  with_round its_round =
      let none = part_from choice round.now whole part (waiting whole answers) (waiting part own_answers) (before whole after answers last round between) beside in
      let not_sooner : round.now ≤ its_round.now = round_from round.now part its own_answers its_round none in
      elim (cases_lt round.now its_round.now) [
        | inl later ↦
            (let nothing = nothing_before part its own_answers last its_round own_queue_order own_row_order in
            let next : round.now + 1 ≤ its_round.now = omega (arith, later) in
            passes_over (sooner_too (round.now + 1) its_round.now part (waiting part own_answers) next nothing))
        | inr by ↦ (let same : its_round.now ≡ round.now = omega (arith, not_sooner, by) in goes_along its_round same)
      ]

  with_end : IsEnd part its own_answers → IsFollowed choice whole after part its own_answers
  with_end end =
      let within : round.now ≤ HORIZON = (least_in whole after answers round).within in
      let next : round.now + 1 ≤ HORIZON + 1 = omega (arith, within) in
      passes_over (sooner_too (round.now + 1) (HORIZON + 1) part (waiting part own_answers) next (nothing_left part its own_answers last end own_queue_order))

pub rounds_followed : TimersRunOneWay → RoundsAreFollowed
rounds_followed one_way choice whole after part its answers own_answers last more round turn between beside = by_turn more turn
  where
    by_turn : (more : Bool) → IsTurn more part its own_answers → IsFollowed choice whole after part its own_answers
    by_turn true its_round = with_round one_way choice whole after part its answers own_answers last round between beside its_round
    by_turn false end = with_end one_way choice whole after part its answers own_answers last round between beside end

-- ---- the end

pub ends_followed : EndsAreFollowed
ends_followed choice whole after part its answers own_answers last more end turn between beside = by_turn more turn
  where
    by_turn : (more : Bool) → IsTurn more part its own_answers → HasEnded part its
    by_turn false its_end = record { ended = its_end.ended; given = ap (λ (s : Shown). s.given) its_end.same_network; unplaced = its_end.same_unplaced }
    by_turn true its_round =
        let none = nothing_left whole after answers last end between.rises in
        let its_none = part_from choice (HORIZON + 1) whole part (waiting whole answers) (waiting part own_answers) none beside in
        let late : HORIZON + 1 ≤ its_round.now = round_from (HORIZON + 1) part its own_answers its_round its_none in
        let within : its_round.now ≤ HORIZON = (least_in part its own_answers its_round).within in absurd (omega (arith, late, within))
