-- A play of the rows of some accounts beside a play of all rows, round by round: it gives just their items.
use Rattle.std.proofs.Common.{◌≡◌, ◌∙◌, ◌+◌, ◌++◌, ◌≤◌, inl, inr, ℕ, Bool, true, false, true≢false, Some, None, List, [], ◌∷◌, length, map, take, refl, sym, ap, subst, arith, append-nil, append_assoc}
use Rattle.std.specs.Prelude.{if◌then◌else◌}
use Rattle.std.proofs.lemmas.List.{append_cancel_left, length-map, map-append}
use Rattle.std.proofs.lemmas.List.Elements.{All-nil, filter-append}
use Rattle.runs_core.proofs.HearingLemmas.{many_answers}
use Rattle.live_recovery.specs.Laws.{NoneIsRefused}
use Rattle.part_laws.proofs.Beside.{EndsAreFollowed, GoesAlong, IsAdded, IsBetween, IsPartPlay, PassesOver, RoundsAreFollowed}
use Rattle.part_laws.proofs.FrontsApart.{fronts_apart}
use Rattle.part_laws.proofs.OneRun.{Grown, Rounds, rounds_grow, take_front}
use Rattle.part_laws.proofs.OwnDeliveries.{AddsAnswered, between_on, each_more, goes_on, passes_on}
use Rattle.part_laws.specs.Chosen.{AreByAccount, Choice, answers_for, chosen, is_chosen}
use Rattle.part_laws.specs.Numbers.{unnumbered_answer}
use Rattle.part_laws.specs.Rows.{GivesItsOwn, SomeRowsGiveTheirItems, chosen_rows}
use Rattle.run_texts.specs.Views.{rows_are_in_order}
use Rattle.run_texts.specs.declared.script.ScriptRow.{ScriptRow}
use Rattle.run_values.specs.Setups.{Setup}
use Rattle.run_values.specs.declared.post.Answer.{Answer}
use Rattle.run_values.specs.declared.post.Body.{Body}
use Rattle.runs_core.specs.Hearing.{AnswersEach, all_heard}
use Rattle.runs_core.specs.Runs.{IsRun}
use Rattle.script_player.specs.Deliveries.{deliveries_of}
use Rattle.script_player.specs.Networks.{Shown}
use Rattle.script_player.specs.Plays.{Play}
use Rattle.script_player.specs.Rounds.{IsEnd, IsRound, IsTurn, waiting}
use Rattle.script_player.specs.Runs.{fresh_play}
use Rattle.account_core.specs.Closed.{Closed}
use Rattle.turn_account.specs.Seen.{StoodIn}
use Rattle.ssf_core.specs.declared.config.SsfConfig.{SsfConfig}
use Rattle.ssf_core.specs.declared.deliveries.Delivery.{Delivery}
use Rattle.tariff_core.specs.Laws.{IsProper}

-- ---- answers, one for each item

-- the answers to items are those to the first of them, and behind them those to the others
answers_more : (choice : Choice) (old added : List (ℕ × Body)) (heard answers : List Answer) → length heard ≡ length old
    → answers_for choice (old ++ added) (heard ++ answers) ≡ answers_for choice old heard ++ answers_for choice added answers
answers_more choice [] added [] answers many = refl
answers_more choice [] added (answer ∷ heard) answers many = absurd (omega (arith, many))
answers_more choice (item ∷ old) added [] answers many = absurd (omega (arith, many))
answers_more choice (item ∷ old) added (answer ∷ heard) answers many = by_own (is_chosen choice item.1) (answers_more choice old added heard answers (omega (arith, many)))
  where
    by_own : (b : Bool) → answers_for choice (old ++ added) (heard ++ answers) ≡ answers_for choice old heard ++ answers_for choice added answers
        → (if b then answer ∷ answers_for choice (old ++ added) (heard ++ answers) else answers_for choice (old ++ added) (heard ++ answers))
        ≡ (if b then answer ∷ answers_for choice old heard else answers_for choice old heard) ++ answers_for choice added answers
    by_own true rest = ap (λ l. answer ∷ l) rest
    by_own false rest = rest

answers_front : (choice : Choice) (old : List (ℕ × Body)) (heard rest : List Answer) → length heard ≡ length old → answers_for choice old (heard ++ rest) ≡ answers_for choice old heard
answers_front choice old heard rest many =
    ap (λ g. answers_for choice g (heard ++ rest)) (sym (append-nil old)) ∙ answers_more choice old [] heard rest many ∙ append-nil (answers_for choice old heard)

-- what a play that has given this has heard of the answers to all, and what it will have given
record HasHeardOf (whole heard : List Answer) (given final : List (ℕ × Body)) : Type 0 where
  each : AnswersEach 0 given heard
  grown : Grown given final
  rest : List Answer
  split : whole ≡ heard ++ rest

heard_first : (whole before_this answers : List Answer) (heard : List (List Answer)) (old new : Play) → Rounds before_this old (answers ∷ heard) new → whole ≡ before_this ++ all_heard (answers ∷ heard)
    → HasHeardOf whole (before_this ++ answers) old.network.given new.network.given
heard_first whole before_this answers [] old new rounds split = record {
  each = rounds.0.each;
  grown = rounds_grow before_this old (answers ∷ []) new rounds;
  rest = [];
  split = split ∙ sym (append_assoc before_this answers []);
}
heard_first whole before_this answers (next ∷ heard) old new rounds split = record {
  each = rounds.1.each;
  grown = rounds_grow before_this old (answers ∷ next ∷ heard) new rounds;
  rest = all_heard (next ∷ heard);
  split = split ∙ sym (append_assoc before_this answers (all_heard (next ∷ heard)));
}

abbrev first_heard : List (List Answer) → List Answer
first_heard [] = []
first_heard (answers ∷ heard) = answers

-- ---- a turn, by whether the play has ended

has_ended : (more : Bool) (before after : Play) (answers : List Answer) → IsTurn more before after answers → after.ended ≡ true → IsEnd before after answers
has_ended true before after answers round ended = absurd (true≢false (sym ended ∙ round.running))
has_ended false before after answers end ended = end

has_round : (more : Bool) (before after : Play) (answers : List Answer) → IsTurn more before after answers → after.ended ≡ false → IsRound before after answers
has_round true before after answers round running = round
has_round false before after answers end running = absurd (true≢false (sym end.ended ∙ running))

-- ---- before the first round

none_waits : (delay : ℕ) (answers : List Answer) → deliveries_of delay [] answers ≡ []
none_waits delay [] = refl
none_waits delay (answer ∷ answers) = none_waits delay answers

-- the part's play is beside the play of all, which is between two rounds, once each hears its next answers
record IsBeside (choice : Choice) (old it : Play) (answers replies : List Answer) (moment : ℕ) : Type 0 where
  between : IsBetween old (waiting old answers) moment
  beside : IsPartPlay choice old it (waiting old answers) (waiting it replies)

fresh_beside : (choice : Choice) (config : SsfConfig) (delay : ℕ) (rows : List ScriptRow) (answers replies : List Answer) → rows_are_in_order 0 rows ≡ true
    → IsBeside choice (fresh_play config delay rows) (fresh_play config delay (chosen_rows choice rows)) answers replies 0
fresh_beside choice config delay rows answers replies order =
    let whole = fresh_play config delay rows in
    let part = fresh_play config delay (chosen_rows choice rows) in
    let B : List Delivery → Type 0 = λ q. IsBetween whole q 0 in
    let P : List Delivery → Type 0 = λ q. IsPartPlay choice whole part q (waiting part replies) in
    let Q : List Delivery → Type 0 = λ q. IsPartPlay choice whole part [] q in
    let between : IsBetween whole [] 0 = record {
      timers = λ call at timer. let is : None ≡ Some timer.view = timer.is in absurd (cc);
      rows = order;
      rises = tt;
      within = All-nil (λ (d : Delivery). d.at ≤ 0 + delay);
      stood = λ call view is. absurd (cc);
    } in
    let beside : IsPartPlay choice whole part [] [] = record {
      network = record { config = refl; given = refl; ssfs = record { own = λ call own. tt; no_other = λ call other. refl } };
      delay = refl;
      left = refl;
      unplaced = refl;
      queue_is = refl;
    } in
    record {
      between = subst B (sym (none_waits delay answers)) between;
      beside = subst P (sym (none_waits delay answers)) (subst Q (sym (none_waits delay replies)) beside);
    }

-- ---- round by round

module _ (followed : RoundsAreFollowed) (ends : EndsAreFollowed) (setup : Setup) (choice : Choice) (proper : IsProper setup.tariff) (all own_all : List Answer) (books own_books : List Closed) (none : NoneIsRefused all) (own_none : NoneIsRefused own_all) (new last : Play) (by : AreByAccount setup choice new.network.given) (run : IsRun StoodIn setup 1 new.network.given all books) (own_run : IsRun StoodIn setup 1 last.network.given own_all own_books) where
  abbrev OfAll : Play → List Answer → Type 0
  OfAll old heard = HasHeardOf all heard old.network.given new.network.given

  abbrev OfPart : Play → List Answer → Type 0
  OfPart it heard = HasHeardOf own_all heard it.network.given last.network.given

  -- without numbers, the part has heard what was said of its items
  said : (old it : Play) (heard own_heard : List Answer) → it.network.given ≡ chosen choice old.network.given → OfAll old heard → OfPart it own_heard
      → map unnumbered_answer own_heard ≡ map unnumbered_answer (answers_for choice old.network.given heard)
  said old it heard own_heard is here there =
      let u = unnumbered_answer in
      let given = old.network.given in
      let R : List (ℕ × Body) → Type 0 = λ g. IsRun StoodIn setup 1 g all books in
      let S : List (ℕ × Body) → Type 0 = λ g. IsRun StoodIn setup 1 g own_all own_books in
      let own_more = there.grown.0 in
      let front = fronts_apart setup choice given here.grown.0 own_more all own_all books own_books proper (subst (AreByAccount setup choice) here.grown.1 by) (subst R here.grown.1 run)
      (subst S (there.grown.1 ∙ ap (λ g. g ++ own_more) is) own_run) none own_none in
      let ours = map u own_heard in
      let many : length ours ≡ length (chosen choice given) = length-map own_heard u ∙ many_answers 0 it.network.given own_heard there.each ∙ ap length is in
      let first : take (length (chosen choice given)) (map u own_all) ≡ ours =
      ap (λ (n : ℕ). take n (map u own_all)) (sym many) ∙ ap (λ (l : List Answer). take (length ours) (map u l)) there.split
      ∙ ap (take (length ours)) (map-append u own_heard there.rest) ∙ take_front ours (map u there.rest) in
      sym first ∙ front ∙ ap (λ (l : List Answer). map u (answers_for choice given l)) here.split ∙ ap (map u) (answers_front choice given heard here.rest (many_answers 0 given heard here.each))

  -- what a play hears next answers what it has added
  adds : (old between : List (ℕ × Body)) (added : List (ℕ × Body)) (heard answers whole : List Answer) (final other : List (ℕ × Body)) → between ≡ old ++ added
      → HasHeardOf whole heard old final → HasHeardOf whole (heard ++ answers) between other → AddsAnswered old between added answers
  adds old between added heard answers whole final other grown here later = record {
    grown = grown;
    each = each_more old added heard answers here.each (subst (λ (g : List (ℕ × Body)). AnswersEach 0 g (heard ++ answers)) grown later.each);
  }

  -- the play of all had a round in which nothing was the part's
  waits : (old between it : Play) (now : ℕ) (added : List (ℕ × Body)) (heard next replies : List Answer) → OfAll old heard → OfAll between (heard ++ next) → IsAdded old between now added
      → IsBetween between between.queue now → PassesOver choice between it (waiting it replies) added → IsBeside choice between it next replies now
  waits old between it now added heard next replies here later is_added is_between passes =
      let given = old.network.given in
      let more = adds given between.network.given added heard next all new.network.given new.network.given is_added.grown here later in
      record {
        between = between_on between now given added next is_added.moments more is_between;
        beside = passes_on choice between it (waiting it replies) given added next more passes;
      }

  -- the part had the same round
  goes : (old between it its : Play) (now : ℕ) (added : List (ℕ × Body)) (heard own_heard next also : List Answer) → it.network.given ≡ chosen choice old.network.given
      → OfAll old heard → OfAll between (heard ++ next) → OfPart it own_heard → OfPart its (own_heard ++ also) → IsAdded old between now added
      → IsBetween between between.queue now → GoesAlong choice between its → IsBeside choice between its next also now
  goes old between it its now added heard own_heard next also is here later there later_too is_added is_between along =
      let u = unnumbered_answer in
      let given = old.network.given in
      let own_added = chosen choice added in
      let theirs = answers_for choice added next in
      let own_grown : its.network.given ≡ it.network.given ++ own_added =
      along.beside.network.given ∙ ap (chosen choice) is_added.grown ∙ filter-append (λ (item : ℕ × Body). is_chosen choice item.1) given added ∙ ap (λ g. g ++ own_added) (sym is) in
      let more = adds given between.network.given added heard next all new.network.given new.network.given is_added.grown here later in
      let own_more = adds it.network.given its.network.given own_added own_heard also own_all last.network.given last.network.given own_grown there later_too in
      let before = said old it heard own_heard is here there in
      let after = said between its (heard ++ next) (own_heard ++ also) along.beside.network.given later later_too in
      let same : map u own_heard ++ map u also ≡ map u own_heard ++ map u theirs =
      sym (map-append u own_heard also) ∙ after ∙ ap (λ (g : List (ℕ × Body)). map u (answers_for choice g (heard ++ next))) is_added.grown
      ∙ ap (map u) (answers_more choice given added heard next (many_answers 0 given heard here.each)) ∙ map-append u (answers_for choice given heard) theirs ∙ ap (λ l. l ++ map u theirs) (sym before) in
      record {
        between = between_on between now given added next is_added.moments more is_between;
        beside = goes_on choice between its given it.network.given added next also more own_more (append_cancel_left (map u own_heard) (map u also) (map u theirs) same) along.beside;
      }

  rounds_beside : (heard others : List (List Answer)) (before_this again : List Answer) (old it : Play) (moment : ℕ) → Rounds before_this old heard new → Rounds again it others last
      → IsBeside choice old it (first_heard heard) (first_heard others) moment → all ≡ before_this ++ all_heard heard → own_all ≡ again ++ all_heard others
      → GivesItsOwn choice new.network.given last.network.given new.unplaced last.unplaced
  rounds_beside [] others before_this again old it moment rounds too state split split_too = absurd rounds
  rounds_beside (answers ∷ heard) [] before_this again old it moment rounds too state split split_too = absurd too
  rounds_beside (answers ∷ []) (replies ∷ []) before_this again old it moment rounds too state split split_too =
      let here = rounds.0.hears_them in
      let there = too.0.hears_them in
      let end = has_ended here.more old new answers here.turn rounds.1 in
      let its_end = ends choice old new it last answers replies moment there.more end there.turn state.between state.beside in
      record {
        items = its_end.given ∙ state.beside.network.given ∙ ap (λ (s : Shown). chosen choice s.given) (sym end.same_network);
        unplaced_are = its_end.unplaced ∙ state.beside.unplaced ∙ ap (chosen_rows choice) (sym end.same_unplaced);
      }
  rounds_beside (answers ∷ []) (replies ∷ also ∷ others) before_this again old it moment rounds too state split split_too =
      let here = rounds.0.hears_them in
      let there = too.1.hears_them in
      let end = has_ended here.more old new answers here.turn rounds.1 in
      let its_end = ends choice old new it too.0 answers replies moment there.more end there.turn state.between state.beside in
      absurd (true≢false (sym its_end.ended ∙ too.2))
  rounds_beside (answers ∷ next ∷ heard) (replies ∷ []) before_this again old it moment rounds too state split split_too =
      let here = rounds.1.hears_them in
      let there = too.0.hears_them in
      let round = has_round here.more old rounds.0 answers here.turn rounds.2 in
      let follows = followed choice old rounds.0 it last answers replies moment there.more round there.turn state.between state.beside in
      let split_now = split ∙ sym (append_assoc before_this answers (all_heard (next ∷ heard))) in
      let first = heard_first all before_this answers (next ∷ heard) old new rounds split in
      let later = heard_first all (before_this ++ answers) next heard rounds.0 new rounds.3 split_now in
      elim (follows.follows) [
        | inl passes ↦
            (let state_now = waits old rounds.0 it follows.now follows.added (before_this ++ answers) next replies first later follows.is_added follows.between passes in
            rounds_beside (next ∷ heard) (replies ∷ []) (before_this ++ answers) again rounds.0 it follows.now rounds.3 too state_now split_now split_too)
        | inr along ↦ absurd (true≢false (sym too.1 ∙ along.running))
      ]
  rounds_beside (answers ∷ next ∷ heard) (replies ∷ also ∷ others) before_this again old it moment rounds too state split split_too =
      let here = rounds.1.hears_them in
      let there = too.1.hears_them in
      let round = has_round here.more old rounds.0 answers here.turn rounds.2 in
      let follows = followed choice old rounds.0 it too.0 answers replies moment there.more round there.turn state.between state.beside in
      let split_now = split ∙ sym (append_assoc before_this answers (all_heard (next ∷ heard))) in
      let first = heard_first all before_this answers (next ∷ heard) old new rounds split in
      let later = heard_first all (before_this ++ answers) next heard rounds.0 new rounds.3 split_now in
      elim (follows.follows) [
        | inl passes ↦
            (let state_now = waits old rounds.0 it follows.now follows.added (before_this ++ answers) next replies first later follows.is_added follows.between passes in
            rounds_beside (next ∷ heard) (replies ∷ also ∷ others) (before_this ++ answers) again rounds.0 it follows.now rounds.3 too state_now split_now split_too)
        | inr along ↦
            (let own_split = split_too ∙ sym (append_assoc again replies (all_heard (also ∷ others))) in
            let own_first = heard_first own_all again replies (also ∷ others) it last too split_too in
            let own_later = heard_first own_all (again ++ replies) also others too.0 last too.3 own_split in
            let state_now = goes old rounds.0 it too.0 follows.now follows.added (before_this ++ answers) (again ++ replies) next also state.beside.network.given
            first later own_first own_later follows.is_added follows.between along in
            rounds_beside (next ∷ heard) (also ∷ others) (before_this ++ answers) (again ++ replies) rounds.0 too.0 follows.now rounds.3 too.3 state_now split_now own_split)
      ]

pub rows_give_theirs : RoundsAreFollowed → EndsAreFollowed → SomeRowsGiveTheirItems
rows_give_theirs followed ends setup choice config delay rows heard own_heard given own_given books own_books proper order by play own_play run own_run none own_none =
    let R : List (ℕ × Body) → Type 0 = λ g. IsRun StoodIn setup 1 g (all_heard heard) books in
    let S : List (ℕ × Body) → Type 0 = λ g. IsRun StoodIn setup 1 g (all_heard own_heard) own_books in
    let same = rounds_beside followed ends setup choice proper (all_heard heard) (all_heard own_heard) books own_books none own_none play.play own_play.play
    (subst (AreByAccount setup choice) (sym play.gives) by) (subst R (sym play.gives) run) (subst S (sym own_play.gives) own_run)
    heard own_heard [] [] (fresh_play config delay rows) (fresh_play config delay (chosen_rows choice rows)) 0 play.rounds own_play.rounds
    (fresh_beside choice config delay rows (first_heard heard) (first_heard own_heard) order) refl refl in
    record { items = sym own_play.gives ∙ same.items ∙ ap (chosen choice) play.gives; unplaced_are = same.unplaced_are }
