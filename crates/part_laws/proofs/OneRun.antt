-- Two runs of one script.
use Rattle.std.proofs.Common.{◌≡◌, ◌∙◌, ◌++◌, ℕ, Bool, true, false, true≢false, Option, Some, None, List, [], ◌∷◌, length, map, take, refl, sym, ap, subst, append-nil, append_assoc}
use Rattle.std.specs.Prelude.{MatchOption}
use Rattle.std.proofs.lemmas.List.{append_cancel_left, length-map, map-append}
use Rattle.runs_core.proofs.HearingLemmas.{many_answers}
use Rattle.cap_values.specs.Orders.{Order}
use Rattle.cap_values.specs.declared.number.Number.{Number}
use Rattle.live_recovery.proofs.Alone.{runs_alike}
use Rattle.live_recovery.specs.Laws.{NoneIsRefused, views_of}
use Rattle.part_laws.proofs.Fronts.{fronts_answered}
use Rattle.part_laws.proofs.OnePlay.{PlayAlike, fresh_alike, turn_alike}
use Rattle.part_laws.specs.OneWay.{TimersRunOneWay, order_heard}
use Rattle.part_laws.specs.Scripts.{ScriptsHaveOneRun}
use Rattle.run_texts.specs.declared.script.Happening.{Happening}
use Rattle.run_texts.specs.declared.script.Happening.TheVariants as row
use Rattle.run_values.specs.Setups.{Setup}
use Rattle.run_values.specs.declared.post.Answer.{Answer}
use Rattle.run_values.specs.declared.post.Body.{Body}
use Rattle.run_values.specs.declared.post.Body.TheVariants as body
use Rattle.runs_core.specs.Hearing.{HearsMore, HearsRounds, all_heard}
use Rattle.runs_core.specs.Runs.{IsRun}
use Rattle.script_player.specs.Chains.{Chain}
use Rattle.script_player.specs.Dues.{ssf_of}
use Rattle.script_player.specs.Networks.{Shown}
use Rattle.script_player.specs.Plays.{Play}
use Rattle.script_player.specs.Posts.{posts_of}
use Rattle.script_player.specs.Rounds.{IsTurn}
use Rattle.script_player.specs.Runs.{Hears, fresh_play}
use Rattle.script_player.specs.Steps.{Delivers, GetsSsf, FeedsSsf, GivesTo, HappensAt, PlaysRow, StartsCall, Waits}
use Rattle.account_core.specs.Closed.{Closed}
use Rattle.turn_account.specs.Seen.{StoodIn}
use Rattle.ssf_core.specs.Calls.{View}
use Rattle.tariff_core.specs.Laws.{IsProper}
use Rattle.runs_core.specs.Handled.{AnswerView, answer_view}

-- ---- what was given stays and grows

abbrev pub Grown : List (ℕ × Body) → List (ℕ × Body) → Type 0
Grown given more = (added : List (ℕ × Body)) × (more ≡ given ++ added)

grown_none : (before after : Shown) → after ≡ before → Grown before.given after.given
grown_none before after same = ([], ap (λ (s : Shown). s.given) same ∙ sym (append-nil before.given))

grown_both : (one two three : List (ℕ × Body)) → Grown one two → Grown two three → Grown one three
grown_both one two three first second = (first.0 ++ second.0, second.1 ∙ ap (λ g. g ++ second.0) first.1 ∙ append_assoc one first.0 second.0)

gives_grow : (now call : ℕ) (input : _) (before after : Shown) → GivesTo now call input before after → Grown before.given after.given
gives_grow now call input before after gives = by_ssf (ssf_of before.ssfs call) gives
  where
    by_ssf : (found : Option View) → MatchOption found (after ≡ before) (FeedsSsf before after now call input) → Grown before.given after.given
    by_ssf None same = grown_none before after same
    by_ssf (Some view) gives = (posts_of call gives.sent, gives.sends.posts)

starts_grow : (now call : ℕ) (calling called : Number) (before after : Shown) → StartsCall now call calling called before after → Grown before.given after.given
starts_grow now call calling called before after starts = by_ssf (ssf_of before.ssfs call) starts
  where
    by_ssf : (found : Option View) → MatchOption found (GetsSsf before after now call calling called) (λ _. after ≡ before) → Grown before.given after.given
    by_ssf None starts = (posts_of call starts.sent, starts.sends.posts)
    by_ssf (Some view) same = grown_none before after same

happens_grow : (at : ℕ) (happening : Happening) (before after : Shown) → HappensAt at happening before after → Grown before.given after.given
happens_grow at (row.Start call calling called) before after is = starts_grow at call calling called before after is
happens_grow at (row.Meets call event) before after is = gives_grow at call _ before after is
happens_grow at (row.Recharge account amount until) before after is = ((at, body.Recharge account amount until) ∷ [], ap (λ (s : Shown). s.given) is)

chain_grows : {X : Type 0} (Step : Shown → X → Shown → Type 0) → ((x : X) (before after : Shown) → Step before x after → Grown before.given after.given)
    → (xs : List X) (before after : Shown) → Chain Step before xs after → Grown before.given after.given
chain_grows Step each [] before after is = grown_none before after is
chain_grows Step each (x ∷ xs) before after is =
    grown_both before.given is.0.given after.given (each x before is.0 is.1.0) (chain_grows Step each xs is.0 after is.1.1)

turn_grows : (more : Bool) (before after : Play) (answers : List Answer) → IsTurn more before after answers → Grown before.network.given after.network.given
turn_grows true before after answers round =
    let delivered = chain_grows (Delivers round.now) (λ d a b is. gives_grow round.now d.call _ a b is) round.delivers.delivered before.network round.delivered round.delivers.delivers in
    let played = chain_grows PlaysRow (λ r a b is. happens_grow r.at r.what a b is) round.plays.played round.delivered round.played round.plays.plays in
    let waited = chain_grows (Waits round.now) (λ call a b is. gives_grow round.now call _ a b is) round.runs.calls round.played after.network round.runs.waits in
    grown_both before.network.given round.played.given after.network.given (grown_both before.network.given round.delivered.given round.played.given delivered played) waited
turn_grows false before after answers end = grown_none before.network after.network end.same_network

abbrev pub Rounds : List Answer → Play → List (List Answer) → Play → Type 0
Rounds before_this old heard new = HearsRounds (λ (p : Play). p.network.given) (λ (p : Play). p.ended) Hears before_this old heard new

pub rounds_grow : (before_this : List Answer) (old : Play) (heard : List (List Answer)) (new : Play) → Rounds before_this old heard new → Grown old.network.given new.network.given
rounds_grow before_this old [] new rounds = absurd rounds
rounds_grow before_this old (answers ∷ []) new rounds = turn_grows rounds.0.hears_them.more old new answers rounds.0.hears_them.turn
rounds_grow before_this old (answers ∷ next ∷ heard) new rounds =
    let between = rounds.0 in
    let here = rounds.1.hears_them in
    grown_both old.network.given between.network.given new.network.given (turn_grows here.more old between answers here.turn)
    (rounds_grow (before_this ++ answers) between (next ∷ heard) new rounds.3)

-- ---- what is heard

pub take_front : {X : Type 0} (xs ys : List X) → take (length xs) (xs ++ ys) ≡ xs
take_front [] ys = refl
take_front (x ∷ xs) ys = ap (λ l. x ∷ l) (take_front xs ys)

orders_alike : (answers others : List Answer) → views_of answers ≡ views_of others → map order_heard answers ≡ map order_heard others
orders_alike [] [] same = refl
orders_alike [] (other ∷ others) same = absurd (cc)
orders_alike (answer ∷ answers) [] same = absurd (cc)
orders_alike (answer ∷ answers) (other ∷ others) same =
    let first : answer_view answer ≡ answer_view other = cc same in
    let rest : views_of answers ≡ views_of others = cc same in
    let heard : AnswerView → ℕ × List Order = λ view. (view.number, view.orders) in
    ap (λ h. h ∷ map order_heard answers) (ap heard first) ∙ ap (λ l. order_heard other ∷ l) (orders_alike answers others rest)

module _ (one_way : TimersRunOneWay) (setup : Setup) (proper : IsProper setup.tariff) (all its_all : List Answer) (books other : List Closed) (none : NoneIsRefused all) (none_too : NoneIsRefused its_all) where
  -- of one round
  abbrev Front : List (ℕ × Body) → List Answer → Type 0
  Front given front = length front ≡ length given

  views_front : (given : List (ℕ × Body)) (front rest : List Answer) → Front given front → take (length given) (views_of (front ++ rest)) ≡ views_of front
  views_front given front rest many =
      ap (λ (n : ℕ). take n (views_of (front ++ rest))) (sym many ∙ sym (length-map front answer_view)) ∙ ap (take (length (views_of front))) (map-append answer_view front rest)
      ∙ take_front (views_of front) (views_of rest)

  fronts_same : (given its : List (ℕ × Body)) (old new last : List (ℕ × Body)) (front rest its_front its_rest : List Answer) → Grown old new → Grown old last → given ≡ new → its ≡ last
      → Front old front → Front old its_front → all ≡ front ++ rest → its_all ≡ its_front ++ its_rest → IsRun StoodIn setup 1 given all books → IsRun StoodIn setup 1 its its_all other
      → views_of front ≡ views_of its_front
  fronts_same given its old new last front rest its_front its_rest grown grown_too is is_too many many_too split split_too run run_too =
      let R : List (ℕ × Body) → Type 0 = λ g. IsRun StoodIn setup 1 g all books in
      let S : List (ℕ × Body) → Type 0 = λ g. IsRun StoodIn setup 1 g its_all other in
      let same = fronts_answered setup old grown.0 grown_too.0 all its_all books other proper (subst R (is ∙ grown.1) run) (subst S (is_too ∙ grown_too.1) run_too) none none_too in
      let first = ap (λ (l : List Answer). take (length old) (views_of l)) split ∙ views_front old front rest many in
      let second = ap (λ (l : List Answer). take (length old) (views_of l)) split_too ∙ views_front old its_front its_rest many_too in
      sym first ∙ same ∙ second

  -- two rounds of plays that were alike: all that was heard says the same, and so the plays are alike again
  record IsSameRound (before_this again answers replies : List Answer) (between also : Play) : Type 0 where
    views : views_of (before_this ++ answers) ≡ views_of (again ++ replies)
    alike : PlayAlike between also

  -- what is heard in a round, and behind it
  record IsHeardOf (whole before_this answers : List Answer) (old new : Play) (final : List (ℕ × Body)) : Type 0 where
    hears : HearsMore (λ (p : Play). p.network.given) Hears before_this old answers new
    grown : Grown old.network.given final
    rest : List Answer
    split : whole ≡ (before_this ++ answers) ++ rest

  same_round : (before_this again answers replies : List Answer) (old it between also : Play) (given its : List (ℕ × Body)) → IsHeardOf all before_this answers old between given
      → IsHeardOf its_all again replies it also its → PlayAlike old it → views_of before_this ≡ views_of again → IsRun StoodIn setup 1 given all books → IsRun StoodIn setup 1 its its_all other
      → IsSameRound before_this again answers replies between also
  same_round before_this again answers replies old it between also given its here there alike views run run_too =
      let G : List (ℕ × Body) → Type 0 = λ g. Grown g its in
      let fronts = fronts_same given its old.network.given given its (before_this ++ answers) here.rest (again ++ replies) there.rest
      here.grown (subst G (sym alike.network.given) there.grown) refl refl
      (many_answers 0 old.network.given (before_this ++ answers) here.hears.each) (many_answers 0 it.network.given (again ++ replies) there.hears.each ∙ sym (ap length alike.network.given))
      here.split there.split run run_too in
      let said = append_cancel_left (views_of again) (views_of answers) (views_of replies)
      (ap (λ l. l ++ views_of answers) (sym views) ∙ sym (map-append answer_view before_this answers) ∙ fronts ∙ map-append answer_view again replies) in
      record {
        views = fronts;
        alike = turn_alike one_way here.hears.hears_them.more there.hears.hears_them.more old between it also answers replies here.hears.hears_them.turn there.hears.hears_them.turn alike
            (orders_alike answers replies said);
      }

  last_heard : (whole before_this answers : List Answer) (old new : Play) → Rounds before_this old (answers ∷ []) new → whole ≡ before_this ++ all_heard (answers ∷ [])
      → IsHeardOf whole before_this answers old new new.network.given
  last_heard whole before_this answers old new rounds split =
      record { hears = rounds.0; grown = rounds_grow before_this old (answers ∷ []) new rounds; rest = []; split = split ∙ sym (append_assoc before_this answers []) }

  next_heard : (whole before_this answers next : List Answer) (heard : List (List Answer)) (old new : Play) (rounds : Rounds before_this old (answers ∷ next ∷ heard) new)
      → whole ≡ before_this ++ all_heard (answers ∷ next ∷ heard) → IsHeardOf whole before_this answers old rounds.0 new.network.given
  next_heard whole before_this answers next heard old new rounds split = record {
    hears = rounds.1;
    grown = rounds_grow before_this old (answers ∷ next ∷ heard) new rounds;
    rest = all_heard (next ∷ heard);
    split = split ∙ sym (append_assoc before_this answers (all_heard (next ∷ heard)));
  }

  rounds_alike : (heard others : List (List Answer)) (before_this again : List Answer) (old it new last : Play) → Rounds before_this old heard new → Rounds again it others last → PlayAlike old it
      → views_of before_this ≡ views_of again → all ≡ before_this ++ all_heard heard → its_all ≡ again ++ all_heard others
      → IsRun StoodIn setup 1 new.network.given all books → IsRun StoodIn setup 1 last.network.given its_all other → new.network.given ≡ last.network.given
  rounds_alike [] others before_this again old it new last rounds too alike views split split_too run run_too = absurd rounds
  rounds_alike (answers ∷ heard) [] before_this again old it new last rounds too alike views split split_too run run_too = absurd too
  rounds_alike (answers ∷ []) (replies ∷ []) before_this again old it new last rounds too alike views split split_too run run_too =
      let same = same_round before_this again answers replies old it new last new.network.given last.network.given (last_heard all before_this answers old new rounds split)
      (last_heard its_all again replies it last too split_too) alike views run run_too in
      same.alike.network.given
  rounds_alike (answers ∷ []) (replies ∷ next ∷ others) before_this again old it new last rounds too alike views split split_too run run_too =
      let same = same_round before_this again answers replies old it new too.0 new.network.given last.network.given (last_heard all before_this answers old new rounds split)
      (next_heard its_all again replies next others it last too split_too) alike views run run_too in
      absurd (true≢false (sym rounds.1 ∙ same.alike.ended ∙ too.2))
  rounds_alike (answers ∷ next ∷ heard) (replies ∷ []) before_this again old it new last rounds too alike views split split_too run run_too =
      let same = same_round before_this again answers replies old it rounds.0 last new.network.given last.network.given (next_heard all before_this answers next heard old new rounds split)
      (last_heard its_all again replies it last too split_too) alike views run run_too in
      absurd (true≢false (sym too.1 ∙ sym same.alike.ended ∙ rounds.2))
  rounds_alike (answers ∷ next ∷ heard) (replies ∷ also ∷ others) before_this again old it new last rounds too alike views split split_too run run_too =
      let here = next_heard all before_this answers next heard old new rounds split in
      let there = next_heard its_all again replies also others it last too split_too in
      let same = same_round before_this again answers replies old it rounds.0 too.0 new.network.given last.network.given here there alike views run run_too in
      rounds_alike (next ∷ heard) (also ∷ others) (before_this ++ answers) (again ++ replies) rounds.0 too.0 new last rounds.3 too.3 same.alike same.views (split ∙ sym (append_assoc before_this answers (all_heard (next ∷ heard))))
      (split_too ∙ sym (append_assoc again replies (all_heard (also ∷ others)))) run run_too

pub scripts_one_run : TimersRunOneWay → ScriptsHaveOneRun
scripts_one_run one_way setup config delay rows heard others given its books other proper play too run run_too none none_too =
    let R : List (ℕ × Body) → Type 0 = λ g. IsRun StoodIn setup 1 g (all_heard heard) books in
    let S : List (ℕ × Body) → Type 0 = λ g. IsRun StoodIn setup 1 g (all_heard others) other in
    let alike = rounds_alike one_way setup proper (all_heard heard) (all_heard others) books other none none_too heard others [] [] (fresh_play config delay rows) (fresh_play config delay rows) play.play too.play
    play.rounds too.rounds (fresh_alike config delay rows) refl refl refl (subst R (sym play.gives) run) (subst S (sym too.gives) run_too) in
    let same : given ≡ its = sym play.gives ∙ alike ∙ too.gives in
    let results = runs_alike setup its (all_heard heard) (all_heard others) books other proper (subst R same run) run_too none none_too in
    record { same_given = same; answers_are = results.0; same_books = results.1 }
