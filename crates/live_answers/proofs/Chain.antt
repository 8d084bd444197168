-- What a live run prints, gives and logs over its rounds.
use Rattle.std.proofs.Common.{◌≡◌, ◌+◌, ◌-◌, ◌<◌, ◌≤◌, ◌⊎◌, inl, inr, ℕ, suc, true, false, Option, Some, None, List, [], ◌∷◌, ◌++◌, Ok, Err, drop, length, length-append, map, take, refl, sym, ap, subst, subst₂, ◌∙◌, arith, append_assoc, append-nil, take_all}
use Rattle.std.proofs.Math.Seq.{take-append-add}
use Rattle.std.proofs.lemmas.Bool.{cases_lt}
use Rattle.std.proofs.lemmas.List.{length-map, take-append-le}
use Rattle.std.proofs.lemmas.Option.{slice_get-map}
use Rattle.std.specs.Prelude.{IfSome, option_map, slice_get}
use Rattle.std.specs.Io.KnownBytes.{Appends}
use Rattle.runs_core.proofs.HearingLemmas.{many_answers}
use Rattle.live_answers.proofs.GroupLemmas.{given_many, given_on, heard_on, logged_on, rows_are, text_on}
use Rattle.live_answers.proofs.Growing.{kept_is_grown, logs_twice, prints_twice}
use Rattle.live_answers.proofs.LineLemmas.{no_line}
use Rattle.live_answers.specs.Groups.{BeginsWithLines, LeftAt, LeftIn, TakesOf, group_rows, heard_behind, line_behind, views_in}
use Rattle.live_answers.specs.Laws.{last_behind, next_behind}
use Rattle.live_answers.specs.Lines.{live_lines}
use Rattle.live_answers.specs.Live.{Heard, given_by, given_of, heard_after, heard_in, item_view, last_after, logged_of, next_after, replayed_text, text_after}
use Rattle.live_answers.specs.Rounds.{Hears, LeadsTo, TakesLines, WritesOn, due, first_of, last_line}
use Rattle.live_answers.specs.Runs.{AnswersLines, Logs, PrintsText}
use Rattle.live_answers.specs.Said.{line_view_of}
use Rattle.live_answers.specs.Stages.{stage_fault, has_ended}
use Rattle.live_answers.specs.Standing.{LineView, last_item_moment, item_moment, said_after}
use Rattle.live_answers.specs.declared.driver.LiveDriver.{LiveDriver}
use Rattle.live_answers.specs.declared.group.TheConstants.{MAX_GROUP}
use Rattle.live_answers.specs.declared.replay.Replay.{Replay}
use Rattle.live_answers.specs.declared.stage.Left.{Left}
use Rattle.live_answers.specs.declared.stage.Left.TheVariants as left
use Rattle.live_answers.specs.declared.stage.LiveFault.{LiveFault}
use Rattle.live_answers.specs.declared.stage.LiveFault.TheVariants as fault
use Rattle.live_answers.specs.declared.stage.Stage.{Stage}
use Rattle.live_answers.specs.declared.stage.Stage.TheVariants as stage
use Rattle.run_texts.specs.Messages.{Speech}
use Rattle.run_values.specs.declared.post.Answer.{Answer}
use Rattle.run_values.specs.declared.post.Body.{Body}
use Rattle.runs_core.specs.Hearing.{AnswersEach, HearsRounds, all_heard}

-- ---- answers at the places of their items

behind : {X : Type 0} (xs ys : List X) → slice_get (xs ++ ys) (length xs) ≡ slice_get ys 0
behind [] ys = refl
behind (x ∷ xs) ys = behind xs ys

-- ---- what was given

-- the moment of an item that a trace prints so
abbrev moment_seen : Option (ℕ × Speech) → ℕ
moment_seen None = 0
moment_seen (Some item) = item.0

-- the moment of the last of items that a trace prints so
abbrev last_seen : List (ℕ × Speech) → ℕ
last_seen items = moment_seen (slice_get items (length items - 1))

seen_so : (item : Option (ℕ × Body)) → item_moment item ≡ moment_seen (option_map item_view item)
seen_so None = refl
seen_so (Some item) = refl

last_so : (given : List (ℕ × Body)) → last_item_moment given ≡ last_seen (map item_view given)
last_so given =
    seen_so (slice_get given (length given - 1)) ∙ ap moment_seen (sym (slice_get-map item_view given (length given - 1)))
    ∙ ap (λ n. moment_seen (slice_get (map item_view given) (n - 1))) (sym (length-map given item_view))

last_pushed : (items : List (ℕ × Speech)) (item : ℕ × Speech) → last_seen (items ++ item ∷ []) ≡ item.0
last_pushed items item =
    let here : length (items ++ item ∷ []) - 1 ≡ length items = omega (arith, length-append items (item ∷ [])) in
    ap (λ n. moment_seen (slice_get (items ++ item ∷ []) n)) here ∙ ap moment_seen (behind items (item ∷ []))

last_one : (items : List (ℕ × Speech)) (said : LineView) → last_seen (items ++ given_by said) ≡ last_after (last_seen items) said
last_one items None = ap last_seen (append-nil items)
last_one items (Some (Err why)) = ap last_seen (append-nil items)
last_one items (Some (Ok message)) = last_pushed items (message.at, message.speech)

last_many : (items : List (ℕ × Speech)) (heard : List Heard) → last_seen (items ++ given_of heard) ≡ last_behind (last_seen items) heard
last_many items [] = ap last_seen (append-nil items)
last_many items (one ∷ heard) =
    ap last_seen (sym (append_assoc items (given_by one.said) (given_of heard))) ∙ last_many (items ++ given_by one.said) heard
    ∙ ap (λ m. last_behind m heard) (last_one items one.said)

-- how many messages were given, and the moment of the last, behind lines
pub count_behind : (old new : List (ℕ × Body)) (heard : List Heard) → map item_view new ≡ map item_view old ++ given_of heard → length new ≡ next_behind (length old) heard
count_behind old new heard gives =
    sym (length-map new item_view) ∙ ap length gives ∙ length-append (map item_view old) (given_of heard) ∙ ap (λ n. n + length (given_of heard)) (length-map old item_view)
    ∙ given_many (length old) heard

pub moment_behind : (old new : List (ℕ × Body)) (heard : List Heard) → map item_view new ≡ map item_view old ++ given_of heard → last_item_moment new ≡ last_behind (last_item_moment old) heard
moment_behind old new heard gives =
    last_so new ∙ ap last_seen gives ∙ last_many (map item_view old) heard ∙ ap (λ m. last_behind m heard) (sym (last_so old))

-- the lines behind those that were taken
behind_lines : (old new : List (ℕ × Body)) (lines more : List (List ℕ)) → map item_view new ≡ map item_view old ++ given_of (heard_behind old lines)
    → heard_behind old (lines ++ more) ≡ heard_behind old lines ++ heard_behind new more
behind_lines old new lines more gives =
    let heard = heard_behind old lines in
    heard_on (length old) (last_item_moment old) lines more
    ∙ ap (λ n. heard ++ heard_after n (last_behind (last_item_moment old) heard) more) (sym (count_behind old new heard gives))
    ∙ ap (λ m. heard ++ heard_after (length new) m more) (sym (moment_behind old new heard gives))

heard_many : (next last : ℕ) (lines : List (List ℕ)) → length (heard_after next last lines) ≡ length lines
heard_many next last [] = refl
heard_many next last (line ∷ lines) = ap suc (heard_many (next_after next (said_after next last line)) (last_after last (said_after next last line)) lines)

-- ---- fronts

-- a front of a text is one of any longer text
front_more : (n : ℕ) (xs ys : List ℕ) → (m : ℕ) × (take m (xs ++ ys) ≡ take n xs)
front_more n xs ys = by_size (cases_lt n (length xs))
  where
    by_size : (n < length xs) ⊎ (length xs ≤ n) → (m : ℕ) × (take m (xs ++ ys) ≡ take n xs)
    by_size (inl less) = (n, take-append-le n xs ys (omega (arith, less)))
    by_size (inr more) = (length xs, take-append-le (length xs) xs ys (omega arith) ∙ take_all (length xs) xs (omega arith) ∙ sym (take_all n xs more))

-- the first so many of some lines and of those behind them
take_both : {X : Type 0} (xs ys : List X) (n : ℕ) → length xs ≤ n → take n (xs ++ ys) ≡ xs ++ take (n - length xs) ys
take_both xs ys n more =
    let many : n ≡ length xs + (n - length xs) = omega (arith, more) in
    ap (λ k. take k (xs ++ ys)) many ∙ take-append-add xs ys (n - length xs)

drop_both : {X : Type 0} (xs ys : List X) (n : ℕ) → drop (length xs + n) (xs ++ ys) ≡ drop n ys
drop_both [] ys n =
    let none : 0 + n ≡ n = omega arith in
    ap (λ k. drop k ys) none
drop_both (x ∷ xs) ys n =
    let one : suc (length xs) + n ≡ suc (length xs + n) = omega arith in
    ap (λ k. drop k (x ∷ (xs ++ ys))) one ∙ drop_both xs ys n

pub none_heard : (next last : ℕ) (text : List ℕ) → text ≡ [] → heard_after next last (live_lines text) ≡ []
none_heard next last text empty = rw (empty, no_line) refl

-- ---- round after round

module _ {I O L : Type 0} (remaining : I → Option (List ℕ)) (contents : O → Option (List ℕ)) (logged : L → Option (List ℕ)) where
  abbrev pub LiveRounds : List Answer → LiveDriver I O L → List (List Answer) → LiveDriver I O L → Type 0
  LiveRounds before_this old heard new =
      HearsRounds (λ (d : LiveDriver I O L). d.given.items) (λ (d : LiveDriver I O L). has_ended d.stage) (Hears remaining contents logged) before_this old heard new

  -- it writes where it wrote at the start
  pub writes_on : (before_this : List Answer) (old : LiveDriver I O L) (heard : List (List Answer)) (new : LiveDriver I O L) → LiveRounds before_this old heard new → WritesOn old new
  writes_on before_this old [] new rounds = absurd rounds
  writes_on before_this old (answers ∷ []) new rounds = rounds.0.hears_them.writes
  writes_on before_this old (answers ∷ next ∷ heard) new rounds =
      let first = rounds.1.hears_them.writes in
      let then = writes_on (before_this ++ answers) rounds.0 (next ∷ heard) new rounds.3 in
      record { output = then.output ∙ first.output; log = then.log ∙ first.log }

  first_each : (before_this : List Answer) (old : LiveDriver I O L) (answers : List Answer) (heard : List (List Answer)) (new : LiveDriver I O L)
      → LiveRounds before_this old (answers ∷ heard) new → AnswersEach 0 old.given.items (before_this ++ answers)
  first_each before_this old answers [] new rounds = rounds.0.each
  first_each before_this old answers (next ∷ heard) new rounds = rounds.1.each

  goes_on : (s : Stage) (known : Option (List ℕ)) (old : LiveDriver I O L) (answers : List Answer) (new : LiveDriver I O L) → has_ended s ≡ false → known ≡ remaining new.input
      → LeadsTo remaining contents logged old answers new s → (behind : Left) × (s ≡ stage.Open behind) × TakesLines remaining contents logged old answers new behind
  goes_on (stage.Open behind) known old answers new on is leads = (behind, refl, leads)
  goes_on stage.Ended known old answers new on is leads = absurd (cc)
  goes_on (stage.Failed why) known old answers new on is leads = absurd (cc)

  -- what a driver does with lines that say this, from a round with these answers on, where these are the answers to all
  pub record Goes (why : Option LiveFault) (heard : List Heard) (all : List Answer) (old : LiveDriver I O L) (answers : List Answer) (new : LiveDriver I O L) : Type 0 where
    pub count : ℕ
    pub whole : why ≡ None → length heard ≤ count
    pub takes : map item_view new.given.items ≡ map item_view old.given.items ++ given_of (take count heard)
    pub prints : PrintsText why (contents old.output.now) (contents new.output.now)
        (due old answers ++ text_after old.replay all (last_line old answers) (length old.given.items) (take count heard))
    pub logs : Logs why (logged old.log.now) (logged new.log.now) (logged_of (take count heard)) (logged_of (take MAX_GROUP (drop count heard)))

  -- the lines that a driver has left
  abbrev pub left_to : LiveDriver I O L → List ℕ → List Heard
  left_to driver text = heard_behind driver.given.items (live_lines text)

  same_items : (old new : LiveDriver I O L) → new.given.items ≡ old.given.items → map item_view new.given.items ≡ map item_view old.given.items ++ []
  same_items old new same = ap (map item_view) same ∙ sym (append-nil (map item_view old.given.items))

  grown : (old new : Option (List ℕ)) (xs : List ℕ) → Appends old new xs → Appends old new (xs ++ [])
  grown old new xs grows = subst (λ l. Appends old new l) (sym (append-nil xs)) grows

  -- a driver that takes lines has all of the text that is left
  is_known : (s : Stage) (known : Option (List ℕ)) (text : List ℕ) → s ≡ stage.Open left.Lines → LeftAt s known text → known ≡ Some text
  is_known s known text opened has = subst (λ it. LeftAt it known text) opened has

  begins_so : (known : Option (List ℕ)) (text : List ℕ) (lines : List (List ℕ)) → known ≡ Some text → IfSome known (BeginsWithLines lines) → BeginsWithLines lines text
  begins_so known text lines is begins = rw is at begins

  takes_so : (known new : Option (List ℕ)) (text : List ℕ) (behind : Left) (lines : List (List ℕ)) → known ≡ Some text → TakesOf known new behind lines
      → (rest : List ℕ) × (live_lines text ≡ lines ++ live_lines rest) × LeftIn behind new rest
  takes_so known new text behind lines is takes = rw is at takes

  last_round : (s : Stage) (text : List ℕ) (all : List Answer) (old : LiveDriver I O L) (answers : List Answer) (new : LiveDriver I O L) → LeftAt old.stage (remaining old.input) text
      → has_ended s ≡ true → LeadsTo remaining contents logged old answers new s → Goes (stage_fault s) (left_to old text) all old answers new
  last_round (stage.Open behind) text all old answers new has over leads = absurd (cc)
  last_round stage.Ended text all old answers new has over leads =
      let empty : text ≡ [] = leads.ends text has in
      let none = none_heard (length old.given.items) (last_item_moment old.given.items) text empty in
      record {
        count = 0;
        whole = λ _. rw none (omega arith);
        takes = same_items old new leads.gives;
        prints = grown _ _ _ leads.prints;
        logs = kept_is_grown _ _ leads.logs;
      }
  last_round (stage.Failed fault.Input) text all old answers new has over leads = record {
    count = 0;
    whole = λ none. absurd (cc);
    takes = same_items old new leads.gives;
    prints = grown _ _ _ leads.prints;
    logs = kept_is_grown _ _ leads.logs;
  }
  last_round (stage.Failed fault.Output) text all old answers new has over leads = record {
    count = 0;
    whole = λ none. absurd (cc);
    takes = same_items old new leads.gives;
    prints = (leads.prints.0, subst (λ l. Appends (contents old.output.now) (contents new.output.now) (take leads.prints.0 l)) (sym (append-nil (due old answers))) leads.prints.1);
    logs = kept_is_grown _ _ leads.logs;
  }
  last_round (stage.Failed fault.Log) text all old answers new has over leads =
      let was = old.given.items in
      let lines = leads.lines in
      let group = heard_behind was lines in
      let (rest, split) = begins_so _ text lines (is_known old.stage _ text leads.opened has) leads.takes in
      let later = heard_after (next_behind (length was) group) (last_behind (last_item_moment was) group) (live_lines rest) in
      let all_left : left_to old text ≡ group ++ later = ap (heard_behind was) split ∙ heard_on (length was) (last_item_moment was) lines (live_lines rest) in
      let few : length group ≤ MAX_GROUP = omega (arith, leads.few, heard_many (length was) (last_item_moment was) lines) in
      let more = take (MAX_GROUP - length group) later in
      let next : logged_of (take MAX_GROUP (left_to old text)) ≡ logged_of group ++ logged_of more =
      ap (λ h. logged_of (take MAX_GROUP h)) all_left ∙ ap logged_of (take_both group later MAX_GROUP few) ∙ logged_on group more in
      let (size, front) = front_more leads.logs.0 (logged_of group) (logged_of more) in
      let is : take leads.logs.0 (logged_of group) ≡ take size (logged_of (take MAX_GROUP (left_to old text))) = sym front ∙ ap (take size) (sym next) in
      record {
        count = 0;
        whole = λ none. absurd (cc);
        takes = same_items old new leads.gives;
        prints = grown _ _ _ leads.prints;
        logs = (size, subst (λ l. Appends (logged old.log.now) (logged new.log.now) l) is leads.logs.1);
      }

  -- lines that were taken at once, and then those after them
  a_round : (why : Option LiveFault) (heard later : List Heard) (all : List Answer) (old : LiveDriver I O L) (answers : List Answer) (between : LiveDriver I O L) (behind : Left) (next : List Answer) (new : LiveDriver I O L)
      → (took : TakesLines remaining contents logged old answers between behind) → heard ≡ heard_behind old.given.items took.lines ++ later
      → due between next ≡ text_after old.replay all (last_line old answers) (length old.given.items) (heard_behind old.given.items took.lines)
      → last_line between next ≡ line_behind old.replay (last_line old answers) (length old.given.items) (views_in (heard_behind old.given.items took.lines))
      → Goes why later all between next new → Goes why heard all old answers new
  a_round why heard later all old answers between behind next new took is due_is line_is goes =
      let was = old.given.items in
      let now = between.given.items in
      let group = heard_behind was took.lines in
      let some = take goes.count later in
      let line = last_line old answers in
      let text_next : text_after between.replay all (last_line between next) (length now) some
      ≡ text_after old.replay all (line_behind old.replay line (length was) (views_in group)) (next_behind (length was) group) some =
      ap (λ (r : Replay). text_after r all (last_line between next) (length now) some) took.replay
      ∙ ap (λ l. text_after old.replay all l (length now) some) line_is
      ∙ ap (λ n. text_after old.replay all (line_behind old.replay line (length was) (views_in group)) n some) (count_behind was now group took.gives) in
      let text_is : due between next ++ text_after between.replay all (last_line between next) (length now) some ≡ text_after old.replay all line (length was) (group ++ some) =
      ap (λ l. l ++ text_after between.replay all (last_line between next) (length now) some) due_is
      ∙ ap (λ l. text_after old.replay all line (length was) group ++ l) text_next ∙ sym (text_on old.replay all line (length was) group some) in
      let taken : take (length group + goes.count) (group ++ later) ≡ group ++ some = take-append-add group later goes.count in
      let dropped : drop (length group + goes.count) (group ++ later) ≡ drop goes.count later = drop_both group later goes.count in
      subst (λ h. Goes why h all old answers new) (sym is) (record {
        count = length group + goes.count;
        whole = λ none. let most = goes.whole none in omega (arith, most, length-append group later);
        takes = goes.takes ∙ ap (λ l. l ++ given_of some) took.gives ∙ append_assoc (map item_view was) (given_of group) (given_of some)
            ∙ ap (λ l. map item_view was ++ l) (sym (given_on group some) ∙ ap given_of (sym taken));
        prints = subst (λ h. PrintsText why (contents old.output.now) (contents new.output.now) (due old answers ++ text_after old.replay all line (length was) h)) (sym taken)
            (prints_twice why _ _ _ _ _ took.prints (subst (λ l. PrintsText why (contents between.output.now) (contents new.output.now) l) text_is goes.prints));
        logs = subst₂ (λ l h. Logs why (logged old.log.now) (logged new.log.now) l (logged_of (take MAX_GROUP h))) (sym (logged_on group some) ∙ ap logged_of (sym taken)) (sym dropped)
            (logs_twice why _ _ _ _ _ _ took.logs goes.logs);
      })

  -- what is due of lines that were taken at once, and the number of the last of them
  record IsDue (all : List Answer) (old : LiveDriver I O L) (answers : List Answer) (between : LiveDriver I O L) (behind : Left) (next : List Answer) (took : TakesLines remaining contents logged old answers between behind) : Type 0 where
    rows : due between next ≡ text_after old.replay all (last_line old answers) (length old.given.items) (heard_behind old.given.items took.lines)
    line : last_line between next ≡ line_behind old.replay (last_line old answers) (length old.given.items) (views_in (heard_behind old.given.items took.lines))

  is_due : (before_next next more : List Answer) (old : LiveDriver I O L) (answers : List Answer) (between : LiveDriver I O L) (behind : Left) (took : TakesLines remaining contents logged old answers between behind)
      → length before_next ≡ length old.given.items → length (before_next ++ next) ≡ length between.given.items → IsDue (before_next ++ (next ++ more)) old answers between behind next took
  is_due before_next next more old answers between behind took many all_many =
      let was = old.given.items in
      let group = heard_behind was took.lines in
      let line = last_line old answers in
      let first : first_of between next ≡ length was = omega (arith, many, all_many, length-append before_next next) in
      let most : next_behind (length was) group ≤ length before_next + length next =
      omega (arith, count_behind was between.given.items group took.gives, all_many, length-append before_next next) in
      let rows = rows_are old.replay before_next next more line (length was) group (omega (arith, many)) most in
      let line_so : last_line between next ≡ line_behind old.replay line (length was) (views_in group) =
      ap (λ (r : Replay). line_behind r between.line (first_of between next) (map line_view_of between.said.items)) took.replay
      ∙ ap (λ l. line_behind old.replay l (first_of between next) (map line_view_of between.said.items)) took.line
      ∙ ap (λ n. line_behind old.replay line n (map line_view_of between.said.items)) first ∙ ap (line_behind old.replay line (length was)) took.said in
      record {
        rows = ap (λ (r : Replay). group_rows r (first_of between next) next between.line (first_of between next) (map line_view_of between.said.items)) took.replay
            ∙ ap (λ l. group_rows old.replay (first_of between next) next l (first_of between next) (map line_view_of between.said.items)) took.line
            ∙ ap (λ n. group_rows old.replay n next line n (map line_view_of between.said.items)) first
            ∙ ap (group_rows old.replay (length was) next line (length was)) took.said
            ∙ ap (λ n. group_rows old.replay n next line (length was) (views_in group)) (sym many) ∙ rows;
        line = line_so;
      }

  -- from round to round, to the end of the run
  pub goes_to_end : (before_this : List Answer) (old : LiveDriver I O L) (answers : List Answer) (heard : List (List Answer)) (new : LiveDriver I O L) (text : List ℕ)
      → LiveRounds before_this old (answers ∷ heard) new → LeftAt old.stage (remaining old.input) text
      → Goes (stage_fault new.stage) (left_to old text) (before_this ++ all_heard (answers ∷ heard)) old answers new
  goes_to_end before_this old answers [] new text rounds has =
      last_round new.stage text _ old answers new has rounds.1 rounds.0.hears_them.leads
  goes_to_end before_this old answers (next ∷ heard) new text rounds has =
      let (between, hears, on, later) = rounds in
      let (behind, stage_is, took) = goes_on between.stage (remaining between.input) old answers between on refl hears.hears_them.leads in
      let was = old.given.items in
      let (rest, split, there) = takes_so _ _ text behind took.lines (is_known old.stage _ text took.opened has) took.takes in
      let before_next = before_this ++ answers in
      let many = many_answers 0 was before_next hears.each in
      let all_many = many_answers 0 between.given.items (before_next ++ next) (first_each before_next between next heard new later) in
      let due_is = is_due before_next next (all_heard heard) old answers between behind took many all_many in
      let all = before_next ++ all_heard (next ∷ heard) in
      let is : left_to old text ≡ heard_behind was took.lines ++ left_to between rest = ap (heard_behind was) split ∙ behind_lines was between.given.items took.lines (live_lines rest) took.gives in
      subst (λ a. Goes (stage_fault new.stage) (left_to old text) a old answers new) (append_assoc before_this answers (all_heard (next ∷ heard)))
      (a_round (stage_fault new.stage) (left_to old text) (left_to between rest) all old answers between behind next new took is due_is.rows due_is.line
      (goes_to_end before_next between next heard new rest later (subst (λ s. LeftAt s (remaining between.input) rest) (sym stage_is) there)))

  -- of a run from its first line on
  pub answered : (replay : Replay) (old : LiveDriver I O L) (heard : List (List Answer)) (new : LiveDriver I O L) (text : List ℕ)
      → LiveRounds [] old heard new → old.replay ≡ replay → old.given.items ≡ [] → old.line ≡ 1 → old.said.items ≡ [] → old.stage ≡ stage.Open left.Lines → remaining old.input ≡ Some text
      → AnswersLines replay (stage_fault new.stage) (heard_in text) (all_heard heard) new.given.items (contents old.output.now) (contents new.output.now) (logged old.log.now) (logged new.log.now)
  answered replay old [] new text rounds again none first nothing opened known = absurd rounds
  answered replay old (answers ∷ heard) new text rounds again none first nothing opened known =
      let why = stage_fault new.stage in
      let all = all_heard (answers ∷ heard) in
      let has : LeftAt old.stage (remaining old.input) text = subst (λ s. LeftAt s (remaining old.input) text) (sym opened) known in
      let goes = goes_to_end [] old answers heard new text rounds has in
      let lines : left_to old text ≡ heard_in text = ap (λ g. heard_behind g (live_lines text)) none in
      let nothing_due : due old answers ≡ [] = ap (λ s. group_rows old.replay (first_of old answers) answers old.line (first_of old answers) (map line_view_of s)) nothing in
      let line : last_line old answers ≡ 1 = ap (λ s. line_behind old.replay old.line (first_of old answers) (map line_view_of s)) nothing ∙ first in
      let text_is : due old answers ++ text_after old.replay all (last_line old answers) (length old.given.items) (take goes.count (left_to old text)) ≡ replayed_text replay all (take goes.count (heard_in text)) =
      ap (λ l. l ++ text_after old.replay all (last_line old answers) (length old.given.items) (take goes.count (left_to old text))) nothing_due
      ∙ ap (λ (r : Replay). text_after r all (last_line old answers) (length old.given.items) (take goes.count (left_to old text))) again
      ∙ ap (λ l. text_after replay all l (length old.given.items) (take goes.count (left_to old text))) line
      ∙ ap (λ g. text_after replay all 1 (length g) (take goes.count (left_to old text))) none
      ∙ ap (λ h. text_after replay all 1 0 (take goes.count h)) lines in
      record {
        count = goes.count;
        whole = λ ended. subst (λ h. length h ≤ goes.count) lines (goes.whole ended);
        takes = goes.takes ∙ ap (λ g. map item_view g ++ given_of (take goes.count (left_to old text))) none ∙ ap (λ h. given_of (take goes.count h)) lines;
        prints = subst (λ l. PrintsText why (contents old.output.now) (contents new.output.now) l) text_is goes.prints;
        logs = subst (λ h. Logs why (logged old.log.now) (logged new.log.now) (logged_of (take goes.count h)) (logged_of (take MAX_GROUP (drop goes.count h)))) lines goes.logs;
      }
