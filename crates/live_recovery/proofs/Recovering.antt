-- A run that was cut off, and one that goes on behind its log, by a run that was never cut off.
use Rattle.std.proofs.Common.{◌≡◌, ◌≤◌, ◌++◌, ◌∙◌, ℕ, None, List, [], length, map, take, drop, refl, sym, ap, subst, arith, append_assoc, append-nil, take_all, take-take, drop_of_length-le}
use Rattle.std.proofs.lemmas.List.{length-map}
use Rattle.std.specs.Io.KnownBytes.{Appends}
use Rattle.runs_core.proofs.HearingLemmas.{many_answers}
use Rattle.live_answers.proofs.GroupLemmas.{given_many, given_on}
use Rattle.live_answers.specs.Checks.{first_wrong}
use Rattle.live_answers.specs.Laws.{LogsAreHeardAgain, accepted, next_behind}
use Rattle.live_answers.specs.Lines.{live_lines}
use Rattle.live_answers.specs.Live.{Heard, given_of, heard_in, item_view, logged_of, replayed_text}
use Rattle.live_answers.specs.Runs.{Logs, PrintsText}
use Rattle.live_answers.specs.declared.group.TheConstants.{MAX_GROUP}
use Rattle.live_answers.specs.declared.replay.Replay.{Replay}
use Rattle.live_recovery.proofs.Alone.{books_are, both_alike}
use Rattle.live_recovery.proofs.Fronts.{accepted_many, front_alone, fronts_again, given_accepted, given_split, logged_again, none_wrong}
use Rattle.live_recovery.proofs.Logs.{log_is, stopped_is}
use Rattle.live_recovery.proofs.Readable.{ItemsRead, all_read, given_read, take_read}
use Rattle.live_recovery.proofs.SameSpeech.{follow}
use Rattle.live_recovery.proofs.Texts.{begun_text, printed_again}
use Rattle.live_recovery.specs.Laws.{views_of}
use Rattle.tariff_core.proofs.Proper.{read_is_proper}
use Rattle.tariff_core.specs.Laws.{IsProper}
use Rattle.live_recovery.specs.Recovery.{CutOffRunsGoOn, GoesOnBehind, HearsAgain, IsLive, IsResumed, IsUncut, LiveRun, LiveRunsAreAlike, StoppedLogsAreRight, StoppedRunsGoOn, front_of, rest_heard_behind, text_again, text_anew, with_further}
use Rattle.run_texts.specs.Messages.{Speech}
use Rattle.run_values.specs.Setups.{Setup}
use Rattle.run_values.specs.declared.post.Answer.{Answer}
use Rattle.account_core.specs.Closed.{Closed}
use Rattle.runs_core.specs.Handled.{AnswerView}

-- ---- a run that was given the first of what another one was given

-- it begins as that one
record Begins (early answers : List Answer) (more : List (ℕ × Speech)) (books other : List Closed) : Type 0 where
  rest : List AnswerView
  are : views_of answers ≡ views_of early ++ rest
  same : more ≡ [] → books ≡ other

begins : (setup : Setup) (it : LiveRun) (served : IsLive setup it) (more : List (ℕ × Speech)) (lines : List Heard) (answers : List Answer) (books : List Closed) → IsProper setup.tariff
    → IsUncut setup lines answers books → given_of lines ≡ given_of (front_of it served.answered.lines.count) ++ more → Begins served.answered.answers answers more it.books books
begins setup it served more lines answers books proper uncut is =
    let heard = front_of it served.answered.lines.count in
    let takes : map item_view it.given ≡ given_of heard = served.answered.lines.takes in
    let read = take_read served.answered.lines.count (heard_in it.input) (all_read 0 0 (live_lines it.input)) in
    let longer : map item_view uncut.given ≡ map item_view it.given ++ more = uncut.takes ∙ is ∙ ap (λ l. l ++ more) (sym takes) in
    let goes = follow 0 it.given uncut.given more longer (subst ItemsRead (sym takes) (given_read heard read)) in
    let alike = both_alike setup it.given uncut.given goes.rest served.answered.answers answers it.books books proper
    (record { run = served.answered.run; none = served.none }) (record { run = uncut.run; none = uncut.none }) goes.alike in
    record { rest = alike.rest; are = alike.answers_are; same = λ nothing. books_are setup it.given uncut.given served.answered.answers answers it.books books served.answered.run uncut.run (alike.same (goes.all nothing)).1 }

-- and prints of the lines that it took in what that one would
begun_prints : (setup : Setup) (it : LiveRun) (served : IsLive setup it) (answers : List Answer) (rest : List AnswerView) → views_of answers ≡ views_of served.answered.answers ++ rest
    → PrintsText it.fault it.output_old it.output_new (replayed_text it.replay answers (front_of it served.answered.lines.count))
begun_prints setup it served answers rest are =
    let heard = front_of it served.answered.lines.count in
    let takes : map item_view it.given ≡ given_of heard = served.answered.lines.takes in
    let many : next_behind 0 heard ≤ length served.answered.answers =
    omega (arith, given_many 0 heard, ap length takes, length-map it.given item_view, many_answers 0 it.given served.answered.answers served.answered.run.each_heard) in
    subst (λ l. PrintsText it.fault it.output_old it.output_new l) (begun_text it.replay served.answered.answers answers rest heard are many) served.answered.lines.prints

-- ---- two runs over one input

whole_front : (setup : Setup) (it : LiveRun) (served : IsLive setup it) → it.fault ≡ None → front_of it served.answered.lines.count ≡ heard_in it.input
whole_front setup it served ended = take_all served.answered.lines.count (heard_in it.input) (served.answered.lines.whole ended)

printed_all : (it : LiveRun) (text whole : List ℕ) → it.fault ≡ None → text ≡ whole → PrintsText it.fault it.output_old it.output_new text → Appends it.output_old it.output_new whole
printed_all it text whole ended is prints =
    subst (λ l. Appends it.output_old it.output_new l) is (subst (λ why. PrintsText why it.output_old it.output_new text) ended prints)

pub live_alike : LiveRunsAreAlike
live_alike setup one other tariff first second input replay ended ended_too =
    let lines = heard_in other.input in
    let answers = second.answered.answers in
    let all = whole_front setup one first ended ∙ ap heard_in input in
    let all_too = whole_front setup other second ended_too in
    let uncut : IsUncut setup lines answers other.books =
    record { given = other.given; takes = second.answered.lines.takes ∙ ap given_of all_too; run = second.answered.run; none = second.none } in
    let so = begins setup one first [] lines answers other.books (read_is_proper setup.tariff tariff) uncut (ap given_of (sym all) ∙ sym (append-nil (given_of (front_of one first.answered.lines.count)))) in
    let text : replayed_text one.replay answers (front_of one first.answered.lines.count) ≡ replayed_text other.replay answers lines =
    ap (λ (r : Replay). replayed_text r answers (front_of one first.answered.lines.count)) replay ∙ ap (replayed_text other.replay answers) all in (
      replayed_text other.replay answers lines,
      printed_all one _ _ ended text (begun_prints setup one first answers so.rest so.are),
      printed_all other _ _ ended_too (ap (replayed_text other.replay answers) all_too) second.answered.lines.prints,
      so.same refl,
    )

-- ---- a run that goes on behind a log

module _ (again : LogsAreHeardAgain) (setup : Setup) (input : List ℕ) (count : ℕ) (it : LiveRun) (rest : List ℕ) (proper : IsProper setup.tariff) (served : IsLive setup it)
    (begins_so : it.input ≡ logged_of (take count (heard_in input)) ++ rest) (replay : HearsAgain (logged_of (take count (heard_in input))) it.replay) where
  abbrev heard : List Heard
  heard = take count (heard_in input)

  abbrev behind : List Heard
  behind = rest_heard_behind heard rest

  abbrev taken : ℕ
  taken = served.answered.lines.count

  hears : heard_in it.input ≡ accepted heard ++ behind
  hears = ap heard_in begins_so ∙ fronts_again again count input rest

  messages : it.replay.messages ≡ next_behind 0 heard
  messages = let many = ap length (front_alone again count input) in omega (arith, replay.messages, many, accepted_many 0 heard)

  given_again : given_of (heard_in it.input) ≡ given_of (with_further heard rest)
  given_again = ap given_of hears ∙ given_on (accepted heard) behind ∙ ap (λ l. l ++ given_of behind) (given_accepted heard) ∙ sym (given_on heard behind)

  given_so : given_of (with_further heard rest) ≡ given_of (front_of it taken) ++ given_of (drop taken (heard_in it.input))
  given_so = sym given_again ∙ given_split taken (heard_in it.input)

  -- it took in all, where it was not cut off
  all_taken : it.fault ≡ None → front_of it taken ≡ heard_in it.input
  all_taken = whole_front setup it served

  none_left : it.fault ≡ None → given_of (drop taken (heard_in it.input)) ≡ []
  none_left ended = ap given_of (drop_of_length-le (heard_in it.input) (served.answered.lines.whole ended))

  is_uncut : it.fault ≡ None → IsUncut setup (with_further heard rest) served.answered.answers it.books
  is_uncut ended = record {
    given = it.given;
    takes = served.answered.lines.takes ∙ ap given_of (all_taken ended) ∙ given_again;
    run = served.answered.run;
    none = served.none;
  }

  logs : it.fault ≡ None → Appends it.log_old it.log_new (logged_of (with_further heard rest))
  logs ended =
      let whole = subst (λ why. Logs why it.log_old it.log_new (logged_of (front_of it taken)) (logged_of (take MAX_GROUP (drop taken (heard_in it.input))))) ended served.answered.lines.logs in
      subst (λ l. Appends it.log_old it.log_new l) (ap logged_of (all_taken ended ∙ hears) ∙ logged_again heard behind) whole

  goes_on : (answers : List Answer) (books : List Closed) → IsUncut setup (with_further heard rest) answers books → GoesOnBehind setup it served heard rest answers books
  goes_on answers books uncut =
      let first = begins setup it served (given_of (drop taken (heard_in it.input))) (with_further heard rest) answers books proper uncut given_so in
      let prints = begun_prints setup it served answers first.rest first.are in
      record {
        printed = record { begin = (first.rest, first.are); prints = prints };
        goes_on = λ ended.
            let text : replayed_text it.replay answers (front_of it taken) ≡ text_again it.replay.quiet answers 0 heard ++ text_anew answers (next_behind 0 heard) behind =
            ap (replayed_text it.replay answers) (all_taken ended ∙ hears) ∙ printed_again it.replay answers heard behind messages replay.quiet in
            printed_all it _ _ ended text prints;
        books_are = λ ended. first.same (none_left ended);
      }

  pub is_resumed : IsResumed setup it served heard rest
  is_resumed = record { hears = hears; uncut = is_uncut; logs = logs; goes_on = goes_on }

resumed_by : (again : LogsAreHeardAgain) (setup : Setup) (input : List ℕ) (count : ℕ) (it : LiveRun) (lines rest : List ℕ) → IsProper setup.tariff → (served : IsLive setup it)
    → lines ≡ logged_of (take count (heard_in input)) → it.input ≡ lines ++ rest → HearsAgain lines it.replay → IsResumed setup it served (take count (heard_in input)) rest
resumed_by again setup input count it lines rest proper served is begins_so replay =
    is_resumed again setup input count it rest proper served (begins_so ∙ ap (λ l. l ++ rest) is) (subst (λ l. HearsAgain l it.replay) is replay)

pub stopped_right : LogsAreHeardAgain → StoppedLogsAreRight
stopped_right again input size lines has =
    let (count, is) = stopped_is input size lines has in
    (count, is, ap (λ l. first_wrong 1 (heard_in l)) is ∙ ap (first_wrong 1) (front_alone again count input) ∙ none_wrong (take count (heard_in input)) 1)

pub stopped_go_on : LogsAreHeardAgain → StoppedRunsGoOn
stopped_go_on again setup input size it lines rest tariff has served begins_so replay =
    let (count, is) = stopped_is input size lines has in
    (count, is, resumed_by again setup input count it lines rest (read_is_proper setup.tariff tariff) served is begins_so replay)

-- ---- two runs

-- what a run took in is of the lines of its log
given_early : (it : LiveRun) (taken count : ℕ) (rest : List ℕ) → taken ≤ count → given_of (with_further (front_of it count) rest)
    ≡ given_of (front_of it taken) ++ (given_of (drop taken (front_of it count)) ++ given_of (rest_heard_behind (front_of it count) rest))
given_early it taken count rest least =
    let heard = front_of it count in
    let later = given_of (rest_heard_behind heard rest) in
    given_on heard (rest_heard_behind heard rest) ∙ ap (λ l. l ++ later) (given_split taken heard) ∙ append_assoc (given_of (take taken heard)) (given_of (drop taken heard)) later
    ∙ ap (λ h. given_of h ++ (given_of (drop taken heard) ++ later)) (take-take taken count (heard_in it.input) least)

pub recovered : LogsAreHeardAgain → CutOffRunsGoOn
recovered again setup first second head log lines rest tariff early was written has late begins_so replay =
    let taken = early.answered.lines.count in
    let proper = read_is_proper setup.tariff tariff in
    let (count, of) = log_is first taken head log lines was written has early.answered.lines.logs in
    record {
      count = count;
      log = of;
      begun = λ answers books uncut.
          let so = begins setup first early _ (with_further (front_of first count) rest) answers books proper uncut (given_early first taken count rest of.least) in
          record { begin = (so.rest, so.are); prints = begun_prints setup first early answers so.rest so.are };
      resumed = resumed_by again setup first.input count second lines rest proper late of.lines_are begins_so replay;
    }
