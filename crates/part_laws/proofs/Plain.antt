-- What a worker does with posts of any numbers, without the numbers.
use Rattle.std.proofs.Common.{◌≡◌, ◌∙◌, ◌++◌, ℕ, zero, suc, Bool, true, false, Option, Some, None, List, [], ◌∷◌, Ok, Err, map, refl, sym, ap, subst}
use Rattle.std.specs.Prelude.{if◌then◌else◌, slice_index_or}
use Rattle.std.proofs.lemmas.List.{map-append}
use Rattle.account_core.specs.Asked.{Credits}
use Rattle.account_core.specs.Entries.{EntryData}
use Rattle.account_core.specs.declared.entry.Reply.{Reply}
use Rattle.account_core.specs.declared.entry.Reply.TheVariants.{Granted, Denied, Settled, Forfeit, Returned}
use Rattle.cap_values.specs.declared.event.Event.TheVariants as event
use Rattle.cap_values.specs.declared.message.SsfMsg.{SsfMsg}
use Rattle.cap_values.specs.declared.message.SsfMsg.TheVariants.{InitialDp, EventReport, ChargingReport, Ended}
use Rattle.cap_values.specs.declared.mode.Mode.{Mode}
use Rattle.cap_values.specs.declared.number.Number.{Number}
use Rattle.dialogue_core.specs.Phases.{Conditions, Phase, Says, Sequel, FirstAsk, Running, Settling, MoreAsk, Returning, Ending, Closed, Asks, Sends, Finished}
use Rattle.dialogue_core.specs.Phases as phase
use Rattle.dialogue_core.specs.Rules.{Step, are_units, going_on, on_begin, on_message, on_refusal, on_reply, while_running, sequel}
use Rattle.dialogue_core.specs.Talks.{Got, after_got, is_ask, or_done, orders_sent_by, talked}
use Rattle.dialogue_core.specs.declared.fault.DialogueFault.TheVariants.{Unexpected}
use Rattle.part_laws.specs.Numbers.{unnumbered, without_number, without_numbers}
use Rattle.run_values.specs.Setups.{Setup, place_of}
use Rattle.run_values.specs.declared.post.Body.{Body}
use Rattle.run_values.specs.declared.post.Body.TheVariants.{Ssf, Recharge}
use Rattle.run_values.specs.declared.post.Post.{Post}
use Rattle.price_core.specs.declared.route.Route.{Route}
use Rattle.runs_core.specs.Chains.{AreAnswered}
use Rattle.runs_core.specs.Handled.{AnswerView, AreRefusedRightly, Holding, IsDone, IsRightlyHandled, IsTalked, grown}
use Rattle.runs_core.specs.Talks.{AllAsk, AreRightlyGot, IsRightlyGot, Showing, entries_of, entry_of}
use Rattle.runs_core.specs.Verdicts.{Begins, DialogueAt, GoesOn, Recharges, Rejects, Strays, Verdict, begins, fresh_call, goes_on, home_of, recharged, spoken, verdict, verdict_on}

-- ---- what is said

abbrev pub plain_says : Says → Says
plain_says (Asks asked) = Asks (unnumbered asked)
plain_says (Sends orders) = Sends orders
plain_says Finished = Finished

abbrev pub plain_turn : Says × Phase → Says × Phase
plain_turn turn = (plain_says turn.0, turn.1)

-- a turn without a number
abbrev IsPlain : Says × Phase → Type 0
IsPlain turn = plain_turn turn ≡ turn

abbrev IsPlainStep : Phase → Step → Type 0
IsPlainStep phase step = IsPlain (or_done phase step)

sequel_plain : (after : Sequel) → IsPlain (sequel after)
sequel_plain phase.Nothing = refl
sequel_plain phase.Continues = refl
sequel_plain phase.Clears = refl
sequel_plain phase.Fails = refl
sequel_plain phase.Closes = refl

by_units : (phase : Phase) (b : Bool) (turn : Says × Phase) → IsPlain turn → IsPlainStep phase (if b then Ok turn else Err Unexpected)
by_units phase true turn plain = plain
by_units phase false turn plain = refl

reply_plain : (phase : Phase) (response : Reply) → IsPlainStep phase (on_reply phase response)
reply_plain (FirstAsk t) (Granted units last available) = by_units (FirstAsk t) (are_units units) _ refl
reply_plain (FirstAsk t) (Denied available) = refl
reply_plain (FirstAsk t) response = refl
reply_plain (Running t) response = refl
reply_plain (Settling t true at) (Settled paid available) = refl
reply_plain (Settling t true at) (Forfeit paid available) = refl
reply_plain (Settling t true at) response = refl
reply_plain (Settling t false at) (Settled paid available) = refl
reply_plain (Settling t false at) (Forfeit paid available) = refl
reply_plain (Settling t false at) response = refl
reply_plain (MoreAsk t) (Granted units last available) = by_units (MoreAsk t) (are_units units) _ refl
reply_plain (MoreAsk t) (Denied available) = refl
reply_plain (MoreAsk t) response = refl
reply_plain (Returning after) (Returned paid available) = sequel_plain after
reply_plain (Returning after) response = refl
reply_plain Ending response = refl
reply_plain Closed response = refl

refusal_plain : (phase : Phase) → IsPlainStep phase (on_refusal phase)
refusal_plain (FirstAsk t) = refl
refusal_plain (Running t) = refl
refusal_plain (Settling t true at) = refl
refusal_plain (Settling t false at) = refl
refusal_plain (MoreAsk t) = refl
refusal_plain (Returning after) = sequel_plain after
refusal_plain Ending = refl
refusal_plain Closed = refl

got_plain : (phase : Phase) (got : Got) → IsPlain (after_got phase got)
got_plain phase (Ok response) = reply_plain phase response
got_plain phase (Err why) = refusal_plain phase

-- ---- a talk

talked_plain : (first : Says × Phase) (gots : List Got) → talked (plain_turn first) gots ≡ plain_turn (talked first gots)
talked_plain first [] = refl
talked_plain first (got ∷ earlier) =
    ap (λ (turn : Says × Phase). after_got turn.1 got) (talked_plain first earlier) ∙ sym (got_plain (talked first earlier).1 got)

ask_plain : (says : Says) → is_ask (plain_says says) ≡ is_ask says
ask_plain (Asks asked) = refl
ask_plain (Sends orders) = refl
ask_plain Finished = refl

sent_plain : (says : Says) → orders_sent_by (plain_says says) ≡ orders_sent_by says
sent_plain (Asks asked) = refl
sent_plain (Sends orders) = refl
sent_plain Finished = refl

entry_plain : (seat : ℕ) (says : Says) (got : Got) → entry_of seat (plain_says says) got ≡ without_numbers (entry_of seat says got)
entry_plain seat (Asks asked) (Ok response) = refl
entry_plain seat (Asks asked) (Err why) = refl
entry_plain seat (Sends orders) got = refl
entry_plain seat Finished got = refl

entries_plain : (seat : ℕ) (first : Says × Phase) (gots : List Got) → entries_of seat (plain_turn first) gots ≡ without_numbers (entries_of seat first gots)
entries_plain seat first [] = refl
entries_plain seat first (got ∷ earlier) =
    ap (λ (turn : Says × Phase). entries_of seat (plain_turn first) earlier ++ entry_of seat turn.0 got) (talked_plain first earlier)
    ∙ ap (λ (l : List EntryData). l ++ entry_of seat (plain_says (talked first earlier).0) got) (entries_plain seat first earlier)
    ∙ ap (λ (l : List EntryData). without_numbers (entries_of seat first earlier) ++ l) (entry_plain seat (talked first earlier).0 got)
    ∙ sym (map-append without_number (entries_of seat first earlier) (entry_of seat (talked first earlier).0 got))

asked_plain : (first : Says × Phase) (gots : List Got) → AllAsk first gots → AllAsk (plain_turn first) gots
asked_plain first [] all = tt
asked_plain first (got ∷ earlier) all =
    (ap (λ (turn : Says × Phase). is_ask turn.0) (talked_plain first earlier) ∙ ask_plain (talked first earlier).0 ∙ all.0, asked_plain first earlier all.1)

-- ---- what a worker holds

abbrev pub plain_lists : List (List EntryData) → List (List EntryData)
plain_lists lists = map without_numbers lists

abbrev pub plain : Holding → Holding
plain it = record { lists = plain_lists it.lists; talks = it.talks }

abbrev pub plain_post : Post → Post
plain_post post = record post { number = 0 }

abbrev pub plain_answer : AnswerView → AnswerView
plain_answer answer = record { number = 0; orders = answer.orders; stray = answer.stray; refused = answer.refused }

grown_plain : (lists : List (List EntryData)) (place : ℕ) (entries : List EntryData) → plain_lists (grown lists place entries) ≡ grown (plain_lists lists) place (without_numbers entries)
grown_plain [] place entries = refl
grown_plain (mine ∷ lists) zero entries = ap (λ l. l ∷ plain_lists lists) (map-append without_number mine entries)
grown_plain (mine ∷ lists) (suc place) entries = ap (λ l. without_numbers mine ∷ l) (grown_plain lists place entries)

grows_plain : (old new : List (List EntryData)) (place : ℕ) (entries others : List EntryData) → new ≡ grown old place entries → others ≡ without_numbers entries
    → plain_lists new ≡ grown (plain_lists old) place others
grows_plain old new place entries others is same = ap plain_lists is ∙ grown_plain old place entries ∙ ap (grown (plain_lists old) place) (sym same)

is_talked_plain : (numbers : List ℕ) (call place : ℕ) (first : Says × Phase) (old new : Holding) (answer : AnswerView) → IsTalked numbers call place first old new answer
    → IsTalked numbers call place (plain_turn first) (plain old) (plain new) (plain_answer answer)
is_talked_plain numbers call place first old new answer is = record {
  gots = is.gots;
  asked = asked_plain first is.gots is.asked;
  last = plain_says is.last;
  phase = is.phase;
  talk = talked_plain first is.gots ∙ ap plain_turn is.talk;
  rests = ask_plain is.last ∙ is.rests;
  orders = is.orders ∙ sym (sent_plain is.last);
  stray = is.stray;
  refused = is.refused;
  lists = grows_plain old.lists new.lists place _ _ is.lists (entries_plain (slice_index_or numbers place 0) first is.gots);
  talks = is.talks;
}

-- ---- a verdict

abbrev plain_verdict : Verdict → Verdict
plain_verdict Strays = Strays
plain_verdict Rejects = Rejects
plain_verdict (Recharges place amount until) = Recharges place amount until
plain_verdict (Begins call place called) = Begins call place called
plain_verdict (GoesOn call place said phase) = GoesOn call place (plain_says said) phase

abbrev plain_step : Step → Step
plain_step (Ok turn) = Ok (plain_turn turn)
plain_step (Err fault) = Err fault

ending_plain : (mode : Mode) → sequel (going_on mode) ≡ plain_turn (sequel (going_on mode))
ending_plain mode = sym (sequel_plain (going_on mode))

running_plain : (t : Conditions) (number at : ℕ) (message : SsfMsg) → while_running t 0 at message ≡ plain_step (while_running t number at message)
running_plain t number at (InitialDp call calling called) = refl
running_plain t number at (EventReport event.Answer leg mode) = refl
running_plain t number at (EventReport e leg mode) = refl
running_plain t number at (ChargingReport active info) = refl
running_plain t number at Ended = refl

message_plain : (p : Phase) (number at : ℕ) (message : SsfMsg) → on_message p 0 at message ≡ plain_step (on_message p number at message)
message_plain (FirstAsk t) number at message = refl
message_plain (Running t) number at message = running_plain t number at message
message_plain (Settling t active since) number at message = refl
message_plain (MoreAsk t) number at message = refl
message_plain (Returning after) number at message = refl
message_plain Ending number at (InitialDp call calling called) = refl
message_plain Ending number at (EventReport e leg mode) = ap (λ (turn : Says × Phase). Ok turn) (ending_plain mode)
message_plain Ending number at (ChargingReport active info) = refl
message_plain Ending number at Ended = refl
message_plain Closed number at message = refl

goes_plain : (call place : ℕ) (step : Step) → goes_on call place (plain_step step) ≡ plain_verdict (goes_on call place step)
goes_plain call place (Ok turn) = refl
goes_plain call place (Err fault) = refl

begins_plain : (call : ℕ) (called : Number) (home : Option ℕ) → begins call called home ≡ plain_verdict (begins call called home)
begins_plain call called None = refl
begins_plain call called (Some place) = refl

fresh_plain : (setup : Setup) (call : ℕ) (message : SsfMsg) → fresh_call setup call message ≡ plain_verdict (fresh_call setup call message)
fresh_plain setup call (InitialDp other calling called) = begins_plain call called (home_of calling setup)
fresh_plain setup call (EventReport e leg mode) = refl
fresh_plain setup call (ChargingReport active info) = refl
fresh_plain setup call Ended = refl

spoken_plain : (setup : Setup) (number at call : ℕ) (message : SsfMsg) (standing : Option DialogueAt)
    → spoken setup 0 at call message standing ≡ plain_verdict (spoken setup number at call message standing)
spoken_plain setup number at call message None = fresh_plain setup call message
spoken_plain setup number at call message (Some standing) =
    ap (goes_on call standing.place) (message_plain standing.phase number at message) ∙ goes_plain call standing.place (on_message standing.phase number at message)

recharged_plain : (amount : ℕ) (until place : Option ℕ) → recharged amount until place ≡ plain_verdict (recharged amount until place)
recharged_plain amount until None = refl
recharged_plain amount until (Some place) = refl

verdict_plain : (setup : Setup) (talks : ℕ → Option DialogueAt) (number at : ℕ) (body : Body) → verdict_on setup talks 0 at body ≡ plain_verdict (verdict_on setup talks number at body)
verdict_plain setup talks number at (Ssf call message) = spoken_plain setup number at call message (talks call)
verdict_plain setup talks number at (Recharge account amount until) = recharged_plain amount until (place_of account setup)

-- ---- what is done

begin_plain : (call now wanted least : ℕ) (route : Option Route) → plain_turn (on_begin call now wanted least route) ≡ on_begin call now wanted least route
begin_plain call now wanted least None = refl
begin_plain call now wanted least (Some route) = refl

done_plain : (setup : Setup) (numbers : List ℕ) (at : ℕ) (v : Verdict) (old new : Holding) (answer : AnswerView) → IsDone setup numbers at v old new answer
    → IsDone setup numbers at (plain_verdict v) (plain old) (plain new) (plain_answer answer)
done_plain setup numbers at Strays old new answer done =
    record { orders_are = done.orders_are; stray_is = done.stray_is; refused = done.refused; lists = ap plain_lists done.lists; talks = done.talks }
done_plain setup numbers at Rejects old new answer done =
    record { orders_are = done.orders_are; stray_is = done.stray_is; refused = done.refused; lists = ap plain_lists done.lists; talks = done.talks }
done_plain setup numbers at (Recharges place amount until) old new answer done = record {
  got = done.got;
  orders = done.orders;
  stray = done.stray;
  refused = done.refused;
  lists = grows_plain old.lists new.lists place _ _ done.lists (entry_plain (slice_index_or numbers place 0) (Asks (Credits amount until)) done.got);
  talks = done.talks;
}
done_plain setup numbers at (Begins call place called) old new answer done =
    let T : Says × Phase → Type 0 = λ first. IsTalked numbers call place first (plain old) (plain new) (plain_answer answer) in
    let first = on_begin call at setup.service.wanted setup.service.least done.route in
    record {
      route = done.route;
      routed = done.routed;
      talked = subst T (begin_plain call at setup.service.wanted setup.service.least done.route) (is_talked_plain numbers call place first old new answer done.talked);
    }
done_plain setup numbers at (GoesOn call place said p) old new answer done = is_talked_plain numbers call place (said, p) old new answer done

-- ---- whatever is shown of refusals

abbrev pub AllShown : ℕ → Showing
AllShown place mine asked why = Unit {0}

one_shown : (place : ℕ) (mine : List EntryData) (says : Says) (got : Got) → IsRightlyGot (AllShown place) mine says got
one_shown place mine (Asks asked) (Ok response) = tt
one_shown place mine (Asks asked) (Err why) = tt
one_shown place mine (Sends orders) got = tt
one_shown place mine Finished got = tt

all_shown : (place seat : ℕ) (first : Says × Phase) (before : List EntryData) (gots : List Got) → AreRightlyGot (AllShown place) seat first before gots
all_shown place seat first before [] = tt
all_shown place seat first before (got ∷ earlier) =
    (one_shown place (before ++ entries_of seat first earlier) (talked first earlier).0 got, all_shown place seat first before earlier)

pub done_shown : (setup : Setup) (numbers : List ℕ) (at : ℕ) (v : Verdict) (old new : Holding) (answer : AnswerView) (done : IsDone setup numbers at v old new answer)
    → AreRefusedRightly AllShown setup numbers at v old new answer done
done_shown setup numbers at Strays old new answer done = tt
done_shown setup numbers at Rejects old new answer done = tt
done_shown setup numbers at (Recharges place amount until) old new answer done = one_shown place (slice_index_or old.lists place []) (Asks (Credits amount until)) done.got
done_shown setup numbers at (Begins call place called) old new answer done =
    all_shown place (slice_index_or numbers place 0) _ (slice_index_or old.lists place []) done.talked.gots
done_shown setup numbers at (GoesOn call place said p) old new answer done = all_shown place (slice_index_or numbers place 0) (said, p) (slice_index_or old.lists place []) done.gots

-- ---- a chain of posts

pub chain_plain : (Shows : ℕ → Showing) (setup : Setup) (numbers : List ℕ) (posts : List Post) (answers : List AnswerView) (old new : Holding)
    → AreAnswered Shows setup numbers posts answers old new → AreAnswered AllShown setup numbers (map plain_post posts) (map plain_answer answers) (plain old) (plain new)
chain_plain Shows setup numbers [] [] old new are = ap plain are
chain_plain Shows setup numbers [] (answer ∷ answers) old new are = absurd are
chain_plain Shows setup numbers (post ∷ posts) [] old new are = absurd are
chain_plain Shows setup numbers (post ∷ posts) (answer ∷ answers) old new are =
    let between = are.0 in
    let D : Verdict → Type 0 = λ v. IsDone setup numbers post.at v (plain old) (plain between) (plain_answer answer) in
    let done = subst D (sym (verdict_plain setup old.talks post.number post.at post.body))
    (done_plain setup numbers post.at (verdict setup old.talks post) old between answer are.1.handled.done) in
    let handled : IsRightlyHandled AllShown setup numbers (plain_post post) (plain old) (plain between) (plain_answer answer) = record {
      handled = record { number = refl; done = done };
      right = done_shown setup numbers post.at (verdict_on setup old.talks 0 post.at post.body) (plain old) (plain between) (plain_answer answer) done;
    } in
    (plain between, handled, chain_plain Shows setup numbers posts answers between new are.2)
