-- A call that goes on and is ended is returned once.
use Rattle.std.proofs.Common.{◌≡◌, ◌≢◌, ◌<◌, ◌++◌, ◌∙◌, ℕ, Bool, true, false, Option, Some, None, Ok, Err, List, [], ◌∷◌, length, refl, sym, ap, subst, All, append-nil, arith}
use Rattle.std.specs.Prelude.{◌==◌, if◌then◌else◌, slice_index_or}
use Rattle.std.specs.Map.{keys_of}
use Rattle.std.proofs.lemmas.Bool.Decides.{nat_tests}
use Rattle.std.proofs.lemmas.List.{append_assoc}
use Rattle.std.proofs.lemmas.List.Elements.{All-append, All-nil, All-weaker}
use Rattle.account_core.specs.Asked.{Credits, Returns}
use Rattle.account_core.specs.Entries.{EntryData}
use Rattle.account_core.specs.declared.fault.AccountFault.{AccountFault}
use Rattle.cap_values.specs.declared.event.Event.TheVariants as event
use Rattle.cap_values.specs.declared.message.SsfMsg.{SsfMsg}
use Rattle.cap_values.specs.declared.message.SsfMsg.TheVariants as msg
use Rattle.dialogue_core.specs.Phases.{Conditions, Phase, Says, Sequel, Running, Returning, Asks}
use Rattle.dialogue_core.specs.Phases as phase
use Rattle.dialogue_core.specs.Rules.{Step, going_on, on_begin, on_message}
use Rattle.runs_core.proofs.OwnCalls.{SaysOf, TakesTo, begun_about, takes_answer}
use Rattle.held_calls.proofs.Talked.{begun_says}
use Rattle.held_calls.proofs.Asking.{taken_on}
use Rattle.held_calls.proofs.AtRest.{nothing_asked}
use Rattle.held_calls.proofs.Chaining.{first_sound, once_sound}
use Rattle.held_calls.proofs.Entering.{none_at_first}
use Rattle.held_calls.proofs.Growing.{place_within, read_as_before, read_talked}
use Rattle.runs_core.proofs.Handling.{Means, at_place, means_on, same_number}
use Rattle.held_calls.proofs.Sound.{is_itself, many_keys, own_of}
use Rattle.held_calls.proofs.Through.{IsOver, ReturnsLast, StepIsOver, StepReturnsLast, is_through, last_begun, last_answer, not_before, over_answer, returns_none, talk_returns, talk_returns_once, through_still}
use Rattle.runs_core.specs.Chains.{at_first, seat_numbers}
use Rattle.held_calls.specs.Chains.{AreHandled}
use Rattle.runs_core.specs.Handled.{Holding, IsDone, IsTalked, AnswerView}
use Rattle.held_calls.specs.Workers.{AreReturnedFor, CallsAreReturned, ends_call}
use Rattle.runs_core.specs.Served.{returned_in, returns_of}
use Rattle.run_values.specs.Setups.{Setup}
use Rattle.dialogue_core.specs.Talks.{Got, talked}
use Rattle.runs_core.specs.Talks.{entries_of, entry_of}
use Rattle.runs_core.specs.Verdicts.{DialogueAt, Verdict, Strays, Rejects, Recharges, Begins, GoesOn, verdict_on}
use Rattle.runs_core.specs.Workers.{IsAbout}
use Rattle.held_calls.specs.Sound.{IsSoundHolding}
use Rattle.run_values.specs.declared.post.Post.{Post}

-- ---- what other posts add to the calls that are returned in a list

-- the dialogue of a call is through with it
abbrev has_ended : Option DialogueAt → Bool
has_ended None = false
has_ended (Some standing) = is_through standing.phase

-- some calls, none of them this one
record AddsOthers (call place : ℕ) (old new : Holding) : Type 0 where
  more : List ℕ
  is : returns_of (slice_index_or new.lists place []) ≡ returns_of (slice_index_or old.lists place []) ++ more
  others : All (λ c. c ≢ call) more

adds_none : (call place : ℕ) (old new : Holding) → returns_of (slice_index_or new.lists place []) ≡ returns_of (slice_index_or old.lists place []) → AddsOthers call place old new
adds_none call place old new same = record { more = []; is = same ∙ sym (append-nil (returns_of (slice_index_or old.lists place []))); others = All-nil (λ c. c ≢ call) }

adds_both : (call place : ℕ) (old between new : Holding) → AddsOthers call place old between → AddsOthers call place between new → AddsOthers call place old new
adds_both call place old between new first second = record {
  more = first.more ++ second.more;
  is = second.is ∙ ap (λ l. l ++ second.more) first.is ∙ append_assoc (returns_of (slice_index_or old.lists place [])) first.more second.more;
  others = All-append (λ c. c ≢ call) first.more second.more first.others second.others;
}

differ : (call its other : ℕ) → (call == its) ≡ false → other ≡ its → other ≢ call
differ call its other is same here = let one : call ≡ its = sym here ∙ same in let same_too : (call == its) ≡ true = grind (arith, nat_tests, one) in absurd (cc)

all_if : (P : ℕ → Type 0) (b : Bool) (calls : List ℕ) → All P calls → All P (if b then calls else [])
all_if P true calls all = all
all_if P false calls all = All-nil P

talk_others : (numbers : List ℕ) (call its at place : ℕ) (first : Says × Phase) (old new : Holding) (t : AnswerView) → (call == its) ≡ false → at < length old.lists → IsAbout its first.1
    → SaysOf its first.0 → IsTalked numbers its at first old new t → AddsOthers call place old new
talk_others numbers call its at place first old new t differs within about says is =
    let returned = returns_of (entries_of (slice_index_or numbers at 0) first is.gots) in
    record {
      more = if place == at then returned else [];
      is = read_talked (λ (e : EntryData). returned_in e.asked) numbers its at place first old new t within is;
      others =
          all_if (λ c. c ≢ call) (place == at) returned
          (All-weaker (λ c. c ≡ its) (λ c. c ≢ call) (λ other. differ call its other differs) returned (talk_returns (slice_index_or numbers at 0) its first is.gots about says));
    }

talk_adds_none : (numbers : List ℕ) (call its at place : ℕ) (first : Says × Phase) (old new : Holding) (t : AnswerView) → at < length old.lists → (is : IsTalked numbers its at first old new t)
    → returns_of (entries_of (slice_index_or numbers at 0) first is.gots) ≡ [] → AddsOthers call place old new
talk_adds_none numbers call its at place first old new t within is none =
    adds_none call place old new
    (rw is.lists (read_as_before (λ (e : EntryData). returned_in e.asked) old.lists at place (entries_of (slice_index_or numbers at 0) first is.gots) within none))

-- where the dialogue of a call is after a talk, of that call or of another
talks_now : (call its at : ℕ) (b : Bool) (numbers : List ℕ) (first : Says × Phase) (old new : Holding) (t : AnswerView) → (call == its) ≡ b → (is : IsTalked numbers its at first old new t)
    → new.talks call ≡ (if b then Some (record { phase = is.phase; place = at }) else old.talks call)
talks_now call its at b numbers first old new t same is = is.talks call ∙ ap (λ (c : Bool). if c then Some (record { phase = is.phase; place = at }) else old.talks call) same

-- ---- before its dialogue is through

before_talk : (numbers : List ℕ) (call its at : ℕ) (first : Says × Phase) (old new : Holding) (t : AnswerView) (b : Bool) → (call == its) ≡ b → at < length old.lists → IsAbout its first.1
    → SaysOf its first.0 → ReturnsLast first.0 first.1 → (call ≡ its → is_through first.1 ≡ false → has_ended (old.talks call) ≡ false) → IsTalked numbers its at first old new t
    → has_ended (new.talks call) ≡ false → (has_ended (old.talks call) ≡ false) × ((place : ℕ) → AddsOthers call place old new)
before_talk numbers call its at first old new t true same within about says last was is not =
    let ends : is_through (talked first is.gots).1 ≡ false =
    ap (λ (p : Says × Phase). is_through p.1) is.talk ∙ ap has_ended (sym (talks_now call its at true numbers first old new t same is)) ∙ not in
    let began : is_through first.1 ≡ false = not_before (is_through first.1) (is_through (talked first is.gots).1) (through_still first is.gots) ends in
    (was (same_number call its same) began, λ place. talk_adds_none numbers call its at place first old new t within is (returns_none (slice_index_or numbers at 0) first is.gots last ends))
before_talk numbers call its at first old new t false same within about says last was is not =
    (ap has_ended (sym (talks_now call its at false numbers first old new t same is)) ∙ not, λ place. talk_others numbers call its at place first old new t same within about says is)

credit_returns : (seat amount : ℕ) (until : Option ℕ) (got : Got) → returns_of (entry_of seat (Asks (Credits amount until)) got) ≡ []
credit_returns seat amount until (Ok reply) = refl
credit_returns seat amount until (Err fault) = refl

recharge_adds : (setup : Setup) (numbers : List ℕ) (posts : List Post) (post : Post) (call there amount : ℕ) (until : Option ℕ) (old new : Holding) (t : AnswerView) (place : ℕ)
    → IsSoundHolding (keys_of setup.accounts) posts old → Means setup old.talks post.number post.at post.body (Recharges there amount until)
    → IsDone setup numbers post.at (Recharges there amount until) old new t → AddsOthers call place old new
recharge_adds setup numbers posts post call there amount until old new t place sound m done =
    adds_none call place old new
    (rw done.lists
    (read_as_before (λ (e : EntryData). returned_in e.asked) old.lists there place (entry_of (slice_index_or numbers there 0) (Asks (Credits amount until)) done.got)
    (place_within setup posts old there sound (at_place setup m.account there m.at).0) (credit_returns (slice_index_or numbers there 0) amount until done.got)))

before_by : (setup : Setup) (numbers : List ℕ) (posts : List Post) (post : Post) (call : ℕ) (v : Verdict) (old new : Holding) (t : AnswerView) → IsSoundHolding (keys_of setup.accounts) posts old
    → Means setup old.talks post.number post.at post.body v → IsDone setup numbers post.at v old new t → has_ended (new.talks call) ≡ false
    → (has_ended (old.talks call) ≡ false) × ((place : ℕ) → AddsOthers call place old new)
before_by setup numbers posts post call Strays old new t sound m done not = (ap has_ended (sym (done.talks call)) ∙ not, λ place. adds_none call place old new (rw done.lists refl))
before_by setup numbers posts post call Rejects old new t sound m done not = (ap has_ended (sym (done.talks call)) ∙ not, λ place. adds_none call place old new (rw done.lists refl))
before_by setup numbers posts post call (Recharges there amount until) old new t sound m done not =
    (ap has_ended (sym (done.talks call)) ∙ not, λ place. recharge_adds setup numbers posts post call there amount until old new t place sound m done)
before_by setup numbers posts post call (Begins its at called) old new t sound m done not =
    let wanted : ℕ = setup.service.wanted in
    let least : ℕ = setup.service.least in
    let P : ℕ → Type 0 = λ c. has_ended (old.talks c) ≡ false in
    before_talk numbers call its at (on_begin its post.at wanted least done.route) old new t (call == its) refl (place_within setup posts old at sound m.within)
    (begun_about its post.at wanted least done.route) (begun_says its post.at wanted least done.route) (last_begun its post.at wanted least done.route)
    (λ same began. subst P (sym same) (ap has_ended m.none)) done.talked not
before_by setup numbers posts post call (GoesOn its at said phase) old new t sound m done not =
    let own = own_of (length (keys_of setup.accounts)) posts its m.standing (old.talks its) m.stands (sound.talks its) in
    let P : Step → Type 0 = λ step. TakesTo its post.number m.message step in
    let takes : TakesTo its post.number m.message (Ok (said, phase)) = subst P m.takes (takes_answer its post.number post.at m.standing.phase m.message own.is.about) in
    let last : StepReturnsLast (Ok (said, phase)) = subst StepReturnsLast m.takes (last_answer post.number post.at m.standing.phase m.message) in
    let through : is_through m.standing.phase ≡ true → is_through phase ≡ true =
    λ is. let over : StepIsOver (Ok (said, phase)) = subst StepIsOver m.takes (over_answer post.number post.at m.standing.phase m.message is) in over.1 in
    let Q : ℕ → Type 0 = λ c. has_ended (old.talks c) ≡ false in
    before_talk numbers call its at (said, phase) old new t (call == its) refl (place_within setup posts old at sound (rw (← m.same, ← many_keys setup) own.is.placed)) takes.0 takes.1 last
    (λ same began. subst Q (sym same) (ap has_ended m.stands ∙ not_before (is_through m.standing.phase) (is_through phase) through began)) done not

before_all : (setup : Setup) (numbers : List ℕ) (call : ℕ) (done posts : List Post) (refusals : List (Option AccountFault)) (old new : Holding) → IsSoundHolding (keys_of setup.accounts) done old
    → AreHandled setup numbers posts refusals old new → has_ended (new.talks call) ≡ false → (has_ended (old.talks call) ≡ false) × ((place : ℕ) → AddsOthers call place old new)
before_all setup numbers call done [] [] old new sound are not =
    (ap (λ (h : Holding). has_ended (h.talks call)) are ∙ not, λ place. adds_none call place old new (ap (λ (h : Holding). returns_of (slice_index_or h.lists place [])) (sym are)))
before_all setup numbers call done [] (refusal ∷ refusals) old new sound are not = absurd are
before_all setup numbers call done (post ∷ posts) [] old new sound are not = absurd are
before_all setup numbers call done (post ∷ posts) (refusal ∷ refusals) old new sound are not =
    let rest = before_all setup numbers call (done ++ post ∷ []) posts refusals are.0 new (once_sound setup numbers done post refusal old are.0 sound are.1) are.2 not in
    let once =
    before_by setup numbers done post call (verdict_on setup old.talks post.number post.at post.body) old are.0 are.1.answer sound (means_on setup old.talks post.number post.at post.body)
    are.1.handled.done rest.0 in
    (once.0, λ place. adds_both call place old are.0 new (once.1 place) (rest.1 place))

-- ---- once its dialogue is through

after_talk : (numbers : List ℕ) (call its at : ℕ) (first : Says × Phase) (old new : Holding) (t : AnswerView) (b : Bool) → (call == its) ≡ b → at < length old.lists → IsAbout its first.1
    → SaysOf its first.0 → (call ≡ its → IsOver first) → IsTalked numbers its at first old new t → has_ended (old.talks call) ≡ true
    → (has_ended (new.talks call) ≡ true) × ((place : ℕ) → AddsOthers call place old new)
after_talk numbers call its at first old new t true same within about says over is ended =
    let now = over (same_number call its same) in
    let none : is.gots ≡ [] = nothing_asked first is.gots now.0 is.asked in
    let still : is_through is.phase ≡ true = ap (λ (p : Says × Phase). is_through p.1) (sym is.talk) ∙ through_still first is.gots now.1 in (
      ap has_ended (talks_now call its at true numbers first old new t same is) ∙ still,
      λ place. talk_adds_none numbers call its at place first old new t within is (ap (λ gots. returns_of (entries_of (slice_index_or numbers at 0) first gots)) none),
    )
after_talk numbers call its at first old new t false same within about says over is ended =
    (ap has_ended (talks_now call its at false numbers first old new t same is) ∙ ended, λ place. talk_others numbers call its at place first old new t same within about says is)

after_by : (setup : Setup) (numbers : List ℕ) (posts : List Post) (post : Post) (call : ℕ) (v : Verdict) (old new : Holding) (t : AnswerView) → IsSoundHolding (keys_of setup.accounts) posts old
    → Means setup old.talks post.number post.at post.body v → IsDone setup numbers post.at v old new t → has_ended (old.talks call) ≡ true
    → (has_ended (new.talks call) ≡ true) × ((place : ℕ) → AddsOthers call place old new)
after_by setup numbers posts post call Strays old new t sound m done ended = (ap has_ended (done.talks call) ∙ ended, λ place. adds_none call place old new (rw done.lists refl))
after_by setup numbers posts post call Rejects old new t sound m done ended = (ap has_ended (done.talks call) ∙ ended, λ place. adds_none call place old new (rw done.lists refl))
after_by setup numbers posts post call (Recharges there amount until) old new t sound m done ended =
    (ap has_ended (done.talks call) ∙ ended, λ place. recharge_adds setup numbers posts post call there amount until old new t place sound m done)
after_by setup numbers posts post call (Begins its at called) old new t sound m done ended =
    let wanted : ℕ = setup.service.wanted in
    let least : ℕ = setup.service.least in
    let P : ℕ → Type 0 = λ c. has_ended (old.talks c) ≡ true in
    after_talk numbers call its at (on_begin its post.at wanted least done.route) old new t (call == its) refl (place_within setup posts old at sound m.within)
    (begun_about its post.at wanted least done.route) (begun_says its post.at wanted least done.route)
    (λ same. let never : false ≡ true = ap has_ended (sym m.none) ∙ subst P same ended in absurd (cc)) done.talked ended
after_by setup numbers posts post call (GoesOn its at said phase) old new t sound m done ended =
    let own = own_of (length (keys_of setup.accounts)) posts its m.standing (old.talks its) m.stands (sound.talks its) in
    let P : Step → Type 0 = λ step. TakesTo its post.number m.message step in
    let takes : TakesTo its post.number m.message (Ok (said, phase)) = subst P m.takes (takes_answer its post.number post.at m.standing.phase m.message own.is.about) in
    let Q : ℕ → Type 0 = λ c. has_ended (old.talks c) ≡ true in
    after_talk numbers call its at (said, phase) old new t (call == its) refl (place_within setup posts old at sound (rw (← m.same, ← many_keys setup) own.is.placed)) takes.0 takes.1
    (λ same. let through : is_through m.standing.phase ≡ true = ap has_ended (sym m.stands) ∙ subst Q same ended in
    let over : StepIsOver (Ok (said, phase)) = subst StepIsOver m.takes (over_answer post.number post.at m.standing.phase m.message through) in over) done ended

after_all : (setup : Setup) (numbers : List ℕ) (call : ℕ) (done posts : List Post) (refusals : List (Option AccountFault)) (old new : Holding) (place : ℕ) → IsSoundHolding (keys_of setup.accounts) done old
    → AreHandled setup numbers posts refusals old new → has_ended (old.talks call) ≡ true → AddsOthers call place old new
after_all setup numbers call done [] [] old new place sound are ended = adds_none call place old new (ap (λ (h : Holding). returns_of (slice_index_or h.lists place [])) (sym are))
after_all setup numbers call done [] (refusal ∷ refusals) old new place sound are ended = absurd are
after_all setup numbers call done (post ∷ posts) [] old new place sound are ended = absurd are
after_all setup numbers call done (post ∷ posts) (refusal ∷ refusals) old new place sound are ended =
    let once =
    after_by setup numbers done post call (verdict_on setup old.talks post.number post.at post.body) old are.0 are.1.answer sound (means_on setup old.talks post.number post.at post.body)
    are.1.handled.done ended in
    adds_both call place old are.0 new (once.1 place)
    (after_all setup numbers call (done ++ post ∷ []) posts refusals are.0 new place (once_sound setup numbers done post refusal old are.0 sound are.1) are.2 once.0)

-- ---- a call that goes on

-- what follows when a message ends a call
pub sequel_to : SsfMsg → Sequel
sequel_to (msg.InitialDp other calling called) = phase.Nothing
sequel_to (msg.EventReport event leg mode) = going_on mode
sequel_to (msg.ChargingReport active info) = phase.Nothing
sequel_to msg.Ended = phase.Closes

pub gives_back : (t : Conditions) (number at : ℕ) (message : SsfMsg) → ends_call message ≡ true → on_message (Running t) number at message ≡ Ok (Asks (Returns t.call), Returning (sequel_to message))
unfolding sequel_to
gives_back t number at (msg.InitialDp other calling called) ends = absurd (cc)
gives_back t number at (msg.EventReport event.Answer leg mode) ends = absurd (cc)
gives_back t number at (msg.EventReport event leg mode) ends = refl
gives_back t number at (msg.ChargingReport active info) ends = absurd (cc)
gives_back t number at msg.Ended ends = refl

pub calls_are_returned : CallsAreReturned
calls_are_returned setup number before post lists old call place message is running body ends at =
    let numbers = seat_numbers number setup in
    let its : ℕ = running.terms.call in
    let to : Phase = Returning (sequel_to message) in
    let taken = taken_on setup number before post lists old call place message (Asks (Returns its)) to is running body (gives_back running.terms post.number post.at message ends) in
    let talk = taken.0.talk in
    let once = talk_returns_once (slice_index_or numbers place 0) its (sequel_to message) talk.phase talk.last talk.gots talk.asked talk.talk talk.rests (sym talk.refused ∙ is.handles.refused) in
    let gained =
    read_talked (λ (e : EntryData). returned_in e.asked) numbers call place at (Asks (Returns its), to) old is.between is.handles.answer taken.0.within talk
    ∙ ap (λ l. returns_of (slice_index_or old.lists at []) ++ (if at == place then l else [])) once in
    let still : is_through talk.phase ≡ true = ap (λ (p : Says × Phase). is_through p.1) (sym talk.talk) ∙ through_still (Asks (Returns its), to) talk.gots refl in
    let ended = ap has_ended (talks_now call call place true numbers (Asks (Returns its), to) old is.between is.handles.answer (is_itself call) talk) ∙ still in
    let earlier = (before_all setup numbers call [] before is.refused (at_first setup) old (first_sound setup) is.begins (ap has_ended running.is)).1 at in
    let later =
    after_all setup numbers call (before ++ post ∷ []) is.after is.refused_after is.between is.new at
    (once_sound setup numbers before post None old is.between taken.0.sound is.handles) is.ends ended in
    let first : returns_of (slice_index_or old.lists at []) ≡ earlier.more = earlier.is ∙ ap (λ mine. returns_of mine ++ earlier.more) (none_at_first setup.accounts at) in
    let P : ℕ → Type 0 = λ c. AreReturnedFor call (if at == place then c ∷ [] else []) (slice_index_or old.lists at []) (slice_index_or lists at []) in
    subst P taken.1
    (record {
      later = later.more;
      is =
          ap (λ all. returns_of (slice_index_or all at [])) (sym is.lists_are)
          ∙ (later.is ∙ ap (λ l. l ++ later.more) gained ∙ append_assoc (returns_of (slice_index_or old.lists at [])) (if at == place then its ∷ [] else []) later.more);
      none_earlier = rw first earlier.others;
      none_later = later.others;
    })
