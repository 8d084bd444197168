-- What one post does to a call: where the call goes on then, and what is entered of it.
use Rattle.std.proofs.Common.{All, ◌≡◌, ◌++◌, ◌∙◌, ℕ, Bool, true, false, Option, Some, None, Ok, Err, List, [], ◌∷◌, refl, sym, ap, subst, append-nil}
use Rattle.std.specs.Prelude.{◌==◌, flat_map, if◌then◌else◌, not, slice_index_or}
use Rattle.std.proofs.lemmas.Grind.{flat_map-append}
use Rattle.std.proofs.lemmas.Bool.{not_from_false}
use Rattle.account_core.specs.Entries.{EntryData}
use Rattle.account_core.specs.declared.entry.Reply.TheVariants.{Granted, Denied, Settled, Forfeit, Returned}
use Rattle.cap_values.specs.Orders.{Pay}
use Rattle.cap_values.specs.declared.message.SsfMsg.{SsfMsg}
use Rattle.cap_values.specs.declared.message.SsfMsg.TheVariants as msg
use Rattle.cap_values.specs.declared.mode.Mode.TheVariants.{Interrupted, NotifyAndContinue, Transparent}
use Rattle.dialogue_core.specs.Phases as phase
use Rattle.dialogue_core.specs.Phases.{Conditions, Phase, Says, Sequel, FirstAsk, Running, Settling, MoreAsk, Returning, Ending, Closed, Asks, Sends, Finished}
use Rattle.dialogue_core.specs.Rules.{Step, are_units, says_first_period, on_message, on_refusal, on_reply, sequel}
use Rattle.dialogue_core.specs.Talks.{Got, after_got, is_ask, or_done, orders_sent_by, talked}
use Rattle.dialogue_core.specs.declared.fault.DialogueFault.TheVariants.{Unexpected}
use Rattle.held_calls.proofs.Entries.{IsHonestEntry, grown_apart, talk_stands}
use Rattle.held_calls.proofs.Holding.{IsBound, IsSaid, IsUnmoved, SameEntries, apart_from, same_lists}
use Rattle.held_calls.proofs.Rules.{Awaits, Fits}
use Rattle.held_calls.specs.Going.{left_in, after_message, is_there, pays}
use Rattle.held_calls.specs.Held.{entries_at}
use Rattle.run_values.specs.Setups.{Setup}
use Rattle.account_core.specs.Own.{of_call}
use Rattle.account_core.specs.Prefixes.{IsPrefix}
use Rattle.runs_core.proofs.OwnCalls.{settled_by}
use Rattle.held_calls.proofs.Talked.{part_of_none, talk_settles}
use Rattle.held_calls.proofs.AtRest.{nothing_asked}
use Rattle.runs_core.proofs.Handling.{same_number}
use Rattle.held_calls.proofs.Sound.{is_itself}
use Rattle.held_calls.proofs.Through.{StepIsOver, is_through, over_answer}
use Rattle.runs_core.specs.Handled.{AnswerView, Holding, IsDone, IsTalked}
use Rattle.held_calls.specs.Workers.{ends_call}
use Rattle.runs_core.specs.Served.{IsPart, Report, report_in, returns_of, settles_of}
use Rattle.runs_core.specs.Talks.{AllAsk, entries_of}
use Rattle.runs_core.specs.Verdicts.{DialogueAt, Strays, goes_on}
use Rattle.runs_core.specs.Workers.{IsAbout}

-- ---- where a dialogue is

abbrev pub is_running : Phase → Bool
is_running (FirstAsk t) = false
is_running (Running t) = true
is_running (Settling t active since) = false
is_running (MoreAsk t) = false
is_running (Returning after) = false
is_running Ending = false
is_running Closed = false

abbrev pub stands_at : Option DialogueAt → Option ℕ
stands_at None = None
stands_at (Some standing) = if is_running standing.phase then Some standing.place else None

-- a dialogue asks for nothing more
abbrev pub has_passed : Option DialogueAt → Bool
has_passed None = false
has_passed (Some standing) = not (is_running standing.phase)

pub through_idle : (phase : Phase) → is_through phase ≡ true → is_running phase ≡ false
through_idle (FirstAsk t) through = refl
through_idle (Running t) through = absurd (cc)
through_idle (Settling t active since) through = refl
through_idle (MoreAsk t) through = refl
through_idle (Returning after) through = refl
through_idle Ending through = refl
through_idle Closed through = refl

awaits_idle : (phase : Phase) (asked : _) → Awaits phase asked → is_running phase ≡ false
awaits_idle (FirstAsk t) asked waits = refl
awaits_idle (Running t) asked waits = absurd waits
awaits_idle (Settling t active since) asked waits = refl
awaits_idle (MoreAsk t) asked waits = refl
awaits_idle (Returning after) asked waits = refl
awaits_idle Ending asked waits = refl
awaits_idle Closed asked waits = refl

fits_idle : (said : Says) (phase : Phase) → is_ask said ≡ true → Fits said phase → is_running phase ≡ false
fits_idle (Asks asked) phase pending fits = awaits_idle phase asked fits
fits_idle (Sends orders) phase pending fits = absurd (cc)
fits_idle Finished phase pending fits = absurd (cc)

-- ---- what a dialogue sends pays for a period just where it goes on then

abbrev pub PaysIfRunning : Says × Phase → Type 0
PaysIfRunning next = is_running next.1 ≡ pays (orders_sent_by next.0)

pays_after : (after : Sequel) → PaysIfRunning (sequel after)
pays_after phase.Nothing = refl
pays_after phase.Continues = refl
pays_after phase.Clears = refl
pays_after phase.Fails = refl
pays_after phase.Closes = refl

pays_first : (t : Conditions) (units : ℕ) (last b : Bool) → PaysIfRunning (or_done (FirstAsk t) (if b then Ok (says_first_period t units last, Running t) else Err Unexpected))
pays_first t units last true = refl
pays_first t units last false = refl

pays_further : (t : Conditions) (units : ℕ) (last b : Bool) → PaysIfRunning (or_done (MoreAsk t) (if b then Ok (Sends (Pay units None last ∷ []), Running t) else Err Unexpected))
pays_further t units last true = refl
pays_further t units last false = refl

pays_reply : (phase : Phase) (reply : _) → is_running phase ≡ false → PaysIfRunning (or_done phase (on_reply phase reply))
pays_reply (FirstAsk t) (Granted units last a) idle = pays_first t units last (are_units units)
pays_reply (FirstAsk t) (Denied a) idle = refl
pays_reply (FirstAsk t) reply idle = refl
pays_reply (Running t) reply idle = absurd (cc)
pays_reply (Settling t true since) (Settled p a) idle = refl
pays_reply (Settling t true since) (Forfeit p a) idle = refl
pays_reply (Settling t true since) reply idle = refl
pays_reply (Settling t false since) (Settled p a) idle = refl
pays_reply (Settling t false since) (Forfeit p a) idle = refl
pays_reply (Settling t false since) reply idle = refl
pays_reply (MoreAsk t) (Granted units last a) idle = pays_further t units last (are_units units)
pays_reply (MoreAsk t) (Denied a) idle = refl
pays_reply (MoreAsk t) reply idle = refl
pays_reply (Returning after) (Returned p a) idle = pays_after after
pays_reply (Returning after) reply idle = refl
pays_reply Ending reply idle = refl
pays_reply Closed reply idle = refl

pays_refusal : (phase : Phase) → is_running phase ≡ false → PaysIfRunning (or_done phase (on_refusal phase))
pays_refusal (FirstAsk t) idle = refl
pays_refusal (Running t) idle = absurd (cc)
pays_refusal (Settling t true since) idle = refl
pays_refusal (Settling t false since) idle = refl
pays_refusal (MoreAsk t) idle = refl
pays_refusal (Returning after) idle = pays_after after
pays_refusal Ending idle = refl
pays_refusal Closed idle = refl

pays_got : (phase : Phase) (got : Got) → is_running phase ≡ false → PaysIfRunning (after_got phase got)
pays_got phase (Ok reply) idle = pays_reply phase reply idle
pays_got phase (Err fault) idle = pays_refusal phase idle

-- ---- a talk of a call

ended_pays : (call seat at : ℕ) (lists : List (List EntryData)) (first : Says × Phase) (gots : List Got) → IsBound call at first lists → is_ask first.0 ≡ true → (last : Says) (phase : Phase)
    → AllAsk first gots → talked first gots ≡ (last, phase) → is_ask last ≡ false → PaysIfRunning (talked first gots)
ended_pays call seat at lists first [] bound pending last phase asked talk rests =
    let is : first.0 ≡ last = ap (λ (p : Says × Phase). p.0) talk in let never : true ≡ false = sym pending ∙ ap is_ask is ∙ rests in absurd (cc)
ended_pays call seat at lists first (got ∷ earlier) bound pending last phase asked talk rests =
    let stands = talk_stands call seat (slice_index_or lists at []) first earlier bound.about bound.says asked.1 bound.stands in
    pays_got (talked first earlier).1 got (fits_idle (talked first earlier).0 (talked first earlier).1 asked.0 stands.0)

-- a talk that begins with an ask sends what pays for a period just where the call goes on then
pub asked_pays : (numbers : List ℕ) (call at : ℕ) (first : Says × Phase) (old new : Holding) (answer : AnswerView) → IsBound call at first old.lists → is_ask first.0 ≡ true
    → (is : IsTalked numbers call at first old new answer) → is_running is.phase ≡ pays answer.orders
asked_pays numbers call at first old new answer bound pending is =
    let ended = ended_pays call (slice_index_or numbers at 0) at old.lists first is.gots bound pending is.last is.phase is.asked is.talk is.rests in
    subst PaysIfRunning is.talk ended ∙ ap pays (sym is.orders)

-- what is read of its entries, by whether they are at this place
pub read_said : {A : Type 0} (f : EntryData → List A) (seat call at : ℕ) (first : Says × Phase) (gots : List Got) (old new : Holding) (phase : Phase) (place : ℕ) (b : Bool) → (place == at) ≡ b
    → IsSaid seat call at first gots old new phase
    → flat_map f (entries_at call new.lists place) ≡ flat_map f (entries_at call old.lists place) ++ (if b then flat_map f (entries_of seat first gots) else [])
read_said f seat call at first gots old new phase place true is said =
    subst (λ (p : ℕ). flat_map f (entries_at call new.lists p) ≡ flat_map f (entries_at call old.lists p) ++ flat_map f (entries_of seat first gots)) (sym (same_number place at is))
    (ap (flat_map f) said.own ∙ flat_map-append f (entries_at call old.lists at) (entries_of seat first gots))
read_said f seat call at first gots old new phase place false is said =
    ap (flat_map f) (said.elsewhere place (apart_from place at is)) ∙ sym (append-nil (flat_map f (entries_at call old.lists place)))

-- a talk that begins with no Settle has none
pub settles_none : (seat call : ℕ) (first : Says × Phase) (gots : List Got) → IsAbout call first.1 → settled_by first.0 ≡ [] → settles_of (entries_of seat first gots) ≡ []
settles_none seat call first gots about none =
    part_of_none (settles_of (entries_of seat first gots)) (subst (λ (l : List Report). IsPart (settles_of (entries_of seat first gots)) l) none (talk_settles seat call first gots about))

-- ---- what a message of a call does to it

pub record IsOwnStep (Closes : Type 0) (setup : Setup) (call number : ℕ) (message : SsfMsg) (found : Option DialogueAt) (old new : Holding) (answer : AnswerView) : Type 0 where
  pub goes : stands_at (new.talks call) ≡ after_message setup (pays answer.orders) (stands_at found) message
  pub settles : Closes → (place : ℕ)
      → settles_of (entries_at call new.lists place) ≡ settles_of (entries_at call old.lists place) ++ (if is_there (stands_at found) place then report_in number call message else [])
  pub passed : has_passed found ≡ true → SameEntries call old.lists new.lists × (has_passed (new.talks call) ≡ true)
  pub ends : Closes → ends_call message ≡ true → (there : ℕ) → stands_at found ≡ Some there
      → (has_passed (new.talks call) ≡ true) × ((place : ℕ) → returns_of (entries_at call new.lists place) ≡ (if place == there then call ∷ [] else []))
  pub grows : (place : ℕ) → IsPrefix (entries_at call old.lists place) (entries_at call new.lists place)
  pub returns : Closes → (place : ℕ) → All IsHonestEntry (entries_at call new.lists place)
      → returns_of (entries_at call new.lists place) ≡ returns_of (entries_at call old.lists place) ++ left_in call place (stands_at found) (stands_at (new.talks call))

-- where the entries of a call are the same
pub same_grows : (call : ℕ) (old new : Holding) → SameEntries call old.lists new.lists → (place : ℕ) → IsPrefix (entries_at call old.lists place) (entries_at call new.lists place)
same_grows call old new same place = record { rest = []; is = same place ∙ sym (append-nil (entries_at call old.lists place)) }

pub left_same : (call place : ℕ) (was now : Option ℕ) → now ≡ was → left_in call place was now ≡ []
left_same call place None now same = refl
left_same call place (Some there) None same = absurd (cc)
left_same call place (Some there) (Some now) same = refl

-- and it goes on as before
pub same_returns : (call : ℕ) (old new : Holding) (was now : Option ℕ) → SameEntries call old.lists new.lists → now ≡ was → (place : ℕ)
    → returns_of (entries_at call new.lists place) ≡ returns_of (entries_at call old.lists place) ++ left_in call place was now
same_returns call old new was now same is place =
    ap returns_of (same place) ∙ sym (append-nil (returns_of (entries_at call old.lists place)))
    ∙ ap (λ l. returns_of (entries_at call old.lists place) ++ l) (sym (left_same call place was now is))

-- after a talk of it
pub said_grows : (seat call at : ℕ) (first : Says × Phase) (gots : List Got) (old new : Holding) (phase : Phase) → IsSaid seat call at first gots old new phase → (place : ℕ) (b : Bool) → (place == at) ≡ b
    → IsPrefix (entries_at call old.lists place) (entries_at call new.lists place)
said_grows seat call at first gots old new phase said place true is =
    subst (λ (p : ℕ). IsPrefix (entries_at call old.lists p) (entries_at call new.lists p)) (sym (same_number place at is)) (record { rest = entries_of seat first gots; is = said.own })
said_grows seat call at first gots old new phase said place false is =
    record { rest = []; is = said.elsewhere place (apart_from place at is) ∙ sym (append-nil (entries_at call old.lists place)) }

pub none_either : {X : Type 0} (b : Bool) (none : List X) → none ≡ [] → (if b then none else []) ≡ []
none_either true none is = is
none_either false none is = refl

pub either_same : {X : Type 0} (b : Bool) (x : X) → (if b then x else x) ≡ x
either_same true x = refl
either_same false x = refl

-- it has no place, so nothing is done
pub stray_step : (Closes : Type 0) (setup : Setup) (call number : ℕ) (message : SsfMsg) (found : Option DialogueAt) (old new : Holding) (answer : AnswerView) → IsUnmoved call old new → old.talks call ≡ found
    → after_message setup (pays answer.orders) (stands_at found) message ≡ stands_at found
    → ((place : ℕ) → (if is_there (stands_at found) place then report_in number call message else []) ≡ []) → (ends_call message ≡ true → stands_at found ≡ None)
    → IsOwnStep Closes setup call number message found old new answer
stray_step Closes setup call number message found old new answer unmoved is same none idle = record {
  goes = ap stands_at (unmoved.1 ∙ is) ∙ sym same;
  settles = λ closes place.
      ap settles_of (unmoved.0 place) ∙ sym (append-nil (settles_of (entries_at call old.lists place)))
      ∙ ap (λ l. settles_of (entries_at call old.lists place) ++ l) (sym (none place));
  passed = λ was. (unmoved.0, ap has_passed (unmoved.1 ∙ is) ∙ was);
  ends = λ closes ended there stands. let never : None ≡ Some there = sym (idle ended) ∙ stands in absurd (cc);
  grows = same_grows call old new unmoved.0;
  returns = λ closes place honest. same_returns call old new (stands_at found) (stands_at (new.talks call)) unmoved.0 (ap stands_at (unmoved.1 ∙ is)) place;
}

-- a call that doesn't go on goes on no more after a message that isn't paid for
pub after_none : (setup : Setup) (paid : Bool) (message : SsfMsg) → paid ≡ false → after_message setup paid None message ≡ None
after_none setup true message is = absurd (cc)
after_none setup false (msg.InitialDp other calling called) is = refl
after_none setup false (msg.EventReport event leg mode) is = either_same (ends_call (msg.EventReport event leg mode)) None
after_none setup false (msg.ChargingReport active info) is = refl
after_none setup false msg.Ended is = refl

pub unasked_stray : (Closes : Type 0) (setup : Setup) (numbers : List ℕ) (at call number : ℕ) (message : SsfMsg) (found : Option DialogueAt) (old new : Holding) (answer : AnswerView) → stands_at found ≡ None
    → old.talks call ≡ found → IsDone setup numbers at Strays old new answer → IsOwnStep Closes setup call number message found old new answer
unasked_stray Closes setup numbers at call number message found old new answer idle is done =
    let same : after_message setup (pays answer.orders) (stands_at found) message ≡ stands_at found =
    ap (λ (was : Option ℕ). after_message setup (pays answer.orders) was message) idle ∙ after_none setup (pays answer.orders) message (ap pays done.orders_are) ∙ sym idle in
    stray_step Closes setup call number message found old new answer (same_lists call old new done.lists, done.talks call) is same
    (λ place. ap (λ (was : Option ℕ). if is_there was place then report_in number call message else []) idle) (λ ended. idle)

-- a dialogue that doesn't go on with its call asks for nothing more
pub idle_over : (number at : ℕ) (phase : Phase) (message : SsfMsg) → is_running phase ≡ false → StepIsOver (on_message phase number at message)
idle_over number at (FirstAsk t) message idle = tt
idle_over number at (Running t) message idle = absurd (cc)
idle_over number at (Settling t active since) message idle = tt
idle_over number at (MoreAsk t) message idle = tt
idle_over number at (Returning after) message idle = over_answer number at (Returning after) message refl
idle_over number at Ending message idle = over_answer number at Ending message refl
idle_over number at Closed message idle = over_answer number at Closed message refl

-- and pays for nothing
abbrev StepPaysNone : Step → Type 0
StepPaysNone (Ok next) = pays (orders_sent_by next.0) ≡ false
StepPaysNone (Err fault) = Unit {0}

pub idle_pays : (number at : ℕ) (phase : Phase) (message : SsfMsg) → is_running phase ≡ false → StepPaysNone (on_message phase number at message)
idle_pays number at (FirstAsk t) message idle = tt
idle_pays number at (Running t) message idle = absurd (cc)
idle_pays number at (Settling t active since) message idle = tt
idle_pays number at (MoreAsk t) message idle = tt
idle_pays number at (Returning after) message idle = tt
idle_pays number at Ending (msg.InitialDp other calling called) idle = tt
idle_pays number at Ending (msg.EventReport event leg Interrupted) idle = refl
idle_pays number at Ending (msg.EventReport event leg NotifyAndContinue) idle = refl
idle_pays number at Ending (msg.EventReport event leg Transparent) idle = refl
idle_pays number at Ending (msg.ChargingReport active info) idle = tt
idle_pays number at Ending msg.Ended idle = refl
idle_pays number at Closed message idle = tt

pub idle_place : (phase : Phase) (place : ℕ) → is_running phase ≡ false → stands_at (Some (record { phase = phase; place = place })) ≡ None
idle_place phase place idle = ap (λ (b : Bool). if b then Some place else None) idle

-- a talk that has asked for nothing
pub record IsIdleTalk (numbers : List ℕ) (call at : ℕ) (first : Says × Phase) (old new : Holding) (answer : AnswerView) : Type 0 where
  pub same : SameEntries call old.lists new.lists
  pub now : new.talks call ≡ Some (record { phase = first.1; place = at })
  pub orders : answer.orders ≡ orders_sent_by first.0

pub idle_talk : (numbers : List ℕ) (call at : ℕ) (first : Says × Phase) (old new : Holding) (answer : AnswerView) → is_ask first.0 ≡ false → IsTalked numbers call at first old new answer
    → IsIdleTalk numbers call at first old new answer
idle_talk numbers call at first old new answer rests is =
    let none : is.gots ≡ [] = nothing_asked first is.gots rests is.asked in
    let first_is : first ≡ (is.last, is.phase) = subst (λ (gots : List Got). talked first gots ≡ (is.last, is.phase)) none is.talk in
    let seat : ℕ = slice_index_or numbers at 0 in
    record {
      same = λ place.
          ap (λ (lists : List (List EntryData)). entries_at call lists place) is.lists
          ∙ grown_apart call at (entries_of seat first is.gots) old.lists place (ap (λ (gots : List Got). of_call call (entries_of seat first gots)) none);
      now = is.talks call ∙ ap (λ (b : Bool). if b then Some (record { phase = is.phase; place = at }) else old.talks call) (is_itself call)
          ∙ ap (λ (p : Says × Phase). Some (record { phase = p.1; place = at })) (sym first_is);
      orders = is.orders ∙ ap (λ (p : Says × Phase). orders_sent_by p.0) (sym first_is);
    }

pub idle_step : (Closes : Type 0) (setup : Setup) (numbers : List ℕ) (at call number : ℕ) (message : SsfMsg) (phase : Phase) (place : ℕ) (step : Step) (old new : Holding) (answer : AnswerView) → is_running phase ≡ false
    → StepIsOver step → StepPaysNone step → old.talks call ≡ Some (record { phase = phase; place = place })
    → IsDone setup numbers at (goes_on call place step) old new answer → IsOwnStep Closes setup call number message (Some (record { phase = phase; place = place })) old new answer
idle_step Closes setup numbers at call number message phase place (Err fault) old new answer idle over free is done =
    unasked_stray Closes setup numbers at call number message (Some (record { phase = phase; place = place })) old new answer (idle_place phase place idle) is done
idle_step Closes setup numbers at call number message phase place (Ok next) old new answer idle over free is done =
    let talk = idle_talk numbers call place next old new answer over.0 done in
    let none = idle_place phase place idle in
    let later : is_running next.1 ≡ false = through_idle next.1 over.1 in
    record {
      goes = ap stands_at talk.now ∙ idle_place next.1 place later ∙ sym (after_none setup (pays answer.orders) message (ap pays talk.orders ∙ free))
          ∙ ap (λ (was : Option ℕ). after_message setup (pays answer.orders) was message) (sym none);
      settles = λ closes place'.
          ap settles_of (talk.same place') ∙ sym (append-nil (settles_of (entries_at call old.lists place')))
          ∙ ap (λ (was : Option ℕ). settles_of (entries_at call old.lists place') ++ (if is_there was place' then report_in number call message else [])) (sym none);
      passed = λ was. (talk.same, ap has_passed talk.now ∙ not_from_false (is_running next.1) later);
      ends = λ closes ended there stands. let never : None ≡ Some there = sym none ∙ stands in absurd (cc);
      grows = same_grows call old new talk.same;
      returns = λ closes p honest.
          same_returns call old new (stands_at (Some (record { phase = phase; place = place }))) (stands_at (new.talks call)) talk.same
          (ap stands_at talk.now ∙ idle_place next.1 place later ∙ sym none) p;
    }
