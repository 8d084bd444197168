-- What a call is owed is entered, so a report of it is settled, and once it is ended it is returned.
use Rattle.std.proofs.Common.{◌≡◌, ◌<◌, ◌++◌, ◌∙◌, ℕ, Bool, true, false, Option, Some, Ok, Err, List, [], ◌∷◌, length, refl, sym, ap, subst, append-nil}
use Rattle.std.specs.Map.{keys_of}
use Rattle.std.specs.Prelude.{◌==◌, if◌then◌else◌, reverse, slice_index_or}
use Rattle.std.proofs.lemmas.Grind.{flat_map-append}
use Rattle.account_core.specs.Asked.{Asked, Returns, Settles}
use Rattle.account_core.specs.Entries.{EntryData}
use Rattle.account_core.specs.Places.{IsOwed}
use Rattle.account_core.specs.declared.entry.Reply.TheVariants.{Returned}
use Rattle.account_core.specs.declared.fault.AccountFault.{AccountFault}
use Rattle.cap_values.specs.declared.message.SsfMsg.{SsfMsg}
use Rattle.cap_values.specs.declared.message.SsfMsg.TheVariants as msg
use Rattle.dialogue_core.specs.Phases as phase
use Rattle.dialogue_core.specs.Phases.{Phase, Says, Sequel, Running, Settling, Returning, Asks}
use Rattle.dialogue_core.specs.Rules.{on_message}
use Rattle.dialogue_core.specs.Talks.{Got, after_got, is_ask, talked}
use Rattle.held_calls.proofs.Holding.{AreKept, IsKept, first_kept, kept_all}
use Rattle.held_calls.specs.Laws.{EndedCallsAreReturned, IsAnsweredNext, TakenReportsAreSettled}
use Rattle.run_values.specs.Setups.{Setup}
use Rattle.run_values.specs.declared.post.Body.TheVariants.{Ssf}
use Rattle.run_values.specs.declared.post.Post.{Post}
use Rattle.price_core.specs.declared.times.TimeInfo.{TimeInfo}
use Rattle.runs_core.proofs.OwnCalls.{kept_got, talked_about}
use Rattle.held_calls.proofs.Talked.{no_settle}
use Rattle.held_calls.proofs.Chaining.{all_sound, first_sound, handled_so}
use Rattle.held_calls.proofs.Growing.{place_within, read_talked}
use Rattle.held_calls.proofs.Sound.{many_keys, own_of}
use Rattle.held_calls.proofs.ReturnedOnce.{gives_back, sequel_to}
use Rattle.runs_core.specs.Chains.{at_first, refusals_in, seat_numbers}
use Rattle.runs_core.specs.Handled.{AnswerView, AreRefusedRightly, Holding, IsDone, IsRightlyHandled, IsTalked}
use Rattle.held_calls.specs.Workers.{IsRunning, ends_call}
use Rattle.held_calls.specs.Owed.{NeverRefusesOwed}
use Rattle.runs_core.specs.Served.{returned_in, settled_in, settles_of, returns_of}
use Rattle.runs_core.specs.Talks.{AllAsk, AreRightlyGot, Showing, entries_of, entry_of}
use Rattle.runs_core.specs.Verdicts.{DialogueAt, Verdict, GoesOn, goes_on, spoken, verdict_on}
use Rattle.runs_core.specs.Workers.{IsAbout}
use Rattle.held_calls.specs.Sound.{IsSoundHolding}

-- ---- what a talk asks first got a reply

abbrev pub IsAnsweredFirst : List Got → Type 0
IsAnsweredFirst [] = Unit {0}
IsAnsweredFirst (Ok reply ∷ []) = Unit {0}
IsAnsweredFirst (Err fault ∷ []) = ⊥
IsAnsweredFirst (got ∷ (last ∷ earlier)) = IsAnsweredFirst (last ∷ earlier)

-- where its refusal can't be shown
pub answered_first : (Shows : Showing) (seat : ℕ) (asked : Asked) (to : Phase) (before : List EntryData) (gots : List Got) → AreRightlyGot Shows seat (Asks asked, to) before gots
    → ((why : AccountFault) → Shows before asked why → ⊥) → IsAnsweredFirst gots
answered_first Shows seat asked to before [] right never = tt
answered_first Shows seat asked to before (Ok reply ∷ []) right never = tt
answered_first Shows seat asked to before (Err fault ∷ []) right never =
    never fault (subst (λ (mine : List EntryData). Shows mine asked fault) (append-nil before) right.0)
answered_first Shows seat asked to before (got ∷ (last ∷ earlier)) right never = answered_first Shows seat asked to before (last ∷ earlier) right.1 never

-- ---- a Settle

settles_once : (seat call number : ℕ) (info : TimeInfo) (to : Phase) (got : Got) (earlier : List Got) → IsAbout call to → IsAnsweredFirst (got ∷ earlier)
    → settles_of (entries_of seat (Asks (Settles call number info), to) (got ∷ earlier)) ≡ (number, call, info) ∷ []
settles_once seat call number info to (Ok reply) [] about first = refl
settles_once seat call number info to (Err fault) [] about first = absurd first
settles_once seat call number info to got (last ∷ earlier) about first =
    let start : Says × Phase = (Asks (Settles call number info), to) in
    let before = entries_of seat start (last ∷ earlier) in
    let said : Says = (talked start (last ∷ earlier)).0 in
    flat_map-append (λ (e : EntryData). settled_in e.asked) before (entry_of seat said got)
    ∙ ap (λ l. settles_of before ++ l) (no_settle seat said got (kept_got call (talked start earlier).1 last (talked_about call start earlier about)).2) ∙ append-nil (settles_of before)
    ∙ settles_once seat call number info to last earlier about first

-- a talk that begins with a Settle which isn't refused has it, and no other one
pub talk_settles_it : (seat call number : ℕ) (info : TimeInfo) (to phase : Phase) (last : Says) (gots : List Got) → IsAbout call to → talked (Asks (Settles call number info), to) gots ≡ (last, phase)
    → is_ask last ≡ false → IsAnsweredFirst gots → settles_of (entries_of seat (Asks (Settles call number info), to) gots) ≡ (number, call, info) ∷ []
talk_settles_it seat call number info to phase last [] about talk rests first =
    let is : Asks (Settles call number info) ≡ last = ap (λ (p : Says × Phase). p.0) talk in let never : true ≡ false = ap is_ask is ∙ rests in absurd (cc)
talk_settles_it seat call number info to phase last (got ∷ earlier) about talk rests first = settles_once seat call number info to got earlier about first

-- ---- a Return

-- nothing is asked after it
rests_after : (after : Sequel) (got : Got) → is_ask (after_got (Returning after) got).0 ≡ false
rests_after phase.Nothing (Ok (Returned p a)) = refl
rests_after phase.Continues (Ok (Returned p a)) = refl
rests_after phase.Clears (Ok (Returned p a)) = refl
rests_after phase.Fails (Ok (Returned p a)) = refl
rests_after phase.Closes (Ok (Returned p a)) = refl
rests_after after (Ok reply) = refl
rests_after phase.Nothing (Err fault) = refl
rests_after phase.Continues (Err fault) = refl
rests_after phase.Clears (Err fault) = refl
rests_after phase.Fails (Err fault) = refl
rests_after phase.Closes (Err fault) = refl

-- where nothing is asked after what is asked first, that alone got anything
pub one_got : (first : Says × Phase) → ((got : Got) → is_ask (after_got first.1 got).0 ≡ false) → (got : Got) (earlier : List Got) → AllAsk first (got ∷ earlier) → earlier ≡ []
one_got first rests got [] asked = refl
one_got first rests got (last ∷ earlier) asked =
    let none : earlier ≡ [] = one_got first rests last earlier asked.1 in
    let pending : is_ask (talked first (last ∷ [])).0 ≡ true = subst (λ (l : List Got). is_ask (talked first (last ∷ l)).0 ≡ true) none asked.0 in
    let over = rests last in absurd (cc)

returned_once : (seat call : ℕ) (after : Sequel) (got : Got) → IsAnsweredFirst (got ∷ []) → returns_of (entries_of seat (Asks (Returns call), Returning after) (got ∷ [])) ≡ call ∷ []
returned_once seat call after (Ok reply) first = refl
returned_once seat call after (Err fault) first = absurd first

-- a talk that begins with a Return which isn't refused has it alone
pub talk_returns_it : (seat call : ℕ) (after : Sequel) (phase : Phase) (last : Says) (gots : List Got) → AllAsk (Asks (Returns call), Returning after) gots
    → talked (Asks (Returns call), Returning after) gots ≡ (last, phase) → is_ask last ≡ false → IsAnsweredFirst gots
    → returns_of (entries_of seat (Asks (Returns call), Returning after) gots) ≡ call ∷ []
talk_returns_it seat call after phase last [] asked talk rests first =
    let is : Asks (Returns call) ≡ last = ap (λ (p : Says × Phase). p.0) talk in let never : true ≡ false = ap is_ask is ∙ rests in absurd (cc)
talk_returns_it seat call after phase last (got ∷ earlier) asked talk rests first =
    let none : earlier ≡ [] = one_got (Asks (Returns call), Returning after) (rests_after after) got earlier asked in
    subst (λ (l : List Got). returns_of (entries_of seat (Asks (Returns call), Returning after) (got ∷ l)) ≡ call ∷ []) (sym none)
    (returned_once seat call after got (subst (λ (l : List Got). IsAnsweredFirst (got ∷ l)) none first))

-- ---- a call that goes on takes a message

pub record IsTakenOnce (Shows : ℕ → Showing) (numbers : List ℕ) (call place : ℕ) (said : Says) (to : Phase) (old new : Holding) (answer : AnswerView) : Type 0 where
  pub within : place < length old.lists
  pub kept : IsKept old.lists call (old.talks call)
  pub talk : IsTalked numbers call place (said, to) old new answer
  pub right : AreRightlyGot (Shows place) (slice_index_or numbers place 0) (said, to) (slice_index_or old.lists place []) talk.gots

abbrev IsDoneRightly : (ℕ → Showing) → Setup → List ℕ → ℕ → Holding → Holding → AnswerView → Verdict → Type 0
IsDoneRightly Shows setup numbers at old new answer v = (done : IsDone setup numbers at v old new answer) × AreRefusedRightly Shows setup numbers at v old new answer done

pub its_call : (setup : Setup) (posts : List Post) (old : Holding) (call place : ℕ) → IsSoundHolding (keys_of setup.accounts) posts old → (running : IsRunning old call place) → running.terms.call ≡ call
its_call setup posts old call place sound running =
    (own_of (length (keys_of setup.accounts)) posts call (record { phase = Running running.terms; place = place }) (old.talks call) running.is (sound.talks call)).is.about

pub taken_once : (Shows : ℕ → Showing) (setup : Setup) (numbers : List ℕ) (posts : List Post) (post : Post) (old new : Holding) (answer : AnswerView) (call place : ℕ) (message : SsfMsg) (said : Says) (to : Phase)
    → IsSoundHolding (keys_of setup.accounts) posts old → AreKept old → IsRightlyHandled Shows setup numbers post old new answer → (running : IsRunning old call place) → post.body ≡ Ssf call message
    → on_message (Running running.terms) post.number post.at message ≡ Ok (said, to) → IsTakenOnce Shows numbers call place said to old new answer
taken_once Shows setup numbers posts post old new answer call place message said to sound kept is running body takes =
    let standing : DialogueAt = record { phase = Running running.terms; place = place } in
    let own = own_of (length (keys_of setup.accounts)) posts call standing (old.talks call) running.is (sound.talks call) in
    let verdict_is : verdict_on setup old.talks post.number post.at post.body ≡ GoesOn call place said to =
    ap (verdict_on setup old.talks post.number post.at) body ∙ ap (spoken setup post.number post.at call message) running.is ∙ ap (goes_on call place) takes in
    let done = subst (IsDoneRightly Shows setup numbers post.at old new answer) verdict_is (is.handled.done, is.right) in
    record {
      within = place_within setup posts old place sound (rw (← many_keys setup) own.is.placed);
      kept = kept call;
      talk = done.0;
      right = done.1;
    }

-- what is known of it
shown_of : (old : Holding) (call place : ℕ) (running : IsRunning old call place) → IsKept old.lists call (old.talks call)
    → IsKept old.lists call (Some (record { phase = Running running.terms; place = place }))
shown_of old call place running kept = subst (λ (found : Option DialogueAt). IsKept old.lists call found) running.is kept

-- a report of it
pub report_asked : (Shows : ℕ → Showing) (setup : Setup) (numbers : List ℕ) (posts : List Post) (post : Post) (old new : Holding) (answer : AnswerView) (call place : ℕ) (active : Bool) (info : TimeInfo)
    → IsSoundHolding (keys_of setup.accounts) posts old → AreKept old → IsRightlyHandled Shows setup numbers post old new answer → (running : IsRunning old call place)
    → post.body ≡ Ssf call (msg.ChargingReport active info)
    → IsTakenOnce Shows numbers call place (Asks (Settles call post.number info)) (Settling running.terms active post.at) old new answer
report_asked Shows setup numbers posts post old new answer call place active info sound kept is running body =
    taken_once Shows setup numbers posts post old new answer call place (msg.ChargingReport active info) (Asks (Settles call post.number info)) (Settling running.terms active post.at) sound kept is running
    body (ap (λ (c : ℕ). Ok (Asks (Settles c post.number info), Settling running.terms active post.at)) (its_call setup posts old call place sound running))

pub report_settled : (Shows : ℕ → Showing) (numbers : List ℕ) (call place number : ℕ) (active : Bool) (info : TimeInfo) (at : ℕ) (old new : Holding) (answer : AnswerView) → NeverRefusesOwed Shows call
    → (running : IsRunning old call place) → running.terms.call ≡ call
    → (taken : IsTakenOnce Shows numbers call place (Asks (Settles call number info)) (Settling running.terms active at) old new answer)
    → settles_of (entries_of (slice_index_or numbers place 0) (Asks (Settles call number info), Settling running.terms active at) taken.talk.gots) ≡ (number, call, info) ∷ []
report_settled Shows numbers call place number active info at old new answer never running about taken =
    let asked : Asked = Settles call number info in
    let to : Phase = Settling running.terms active at in
    let mine = slice_index_or old.lists place [] in
    let is_owed : IsOwed (reverse mine) asked = (shown_of old call place running taken.kept).0.shown in
    let first = answered_first (Shows place) (slice_index_or numbers place 0) asked to mine taken.talk.gots taken.right (λ why shows. never place mine asked why refl is_owed shows) in
    talk_settles_it (slice_index_or numbers place 0) call number info to taken.talk.phase taken.talk.last taken.talk.gots about taken.talk.talk taken.talk.rests first

-- a message that ends it
pub ending_asked : (Shows : ℕ → Showing) (setup : Setup) (numbers : List ℕ) (posts : List Post) (post : Post) (old new : Holding) (answer : AnswerView) (call place : ℕ) (message : SsfMsg)
    → IsSoundHolding (keys_of setup.accounts) posts old → AreKept old → IsRightlyHandled Shows setup numbers post old new answer → IsRunning old call place → post.body ≡ Ssf call message
    → ends_call message ≡ true → IsTakenOnce Shows numbers call place (Asks (Returns call)) (Returning (sequel_to message)) old new answer
ending_asked Shows setup numbers posts post old new answer call place message sound kept is running body ends =
    let to : Phase = Returning (sequel_to message) in
    taken_once Shows setup numbers posts post old new answer call place message (Asks (Returns call)) to sound kept is running body
    (gives_back running.terms post.number post.at message ends ∙ ap (λ (c : ℕ). Ok (Asks (Returns c), to)) (its_call setup posts old call place sound running))

pub ending_returned : (Shows : ℕ → Showing) (numbers : List ℕ) (call place : ℕ) (message : SsfMsg) (old new : Holding) (answer : AnswerView) → NeverRefusesOwed Shows call → IsRunning old call place
    → (taken : IsTakenOnce Shows numbers call place (Asks (Returns call)) (Returning (sequel_to message)) old new answer)
    → returns_of (entries_of (slice_index_or numbers place 0) (Asks (Returns call), Returning (sequel_to message)) taken.talk.gots) ≡ call ∷ []
ending_returned Shows numbers call place message old new answer never running taken =
    let to : Phase = Returning (sequel_to message) in
    let mine = slice_index_or old.lists place [] in
    let is_owed : IsOwed (reverse mine) (Returns call) = (shown_of old call place running taken.kept).0.shown.0 in
    let first = answered_first (Shows place) (slice_index_or numbers place 0) (Returns call) to mine taken.talk.gots taken.right
    (λ why shows. never place mine (Returns call) why refl is_owed shows) in
    talk_returns_it (slice_index_or numbers place 0) call (sequel_to message) taken.talk.phase taken.talk.last taken.talk.gots taken.talk.asked taken.talk.talk taken.talk.rests first

-- ---- the laws of a worker

record IsInOrder (setup : Setup) (before : List Post) (old : Holding) : Type 0 where
  sound : IsSoundHolding (keys_of setup.accounts) before old
  kept : AreKept old

in_order : (Shows : ℕ → Showing) (setup : Setup) (number : ℕ) (before : List Post) (post : Post) (old new : Holding) → IsAnsweredNext Shows setup number before post old new → IsInOrder setup before old
in_order Shows setup number before post old new is =
    let numbers = seat_numbers number setup in
    let handled = handled_so Shows setup numbers before is.answers (at_first setup) old is.begins in
    record {
      sound = all_sound setup numbers [] before (refusals_in is.answers) (at_first setup) old (first_sound setup) handled;
      kept = kept_all setup numbers [] before (refusals_in is.answers) (at_first setup) old (first_sound setup) (first_kept setup) handled;
    }

pub taken_settled : (Shows : ℕ → Showing) → TakenReportsAreSettled Shows
taken_settled Shows setup number before post old new call place active info never is running body at =
    let numbers = seat_numbers number setup in
    let so = in_order Shows setup number before post old new is in
    let taken = report_asked Shows setup numbers before post old new is.answer call place active info so.sound so.kept is.handles running body in
    let settled = report_settled Shows numbers call place post.number active info post.at old new is.answer never running (its_call setup before old call place so.sound running) taken in
    read_talked (λ (e : EntryData). settled_in e.asked) numbers call place at (Asks (Settles call post.number info), Settling running.terms active post.at) old new is.answer taken.within taken.talk
    ∙ ap (λ l. settles_of (slice_index_or old.lists at []) ++ (if at == place then l else [])) settled

pub ended_returned : (Shows : ℕ → Showing) → EndedCallsAreReturned Shows
ended_returned Shows setup number before post old new call place message never is running body ends at =
    let numbers = seat_numbers number setup in
    let so = in_order Shows setup number before post old new is in
    let taken = ending_asked Shows setup numbers before post old new is.answer call place message so.sound so.kept is.handles running body ends in
    let returned = ending_returned Shows numbers call place message old new is.answer never running taken in
    read_talked (λ (e : EntryData). returned_in e.asked) numbers call place at (Asks (Returns call), Returning (sequel_to message)) old new is.answer taken.within taken.talk
    ∙ ap (λ l. returns_of (slice_index_or old.lists at []) ++ (if at == place then l else [])) returned
