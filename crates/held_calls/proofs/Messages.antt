-- What a message of a call does to it, by where its dialogue is.
use Rattle.std.proofs.Common.{All, ◌≡◌, ◌<◌, ◌++◌, ◌∙◌, ℕ, Bool, true, false, Option, Some, None, Ok, Err, List, [], ◌∷◌, length, refl, sym, ap, subst, append-nil}
use Rattle.std.specs.Map.{keys_of}
use Rattle.std.specs.Prelude.{◌==◌, if◌then◌else◌, slice_index_or}
use Rattle.std.proofs.lemmas.Bool.{not_from_false}
use Rattle.account_core.specs.Asked.{Returns, Settles}
use Rattle.account_core.specs.Entries.{EntryData}
use Rattle.account_core.specs.declared.entry.Reply.TheVariants.{Granted, Denied}
use Rattle.cap_values.specs.Orders.{Order, Release}
use Rattle.cap_values.specs.declared.event.Event.TheVariants as event
use Rattle.cap_values.specs.declared.message.SsfMsg.{SsfMsg}
use Rattle.cap_values.specs.declared.message.SsfMsg.TheVariants as msg
use Rattle.dialogue_core.specs.Phases.{Conditions, Phase, Says, FirstAsk, Running, Settling, MoreAsk, Returning, Ending, Closed, Asks, Sends}
use Rattle.dialogue_core.specs.Rules.{are_units, conditions, says_first_period, on_begin, on_message}
use Rattle.dialogue_core.specs.Talks.{Got, after_got, is_ask, or_done, orders_sent_by, talked}
use Rattle.dialogue_core.specs.declared.fault.DialogueFault.TheVariants.{Unexpected}
use Rattle.held_calls.proofs.Closing.{one_got, ending_asked, ending_returned, its_call, report_asked, report_settled}
use Rattle.held_calls.proofs.ReturnedOnce.{sequel_to}
use Rattle.held_calls.proofs.Entries.{IsHonestEntry}
use Rattle.held_calls.proofs.Holding.{AreKept, IsBound, IsKept, apart_from, begins_bound, goes_bound, same_lists, talk_said}
use Rattle.held_calls.proofs.Leaving.{talk_leaves}
use Rattle.held_calls.proofs.Steps.{same_grows, same_returns, said_grows, IsOwnStep, asked_pays, has_passed, idle_over, idle_pays, idle_place, idle_step, idle_talk, is_running, none_either, read_said, settles_none, stands_at, stray_step, through_idle, unasked_stray}
use Rattle.held_calls.specs.Going.{after_message, pays, left_in}
use Rattle.held_calls.specs.Held.{entries_at}
use Rattle.run_values.specs.Setups.{Setup, account_of}
use Rattle.run_values.specs.declared.post.Body.{Body}
use Rattle.run_values.specs.declared.post.Body.TheVariants.{Ssf}
use Rattle.run_values.specs.declared.post.Post.{Post}
use Rattle.held_calls.proofs.Listed.{all_later}
use Rattle.price_core.specs.declared.route.Route.{Route}
use Rattle.held_calls.proofs.Talked.{begun_settles}
use Rattle.held_calls.proofs.AtRest.{nothing_asked}
use Rattle.held_calls.proofs.Growing.{place_within}
use Rattle.runs_core.proofs.Handling.{home_within, same_number}
use Rattle.held_calls.proofs.Through.{is_through, returns_none, through_still}
use Rattle.runs_core.specs.Handled.{AnswerView, Holding, IsDone, IsRightlyHandled, IsTalked}
use Rattle.held_calls.specs.Workers.{IsRunning, ends_call}
use Rattle.held_calls.specs.Owed.{NeverRefusesOwed}
use Rattle.runs_core.specs.Served.{report_in, returned_in, returns_of, settled_in, settles_of}
use Rattle.runs_core.specs.Talks.{AllAsk, Showing, entries_of}
use Rattle.runs_core.specs.Verdicts.{DialogueAt, begins, fresh_call, goes_on, home_of, spoken, verdict_on}
use Rattle.held_calls.specs.Sound.{IsSoundHolding}

-- ---- the first message of a call

begun_goes : (setup : Setup) (numbers : List ℕ) (at call place : ℕ) (route : Option Route) (old new : Holding) (answer : AnswerView)
    → IsBound call place (on_begin call at setup.service.wanted setup.service.least route) old.lists
    → (is : IsTalked numbers call place (on_begin call at setup.service.wanted setup.service.least route) old new answer)
    → stands_at (Some (record { phase = is.phase; place = place })) ≡ (if pays answer.orders then Some place else None)
begun_goes setup numbers at call place None old new answer bound is =
    let first : Says × Phase = (Sends (Release 1 ∷ []), Ending) in
    let none : is.gots ≡ [] = nothing_asked first is.gots refl is.asked in
    let first_is : first ≡ (is.last, is.phase) = subst (λ (gots : List Got). talked first gots ≡ (is.last, is.phase)) none is.talk in
    ap (λ (p : Says × Phase). stands_at (Some (record { phase = p.1; place = place }))) (sym first_is)
    ∙ ap (λ (p : Says × Phase). if pays (orders_sent_by p.0) then Some place else None) first_is ∙ ap (λ (orders : List Order). if pays orders then Some place else None) (sym is.orders)
begun_goes setup numbers at call place (Some route) old new answer bound is =
    ap (λ (b : Bool). if b then Some place else None)
    (asked_pays numbers call place (on_begin call at setup.service.wanted setup.service.least (Some route)) old new answer bound refl is)

-- it has no Return
rests_granted : (t : Conditions) (units : ℕ) (last b : Bool) → is_ask (or_done (FirstAsk t) (if b then Ok (says_first_period t units last, Running t) else Err Unexpected)).0 ≡ false
rests_granted t units last true = refl
rests_granted t units last false = refl

rests_first : (t : Conditions) (got : Got) → is_ask (after_got (FirstAsk t) got).0 ≡ false
rests_first t (Ok (Granted units last a)) = rests_granted t units last (are_units units)
rests_first t (Ok (Denied a)) = refl
rests_first t (Ok reply) = refl
rests_first t (Err fault) = refl

begun_returns : (seat call now wanted least : ℕ) (route : Option Route) (gots : List Got) → AllAsk (on_begin call now wanted least route) gots
    → returns_of (entries_of seat (on_begin call now wanted least route) gots) ≡ []
begun_returns seat call now wanted least None gots asked =
    ap (λ (g : List Got). returns_of (entries_of seat (on_begin call now wanted least None) g)) (nothing_asked (on_begin call now wanted least None) gots refl asked)
begun_returns seat call now wanted least (Some route) [] asked = refl
begun_returns seat call now wanted least (Some route) (Ok reply ∷ []) asked = refl
begun_returns seat call now wanted least (Some route) (Err fault ∷ []) asked = refl
begun_returns seat call now wanted least (Some route) (got ∷ (last ∷ earlier)) asked =
    let first = on_begin call now wanted least (Some route) in
    let none : last ∷ earlier ≡ [] = one_got first (rests_first (conditions call now wanted least route)) got (last ∷ earlier) asked in absurd (cc)

begun_step : (Closes : Type 0) (setup : Setup) (numbers : List ℕ) (number at call place : ℕ) (other : ℕ) (calling called : _) (route : Option Route) (old new : Holding) (answer : AnswerView) → place < length old.lists
    → old.talks call ≡ None → IsKept old.lists call None → home_of calling setup ≡ Some place
    → IsTalked numbers call place (on_begin call at setup.service.wanted setup.service.least route) old new answer
    → IsOwnStep Closes setup call number (msg.InitialDp other calling called) None old new answer
begun_step Closes setup numbers number at call place other calling called route old new answer within none kept home is =
    let first = on_begin call at setup.service.wanted setup.service.least route in
    let seat : ℕ = slice_index_or numbers place 0 in
    let bound = begins_bound old.lists call place at setup.service.wanted setup.service.least route kept.0 in
    let said = talk_said numbers call place first old new answer within bound.about bound.says is in
    record {
      goes = ap stands_at said.now ∙ begun_goes setup numbers at call place route old new answer bound is
          ∙ ap (λ (h : Option ℕ). if pays answer.orders then h else None) (sym home);
      settles = λ closes p.
          read_said (λ (e : EntryData). settled_in e.asked) seat call place first is.gots old new is.phase p (p == place) refl said
          ∙ ap (λ l. settles_of (entries_at call old.lists p) ++ l)
          (none_either (p == place) (settles_of (entries_of seat first is.gots))
          (settles_none seat call first is.gots bound.about (begun_settles call at setup.service.wanted setup.service.least route)));
      passed = λ was. absurd (cc);
      ends = λ closes ended there stands. absurd (cc);
      grows = λ p. said_grows seat call place first is.gots old new is.phase said p (p == place) refl;
      returns = λ closes p honest.
          read_said (λ (e : EntryData). returned_in e.asked) seat call place first is.gots old new is.phase p (p == place) refl said
          ∙ ap (λ l. returns_of (entries_at call old.lists p) ++ l)
          (none_either (p == place) (returns_of (entries_of seat first is.gots))
          (begun_returns seat call at setup.service.wanted setup.service.least route is.gots is.asked));
    }

own_begun : (Closes : Type 0) (setup : Setup) (numbers : List ℕ) (number at call : ℕ) (other : ℕ) (calling called : _) (home : Option ℕ) (old new : Holding) (answer : AnswerView)
    → ((place : ℕ) → place < length setup.accounts → place < length old.lists) → old.talks call ≡ None → IsKept old.lists call None → home_of calling setup ≡ home
    → IsDone setup numbers at (begins call called home) old new answer → IsOwnStep Closes setup call number (msg.InitialDp other calling called) None old new answer
own_begun Closes setup numbers number at call other calling called None old new answer within none kept home done =
    stray_step Closes setup call number (msg.InitialDp other calling called) None old new answer (same_lists call old new done.lists, done.talks call) none
    (ap (λ (orders : List Order). if pays orders then home_of calling setup else None) done.orders_are) (λ p. refl) (λ ended. refl)
own_begun Closes setup numbers number at call other calling called (Some place) old new answer within none kept home done =
    begun_step Closes setup numbers number at call place other calling called done.route old new answer (within place (home_within setup (account_of calling setup.subscribers) place home)) none kept home done.talked

own_fresh : (Closes : Type 0) (setup : Setup) (numbers : List ℕ) (number at call : ℕ) (message : SsfMsg) (old new : Holding) (answer : AnswerView)
    → ((place : ℕ) → place < length setup.accounts → place < length old.lists) → old.talks call ≡ None → IsKept old.lists call None
    → IsDone setup numbers at (fresh_call setup call message) old new answer → IsOwnStep Closes setup call number message None old new answer
own_fresh Closes setup numbers number at call (msg.InitialDp other calling called) old new answer within none kept done =
    own_begun Closes setup numbers number at call other calling called (home_of calling setup) old new answer within none kept refl done
own_fresh Closes setup numbers number at call (msg.EventReport event leg mode) old new answer within none kept done =
    unasked_stray Closes setup numbers at call number (msg.EventReport event leg mode) None old new answer refl none done
own_fresh Closes setup numbers number at call (msg.ChargingReport active info) old new answer within none kept done =
    unasked_stray Closes setup numbers at call number (msg.ChargingReport active info) None old new answer refl none done
own_fresh Closes setup numbers number at call msg.Ended old new answer within none kept done = unasked_stray Closes setup numbers at call number msg.Ended None old new answer refl none done

-- ---- a message of a call that goes on

not_through : (phase : Phase) → is_running phase ≡ true → is_through phase ≡ false
not_through (FirstAsk t) still = refl
not_through (Running t) still = refl
not_through (Settling t active since) still = refl
not_through (MoreAsk t) still = refl
not_through (Returning after) still = absurd (cc)
not_through Ending still = absurd (cc)
not_through Closed still = absurd (cc)

left_by : (call place p : ℕ) (here : Bool) → (p == place) ≡ here → (b : Bool) (returned : List ℕ) → (b ≡ true → returned ≡ []) → (here ≡ true → b ≡ false → returned ≡ call ∷ [])
    → (if p == place then returned else []) ≡ left_in call p (Some place) (if b then Some place else None)
left_by call place p here is true returned still over = none_either (p == place) returned (still refl)
left_by call place p true is false returned still over = ap (λ (l : List ℕ). if p == place then l else []) (over refl refl)
left_by call place p false is false returned still over = ap (λ (c : Bool). if c then returned else []) is ∙ sym (ap (λ (c : Bool). if c then call ∷ [] else []) is)

-- before that it had no Return, at no account
none_before : (lists : List (List EntryData)) (call : ℕ) (phase : Phase) (place : ℕ) → IsKept lists call (Some (record { phase = phase; place = place })) → is_through phase ≡ false
    → (p : ℕ) (b : Bool) → (p == place) ≡ b → returns_of (entries_at call lists p) ≡ []
none_before lists call phase place kept not_yet p true is =
    subst (λ (at : ℕ). returns_of (entries_at call lists at) ≡ []) (sym (same_number p place is)) (kept.1 not_yet)
none_before lists call phase place kept not_yet p false is = ap returns_of (kept.0.alone p (apart_from p place is))

-- one that ends it
ended_step : (Shows : ℕ → Showing) (setup : Setup) (numbers : List ℕ) (posts : List Post) (post : Post) (old new : Holding) (answer : AnswerView) (call place : ℕ) (message : SsfMsg)
    → IsSoundHolding (keys_of setup.accounts) posts old → AreKept old → IsRightlyHandled Shows setup numbers post old new answer
    → (running : IsRunning old call place) → post.body ≡ Ssf call message → ends_call message ≡ true → (number : ℕ) → report_in number call message ≡ []
    → after_message setup (pays answer.orders) (Some place) message ≡ None
    → IsOwnStep (NeverRefusesOwed Shows call) setup call number message (Some (record { phase = Running running.terms; place = place })) old new answer
ended_step Shows setup numbers posts post old new answer call place message sound kept is running body ends number no_report after =
    let first : Says × Phase = (Asks (Returns call), Returning (sequel_to message)) in
    let seat : ℕ = slice_index_or numbers place 0 in
    let taken = ending_asked Shows setup numbers posts post old new answer call place message sound kept is running body ends in
    let talk = taken.talk in
    let said = talk_said numbers call place first old new answer taken.within tt refl talk in
    let still : is_through talk.phase ≡ true = ap (λ (p : Says × Phase). is_through p.1) (sym talk.talk) ∙ through_still first talk.gots refl in
    let idle : is_running talk.phase ≡ false = through_idle talk.phase still in
    let held : IsKept old.lists call (Some (record { phase = Running running.terms; place = place })) =
    subst (λ (found : Option DialogueAt). IsKept old.lists call found) running.is (kept call) in
    record {
      goes = ap stands_at said.now ∙ idle_place talk.phase place idle ∙ sym after;
      settles = λ closes p.
          read_said (λ (e : EntryData). settled_in e.asked) seat call place first talk.gots old new talk.phase p (p == place) refl said
          ∙ ap (λ l. settles_of (entries_at call old.lists p) ++ l)
          (none_either (p == place) (settles_of (entries_of seat first talk.gots)) (settles_none seat call first talk.gots tt refl)
          ∙ sym (none_either (p == place) (report_in number call message) no_report));
      passed = λ was. absurd (cc);
      ends = λ closes ended there stands.
          let same : place ≡ there = cc in
          let returned = ending_returned Shows numbers call place message old new answer closes running taken in (
            ap has_passed said.now ∙ not_from_false (is_running talk.phase) idle,
            λ p.
                read_said (λ (e : EntryData). returned_in e.asked) seat call place first talk.gots old new talk.phase p (p == place) refl said
                ∙ ap (λ l. l ++ (if p == place then returns_of (entries_of seat first talk.gots) else [])) (none_before old.lists call (Running running.terms) place held refl p (p == place) refl)
                ∙ ap (λ (l : List ℕ). if p == place then l else []) returned ∙ ap (λ (t : ℕ). if p == t then call ∷ [] else []) same,
          );
      grows = λ p. said_grows seat call place first talk.gots old new talk.phase said p (p == place) refl;
      returns = λ closes p honest.
          read_said (λ (e : EntryData). returned_in e.asked) seat call place first talk.gots old new talk.phase p (p == place) refl said
          ∙ ap (λ (l : List ℕ). returns_of (entries_at call old.lists p) ++ (if p == place then l else [])) (ending_returned Shows numbers call place message old new answer closes running taken)
          ∙ ap (λ (now : Option ℕ). returns_of (entries_at call old.lists p) ++ left_in call p (Some place) now) (sym (ap stands_at said.now ∙ idle_place talk.phase place idle));
    }

-- a report of it
report_step : (Shows : ℕ → Showing) (setup : Setup) (numbers : List ℕ) (posts : List Post) (post : Post) (old new : Holding) (answer : AnswerView) (call place : ℕ) (active : Bool) (info : _)
    → IsSoundHolding (keys_of setup.accounts) posts old → AreKept old → IsRightlyHandled Shows setup numbers post old new answer
    → (running : IsRunning old call place) → post.body ≡ Ssf call (msg.ChargingReport active info)
    → IsOwnStep (NeverRefusesOwed Shows call) setup call post.number (msg.ChargingReport active info) (Some (record { phase = Running running.terms; place = place })) old new answer
report_step Shows setup numbers posts post old new answer call place active info sound kept is running body =
    let about = its_call setup posts old call place sound running in
    let first : Says × Phase = (Asks (Settles call post.number info), Settling running.terms active post.at) in
    let seat : ℕ = slice_index_or numbers place 0 in
    let taken = report_asked Shows setup numbers posts post old new answer call place active info sound kept is running body in
    let talk = taken.talk in
    let held : IsKept old.lists call (Some (record { phase = Running running.terms; place = place })) =
    subst (λ (found : Option DialogueAt). IsKept old.lists call found) running.is (kept call) in
    let bound = goes_bound old.lists call place post.number post.at (Running running.terms) (msg.ChargingReport active info) (Asks (Settles call post.number info)) (Settling running.terms active post.at) about
    (ap (λ (c : ℕ). Ok (Asks (Settles c post.number info), Settling running.terms active post.at)) about) held in
    let said = talk_said numbers call place first old new answer taken.within about refl talk in
    record {
      goes = ap stands_at said.now ∙ ap (λ (b : Bool). if b then Some place else None) (asked_pays numbers call place first old new answer bound refl talk);
      settles = λ closes p.
          read_said (λ (e : EntryData). settled_in e.asked) seat call place first talk.gots old new talk.phase p (p == place) refl said
          ∙ ap (λ l. settles_of (entries_at call old.lists p) ++ (if p == place then l else []))
          (report_settled Shows numbers call place post.number active info post.at old new answer closes running about taken);
      passed = λ was. absurd (cc);
      ends = λ closes ended there stands. absurd (cc);
      grows = λ p. said_grows seat call place first talk.gots old new talk.phase said p (p == place) refl;
      returns = λ closes p honest.
          let entries = entries_of seat first talk.gots in
          let fair = λ (here : (p == place) ≡ true).
          let own : All IsHonestEntry (entries_at call new.lists place) =
          subst (λ (n : ℕ). All IsHonestEntry (entries_at call new.lists n)) (same_number p place here) honest in
          all_later IsHonestEntry (entries_at call old.lists place) entries (subst (λ (l : List EntryData). All IsHonestEntry l) said.own own) in
          read_said (λ (e : EntryData). returned_in e.asked) seat call place first talk.gots old new talk.phase p (p == place) refl said
          ∙ ap (λ l. returns_of (entries_at call old.lists p) ++ l)
          (left_by call place p (p == place) refl (is_running talk.phase) (returns_of entries)
          (λ still. returns_none seat first talk.gots tt (ap (λ (q : Says × Phase). is_through q.1) talk.talk ∙ not_through talk.phase still))
          (λ here idle.
          talk_leaves Shows call place seat post.number info running.terms active post.at (slice_index_or old.lists place []) talk.gots talk.last talk.phase closes about talk.asked bound.stands taken.right (fair here)
          talk.talk talk.rests idle))
          ∙ ap (λ (now : Option ℕ). returns_of (entries_at call old.lists p) ++ left_in call p (Some place) now) (sym (ap stands_at said.now));
    }

-- an Answer
answer_step : (Closes : Type 0) (setup : Setup) (numbers : List ℕ) (call number : ℕ) (leg mode : _) (t : Conditions) (place : ℕ) (old new : Holding) (answer : AnswerView)
    → IsTalked numbers call place (Sends [], Running t) old new answer
    → IsOwnStep Closes setup call number (msg.EventReport event.Answer leg mode) (Some (record { phase = Running t; place = place })) old new answer
answer_step Closes setup numbers call number leg mode t place old new answer is =
    let talk = idle_talk numbers call place (Sends [], Running t) old new answer refl is in
    record {
      goes = ap stands_at talk.now;
      settles = λ closes p.
          ap settles_of (talk.same p) ∙ sym (append-nil (settles_of (entries_at call old.lists p)))
          ∙ ap (λ l. settles_of (entries_at call old.lists p) ++ l) (sym (none_either (p == place) [] refl));
      passed = λ was. absurd (cc);
      ends = λ closes ended there stands. absurd (cc);
      grows = same_grows call old new talk.same;
      returns = λ closes p honest. same_returns call old new (Some place) (stands_at (new.talks call)) talk.same (ap stands_at talk.now) p;
    }

own_running : (Shows : ℕ → Showing) (setup : Setup) (numbers : List ℕ) (posts : List Post) (post : Post) (old new : Holding) (answer : AnswerView) (call place : ℕ) (t : Conditions) (message : SsfMsg)
    → IsSoundHolding (keys_of setup.accounts) posts old → AreKept old → IsRightlyHandled Shows setup numbers post old new answer
    → old.talks call ≡ Some (record { phase = Running t; place = place }) → post.body ≡ Ssf call message
    → IsDone setup numbers post.at (goes_on call place (on_message (Running t) post.number post.at message)) old new answer
    → IsOwnStep (NeverRefusesOwed Shows call) setup call post.number message (Some (record { phase = Running t; place = place })) old new answer
own_running Shows setup numbers posts post old new answer call place t (msg.InitialDp other calling called) sound kept is stands body done =
    stray_step (NeverRefusesOwed Shows call) setup call post.number (msg.InitialDp other calling called) (Some (record { phase = Running t; place = place })) old new answer
    (same_lists call old new done.lists, done.talks call) stands (ap (λ (orders : List Order). if pays orders then home_of calling setup else Some place) done.orders_are)
    (λ p. none_either (p == place) [] refl) (λ ended. absurd (cc))
own_running Shows setup numbers posts post old new answer call place t (msg.EventReport event.Answer leg mode) sound kept is stands body done =
    answer_step (NeverRefusesOwed Shows call) setup numbers call post.number leg mode t place old new answer done
own_running Shows setup numbers posts post old new answer call place t (msg.EventReport event leg mode) sound kept is stands body done =
    ended_step Shows setup numbers posts post old new answer call place (msg.EventReport event leg mode) sound kept is (record { terms = t; is = stands }) body refl post.number refl refl
own_running Shows setup numbers posts post old new answer call place t (msg.ChargingReport active info) sound kept is stands body done =
    report_step Shows setup numbers posts post old new answer call place active info sound kept is (record { terms = t; is = stands }) body
own_running Shows setup numbers posts post old new answer call place t msg.Ended sound kept is stands body done =
    ended_step Shows setup numbers posts post old new answer call place msg.Ended sound kept is (record { terms = t; is = stands }) body refl post.number refl refl

own_idle : (Closes : Type 0) (setup : Setup) (numbers : List ℕ) (post : Post) (old new : Holding) (answer : AnswerView) (call place : ℕ) (phase : Phase) (message : SsfMsg) → is_running phase ≡ false
    → old.talks call ≡ Some (record { phase = phase; place = place }) → IsDone setup numbers post.at (goes_on call place (on_message phase post.number post.at message)) old new answer
    → IsOwnStep Closes setup call post.number message (Some (record { phase = phase; place = place })) old new answer
own_idle Closes setup numbers post old new answer call place phase message idle stands done =
    idle_step Closes setup numbers post.at call post.number message phase place (on_message phase post.number post.at message) old new answer idle
    (idle_over post.number post.at phase message idle) (idle_pays post.number post.at phase message idle) stands done

own_by_phase : (Shows : ℕ → Showing) (setup : Setup) (numbers : List ℕ) (posts : List Post) (post : Post) (old new : Holding) (answer : AnswerView) (call place : ℕ) (phase : Phase) (message : SsfMsg)
    → IsSoundHolding (keys_of setup.accounts) posts old → AreKept old → IsRightlyHandled Shows setup numbers post old new answer
    → old.talks call ≡ Some (record { phase = phase; place = place }) → post.body ≡ Ssf call message
    → IsDone setup numbers post.at (goes_on call place (on_message phase post.number post.at message)) old new answer
    → IsOwnStep (NeverRefusesOwed Shows call) setup call post.number message (Some (record { phase = phase; place = place })) old new answer
own_by_phase Shows setup numbers posts post old new answer call place (Running t) message sound kept is stands body done =
    own_running Shows setup numbers posts post old new answer call place t message sound kept is stands body done
own_by_phase Shows setup numbers posts post old new answer call place (FirstAsk t) message sound kept is stands body done =
    own_idle (NeverRefusesOwed Shows call) setup numbers post old new answer call place (FirstAsk t) message refl stands done
own_by_phase Shows setup numbers posts post old new answer call place (Settling t active since) message sound kept is stands body done =
    own_idle (NeverRefusesOwed Shows call) setup numbers post old new answer call place (Settling t active since) message refl stands done
own_by_phase Shows setup numbers posts post old new answer call place (MoreAsk t) message sound kept is stands body done =
    own_idle (NeverRefusesOwed Shows call) setup numbers post old new answer call place (MoreAsk t) message refl stands done
own_by_phase Shows setup numbers posts post old new answer call place (Returning after) message sound kept is stands body done =
    own_idle (NeverRefusesOwed Shows call) setup numbers post old new answer call place (Returning after) message refl stands done
own_by_phase Shows setup numbers posts post old new answer call place Ending message sound kept is stands body done =
    own_idle (NeverRefusesOwed Shows call) setup numbers post old new answer call place Ending message refl stands done
own_by_phase Shows setup numbers posts post old new answer call place Closed message sound kept is stands body done =
    own_idle (NeverRefusesOwed Shows call) setup numbers post old new answer call place Closed message refl stands done

own_by_found : (Shows : ℕ → Showing) (setup : Setup) (numbers : List ℕ) (posts : List Post) (post : Post) (old new : Holding) (answer : AnswerView) (call : ℕ) (found : Option DialogueAt) (message : SsfMsg)
    → IsSoundHolding (keys_of setup.accounts) posts old → AreKept old → IsRightlyHandled Shows setup numbers post old new answer
    → old.talks call ≡ found → post.body ≡ Ssf call message
    → IsDone setup numbers post.at (spoken setup post.number post.at call message found) old new answer
    → IsOwnStep (NeverRefusesOwed Shows call) setup call post.number message found old new answer
own_by_found Shows setup numbers posts post old new answer call None message sound kept is stands body done =
    own_fresh (NeverRefusesOwed Shows call) setup numbers post.number post.at call message old new answer (λ place within. place_within setup posts old place sound within) stands
    (subst (λ (found : Option DialogueAt). IsKept old.lists call found) stands (kept call)) done
own_by_found Shows setup numbers posts post old new answer call (Some standing) message sound kept is stands body done =
    own_by_phase Shows setup numbers posts post old new answer call standing.place standing.phase message sound kept is stands body done

pub own_step : (Shows : ℕ → Showing) (setup : Setup) (numbers : List ℕ) (posts : List Post) (post : Post) (old new : Holding) (answer : AnswerView) (call : ℕ) (message : SsfMsg)
    → IsSoundHolding (keys_of setup.accounts) posts old → AreKept old → IsRightlyHandled Shows setup numbers post old new answer → post.body ≡ Ssf call message
    → IsOwnStep (NeverRefusesOwed Shows call) setup call post.number message (old.talks call) old new answer
own_step Shows setup numbers posts post old new answer call message sound kept is body =
    own_by_found Shows setup numbers posts post old new answer call (old.talks call) message sound kept is refl body
    (subst (λ (b : Body). IsDone setup numbers post.at (verdict_on setup old.talks post.number post.at b) old new answer) body is.handled.done)
