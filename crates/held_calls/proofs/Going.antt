-- Post by post: where a call goes on, and what is entered of it.
use Rattle.std.proofs.Common.{All, ◌≡◌, ◌++◌, ◌∙◌, ℕ, Bool, true, false, Option, Some, None, Ok, List, [], ◌∷◌, length, map, refl, sym, ap, subst, append-nil, append_assoc, arith}
use Rattle.std.specs.Map.{keys_of}
use Rattle.std.specs.Option.{option_or}
use Rattle.std.specs.Prelude.{◌==◌, ◌&&◌, filter, if◌then◌else◌, slice_index_or}
use Rattle.std.proofs.lemmas.Bool.Decides.{nat_tests}
use Rattle.account_core.specs.Asked.{Credits}
use Rattle.account_core.specs.Entries.{EntryData}
use Rattle.cap_values.specs.declared.message.SsfMsg.{SsfMsg}
use Rattle.cap_values.specs.declared.message.SsfMsg.TheVariants as msg
use Rattle.dialogue_core.specs.Phases.{Phase, FirstAsk, Running, Settling, MoreAsk, Returning, Ending, Closed, Asks}
use Rattle.dialogue_core.specs.Rules.{Step, on_begin}
use Rattle.held_calls.proofs.Entries.{IsHonestEntry, credit_entry, grown_apart}
use Rattle.held_calls.proofs.Holding.{AreKept, IsUnmoved, SameEntries, first_kept, kept_once, same_lists, talk_apart}
use Rattle.held_calls.proofs.Messages.{own_step}
use Rattle.held_calls.proofs.Steps.{IsOwnStep, same_grows, same_returns, has_passed, is_running, none_either, stands_at}
use Rattle.held_calls.specs.Going.{left_at, left_from, left_in, PaidCallsGoOn, after_item, after_message, ended_from, ended_in, goes_on_from, is_there, pays, taken_from, taken_in}
use Rattle.held_calls.specs.Held.{entries_at}
use Rattle.held_calls.specs.Laws.{WorkedCallsAreReturned, WorkedReportsAreSettled}
use Rattle.run_values.specs.Setups.{Setup}
use Rattle.run_values.specs.declared.post.Body.{Body}
use Rattle.run_values.specs.declared.post.Body.TheVariants.{Ssf, Recharge}
use Rattle.run_values.specs.declared.post.Post.{Post}
use Rattle.held_calls.proofs.Listed.{all_first}
use Rattle.runs_core.specs.Shares.{item_of}
use Rattle.account_core.proofs.Beginnings.{begins_further}
use Rattle.account_core.specs.Own.{of_call}
use Rattle.account_core.specs.Prefixes.{IsPrefix}
use Rattle.runs_core.proofs.OwnCalls.{TakesTo, begun_about, takes_answer}
use Rattle.held_calls.proofs.Talked.{begun_says}
use Rattle.held_calls.proofs.Chaining.{first_sound}
use Rattle.held_calls.proofs.Entering.{none_at_first}
use Rattle.runs_core.proofs.Handling.{Means, means_on, same_number}
use Rattle.held_calls.proofs.Sound.{is_itself, own_of, sound_after}
use Rattle.runs_core.specs.Chains.{AreAnswered, AnswersItsPosts, at_first, seat_numbers}
use Rattle.runs_core.specs.Handled.{AnswerView, Holding, IsDone, IsRightlyHandled}
use Rattle.held_calls.specs.Workers.{IsRunning, ends_call}
use Rattle.held_calls.specs.Owed.{NeverRefusesOwed}
use Rattle.runs_core.specs.Served.{Report, report_in, reported_in, returns_of, settles_of}
use Rattle.runs_core.specs.Talks.{Showing, entry_of}
use Rattle.runs_core.specs.Verdicts.{DialogueAt, Verdict, Strays, Rejects, Recharges, Begins, GoesOn, verdict_on}
use Rattle.held_calls.specs.Sound.{IsSoundHolding}

-- ---- a post that is of no message of a call

apart_by : (b : Bool) (call its : ℕ) → (call == its) ≡ b → (call ≡ its → ⊥) → (call == its) ≡ false
apart_by true call its is not = absurd (not (same_number call its is))
apart_by false call its is not = is

unmoved_by : (setup : Setup) (numbers : List ℕ) (posts : List Post) (post : Post) (v : Verdict) (old new : Holding) (t : AnswerView) (call : ℕ) → IsSoundHolding (keys_of setup.accounts) posts old
    → Means setup old.talks post.number post.at post.body v → IsDone setup numbers post.at v old new t → ((message : SsfMsg) → post.body ≡ Ssf call message → ⊥) → IsUnmoved call old new
unmoved_by setup numbers posts post Strays old new t call sound m done other = (same_lists call old new done.lists, done.talks call)
unmoved_by setup numbers posts post Rejects old new t call sound m done other = (same_lists call old new done.lists, done.talks call)
unmoved_by setup numbers posts post (Recharges there amount until) old new t call sound m done other =
    let seat : ℕ = slice_index_or numbers there 0 in (
      λ place.
          ap (λ (lists : List (List EntryData)). entries_at call lists place) done.lists
          ∙ grown_apart call there (entry_of seat (Asks (Credits amount until)) done.got) old.lists place (credit_entry seat call amount until done.got),
      done.talks call,
    )
unmoved_by setup numbers posts post (Begins its at called) old new t call sound m done other =
    let differs = apart_by (call == its) call its refl
    (λ same. other (msg.InitialDp m.other m.calling called) (m.is ∙ ap (λ (c : ℕ). Ssf c (msg.InitialDp m.other m.calling called)) (sym same))) in
    let wanted : ℕ = setup.service.wanted in
    let least : ℕ = setup.service.least in
    talk_apart numbers call its at (on_begin its post.at wanted least done.route) old new t differs (begun_about its post.at wanted least done.route)
    (begun_says its post.at wanted least done.route) done.talked
unmoved_by setup numbers posts post (GoesOn its at said phase) old new t call sound m done other =
    let differs = apart_by (call == its) call its refl (λ same. other m.message (m.is ∙ ap (λ (c : ℕ). Ssf c m.message) (sym same))) in
    let own = own_of (length (keys_of setup.accounts)) posts its m.standing (old.talks its) m.stands (sound.talks its) in
    let takes : TakesTo its post.number m.message (Ok (said, phase)) =
    subst (λ (step : Step). TakesTo its post.number m.message step) m.takes (takes_answer its post.number post.at m.standing.phase m.message own.is.about) in
    talk_apart numbers call its at (said, phase) old new t differs takes.0 takes.1 done

-- ---- any post

record IsStep (Closes : Type 0) (setup : Setup) (call number : ℕ) (body : Body) (old new : Holding) (answer : AnswerView) : Type 0 where
  goes : stands_at (new.talks call) ≡ after_item setup call (stands_at (old.talks call)) body answer
  settles : Closes → (place : ℕ)
      → settles_of (entries_at call new.lists place) ≡ settles_of (entries_at call old.lists place) ++ taken_in call place (stands_at (old.talks call)) number body
  passed : has_passed (old.talks call) ≡ true → SameEntries call old.lists new.lists × (has_passed (new.talks call) ≡ true)
  ends : Closes → (there : ℕ) → ended_in call (stands_at (old.talks call)) body ≡ Some there
      → (has_passed (new.talks call) ≡ true) × ((place : ℕ) → returns_of (entries_at call new.lists place) ≡ (if place == there then call ∷ [] else []))
  grows : (place : ℕ) → IsPrefix (entries_at call old.lists place) (entries_at call new.lists place)
  returns : Closes → (place : ℕ) → All IsHonestEntry (entries_at call new.lists place)
      → returns_of (entries_at call new.lists place)
      ≡ returns_of (entries_at call old.lists place) ++ left_in call place (stands_at (old.talks call)) (after_item setup call (stands_at (old.talks call)) body answer)

unmoved_step : (Closes : Type 0) (setup : Setup) (call number : ℕ) (body : Body) (old new : Holding) (answer : AnswerView) → IsUnmoved call old new
    → after_item setup call (stands_at (old.talks call)) body answer ≡ stands_at (old.talks call) → filter (λ (report : Report). report.1 == call) (reported_in number body) ≡ []
    → ended_in call (stands_at (old.talks call)) body ≡ None → IsStep Closes setup call number body old new answer
unmoved_step Closes setup call number body old new answer unmoved same none open_still = record {
  goes = ap stands_at unmoved.1 ∙ sym same;
  settles = λ closes place.
      ap settles_of (unmoved.0 place) ∙ sym (append-nil (settles_of (entries_at call old.lists place)))
      ∙ ap (λ l. settles_of (entries_at call old.lists place) ++ l)
      (sym (none_either (is_there (stands_at (old.talks call)) place) (filter (λ (report : Report). report.1 == call) (reported_in number body)) none));
  passed = λ was. (unmoved.0, ap has_passed unmoved.1 ∙ was);
  ends = λ closes there is. let never : None ≡ Some there = sym open_still ∙ is in absurd (cc);
  grows = same_grows call old new unmoved.0;
  returns = λ closes place honest.
      same_returns call old new (stands_at (old.talks call)) (after_item setup call (stands_at (old.talks call)) body answer) unmoved.0 same place;
}

pub other_report : (number call other : ℕ) (message : SsfMsg) → (other == call) ≡ false → filter (λ (report : Report). report.1 == call) (report_in number other message) ≡ []
other_report number call other (msg.InitialDp o calling called) differs = refl
other_report number call other (msg.EventReport event leg mode) differs = refl
other_report number call other (msg.ChargingReport active info) differs = rw (differs) refl
other_report number call other msg.Ended differs = refl

own_report : (number call : ℕ) (message : SsfMsg) → filter (λ (report : Report). report.1 == call) (report_in number call message) ≡ report_in number call message
own_report number call (msg.InitialDp o calling called) = refl
own_report number call (msg.EventReport event leg mode) = refl
own_report number call (msg.ChargingReport active info) = rw (is_itself call) refl
own_report number call msg.Ended = refl

ended_by : (b : Bool) (was : Option ℕ) (there : ℕ) → (if b then was else None) ≡ Some there → (b ≡ true) × (was ≡ Some there)
ended_by true was there is = (refl, is)
ended_by false was there is = absurd (cc)

message_step : (Closes : Type 0) (setup : Setup) (call number : ℕ) (message : SsfMsg) (old new : Holding) (answer : AnswerView) → IsOwnStep Closes setup call number message (old.talks call) old new answer
    → IsStep Closes setup call number (Ssf call message) old new answer
message_step Closes setup call number message old new answer own =
    let was = stands_at (old.talks call) in
    record {
      goes = own.goes ∙ ap (λ (b : Bool). if b then after_message setup (pays answer.orders) was message else was) (sym (is_itself call));
      settles = λ closes place.
          own.settles closes place
          ∙ ap (λ (l : List Report). settles_of (entries_at call old.lists place) ++ (if is_there was place then l else [])) (sym (own_report number call message));
      passed = own.passed;
      ends = λ closes there is.
          let by = ended_by (ends_call message) was there (ap (λ (b : Bool). if b && ends_call message then was else None) (sym (is_itself call)) ∙ is) in own.ends closes by.0 there by.1;
      grows = own.grows;
      returns = λ closes place honest.
          own.returns closes place honest
          ∙ ap (λ (now : Option ℕ). returns_of (entries_at call old.lists place) ++ left_in call place was now)
          (own.goes ∙ ap (λ (b : Bool). if b then after_message setup (pays answer.orders) was message else was) (sym (is_itself call)));
    }

another : (call other : ℕ) (message : SsfMsg) (body : Body) → (other == call) ≡ false → body ≡ Ssf other message → (its : SsfMsg) → body ≡ Ssf call its → ⊥
another call other message body differs is its same =
    let one : Ssf other message ≡ Ssf call its = sym is ∙ same in
    let alike : other ≡ call = cc in
    let alike_too : (other == call) ≡ true = grind (arith, nat_tests, alike) in absurd (cc)

step_of : (Shows : ℕ → Showing) (setup : Setup) (numbers : List ℕ) (posts : List Post) (post : Post) (old new : Holding) (answer : AnswerView) (call other : ℕ) (message : SsfMsg) (b : Bool)
    → (other == call) ≡ b → IsSoundHolding (keys_of setup.accounts) posts old → AreKept old → IsRightlyHandled Shows setup numbers post old new answer
    → post.body ≡ Ssf other message → IsStep (NeverRefusesOwed Shows call) setup call post.number (Ssf other message) old new answer
step_of Shows setup numbers posts post old new answer call other message true same sound kept is body =
    let here = same_number other call same in
    subst (λ (c : ℕ). IsStep (NeverRefusesOwed Shows call) setup call post.number (Ssf c message) old new answer) (sym here)
    (message_step (NeverRefusesOwed Shows call) setup call post.number message old new answer
    (own_step Shows setup numbers posts post old new answer call message sound kept is (body ∙ ap (λ (c : ℕ). Ssf c message) here)))
step_of Shows setup numbers posts post old new answer call other message false differs sound kept is body =
    let was = stands_at (old.talks call) in
    unmoved_step (NeverRefusesOwed Shows call) setup call post.number (Ssf other message) old new answer
    (unmoved_by setup numbers posts post (verdict_on setup old.talks post.number post.at post.body) old new answer call sound (means_on setup old.talks post.number post.at post.body)
    is.handled.done (another call other message post.body differs body))
    (ap (λ (b : Bool). if b then after_message setup (pays answer.orders) was message else was) differs) (other_report post.number call other message differs)
    (ap (λ (b : Bool). if b && ends_call message then was else None) differs)

step_by : (Shows : ℕ → Showing) (setup : Setup) (numbers : List ℕ) (posts : List Post) (post : Post) (old new : Holding) (answer : AnswerView) (call : ℕ) (body : Body)
    → IsSoundHolding (keys_of setup.accounts) posts old → AreKept old → IsRightlyHandled Shows setup numbers post old new answer → post.body ≡ body
    → IsStep (NeverRefusesOwed Shows call) setup call post.number body old new answer
step_by Shows setup numbers posts post old new answer call (Ssf other message) sound kept is body =
    step_of Shows setup numbers posts post old new answer call other message (other == call) refl sound kept is body
step_by Shows setup numbers posts post old new answer call (Recharge account amount until) sound kept is body =
    unmoved_step (NeverRefusesOwed Shows call) setup call post.number (Recharge account amount until) old new answer
    (unmoved_by setup numbers posts post (verdict_on setup old.talks post.number post.at post.body) old new answer call sound (means_on setup old.talks post.number post.at post.body)
    is.handled.done (λ message same. let never_so : Recharge account amount until ≡ Ssf call message = sym body ∙ same in absurd (cc))) refl refl refl

-- ---- all posts

record IsPath (Closes : Type 0) (setup : Setup) (call : ℕ) (posts : List Post) (answers : List AnswerView) (old new : Holding) : Type 0 where
  goes : stands_at (new.talks call) ≡ goes_on_from setup call (stands_at (old.talks call)) (map item_of posts) answers
  settles : Closes → (place : ℕ)
      → settles_of (entries_at call new.lists place) ≡ settles_of (entries_at call old.lists place) ++ taken_from setup call place (stands_at (old.talks call)) (map item_of posts) answers
  passed : has_passed (old.talks call) ≡ true → SameEntries call old.lists new.lists
  ends : Closes → (there : ℕ) → ended_from setup call (stands_at (old.talks call)) (map item_of posts) answers ≡ Some there
      → (place : ℕ) → returns_of (entries_at call new.lists place) ≡ (if place == there then call ∷ [] else [])
  grows : (place : ℕ) → IsPrefix (entries_at call old.lists place) (entries_at call new.lists place)
  returns : Closes → (place : ℕ) → All IsHonestEntry (entries_at call new.lists place)
      → returns_of (entries_at call new.lists place) ≡ returns_of (entries_at call old.lists place) ++ left_from setup call place (stands_at (old.talks call)) (map item_of posts) answers

ended_first : (first later : Option ℕ) (there : ℕ) (P : Type 0) → option_or first later ≡ Some there → (first ≡ Some there → P) → (later ≡ Some there → P) → P
ended_first None later there P is one more = more is
ended_first (Some place) later there P is one more = one is

path : (Shows : ℕ → Showing) (setup : Setup) (numbers : List ℕ) (call : ℕ) (done posts : List Post) (answers : List AnswerView) (old new : Holding)
    → IsSoundHolding (keys_of setup.accounts) done old → AreKept old → AreAnswered Shows setup numbers posts answers old new → IsPath (NeverRefusesOwed Shows call) setup call posts answers old new
path Shows setup numbers call done [] [] old new sound kept are = record {
  goes = ap (λ (h : Holding). stands_at (h.talks call)) (sym are);
  settles = λ closes place.
      ap (λ (h : Holding). settles_of (entries_at call h.lists place)) (sym are) ∙ sym (append-nil (settles_of (entries_at call old.lists place)));
  passed = λ was place. ap (λ (h : Holding). entries_at call h.lists place) (sym are);
  ends = λ closes there is place. absurd (cc);
  grows = λ place. record {
    rest = [];
    is = ap (λ (h : Holding). entries_at call h.lists place) (sym are) ∙ sym (append-nil (entries_at call old.lists place));
  };
  returns = λ closes place honest.
      ap (λ (h : Holding). returns_of (entries_at call h.lists place)) (sym are) ∙ sym (append-nil (returns_of (entries_at call old.lists place)));
}
path Shows setup numbers call done [] (answer ∷ answers) old new sound kept are = absurd are
path Shows setup numbers call done (post ∷ posts) [] old new sound kept are = absurd are
path Shows setup numbers call done (post ∷ posts) (answer ∷ answers) old new sound kept are =
    let between : Holding = are.0 in
    let step = step_by Shows setup numbers done post old between answer call post.body sound kept are.1 refl in
    let rest = path Shows setup numbers call (done ++ post ∷ []) posts answers between new
    (sound_after setup numbers done post old between answer sound are.1.handled.done) (kept_once setup numbers done post old between answer sound kept are.1.handled.done) are.2 in
    let items = map item_of posts in
    record {
      goes = rest.goes ∙ ap (λ (was : Option ℕ). goes_on_from setup call was items answers) step.goes;
      settles = λ closes place.
          rest.settles closes place ∙ ap (λ (was : Option ℕ). settles_of (entries_at call between.lists place) ++ taken_from setup call place was items answers) step.goes
          ∙ ap (λ l. l ++ taken_from setup call place (after_item setup call (stands_at (old.talks call)) post.body answer) items answers) (step.settles closes place)
          ∙ append_assoc (settles_of (entries_at call old.lists place)) (taken_in call place (stands_at (old.talks call)) post.number post.body)
          (taken_from setup call place (after_item setup call (stands_at (old.talks call)) post.body answer) items answers);
      passed = λ was place. let now = step.passed was in rest.passed now.1 place ∙ now.0 place;
      ends = λ closes there is place.
          ended_first (ended_in call (stands_at (old.talks call)) post.body)
          (ended_from setup call (after_item setup call (stands_at (old.talks call)) post.body answer) items answers) there
          (returns_of (entries_at call new.lists place) ≡ (if place == there then call ∷ [] else [])) is
          (λ here. let its = step.ends closes there here in ap returns_of (rest.passed its.0 place) ∙ its.1 place)
          (λ later. rest.ends closes there (ap (λ (was : Option ℕ). ended_from setup call was items answers) step.goes ∙ later) place);
      grows = λ place.
          begins_further (entries_at call old.lists place) (entries_at call between.lists place) (entries_at call new.lists place) (step.grows place) (rest.grows place);
      returns = λ closes place honest.
          let now : Option ℕ = after_item setup call (stands_at (old.talks call)) post.body answer in
          let so_far : All IsHonestEntry (entries_at call between.lists place) =
          all_first IsHonestEntry (entries_at call between.lists place) (rest.grows place).rest (subst (λ (l : List EntryData). All IsHonestEntry l) (rest.grows place).is honest) in
          rest.returns closes place honest
          ∙ ap (λ (was : Option ℕ). returns_of (entries_at call between.lists place) ++ left_from setup call place was items answers) step.goes
          ∙ ap (λ l. l ++ left_from setup call place now items answers) (step.returns closes place so_far)
          ∙ append_assoc (returns_of (entries_at call old.lists place)) (left_in call place (stands_at (old.talks call)) now) (left_from setup call place now items answers);
    }

-- ---- the laws of a worker

stands_so : (h : Holding) (call place : ℕ) (phase : Phase) (there : ℕ) → h.talks call ≡ Some (record { phase = phase; place = there })
    → (if is_running phase then Some there else None) ≡ Some place → IsRunning h call place
stands_so h call place (Running t) there stands is =
    let same : there ≡ place = cc in
    record { terms = t; is = stands ∙ ap (λ (p : ℕ). Some (record { phase = Running t; place = p })) same }
stands_so h call place (FirstAsk t) there stands is = absurd (cc)
stands_so h call place (Settling t active since) there stands is = absurd (cc)
stands_so h call place (MoreAsk t) there stands is = absurd (cc)
stands_so h call place (Returning after) there stands is = absurd (cc)
stands_so h call place Ending there stands is = absurd (cc)
stands_so h call place Closed there stands is = absurd (cc)

running_by : (h : Holding) (call place : ℕ) (found : Option DialogueAt) → h.talks call ≡ found → stands_at found ≡ Some place → IsRunning h call place
running_by h call place None stands is = absurd (cc)
running_by h call place (Some standing) stands is = stands_so h call place standing.phase standing.place stands is

first_path : (Shows : ℕ → Showing) (setup : Setup) (number call : ℕ) (posts : List Post) (answers : List AnswerView) (held : Holding)
    → AreAnswered Shows setup (seat_numbers number setup) posts answers (at_first setup) held → IsPath (NeverRefusesOwed Shows call) setup call posts answers (at_first setup) held
first_path Shows setup number call posts answers held are =
    path Shows setup (seat_numbers number setup) call [] posts answers (at_first setup) held (first_sound setup) (first_kept setup) are

pub go_on : (Shows : ℕ → Showing) → PaidCallsGoOn Shows
go_on Shows setup number posts answers held call place are is =
    let so = first_path Shows setup number call posts answers held are in running_by held call place (held.talks call) refl (so.goes ∙ is)

nothing_first : (setup : Setup) (call place : ℕ) → settles_of (entries_at call (at_first setup).lists place) ≡ []
nothing_first setup call place = ap (λ (mine : List EntryData). settles_of (of_call call mine)) (none_at_first setup.accounts place)

pub worked_settled : (Shows : ℕ → Showing) → WorkedReportsAreSettled Shows
worked_settled Shows setup number posts answers lists call never is place =
    let held : Holding = record { lists = lists; talks = is.talks } in
    let so = first_path Shows setup number call posts answers held is.chain in
    so.settles never place ∙ ap (λ l. l ++ taken_from setup call place None (map item_of posts) answers) (nothing_first setup call place)

pub worked_returned : (Shows : ℕ → Showing) → WorkedCallsAreReturned Shows
worked_returned Shows setup number posts answers lists call there never is ended place =
    let held : Holding = record { lists = lists; talks = is.talks } in
    let so = first_path Shows setup number call posts answers held is.chain in so.ends never there ended place

-- a call that goes on no more was returned, where its entries have the replies of accounts
pub worked_left : (Shows : ℕ → Showing) (setup : Setup) (number : ℕ) (posts : List Post) (answers : List AnswerView) (lists : List (List EntryData)) (call : ℕ) → NeverRefusesOwed Shows call
    → AnswersItsPosts Shows setup number posts answers lists → (place : ℕ) → All IsHonestEntry (entries_at call lists place)
    → returns_of (entries_at call lists place) ≡ left_at setup call place (map item_of posts) answers
worked_left Shows setup number posts answers lists call never is place honest =
    let held : Holding = record { lists = lists; talks = is.talks } in
    let so = first_path Shows setup number call posts answers held is.chain in
    so.returns never place honest
    ∙ ap (λ l. l ++ left_from setup call place None (map item_of posts) answers) (ap (λ (mine : List EntryData). returns_of (of_call call mine)) (none_at_first setup.accounts place))
