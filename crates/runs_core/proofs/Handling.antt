-- What the handling of a post keeps.
use Rattle.std.proofs.Common.{◌≡◌, ◌<◌, ◌∙◌, ℕ, Bool, true, false, Option, Some, None, Ok, Err, List, [], ◌∷◌, length, refl, sym, ap, subst, arith, inl, inr, get_or}
use Rattle.std.specs.Prelude.{◌==◌, IfSome, if◌then◌else◌, option_and_then, slice_index_or}
use Rattle.std.proofs.lemmas.Bool.Decides.{nat_tests}
use Rattle.std.proofs.lemmas.List.Quantifiers.{position-Some}
use Rattle.account_core.specs.Entries.{EntryData}
use Rattle.cap_values.specs.Orders.{Release}
use Rattle.cap_values.specs.declared.message.SsfMsg.{SsfMsg}
use Rattle.cap_values.specs.declared.message.SsfMsg.TheVariants as msg
use Rattle.cap_values.specs.declared.number.Number.{Number}
use Rattle.dialogue_core.specs.Phases.{Phase, Says}
use Rattle.dialogue_core.specs.Rules.{Step, on_begin, on_message}
use Rattle.dialogue_core.specs.Views.{phase_of, says_of}
use Rattle.runs_core.proofs.OwnCalls.{TakesTo, begun_about, takes_answer, talked_about}
use Rattle.runs_core.specs.Cases.{IsCase, IsRightlyActed, CaseIsWithin, with_room}
use Rattle.runs_core.specs.Handled.{AnswerView, AreRefusedRightly, Holding, IsDone, IsRecharged, IsTalked, IsUnasked, StandsNow, Stay}
use Rattle.runs_core.specs.Served.{begun_by}
use Rattle.run_values.specs.Openings.{no_credit}
use Rattle.run_values.specs.Setups.{Setup, account_of, place_of}
use Rattle.runs_core.specs.Talks.{AreRightlyGot, Showing}
use Rattle.runs_core.specs.Verdicts.{DialogueAt, Verdict, Strays, Rejects, Recharges, Begins, GoesOn, begins, fresh_call, goes_on, home_of, recharged, spoken, strays, verdict, verdict_on}
use Rattle.runs_core.specs.Workers.{ArePlaced, IsAbout, IsPlaced, talk_standing}
use Rattle.runs_core.specs.declared.worker.Case.{Case}
use Rattle.runs_core.specs.declared.worker.Case.TheVariants as case
use Rattle.run_values.specs.declared.directory.OpeningCredit.{OpeningCredit}
use Rattle.run_values.specs.declared.post.Body.{Body}
use Rattle.run_values.specs.declared.post.Body.TheVariants.{Ssf, Recharge}
use Rattle.run_values.specs.declared.post.Post.{Post}

-- ---- what a verdict says of its post

pub record IsOfAccount (setup : Setup) (body : Body) (place amount : ℕ) (until : Option ℕ) : Type 0 where
  pub account : ℕ
  pub is : body ≡ Recharge account amount until
  pub at : place_of account setup ≡ Some place

pub record IsOfBeginning (setup : Setup) (talks : ℕ → Option DialogueAt) (body : Body) (call place : ℕ) (called : Number) : Type 0 where
  pub other : ℕ
  pub calling : Number
  pub none : talks call ≡ None
  pub is : body ≡ Ssf call (msg.InitialDp other calling called)
  pub home : home_of calling setup ≡ Some place
  pub begins : begun_by body ≡ call ∷ []
  pub within : place < length setup.accounts

pub record IsOfDialogue (talks : ℕ → Option DialogueAt) (number at : ℕ) (body : Body) (call place : ℕ) (said : Says) (phase : Phase) : Type 0 where
  pub standing : DialogueAt
  pub message : SsfMsg
  pub stands : talks call ≡ Some standing
  pub same : standing.place ≡ place
  pub is : body ≡ Ssf call message
  pub takes : on_message standing.phase number at message ≡ Ok (said, phase)

abbrev pub Means : Setup → (ℕ → Option DialogueAt) → ℕ → ℕ → Body → Verdict → Type 0
Means setup talks number at body Strays = Unit {0}
Means setup talks number at body Rejects = Unit {0}
Means setup talks number at body (Recharges place amount until) = IsOfAccount setup body place amount until
Means setup talks number at body (Begins call place called) = IsOfBeginning setup talks body call place called
Means setup talks number at body (GoesOn call place said phase) = IsOfDialogue talks number at body call place said phase

pub at_place : (setup : Setup) (account place : ℕ) → place_of account setup ≡ Some place → (place < length setup.accounts) × (((get_or setup.accounts place (0, no_credit)).0 == account) ≡ true)
at_place setup account place at =
    let found = position-Some (λ (other : ℕ × OpeningCredit). other.0 == account) setup.accounts place (0, no_credit) at in (found.0, found.1)

pub home_within : (setup : Setup) (account : Option ℕ) (place : ℕ) → option_and_then (λ a. place_of a setup) account ≡ Some place → place < length setup.accounts
home_within setup None place at = cc
home_within setup (Some account) place at = (at_place setup account place at).0

means_recharged : (setup : Setup) (talks : ℕ → Option DialogueAt) (number at account amount : ℕ) (until : Option ℕ) (place : Option ℕ) → place_of account setup ≡ place
    → Means setup talks number at (Recharge account amount until) (recharged amount until place)
means_recharged setup talks number at account amount until None found = tt
means_recharged setup talks number at account amount until (Some place) found = record { account = account; is = refl; at = found }

means_begins : (setup : Setup) (talks : ℕ → Option DialogueAt) (number at call other : ℕ) (calling called : Number) (place : Option ℕ) → talks call ≡ None → home_of calling setup ≡ place
    → Means setup talks number at (Ssf call (msg.InitialDp other calling called)) (begins call called place)
means_begins setup talks number at call other calling called None none found = tt
means_begins setup talks number at call other calling called (Some place) none found = record {
  other = other;
  calling = calling;
  none = none;
  is = refl;
  home = found;
  begins = refl;
  within = home_within setup (account_of calling setup.subscribers) place found;
}

means_fresh : (setup : Setup) (talks : ℕ → Option DialogueAt) (number at call : ℕ) (message : SsfMsg) → talks call ≡ None → Means setup talks number at (Ssf call message) (fresh_call setup call message)
means_fresh setup talks number at call (msg.InitialDp other calling called) none = means_begins setup talks number at call other calling called (home_of calling setup) none refl
means_fresh setup talks number at call (msg.EventReport event leg mode) none = tt
means_fresh setup talks number at call (msg.ChargingReport active info) none = tt
means_fresh setup talks number at call msg.Ended none = tt

means_goes_on : (setup : Setup) (talks : ℕ → Option DialogueAt) (number at call : ℕ) (message : SsfMsg) (standing : DialogueAt) (step : Step) → talks call ≡ Some standing
    → on_message standing.phase number at message ≡ step → Means setup talks number at (Ssf call message) (goes_on call standing.place step)
means_goes_on setup talks number at call message standing (Ok next) stands takes =
    record { standing = standing; message = message; stands = stands; same = refl; is = refl; takes = takes }
means_goes_on setup talks number at call message standing (Err fault) stands takes = tt

means_spoken : (setup : Setup) (talks : ℕ → Option DialogueAt) (number at call : ℕ) (message : SsfMsg) (standing : Option DialogueAt) → talks call ≡ standing
    → Means setup talks number at (Ssf call message) (spoken setup number at call message standing)
means_spoken setup talks number at call message None stands = means_fresh setup talks number at call message stands
means_spoken setup talks number at call message (Some standing) stands = means_goes_on setup talks number at call message standing (on_message standing.phase number at message) stands refl

pub means_on : (setup : Setup) (talks : ℕ → Option DialogueAt) (number at : ℕ) (body : Body) → Means setup talks number at body (verdict_on setup talks number at body)
means_on setup talks number at (Ssf call message) = means_spoken setup talks number at call message (talks call) refl
means_on setup talks number at (Recharge account amount until) = means_recharged setup talks number at account amount until (place_of account setup) refl

-- ---- the place of a case

-- the dialogue that was found
pub standing_so : (P : DialogueAt → Type 0) (standing : DialogueAt) (found : Option DialogueAt) → found ≡ Some standing → IfSome found P → P standing
standing_so P standing None is has = cc
standing_so P standing (Some other) is has = let same : other ≡ standing = cc in subst P same has

within_by : (setup : Setup) (at : ℕ) (old : Holding) (number : ℕ) (body : Body) (v : Verdict) (case : Case) → ArePlaced (length setup.accounts) old.talks
    → Means setup old.talks number at body v → IsCase setup at v case → CaseIsWithin (length setup.accounts) case
within_by setup at old number body v case.Stray placed means is = tt
within_by setup at old number body v case.Rejected placed means is = tt
within_by setup at old number body v (case.Recharge place amount until) placed means is =
    let P : Verdict → Type 0 = λ w. Means setup old.talks number at body w in
    let m : IsOfAccount setup body place amount until = subst P is means in (at_place setup m.account place m.at).0
within_by setup at old number body v (case.Talk call talk turn) placed means is =
    let P : Verdict → Type 0 = λ w. Means setup old.talks number at body w in
    elim is [
      | inl goes ↦
          (let m : IsOfDialogue old.talks number at body call talk.place (says_of turn) (phase_of talk.dialogue) = subst P goes means in
          let its = standing_so (λ s. IsPlaced (length setup.accounts) call s) m.standing (old.talks call) m.stands (placed call) in
          rw (← m.same) its.placed)
      | inr first ↦ (let m : IsOfBeginning setup old.talks body call talk.place first.called = subst P first.is means in m.within)
    ]

pub case_within : (setup : Setup) (old : Holding) (post : Post) (case : Case) → ArePlaced (length setup.accounts) old.talks
    → IsCase setup post.at (verdict setup old.talks post) case → CaseIsWithin (length setup.accounts) case
case_within setup old post case placed is =
    within_by setup post.at old post.number post.body (verdict setup old.talks post) case placed (means_on setup old.talks post.number post.at post.body) is

-- ---- what is done, by the verdict

both_so : (b : Bool) (last first other : Option DialogueAt) → (if b then last else (if b then first else other)) ≡ (if b then last else other)
both_so true last first other = refl
both_so false last first other = refl

unasked_past : (orders : List _) (stray : Bool) (lists : List (List EntryData)) (talks between : ℕ → Option DialogueAt) (new : Holding) (t : AnswerView) → ((call : ℕ) → between call ≡ talks call)
    → IsUnasked orders stray (record { lists = lists; talks = between }) new t → IsUnasked orders stray (record { lists = lists; talks = talks }) new t
unasked_past orders stray lists talks between new t same is =
    record { orders_are = is.orders_are; stray_is = is.stray_is; refused = is.refused; lists = is.lists; talks = λ call. is.talks call ∙ same call }

abbrev talked_past : (numbers : List ℕ) (call place : ℕ) (first : Says × Phase) (standing : DialogueAt) (lists : List (List EntryData)) (talks between : ℕ → Option DialogueAt) (new : Holding) (t : AnswerView)
    → ((other : ℕ) → between other ≡ (if other == call then Some standing else talks other))
    → IsTalked numbers call place first (record { lists = lists; talks = between }) new t → IsTalked numbers call place first (record { lists = lists; talks = talks }) new t
talked_past numbers call place first standing lists talks between new t same is = record {
  gots = is.gots;
  asked = is.asked;
  last = is.last;
  phase = is.phase;
  talk = is.talk;
  rests = is.rests;
  orders = is.orders;
  stray = is.stray;
  refused = is.refused;
  lists = is.lists;
  talks = λ other.
      is.talks other ∙ ap (λ s. if other == call then Some (record { phase = is.phase; place = place }) else s) (same other)
      ∙ both_so (other == call) (Some (record { phase = is.phase; place = place })) (Some standing) (talks other);
}

-- and that each refusal was right
abbrev IsDoneRightly : (Shows : ℕ → Showing) (setup : Setup) (numbers : List ℕ) (at : ℕ) (old new : Holding) (t : AnswerView) → Verdict → Type 0
IsDoneRightly Shows setup numbers at old new t v = (done : IsDone setup numbers at v old new t) × AreRefusedRightly Shows setup numbers at v old new t done

pub done_by : (Shows : ℕ → Showing) (setup : Setup) (numbers : List ℕ) (at : ℕ) (v : Verdict) (case : Case) (lists : List (List EntryData)) (talks between : ℕ → Option DialogueAt) (new : Holding) (t : AnswerView)
    → IsCase setup at v case → ((call : ℕ) → between call ≡ with_room case talks call) → IsRightlyActed Shows numbers case (record { lists = lists; talks = between }) new t
    → (done : IsDone setup numbers at v (record { lists = lists; talks = talks }) new t)
    × AreRefusedRightly Shows setup numbers at v (record { lists = lists; talks = talks }) new t done
done_by Shows setup numbers at v case.Stray lists talks between new t is room so =
    subst (IsDoneRightly Shows setup numbers at (record { lists = lists; talks = talks }) new t) (sym is) (unasked_past [] true lists talks between new t room so.acted, tt)
done_by Shows setup numbers at v case.Rejected lists talks between new t is room so =
    subst (IsDoneRightly Shows setup numbers at (record { lists = lists; talks = talks }) new t) (sym is) (unasked_past (Release 21 ∷ []) false lists talks between new t room so.acted, tt)
done_by Shows setup numbers at v (case.Recharge place amount until) lists talks between new t is room so =
    subst (IsDoneRightly Shows setup numbers at (record { lists = lists; talks = talks }) new t) (sym is) (
      record {
        got = so.acted.got;
        orders = so.acted.orders;
        stray = so.acted.stray;
        refused = so.acted.refused;
        lists = so.acted.lists;
        talks = λ call. so.acted.talks call ∙ room call;
      },
      so.right,
    )
done_by Shows setup numbers at v (case.Talk call talk turn) lists talks between new t is room so =
    let old : Holding = record { lists = lists; talks = talks } in
    let number : ℕ = slice_index_or numbers talk.place 0 in
    let mine : List EntryData = slice_index_or lists talk.place [] in
    let T : Says × Phase → Type 0 = λ first. (done : IsTalked numbers call talk.place first old new t) × AreRightlyGot (Shows talk.place) number first mine done.gots in
    let past : T (says_of turn, phase_of talk.dialogue) =
    (talked_past numbers call talk.place (says_of turn, phase_of talk.dialogue) (talk_standing talk) lists talks between new t room so.acted, so.right) in
    elim is [
      | inl goes ↦ subst (IsDoneRightly Shows setup numbers at old new t) (sym goes) past
      | inr first ↦
          (let begun : T (on_begin call at setup.service.wanted setup.service.least first.route) = subst T (sym first.begins) past in
          subst (IsDoneRightly Shows setup numbers at old new t) (sym first.is) (record { route = first.route; routed = first.routed; talked = begun.0 }, begun.1))
    ]

-- ---- what follows for the clauses of their own

pub stray_is : (setup : Setup) (numbers : List ℕ) (at : ℕ) (v : Verdict) (old new : Holding) (t : AnswerView) → IsDone setup numbers at v old new t → t.stray ≡ strays v
stray_is setup numbers at Strays old new t done = done.stray_is
stray_is setup numbers at Rejects old new t done = done.stray_is
stray_is setup numbers at (Recharges place amount until) old new t done = done.stray
stray_is setup numbers at (Begins call place called) old new t done = done.talked.stray
stray_is setup numbers at (GoesOn call place said phase) old new t done = done.stray

pub stray_lists : (setup : Setup) (numbers : List ℕ) (at : ℕ) (v : Verdict) (old new : Holding) (t : AnswerView) → IsDone setup numbers at v old new t → t.stray ≡ true → new.lists ≡ old.lists
stray_lists setup numbers at Strays old new t done is = done.lists
stray_lists setup numbers at Rejects old new t done is = done.lists
stray_lists setup numbers at (Recharges place amount until) old new t done is = let not = done.stray in cc
stray_lists setup numbers at (Begins call place called) old new t done is = let not = done.talked.stray in cc
stray_lists setup numbers at (GoesOn call place said phase) old new t done is = let not = done.stray in cc

pub rejected_so : (setup : Setup) (numbers : List ℕ) (at : ℕ) (v : Verdict) (old new : Holding) (t : AnswerView) → IsDone setup numbers at v old new t → v ≡ Rejects
    → (t.orders ≡ Release 21 ∷ []) × (new.lists ≡ old.lists)
rejected_so setup numbers at v old new t done is =
    let P : Verdict → Type 0 = λ w. IsDone setup numbers at w old new t in let u : IsUnasked (Release 21 ∷ []) false old new t = subst P is done in (u.orders_are, u.lists)

pub recharged_so : (setup : Setup) (numbers : List ℕ) (at : ℕ) (v : Verdict) (old new : Holding) (t : AnswerView) (place amount : ℕ) (until : Option ℕ) → IsDone setup numbers at v old new t → v ≡ Recharges place amount until
    → IsRecharged numbers place amount until old new t
recharged_so setup numbers at v old new t place amount until done is = let P : Verdict → Type 0 = λ w. IsDone setup numbers at w old new t in subst P is done

-- ---- where the dialogues are

pub same_number : (s t : ℕ) → (s == t) ≡ true → s ≡ t
same_number s t is = grind (arith, nat_tests, is)

-- what holds of each dialogue holds of each that is as before
pub stay_each : (P : ℕ → DialogueAt → Type 0) (old new : ℕ → Option DialogueAt) → Stay old new → ((call : ℕ) → IfSome (old call) (P call)) → (call : ℕ) → IfSome (new call) (P call)
stay_each P old new same each call = let Q : Option DialogueAt → Type 0 = λ found. IfSome found (P call) in subst Q (sym (same call)) (each call)

now_or : (P : ℕ → DialogueAt → Type 0) (call other : ℕ) (b : Bool) (standing : DialogueAt) (found after : Option DialogueAt) → (other == call) ≡ b
    → after ≡ (if b then Some standing else found) → P call standing → IfSome found (P other) → IfSome after (P other)
now_or P call other true standing found after is now its before =
    let Q : Option DialogueAt → Type 0 = λ f. IfSome f (P other) in
    let R : ℕ → Type 0 = λ c. P c standing in
    subst Q (sym now) (subst R (sym (same_number other call is)) its)
now_or P call other false standing found after is now its before = let Q : Option DialogueAt → Type 0 = λ f. IfSome f (P other) in subst Q (sym now) before

-- and of each but one, which is so now
pub now_each : (P : ℕ → DialogueAt → Type 0) (call : ℕ) (standing : DialogueAt) (old new : ℕ → Option DialogueAt) → StandsNow call standing old new → P call standing
    → ((other : ℕ) → IfSome (old other) (P other)) → (other : ℕ) → IfSome (new other) (P other)
now_each P call standing old new now its each other = now_or P call other (other == call) standing (old other) (new other) refl (now other) its (each other)

pub ended_about : (numbers : List ℕ) (call place : ℕ) (first : Says × Phase) (old new : Holding) (t : AnswerView) → IsAbout call first.1 → (is : IsTalked numbers call place first old new t) → IsAbout call is.phase
ended_about numbers call place first old new t about is = let P : (Says × Phase) → Type 0 = λ p. IsAbout call p.1 in subst P is.talk (talked_about call first is.gots about)

talked_placed : (count : ℕ) (numbers : List ℕ) (call place : ℕ) (first : Says × Phase) (old new : Holding) (t : AnswerView) → place < count → IsAbout call first.1
    → IsTalked numbers call place first old new t → ArePlaced count old.talks → ArePlaced count new.talks
talked_placed count numbers call place first old new t within about is placed =
    now_each (λ c s. IsPlaced count c s) call (record { phase = is.phase; place = place }) old.talks new.talks is.talks
    (record { placed = within; about = ended_about numbers call place first old new t about is }) placed

placed_by : (setup : Setup) (numbers : List ℕ) (post : Post) (v : Verdict) (old new : Holding) (t : AnswerView) → ArePlaced (length setup.accounts) old.talks
    → Means setup old.talks post.number post.at post.body v → IsDone setup numbers post.at v old new t → ArePlaced (length setup.accounts) new.talks
placed_by setup numbers post Strays old new t placed m done = stay_each (λ c s. IsPlaced (length setup.accounts) c s) old.talks new.talks done.talks placed
placed_by setup numbers post Rejects old new t placed m done = stay_each (λ c s. IsPlaced (length setup.accounts) c s) old.talks new.talks done.talks placed
placed_by setup numbers post (Recharges place amount until) old new t placed m done =
    stay_each (λ c s. IsPlaced (length setup.accounts) c s) old.talks new.talks done.talks placed
placed_by setup numbers post (Begins call place called) old new t placed m done =
    talked_placed (length setup.accounts) numbers call place (on_begin call post.at setup.service.wanted setup.service.least done.route) old new t m.within
    (begun_about call post.at setup.service.wanted setup.service.least done.route) done.talked placed
placed_by setup numbers post (GoesOn call place said phase) old new t placed m done =
    let its = standing_so (λ s. IsPlaced (length setup.accounts) call s) m.standing (old.talks call) m.stands (placed call) in
    let takes : TakesTo call post.number m.message (Ok (said, phase)) =
    let P : Step → Type 0 = λ step. TakesTo call post.number m.message step in
    subst P m.takes (takes_answer call post.number post.at m.standing.phase m.message its.about) in
    talked_placed (length setup.accounts) numbers call place (said, phase) old new t (rw (← m.same) its.placed) takes.0 done placed

-- each dialogue is still about its call, and has its account
pub placed_after : (setup : Setup) (numbers : List ℕ) (post : Post) (old new : Holding) (t : AnswerView) → ArePlaced (length setup.accounts) old.talks
    → IsDone setup numbers post.at (verdict setup old.talks post) old new t → ArePlaced (length setup.accounts) new.talks
placed_after setup numbers post old new t placed done =
    placed_by setup numbers post (verdict setup old.talks post) old new t placed (means_on setup old.talks post.number post.at post.body) done
