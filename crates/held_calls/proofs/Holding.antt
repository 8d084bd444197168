-- Whatever a worker has handled, its entries show each call as its dialogue is.
use Rattle.std.proofs.Common.{◌≡◌, ◌≢◌, ◌<◌, ◌++◌, ◌∙◌, ℕ, Bool, true, false, Option, Some, None, Ok, List, [], ◌∷◌, length, refl, sym, ap, subst, arith}
use Rattle.std.specs.Map.{keys_of}
use Rattle.std.specs.Prelude.{◌==◌, if◌then◌else◌, reverse, slice_index_or}
use Rattle.std.proofs.lemmas.Bool.Decides.{nat_tests}
use Rattle.std.proofs.lemmas.Grind.{flat_map-append}
use Rattle.account_core.specs.Asked.{Credits}
use Rattle.account_core.specs.Entries.{EntryData}
use Rattle.account_core.specs.Known.{CallFacts, known}
use Rattle.account_core.specs.declared.fault.AccountFault.{AccountFault}
use Rattle.dialogue_core.specs.Phases.{Phase, Says, Asks}
use Rattle.dialogue_core.specs.Rules.{Step, on_begin, on_message}
use Rattle.dialogue_core.specs.Talks.{talked}
use Rattle.held_calls.proofs.Entries.{credit_entry, grown_apart, grown_elsewhere, grown_here, known_same, of_call-append, other_entries, own_entries, talk_stands}
use Rattle.held_calls.proofs.Rules.{Stands, StepStands, begun_stands, answer_stands}
use Rattle.held_calls.specs.Held.{CallsAreHeld, IsHeldBy, IsShown, entries_at, facts_at}
use Rattle.run_values.specs.Setups.{Setup}
use Rattle.run_values.specs.declared.post.Post.{Post}
use Rattle.account_core.proofs.Owning.{known_alike}
use Rattle.account_core.specs.Own.{of_call}
use Rattle.runs_core.proofs.OwnCalls.{SaysOf, TakesTo, begun_about, takes_answer}
use Rattle.held_calls.proofs.Talked.{begun_says}
use Rattle.held_calls.proofs.Chaining.{first_sound, once_sound}
use Rattle.held_calls.proofs.Entering.{none_at_first}
use Rattle.held_calls.proofs.Growing.{place_within}
use Rattle.runs_core.proofs.Handling.{Means, means_on, same_number}
use Rattle.held_calls.proofs.Sound.{is_itself, many_keys, own_of}
use Rattle.held_calls.proofs.Through.{ReturnsLast, StepReturnsLast, is_through, last_begun, last_answer, not_before, over_answer, returns_none, through_still, StepIsOver}
use Rattle.runs_core.specs.Chains.{at_first, seat_numbers}
use Rattle.held_calls.specs.Chains.{AreHandled}
use Rattle.runs_core.specs.Handled.{AnswerView, Holding, IsDone, IsTalked}
use Rattle.runs_core.specs.Served.{returned_in, returns_of}
use Rattle.runs_core.specs.Talks.{entries_of, entry_of}
use Rattle.runs_core.specs.Verdicts.{DialogueAt, Verdict, Strays, Rejects, Recharges, Begins, GoesOn, verdict_on}
use Rattle.runs_core.specs.Workers.{IsAbout}
use Rattle.held_calls.specs.Sound.{IsSoundHolding}

-- ---- a call that is held, and has no Return before its dialogue is through

abbrev pub Unreturned : List (List EntryData) → ℕ → Option DialogueAt → Type 0
Unreturned lists call None = Unit {0}
Unreturned lists call (Some standing) = is_through standing.phase ≡ false → returns_of (entries_at call lists standing.place) ≡ []

abbrev pub IsKept : List (List EntryData) → ℕ → Option DialogueAt → Type 0
IsKept lists call found = IsHeldBy lists call found × Unreturned lists call found

abbrev pub AreKept : Holding → Type 0
AreKept held = (call : ℕ) → IsKept held.lists call (held.talks call)

-- the entries of a call are the same
abbrev pub SameEntries : ℕ → List (List EntryData) → List (List EntryData) → Type 0
SameEntries call lists grew = (place : ℕ) → entries_at call grew place ≡ entries_at call lists place

same_kept : (call : ℕ) (lists grew : List (List EntryData)) (found : Option DialogueAt) → SameEntries call lists grew → IsKept lists call found → IsKept grew call found
same_kept call lists grew None same kept = ((λ place. same place ∙ kept.0 place), tt)
same_kept call lists grew (Some standing) same kept = (
  record {
    alone = λ place differ. same place ∙ kept.0.alone place differ;
    shown = subst (λ (facts : CallFacts). IsShown standing.phase facts) (sym (known_same call lists grew standing.place (same standing.place))) kept.0.shown;
  },
  λ not. ap returns_of (same standing.place) ∙ kept.1 not,
)

-- where neither its entries nor its dialogue have changed
pub kept_still : (call : ℕ) (old new : Holding) → SameEntries call old.lists new.lists → new.talks call ≡ old.talks call → IsKept old.lists call (old.talks call)
    → IsKept new.lists call (new.talks call)
kept_still call old new same talks kept =
    subst (λ (found : Option DialogueAt). IsKept new.lists call found) (sym talks) (same_kept call old.lists new.lists (old.talks call) same kept)

pub same_lists : (call : ℕ) (old new : Holding) → new.lists ≡ old.lists → SameEntries call old.lists new.lists
same_lists call old new is place = ap (λ (lists : List (List EntryData)). entries_at call lists place) is

-- ---- a talk

-- the entries of a call are the same, and so is its dialogue
abbrev pub IsUnmoved : ℕ → Holding → Holding → Type 0
IsUnmoved call old new = SameEntries call old.lists new.lists × (new.talks call ≡ old.talks call)

pub apart_from : (call its : ℕ) → (call == its) ≡ false → call ≢ its
apart_from call its is same = let same_too : (call == its) ≡ true = grind (arith, nat_tests, same) in absurd (cc)

-- a talk of another call
pub talk_apart : (numbers : List ℕ) (call its at : ℕ) (first : Says × Phase) (old new : Holding) (t : AnswerView) → (call == its) ≡ false → IsAbout its first.1 → SaysOf its first.0
    → IsTalked numbers its at first old new t → IsUnmoved call old new
talk_apart numbers call its at first old new t differs about says is =
    let entries = entries_of (slice_index_or numbers at 0) first is.gots in (
      λ place.
          ap (λ (lists : List (List EntryData)). entries_at call lists place) is.lists
          ∙ grown_apart call at entries old.lists place (other_entries (slice_index_or numbers at 0) call its first is.gots (apart_from call its differs) about says),
      is.talks call ∙ ap (λ (b : Bool). if b then Some (record { phase = is.phase; place = at }) else old.talks call) differs,
    )

-- what the entries of the call are at its account after a talk of it, and where its dialogue is
pub record IsSaid (seat call at : ℕ) (first : Says × Phase) (gots : List _) (old new : Holding) (phase : Phase) : Type 0 where
  pub here : slice_index_or new.lists at [] ≡ slice_index_or old.lists at [] ++ entries_of seat first gots
  pub own : entries_at call new.lists at ≡ entries_at call old.lists at ++ entries_of seat first gots
  pub elsewhere : (place : ℕ) → place ≢ at → entries_at call new.lists place ≡ entries_at call old.lists place
  pub now : new.talks call ≡ Some (record { phase = phase; place = at })

pub talk_said : (numbers : List ℕ) (call at : ℕ) (first : Says × Phase) (old new : Holding) (t : AnswerView) → at < length old.lists → IsAbout call first.1 → SaysOf call first.0
    → (is : IsTalked numbers call at first old new t) → IsSaid (slice_index_or numbers at 0) call at first is.gots old new is.phase
talk_said numbers call at first old new t within about says is =
    let seat : ℕ = slice_index_or numbers at 0 in
    let entries = entries_of seat first is.gots in
    let here : slice_index_or new.lists at [] ≡ slice_index_or old.lists at [] ++ entries =
    ap (λ (lists : List (List EntryData)). slice_index_or lists at []) is.lists ∙ grown_here at entries old.lists within in
    record {
      here = here;
      own =
          ap (of_call call) here ∙ of_call-append call (slice_index_or old.lists at []) entries
          ∙ ap (λ l. entries_at call old.lists at ++ l) (own_entries seat call first is.gots about says);
      elsewhere = λ place differ.
          ap (λ (lists : List (List EntryData)). entries_at call lists place) is.lists ∙ ap (of_call call) (grown_elsewhere at entries old.lists place differ);
      now = is.talks call ∙ ap (λ (b : Bool). if b then Some (record { phase = is.phase; place = at }) else old.talks call) (is_itself call);
    }

-- what a talk of a call needs of it, and leaves of it
pub record IsBound (call at : ℕ) (first : Says × Phase) (lists : List (List EntryData)) : Type 0 where
  pub about : IsAbout call first.1
  pub says : SaysOf call first.0
  pub last : ReturnsLast first.0 first.1
  pub alone : (place : ℕ) → place ≢ at → entries_at call lists place ≡ []
  pub stands : Stands (facts_at call lists at) first
  pub unreturned : is_through first.1 ≡ false → returns_of (entries_at call lists at) ≡ []

own_kept : (numbers : List ℕ) (call at : ℕ) (first : Says × Phase) (old new : Holding) (t : AnswerView) → at < length old.lists → IsBound call at first old.lists
    → IsTalked numbers call at first old new t → IsKept new.lists call (new.talks call)
own_kept numbers call at first old new t within bound is =
    let seat : ℕ = slice_index_or numbers at 0 in
    let mine = slice_index_or old.lists at [] in
    let said = talk_said numbers call at first old new t within bound.about bound.says is in
    let stands = talk_stands call seat mine first is.gots bound.about bound.says is.asked bound.stands in
    let fits : IsShown is.phase (known call (reverse (mine ++ entries_of seat first is.gots))) =
    subst (λ (p : Says × Phase). IsShown p.1 (known call (reverse (mine ++ entries_of seat first is.gots)))) is.talk stands.1 in
    let shown : IsShown is.phase (facts_at call new.lists at) = subst (λ (l : List EntryData). IsShown is.phase (known call (reverse l))) (sym said.here) fits in
    subst (λ (found : Option DialogueAt). IsKept new.lists call found) (sym said.now) (
      record { alone = λ place differ. said.elsewhere place differ ∙ bound.alone place differ; shown = shown },
      λ not.
          let ends : is_through (talked first is.gots).1 ≡ false = ap (λ (p : Says × Phase). is_through p.1) is.talk ∙ not in
          let began : is_through first.1 ≡ false = not_before (is_through first.1) (is_through (talked first is.gots).1) (through_still first is.gots) ends in
          ap returns_of said.own ∙ flat_map-append (λ (e : EntryData). returned_in e.asked) (entries_at call old.lists at) (entries_of seat first is.gots)
          ∙ ap (λ l. l ++ returns_of (entries_of seat first is.gots)) (bound.unreturned began) ∙ returns_none seat first is.gots bound.last ends,
    )

talk_kept : (numbers : List ℕ) (call its at : ℕ) (first : Says × Phase) (old new : Holding) (t : AnswerView) (b : Bool) → (call == its) ≡ b → at < length old.lists → IsBound its at first old.lists
    → IsTalked numbers its at first old new t → IsKept old.lists call (old.talks call) → IsKept new.lists call (new.talks call)
talk_kept numbers call its at first old new t true same within bound is kept =
    subst (λ (c : ℕ). IsKept new.lists c (new.talks c)) (sym (same_number call its same)) (own_kept numbers its at first old new t within bound is)
talk_kept numbers call its at first old new t false same within bound is kept =
    let unmoved = talk_apart numbers call its at first old new t same bound.about bound.says is in kept_still call old new unmoved.0 unmoved.1 kept

-- ---- what a dialogue needs of its call

pub begins_bound : (lists : List (List EntryData)) (call at now wanted least : ℕ) (route : Option _) → ((place : ℕ) → entries_at call lists place ≡ [])
    → IsBound call at (on_begin call now wanted least route) lists
begins_bound lists call at now wanted least route none = record {
  about = begun_about call now wanted least route;
  says = begun_says call now wanted least route;
  last = last_begun call now wanted least route;
  alone = λ place differ. none place;
  stands =
      let unknown = known_alike call (slice_index_or lists at []) [] (none at) in
      begun_stands (facts_at call lists at) call now wanted least route (ap (λ (k : CallFacts). k.returned) unknown);
  unreturned = λ not. ap returns_of (none at);
}

pub goes_bound : (lists : List (List EntryData)) (call at number now : ℕ) (from : Phase) (message : _) (said : Says) (phase : Phase) → IsAbout call from
    → on_message from number now message ≡ Ok (said, phase) → IsKept lists call (Some (record { phase = from; place = at })) → IsBound call at (said, phase) lists
goes_bound lists call at number now from message said phase about takes kept =
    let to : TakesTo call number message (Ok (said, phase)) = subst (λ (step : Step). TakesTo call number message step) takes (takes_answer call number now from message about) in
    record {
      about = to.0;
      says = to.1;
      last = subst StepReturnsLast takes (last_answer number now from message);
      alone = kept.0.alone;
      stands = subst (λ (step : Step). StepStands (facts_at call lists at) step) takes (answer_stands (facts_at call lists at) number now from message kept.0.shown);
      unreturned = λ not.
          let through : is_through from ≡ true → is_through phase ≡ true =
          λ is. let over : StepIsOver (Ok (said, phase)) = subst StepIsOver takes (over_answer number now from message is) in over.1 in
          kept.1 (not_before (is_through from) (is_through phase) through not);
    }

-- ---- post by post

kept_by : (setup : Setup) (numbers : List ℕ) (posts : List Post) (post : Post) (v : Verdict) (old new : Holding) (t : AnswerView) → IsSoundHolding (keys_of setup.accounts) posts old → AreKept old
    → Means setup old.talks post.number post.at post.body v → IsDone setup numbers post.at v old new t → AreKept new
kept_by setup numbers posts post Strays old new t sound kept m done call = kept_still call old new (same_lists call old new done.lists) (done.talks call) (kept call)
kept_by setup numbers posts post Rejects old new t sound kept m done call = kept_still call old new (same_lists call old new done.lists) (done.talks call) (kept call)
kept_by setup numbers posts post (Recharges there amount until) old new t sound kept m done call =
    let seat : ℕ = slice_index_or numbers there 0 in
    kept_still call old new
    (λ place.
    ap (λ (lists : List (List EntryData)). entries_at call lists place) done.lists
    ∙ grown_apart call there (entry_of seat (Asks (Credits amount until)) done.got) old.lists place (credit_entry seat call amount until done.got)) (done.talks call) (kept call)
kept_by setup numbers posts post (Begins its at called) old new t sound kept m done call =
    let first = on_begin its post.at setup.service.wanted setup.service.least done.route in
    let none : IsKept old.lists its None = subst (λ (found : Option DialogueAt). IsKept old.lists its found) m.none (kept its) in
    talk_kept numbers call its at first old new t (call == its) refl (place_within setup posts old at sound m.within)
    (begins_bound old.lists its at post.at setup.service.wanted setup.service.least done.route none.0) done.talked (kept call)
kept_by setup numbers posts post (GoesOn its at said phase) old new t sound kept m done call =
    let own = own_of (length (keys_of setup.accounts)) posts its m.standing (old.talks its) m.stands (sound.talks its) in
    let its_own : IsKept old.lists its (Some m.standing) = subst (λ (found : Option DialogueAt). IsKept old.lists its found) m.stands (kept its) in
    let here : IsKept old.lists its (Some (record { phase = m.standing.phase; place = at })) =
    subst (λ (place : ℕ). IsKept old.lists its (Some (record { phase = m.standing.phase; place = place }))) m.same its_own in
    talk_kept numbers call its at (said, phase) old new t (call == its) refl (place_within setup posts old at sound (rw (← m.same, ← many_keys setup) own.is.placed))
    (goes_bound old.lists its at post.number post.at m.standing.phase m.message said phase own.is.about m.takes here) done (kept call)

pub kept_once : (setup : Setup) (numbers : List ℕ) (posts : List Post) (post : Post) (old new : Holding) (t : AnswerView) → IsSoundHolding (keys_of setup.accounts) posts old → AreKept old
    → IsDone setup numbers post.at (verdict_on setup old.talks post.number post.at post.body) old new t → AreKept new
kept_once setup numbers posts post old new t sound kept done =
    kept_by setup numbers posts post (verdict_on setup old.talks post.number post.at post.body) old new t sound kept (means_on setup old.talks post.number post.at post.body) done

pub first_kept : (setup : Setup) → AreKept (at_first setup)
first_kept setup call = ((λ place. ap (of_call call) (none_at_first setup.accounts place)), tt)

pub kept_all : (setup : Setup) (numbers : List ℕ) (done posts : List Post) (refusals : List (Option AccountFault)) (old new : Holding) → IsSoundHolding (keys_of setup.accounts) done old → AreKept old
    → AreHandled setup numbers posts refusals old new → AreKept new
kept_all setup numbers done [] [] old new sound kept are = subst AreKept are kept
kept_all setup numbers done [] (refusal ∷ refusals) old new sound kept are = absurd are
kept_all setup numbers done (post ∷ posts) [] old new sound kept are = absurd are
kept_all setup numbers done (post ∷ posts) (refusal ∷ refusals) old new sound kept are =
    kept_all setup numbers (done ++ post ∷ []) posts refusals are.0 new (once_sound setup numbers done post refusal old are.0 sound are.1)
    (kept_once setup numbers done post old are.0 are.1.answer sound kept are.1.handled.done) are.2

pub calls_held : CallsAreHeld
calls_held setup number posts refusals held are call = (kept_all setup (seat_numbers number setup) [] posts refusals (at_first setup) held (first_sound setup) (first_kept setup) are call).0
