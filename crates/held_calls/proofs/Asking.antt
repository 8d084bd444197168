-- What a dialogue asks first for a post is entered, where nothing is refused.
use Rattle.std.proofs.Common.{◌≡◌, ◌<◌, ◌++◌, ◌∙◌, ℕ, zero, suc, Bool, true, false, Option, Some, None, Ok, Err, List, [], ◌∷◌, length, map, refl, sym, ap, subst, arith}
use Rattle.std.specs.Prelude.{◌==◌, Contains, if◌then◌else◌, slice_index_or}
use Rattle.std.specs.Map.{keys_of}
use Rattle.std.proofs.lemmas.List.{map-append}
use Rattle.std.proofs.lemmas.List.Elements.{All-head, All-tail, Contains-append_left, Contains-append_right, Contains-push}
use Rattle.account_core.specs.Asked.{Asked}
use Rattle.account_core.specs.Entries.{EntryData}
use Rattle.account_core.specs.declared.fault.AccountFault.{AccountFault}
use Rattle.cap_values.specs.NumberDigits.{digits_of_number}
use Rattle.cap_values.specs.declared.message.SsfMsg.{SsfMsg}
use Rattle.cap_values.specs.declared.message.SsfMsg.TheVariants as msg
use Rattle.cap_values.specs.declared.number.Number.{Number}
use Rattle.dialogue_core.specs.Phases.{Conditions, Phase, Says, FirstAsk, Running, Asks}
use Rattle.dialogue_core.specs.Rules.{on_begin, conditions, reserve, on_message}
use Rattle.tariff_core.specs.Routes.{HasNoRoute}
use Rattle.price_core.specs.declared.route.Route.{Route}
use Rattle.held_calls.proofs.Chaining.{all_sound, first_sound}
use Rattle.held_calls.proofs.Growing.{place_within}
use Rattle.runs_core.proofs.Handling.{Means, home_within, means_on, same_number}
use Rattle.held_calls.proofs.Sound.{many_keys, own_of}
use Rattle.runs_core.specs.Chains.{at_first, seat_numbers}
use Rattle.held_calls.specs.Chains.{AreHandled, IsHandledOnce}
use Rattle.runs_core.specs.Handled.{Holding, IsBegun, IsDone, IsTalked, AnswerView, grown}
use Rattle.held_calls.specs.Workers.{CallsAreReserved, HasNoDialogue, IsHandledAfter, IsReserved, IsRunning, PostsAreHandled, asked_at}
use Rattle.run_values.specs.Setups.{Setup, account_of}
use Rattle.dialogue_core.specs.Talks.{Got, is_ask, talked}
use Rattle.runs_core.specs.Talks.{entries_of, entry_of, last_fault}
use Rattle.runs_core.specs.Verdicts.{DialogueAt, IsRouted, Verdict, Strays, Rejects, Recharges, Begins, GoesOn, begins, goes_on, home_of, spoken, verdict_on}
use Rattle.held_calls.specs.Sound.{IsSoundHolding}
use Rattle.run_values.specs.declared.post.Body.TheVariants.{Ssf}
use Rattle.run_values.specs.declared.post.Post.{Post}

-- ---- a worker's posts, cut at one

record IsCut (setup : Setup) (numbers : List ℕ) (before : List Post) (post : Post) (after : List Post) (start new : Holding) : Type 0 where
  old : Holding
  refused : List (Option AccountFault)
  begins : AreHandled setup numbers before refused start old
  between : Holding
  handles : IsHandledOnce setup numbers post None old between
  refused_after : List (Option AccountFault)
  ends : AreHandled setup numbers after refused_after between new

cut : (setup : Setup) (numbers : List ℕ) (before : List Post) (post : Post) (after : List Post) (refusals : List (Option AccountFault)) (start new : Holding)
    → AreHandled setup numbers (before ++ post ∷ after) refusals start new → slice_index_or refusals (length before) None ≡ None → IsCut setup numbers before post after start new
cut setup numbers [] post after [] start new are none = absurd are
cut setup numbers [] post after (refusal ∷ refusals) start new are none = record {
  old = start;
  refused = [];
  begins = refl;
  between = are.0;
  handles = subst (λ r. IsHandledOnce setup numbers post r start are.0) none are.1;
  refused_after = refusals;
  ends = are.2;
}
cut setup numbers (first ∷ before) post after [] start new are none = absurd are
cut setup numbers (first ∷ before) post after (refusal ∷ refusals) start new are none =
    let rest = cut setup numbers before post after refusals are.0 new are.2 none in
    record {
      old = rest.old;
      refused = refusal ∷ rest.refused;
      begins = (are.0, are.1, rest.begins);
      between = rest.between;
      handles = rest.handles;
      refused_after = rest.refused_after;
      ends = rest.ends;
    }

pub posts_are_handled : PostsAreHandled
posts_are_handled setup number before post after refusals lists is none =
    let at = cut setup (seat_numbers number setup) before post after refusals (at_first setup) (record { lists = lists; talks = is.talks }) is.chain none in (
      at.old,
      record {
        refused = at.refused;
        begins = at.begins;
        between = at.between;
        handles = at.handles;
        after = after;
        refused_after = at.refused_after;
        new = record { lists = lists; talks = is.talks };
        ends = at.ends;
        lists_are = refl;
      },
    )

-- ---- an entry stays

stays_grown : (lists : List (List EntryData)) (at place : ℕ) (entries : List EntryData) (asked : Asked) → Contains (asked_at lists place) asked → Contains (asked_at (grown lists at entries) place) asked
stays_grown [] at place entries asked has = has
stays_grown (mine ∷ lists) zero zero entries asked has =
    rw (map-append (λ (e : EntryData). e.asked) mine entries) (Contains-append_left (map (λ (e : EntryData). e.asked) mine) (map (λ (e : EntryData). e.asked) entries) asked has)
stays_grown (mine ∷ lists) zero (suc place) entries asked has = has
stays_grown (mine ∷ lists) (suc at) zero entries asked has = has
stays_grown (mine ∷ lists) (suc at) (suc place) entries asked has = stays_grown lists at place entries asked has

stays_by : (setup : Setup) (numbers : List ℕ) (at : ℕ) (v : Verdict) (old new : Holding) (t : AnswerView) (place : ℕ) (asked : Asked) → IsDone setup numbers at v old new t
    → Contains (asked_at old.lists place) asked → Contains (asked_at new.lists place) asked
stays_by setup numbers at Strays old new t place asked done has = rw done.lists has
stays_by setup numbers at Rejects old new t place asked done has = rw done.lists has
stays_by setup numbers at (Recharges there amount until) old new t place asked done has = rw done.lists (stays_grown old.lists there place _ asked has)
stays_by setup numbers at (Begins call there called) old new t place asked done has = rw done.talked.lists (stays_grown old.lists there place _ asked has)
stays_by setup numbers at (GoesOn call there said phase) old new t place asked done has = rw done.lists (stays_grown old.lists there place _ asked has)

stays_after : (setup : Setup) (numbers : List ℕ) (posts : List Post) (refusals : List (Option AccountFault)) (old new : Holding) (place : ℕ) (asked : Asked) → AreHandled setup numbers posts refusals old new
    → Contains (asked_at old.lists place) asked → Contains (asked_at new.lists place) asked
stays_after setup numbers [] [] old new place asked are has = let P : Holding → Type 0 = λ h. Contains (asked_at h.lists place) asked in subst P are has
stays_after setup numbers [] (refusal ∷ refusals) old new place asked are has = absurd are
stays_after setup numbers (post ∷ posts) [] old new place asked are has = absurd are
stays_after setup numbers (post ∷ posts) (refusal ∷ refusals) old new place asked are has =
    stays_after setup numbers posts refusals are.0 new place asked are.2
    (stays_by setup numbers post.at (verdict_on setup old.talks post.number post.at post.body) old are.0 are.1.answer place asked are.1.handled.done has)

-- ---- what is asked first is entered

-- with no fault, each ask got a reply, the first too
first_entered : (seat : ℕ) (asked : Asked) (to : Phase) (got : Got) (earlier : List Got) → last_fault (got ∷ earlier) ≡ None
    → Contains (map (λ (e : EntryData). e.asked) (entries_of seat (Asks asked, to) (got ∷ earlier))) asked
first_entered seat asked to (Err fault) earlier none = absurd (cc)
first_entered seat asked to (Ok reply) [] none = Contains-push [] asked
first_entered seat asked to (Ok reply) (last ∷ earlier) none =
    let before = entries_of seat (Asks asked, to) (last ∷ earlier) in
    let more = entry_of seat (talked (Asks asked, to) (last ∷ earlier)).0 (Ok reply) in
    rw (map-append (λ (e : EntryData). e.asked) before more)
    (Contains-append_left (map (λ (e : EntryData). e.asked) before) (map (λ (e : EntryData). e.asked) more) asked (first_entered seat asked to last earlier none))

-- a talk that begins with an ask isn't over before the ask got something
talk_enters : (seat : ℕ) (asked : Asked) (to phase : Phase) (last : Says) (gots : List Got) → talked (Asks asked, to) gots ≡ (last, phase) → is_ask last ≡ false → last_fault gots ≡ None
    → Contains (map (λ (e : EntryData). e.asked) (entries_of seat (Asks asked, to) gots)) asked
talk_enters seat asked to phase last [] talk rests none =
    let is : Asks asked ≡ last = ap (λ (p : Says × Phase). p.0) talk in let never : true ≡ false = ap is_ask is ∙ rests in absurd (cc)
talk_enters seat asked to phase last (got ∷ earlier) talk rests none = first_entered seat asked to got earlier none

here_grown : (lists : List (List EntryData)) (place : ℕ) (entries : List EntryData) (asked : Asked) → place < length lists → Contains (map (λ (e : EntryData). e.asked) entries) asked
    → Contains (asked_at (grown lists place entries) place) asked
here_grown [] place entries asked within has = absurd (omega (arith, within))
here_grown (mine ∷ lists) zero entries asked within has =
    rw (map-append (λ (e : EntryData). e.asked) mine entries) (Contains-append_right (map (λ (e : EntryData). e.asked) mine) (map (λ (e : EntryData). e.asked) entries) asked has)
here_grown (mine ∷ lists) (suc place) entries asked within has = here_grown lists place entries asked (omega (arith, within)) has

asks_first : (numbers : List ℕ) (call place : ℕ) (asked : Asked) (to : Phase) (old new : Holding) (t : AnswerView) → place < length old.lists → t.refused ≡ None
    → IsTalked numbers call place (Asks asked, to) old new t → Contains (asked_at new.lists place) asked
asks_first numbers call place asked to old new t within none is =
    rw is.lists
    (here_grown old.lists place _ asked within (talk_enters (slice_index_or numbers place 0) asked to is.phase is.last is.gots is.talk is.rests (sym is.refused ∙ none)))

-- ---- what a worker holds before the post

none_yet : (call its : ℕ) (b : Bool) (standing : DialogueAt) (found after : Option DialogueAt) → (call == its) ≡ b → after ≡ (if b then Some standing else found) → found ≡ None → (call ≡ its → ⊥) → after ≡ None
none_yet call its true standing found after is now none not = absurd (not (same_number call its is))
none_yet call its false standing found after is now none not = now ∙ none

none_once : (setup : Setup) (numbers : List ℕ) (call : ℕ) (post : Post) (v : Verdict) (old new : Holding) (t : AnswerView) → Means setup old.talks post.number post.at post.body v
    → IsDone setup numbers post.at v old new t → ((other : ℕ) (calling called : Number) → post.body ≡ Ssf call (msg.InitialDp other calling called) → home_of calling setup ≡ None)
    → old.talks call ≡ None → new.talks call ≡ None
none_once setup numbers call post Strays old new t m done fresh none = done.talks call ∙ none
none_once setup numbers call post Rejects old new t m done fresh none = done.talks call ∙ none
none_once setup numbers call post (Recharges place amount until) old new t m done fresh none = done.talks call ∙ none
none_once setup numbers call post (Begins its place called) old new t m done fresh none =
    none_yet call its (call == its) _ (old.talks call) (new.talks call) refl (done.talked.talks call) none
    (λ same. let is = m.is ∙ ap (λ c. Ssf c (msg.InitialDp m.other m.calling called)) (sym same) in let no = fresh m.other m.calling called is in let home = m.home in absurd (cc))
none_once setup numbers call post (GoesOn its place said phase) old new t m done fresh none =
    none_yet call its (call == its) _ (old.talks call) (new.talks call) refl (done.talks call) none
    (λ same. let P : ℕ → Type 0 = λ c. old.talks c ≡ Some m.standing in let stands = subst P (sym same) m.stands in absurd (cc))

none_after : (setup : Setup) (numbers : List ℕ) (call : ℕ) (posts : List Post) (refusals : List (Option AccountFault)) (old new : Holding) → HasNoDialogue setup posts call
    → AreHandled setup numbers posts refusals old new → old.talks call ≡ None → new.talks call ≡ None
none_after setup numbers call [] [] old new fresh are none = let P : Holding → Type 0 = λ h. h.talks call ≡ None in subst P are none
none_after setup numbers call [] (refusal ∷ refusals) old new fresh are none = absurd are
none_after setup numbers call (post ∷ posts) [] old new fresh are none = absurd are
none_after setup numbers call (post ∷ posts) (refusal ∷ refusals) old new fresh are none =
    let IsFresh : Post → Type 0 = λ p. (other : ℕ) (calling called : Number) → p.body ≡ Ssf call (msg.InitialDp other calling called) → home_of calling setup ≡ None in
    let between = none_once setup numbers call post (verdict_on setup old.talks post.number post.at post.body) old are.0 are.1.answer (means_on setup old.talks post.number post.at post.body)
    are.1.handled.done (All-head IsFresh post posts fresh) none in
    none_after setup numbers call posts refusals are.0 new (All-tail IsFresh post posts fresh) are.2 between

-- ---- a call begins

reserved_by : (setup : Setup) (numbers : List ℕ) (call place at : ℕ) (called : Number) (route : Option Route) (old new : Holding) (t : AnswerView) → place < length old.lists → t.refused ≡ None
    → (HasNoRoute setup.tariff (digits_of_number called) → ⊥) → IsRouted setup.tariff (digits_of_number called) at route
    → IsTalked numbers call place (on_begin call at setup.service.wanted setup.service.least route) old new t → IsReserved setup call called at (asked_at new.lists place)
reserved_by setup numbers call place at called None old new t within none has routed talk = absurd (has routed)
reserved_by setup numbers call place at called (Some route) old new t within none has routed talk = record {
  route = route;
  routed = routed;
  stands =
      let terms : Conditions = conditions call at setup.service.wanted setup.service.least route in
      asks_first numbers call place (reserve terms at) (FirstAsk terms) old new t within none talk;
}

pub calls_are_reserved : CallsAreReserved
calls_are_reserved setup number before post lists old call other place calling called is fresh body home has =
    let numbers = seat_numbers number setup in
    let sound = all_sound setup numbers [] before is.refused (at_first setup) old (first_sound setup) is.begins in
    let none : old.talks call ≡ None = none_after setup numbers call before is.refused (at_first setup) old fresh is.begins refl in
    let verdict_is : verdict_on setup old.talks post.number post.at post.body ≡ Begins call place called =
    ap (verdict_on setup old.talks post.number post.at) body ∙ ap (spoken setup post.number post.at call (msg.InitialDp other calling called)) none ∙ ap (begins call called) home in
    let begins : IsBegun setup numbers post.at call place called old is.between is.handles.answer =
    subst (λ v. IsDone setup numbers post.at v old is.between is.handles.answer) verdict_is is.handles.handled.done in
    let reserved = reserved_by setup numbers call place post.at called begins.route old is.between is.handles.answer
    (place_within setup before old place sound (home_within setup (account_of calling setup.subscribers) place home)) is.handles.refused has begins.routed begins.talked in
    record {
      route = reserved.route;
      routed = reserved.routed;
      stands = rw (← is.lists_are) (stays_after setup numbers is.after is.refused_after is.between is.new place _ is.ends reserved.stands);
    }

-- ---- a call that goes on

-- its dialogue takes a message and asks the account at its place for something
pub record IsTaken (setup : Setup) (number : ℕ) (before : List Post) (post : Post) (lists : List (List EntryData)) (old : Holding) (call place : ℕ) (is : IsHandledAfter setup number before post lists old) (said : Says) (to : Phase) : Type 0 where
  pub sound : IsSoundHolding (keys_of setup.accounts) before old
  pub within : place < length old.lists
  pub talk : IsTalked (seat_numbers number setup) call place (said, to) old is.between is.handles.answer

pub taken_on : (setup : Setup) (number : ℕ) (before : List Post) (post : Post) (lists : List (List EntryData)) (old : Holding) (call place : ℕ) (message : SsfMsg) (said : Says) (to : Phase)
    → (is : IsHandledAfter setup number before post lists old) → (running : IsRunning old call place) → post.body ≡ Ssf call message
    → on_message (Running running.terms) post.number post.at message ≡ Ok (said, to)
    → IsTaken setup number before post lists old call place is said to × (running.terms.call ≡ call)
taken_on setup number before post lists old call place message said to is running body takes =
    let numbers = seat_numbers number setup in
    let standing : DialogueAt = record { phase = Running running.terms; place = place } in
    let sound = all_sound setup numbers [] before is.refused (at_first setup) old (first_sound setup) is.begins in
    let own = own_of (length (keys_of setup.accounts)) before call standing (old.talks call) running.is (sound.talks call) in
    let verdict_is : verdict_on setup old.talks post.number post.at post.body ≡ GoesOn call place said to =
    ap (verdict_on setup old.talks post.number post.at) body ∙ ap (spoken setup post.number post.at call message) running.is ∙ ap (goes_on call place) takes in (
      record {
        sound = sound;
        within = place_within setup before old place sound (rw (← many_keys setup) own.is.placed);
        talk = subst (λ v. IsDone setup numbers post.at v old is.between is.handles.answer) verdict_is is.handles.handled.done;
      },
      own.is.about,
    )
