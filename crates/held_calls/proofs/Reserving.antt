-- Each Reserve of a worker is on the terms that its call began on.
use Rattle.std.proofs.Common.{◌≡◌, ◌++◌, ◌∙◌, ℕ, zero, suc, Bool, true, false, Option, Some, None, Ok, Err, List, [], ◌∷◌, refl, sym, ap, subst, All, append-nil}
use Rattle.std.specs.Prelude.{◌==◌, IfSome, if◌then◌else◌, slice_index_or}
use Rattle.std.proofs.lemmas.List.{append_assoc}
use Rattle.std.proofs.lemmas.List.Elements.{All-append, All-cons, All-nil, All-weaker, Contains-append_left, Contains-push}
use Rattle.account_core.specs.Asked.{Asked, Credits, Reserves, Returns, Settles}
use Rattle.account_core.specs.Entries.{EntryData}
use Rattle.account_core.specs.declared.entry.Reply.{Reply}
use Rattle.account_core.specs.declared.entry.Reply.TheVariants.{Granted, Denied, Settled, Forfeit, Returned}
use Rattle.account_core.specs.declared.fault.AccountFault.{AccountFault}
use Rattle.cap_values.specs.NumberDigits.{digits_of_number}
use Rattle.cap_values.specs.declared.event.Event.TheVariants as event
use Rattle.cap_values.specs.declared.message.SsfMsg.{SsfMsg}
use Rattle.cap_values.specs.declared.message.SsfMsg.TheVariants as msg
use Rattle.cap_values.specs.declared.number.Number.{Number}
use Rattle.cap_values.specs.declared.mode.Mode.TheVariants.{Interrupted, NotifyAndContinue, Transparent}
use Rattle.dialogue_core.specs.Phases.{Conditions, Phase, Says, Sequel, FirstAsk, Running, Settling, MoreAsk, Returning, Ending, Closed, Asks, Sends, Finished}
use Rattle.dialogue_core.specs.Phases as phase
use Rattle.dialogue_core.specs.Rules.{Step, are_units, on_begin, on_reply, sequel, on_message, on_refusal}
use Rattle.dialogue_core.specs.declared.fault.DialogueFault.TheVariants.{Unexpected}
use Rattle.price_core.specs.Rates.{Rates}
use Rattle.price_core.specs.RatesOf.{rates_of}
use Rattle.price_core.specs.declared.route.Route.{Route}
use Rattle.held_calls.proofs.Entering.{none_at_first}
use Rattle.runs_core.proofs.Handling.{Means, means_on, same_number}
use Rattle.runs_core.specs.Chains.{at_first}
use Rattle.held_calls.specs.Chains.{AreHandled}
use Rattle.runs_core.specs.Handled.{Holding, IsDone, IsTalked, Stay, AnswerView, grown}
use Rattle.held_calls.specs.Workers.{HasBegun, IsOnTerms, ReservesAreOnTerms}
use Rattle.run_values.specs.Setups.{Setup}
use Rattle.dialogue_core.specs.Talks.{Got, after_got, or_done, talked}
use Rattle.runs_core.specs.Talks.{entries_of, entry_of}
use Rattle.runs_core.specs.Verdicts.{DialogueAt, IsRouted, Verdict, Strays, Rejects, Recharges, Begins, GoesOn, home_of, verdict_on}
use Rattle.run_values.specs.declared.post.Body.TheVariants.{Ssf}
use Rattle.run_values.specs.declared.post.Post.{Post}

-- ---- what holds of the terms of a dialogue holds of all that it asks for

-- of a call, the plan, what is wanted and the least
abbrev Fact : Type 1
Fact = ℕ → Rates → ℕ → ℕ → Type 0

abbrev OfTerms : Fact → Conditions → Type 0
OfTerms Holds t = Holds t.call t.plan t.wanted t.least

-- between two talks
abbrev AtRest : Fact → Phase → Type 0
AtRest Holds (FirstAsk t) = OfTerms Holds t
AtRest Holds (Running t) = OfTerms Holds t
AtRest Holds (Settling t active since) = OfTerms Holds t
AtRest Holds (MoreAsk t) = OfTerms Holds t
AtRest Holds (Returning after) = Unit {0}
AtRest Holds Ending = Unit {0}
AtRest Holds Closed = Unit {0}

-- in a talk at a moment: a report that is settled was taken at that moment
abbrev InTalk : Fact → ℕ → Phase → Type 0
InTalk Holds now (FirstAsk t) = OfTerms Holds t
InTalk Holds now (Running t) = OfTerms Holds t
InTalk Holds now (Settling t active since) = OfTerms Holds t × (since ≡ now)
InTalk Holds now (MoreAsk t) = OfTerms Holds t
InTalk Holds now (Returning after) = Unit {0}
InTalk Holds now Ending = Unit {0}
InTalk Holds now Closed = Unit {0}

at_rest : (Holds : Fact) (now : ℕ) (phase : Phase) → InTalk Holds now phase → AtRest Holds phase
at_rest Holds now (FirstAsk t) in_talk = in_talk
at_rest Holds now (Running t) in_talk = in_talk
at_rest Holds now (Settling t active since) in_talk = in_talk.0
at_rest Holds now (MoreAsk t) in_talk = in_talk
at_rest Holds now (Returning after) in_talk = tt
at_rest Holds now Ending in_talk = tt
at_rest Holds now Closed in_talk = tt

abbrev OfAsked : Fact → ℕ → Asked → Type 0
OfAsked Holds now (Credits amount until) = Unit {0}
OfAsked Holds now (Reserves call plan wanted least at) = Holds call plan wanted least × (at ≡ now)
OfAsked Holds now (Settles call number info) = Unit {0}
OfAsked Holds now (Returns call) = Unit {0}

abbrev OfSays : Fact → ℕ → Says → Type 0
OfSays Holds now (Asks asked) = OfAsked Holds now asked
OfSays Holds now (Sends orders) = Unit {0}
OfSays Holds now Finished = Unit {0}

abbrev OfNext : Fact → ℕ → Says × Phase → Type 0
OfNext Holds now next = OfSays Holds now next.0 × InTalk Holds now next.1

abbrev OfStep : Fact → ℕ → Step → Type 0
OfStep Holds now (Ok next) = OfNext Holds now next
OfStep Holds now (Err fault) = Unit {0}

given_on : (Holds : Fact) (now : ℕ) (b : Bool) (orders : List _) (to : Phase) → InTalk Holds now to → OfStep Holds now (if b then Ok (Sends orders, to) else Err Unexpected)
given_on Holds now true orders to holds = (tt, holds)
given_on Holds now false orders to holds = tt

sequel_on : (Holds : Fact) (now : ℕ) (after : Sequel) → OfNext Holds now (sequel after)
sequel_on Holds now phase.Nothing = (tt, tt)
sequel_on Holds now phase.Continues = (tt, tt)
sequel_on Holds now phase.Clears = (tt, tt)
sequel_on Holds now phase.Fails = (tt, tt)
sequel_on Holds now phase.Closes = (tt, tt)

replied_on : (Holds : Fact) (now : ℕ) (phase : Phase) (reply : Reply) → InTalk Holds now phase → OfStep Holds now (on_reply phase reply)
replied_on Holds now (FirstAsk t) (Granted units last a) holds = given_on Holds now (are_units units) _ (Running t) holds
replied_on Holds now (FirstAsk t) (Denied a) holds = (tt, tt)
replied_on Holds now (FirstAsk t) reply holds = tt
replied_on Holds now (Running t) reply holds = tt
replied_on Holds now (Settling t true since) (Settled p a) holds = (holds, holds.0)
replied_on Holds now (Settling t true since) (Forfeit p a) holds = (tt, tt)
replied_on Holds now (Settling t true since) reply holds = tt
replied_on Holds now (Settling t false since) (Settled p a) holds = (tt, tt)
replied_on Holds now (Settling t false since) (Forfeit p a) holds = (tt, tt)
replied_on Holds now (Settling t false since) reply holds = tt
replied_on Holds now (MoreAsk t) (Granted units last a) holds = given_on Holds now (are_units units) _ (Running t) holds
replied_on Holds now (MoreAsk t) (Denied a) holds = (tt, tt)
replied_on Holds now (MoreAsk t) reply holds = tt
replied_on Holds now (Returning after) (Returned p a) holds = sequel_on Holds now after
replied_on Holds now (Returning after) reply holds = tt
replied_on Holds now Ending reply holds = tt
replied_on Holds now Closed reply holds = tt

unanswered_on : (Holds : Fact) (now : ℕ) (phase : Phase) → InTalk Holds now phase → OfStep Holds now (on_refusal phase)
unanswered_on Holds now (FirstAsk t) holds = (tt, tt)
unanswered_on Holds now (Running t) holds = tt
unanswered_on Holds now (Settling t true since) holds = (tt, tt)
unanswered_on Holds now (Settling t false since) holds = (tt, tt)
unanswered_on Holds now (MoreAsk t) holds = (tt, tt)
unanswered_on Holds now (Returning after) holds = sequel_on Holds now after
unanswered_on Holds now Ending holds = tt
unanswered_on Holds now Closed holds = tt

answer_on : (Holds : Fact) (number now : ℕ) (phase : Phase) (message : SsfMsg) → AtRest Holds phase → OfStep Holds now (on_message phase number now message)
answer_on Holds number now (FirstAsk t) message holds = tt
answer_on Holds number now (Running t) (msg.InitialDp other calling called) holds = tt
answer_on Holds number now (Running t) (msg.EventReport event.Answer leg mode) holds = (tt, holds)
answer_on Holds number now (Running t) (msg.EventReport event leg mode) holds = (tt, tt)
answer_on Holds number now (Running t) (msg.ChargingReport active info) holds = (tt, (holds, refl))
answer_on Holds number now (Running t) msg.Ended holds = (tt, tt)
answer_on Holds number now (Settling t active since) message holds = tt
answer_on Holds number now (MoreAsk t) message holds = tt
answer_on Holds number now (Returning after) message holds = tt
answer_on Holds number now Ending (msg.InitialDp other calling called) holds = tt
answer_on Holds number now Ending (msg.EventReport event leg Interrupted) holds = (tt, tt)
answer_on Holds number now Ending (msg.EventReport event leg NotifyAndContinue) holds = (tt, tt)
answer_on Holds number now Ending (msg.EventReport event leg Transparent) holds = (tt, tt)
answer_on Holds number now Ending (msg.ChargingReport active info) holds = tt
answer_on Holds number now Ending msg.Ended holds = (tt, tt)
answer_on Holds number now Closed message holds = tt

or_done_on : (Holds : Fact) (now : ℕ) (phase : Phase) (step : Step) → InTalk Holds now phase → OfStep Holds now step → OfNext Holds now (or_done phase step)
or_done_on Holds now phase (Ok next) holds is = is
or_done_on Holds now phase (Err fault) holds is = (tt, holds)

got_on : (Holds : Fact) (now : ℕ) (phase : Phase) (got : Got) → InTalk Holds now phase → OfNext Holds now (after_got phase got)
got_on Holds now phase (Ok reply) holds = or_done_on Holds now phase (on_reply phase reply) holds (replied_on Holds now phase reply holds)
got_on Holds now phase (Err fault) holds = or_done_on Holds now phase (on_refusal phase) holds (unanswered_on Holds now phase holds)

talked_on : (Holds : Fact) (now : ℕ) (first : Says × Phase) (gots : List Got) → OfNext Holds now first → OfNext Holds now (talked first gots)
talked_on Holds now first [] holds = holds
talked_on Holds now first (got ∷ earlier) holds = got_on Holds now (talked first earlier).1 got (talked_on Holds now first earlier holds).1

entry_on : (Holds : Fact) (now seat : ℕ) (said : Says) (got : Got) → OfSays Holds now said → All (λ (e : EntryData). OfAsked Holds now e.asked) (entry_of seat said got)
entry_on Holds now seat (Asks asked) (Ok reply) holds = All-cons (λ (e : EntryData). OfAsked Holds now e.asked) _ [] holds (All-nil (λ (e : EntryData). OfAsked Holds now e.asked))
entry_on Holds now seat (Asks asked) (Err fault) holds = All-nil (λ (e : EntryData). OfAsked Holds now e.asked)
entry_on Holds now seat (Sends orders) got holds = All-nil (λ (e : EntryData). OfAsked Holds now e.asked)
entry_on Holds now seat Finished got holds = All-nil (λ (e : EntryData). OfAsked Holds now e.asked)

entries_on : (Holds : Fact) (now seat : ℕ) (first : Says × Phase) (gots : List Got) → OfNext Holds now first → All (λ (e : EntryData). OfAsked Holds now e.asked) (entries_of seat first gots)
entries_on Holds now seat first [] holds = All-nil (λ (e : EntryData). OfAsked Holds now e.asked)
entries_on Holds now seat first (got ∷ earlier) holds =
    All-append (λ (e : EntryData). OfAsked Holds now e.asked) (entries_of seat first earlier) (entry_of seat (talked first earlier).0 got) (entries_on Holds now seat first earlier holds)
    (entry_on Holds now seat (talked first earlier).0 got (talked_on Holds now first earlier holds).0)

-- ---- one post more

begun_more : (setup : Setup) (place : ℕ) (posts : List Post) (post : Post) (call : ℕ) (plan : Rates) (wanted least : ℕ) → HasBegun setup place posts call plan wanted least
    → HasBegun setup place (posts ++ post ∷ []) call plan wanted least
begun_more setup place posts post call plan wanted least is = record {
  post = is.post;
  stands = Contains-append_left posts (post ∷ []) is.post is.stands;
  other = is.other;
  calling = is.calling;
  called = is.called;
  is = is.is;
  home = is.home;
  route = is.route;
  routed = is.routed;
  plan_is = is.plan_is;
  wanted_is = is.wanted_is;
  least_is = is.least_is;
}

terms_more : (setup : Setup) (place : ℕ) (posts : List Post) (post : Post) (asked : Asked) → IsOnTerms setup place posts asked → IsOnTerms setup place (posts ++ post ∷ []) asked
terms_more setup place posts post (Credits amount until) is = tt
terms_more setup place posts post (Reserves call plan wanted least at) is = (
  begun_more setup place posts post call plan wanted least is.0,
  record {
    post = is.1.post;
    stands = Contains-append_left posts (post ∷ []) is.1.post is.1.stands;
    message = is.1.message;
    is = is.1.is;
    moment = is.1.moment;
  },
)
terms_more setup place posts post (Settles call number info) is = tt
terms_more setup place posts post (Returns call) is = tt

-- the terms of a dialogue of a call, whose account is at a place
abbrev Its : Setup → ℕ → List Post → ℕ → Fact
Its setup place posts call other plan wanted least = (other ≡ call) × HasBegun setup place posts other plan wanted least

its_more : (setup : Setup) (place : ℕ) (posts : List Post) (post : Post) (call : ℕ) (phase : Phase) → AtRest (Its setup place posts call) phase → AtRest (Its setup place (posts ++ post ∷ []) call) phase
its_more setup place posts post call (FirstAsk t) holds = (holds.0, begun_more setup place posts post t.call t.plan t.wanted t.least holds.1)
its_more setup place posts post call (Running t) holds = (holds.0, begun_more setup place posts post t.call t.plan t.wanted t.least holds.1)
its_more setup place posts post call (Settling t active since) holds = (holds.0, begun_more setup place posts post t.call t.plan t.wanted t.least holds.1)
its_more setup place posts post call (MoreAsk t) holds = (holds.0, begun_more setup place posts post t.call t.plan t.wanted t.least holds.1)
its_more setup place posts post call (Returning after) holds = tt
its_more setup place posts post call Ending holds = tt
its_more setup place posts post call Closed holds = tt

-- what a worker holds, on the terms of its calls
record IsOnItsTerms (setup : Setup) (posts : List Post) (h : Holding) : Type 0 where
  lists : (place : ℕ) → All (λ (e : EntryData). IsOnTerms setup place posts e.asked) (slice_index_or h.lists place [])
  talks : (call : ℕ) → IfSome (h.talks call) (λ s. AtRest (Its setup s.place posts call) s.phase)

list_more : (setup : Setup) (place : ℕ) (posts : List Post) (post : Post) (mine : List EntryData) → All (λ (e : EntryData). IsOnTerms setup place posts e.asked) mine
    → All (λ (e : EntryData). IsOnTerms setup place (posts ++ post ∷ []) e.asked) mine
list_more setup place posts post mine all =
    All-weaker (λ (e : EntryData). IsOnTerms setup place posts e.asked) (λ (e : EntryData). IsOnTerms setup place (posts ++ post ∷ []) e.asked) (λ e is. terms_more setup place posts post e.asked is) mine all

-- the lists after one of them has grown
list_grown : (Fits : ℕ → List EntryData → Type 0) (lists : List (List EntryData)) (at : ℕ) (entries : List EntryData) → ((mine : List EntryData) → Fits at mine → Fits at (mine ++ entries))
    → ((place : ℕ) → Fits place (slice_index_or lists place [])) → (place : ℕ) → Fits place (slice_index_or (grown lists at entries) place [])
list_grown Fits [] at entries more fits place = fits place
list_grown Fits (mine ∷ lists) zero entries more fits zero = more mine (fits zero)
list_grown Fits (mine ∷ lists) zero entries more fits (suc place) = fits (suc place)
list_grown Fits (mine ∷ lists) (suc at) entries more fits zero = fits zero
list_grown Fits (mine ∷ lists) (suc at) entries more fits (suc place) = list_grown (λ n. Fits (suc n)) lists at entries more (λ n. fits (suc n)) place

same_more : (setup : Setup) (posts : List Post) (post : Post) (call : ℕ) (found after : Option DialogueAt) → after ≡ found → IfSome found (λ s. AtRest (Its setup s.place posts call) s.phase)
    → IfSome after (λ s. AtRest (Its setup s.place (posts ++ post ∷ []) call) s.phase)
same_more setup posts post call None after same holds = rw same tt
same_more setup posts post call (Some standing) after same holds = rw same (its_more setup standing.place posts post call standing.phase holds)

unasked_on : (setup : Setup) (posts : List Post) (post : Post) (old new : Holding) → IsOnItsTerms setup posts old → new.lists ≡ old.lists → Stay old.talks new.talks → IsOnItsTerms setup (posts ++ post ∷ []) new
unasked_on setup posts post old new on lists talks = record {
  lists = λ place. rw lists (list_more setup place posts post (slice_index_or old.lists place []) (on.lists place));
  talks = λ call. same_more setup posts post call (old.talks call) (new.talks call) (talks call) (on.talks call);
}

-- what is entered in a talk for a post
entered_on : (setup : Setup) (place : ℕ) (posts : List Post) (post : Post) (call : ℕ) (message : SsfMsg) (asked : Asked) → post.body ≡ Ssf call message
    → OfAsked (Its setup place (posts ++ post ∷ []) call) post.at asked → IsOnTerms setup place (posts ++ post ∷ []) asked
entered_on setup place posts post call message (Credits amount until) is on = tt
entered_on setup place posts post call message (Reserves other plan wanted least at) is on = (
  on.0.1,
  record {
    post = post;
    stands = Contains-push posts post;
    message = message;
    is = is ∙ ap (λ c. Ssf c message) (sym on.0.0);
    moment = sym on.1;
  },
)
entered_on setup place posts post call message (Settles other number info) is on = tt
entered_on setup place posts post call message (Returns other) is on = tt

stands_now : (setup : Setup) (posts : List Post) (post : Post) (call other : ℕ) (b : Bool) (standing : DialogueAt) (found after : Option DialogueAt) → (other == call) ≡ b
    → after ≡ (if b then Some standing else found) → AtRest (Its setup standing.place (posts ++ post ∷ []) call) standing.phase
    → IfSome found (λ s. AtRest (Its setup s.place posts other) s.phase) → IfSome after (λ s. AtRest (Its setup s.place (posts ++ post ∷ []) other) s.phase)
stands_now setup posts post call other true standing found after is now its before =
    let P : ℕ → Type 0 = λ c. AtRest (Its setup standing.place (posts ++ post ∷ []) c) standing.phase in
    rw now (subst P (sym (same_number other call is)) its)
stands_now setup posts post call other false standing found after is now its before = same_more setup posts post other found after now before

talk_on : (setup : Setup) (numbers : List ℕ) (call place : ℕ) (first : Says × Phase) (posts : List Post) (post : Post) (message : SsfMsg) (old new : Holding) (t : AnswerView) → IsOnItsTerms setup posts old
    → post.body ≡ Ssf call message → OfNext (Its setup place (posts ++ post ∷ []) call) post.at first → IsTalked numbers call place first old new t → IsOnItsTerms setup (posts ++ post ∷ []) new
talk_on setup numbers call place first posts post message old new t on is begins talk =
    let Holds : Fact = Its setup place (posts ++ post ∷ []) call in
    let entries = entries_of (slice_index_or numbers place 0) first talk.gots in
    let fits = All-weaker (λ (e : EntryData). OfAsked Holds post.at e.asked) (λ (e : EntryData). IsOnTerms setup place (posts ++ post ∷ []) e.asked)
    (λ e its. entered_on setup place posts post call message e.asked is its) entries (entries_on Holds post.at (slice_index_or numbers place 0) first talk.gots begins) in
    let stands : AtRest Holds talk.phase =
    at_rest Holds post.at talk.phase (let P : (Says × Phase) → Type 0 = λ p. InTalk Holds post.at p.1 in subst P talk.talk (talked_on Holds post.at first talk.gots begins).1) in
    record {
      lists = λ q. rw talk.lists
          (list_grown (λ n mine. All (λ (e : EntryData). IsOnTerms setup n (posts ++ post ∷ []) e.asked) mine) old.lists place entries
          (λ mine all. All-append (λ (e : EntryData). IsOnTerms setup place (posts ++ post ∷ []) e.asked) mine entries all fits)
          (λ n. list_more setup n posts post (slice_index_or old.lists n []) (on.lists n)) q);
      talks = λ other. stands_now setup posts post call other (other == call) (record { phase = talk.phase; place = place }) (old.talks other) (new.talks other) refl (talk.talks other) stands (on.talks other);
    }

-- the terms on which a call begins
begins_on : (setup : Setup) (place : ℕ) (posts : List Post) (post : Post) (call other : ℕ) (calling called : Number) (route : Option Route) → post.body ≡ Ssf call (msg.InitialDp other calling called)
    → home_of calling setup ≡ Some place → IsRouted setup.tariff (digits_of_number called) post.at route
    → OfNext (Its setup place (posts ++ post ∷ []) call) post.at (on_begin call post.at setup.service.wanted setup.service.least route)
begins_on setup place posts post call other calling called None is home routed = (tt, tt)
begins_on setup place posts post call other calling called (Some route) is home routed =
    let began : HasBegun setup place (posts ++ post ∷ []) call (rates_of route.plan) setup.service.wanted setup.service.least = record {
      post = post;
      stands = Contains-push posts post;
      other = other;
      calling = calling;
      called = called;
      is = is;
      home = home;
      route = route;
      routed = routed;
      plan_is = refl;
      wanted_is = refl;
      least_is = refl;
    } in
    (((refl, began), refl), (refl, began))

goes_on_from : (setup : Setup) (posts : List Post) (call : ℕ) (standing : DialogueAt) (found : Option DialogueAt) → found ≡ Some standing → IfSome found (λ s. AtRest (Its setup s.place posts call) s.phase)
    → AtRest (Its setup standing.place posts call) standing.phase
goes_on_from setup posts call standing None is on = cc
goes_on_from setup posts call standing (Some other) is on = let same : other ≡ standing = cc in let P : DialogueAt → Type 0 = λ s. AtRest (Its setup s.place posts call) s.phase in subst P same on

on_by : (setup : Setup) (numbers : List ℕ) (posts : List Post) (post : Post) (v : Verdict) (old new : Holding) (t : AnswerView) → IsOnItsTerms setup posts old
    → Means setup old.talks post.number post.at post.body v → IsDone setup numbers post.at v old new t → IsOnItsTerms setup (posts ++ post ∷ []) new
on_by setup numbers posts post Strays old new t on m done = unasked_on setup posts post old new on done.lists done.talks
on_by setup numbers posts post Rejects old new t on m done = unasked_on setup posts post old new on done.lists done.talks
on_by setup numbers posts post (Recharges place amount until) old new t on m done = record {
  lists = λ q. rw done.lists
      (list_grown (λ n mine. All (λ (e : EntryData). IsOnTerms setup n (posts ++ post ∷ []) e.asked) mine) old.lists place (entry_of (slice_index_or numbers place 0) (Asks (Credits amount until)) done.got)
      (λ mine all. All-append (λ (e : EntryData). IsOnTerms setup place (posts ++ post ∷ []) e.asked) mine _ all (credit_on setup place (posts ++ post ∷ []) (slice_index_or numbers place 0) amount until done.got))
      (λ n. list_more setup n posts post (slice_index_or old.lists n []) (on.lists n)) q);
  talks = λ call. same_more setup posts post call (old.talks call) (new.talks call) (done.talks call) (on.talks call);
}
  where
    credit_on : (setup : Setup) (place : ℕ) (posts : List Post) (seat amount : ℕ) (until : Option ℕ) (got : Got) → All (λ (e : EntryData). IsOnTerms setup place posts e.asked) (entry_of seat (Asks (Credits amount until)) got)
    credit_on setup place posts seat amount until (Ok reply) = All-cons (λ (e : EntryData). IsOnTerms setup place posts e.asked) _ [] tt (All-nil (λ (e : EntryData). IsOnTerms setup place posts e.asked))
    credit_on setup place posts seat amount until (Err fault) = All-nil (λ (e : EntryData). IsOnTerms setup place posts e.asked)
on_by setup numbers posts post (Begins call place called) old new t on m done =
    talk_on setup numbers call place (on_begin call post.at setup.service.wanted setup.service.least done.route) posts post (msg.InitialDp m.other m.calling called) old new t on m.is
    (begins_on setup place posts post call m.other m.calling called done.route m.is m.home done.routed) done.talked
on_by setup numbers posts post (GoesOn call place said phase) old new t on m done =
    let stands = goes_on_from setup posts call m.standing (old.talks call) m.stands (on.talks call) in
    let more = its_more setup m.standing.place posts post call m.standing.phase stands in
    let Takes : ℕ → Step → Type 0 = λ n step. OfStep (Its setup n (posts ++ post ∷ []) call) post.at step in
    let takes : Takes place (Ok (said, phase)) =
    subst (λ n. Takes n (Ok (said, phase))) m.same (subst (Takes m.standing.place) m.takes (answer_on (Its setup m.standing.place (posts ++ post ∷ []) call) post.number post.at m.standing.phase m.message more)) in
    talk_on setup numbers call place (said, phase) posts post m.message old new t on m.is takes done

on_after : (setup : Setup) (numbers : List ℕ) (done posts : List Post) (refusals : List (Option AccountFault)) (old new : Holding) → IsOnItsTerms setup done old → AreHandled setup numbers posts refusals old new
    → IsOnItsTerms setup (done ++ posts) new
on_after setup numbers done [] [] old new on are = rw (append-nil done) (subst (λ h. IsOnItsTerms setup done h) are on)
on_after setup numbers done [] (refusal ∷ refusals) old new on are = absurd are
on_after setup numbers done (post ∷ posts) [] old new on are = absurd are
on_after setup numbers done (post ∷ posts) (refusal ∷ refusals) old new on are =
    let once = on_by setup numbers done post (verdict_on setup old.talks post.number post.at post.body) old are.0 are.1.answer on (means_on setup old.talks post.number post.at post.body) are.1.handled.done in
    let P : List Post → Type 0 = λ all. IsOnItsTerms setup all new in
    subst P (append_assoc done (post ∷ []) posts) (on_after setup numbers (done ++ post ∷ []) posts refusals are.0 new once are.2)

pub reserves_are_on_terms : ReservesAreOnTerms
reserves_are_on_terms setup number place posts refusals lists is =
    (on_after setup _ [] posts refusals (at_first setup) (record { lists = lists; talks = is.talks })
    (record { lists = λ place. rw (none_at_first setup.accounts place) (All-nil (λ (e : EntryData). IsOnTerms setup place [] e.asked)); talks = λ call. tt }) is.chain).lists place
