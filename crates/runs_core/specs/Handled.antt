-- What the handling of a post does.
use Rattle.std.specs.Prelude.{◌≡◌, ◌++◌, ◌==◌, ℕ, Bool, true, false, Option, Some, None, List, [], ◌∷◌, if◌then◌else◌, slice_set, slice_index_or}
use Rattle.account_core.specs.Asked.{Credits}
use Rattle.account_core.specs.Entries.{EntryData}
use Rattle.account_core.specs.declared.fault.AccountFault.{AccountFault}
use Rattle.cap_values.specs.NumberDigits.{digits_of_number}
use Rattle.cap_values.specs.Orders.{Order, Release, orders_in}
use Rattle.cap_values.specs.declared.number.Number.{Number}
use Rattle.dialogue_core.specs.Phases.{Phase, Says, Asks}
use Rattle.dialogue_core.specs.Rules.{on_begin}
use Rattle.price_core.specs.declared.route.Route.{Route}
use Rattle.run_values.specs.Setups.{Setup}
use Rattle.dialogue_core.specs.Talks.{Got, is_ask, orders_sent_by, talked}
use Rattle.runs_core.specs.Talks.{AllAsk, AreRightlyGot, IsRightlyGot, Showing, entries_of, entry_of, last_fault}
use Rattle.runs_core.specs.Verdicts.{DialogueAt, IsRouted, Verdict, Strays, Rejects, Recharges, Begins, GoesOn, verdict}
use Rattle.run_values.specs.declared.post.Answer.{Answer}
use Rattle.run_values.specs.declared.post.Post.{Post}

-- what a worker holds beside the posts that it has handled: its seats' entries, in the ascending order of the accounts, and its dialogues
pub record Holding : Type 0 where
  pub lists : List (List EntryData)
  pub talks : ℕ → Option DialogueAt

-- what an answer says
pub record AnswerView : Type 0 where
  pub number : ℕ
  pub orders : List Order
  pub stray : Bool
  pub refused : Option AccountFault

-- what an answer of the code says
abbrev pub answer_view : Answer → AnswerView
answer_view answer = record { number = answer.number; orders = orders_in answer.instructions; stray = answer.stray; refused = answer.refused }

-- the list at a place has gained entries, and no other list has grown
abbrev pub grown : List (List EntryData) → ℕ → List EntryData → List (List EntryData)
grown lists place entries = slice_set lists place (slice_index_or lists place [] ++ entries)

-- each dialogue is as before
abbrev pub Stay : (ℕ → Option DialogueAt) → (ℕ → Option DialogueAt) → Type 0
Stay old new = (call : ℕ) → new call ≡ old call

-- the dialogue of a call is so, and each other one as before
abbrev pub StandsNow : ℕ → DialogueAt → (ℕ → Option DialogueAt) → (ℕ → Option DialogueAt) → Type 0
StandsNow call standing old new = (other : ℕ) → new other ≡ (if other == call then Some standing else old other)

-- these operations are sent, and no account is asked
pub record IsUnasked (orders : List Order) (stray : Bool) (old new : Holding) (answer : AnswerView) : Type 0 where
  pub orders_are : answer.orders ≡ orders
  pub stray_is : answer.stray ≡ stray
  pub refused : answer.refused ≡ None
  pub lists : new.lists ≡ old.lists
  pub talks : Stay old.talks new.talks

-- the account at a place is asked for one Credit
pub record IsRecharged (numbers : List ℕ) (place amount : ℕ) (until : Option ℕ) (old new : Holding) (answer : AnswerView) : Type 0 where
  pub got : Got
  pub orders : answer.orders ≡ []
  pub stray : answer.stray ≡ false
  pub refused : answer.refused ≡ last_fault (got ∷ [])
  pub lists : new.lists ≡ grown old.lists place (entry_of (slice_index_or numbers place 0) (Asks (Credits amount until)) got)
  pub talks : Stay old.talks new.talks

-- the dialogue of a call talks with the account at a place, from what it says first until no ask is left
pub record IsTalked (numbers : List ℕ) (call place : ℕ) (first : Says × Phase) (old new : Holding) (answer : AnswerView) : Type 0 where
  pub gots : List Got
  pub asked : AllAsk first gots
  pub last : Says
  pub phase : Phase
  pub talk : talked first gots ≡ (last, phase)
  pub rests : is_ask last ≡ false
  pub orders : answer.orders ≡ orders_sent_by last
  pub stray : answer.stray ≡ false
  pub refused : answer.refused ≡ last_fault gots
  pub lists : new.lists ≡ grown old.lists place (entries_of (slice_index_or numbers place 0) first gots)
  pub talks : StandsNow call (record { phase = phase; place = place }) old.talks new.talks

-- the dialogue of a call begins
pub record IsBegun (setup : Setup) (numbers : List ℕ) (at call place : ℕ) (called : Number) (old new : Holding) (answer : AnswerView) : Type 0 where
  pub route : Option Route
  pub routed : IsRouted setup.tariff (digits_of_number called) at route
  pub talked : IsTalked numbers call place (on_begin call at setup.service.wanted setup.service.least route) old new answer

-- what is done, by the verdict on the post
abbrev pub IsDone : Setup → List ℕ → ℕ → Verdict → Holding → Holding → AnswerView → Type 0
IsDone setup numbers at Strays old new answer = IsUnasked [] true old new answer
IsDone setup numbers at Rejects old new answer = IsUnasked (Release 21 ∷ []) false old new answer
IsDone setup numbers at (Recharges place amount until) old new answer = IsRecharged numbers place amount until old new answer
IsDone setup numbers at (Begins call place called) old new answer = IsBegun setup numbers at call place called old new answer
IsDone setup numbers at (GoesOn call place said phase) old new answer = IsTalked numbers call place (said, phase) old new answer

-- a post is handled, where the seats have these numbers
pub record IsHandled (setup : Setup) (numbers : List ℕ) (post : Post) (old new : Holding) (answer : AnswerView) : Type 0 where
  pub number : answer.number ≡ post.number
  pub done : IsDone setup numbers post.at (verdict setup old.talks post) old new answer

-- each ask that was refused for a post was refused rightly, by the verdict on the post: in its place, and at the seat's own entries then
abbrev pub AreRefusedRightly : (Shows : ℕ → Showing) (setup : Setup) (numbers : List ℕ) (at : ℕ) (v : Verdict) (old new : Holding) (answer : AnswerView) → IsDone setup numbers at v old new answer → Type 0
AreRefusedRightly Shows setup numbers at Strays old new answer done = Unit {0}
AreRefusedRightly Shows setup numbers at Rejects old new answer done = Unit {0}
AreRefusedRightly Shows setup numbers at (Recharges place amount until) old new answer done =
    IsRightlyGot (Shows place) (slice_index_or old.lists place []) (Asks (Credits amount until)) done.got
AreRefusedRightly Shows setup numbers at (Begins call place called) old new answer done =
    AreRightlyGot (Shows place) (slice_index_or numbers place 0) (on_begin call at setup.service.wanted setup.service.least done.route) (slice_index_or old.lists place [])
    done.talked.gots
AreRefusedRightly Shows setup numbers at (GoesOn call place said phase) old new answer done =
    AreRightlyGot (Shows place) (slice_index_or numbers place 0) (said, phase) (slice_index_or old.lists place []) done.gots

-- a post is handled, and each ask that was refused for it was refused rightly
pub record IsRightlyHandled (Shows : ℕ → Showing) (setup : Setup) (numbers : List ℕ) (post : Post) (old new : Holding) (answer : AnswerView) : Type 0 where
  pub handled : IsHandled setup numbers post old new answer
  pub right : AreRefusedRightly Shows setup numbers post.at (verdict setup old.talks post) old new answer handled.done
