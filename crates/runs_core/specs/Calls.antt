-- The calls that a post comes to: what is asked of its account, in order, and nothing else of any.
use Rattle.std.specs.Prelude.{◌≡◌, ℕ, false, Option, List, [], ◌∷◌, slice_index_or, slice_set}
use Rattle.account_core.specs.Asked.{Asked, Credits}
use Rattle.cap_values.specs.NumberDigits.{digits_of_number}
use Rattle.cap_values.specs.declared.number.Number.{Number}
use Rattle.dialogue_core.specs.Phases.{Phase, Says}
use Rattle.dialogue_core.specs.Rules.{on_begin}
use Rattle.dialogue_core.specs.Talks.{AreGot, Asking, Got, is_ask, orders_sent_by, talked}
use Rattle.dialogue_core.specs.Views.{phase_of, says_of}
use Rattle.run_values.specs.Setups.{Setup}
use Rattle.price_core.specs.declared.route.Route.{Route}
use Rattle.runs_core.specs.Handled.{AnswerView}
use Rattle.runs_core.specs.Talks.{last_fault}
use Rattle.runs_core.specs.Verdicts.{Begins, GoesOn, IsRouted, Recharges, Rejects, Strays, Verdict}
use Rattle.runs_core.specs.declared.worker.Case.{Case}
use Rattle.runs_core.specs.declared.worker.Case.TheVariants as case

-- of these seats just the one at a place has gone on, from one state to another
pub record GoesAt {T : Type 0} (place : ℕ) (old new : List T) (Goes : T → T → Type 0) : Type 0 where
  pub from : T
  pub to : T
  pub from_is : from ≡ slice_index_or old place from
  pub only : new ≡ slice_set old place to
  pub goes : Goes from to

-- one call led a seat from one state to another, and the answer says whether it was refused
pub record IsOnceCalled {T : Type 0} (Calls : Asking T) (asked : Asked) (answer : AnswerView) (from to : T) : Type 0 where
  pub got : Got
  pub called : Calls from asked got to
  pub refused : answer.refused ≡ last_fault (got ∷ [])

-- the calls for the asks of a talk, each in its turn, led a seat from one state to another, until no ask was left; the answer has what the dialogue sends then, and the last refusal
pub record IsTalkCalled {T : Type 0} (Calls : Asking T) (first : Says × Phase) (answer : AnswerView) (from to : T) : Type 0 where
  pub gots : List Got
  pub called : AreGot Calls first from gots to
  pub rests : is_ask (talked first gots).0 ≡ false
  pub orders : answer.orders ≡ orders_sent_by (talked first gots).0
  pub refused : answer.refused ≡ last_fault gots

-- the calls for the asks of a dialogue that begins, by the route of the called number
pub record IsBeginningCalled {T : Type 0} (Calls : Asking T) (setup : Setup) (at call : ℕ) (called : Number) (answer : AnswerView) (from to : T) : Type 0 where
  pub route : Option Route
  pub routed : IsRouted setup.tariff (digits_of_number called) at route
  pub talk : IsTalkCalled Calls (on_begin call at setup.service.wanted setup.service.least route) answer from to

-- the calls that a post comes to, by the verdict on it
abbrev pub AreCalled : {T : Type 0} → Asking T → Setup → ℕ → Verdict → List T → List T → AnswerView → Type 0
AreCalled Calls setup at Strays old new answer = new ≡ old
AreCalled Calls setup at Rejects old new answer = new ≡ old
AreCalled Calls setup at (Recharges place amount until) old new answer = GoesAt place old new (IsOnceCalled Calls (Credits amount until) answer)
AreCalled Calls setup at (Begins call place called) old new answer = GoesAt place old new (IsBeginningCalled Calls setup at call called answer)
AreCalled Calls setup at (GoesOn call place said phase) old new answer = GoesAt place old new (IsTalkCalled Calls (said, phase) answer)

-- the calls that a post comes to, by its case
abbrev pub AreCalledIn : {T : Type 0} → Asking T → Case → List T → List T → AnswerView → Type 0
AreCalledIn Calls case.Stray old new answer = new ≡ old
AreCalledIn Calls case.Rejected old new answer = new ≡ old
AreCalledIn Calls (case.Recharge place amount until) old new answer = GoesAt place old new (IsOnceCalled Calls (Credits amount until) answer)
AreCalledIn Calls (case.Talk call talk turn) old new answer = GoesAt talk.place old new (IsTalkCalled Calls (says_of turn, phase_of talk.dialogue) answer)
