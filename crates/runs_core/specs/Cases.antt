-- The case of a post, as the code has it, and what acting on it does.
use Rattle.std.specs.Prelude.{◌≡◌, ◌==◌, ◌<◌, ◌++◌, ◌⊎◌, ℕ, true, false, Option, Some, None, Ok, Err, List, [], ◌∷◌, IsSome, if◌then◌else◌, slice_index_or}
use Rattle.std.specs.BTreeMap.{is_at}
use Rattle.std.specs.Map.{lookup}
use Rattle.std.specs.Ordering.{nat_cmp}
use Rattle.account_core.specs.Asked.{Asked, Credits}
use Rattle.account_core.specs.Entries.{EntryData}
use Rattle.account_core.specs.declared.fault.AccountFault.{AccountFault}
use Rattle.cap_values.specs.NumberDigits.{digits_of_number}
use Rattle.cap_values.specs.Orders.{Release}
use Rattle.cap_values.specs.declared.number.Number.{Number}
use Rattle.dialogue_core.specs.Phases.{Phase, Says, Asks}
use Rattle.dialogue_core.specs.Rules.{on_begin}
use Rattle.dialogue_core.specs.Views.{phase_of, says_of}
use Rattle.account_core.specs.Refusals.{IsRefusedAt, Knowing, Refusal}
use Rattle.account_core.specs.Seats.{Reads}
use Rattle.price_core.specs.declared.route.Route.{Route}
use Rattle.runs_core.specs.Handled.{Holding, IsRecharged, IsTalked, IsUnasked, AnswerView}
use Rattle.run_values.specs.Setups.{Setup}
use Rattle.dialogue_core.specs.Talks.{Asking, Got}
use Rattle.runs_core.specs.Talks.{AreRightlyGot, IsRightlyGot, Showing, entry_of}
use Rattle.runs_core.specs.Verdicts.{DialogueAt, IsRouted, Verdict, Strays, Rejects, Recharges, Begins, GoesOn}
use Rattle.runs_core.specs.Workers.{talk_standing}
use Rattle.runs_core.specs.declared.worker.Case.{Case}
use Rattle.runs_core.specs.declared.worker.Case.TheVariants as case
use Rattle.runs_core.specs.declared.worker.Talk.{Talk}

-- the dialogue of a call begins, and this is what it says first
pub record SaysFirst (setup : Setup) (at : ℕ) (verdict : Verdict) (call place : ℕ) (first : Says × Phase) : Type 0 where
  pub called : Number
  pub is : verdict ≡ Begins call place called
  pub route : Option Route
  pub routed : IsRouted setup.tariff (digits_of_number called) at route
  pub begins : on_begin call at setup.service.wanted setup.service.least route ≡ first

-- the case of a verdict
abbrev pub IsCase : Setup → ℕ → Verdict → Case → Type 0
IsCase setup at verdict case.Stray = verdict ≡ Strays
IsCase setup at verdict case.Rejected = verdict ≡ Rejects
IsCase setup at verdict (case.Recharge place amount until) = verdict ≡ Recharges place amount until
IsCase setup at verdict (case.Talk call talk turn) =
    (verdict ≡ GoesOn call talk.place (says_of turn) (phase_of talk.dialogue)) ⊎ SaysFirst setup at verdict call talk.place (says_of turn, phase_of talk.dialogue)

-- the account of a case is one of so many
abbrev pub CaseIsWithin : ℕ → Case → Type 0
CaseIsWithin count case.Stray = Unit {0}
CaseIsWithin count case.Rejected = Unit {0}
CaseIsWithin count (case.Recharge place amount until) = place < count
CaseIsWithin count (case.Talk call talk turn) = talk.place < count

-- the dialogue of a case has its place among the dialogues
abbrev pub HasRoom : Case → List (ℕ × Talk) → Type 0
HasRoom case.Stray talks = Unit {0}
HasRoom case.Rejected talks = Unit {0}
HasRoom (case.Recharge place amount until) talks = Unit {0}
HasRoom (case.Talk call talk turn) talks = IsSome (lookup (is_at (nat_cmp call)) talks)

-- where dialogues are with that of a case among them
abbrev pub with_room : Case → (ℕ → Option DialogueAt) → ℕ → Option DialogueAt
with_room case.Stray talks other = talks other
with_room case.Rejected talks other = talks other
with_room (case.Recharge place amount until) talks other = talks other
with_room (case.Talk call talk turn) talks other = if other == call then Some (talk_standing talk) else talks other

-- what is done in a case
abbrev pub IsActed : List ℕ → Case → Holding → Holding → AnswerView → Type 0
IsActed numbers case.Stray old new answer = IsUnasked [] true old new answer
IsActed numbers case.Rejected old new answer = IsUnasked (Release 21 ∷ []) false old new answer
IsActed numbers (case.Recharge place amount until) old new answer = IsRecharged numbers place amount until old new answer
IsActed numbers (case.Talk call talk turn) old new answer = IsTalked numbers call talk.place (says_of turn, phase_of talk.dialogue) old new answer

-- the last fault once an ask got this: the one that it got, or else that of the asks before
abbrev pub or_fault : Option AccountFault → Got → Option AccountFault
or_fault refused (Ok reply) = refused
or_fault refused (Err fault) = Some fault

-- all that was got in a case is right
abbrev pub AreRightIn : (Shows : ℕ → Showing) (numbers : List ℕ) (case : Case) (old new : Holding) (answer : AnswerView) → IsActed numbers case old new answer → Type 0
AreRightIn Shows numbers case.Stray old new answer acted = Unit {0}
AreRightIn Shows numbers case.Rejected old new answer acted = Unit {0}
AreRightIn Shows numbers (case.Recharge place amount until) old new answer acted =
    IsRightlyGot (Shows place) (slice_index_or old.lists place []) (Asks (Credits amount until)) acted.got
AreRightIn Shows numbers (case.Talk call talk turn) old new answer acted =
    AreRightlyGot (Shows talk.place) (slice_index_or numbers talk.place 0) (says_of turn, phase_of talk.dialogue) (slice_index_or old.lists talk.place []) acted.gots

-- what is done in a case, and that each refusal there was right
pub record IsRightlyActed (Shows : ℕ → Showing) (numbers : List ℕ) (case : Case) (old new : Holding) (answer : AnswerView) : Type 0 where
  pub acted : IsActed numbers case old new answer
  pub right : AreRightIn Shows numbers case old new answer acted

-- an account was called once, from a seat beside which the last fault is kept: what it got was entered and is right, and what the seat
-- knew it still knows
pub record IsAsked {K T : Type 0} (reads : Reads K T) (Was : T → Knowing) (Calls : Asking T) (before : T × Option AccountFault) (asked : Asked) (got : Got) (after : T × Option AccountFault) : Type 0 where
  pub same_key : reads.key after.0 ≡ reads.key before.0
  pub same_number : reads.number after.0 ≡ reads.number before.0
  pub called : Calls before.0 asked got after.0
  pub enters : reads.mine after.0 ≡ reads.mine before.0 ++ entry_of (reads.number before.0) (Asks asked) got
  pub refuses : after.1 ≡ or_fault before.1 got
  pub right : IsRightlyGot (IsRefusedAt (Was after.0)) (reads.mine before.0) (Asks asked) got
  pub still : (mine : List EntryData) (refusal : Refusal) → Was before.0 mine refusal → Was after.0 mine refusal

-- an ask at a desk, which shows a seat and the last fault
abbrev pub AtDesk : {X K T : Type 0} → (X → T × Option AccountFault) → Reads K T → (T → Knowing) → Asking T → Asking X
AtDesk shown reads Was Calls before asked got after = IsAsked reads Was Calls (shown before) asked got (shown after)

-- an account was asked for a Credit, and what it got is right
pub record IsCredited (Shows : Showing) (seat : ℕ) (asked : Asked) (before after : List EntryData) (answer : AnswerView) : Type 0 where
  pub got : Got
  pub enters : after ≡ before ++ entry_of seat (Asks asked) got
  pub orders : answer.orders ≡ []
  pub stray : answer.stray ≡ false
  pub refuses : answer.refused ≡ or_fault None got
  pub right : IsRightlyGot Shows before (Asks asked) got
