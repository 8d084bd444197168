-- Two posts that say the same are handled alike: the own call of an InitialDP and the leg of an event play no part.
use Rattle.std.proofs.Common.{◌≡◌, ◌∙◌, ℕ, Option, Some, None, List, [], ◌∷◌, ◌++◌, refl, sym, ap, subst}
use Rattle.std.specs.Prelude.{option_and_then}
use Rattle.std.specs.Map.{lookup}
use Rattle.std.specs.Str.{bytes_eq}
use Rattle.cap_values.specs.NumberDigits.{digits_of_number}
use Rattle.cap_values.specs.declared.event.Event.{Event}
use Rattle.cap_values.specs.declared.message.SsfMsg.{SsfMsg}
use Rattle.cap_values.specs.declared.message.SsfMsg.TheVariants.{InitialDp, EventReport, ChargingReport, Ended}
use Rattle.cap_values.specs.declared.mode.Mode.{Mode}
use Rattle.cap_values.specs.declared.number.Number.{Number}
use Rattle.dialogue_core.specs.Phases.{Conditions, Phase, FirstAsk, Running, Settling, MoreAsk, Returning, Ending, Closed}
use Rattle.dialogue_core.specs.Rules.{Step, ending, on_message, event_reported, while_running, sequel}
use Rattle.run_values.specs.Setups.{Setup, place_of}
use Rattle.run_values.specs.declared.post.Body.{Body}
use Rattle.run_values.specs.declared.post.Body.TheVariants.{Ssf, Recharge}
use Rattle.runs_core.specs.Shares.{Item}
use Rattle.runs_core.specs.Handled.{AnswerView, Holding, IsDone}
use Rattle.runs_core.specs.Verdicts.{DialogueAt, IsRouted, Verdict, begins, fresh_call, goes_on, home_of, spoken, verdict_on}

-- ---- what is said

-- two messages say the same
abbrev pub SaysAlike : SsfMsg → SsfMsg → Type 0
SaysAlike (InitialDp call calling called) (InitialDp other caller dialled) = (digits_of_number calling ≡ digits_of_number caller) × (digits_of_number called ≡ digits_of_number dialled)
SaysAlike (EventReport event leg mode) (EventReport other its_leg its_mode) = (event ≡ other) × (mode ≡ its_mode)
SaysAlike (ChargingReport active info) (ChargingReport other times) = (active ≡ other) × (info ≡ times)
SaysAlike Ended Ended = Unit {0}
SaysAlike one other = ⊥

-- two posts say the same
abbrev pub SpeakAlike : Body → Body → Type 0
SpeakAlike (Ssf call message) (Ssf other said) = (call ≡ other) × SaysAlike message said
SpeakAlike (Recharge account amount until) (Recharge other money last) = (account ≡ other) × (amount ≡ money) × (until ≡ last)
SpeakAlike one other = ⊥

says_itself : (message : SsfMsg) → SaysAlike message message
says_itself (InitialDp call calling called) = (refl, refl)
says_itself (EventReport event leg mode) = (refl, refl)
says_itself (ChargingReport active info) = (refl, refl)
says_itself Ended = tt

pub speaks_itself : (body : Body) → SpeakAlike body body
speaks_itself (Ssf call message) = (refl, says_itself message)
speaks_itself (Recharge account amount until) = (refl, refl, refl)

-- ---- a dialogue

running_alike : (t : Conditions) (number at : ℕ) (one other : SsfMsg) → SaysAlike one other → while_running t number at one ≡ while_running t number at other
running_alike t number at (InitialDp call calling called) (InitialDp other caller dialled) alike = refl
running_alike t number at (EventReport event leg mode) (EventReport other its_leg its_mode) alike =
    ap (λ (e : Event). event_reported t e mode) alike.0 ∙ ap (λ (m : Mode). event_reported t other m) alike.1
running_alike t number at (ChargingReport active info) (ChargingReport other times) alike = rw (alike.0, alike.1) refl
running_alike t number at Ended Ended alike = refl
running_alike t number at one other alike = absurd alike

ending_alike : (one other : SsfMsg) → SaysAlike one other → ending one ≡ ending other
ending_alike (InitialDp call calling called) (InitialDp other caller dialled) alike = refl
ending_alike (EventReport event leg mode) (EventReport other its_leg its_mode) alike = rw (alike.1) refl
ending_alike (ChargingReport active info) (ChargingReport other times) alike = refl
ending_alike Ended Ended alike = refl
ending_alike one other alike = absurd alike

on_alike : (phase : Phase) (number at : ℕ) (one other : SsfMsg) → SaysAlike one other → on_message phase number at one ≡ on_message phase number at other
on_alike (FirstAsk t) number at one other alike = refl
on_alike (Running t) number at one other alike = running_alike t number at one other alike
on_alike (Settling t active since) number at one other alike = refl
on_alike (MoreAsk t) number at one other alike = refl
on_alike (Returning sequel) number at one other alike = refl
on_alike Ending number at one other alike = ending_alike one other alike
on_alike Closed number at one other alike = refl

-- ---- what is done

module _ (setup : Setup) (numbers : List ℕ) (number at : ℕ) (old new : Holding) (answer : AnswerView) where
  -- what a verdict comes to
  abbrev Does : Verdict → Type 0
  Does v = IsDone setup numbers at v old new answer

  begins_as : (call : ℕ) (called dialled : Number) (home : Option ℕ) → digits_of_number called ≡ digits_of_number dialled → Does (begins call dialled home) → Does (begins call called home)
  begins_as call called dialled None same done = done
  begins_as call called dialled (Some place) same done =
      let R : List ℕ → Type 0 = λ digits. IsRouted setup.tariff digits at done.route in
      record { route = done.route; routed = subst R (sym same) done.routed; talked = done.talked }

  same_home : (calling caller : Number) → digits_of_number calling ≡ digits_of_number caller → home_of calling setup ≡ home_of caller setup
  same_home calling caller same =
      ap (λ digits. option_and_then (λ account. place_of account setup) (lookup (λ (other : Number). bytes_eq (digits_of_number other) digits) setup.subscribers)) same

  fresh_as : (call : ℕ) (one other : SsfMsg) → SaysAlike one other → Does (fresh_call setup call other) → Does (fresh_call setup call one)
  fresh_as call (InitialDp own calling called) (InitialDp its caller dialled) alike done =
      begins_as call called dialled (home_of calling setup) alike.1
      (subst (λ home. Does (begins call dialled home)) (sym (same_home calling caller alike.0)) done)
  fresh_as call (EventReport event leg mode) (EventReport other its_leg its_mode) alike done = done
  fresh_as call (ChargingReport active info) (ChargingReport other times) alike done = done
  fresh_as call Ended Ended alike done = done
  fresh_as call one other alike done = absurd alike

  spoken_as : (call : ℕ) (one other : SsfMsg) (standing : Option DialogueAt) → SaysAlike one other → Does (spoken setup number at call other standing) → Does (spoken setup number at call one standing)
  spoken_as call one other None alike done = fresh_as call one other alike done
  spoken_as call one other (Some standing) alike done =
      subst (λ (step : Step). Does (goes_on call standing.place step)) (sym (on_alike standing.phase number at one other alike)) done

  -- what a post comes to, by what one comes to that says the same
  pub done_as : (talks : ℕ → Option DialogueAt) (one other : Body) → SpeakAlike one other → Does (verdict_on setup talks number at other) → Does (verdict_on setup talks number at one)
  done_as talks (Ssf call message) (Ssf other said) alike done =
      spoken_as call message said (talks call) alike.1 (subst (λ c. Does (spoken setup number at c said (talks c))) (sym alike.0) done)
  done_as talks (Recharge account amount until) (Recharge other money last) alike done =
      let same : Recharge other money last ≡ Recharge account amount until = rw (alike.0, alike.1, alike.2) refl in
      subst (λ (b : Body). Does (verdict_on setup talks number at b)) same done
  done_as talks (Ssf call message) (Recharge other money last) alike done = absurd alike
  done_as talks (Recharge account amount until) (Ssf other said) alike done = absurd alike

-- ---- items

-- two items say the same, under one number at one moment
pub record ItemsAlike (one other : Item) : Type 0 where
  pub number : one.number ≡ other.number
  pub at : one.at ≡ other.at
  pub body : SpeakAlike one.body other.body

-- items say what others say, and then there are more
abbrev pub GoAlike : List Item → List Item → List Item → Type 0
GoAlike [] others more = others ≡ more
GoAlike (item ∷ items) [] more = ⊥
GoAlike (item ∷ items) (other ∷ others) more = ItemsAlike item other × GoAlike items others more

pub goes_itself : (items more : List Item) → GoAlike items (items ++ more) more
goes_itself [] more = refl
goes_itself (item ∷ items) more = (record { number = refl; at = refl; body = speaks_itself item.body }, goes_itself items more)
