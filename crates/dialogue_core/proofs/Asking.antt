-- What a dialogue says to what its ask got, and that fewer asks are left then.
use Rattle.std.proofs.Common.{refl, subst, ◌≡◌, ◌≤◌, ℕ, Bool, true, false, Result, Ok, Err, List, arith}
use Rattle.std.specs.Prelude.{IfOk, IfErr, if◌then◌else◌}
use Rattle.std.specs.Result.{result_unwrap_or}
use Rattle.account_core.specs.declared.entry.Reply.{Reply}
use Rattle.account_core.specs.declared.entry.Reply.TheVariants.{Granted, Settled, Returned}
use Rattle.cap_values.specs.Orders.{Order}
use Rattle.dialogue_core.specs.Phases.{Phase, Says, Sequel, FirstAsk, Running, Settling, MoreAsk, Returning, Ending, Closed, Sends}
use Rattle.dialogue_core.specs.Phases as phase
use Rattle.dialogue_core.specs.Rules.{Step, are_units, on_reply, sequel, on_refusal}
use Rattle.dialogue_core.specs.Talks.{Got, after_got, asks_after, asks_left, or_done}
use Rattle.dialogue_core.specs.Views.{phase_of, says_of}
use Rattle.dialogue_core.specs.declared.dialogue.Dialogue.{Dialogue}
use Rattle.dialogue_core.specs.declared.fault.DialogueFault.{DialogueFault}
use Rattle.dialogue_core.specs.declared.fault.DialogueFault.TheVariants.{Unexpected}
use Rattle.dialogue_core.specs.declared.dialogue.Turn.{Turn}
use Rattle.dialogue_core.specs.declared.dialogue.Turn.TheVariants as turn

-- it goes on as the rules say, or refuses the answer and is unchanged
pub got_by : (was is : Dialogue) (step : Step) (result : Result Turn DialogueFault) → IfOk result (λ said. step ≡ Ok (says_of said, phase_of is))
    → IfErr result (λ fault. step ≡ Err fault) → IfErr result (λ fault. is ≡ was)
    → or_done (phase_of was) step ≡ (says_of (result_unwrap_or result turn.Done), phase_of is)
got_by was is step (Ok said) ok err same = rw ok refl
got_by was is step (Err fault) ok err same = rw (err, same) refl

-- ---- fewer asks are left after each

abbrev left_by : Step → ℕ
left_by (Ok next) = asks_left next.0 next.1
left_by (Err fault) = 0

fewer_given : (b : Bool) (orders : List Order) (to : Phase) (n : ℕ) → left_by (if b then Ok (Sends orders, to) else Err Unexpected) ≤ n
fewer_given true orders to n = omega arith
fewer_given false orders to n = omega arith

fewer_sequel : (after : Sequel) → left_by (Ok (sequel after)) ≤ 0
fewer_sequel phase.Nothing = omega arith
fewer_sequel phase.Continues = omega arith
fewer_sequel phase.Clears = omega arith
fewer_sequel phase.Fails = omega arith
fewer_sequel phase.Closes = omega arith

fewer_replied : (phase : Phase) (reply : Reply) → left_by (on_reply phase reply) ≤ asks_after phase
fewer_replied (FirstAsk t) (Granted units last a) = fewer_given (are_units units) _ (Running t) 0
fewer_replied (FirstAsk t) reply = omega arith
fewer_replied (Running t) reply = omega arith
fewer_replied (Settling t true since) (Settled p a) = omega arith
fewer_replied (Settling t true since) reply = omega arith
fewer_replied (Settling t false since) (Settled p a) = omega arith
fewer_replied (Settling t false since) reply = omega arith
fewer_replied (MoreAsk t) (Granted units last a) = fewer_given (are_units units) _ (Running t) 1
fewer_replied (MoreAsk t) reply = omega arith
fewer_replied (Returning after) (Returned p a) = fewer_sequel after
fewer_replied (Returning after) reply = omega arith
fewer_replied Ending reply = omega arith
fewer_replied Closed reply = omega arith

fewer_unanswered : (phase : Phase) → left_by (on_refusal phase) ≤ asks_after phase
fewer_unanswered (FirstAsk t) = omega arith
fewer_unanswered (Running t) = omega arith
fewer_unanswered (Settling t true since) = omega arith
fewer_unanswered (Settling t false since) = omega arith
fewer_unanswered (MoreAsk t) = omega arith
fewer_unanswered (Returning after) = fewer_sequel after
fewer_unanswered Ending = omega arith
fewer_unanswered Closed = omega arith

fewer_done : (phase : Phase) (step : Step) → left_by step ≤ asks_after phase → asks_left (or_done phase step).0 (or_done phase step).1 ≤ asks_after phase
fewer_done phase (Ok next) fewer = fewer
fewer_done phase (Err fault) fewer = omega arith

fewer_got : (phase : Phase) (got : Got) → asks_left (after_got phase got).0 (after_got phase got).1 ≤ asks_after phase
fewer_got phase (Ok reply) = fewer_done phase (on_reply phase reply) (fewer_replied phase reply)
fewer_got phase (Err fault) = fewer_done phase (on_refusal phase) (fewer_unanswered phase)

pub fewer_said : (phase to : Phase) (said : Says) (got : Got) → after_got phase got ≡ (said, to) → asks_left said to ≤ asks_after phase
fewer_said phase to said got is =
    let P : (Says × Phase) → Type 0 = λ p. asks_left p.0 p.1 ≤ asks_after phase in subst P is (fewer_got phase got)
