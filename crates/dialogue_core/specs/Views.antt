-- What a dialogue of the code stands for.
use Rattle.std.specs.Prelude.{◌≡◌, Result, Ok, Err}
use Rattle.account_core.specs.Entries.{asked_of}
use Rattle.cap_values.specs.Orders.{orders_in}
use Rattle.price_core.specs.RatesOf.{rates_of}
use Rattle.dialogue_core.specs.Phases.{Conditions, Phase, Says, Sequel}
use Rattle.dialogue_core.specs.Phases as phase
use Rattle.dialogue_core.specs.Rules.{Step}
use Rattle.dialogue_core.specs.declared.dialogue.Dialogue.{Dialogue}
use Rattle.dialogue_core.specs.declared.fault.DialogueFault.{DialogueFault}
use Rattle.dialogue_core.specs.declared.state.State.{State}
use Rattle.dialogue_core.specs.declared.state.State.TheVariants as state
use Rattle.dialogue_core.specs.declared.state.Then.{Then}
use Rattle.dialogue_core.specs.declared.state.Then.TheVariants as next
use Rattle.dialogue_core.specs.declared.state.Terms.{Terms}
use Rattle.dialogue_core.specs.declared.dialogue.Turn.{Turn}
use Rattle.dialogue_core.specs.declared.dialogue.Turn.TheVariants as turn

-- the terms of a call, as plain data
abbrev pub conditions_of : Terms → Conditions
conditions_of terms =
    record { call = terms.call; plan = rates_of terms.plan; wanted = terms.wanted; least = terms.least; switch = terms.switch }

-- what follows a Return, as plain data
abbrev pub sequel_of : Then → Sequel
sequel_of next.Nothing = phase.Nothing
sequel_of next.GoOn = phase.Continues
sequel_of next.Clear = phase.Clears
sequel_of next.Fail = phase.Fails
sequel_of next.Close = phase.Closes

-- the phase of a state
abbrev pub phase_at : State → Phase
phase_at (state.FirstAsk terms) = phase.FirstAsk (conditions_of terms)
phase_at (state.Running terms) = phase.Running (conditions_of terms)
phase_at (state.Settling terms active at) = phase.Settling (conditions_of terms) active at
phase_at (state.MoreAsk terms) = phase.MoreAsk (conditions_of terms)
phase_at (state.Returning after) = phase.Returning (sequel_of after)
phase_at state.Ending = phase.Ending
phase_at state.Closed = phase.Closed

-- where a dialogue is
abbrev pub phase_of : Dialogue → Phase
phase_of dialogue = phase_at dialogue.state

-- what a turn says
abbrev pub says_of : Turn → Says
says_of (turn.Ask op) = phase.Asks (asked_of op)
says_of (turn.Send said) = phase.Sends (orders_in said)
says_of turn.Done = phase.Finished

-- what is done, and the state after, are by the rules, and so is a refusal
abbrev pub FollowsRules : Result (Turn × State) DialogueFault → Step → Type 0
FollowsRules (Ok next) step = step ≡ Ok (says_of next.0, phase_at next.1)
FollowsRules (Err fault) step = step ≡ Err fault
