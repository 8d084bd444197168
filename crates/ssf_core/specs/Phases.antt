-- The states of the gsmSSF, with the phases of a call.
use Rattle.ssf_core.specs.declared.stage.State.{State}
use Rattle.ssf_core.specs.declared.stage.State.TheVariants as state

-- Idle and never invoked; WaitForRequest; WaitingForInstructions before the call goes on (Initial) or after it was interrupted (Down); Monitoring before the answer (Early) or after it (Active); Idle for good
pub data SsfPhase : Type 0 where
  Unused : SsfPhase
  Requested : SsfPhase
  Initial : SsfPhase
  Early : SsfPhase
  Active : SsfPhase
  Down : SsfPhase
  Ended : SsfPhase

-- the state of a phase
abbrev pub state_of_phase : SsfPhase → State
state_of_phase Unused = state.Idle
state_of_phase Requested = state.WaitForRequest
state_of_phase Initial = state.WaitingForInstructions
state_of_phase Early = state.Monitoring
state_of_phase Active = state.Monitoring
state_of_phase Down = state.WaitingForInstructions
state_of_phase Ended = state.Idle
