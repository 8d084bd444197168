-- What is known of the calls of a history.
use Rattle.std.specs.Prelude.{◌≡◌, ◌==◌, ℕ, unwrap_or, if◌then◌else◌}
use Rattle.std.specs.BTreeMap.{is_at}
use Rattle.std.specs.Map.{lookup}
use Rattle.std.specs.Ordering.{nat_cmp}
use Rattle.account_core.specs.declared.call_states.CallStates.{CallStates}
use Rattle.account_core.specs.declared.call_state.CallState.{CallState}
use Rattle.account_core.specs.declared.call_state.CallState.TheVariants.{Fresh}

-- the state of a call, which is fresh where none is kept
abbrev pub call_state_of : CallStates → ℕ → CallState
call_state_of calls call = unwrap_or (lookup (is_at (nat_cmp call)) calls.calls) Fresh

-- a call has this state now, and each other call the one that it had
abbrev pub Renews : CallStates → CallStates → ℕ → CallState → Type 0
Renews old new call state = (other : ℕ) → call_state_of new other ≡ (if call == other then state else call_state_of old other)

-- each call has the state that it had
abbrev pub AreSame : CallStates → CallStates → Type 0
AreSame old new = (call : ℕ) → call_state_of new call ≡ call_state_of old call
