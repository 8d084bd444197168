-- What is known of each call once a state is kept.
use Rattle.std.proofs.Common.{◌≡◌, ℕ}
use Rattle.std.specs.BTreeMap.{insert_entry}
use Rattle.std.specs.Ordering.{nat_cmp}
use Rattle.account_core.specs.CallStates.{Renews}
use Rattle.account_core.specs.declared.call_states.CallStates.{CallStates}
use Rattle.account_core.specs.declared.call_state.CallState.{CallState}
use Rattle.account_core.specs.declared.call_state.CallState.TheVariants.{Fresh}
use Rattle.account_core.proofs.RisingLemmas.{kept_of}

pub renews : (old new : CallStates) (call : ℕ) (state : CallState) → new.calls ≡ insert_entry nat_cmp old.calls call state → Renews old new call state
renews old new call state is other = kept_of old.calls new.calls call state other Fresh is
