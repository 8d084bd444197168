-- What an account keeps beside its entries.
use Rattle.std.specs.Prelude.{◌≡◌, ℕ, List, Bool, Some, false, true}
use Rattle.account_core.specs.CallStates.{call_state_of}
use Rattle.account_core.specs.Entries.{EntryData}
use Rattle.account_core.specs.KeptPlans.{rates_kept}
use Rattle.account_core.specs.Known.{CallFacts, known, nothing_known}
use Rattle.account_core.specs.declared.call_state.CallState.{CallState}
use Rattle.account_core.specs.declared.call_states.CallStates.{CallStates}
use Rattle.account_core.specs.declared.call_state.CallState.TheVariants.{Fresh, Granted, Over, Reported}
use Rattle.account_core.specs.declared.held_call.HeldCall.{HeldCall}

-- what is known of a call that was granted something, by whether it was returned and whether it awaits a report
abbrev pub facts_of_held : HeldCall → Bool → Bool → CallFacts
facts_of_held held returned awaits = record {
  plan = Some (rates_kept held.plan);
  times = held.times;
  granted = held.granted;
  top = held.top;
  forfeited = held.forfeited;
  returned = returned;
  awaits = awaits;
}

-- what a state says of its call
abbrev pub known_of : CallState → CallFacts
known_of Fresh = nothing_known
known_of (Granted held) = facts_of_held held false true
known_of (Reported held) = facts_of_held held false false
known_of (Over held) = facts_of_held held true false

-- each call has the state that the history says
abbrev pub KnowsEach : CallStates → List EntryData → Type 0
KnowsEach calls h = (call : ℕ) → known_of (call_state_of calls call) ≡ known call h
