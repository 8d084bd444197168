-- The starts of a run's calls.
use Rattle.std.specs.Prelude.{◌≡◌, ℕ, Option, Some, List, All}
use Rattle.std.specs.Option.{option_map}
use Rattle.run_outputs.specs.Calls.{parties_of, start_of}
use Rattle.cap_values.specs.declared.message.SsfMsg.{SsfMsg}
use Rattle.cap_values.specs.declared.message.SsfMsg.TheVariants.{InitialDp, EventReport, ChargingReport, Ended}
use Rattle.cap_values.specs.declared.number.Number.{Number}
use Rattle.run_values.specs.declared.post.Body.{Body}
use Rattle.run_values.specs.declared.post.Body.TheVariants.{Ssf, Recharge}

-- an InitialDP of a call names the parties that the call starts with
abbrev pub HasParties : List (ℕ × Body) → ℕ → SsfMsg → Type 0
HasParties given call (InitialDp other calling called) = parties_of call given ≡ Some (calling, called)
HasParties given call (EventReport event leg mode) = Unit {0}
HasParties given call (ChargingReport active info) = Unit {0}
HasParties given call Ended = Unit {0}

-- so does a message, and a recharge has none
abbrev pub HasItsParties : List (ℕ × Body) → Body → Type 0
HasItsParties given (Ssf call message) = HasParties given call message
HasItsParties given (Recharge account amount until) = Unit {0}

-- each InitialDP among these names the parties that its call starts with
abbrev pub HaveTheirParties : List (ℕ × Body) → Type 0
HaveTheirParties given = All (λ item. HasItsParties given item.1) given

-- the moment at which a call starts, and the calling and the called number that it starts with
abbrev pub begins_with : ℕ → List (ℕ × Body) → Option (ℕ × Number × Number)
begins_with call given = option_map (λ start. (start.at, start.calling, start.called)) (start_of call given)

-- an InitialDP of a call at a moment is as the one that the call starts with: at its moment, with its parties
abbrev pub HasStart : List (ℕ × Body) → ℕ → ℕ → SsfMsg → Type 0
HasStart given at call (InitialDp other calling called) = begins_with call given ≡ Some (at, calling, called)
HasStart given at call (EventReport event leg mode) = Unit {0}
HasStart given at call (ChargingReport active info) = Unit {0}
HasStart given at call Ended = Unit {0}

-- so is a message, and a recharge starts nothing
abbrev pub HasItsStart : List (ℕ × Body) → ℕ → Body → Type 0
HasItsStart given at (Ssf call message) = HasStart given at call message
HasItsStart given at (Recharge account amount until) = Unit {0}

-- each InitialDP among these is as the one that its call starts with
abbrev pub HaveTheirStarts : List (ℕ × Body) → Type 0
HaveTheirStarts given = All (λ item. HasItsStart given item.0 item.1) given
