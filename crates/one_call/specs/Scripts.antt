-- The events that a call is to meet.
use Rattle.std.specs.Prelude.{◌≡◌, ◌<◌, ◌≤◌, ◌&&◌, ℕ, Bool, true, Option, Some, None, List, [], ◌∷◌, nat_le}
use Rattle.std.specs.Option.{ForSome}
use Rattle.ssf_core.specs.declared.item.BcsmEvent.{BcsmEvent}

-- no moment lies below the one before it, nor the first one below the start
abbrev pub events_are_in_order : ℕ → List (ℕ × BcsmEvent) → Bool
events_are_in_order start [] = true
events_are_in_order start (next ∷ script) = nat_le start next.0 && events_are_in_order next.0 script

-- the moment of the first event
abbrev pub next_event : List (ℕ × BcsmEvent) → Option ℕ
next_event [] = None
next_event (next ∷ script) = Some next.0

-- the first event is taken, where there is one that is due by now
abbrev pub TakesEvent : ℕ → List (ℕ × BcsmEvent) → Option BcsmEvent → List (ℕ × BcsmEvent) → Type 0
TakesEvent now before None after = (after ≡ before) × ForSome (next_event before) (λ at. now < at)
TakesEvent now before (Some event) after = (at : ℕ) × ((at ≤ now) × (before ≡ (at, event) ∷ after))
