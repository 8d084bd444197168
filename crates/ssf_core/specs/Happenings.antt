-- What happens to a gsmSSF.
use Rattle.std.specs.Prelude.{◌++◌, ℕ, List, [], ◌∷◌}
use Rattle.ssf_core.specs.declared.ssf.Input.{Input}
use Rattle.ssf_core.specs.declared.item.Item.{Item}
use Rattle.ssf_core.specs.declared.item.Out.{Out}
use Rattle.ssf_core.specs.declared.timers.Timer.{Timer}

-- an input is taken, or a timer expires
pub data What : Type 0 where
  Took : Input → What
  Expired : Timer → What

-- something happens at a moment, and items are sent
pub record Happening : Type 0 where
  pub at : ℕ
  pub what : What
  pub sent : List Item

-- items, sent at a moment
abbrev pub sent_at : ℕ → List Item → List Out
sent_at now [] = []
sent_at now (item ∷ items) = record { at = now; item = item } ∷ sent_at now items

-- all that was sent, in order; the newest happening is first
abbrev pub sent_in : List Happening → List Out
sent_in [] = []
sent_in (e ∷ trace) = sent_in trace ++ sent_at e.at e.sent
