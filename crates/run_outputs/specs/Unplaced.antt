-- The events of a script that had no place in a run.
use Rattle.std.specs.Prelude.{◌≡◌, ◌==◌, ◌++◌, ℕ, List, [], ◌∷◌, codes}
use Rattle.std.specs.Fmt.{decimal}
use Rattle.std.specs.List.{filter, flat_map}
use Rattle.std.specs.List.Sorted.{IsNonDecreasingBy}
use Rattle.run_outputs.specs.declared.unplaced.UnplacedEvent.{UnplacedEvent}
use Rattle.run_texts.specs.declared.script.Happening.{Happening}
use Rattle.run_texts.specs.declared.script.Happening.TheVariants as happening
use Rattle.run_texts.specs.declared.script.ScriptRow.{ScriptRow}
use Rattle.ssf_core.specs.declared.item.BcsmEvent.{BcsmEvent}
use Rattle.ssf_core.specs.declared.item.BcsmEvent.TheVariants as bcsm

-- the event of a row, where it has one
abbrev pub event_in_row : ℕ → Happening → List UnplacedEvent
event_in_row at (happening.Start call calling called) = []
event_in_row at (happening.Meets call event) = record { at = at; call = call; event = event } ∷ []
event_in_row at (happening.Recharge account amount until) = []

-- the events of rows, in order
abbrev pub events_in_rows : List ScriptRow → List UnplacedEvent
events_in_rows rows = flat_map (λ row. event_in_row row.at row.what) rows

-- these rise by a number, and of each number they are those of the others, in order
pub record IsMergedBy {X : Type 0} (number : X → ℕ) (all merged : List X) : Type 0 where
  pub rising : IsNonDecreasingBy number merged
  pub same : (n : ℕ) → filter (λ x. number x == n) merged ≡ filter (λ x. number x == n) all

-- these events, by rising call, and those of one call in order
abbrev pub AreByCall : List UnplacedEvent → List UnplacedEvent → Type 0
AreByCall all events = IsMergedBy (λ event. event.call) all events

-- the word of an event in a script
abbrev pub bcsm_word : BcsmEvent → List ℕ
bcsm_word bcsm.RouteSelectFailure = codes "routefail"
bcsm_word bcsm.Busy = codes "busy"
bcsm_word bcsm.NoAnswer = codes "noanswer"
bcsm_word bcsm.Answer = codes "answer"
bcsm_word (bcsm.Disconnect leg) = codes "disconnect"
bcsm_word bcsm.Abandon = codes "abandon"

-- `call 7 disconnect at 400`
abbrev pub event_text : UnplacedEvent → List ℕ
event_text unplaced = codes "call " ++ (decimal unplaced.call ++ (codes " " ++ (bcsm_word unplaced.event ++ (codes " at " ++ decimal unplaced.at))))
