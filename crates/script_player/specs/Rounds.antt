-- The rounds of a run.
use Rattle.std.specs.Prelude.{◌≡◌, ◌<◌, ◌++◌, ℕ, Bool, true, false, Option, Some, List, []}
use Rattle.std.specs.Option.{ForSome}
use Rattle.run_values.specs.declared.post.Answer.{Answer}
use Rattle.ssf_core.specs.Deliveries.{next_delivery}
use Rattle.script_player.specs.Deliveries.{deliveries_of}
use Rattle.script_player.specs.Dues.{HasTimer, IsFirstDue}
use Rattle.ssf_core.specs.Moments.{in_reach, sooner}
use Rattle.script_player.specs.Networks.{Shown}
use Rattle.script_player.specs.Plays.{Play}
use Rattle.script_player.specs.Rows.{next_row}
use Rattle.script_player.specs.Steps.{DeliversDue, PlaysDue, RunsTimers}
use Rattle.script_player.specs.Unplaced.{unplaced_in}
use Rattle.ssf_core.specs.declared.deliveries.Delivery.{Delivery}
use Rattle.price_core.specs.declared.times.TheConstants.{HORIZON}

-- the deliveries that wait once answers were heard: each operation of an answer comes last, a delay after the moment of its item
abbrev pub waiting : Play → List Answer → List Delivery
waiting play answers = play.queue ++ deliveries_of play.delay play.network.given answers

-- the least of the moments of the next row, of the next delivery, and at which a timer is due, where a gsmSSF takes it
abbrev pub next_moment_of : Play → List Answer → Option ℕ → Option ℕ
next_moment_of play answers due = in_reach (sooner (sooner (next_row play.left) (next_delivery (waiting play answers))) due)

-- a round of one moment: the deliveries that are due, then the rows of the moment, of which those are put down whose event had no place, then the timers
pub record IsRound (before after : Play) (answers : List Answer) : Type 0 where
  pub due : Option ℕ
  pub first_due : IsFirstDue before.network.ssfs due
  pub now : ℕ
  pub next : next_moment_of before answers due ≡ Some now
  pub delivered : Shown
  pub played : Shown
  pub delivers : DeliversDue now before.network delivered (waiting before answers) after.queue
  pub plays : PlaysDue now delivered played before.left after.left
  pub runs : RunsTimers now played after.network
  pub same_delay : after.delay ≡ before.delay
  pub running : after.ended ≡ false
  pub unplaced : after.unplaced ≡ before.unplaced ++ unplaced_in delivered played plays.played plays.plays

-- the run ends: no row is left, and of the deliveries the first, and each timer that runs, lies past the greatest moment that a gsmSSF takes
pub record IsEnd (before after : Play) (answers : List Answer) : Type 0 where
  pub no_row : before.left ≡ []
  pub delivery_past : ForSome (next_delivery (waiting before answers)) (λ at. HORIZON < at)
  pub timers_past : (call at : ℕ) → HasTimer before.network.ssfs call at → HORIZON < at
  pub same_network : after.network ≡ before.network
  pub same_queue : after.queue ≡ waiting before answers
  pub same_left : after.left ≡ before.left
  pub same_delay : after.delay ≡ before.delay
  pub ended : after.ended ≡ true
  pub same_unplaced : after.unplaced ≡ before.unplaced

-- a round, or the end
abbrev pub IsTurn : Bool → Play → Play → List Answer → Type 0
IsTurn true before after answers = IsRound before after answers
IsTurn false before after answers = IsEnd before after answers
