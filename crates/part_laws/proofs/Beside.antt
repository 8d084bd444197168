-- The play of some rows beside the play of all: what holds between two rounds, and what a round of all is for some.
use Rattle.std.proofs.Common.{◌≡◌, ◌≤◌, ◌<◌, ◌+◌, ◌++◌, ◌⊎◌, ℕ, Bool, true, false, Some, None, List, [], All}
use Rattle.std.specs.List.{filter}
use Rattle.part_laws.proofs.InOrder.{ComesInOrder, of_delivery}
use Rattle.part_laws.proofs.OneSsf.{AreSsfsAlike}
use Rattle.part_laws.specs.Chosen.{Choice, chosen}
use Rattle.part_laws.specs.Rows.{chosen_rows}
use Rattle.run_texts.specs.Views.{rows_are_in_order}
use Rattle.run_values.specs.declared.post.Answer.{Answer}
use Rattle.run_values.specs.declared.post.Body.{Body}
use Rattle.script_player.specs.Dues.{HasTimer, ssf_of}
use Rattle.script_player.specs.Networks.{Shown}
use Rattle.script_player.specs.Plays.{Play}
use Rattle.script_player.specs.Rounds.{IsEnd, IsRound, IsTurn, waiting}
use Rattle.ssf_core.specs.Calls.{IsExpiry, Stands, View}
use Rattle.ssf_core.specs.Happenings.{Happening}
use Rattle.ssf_core.specs.Traces.{MayFollow}
use Rattle.ssf_core.specs.declared.deliveries.Delivery.{Delivery}

-- of all gsmSSFs those of the chosen calls stand alike here, and there is no other
pub record HasSsfsOf (choice : Choice) (whole part : List (ℕ × View)) : Type 0 where
  pub own : (call : ℕ) → choice.calls call ≡ true → AreSsfsAlike (ssf_of whole call) (ssf_of part call)
  pub no_other : (call : ℕ) → choice.calls call ≡ false → ssf_of part call ≡ None

pub record IsNetworkOf (choice : Choice) (whole part : Shown) : Type 0 where
  pub config : whole.config ≡ part.config
  pub given : part.given ≡ chosen choice whole.given
  pub ssfs : HasSsfsOf choice whole.ssfs part.ssfs

abbrev pub chosen_deliveries : Choice → List Delivery → List Delivery
chosen_deliveries choice queue = filter (λ delivery. choice.calls delivery.call) queue

-- a play of some rows beside the play of all, where these operations are on their way in each
pub record IsPartPlay (choice : Choice) (whole part : Play) (queue own_queue : List Delivery) : Type 0 where
  pub network : IsNetworkOf choice whole.network part.network
  pub delay : whole.delay ≡ part.delay
  pub left : part.left ≡ chosen_rows choice whole.left
  pub unplaced : part.unplaced ≡ chosen_rows choice whole.unplaced
  pub queue_is : own_queue ≡ chosen_deliveries choice queue

-- a gsmSSF stands for a trace after which no timer expires before a moment
pub record ExpiresFrom (view : View) (moment : ℕ) : Type 0 where
  pub trace : List Happening
  pub stands : Stands view trace
  pub ahead : (e : Happening) → IsExpiry e.what → MayFollow view.config trace e → moment ≤ e.at

-- a play is between two rounds, of which one was at a moment: nothing is left from before it, the operations are in the order in which they come, and no timer expires before the last moment of its
-- gsmSSF
pub record IsBetween (play : Play) (queue : List Delivery) (last : ℕ) : Type 0 where
  pub timers : (call at : ℕ) → HasTimer play.network.ssfs call at → last < at
  pub rows : rows_are_in_order last play.left ≡ true
  pub rises : ComesInOrder of_delivery last queue
  pub within : All (λ delivery. delivery.at ≤ last + play.delay) queue
  pub stood : (call : ℕ) (view : View) → ssf_of play.network.ssfs call ≡ Some view → ExpiresFrom view view.last

-- what a round has added, all at its moment
pub record IsAdded (before after : Play) (now : ℕ) (added : List (ℕ × Body)) : Type 0 where
  pub grown : after.network.given ≡ before.network.given ++ added
  pub moments : All (λ item. item.0 ≡ now) added

-- nothing in a round is of these rows: their play waits
pub record PassesOver (choice : Choice) (after part : Play) (own_queue : List Delivery) (added : List (ℕ × Body)) : Type 0 where
  pub none : chosen choice added ≡ []
  pub beside : IsPartPlay choice after part after.queue own_queue

-- something is, and their play has the same round
pub record GoesAlong (choice : Choice) (after its : Play) : Type 0 where
  pub running : its.ended ≡ false
  pub beside : IsPartPlay choice after its after.queue its.queue

pub record IsFollowed (choice : Choice) (whole after part its : Play) (own_answers : List Answer) : Type 0 where
  pub now : ℕ
  pub added : List (ℕ × Body)
  pub is_added : IsAdded whole after now added
  pub between : IsBetween after after.queue now
  pub follows : PassesOver choice after part (waiting part own_answers) added ⊎ GoesAlong choice after its

-- so it is of each round of all, whatever turn the play of some has next
abbrev pub RoundsAreFollowed : Type 0
RoundsAreFollowed =
    (choice : Choice) (whole after part its : Play) (answers own_answers : List Answer) (last : ℕ) (more : Bool) → IsRound whole after answers → IsTurn more part its own_answers
    → IsBetween whole (waiting whole answers) last → IsPartPlay choice whole part (waiting whole answers) (waiting part own_answers)
    → IsFollowed choice whole after part its own_answers

-- and where the play of all ends, that of some does, too
pub record HasEnded (part its : Play) : Type 0 where
  pub ended : its.ended ≡ true
  pub given : its.network.given ≡ part.network.given
  pub unplaced : its.unplaced ≡ part.unplaced

abbrev pub EndsAreFollowed : Type 0
EndsAreFollowed =
    (choice : Choice) (whole after part its : Play) (answers own_answers : List Answer) (last : ℕ) (more : Bool) → IsEnd whole after answers → IsTurn more part its own_answers
    → IsBetween whole (waiting whole answers) last → IsPartPlay choice whole part (waiting whole answers) (waiting part own_answers) → HasEnded part its
