-- What a live run does in a round.
use Rattle.std.specs.Prelude.{◌≡◌, ◌≤◌, ◌-◌, ◌++◌, ℕ, Option, Some, None, List, [], IfSome, length, map}
use Rattle.std.specs.Io.KnownBytes.{Appends, Keeps}
use Rattle.live_answers.specs.Groups.{BeginsWithLines, LeftAt, TakesOf, group_rows, heard_behind, line_behind, views_in}
use Rattle.live_answers.specs.Live.{given_of, item_view, logged_of}
use Rattle.live_answers.specs.Said.{line_view_of}
use Rattle.live_answers.specs.declared.driver.LiveDriver.{LiveDriver}
use Rattle.live_answers.specs.declared.group.TheConstants.{MAX_GROUP}
use Rattle.live_answers.specs.declared.stage.Left.{Left}
use Rattle.live_answers.specs.declared.stage.Left.TheVariants as left
use Rattle.live_answers.specs.declared.stage.LiveFault.{LiveFault}
use Rattle.live_answers.specs.declared.stage.LiveFault.TheVariants as fault
use Rattle.live_answers.specs.declared.stage.Stage.{Stage}
use Rattle.live_answers.specs.declared.stage.Stage.TheVariants as stage
use Rattle.table_core.specs.Fronts.{AppendsFront}
use Rattle.run_values.specs.declared.post.Answer.{Answer}

module _ {I O L : Type 0} where
  -- how many messages were accepted before the last lines, where these are the answers to theirs
  abbrev pub first_of : LiveDriver I O L → List Answer → ℕ
  first_of driver answers = length driver.given.items - length answers

  -- what is to be printed of the last lines
  abbrev pub due : LiveDriver I O L → List Answer → List ℕ
  due driver answers = group_rows driver.replay (first_of driver answers) answers driver.line (first_of driver answers) (map line_view_of driver.said.items)

  -- the number of the last of them
  abbrev pub last_line : LiveDriver I O L → List Answer → ℕ
  last_line driver answers = line_behind driver.replay driver.line (first_of driver answers) (map line_view_of driver.said.items)

  -- it writes where it wrote before
  pub record WritesOn (before after : LiveDriver I O L) : Type 0 where
    pub output : after.output.ghost_name ≡ before.output.ghost_name
    pub log : after.log.ghost_name ≡ before.log.ghost_name

  module _ (remaining : I → Option (List ℕ)) (contents : O → Option (List ℕ)) (logged : L → Option (List ℕ)) (before : LiveDriver I O L) (answers : List Answer) (after : LiveDriver I O L) where
    -- what was due is printed, and then lines are taken, of which all is logged and given
    pub record TakesLines (behind : Left) : Type 0 where
      pub lines : List (List ℕ)
      pub few : length lines ≤ MAX_GROUP
      pub opened : before.stage ≡ stage.Open left.Lines
      pub takes : TakesOf (remaining before.input) (remaining after.input) behind lines
      pub replay : after.replay ≡ before.replay
      pub line : after.line ≡ last_line before answers
      pub said : map line_view_of after.said.items ≡ views_in (heard_behind before.given.items lines)
      pub gives : map item_view after.given.items ≡ map item_view before.given.items ++ given_of (heard_behind before.given.items lines)
      pub prints : Appends (contents before.output.now) (contents after.output.now) (due before answers)
      pub logs : Appends (logged before.log.now) (logged after.log.now) (logged_of (heard_behind before.given.items lines))

    -- what was due is printed, and no line is left
    pub record EndsRun : Type 0 where
      pub ends : (text : List ℕ) → LeftAt before.stage (remaining before.input) text → text ≡ []
      pub gives : after.given.items ≡ before.given.items
      pub prints : Appends (contents before.output.now) (contents after.output.now) (due before answers)
      pub logs : Keeps (logged before.log.now) (logged after.log.now)

    -- what was due is printed, behind which the input failed
    pub record LosesInput : Type 0 where
      pub gives : after.given.items ≡ before.given.items
      pub prints : Appends (contents before.output.now) (contents after.output.now) (due before answers)
      pub logs : Keeps (logged before.log.now) (logged after.log.now)

    -- the output failed within what was due
    pub record LosesOutput : Type 0 where
      pub gives : after.given.items ≡ before.given.items
      pub prints : AppendsFront (contents before.output.now) (contents after.output.now) (due before answers)
      pub logs : Keeps (logged before.log.now) (logged after.log.now)

    -- what was due is printed, lines were taken, and the log failed within them
    pub record LosesLog : Type 0 where
      pub lines : List (List ℕ)
      pub few : length lines ≤ MAX_GROUP
      pub opened : before.stage ≡ stage.Open left.Lines
      pub takes : IfSome (remaining before.input) (BeginsWithLines lines)
      pub gives : after.given.items ≡ before.given.items
      pub prints : Appends (contents before.output.now) (contents after.output.now) (due before answers)
      pub logs : AppendsFront (logged before.log.now) (logged after.log.now) (logged_of (heard_behind before.given.items lines))

    -- a round in which lines were taken, with what is left behind them, or none was left
    abbrev pub HearsLines : Option Left → Type 0
    HearsLines None = EndsRun
    HearsLines (Some behind) = TakesLines behind

    -- a round that a fault has stopped
    abbrev pub IsStoppedBy : LiveFault → Type 0
    IsStoppedBy fault.Input = LosesInput
    IsStoppedBy fault.Output = LosesOutput
    IsStoppedBy fault.Log = LosesLog

    -- a round, after which the run goes on or has ended
    abbrev pub LeadsTo : Stage → Type 0
    LeadsTo (stage.Open behind) = TakesLines behind
    LeadsTo stage.Ended = EndsRun
    LeadsTo (stage.Failed why) = IsStoppedBy why

    -- what a live run becomes by the answers that it hears
    pub record Hears : Type 0 where
      pub leads : LeadsTo after.stage
      pub writes : WritesOn before after
