-- What is taken of an input at once, and logged and given.
use Rattle.std.specs.Prelude.{◌≡◌, ◌≤◌, ◌++◌, ℕ, Option, List, IfSome, length, map}
use Rattle.std.specs.Io.KnownBytes.{Appends}
use Rattle.live_answers.specs.Groups.{BeginsWithLines, TakesOf, heard_behind, views_in}
use Rattle.live_answers.specs.Live.{given_of, item_view, logged_of}
use Rattle.live_answers.specs.Said.{line_view_of}
use Rattle.live_answers.specs.declared.group.TheConstants.{MAX_GROUP}
use Rattle.live_answers.specs.declared.judging.Said.{Said}
use Rattle.live_answers.specs.declared.stage.Left.{Left}
use Rattle.live_answers.specs.declared.stage.LiveFault.{LiveFault}
use Rattle.live_answers.specs.declared.stage.LiveFault.TheVariants as fault
use Rattle.table_core.specs.Fronts.{AppendsFront}
use Rattle.run_values.specs.declared.post.Body.{Body}

-- lines were taken behind all that was given, of which all is logged and given, and which say this
pub record TakesGroup (input rest old new : Option (List ℕ)) (was given : List (ℕ × Body)) (said : List Said) (behind : Left) : Type 0 where
  pub lines : List (List ℕ)
  pub few : length lines ≤ MAX_GROUP
  pub takes : TakesOf input rest behind lines
  pub says : map line_view_of said ≡ views_in (heard_behind was lines)
  pub gives : map item_view given ≡ map item_view was ++ given_of (heard_behind was lines)
  pub logs : Appends old new (logged_of (heard_behind was lines))

-- lines were taken, and the log failed within what they say
pub record LosesGroup (input old new : Option (List ℕ)) (was given : List (ℕ × Body)) : Type 0 where
  pub lines : List (List ℕ)
  pub few : length lines ≤ MAX_GROUP
  pub takes : IfSome input (BeginsWithLines lines)
  pub gives : given ≡ was
  pub logs : AppendsFront old new (logged_of (heard_behind was lines))

-- the fault that stops it: only the log may fail
abbrev pub CutsGroup : Option (List ℕ) → Option (List ℕ) → Option (List ℕ) → List (ℕ × Body) → List (ℕ × Body) → LiveFault → Type 0
CutsGroup input old new was given fault.Input = ⊥
CutsGroup input old new was given fault.Output = ⊥
CutsGroup input old new was given fault.Log = LosesGroup input old new was given
