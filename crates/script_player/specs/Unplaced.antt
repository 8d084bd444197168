-- The rows of a script whose event had no place: the gsmSSF of the call refused it.
use Rattle.std.specs.Prelude.{◌≡◌, ◌++◌, ℕ, Option, Some, None, List, [], ◌∷◌, MatchOption}
use Rattle.run_texts.specs.declared.script.Happening.{Happening}
use Rattle.run_texts.specs.declared.script.Happening.TheVariants as happening
use Rattle.run_texts.specs.declared.script.ScriptRow.{ScriptRow}
use Rattle.script_player.specs.Chains.{Chain}
use Rattle.script_player.specs.Dues.{ssf_of}
use Rattle.script_player.specs.Networks.{Shown}
use Rattle.script_player.specs.Steps.{FeedsSsf, GivesTo, HappensAt, PlaysDue, PlaysRow}
use Rattle.script_player.specs.declared.network.Input.{Input}
use Rattle.script_player.specs.declared.network.Input.TheVariants as input
use Rattle.ssf_core.specs.Calls.{View}
use Rattle.ssf_core.specs.declared.fault.SsfFault.{SsfFault}

-- the fault of a gsmSSF that was given an input, where there is one
abbrev pub fault_of_feed : (found : Option View) (now call : ℕ) (input : Input) (before after : Shown) → MatchOption found (after ≡ before) (FeedsSsf before after now call input) → Option SsfFault
fault_of_feed None now call input before after gives = None
fault_of_feed (Some old) now call input before after gives = gives.is_given.fault

-- the fault by which the gsmSSF of a call refused an input; none where it took it, or where the call has none
abbrev pub fault_given : (now call : ℕ) (input : Input) (before after : Shown) → GivesTo now call input before after → Option SsfFault
fault_given now call input before after gives = fault_of_feed (ssf_of before.ssfs call) now call input before after gives

-- the fault by which the event of a row was refused; a start and a recharge have none
abbrev pub fault_of_row : (at : ℕ) (what : Happening) (before after : Shown) → HappensAt at what before after → Option SsfFault
fault_of_row at (happening.Start call calling called) before after happens = None
fault_of_row at (happening.Meets call event) before after happens = fault_given at call (input.Meet event) before after happens
fault_of_row at (happening.Recharge account amount until) before after happens = None

-- a row, where it was refused
abbrev pub where_refused : ScriptRow → Option SsfFault → List ScriptRow
where_refused row None = []
where_refused row (Some fault) = row ∷ []

-- of rows that were played, those whose event had no place, in order
abbrev pub unplaced_in : (before after : Shown) (rows : List ScriptRow) → Chain PlaysRow before rows after → List ScriptRow
unplaced_in before after [] plays = []
unplaced_in before after (row ∷ rows) plays = where_refused row (fault_of_row row.at row.what before plays.0 plays.1.0) ++ unplaced_in plays.0 after rows plays.1.1

-- ---- what the steps of a player say of it

-- the gsmSSF of a call is given an input, and this is the fault by which it refused it
pub record GivesWithFault (now call : ℕ) (input : Input) (before after : Shown) (fault : Option SsfFault) : Type 0 where
  pub gives : GivesTo now call input before after
  pub refused : fault ≡ fault_given now call input before after gives

-- a row is played, and this is the fault by which its event was refused
pub record PlaysRowWithFault (before : Shown) (row : ScriptRow) (after : Shown) (fault : Option SsfFault) : Type 0 where
  pub plays : PlaysRow before row after
  pub refused : fault ≡ fault_of_row row.at row.what before after plays

-- the first rows that wait are played, and those of them whose event had no place come behind the earlier ones
pub record PlaysDueWithout (now : ℕ) (before after : Shown) (waiting left earlier all : List ScriptRow) : Type 0 where
  pub plays : PlaysDue now before after waiting left
  pub unplaced : all ≡ earlier ++ unplaced_in before after plays.played plays.plays
