-- What a player of a script keeps.
use Rattle.std.specs.Prelude.{◌≡◌, ◌≤◌, ℕ, Bool, true, List, [], All, length, drop, take}
use Rattle.run_texts.specs.declared.script.ScriptRow.{ScriptRow}
use Rattle.run_values.specs.declared.post.Body.{Body}
use Rattle.script_player.specs.Rows.{FollowsRows}
use Rattle.price_core.specs.declared.times.TheConstants.{DAY, MAX_MOMENT}

-- what was given follows the rows taken; once it has ended no row is left
pub record IsKept (given : List (ℕ × Body)) (delay : ℕ) (rows : List ScriptRow) (taken : ℕ) (ended : Bool) : Type 0 where
  pub delay_within_day : delay ≤ DAY
  pub in_range : All (λ row. row.at ≤ MAX_MOMENT) rows
  pub within : taken ≤ length rows
  pub follows : FollowsRows (take taken rows) given
  pub played_out : ended ≡ true → drop taken rows ≡ []
