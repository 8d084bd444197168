-- What a player of a script shows, and what holds of what it has given.
use Rattle.std.specs.Prelude.{◌≡◌, ℕ, Bool, List, drop, take}
use Rattle.run_texts.specs.declared.script.ScriptRow.{ScriptRow}
use Rattle.ssf_core.specs.Happenings.{Happening, sent_in}
use Rattle.ssf_core.specs.Traces.{IsTrace}
use Rattle.ssf_core.specs.declared.config.SsfConfig.{SsfConfig}
use Rattle.run_values.specs.declared.post.Body.{Body}
use Rattle.script_player.specs.Networks.{Shown}
use Rattle.script_player.specs.Posts.{items_of, posts_of}
use Rattle.ssf_core.specs.declared.deliveries.Delivery.{Delivery}

-- its gsmSSFs and all that it has given, the deliveries that wait, the delay, the rows that it has taken and those that are left, whether it has ended, and the rows so far whose event had no place
pub record Play : Type 0 where
  pub network : Shown
  pub queue : List Delivery
  pub delay : ℕ
  pub taken : List ScriptRow
  pub left : List ScriptRow
  pub ended : Bool
  pub unplaced : List ScriptRow

-- what a player shows that has taken so many of its rows
abbrev pub play_at : Shown → List Delivery → ℕ → List ScriptRow → ℕ → Bool → List ScriptRow → Play
play_at network queue delay rows taken ended unplaced =
    record { network = network; queue = queue; delay = delay; taken = take taken rows; left = drop taken rows; ended = ended; unplaced = unplaced }

-- what was given of a call is what a gsmSSF sends along a trace: each of its messages, in order, with its moment
pub record IsPlayed (config : SsfConfig) (call : ℕ) (given : List (ℕ × Body)) : Type 0 where
  pub trace : List Happening
  pub is_trace : IsTrace config trace
  pub same : items_of call given ≡ posts_of call (sent_in trace)
