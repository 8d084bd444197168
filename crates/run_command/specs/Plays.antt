-- What the workers of a run are given: what a script says, and what the gsmSSFs of its calls send.
use Rattle.std.specs.Prelude.{◌≡◌, ℕ, true, List, [], map}
use Rattle.run_values.specs.declared.options.RunAsk.{RunAsk}
use Rattle.run_texts.specs.Happenings.{RowData}
use Rattle.run_texts.specs.Views.{row_data}
use Rattle.run_texts.specs.declared.script.ScriptRow.{ScriptRow}
use Rattle.script_player.specs.Plays.{IsPlayed, Play}
use Rattle.script_player.specs.Posts.{Begins, items_of, opening_item_of, recharges_in, recharge_items_of}
use Rattle.script_player.specs.Runs.{Hears, IsReached, LivesByItsDeeds, fresh_play}
use Rattle.ssf_core.specs.declared.config.SsfConfig.{SsfConfig}
use Rattle.run_values.specs.declared.post.Answer.{Answer}
use Rattle.run_values.specs.declared.post.Body.{Body}
use Rattle.runs_core.specs.Hearing.{HearsRounds}

-- a fresh player of these rows has heard answers round by round, in each round one for each item of the round before, up to the round in which it ended
abbrev pub HearsItsRounds : SsfConfig → ℕ → List ScriptRow → List (List Answer) → Play → Type 0
HearsItsRounds config delay rows heard play = HearsRounds (λ (p : Play). p.network.given) (λ (p : Play). p.ended) Hears [] (fresh_play config delay rows) heard play

-- the play of these rows with gsmSSFs of this configuration, to which operations come after this delay, where these answers are heard
pub record IsPlayOf (config : SsfConfig) (delay : ℕ) (rows : List ScriptRow) (heard : List (List Answer)) (given : List (ℕ × Body)) : Type 0 where
  -- what a fresh player of the rows has come to, round by round, where it has ended
  pub play : Play
  pub reached : IsReached config delay rows play
  -- by these answers
  pub heard_are : reached.heard ≡ heard
  pub rounds : HearsItsRounds config delay rows heard play
  pub ended : play.ended ≡ true
  pub gives : play.network.given ≡ given
  -- of a call: what its gsmSSF sends in the life that the inputs of the run have made
  pub lives : LivesByItsDeeds config delay rows play
  -- and so what a gsmSSF sends along a trace, in order, from the row on that starts the call
  pub calls : (call : ℕ) → IsPlayed config call given
  pub begins : (call : ℕ) → Begins (opening_item_of call rows) (items_of call given)
  -- and the recharges of the rows, in order
  pub recharges : recharges_in given ≡ recharge_items_of rows

-- the same, in which these rows had no place
pub record IsPlayWithout (config : SsfConfig) (delay : ℕ) (rows : List ScriptRow) (heard : List (List Answer)) (given : List (ℕ × Body)) (without : List ScriptRow) : Type 0 where
  pub plays : IsPlayOf config delay rows heard given
  pub unplaced : plays.play.unplaced ≡ without

-- the configuration that was asked for
pub record IsAskedFor (ask : RunAsk) (config : SsfConfig) : Type 0 where
  pub tssf : config.tssf ≡ ask.tssf
  pub tccd : config.tccd ≡ ask.tccd
  pub default_handling : config.default_handling ≡ ask.default_handling

-- the play of a script as it was asked for, where these answers are heard
pub record IsGivenBy (ask : RunAsk) (script : List RowData) (heard : List (List Answer)) (given : List (ℕ × Body)) : Type 0 where
  pub config : SsfConfig
  pub asked_for : IsAskedFor ask config
  pub rows : List ScriptRow
  pub says : map row_data rows ≡ script
  pub play : IsPlayOf config ask.delay rows heard given

-- the same, in which these rows had no place
pub record IsGivenWithout (ask : RunAsk) (script : List RowData) (heard : List (List Answer)) (given : List (ℕ × Body)) (without : List ScriptRow) : Type 0 where
  pub given_by : IsGivenBy ask script heard given
  pub unplaced : given_by.play.play.unplaced ≡ without
