-- The run of a script, from its start.
use Rattle.std.specs.Prelude.{◌≡◌, ◌++◌, ℕ, Bool, true, false, List, [], ◌∷◌, map}
use Rattle.run_texts.specs.declared.script.ScriptRow.{ScriptRow}
use Rattle.ssf_core.specs.declared.config.SsfConfig.{SsfConfig}
use Rattle.run_values.specs.declared.post.Answer.{Answer}
use Rattle.script_player.specs.Chains.{Chain}
use Rattle.script_player.specs.Lives.{Deed, HasLived, delivery_deed, row_deed, wait_deed}
use Rattle.script_player.specs.Plays.{Play}
use Rattle.script_player.specs.Rounds.{IsTurn}

-- a play before its first round: all rows are left, and nothing has happened
abbrev pub fresh_play : SsfConfig → ℕ → List ScriptRow → Play
fresh_play config delay rows =
    record { network = record { config = config; ssfs = []; given = []; whole = true }; queue = []; delay = delay; taken = []; left = rows; ended = false; unplaced = [] }

-- answers are heard: a play that hasn't ended has a round, or ends
pub record Hears (before : Play) (answers : List Answer) (after : Play) : Type 0 where
  pub running : before.ended ≡ false
  pub more : Bool
  pub turn : IsTurn more before after answers

-- the play that a fresh one of these rows comes to, with gsmSSFs of this configuration and this delay, where it hears these answers, round by round
abbrev pub HasHeard : SsfConfig → ℕ → List ScriptRow → List (List Answer) → Play → Type 0
HasHeard config delay rows heard play = Chain Hears (fresh_play config delay rows) heard play

-- ---- the deeds of a run

-- what is given in a round, in order
abbrev pub deeds_of_turn : (more : Bool) (before after : Play) (answers : List Answer) → IsTurn more before after answers → List (ℕ × Deed)
deeds_of_turn true before after answers round =
    map (delivery_deed round.now) round.delivers.delivered ++ (map row_deed round.plays.played ++ map (wait_deed round.now) round.runs.calls)
deeds_of_turn false before after answers end = []

-- what is given in a run, in order
abbrev pub deeds_of_run : (heard : List (List Answer)) (before after : Play) → Chain Hears before heard after → List (ℕ × Deed)
deeds_of_run [] before after chain = []
deeds_of_run (answers ∷ heard) before after chain = deeds_of_turn chain.1.0.more before chain.0 answers chain.1.0.turn ++ deeds_of_run heard chain.0 after chain.1.1

-- the play that a fresh one comes to by some answers, round by round
pub record IsReached (config : SsfConfig) (delay : ℕ) (rows : List ScriptRow) (play : Play) : Type 0 where
  pub heard : List (List Answer)
  pub has_heard : HasHeard config delay rows heard play

-- what was given in it, in order
abbrev pub deeds_in : (config : SsfConfig) (delay : ℕ) (rows : List ScriptRow) (play : Play) → IsReached config delay rows play → List (ℕ × Deed)
deeds_in config delay rows play run = deeds_of_run run.heard (fresh_play config delay rows) play run.has_heard

-- what was given of each call is what its gsmSSF has sent in the life that the deeds of the run have made
abbrev pub LivesByItsDeeds : SsfConfig → ℕ → List ScriptRow → Play → Type 0
LivesByItsDeeds config delay rows play =
    (run : IsReached config delay rows play) (call : ℕ) → HasLived config (deeds_in config delay rows play run) call play.network.given
