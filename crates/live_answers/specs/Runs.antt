-- What a live run comes to.
use Rattle.std.specs.Prelude.{◌≡◌, ◌≤◌, ◌++◌, ℕ, Option, Some, None, List, drop, length, map, take, IfSome, ⊤}
use Rattle.std.specs.Io.KnownBytes.{Appends}
use Rattle.live_answers.specs.Live.{Heard, given_of, heard_in, item_view, logged_of, replayed_text}
use Rattle.live_answers.specs.declared.group.TheConstants.{MAX_GROUP}
use Rattle.live_answers.specs.declared.replay.Replay.{Replay}
use Rattle.live_answers.specs.declared.stage.LiveFault.{LiveFault}
use Rattle.live_answers.specs.declared.stage.LiveFault.TheVariants as fault
use Rattle.table_core.specs.Fronts.{AppendsFront}
use Rattle.run_values.specs.Setups.{Setup}
use Rattle.run_values.specs.declared.post.Answer.{Answer}
use Rattle.run_values.specs.declared.post.Body.{Body}
use Rattle.runs_core.specs.Runs.{IsRun}
use Rattle.run_values.specs.declared.run_fault.RunFault.{RunFault}
use Rattle.run_values.specs.declared.run_fault.RunFault.TheVariants as run
use Rattle.account_core.specs.Closed.{Closed}
use Rattle.turn_account.specs.Seen.{StoodIn}

-- what was written, where a fault may have ended the run: all of a text, and only where the output failed no more than a front of it
abbrev pub PrintsText : Option LiveFault → Option (List ℕ) → Option (List ℕ) → List ℕ → Type 0
PrintsText None old new text = Appends old new text
PrintsText (Some fault.Input) old new text = Appends old new text
PrintsText (Some fault.Output) old new text = AppendsFront old new text
PrintsText (Some fault.Log) old new text = Appends old new text

-- what was logged: all of a text, and only where the log failed also a front of the text behind it
abbrev pub Logs : Option LiveFault → Option (List ℕ) → Option (List ℕ) → List ℕ → List ℕ → Type 0
Logs None old new text behind = Appends old new text
Logs (Some fault.Input) old new text behind = Appends old new text
Logs (Some fault.Output) old new text behind = Appends old new text
Logs (Some fault.Log) old new text behind = (size : ℕ) × Appends old new (text ++ take size behind)

-- what was done with lines that say this, where these are the answers to all that was given of them
pub record AnswersLines (replay : Replay) (fault : Option LiveFault) (heard : List Heard) (answers : List Answer) (given : List (ℕ × Body)) (output_old output_new log_old log_new : Option (List ℕ)) : Type 0 where
  -- so many lines were taken in: all, where no fault ended the run
  pub count : ℕ
  pub whole : fault ≡ None → length heard ≤ count
  -- what was given are the accepted messages, in order
  pub takes : map item_view given ≡ given_of (take count heard)
  -- each was printed with its answer, and of each line that wasn't accepted what is wrong with it
  pub prints : PrintsText fault output_old output_new (replayed_text replay answers (take count heard))
  -- and the lines of the accepted messages were logged: where the log failed also a front of those that were to be logged at once behind them
  pub logs : Logs fault log_old log_new (logged_of (take count heard)) (logged_of (take MAX_GROUP (drop count heard)))

-- a live run over an input has come to these books
pub record IsLiveRunTo (setup : Setup) (replay : Replay) (input output_old output_new log_old log_new : Option (List ℕ)) (given : List (ℕ × Body)) (books : List Closed) (fault : Option LiveFault) : Type 0 where
  pub answers : List Answer
  -- it is a run of one worker, to which this was given, and which gave these answers
  pub run : IsRun StoodIn setup 1 given answers books
  -- and it has answered the lines of its input
  pub lines : IfSome input (λ text. AnswersLines replay fault (heard_in text) answers given output_old output_new log_old log_new)

-- what can end a live run without books: it has one worker, and no gate closes
abbrev pub MayEndLive : RunFault → Type 0
MayEndLive run.OutOfMemory = ⊤
MayEndLive run.Workers = ⊥
MayEndLive run.GateClosed = ⊥
MayEndLive run.Mismatch = ⊤
MayEndLive run.Channel = ⊤
MayEndLive run.Thread = ⊤
