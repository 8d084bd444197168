-- What of a log is heard again.
use Rattle.std.specs.Prelude.{◌≡◌, ℕ, List, [], Option, Some, None, Ok, min}
use Rattle.live_answers.specs.Checks.{IsChecked}
use Rattle.live_answers.specs.Live.{heard_in}
use Rattle.live_answers.specs.declared.replay.Replay.{Replay}
use Rattle.run_values.specs.Logs.{LogWish}

-- how many messages are heard in silence: all of the log, or those before the first that is printed again
abbrev pub quiet_of : Option ℕ → ℕ → ℕ
quiet_of None messages = messages
quiet_of (Some first) messages = min first messages

-- the lines of a log are messages, each of which is accepted, and so they are heard again
pub record HearsLog (again : Option ℕ) (lines : List ℕ) (replay : Replay) : Type 0 where
  pub checked : IsChecked (heard_in lines) (Ok replay.messages)
  pub quiet : replay.quiet ≡ quiet_of again replay.messages

-- nothing was heard before
abbrev pub no_replay : Replay
no_replay = record { messages = 0; quiet = 0 }

-- what a run hears before its input: the lines of its log, if it keeps one
abbrev pub IsReplayOf : Option LogWish → List ℕ → Replay → Type 0
IsReplayOf None lines replay = (lines ≡ []) × (replay ≡ no_replay)
IsReplayOf (Some log) lines replay = HearsLog log.again lines replay
