-- An input that was served with a log, and cut off anywhere, and then a run that begins with that log.
use Rattle.std.specs.Prelude.{◌≡◌, ◌≢◌, ◌≤◌, ◌+◌, ◌++◌, ◌⊎◌, ℕ, All, Option, Some, None, Ok, Err, List, [], ◌∷◌, if◌then◌else◌, length, map, nat_lt, slice_get, take, ⊤}
use Rattle.std.specs.Io.KnownBytes.{Appends}
use Rattle.live_answers.specs.Checks.{first_wrong}
use Rattle.live_answers.specs.Laws.{accepted, last_behind, next_behind}
use Rattle.live_answers.specs.Lines.{live_lines}
use Rattle.live_answers.specs.Live.{Heard, given_of, heard_after, heard_in, item_view, live_text, logged_of, next_after, replayed_text, text_after}
use Rattle.live_answers.specs.Rows.{message_rows}
use Rattle.live_answers.specs.Runs.{IsLiveRunTo, PrintsText}
use Rattle.live_answers.specs.Standing.{LineView}
use Rattle.live_answers.specs.declared.group.TheConstants.{MAX_GROUP}
use Rattle.live_answers.specs.declared.replay.Replay.{Replay}
use Rattle.live_answers.specs.declared.stage.LiveFault.{LiveFault}
use Rattle.live_answers.specs.declared.stage.LiveFault.TheVariants as fault
use Rattle.live_answers.specs.Logs.{HasLines, HasLinesBehind}
use Rattle.live_recovery.specs.Laws.{NoneIsRefused, views_of}
use Rattle.run_values.specs.Setups.{Setup}
use Rattle.run_values.specs.declared.post.Answer.{Answer}
use Rattle.run_values.specs.declared.post.Body.{Body}
use Rattle.runs_core.specs.Runs.{IsRun}
use Rattle.account_core.specs.Closed.{Closed}
use Rattle.turn_account.specs.Seen.{StoodIn}
use Rattle.tariff_core.specs.Laws.{IsReadTariff}
use Rattle.runs_core.specs.Handled.{AnswerView}

-- ---- runs

-- a live run: what it began with, and what it has left
pub record LiveRun : Type 0 where
  pub replay : Replay
  pub input : List ℕ
  pub output_old : Option (List ℕ)
  pub output_new : Option (List ℕ)
  pub log_old : Option (List ℕ)
  pub log_new : Option (List ℕ)
  pub given : List (ℕ × Body)
  pub books : List Closed
  pub fault : Option LiveFault

-- a live run in a setup, in which no account has refused an ask
pub record IsLive (setup : Setup) (it : LiveRun) : Type 0 where
  pub answered : IsLiveRunTo setup it.replay (Some it.input) it.output_old it.output_new it.log_old it.log_new it.given it.books it.fault
  pub none : NoneIsRefused answered.answers

-- two live runs over one input that were not cut off, and heard as much of it before, have printed the same and come to the same books
abbrev pub LiveRunsAreAlike : Type 0
LiveRunsAreAlike = (setup : Setup) (one other : LiveRun) → IsReadTariff setup.tariff → IsLive setup one → IsLive setup other → one.input ≡ other.input → one.replay ≡ other.replay
    → one.fault ≡ None → other.fault ≡ None
    → (text : List ℕ) × Appends one.output_old one.output_new text × Appends other.output_old other.output_new text × (one.books ≡ other.books)

-- a run that took in all of these lines, and was never cut off: what its answers are, and its books
pub record IsUncut (setup : Setup) (heard : List Heard) (answers : List Answer) (books : List Closed) : Type 0 where
  pub given : List (ℕ × Body)
  pub takes : map item_view given ≡ given_of heard
  pub run : IsRun StoodIn setup 1 given answers books
  pub none : NoneIsRefused answers

-- ---- lines

-- the first so many lines of an input
abbrev pub front_of : LiveRun → ℕ → List Heard
front_of it count = take count (heard_in it.input)

-- further lines, behind lines that say this
abbrev pub rest_heard_behind : List Heard → List ℕ → List Heard
rest_heard_behind heard rest = heard_after (next_behind 0 heard) (last_behind 0 heard) (live_lines rest)

-- lines, and then these further ones
abbrev pub with_further : List Heard → List ℕ → List Heard
with_further heard rest = heard ++ rest_heard_behind heard rest

-- a run hears the lines of a log again: all of them, and some of the first in silence
pub record HearsAgain (lines : List ℕ) (replay : Replay) : Type 0 where
  pub messages : replay.messages ≡ length (heard_in lines)
  pub quiet : replay.quiet ≤ replay.messages

-- what is printed again of a line: its message and the answer, but for the first so many messages
abbrev pub rows_again : ℕ → ℕ → Option Answer → LineView → List ℕ
rows_again quiet number answer None = []
rows_again quiet number answer (Some (Ok message)) = if nat_lt number quiet then [] else message_rows number message answer
rows_again quiet number answer (Some (Err kind)) = []

-- what is printed again of lines, where so many messages were accepted before them
abbrev pub text_again : ℕ → List Answer → ℕ → List Heard → List ℕ
text_again quiet answers next [] = []
text_again quiet answers next (one ∷ heard) = rows_again quiet next (slice_get answers next) one.said ++ text_again quiet answers (next_after next one.said) heard

-- what is printed of lines as they come, where so many messages were accepted before them, and the line in front of them is line 1
abbrev pub text_anew : List Answer → ℕ → List Heard → List ℕ
text_anew answers next heard = text_after (record { messages = 0; quiet = 0 }) answers 1 next heard

-- ---- a log that was stopped

-- what is left of a log, wherever its writer was stopped, has whole lines that are those of the messages in the first lines of its input, and none of them is wrong
abbrev pub StoppedLogsAreRight : Type 0
StoppedLogsAreRight = (input : List ℕ) (size : ℕ) (lines : List ℕ) → HasLines (take size (logged_of (heard_in input))) lines
    → (count : ℕ) × (lines ≡ logged_of (take count (heard_in input))) × (first_wrong 1 (heard_in lines) ≡ None)

-- ---- a run that goes on behind a log

-- answers begin as others do
abbrev pub BeginAs : List Answer → List Answer → Type 0
BeginAs answers longer = (more : List AnswerView) × (views_of longer ≡ views_of answers ++ more)

-- of the lines that a run took in it has printed what is printed by these answers, as which its own begin
pub record HasPrinted (setup : Setup) (it : LiveRun) (served : IsLive setup it) (answers : List Answer) : Type 0 where
  pub begin : BeginAs served.answered.answers answers
  pub prints : PrintsText it.fault it.output_old it.output_new (replayed_text it.replay answers (front_of it served.answered.lines.count))

-- a run that goes on behind a log, by the answers and the books of a run that was never cut off, over the lines that the log has the messages of, and further ones
pub record GoesOnBehind (setup : Setup) (it : LiveRun) (served : IsLive setup it) (heard : List Heard) (rest : List ℕ) (answers : List Answer) (books : List Closed) : Type 0 where
  -- of the lines that it took in it has printed what is printed by the answers of that run
  pub printed : HasPrinted setup it served answers
  -- which is, where it wasn't cut off itself: the messages of the log again, but for the quiet ones, and then what that run prints of the further lines
  pub goes_on : it.fault ≡ None → Appends it.output_old it.output_new (text_again it.replay.quiet answers 0 heard ++ text_anew answers (next_behind 0 heard) (rest_heard_behind heard rest))
  -- and then it has come to the books of that run
  pub books_are : it.fault ≡ None → it.books ≡ books

-- a run whose input is a log with the messages of these lines, and then further lines, goes on as a run over all the lines that was never cut off
pub record IsResumed (setup : Setup) (it : LiveRun) (served : IsLive setup it) (heard : List Heard) (rest : List ℕ) : Type 0 where
  -- it hears just the accepted lines again, and of the further ones what they say behind all
  pub hears : heard_in it.input ≡ accepted heard ++ rest_heard_behind heard rest
  -- where it isn't cut off itself, it is such a run
  pub uncut : it.fault ≡ None → IsUncut setup (with_further heard rest) served.answered.answers it.books
  -- and then it has logged what such a run logs: each message once
  pub logs : it.fault ≡ None → Appends it.log_old it.log_new (logged_of (with_further heard rest))
  -- in any case it is as each such run
  pub goes_on : (answers : List Answer) (books : List Closed) → IsUncut setup (with_further heard rest) answers books → GoesOnBehind setup it served heard rest answers books

-- a run whose input is the whole lines that are left of a log, wherever its writer was stopped, and then further lines, goes on as a run over all the lines that was
-- never cut off
abbrev pub StoppedRunsGoOn : Type 0
StoppedRunsGoOn = (setup : Setup) (input : List ℕ) (size : ℕ) (it : LiveRun) (lines rest : List ℕ) → IsReadTariff setup.tariff
    → HasLines (take size (logged_of (heard_in input))) lines → (served : IsLive setup it) → it.input ≡ lines ++ rest → HearsAgain lines it.replay
    → (count : ℕ) × (lines ≡ logged_of (take count (heard_in input))) × IsResumed setup it served (take count (heard_in input)) rest

-- ---- two runs

-- the lines of a log, by the run that wrote it: those of the messages in the first so many lines of its input. These are all that it took in, and where
-- the log failed perhaps some of those that were to be logged at once behind them, which were written and not handled
pub record IsLogOf (it : LiveRun) (taken : ℕ) (lines : List ℕ) (count : ℕ) : Type 0 where
  pub lines_are : lines ≡ logged_of (front_of it count)
  pub least : taken ≤ count
  pub most : count ≤ taken + MAX_GROUP
  pub same : it.fault ≢ Some fault.Log → count ≡ taken

-- the log of the first run has the messages of its first so many lines, and with the further lines both are as one run that was never cut off: the first has
-- printed what that run prints of the lines that it took in, and the second goes on as that run
pub record IsRecovered (setup : Setup) (first second : LiveRun) (early : IsLive setup first) (late : IsLive setup second) (lines rest : List ℕ) : Type 0 where
  pub count : ℕ
  pub log : IsLogOf first early.answered.lines.count lines count
  pub begun : (answers : List Answer) (books : List Closed) → IsUncut setup (with_further (front_of first count) rest) answers books → HasPrinted setup first early answers
  pub resumed : IsResumed setup second late (front_of first count) rest

-- a run that began with a log of a head alone, and was cut off anywhere or wasn't, and another that begins with the whole lines of that log and goes on with
-- further ones are as one run over all the lines that was never cut off
abbrev pub CutOffRunsGoOn : Type 0
CutOffRunsGoOn = (setup : Setup) (first second : LiveRun) (head log lines rest : List ℕ) → IsReadTariff setup.tariff
    → (early : IsLive setup first) → first.log_old ≡ Some head → first.log_new ≡ Some log → HasLinesBehind head log lines
    → (late : IsLive setup second) → second.input ≡ lines ++ rest → HearsAgain lines second.replay
    → IsRecovered setup first second early late lines rest

-- a line is not wrong
abbrev pub IsFine : LineView → Type 0
IsFine None = ⊤
IsFine (Some (Ok message)) = ⊤
IsFine (Some (Err kind)) = ⊥

-- what two such runs have printed, where the second heard all of the log in silence and neither was cut off in its output: one text and then the other, which
-- together are what a run over all the lines prints that was never cut off
pub record AreJoined (first second : LiveRun) (answers : List Answer) (all : List Heard) : Type 0 where
  pub one : List ℕ
  pub two : List ℕ
  pub first_prints : Appends first.output_old first.output_new one
  pub second_prints : Appends second.output_old second.output_new two
  pub joined : one ++ two ≡ live_text answers all

-- the outputs of two such runs, of which the first heard nothing before and ended at the end of its input, or where that failed, put together are the output of one
-- run over all the lines, byte for byte, if no further line is wrong
abbrev pub OutputsAreJoined : Type 0
OutputsAreJoined = (setup : Setup) (first second : LiveRun) (head log lines rest : List ℕ) → IsReadTariff setup.tariff
    → (early : IsLive setup first) → first.log_old ≡ Some head → first.log_new ≡ Some log → HasLinesBehind head log lines
    → IsLive setup second → second.input ≡ lines ++ rest → HearsAgain lines second.replay → second.replay.quiet ≡ second.replay.messages
    → first.replay ≡ record { messages = 0; quiet = 0 } → (first.fault ≡ None) ⊎ (first.fault ≡ Some fault.Input) → second.fault ≡ None
    → All (λ (one : Heard). IsFine one.said) (rest_heard_behind (front_of first early.answered.lines.count) rest)
    → (answers : List Answer) (books : List Closed) → IsUncut setup (with_further (front_of first early.answered.lines.count) rest) answers books
    → AreJoined first second answers (with_further (front_of first early.answered.lines.count) rest)
