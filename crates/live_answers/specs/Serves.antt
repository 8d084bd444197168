-- How the service answers an input.
use Rattle.std.specs.Prelude.{◌≡◌, ◌⊎◌, ◌≤◌, ◌++◌, ℕ, List, Option, Some, None, IsSome, Result, Ok, Err, ⊤, length, map, take}
use Rattle.std.specs.Io.KnownBytes.{Appends, Keeps}
use Rattle.account_core.specs.declared.limits.TheConstants.{MAX_LIMIT}
use Rattle.live_answers.specs.Live.{given_of, heard_in, item_view, replayed_text}
use Rattle.live_answers.specs.Runs.{MayEndLive}
use Rattle.live_answers.specs.declared.replay.Replay.{Replay}
use Rattle.live_answers.specs.declared.stage.LiveFault.{LiveFault}
use Rattle.live_answers.specs.declared.stage.LiveFault.TheVariants as fault
use Rattle.table_core.specs.Fronts.{AppendsFront}
use Rattle.run_values.specs.Logs.{LogWish}
use Rattle.run_values.specs.declared.live.LiveAsk.{LiveAsk}
use Rattle.run_values.specs.declared.live.LiveOutput.{LiveOutput}
use Rattle.run_texts.specs.Views.{with_digits}
use Rattle.run_texts.specs.declared.input_fault.InputFault.TheVariants as input
use Rattle.run_texts.specs.Tables.{trace_header}
use Rattle.run_values.specs.Setups.{Setup}
use Rattle.run_values.specs.declared.post.Answer.{Answer}
use Rattle.run_values.specs.declared.post.Body.{Body}
use Rattle.runs_core.specs.Runs.{IsRun}
use Rattle.run_values.specs.declared.run_fault.RunFault.TheVariants as run
use Rattle.account_core.specs.Closed.{Closed}
use Rattle.turn_account.specs.Seen.{StoodIn}
use Rattle.live_answers.specs.Ends.{IsEndOf}
use Rattle.live_answers.specs.Inputs.{LiveInput}
use Rattle.live_answers.specs.Replays.{IsReplayOf}
use Rattle.live_answers.specs.declared.error.ServeError.{ServeError}
use Rattle.live_answers.specs.declared.error.ServeError.TheVariants as error

-- what a run is set up with: the accounts, the subscribers and the tariff of the input, and a service that asks for as much as was asked for
pub record IsLiveSetupOf (ask : LiveAsk) (said : LiveInput) (setup : Setup) : Type 0 where
  pub accounts : setup.accounts ≡ said.setup.accounts
  pub subscribers : with_digits setup.subscribers ≡ said.setup.subscribers
  pub tariff : setup.tariff ≡ said.tariff
  pub wanted : setup.service.wanted ≡ ask.wanted
  pub least : setup.service.least ≡ ask.least
  pub tccd : setup.service.tccd ≡ ask.tccd
  pub limit : setup.limit ≡ MAX_LIMIT

-- rows were served, up to a fault if one has ended the run
pub record AreRowsServed (setup : Setup) (rows : List ℕ) (fault : Option LiveFault) : Type 0 where
  -- so many lines were taken in: all, where no fault ended the run
  pub count : ℕ
  pub whole : fault ≡ None → length (heard_in rows) ≤ count
  -- what was given are the accepted messages of these lines, in order
  pub given : List (ℕ × Body)
  pub takes : map item_view given ≡ given_of (take count (heard_in rows))
  -- and these are the answers and the books of a run of one worker over them
  pub answers : List Answer
  pub books : List Closed
  pub run : IsRun StoodIn setup 1 given answers books

-- what is printed of these lines of rows, where these are the answers: the header of a trace, each accepted message with its answer, but for those that are heard again in silence, and of each line that isn't accepted what is wrong with it
abbrev pub printed : Replay → List ℕ → List Answer → ℕ → List ℕ
printed replay rows answers count = trace_header ++ replayed_text replay answers (take count (heard_in rows))

-- all was printed, and the end behind it
pub record IsServedWhole (output : LiveOutput) (setup : Setup) (replay : Replay) (rows : List ℕ) (fault : Option LiveFault) (old new : Option (List ℕ)) : Type 0 where
  pub served : AreRowsServed setup rows fault
  pub end : List ℕ
  pub is_end : IsEndOf output (record { setup = setup; given = served.given; books = served.books }) end
  pub whole : Appends old new (printed replay rows served.answers served.count ++ end)

-- the output failed in what is printed of the rows
pub record IsCutInRows (setup : Setup) (replay : Replay) (rows : List ℕ) (old new : Option (List ℕ)) : Type 0 where
  pub served : AreRowsServed setup rows (Some fault.Output)
  pub front : AppendsFront old new (printed replay rows served.answers served.count)

-- the output failed in the end that is printed behind the rows
pub record IsCutInEnd (output : LiveOutput) (setup : Setup) (replay : Replay) (rows : List ℕ) (old new : Option (List ℕ)) : Type 0 where
  pub fault : Option LiveFault
  pub served : AreRowsServed setup rows fault
  pub end : List ℕ
  pub is_end : IsEndOf output (record { setup = setup; given = served.given; books = served.books }) end
  pub front : AppendsFront old new (printed replay rows served.answers served.count ++ end)

-- how the service ends over these rows: all is printed, also where the input or the log failed; a front, where the output failed, be it in the header. Of a run that has no books nothing is known but why
abbrev pub EndsServing : LiveOutput → Setup → Replay → List ℕ → Option (List ℕ) → Option (List ℕ) → Result (Unit {0}) ServeError → Type 0
EndsServing output setup replay rows old new (Ok done) = IsServedWhole output setup replay rows None old new
EndsServing output setup replay rows old new (Err (error.Live fault.Input)) = IsServedWhole output setup replay rows (Some fault.Input) old new
EndsServing output setup replay rows old new (Err (error.Live fault.Log)) = IsServedWhole output setup replay rows (Some fault.Log) old new
EndsServing output setup replay rows old new (Err (error.Live fault.Output)) =
    AppendsFront old new trace_header ⊎ IsCutInRows setup replay rows old new ⊎ IsCutInEnd output setup replay rows old new
EndsServing output setup replay rows old new (Err (error.Run why)) = MayEndLive why
EndsServing output setup replay rows old new (Err why) = ⊥

-- an input that has no fault was served, behind the lines of its log
pub record ServesInput (ask : LiveAsk) (log : Option LogWish) (meaning : Result LiveInput ServeError) (old new : Option (List ℕ)) (result : Result (Unit {0}) ServeError) : Type 0 where
  pub input : LiveInput
  pub is_input : meaning ≡ Ok input
  pub setup : Setup
  pub of_input : IsLiveSetupOf ask input setup
  pub lines : List ℕ
  pub replay : Replay
  pub hears : IsReplayOf log lines replay
  pub ends : EndsServing ask.output setup replay (lines ++ input.rows) old new result

-- an input that has no fault isn't served, since its log can't be used
pub record LosesLog (log : Option LogWish) (meaning : Result LiveInput ServeError) (old new : Option (List ℕ)) : Type 0 where
  pub asked : IsSome log
  pub input : LiveInput
  pub is_input : meaning ≡ Ok input
  pub silent : Keeps old new

-- how the service answers an input: by its fault, or that of its log, and then nothing is printed; else by a run over its rows. A failed reader and memory that runs out may come at any
abbrev pub ServesBy : LiveAsk → Option LogWish → Result LiveInput ServeError → Option (List ℕ) → Option (List ℕ) → Result (Unit {0}) ServeError → Type 0
ServesBy ask log meaning old new (Ok done) = ServesInput ask log meaning old new (Ok done)
ServesBy ask log meaning old new (Err (error.Input input.Device)) = Keeps old new
ServesBy ask log meaning old new (Err (error.Input input.OutOfMemory)) = Keeps old new
ServesBy ask log meaning old new (Err (error.Input why)) = (meaning ≡ Err (error.Input why)) × Keeps old new
ServesBy ask log meaning old new (Err error.Header) = (meaning ≡ Err error.Header) × Keeps old new
ServesBy ask log meaning old new (Err (error.Log why)) = LosesLog log meaning old new
ServesBy ask log meaning old new (Err (error.LogRow row kind)) = LosesLog log meaning old new
ServesBy ask log meaning old new (Err (error.Live why)) = ServesInput ask log meaning old new (Err (error.Live why))
ServesBy ask log meaning old new (Err (error.Run run.OutOfMemory)) = ⊤
ServesBy ask log meaning old new (Err (error.Run why)) = ServesInput ask log meaning old new (Err (error.Run why))
