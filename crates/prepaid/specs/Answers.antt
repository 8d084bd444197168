-- What the program answers to words and an input.
use Rattle.std.specs.Prelude.{◌≡◌, ◌⊎◌, ◌++◌, ℕ, Bool, true, List, [], MatchResult, Option, None, Result, Ok, Err, IfErr, IfOk, IfSome, false, unwrap_or}
use Rattle.std.specs.Io.KnownBytes.{Appends, Keeps}
use Rattle.std.specs.Result.{result_map_both}
use Rattle.live_answers.specs.Inputs.{live_input_of}
use Rattle.live_answers.specs.Serves.{ServesBy}
use Rattle.live_answers.specs.declared.error.ServeError.{ServeError}
use Rattle.live_answers.specs.declared.error.ServeError.TheVariants as serve
use Rattle.table_commands.specs.Arguments.{AsksFor, AsksHelp, AsksInVain, AsksNothing, AsksVersion, explains}
use Rattle.table_commands.specs.Wishes.{Wish, Audits, Prices, Quotes, RatesRecords, Replays, Runs, RunsInto, Serves}
use Rattle.table_commands.specs.declared.words_fault.WordsFault.TheVariants as words_fault
use Rattle.rating.specs.Asks.{RateWish}
use Rattle.table_core.specs.Fronts.{AppendsFront}
use Rattle.run_command.specs.Answers.{IsRunAnswer}
use Rattle.run_outputs.specs.Texts.{RunSaid, TablesSaid}
use Rattle.run_command.specs.Tables.{IsTablesAnswer}
use Rattle.run_command.specs.declared.error.RunError.{RunError}
use Rattle.run_values.specs.Logs.{LogWish}
use Rattle.run_values.specs.declared.live.LiveAsk.{LiveAsk}
use Rattle.run_values.specs.declared.log_fault.LogFault.TheVariants as log
use Rattle.run_values.specs.declared.options.RunAsk.{RunAsk}
use Rattle.table_commands.specs.Answers.{IsAuditOfInput, IsQuoteOfInput, price_of_input, replay_of_input}
use Rattle.table_commands.specs.Faults.{UnlessMayAlwaysCome}
use Rattle.table_commands.specs.Input.{sized}
use Rattle.table_commands.specs.Outputs.{IsSaidOfOutput}
use Rattle.table_commands.specs.Printouts.{Printout, status_of_printout}
use Rattle.table_commands.specs.Ratings.{IsRatedByWish}
use Rattle.table_commands.specs.Writers.{IsFaultExplained, IsReportedWith, IsSaid, Written}
use Rattle.table_commands.specs.declared.fault.Fault.{Fault}
use Rattle.table_commands.specs.declared.fault.Fault.TheVariants as fault
use Rattle.prepaid.specs.Explanations.{IsAdded, IsSaidBy}
use Rattle.prepaid.specs.Faults.{of_run, of_serve}
use Rattle.prepaid.specs.Printouts.{printout_of_files, printout_of_run}

-- an answer of a run, its fault as the program's
pub record IsRunPrinted (ask : RunAsk) (text : List ℕ) (answer : Result Printout Fault) : Type 0 where
  pub made : Result RunSaid RunError
  pub is_made : IsRunAnswer ask text made
  pub printed : answer ≡ result_map_both printout_of_run of_run made

-- what `run` may make of an input. It isn't a function of that: the workers meet at the accounts in any order
abbrev pub IsRunOfInput : RunAsk → List ℕ → Result Printout Fault → Type 0
IsRunOfInput ask input answer = MatchResult (sized input) (λ text. IsRunPrinted ask text answer) (λ why. answer ≡ Err why)

-- an answer of a run whose lines and tables go into files: nothing is printed once these are written, and a fault is reported where they couldn't be; else the fault of the run is
pub record IsFiledRun (ask : RunAsk) (text : List ℕ) (answer : Result Printout Fault) : Type 0 where
  pub made : Result TablesSaid RunError
  pub is_made : IsTablesAnswer ask text made
  pub printed : MatchResult made (λ tables. (answer ≡ Ok (printout_of_files tables)) ⊎ (answer ≡ Err fault.Into)) (λ why. answer ≡ Err (of_run why))

-- what `run` may make of an input whose lines and tables go into files
abbrev pub IsFiledRunOfInput : RunAsk → List ℕ → Result Printout Fault → Type 0
IsFiledRunOfInput ask input answer = MatchResult (sized input) (λ text. IsFiledRun ask text answer) (λ why. answer ≡ Err why)

-- what is made of an input as it was wished, where it is printed once it is whole
abbrev pub IsAnswerTo : Wish → List ℕ → Result Printout Fault → Type 0
IsAnswerTo (Prices plan) input answer = price_of_input plan input ≡ answer
IsAnswerTo (Replays opening limit) input answer = replay_of_input opening limit input ≡ answer
IsAnswerTo (Runs ask) input answer = IsRunOfInput ask input answer
IsAnswerTo (RunsInto ask folder) input answer = IsFiledRunOfInput ask input answer
IsAnswerTo (Audits ask) input answer = IsAuditOfInput ask input answer
IsAnswerTo (Quotes wish) input answer = IsQuoteOfInput wish input answer
IsAnswerTo (RatesRecords wish) input answer = ⊥
IsAnswerTo (Serves ask log) input answer = ⊥

-- the words ask for what has this answer
pub record AskForAnswer (words : List (List ℕ)) (input : List ℕ) (answer : Result Printout Fault) : Type 0 where
  pub wish : Wish
  pub asked : AsksFor words wish
  pub answered : IsAnswerTo wish input answer

-- an answer to the words and the input: the help, the version or what is asked for, or the first fault. A failed reader and memory that runs out may come at any
abbrev pub IsAnswer : List (List ℕ) → List ℕ → Result Printout Fault → Type 0
IsAnswer words input (Ok printout) =
    ((AsksHelp words ⊎ AsksVersion words) × (printout.passes ≡ true)) ⊎ AskForAnswer words input (Ok printout)
IsAnswer words input (Err fault.Arguments) = AsksNothing words
IsAnswer words input (Err fault.Config) = AsksInVain words words_fault.Config
IsAnswer words input (Err why) = UnlessMayAlwaysCome why (AskForAnswer words input (Err why))

-- a text went to the output whole, at its status, and behind it the line about refusals and what is said besides to the error writer, or where that failed a front of these
pub record IsPrinted (printout : Printout) (more : List ℕ) (status : ℕ) (old new : Written) : Type 0 where
  pub status_is : status ≡ status_of_printout printout
  pub whole : Appends old.output new.output printout.text
  pub line : AppendsFront old.faults new.faults (printout.refused ++ more)

-- the output failed, at status 2: a front of the text went to it, and to the error writer what is said of that
pub record IsCutOff (explaining : Bool) (printout : Printout) (status : ℕ) (old new : Written) : Type 0 where
  pub status_is : status ≡ 2
  pub front : AppendsFront old.output new.output printout.text
  pub faults : IsSaidOfOutput explaining old.faults new.faults

-- an answer was printed, or a fault reported, and what is said of it
abbrev pub IsSaidOrReported : Bool → Option (List ℕ) → Result Printout Fault → ℕ → Written → Written → Type 0
IsSaidOrReported explaining more (Ok printout) status old new = IsPrinted printout (unwrap_or more []) status old new ⊎ IsCutOff explaining printout status old new
IsSaidOrReported explaining more (Err why) status old new = IsReportedWith why (unwrap_or more []) status old new

-- the status and what was written are of one answer, which is that to the words and the input, where this is known
pub record Answers (words : List (List ℕ)) (input : Option (List ℕ)) (status : ℕ) (old new : Written) : Type 0 where
  pub answer : Result Printout Fault
  pub answered : IfSome input (λ text. IsAnswer words text answer)
  -- what is said of a fault behind its line: nothing where that isn't asked for
  pub more : Option (List ℕ)
  pub only : explains words ≡ false → more ≡ None
  pub said : IfSome input (λ text. IfErr answer (λ why. IfSome more (λ said. IsSaidBy words text why said)))
  -- and behind an answer: nothing but of a run
  pub added : IfSome input (λ text. IfOk answer (λ printout. IfSome more (λ said. IsAdded words text printout said)))
  pub printed : IsSaidOrReported (explains words) more answer status old new

-- ---- records that are rated as they come

-- the words ask for records to be rated, and so they were
pub record RatesAsAsked (words : List (List ℕ)) (input : Option (List ℕ)) (status : ℕ) (old new : Written) : Type 0 where
  pub wish : RateWish
  pub asked : AsksFor words (RatesRecords wish)
  pub rated : IfSome input (λ text. IsRatedByWish (explains words) wish text status old new)

-- ---- messages that are answered as they come

-- how the service ended: at status 0, where it has printed all, and then nothing is said; else by the line of its fault, and of a log that can't be used why
abbrev pub IsServeEnd : Bool → Result (Unit {0}) ServeError → ℕ → Option (List ℕ) → Option (List ℕ) → Type 0
IsServeEnd explaining (Ok done) status old new = (status ≡ 0) × Keeps old new
IsServeEnd explaining (Err (serve.Log log.Device)) status old new = IsFaultExplained explaining (fault.Log log.Device) status old new
IsServeEnd explaining (Err why) status old new = IsSaid explaining (of_serve why) status old new

-- the output and the status are of one end of the service, which is that over this input, where this is known
pub record IsServedInput (explaining : Bool) (ask : LiveAsk) (log : Option LogWish) (input : Option (List ℕ)) (status : ℕ) (old new : Written) : Type 0 where
  pub result : Result (Unit {0}) ServeError
  pub serves : IfSome input (λ text. ServesBy ask log (live_input_of text) old.output new.output result)
  pub ends : IsServeEnd explaining result status old.faults new.faults

-- the words ask for the service, and so an input was answered
pub record ServesAsAsked (words : List (List ℕ)) (input : Option (List ℕ)) (status : ℕ) (old new : Written) : Type 0 where
  pub ask : LiveAsk
  pub log : Option LogWish
  pub asked : AsksFor words (Serves ask log)
  pub served : IsServedInput (explains words) ask log input status old new
