-- How the head of an input is read, and what a fault says of the output.
use Rattle.std.specs.Prelude.{◌≡◌, ◌⊎◌, ℕ, List, Option, Some, Result, Ok, Err, ⊤}
use Rattle.std.specs.Io.KnownBytes.{Keeps}
use Rattle.live_answers.specs.Runs.{MayEndLive}
use Rattle.live_answers.specs.declared.checking.ReplayFault.{ReplayFault}
use Rattle.live_answers.specs.declared.checking.ReplayFault.TheVariants as replay
use Rattle.run_values.specs.declared.log_fault.LogFault.TheVariants as log
use Rattle.run_values.specs.declared.live.LiveAsk.{LiveAsk}
use Rattle.run_texts.specs.FirstSections.{FirstSection, first_section}
use Rattle.run_texts.specs.InputFaults.{RefusesInput}
use Rattle.run_texts.specs.Inputs.{tariff_in, as_input_fault}
use Rattle.run_texts.specs.Setups.{TableSetup, table_setup_of}
use Rattle.run_texts.specs.Views.{setup_in}
use Rattle.run_texts.specs.declared.input_fault.InputFault.{InputFault}
use Rattle.run_texts.specs.declared.input_fault.InputFault.TheVariants as input
use Rattle.run_values.specs.Setups.{Setup}
use Rattle.run_values.specs.declared.run_fault.RunFault.TheVariants as run
use Rattle.table_core.specs.Rows.{rows_of}
use Rattle.tariff_core.specs.Bands.{Band}
use Rattle.live_answers.specs.Inputs.{LiveInput, behind_header, live_input_of}
use Rattle.live_answers.specs.Serves.{IsLiveSetupOf}
use Rattle.live_answers.specs.declared.error.ServeError.{ServeError}
use Rattle.live_answers.specs.declared.error.ServeError.TheVariants as error
use Rattle.live_answers.specs.declared.head.Head.{Head}

-- a fault is the one that is meant; a failed reader and memory that runs out may come at any
abbrev pub RefusesService : {X : Type 0} → ServeError → Result X ServeError → Type 0
RefusesService (error.Input input.Device) meaning = ⊤
RefusesService (error.Input input.OutOfMemory) meaning = ⊤
RefusesService (error.Run run.OutOfMemory) meaning = ⊤
RefusesService why meaning = meaning ≡ Err why

-- what a setup says
abbrev pub setup_said : List ℕ → Result TableSetup InputFault
setup_said text = as_input_fault input.Setup (table_setup_of (rows_of text))

-- what sections say of a tariff and of a setup; the fault is that of the tariff, or where it has none that of the setup
abbrev pub SaysHead : List ℕ → List ℕ → Result Head InputFault → Type 0
SaysHead tariff setup (Ok head) = (tariff_in tariff ≡ Ok head.tariff) × (setup_said setup ≡ Ok (setup_in head.directory))
SaysHead tariff setup (Err why) = RefusesInput why (tariff_in tariff) ⊎ ((bands : List Band) × (tariff_in tariff ≡ Ok bands) × RefusesInput why (setup_said setup))

-- a text has a head that says this, and what is behind it is left
pub record HasHead (text : List ℕ) (left : Option (List ℕ)) (head : Head) : Type 0 where
  pub one : FirstSection
  pub two : FirstSection
  pub is_one : first_section text ≡ Ok one
  pub is_two : first_section one.rest ≡ Ok two
  pub left_is : left ≡ Some two.rest
  pub says : SaysHead one.section two.section (Ok head)

-- the head was read of a text, and what is behind it is left
abbrev pub ReadsHead : List ℕ → Option (List ℕ) → Result Head InputFault → Type 0
ReadsHead text left (Ok head) = HasHead text left head
ReadsHead text left (Err why) = RefusesService (error.Input why) (live_input_of text)

-- the header was taken of a text, and the rows are left; or it isn't there
abbrev pub TakesHeader : List ℕ → Option (List ℕ) → Result (Unit {0}) ServeError → Type 0
TakesHeader text left (Ok done) = (rows : List ℕ) × (left ≡ Some rows) × (behind_header text ≡ Ok rows)
TakesHeader text left (Err why) = RefusesService why (behind_header text)

-- a run is set up with what a text says in front of its rows, and these are left
abbrev pub ReadsSetup : LiveAsk → List ℕ → Option (List ℕ) → Result Setup ServeError → Type 0
ReadsSetup ask text left (Ok setup) = (said : LiveInput) × (left ≡ Some said.rows) × (live_input_of text ≡ Ok said) × IsLiveSetupOf ask said setup
ReadsSetup ask text left (Err why) = RefusesService why (live_input_of text)

-- a fault of what is in front of the rows, or memory ran out behind it
abbrev pub IsOfHead : ServeError → Type 0
IsOfHead (error.Input why) = ⊤
IsOfHead error.Header = ⊤
IsOfHead (error.Log why) = ⊥
IsOfHead (error.LogRow row kind) = ⊥
IsOfHead (error.Live why) = ⊥
IsOfHead (error.Run run.OutOfMemory) = ⊤
IsOfHead (error.Run why) = ⊥

-- a fault of the log
abbrev pub IsOfLog : ServeError → Type 0
IsOfLog (error.Log why) = ⊤
IsOfLog (error.LogRow row kind) = ⊤
IsOfLog (error.Input why) = ⊥
IsOfLog error.Header = ⊥
IsOfLog (error.Live why) = ⊥
IsOfLog (error.Run why) = ⊥

-- a fault that comes behind that: a run of one worker that has no books ends as it may
abbrev pub IsOfRun : ServeError → Type 0
IsOfRun (error.Input why) = ⊥
IsOfRun error.Header = ⊥
IsOfRun (error.Log why) = ⊥
IsOfRun (error.LogRow row kind) = ⊥
IsOfRun (error.Live why) = ⊤
IsOfRun (error.Run why) = MayEndLive why

-- at any input: a fault of what is in front of the rows, and one of the log before its lines are heard, comes before anything is written
abbrev pub IsServingSilent : Option (List ℕ) → Option (List ℕ) → ServeError → Type 0
IsServingSilent old new (error.Input why) = Keeps old new
IsServingSilent old new error.Header = Keeps old new
IsServingSilent old new (error.Log why) = Keeps old new
IsServingSilent old new (error.LogRow row kind) = Keeps old new
IsServingSilent old new (error.Live why) = ⊤
IsServingSilent old new (error.Run why) = ⊤

-- what is wrong with the lines of a log, as a fault of `serve`
abbrev pub of_replay : ReplayFault → ServeError
of_replay (replay.Line row kind) = error.LogRow row kind
of_replay replay.Input = error.Log log.Device
of_replay replay.OutOfMemory = error.Log log.OutOfMemory
