-- What a run begins with.
use Rattle.std.specs.Prelude.{◌≡◌, ◌≤◌, ℕ, true, List, All, Ok, length, map, ⊤}
use Rattle.run_command.specs.Books.{IsSetupOf}
use Rattle.run_command.specs.declared.error.RunError.{RunError}
use Rattle.run_command.specs.declared.error.RunError.TheVariants as error
use Rattle.run_values.specs.declared.options.RunAsk.{RunAsk}
use Rattle.run_texts.specs.InputFaults.{RefusesInput}
use Rattle.run_texts.specs.Happenings.{is_in_time}
use Rattle.run_texts.specs.Inputs.{RunInput, input_of}
use Rattle.run_texts.specs.Views.{row_data}
use Rattle.run_texts.specs.declared.script.ScriptRow.{ScriptRow}
use Rattle.run_values.specs.Openings.{HasAccounts}
use Rattle.run_values.specs.Setups.{Setup}
use Rattle.run_values.specs.declared.setup.TheConstants.{MAX_ACCOUNTS}
use Rattle.run_values.specs.declared.run_fault.RunFault.TheVariants as run

-- an input of at most 1,000 accounts, which rise, each with an opening in its range, and whose recharges are in time, as those that are read are
pub record InputIsInRange (said : RunInput) : Type 0 where
  pub accounts : HasAccounts said.setup.accounts
  pub few : length said.setup.accounts ≤ MAX_ACCOUNTS
  pub recharges : All (λ event. is_in_time event.what ≡ true) said.script

-- the setup and the rows are those that the input says, which is in range
pub record IsStartOf (ask : RunAsk) (input : List ℕ) (setup : Setup) (rows : List ScriptRow) : Type 0 where
  pub said : RunInput
  pub read : input_of input ≡ Ok said
  pub of_input : IsSetupOf ask said setup
  pub range : InputIsInRange said
  pub says : map row_data rows ≡ said.script

-- why a run of this input doesn't begin: the first fault of the input. A failed reader and out of memory may come at any
abbrev pub MayNotStart : List ℕ → RunError → Type 0
MayNotStart input (error.Input why) = RefusesInput why (input_of input)
MayNotStart input (error.Run run.OutOfMemory) = ⊤
MayNotStart input (error.Run why) = ⊥
