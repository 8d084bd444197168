-- The books of a run.
use Rattle.std.specs.Prelude.{◌≡◌, ℕ, List}
use Rattle.account_core.specs.declared.limits.TheConstants.{MAX_LIMIT}
use Rattle.run_texts.specs.Inputs.{RunInput}
use Rattle.run_values.specs.declared.options.RunAsk.{RunAsk}
use Rattle.run_texts.specs.Views.{with_digits}
use Rattle.runs_core.specs.Hearing.{all_heard}
use Rattle.runs_core.specs.Runs.{IsRun}
use Rattle.account_core.specs.Closed.{Closed}
use Rattle.turn_account.specs.Seen.{StoodIn}
use Rattle.run_values.specs.Setups.{Setup}
use Rattle.run_values.specs.declared.post.Answer.{Answer}
use Rattle.run_values.specs.declared.post.Body.{Body}

-- what a run is set up with: the accounts, the subscribers and the tariff of the input, and a service that asks for as much as was asked for
pub record IsSetupOf (ask : RunAsk) (said : RunInput) (setup : Setup) : Type 0 where
  pub accounts : setup.accounts ≡ said.setup.accounts
  pub subscribers : with_digits setup.subscribers ≡ said.setup.subscribers
  pub tariff : setup.tariff ≡ said.tariff
  pub wanted : setup.service.wanted ≡ ask.wanted
  pub least : setup.service.least ≡ ask.least
  pub limit : setup.limit ≡ MAX_LIMIT

-- these are the books of a run over this input, as it was asked for, of all that was given to its workers, where these answers were heard
pub record AreBooksOf (ask : RunAsk) (said : RunInput) (given : List (ℕ × Body)) (heard : List (List Answer)) (books : List Closed) : Type 0 where
  -- what the run is set up with is in the input
  pub setup : Setup
  pub of_input : IsSetupOf ask said setup
  -- and the books are those that such a run comes to; each refusal is shown by the book of the account that gave it
  pub run : IsRun StoodIn setup ask.workers given (all_heard heard) books
