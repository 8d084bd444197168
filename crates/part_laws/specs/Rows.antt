-- Some rows of a script: those of some accounts.
use Rattle.std.specs.Prelude.{◌≡◌, ℕ, Bool, true, List}
use Rattle.std.specs.List.{filter}
use Rattle.live_recovery.specs.Laws.{NoneIsRefused}
use Rattle.part_laws.specs.Chosen.{AreByAccount, Choice, chosen}
use Rattle.run_command.specs.Plays.{IsPlayOf}
use Rattle.run_texts.specs.Views.{rows_are_in_order}
use Rattle.run_texts.specs.declared.script.Happening.{Happening}
use Rattle.run_texts.specs.declared.script.Happening.TheVariants.{Start, Meets, Recharge}
use Rattle.run_texts.specs.declared.script.ScriptRow.{ScriptRow}
use Rattle.run_values.specs.Setups.{Setup}
use Rattle.run_values.specs.declared.post.Answer.{Answer}
use Rattle.run_values.specs.declared.post.Body.{Body}
use Rattle.runs_core.specs.Hearing.{all_heard}
use Rattle.runs_core.specs.Runs.{IsRun}
use Rattle.account_core.specs.Closed.{Closed}
use Rattle.turn_account.specs.Seen.{StoodIn}
use Rattle.ssf_core.specs.declared.config.SsfConfig.{SsfConfig}
use Rattle.tariff_core.specs.Laws.{IsProper}

-- whether what a row says is of these: a start and an event by the call, a recharge by the account
abbrev pub is_chosen_happening : Choice → Happening → Bool
is_chosen_happening choice (Start call calling called) = choice.calls call
is_chosen_happening choice (Meets call event) = choice.calls call
is_chosen_happening choice (Recharge account amount until) = choice.accounts account

-- the rows that are of these, in their order
abbrev pub chosen_rows : Choice → List ScriptRow → List ScriptRow
chosen_rows choice rows = filter (λ row. is_chosen_happening choice row.what) rows

-- of all that was given, and of all rows that had no place, those that are of these were given and had none here
pub record GivesItsOwn (choice : Choice) (given own_given : List (ℕ × Body)) (unplaced own_unplaced : List ScriptRow) : Type 0 where
  pub items : own_given ≡ chosen choice given
  pub unplaced_are : own_unplaced ≡ chosen_rows choice unplaced

-- a script is played by one worker, and so are the rows of it that are of some accounts, over the same setup, where each call goes with the account of the subscriber who begins it, and no ask is
-- refused in either: these rows give just their items of all that the script gives, in the same order, and just those of them have no place that have none there
abbrev pub SomeRowsGiveTheirItems : Type 0
SomeRowsGiveTheirItems =
    (setup : Setup) (choice : Choice) (config : SsfConfig) (delay : ℕ) (rows : List ScriptRow) (heard own_heard : List (List Answer)) (given own_given : List (ℕ × Body)) (books own_books : List Closed)
    → IsProper setup.tariff → rows_are_in_order 0 rows ≡ true → AreByAccount setup choice given
    → (play : IsPlayOf config delay rows heard given) (own_play : IsPlayOf config delay (chosen_rows choice rows) own_heard own_given)
    → IsRun StoodIn setup 1 given (all_heard heard) books → IsRun StoodIn setup 1 own_given (all_heard own_heard) own_books
    → NoneIsRefused (all_heard heard) → NoneIsRefused (all_heard own_heard) → GivesItsOwn choice given own_given play.play.unplaced own_play.play.unplaced
