-- What a run answers, as its play ended.
use Rattle.std.proofs.Common.{◌≡◌, ℕ, Option, None, Some, List, Result, Ok, Err, subst}
use Rattle.std.specs.Prelude.{IfErr, IfOk}
use Rattle.std.specs.Result.{result_map_both}
use Rattle.run_command.proofs.Saying.{parts_said, tables_are_said, whole_said}
use Rattle.run_command.specs.Answers.{IsRunAnswer, IsRunSaid, MayFail}
use Rattle.run_command.specs.InParts.{IsInParts}
use Rattle.run_command.specs.Played.{AreWhole, IsWhole}
use Rattle.run_outputs.specs.Texts.{run_said_of, tables_said}
use Rattle.run_command.specs.Starts.{IsStartOf}
use Rattle.run_command.specs.Tables.{IsTablesAnswer}
use Rattle.run_command.specs.declared.error.RunError.{RunError}
use Rattle.run_command.specs.declared.error.RunError.TheVariants as error
use Rattle.run_outputs.specs.declared.played.Ran.{Ran}
use Rattle.run_outputs.specs.declared.tables.RunTables.{RunTables}
use Rattle.run_values.specs.Options.{played_parts}
use Rattle.run_values.specs.declared.options.PartsAsk.{PartsAsk}
use Rattle.run_values.specs.declared.options.RunAsk.{RunAsk}
use Rattle.run_texts.specs.declared.script.ScriptRow.{ScriptRow}
use Rattle.run_values.specs.Setups.{Setup}
use Rattle.run_values.specs.declared.run_fault.RunFault.TheVariants as run
use Rattle.std.specs.Prelude.{string_bytes}

module _ (ask : RunAsk) (input : List ℕ) (setup : Setup) (rows : List ScriptRow) (start : IsStartOf ask input setup rows) where
  -- a fault of the play is one of the run
  ended : (why : RunError) → MayFail ask.workers why → IsRunAnswer ask input (Err why)
  ended (error.Input why) may = absurd may
  ended (error.Run run.OutOfMemory) may = tt
  ended (error.Run run.Workers) may = record { said = start.said; read = start.read; may = may }
  ended (error.Run run.GateClosed) may = absurd may
  ended (error.Run run.Mismatch) may = record { said = start.said; read = start.read; may = may }
  ended (error.Run run.Channel) may = record { said = start.said; read = start.read; may = may }
  ended (error.Run run.Thread) may = record { said = start.said; read = start.read; may = may }

  pub whole_answers : None ≡ played_parts ask → (played : Result Ran RunError) → IfOk played (λ ran. IsWhole ask setup rows (run_said_of ran))
      → IfErr played (MayFail ask.workers) → IsRunAnswer ask input (result_map_both run_said_of (λ why. why) played)
  whole_answers none (Ok ran) is may =
      subst (λ (parts : Option PartsAsk). IsRunSaid parts ask input (run_said_of ran)) none (whole_said ask input setup rows (run_said_of ran) start is)
  whole_answers none (Err why) is may = ended why may

  pub parts_answer : (parts : PartsAsk) → Some parts ≡ played_parts ask → (played : Result Ran RunError)
      → IfOk played (λ ran. IsInParts parts.count ask setup rows (string_bytes ran.text) ran.refusals ran.unplaced.items)
      → IfErr played (MayFail ask.workers) → IsRunAnswer ask input (result_map_both run_said_of (λ why. why) played)
  parts_answer parts some (Ok ran) is may =
      subst (λ (parts : Option PartsAsk). IsRunSaid parts ask input (run_said_of ran)) some
      (parts_said parts.count ask input setup rows (string_bytes ran.text) ran.refusals ran.unplaced.items start is)
  parts_answer parts some (Err why) is may = ended why may

  pub tables_answer : (played : Result RunTables RunError) → IfOk played (λ tables. AreWhole ask setup rows (tables_said tables))
      → IfErr played (MayFail ask.workers) → IsTablesAnswer ask input (result_map_both tables_said (λ why. why) played)
  tables_answer (Ok tables) is may = tables_are_said ask input setup rows (tables_said tables) start is
  tables_answer (Err why) is may = ended why may
