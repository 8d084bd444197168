-- The parts of a run, one by one.
use Rattle.std.specs.Prelude.{◌≡◌, ◌≤◌, ◌++◌, ◌∷◌, ℕ, true, List, All, Result, Ok, Err, IfErr, IfOk, map}
use Rattle.run_command.specs.Answers.{MayFail}
use Rattle.run_command.specs.InParts.{IsKeptPart}
use Rattle.run_command.specs.declared.error.RunError.{RunError}
use Rattle.run_outputs.specs.declared.part.Part.{Part}
use Rattle.run_command.specs.declared.jobs.Job.{Job}
use Rattle.run_values.specs.declared.options.RunAsk.{RunAsk}
use Rattle.run_texts.specs.Views.{rows_are_in_order}
use Rattle.run_values.specs.Setups.{Setup}
use Rattle.price_core.specs.declared.times.TheConstants.{MAX_MOMENT}

-- the rows of a part are in range, and in order
pub record IsInOrder (job : Job) : Type 0 where
  pub in_range : All (λ row. row.at ≤ MAX_MOMENT) job.script.items
  pub in_order : rows_are_in_order 0 job.script.items ≡ true

-- this fault is the first that a part has: each part before it came to its end
pub record IsFirstPartFault (jobs : List Job) (fault : RunError) : Type 0 where
  pub before : List Part
  pub after : List (Result Part RunError)
  pub split : map (λ job. job.played) jobs ≡ map (λ part. Ok part) before ++ Err fault ∷ after

-- a part was played: this was kept of it, or it has a fault that such a run may have
pub record HasPlayedPart (ask : RunAsk) (setup : Setup) (firsts : List ℕ) (part : ℕ) (before after : Job) : Type 0 where
  pub kept : IfOk after.played (IsKeptPart ask setup firsts part before.script.items)
  pub fault : IfErr after.played (MayFail ask.workers)
