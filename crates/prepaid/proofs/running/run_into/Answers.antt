use Rattle.std.proofs.Common.{Ok, Err, inl, inr, refl, ap, string_bytes}
use Rattle.std.specs.IoError.{error_kind}
use Rattle.run_outputs.specs.Texts.{tables_said}
use Rattle.run_values.specs.Options.{ask_of}
use Rattle.prepaid.proofs.RunLemmas.{gives_meant, unwritten, unwritten_said}
use Rattle.prepaid.specs.Answers.{IsFiledRun}
use Rattle.prepaid.proofs.running.run_into.Goals as goal

pub returns-in-Ok-write_files-clause-answer : goal.returns-in-Ok-write_files-clause-answer
returns-in-Ok-write_files-clause-answer g c =
    rw c.run_ending.ensures.answer
    (record { made = Ok (tables_said c.in-Ok.tables); is_made = c.in-Ok.ensures; printed = inl (ap (λ p. Ok p) c.of_files.ensures) })

pub returns-in-Err-write_files-clause-answer : goal.returns-in-Err-write_files-clause-answer
returns-in-Err-write_files-clause-answer g c =
    rw c.files_ending.ensures.answer
    (unwritten (IsFiledRun (ask_of c.args.options.now) c.args.input.now) (error_kind c.in-Err-write_files.error)
    (record { made = Ok (tables_said c.in-Ok.tables); is_made = c.in-Ok.ensures; printed = inr refl }))

pub returns-in-Err-write_files-clause-said : goal.returns-in-Err-write_files-clause-said
returns-in-Err-write_files-clause-said g c =
    rw c.files_ending.ensures.answer (unwritten_said string_bytes c.args.input.now (error_kind c.in-Err-write_files.error) c.files_ending.result.more)

pub returns-in-Err-clause-answer : goal.returns-in-Err-clause-answer
returns-in-Err-clause-answer g c =
    rw (c.over.ensures.answer, c.fault_of_run.ensures)
    (gives_meant (IsFiledRun (ask_of c.args.options.now) c.args.input.now) _ (record { made = Err c.in-Err.error; is_made = c.in-Err.ensures; printed = refl }))
