use Rattle.std.proofs.Common.{◌≡◌, ◌∙◌, ℕ, Bool, List, [], Option, Err, ap, refl}
use Rattle.live_answers.specs.declared.error.ServeError.{ServeError}
use Rattle.live_answers.specs.declared.error.ServeError.TheVariants as serve
use Rattle.run_values.specs.declared.log_fault.LogFault.TheVariants as log
use Rattle.table_commands.specs.Writers.{IsFaultExplained, IsSaid}
use Rattle.table_commands.specs.declared.fault.Fault.TheVariants as fault
use Rattle.prepaid.specs.Answers.{IsServeEnd}
use Rattle.prepaid.specs.Faults.{of_serve}
use Rattle.prepaid.proofs.serving.report_unserved.Goals as goal

-- how the service ended, where nothing is said of its log
unexplained : (explaining : Bool) (why : ServeError) (status : ℕ) (old new : Option (List ℕ)) → IsSaid explaining (of_serve why) status old new → IsServeEnd explaining (Err why) status old new
unexplained explaining (serve.Log log.Device) status old new said = record { status_is = said.0; more = []; only = λ unasked. refl; line = said.1 }
unexplained explaining (serve.Log log.Other) status old new said = said
unexplained explaining (serve.Log log.OutOfMemory) status old new said = said
unexplained explaining (serve.Input why) status old new said = said
unexplained explaining serve.Header status old new said = said
unexplained explaining (serve.LogRow row kind) status old new said = said
unexplained explaining (serve.Live why) status old new said = said
unexplained explaining (serve.Run why) status old new said = said

-- why a log can't be used was said
explained : (explaining : Bool) (why : ServeError) (status : ℕ) (old new : Option (List ℕ)) → why ≡ serve.Log log.Device → IsFaultExplained explaining (fault.Log log.Device) status old new
    → IsServeEnd explaining (Err why) status old new
explained explaining why status old new is said = rw is said

pub returns-in-Log-Device : goal.returns-in-Log-Device
returns-in-Log-Device g c = explained c.args.explains c.args.why c.report_with.result _ _ (c.in-Log-Device.is ∙ ap (λ why. serve.Log why) (rw c.in-Log-Device.is at c.in-Log-Device.field-0-is)) (record {
  status_is = c.report_with.ensures.status;
  more = c.as_bytes.result.now;
  only = λ unasked. cc;
  line = c.report_with.ensures.line;
})

pub returns-in_default : goal.returns-in_default
returns-in_default g c = unexplained c.args.explains c.args.why c.report_end.result _ _ (rw c.fault_of_serve.ensures at c.report_end.ensures)
