use Rattle.std.proofs.Common.{◌==◌, [], refl, sym, ◌∙◌}
use Rattle.std.proofs.lemmas.Result.{on_ok_weaker}
use Rattle.account_core.proofs.RisingLemmas.{kept_of}
use Rattle.run_values.specs.declared.post.Body.TheVariants as body
use Rattle.run_outputs.proofs.CallLemmas.{reports_kept, reports_more}
use Rattle.run_outputs.specs.Calls.{call_reports_of}
use Rattle.run_outputs.specs.KeptRecords.{reports_in}
use Rattle.run_outputs.proofs.reports.hear.Goals as goal

pub returns-in-Ssf : goal.returns-in-Ssf
returns-in-Ssf c = on_ok_weaker c.insert.result (λ is given have other.
    let call = c.in-Ssf.call in
    let own = c.after-after.ensures call given (c.reports_of.ensures ∙ have call) in
    kept_of c.args.reports.now c.insert.new.self call c.after-after.result other (call_reports_of other []) is ∙ rw c.in-Ssf.is
    (reports_kept call other given c.args.at c.in-Ssf.msg c.after-after.result (reports_in c.args.reports.now other) (call == other) refl own (have other))) c.insert.ensures.inserted

pub returns-in-Recharge : goal.returns-in-Recharge
returns-in-Recharge c = λ given have call.
    have call ∙ rw c.in-Recharge.is
    (sym (reports_more call given (c.args.at, body.Recharge c.in-Recharge.account c.in-Recharge.amount c.in-Recharge.until)))
