use Rattle.std.proofs.Common.{refl}
use Rattle.std.proofs.lemmas.Result.{IfOk-weaker}
use Rattle.run_outputs.specs.Records.{AreRecords, Run}
use Rattle.run_outputs.proofs.recording.records.Goals as goal

pub returns : goal.returns
returns c =
    let run : Run = record { setup = c.args.setup.now; given = c.args.given.now; books = c.args.books.now } in
    IfOk-weaker c.list.result _ (λ calls. AreRecords run calls.items)
    (λ calls are. are run refl c.in_ok-starts.ensures c.in_ok-reports.ensures c.in_ok-accounts.ensures) c.list.ensures
