use Rattle.std.proofs.Common.{◌≡◌, ◌∙◌, sym}
use Rattle.table_commands.proofs.RateLemmas.{plainly_said}
use Rattle.table_commands.proofs.rating_rows.report_unrated.Goals.{in_default-via-in-Header+else-explains, in_default-via-in_default}
use Rattle.table_commands.proofs.rating_rows.report_unrated.Goals as goal

pub returns-in-Header : goal.returns-in-Header
returns-in-Header g c = rw c.in-Header.is (record {
  status_is = rw c.no_header.ensures at c.report_with.ensures.status;
  more = c.as_bytes.result.now;
  only = λ unasked. cc;
  line = rw c.no_header.ensures at c.report_with.ensures.line;
})

pub returns-in_default : goal.returns-in_default
returns-in_default g c =
    let same : c.in_default.why ≡ c.args.why = elim c.in_default.branch [
      | in_default-via-in-Header+else-explains w ↦ w.why-is ∙ sym w.in-Header.is
      | in_default-via-in_default w ↦ w.why-is
    ] in
    rw same at (plainly_said c.args.explains c.in_default.why c.report_end.result _ _ (rw c.of_rate.ensures at c.report_end.ensures))
