use Rattle.std.proofs.Common.{true, inr, refl}
use Rattle.std.proofs.KnownBytes.{Appends-kept}
use Rattle.table_commands.proofs.WriteLemmas.{wholly}
use Rattle.table_core.proofs.FrontLemmas.{some_written}
use Rattle.table_core.specs.Fronts.{AppendsFront}
use Rattle.prepaid.proofs.program.print.Goals as goal
use Rattle.prepaid.proofs.program.print.Goals.{else-write_text-via-then-write_text+else-is_ok, else-write_text-via-else-write_text}

pub returns-else-write_text : goal.returns-else-write_text
returns-else-write_text g c =
    let old = g.O.Write.contents c.args.output.now.inner in
    let bytes = c.as_bytes.result.now in
    let front : AppendsFront old (g.O.Write.contents c.else-write_text.output.inner) bytes =
    elim c.else-write_text.branch [
      | else-write_text-via-then-write_text+else-is_ok w ↦
          rw w.output-is (some_written old _ bytes true (Appends-kept old _ _ bytes (wholly old _ bytes _ w.if-write_text.true c.write_text.ensures) w.flush.ensures.bytes))
      | else-write_text-via-else-write_text w ↦ rw w.output-is (some_written old _ bytes _ c.write_text.ensures)
    ] in
    record { printed = inr (record { status_is = refl; front = rw c.as_bytes.ensures.value at front; faults = c.report_output.ensures }) }
