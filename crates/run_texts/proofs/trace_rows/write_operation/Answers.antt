use Rattle.std.proofs.Common.{◌≡◌, refl}
use Rattle.run_texts.specs.Said.{release_word}
use Rattle.run_texts.proofs.trace_rows.write_operation.Goals.{then-charge, else-charge}
use Rattle.run_texts.proofs.trace_rows.write_operation.Goals as goal

pub returns-in-RequestReport : goal.returns-in-RequestReport
returns-in-RequestReport c = rw c.in-RequestReport.is c.writeln.ensures.bytes

pub returns-after-charge : goal.returns-after-charge
returns-after-charge c =
    let word : c.if-charge.release.now ≡ release_word c.in-ApplyCharging.charge.release = elim c.if-charge.branch [
      | then-charge w ↦ rw (w.release-is, w.if-charge.true) refl
      | else-charge w ↦ rw (w.release-is, w.if-charge.false) refl
    ] in
    let h = rw word at c.writeln-in-ApplyCharging.ensures.bytes in
    rw c.in-ApplyCharging.is (rw c.short-switch.ensures at h)
