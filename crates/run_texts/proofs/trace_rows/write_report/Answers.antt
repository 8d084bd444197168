use Rattle.std.proofs.Common.{◌≡◌, refl}
use Rattle.run_texts.specs.Said.{state_word}
use Rattle.run_texts.proofs.trace_rows.write_report.Goals.{then-active, else-active}
use Rattle.run_texts.proofs.trace_rows.write_report.Goals as goal

pub returns-in-NoSwitch : goal.returns-in-NoSwitch
returns-in-NoSwitch c =
    let word : c.if-active.state.now ≡ state_word c.args.active = elim c.if-active.branch [
      | then-active w ↦ rw (w.state-is, w.if-active.true) refl
      | else-active w ↦ rw (w.state-is, w.if-active.false) refl
    ] in
    rw c.in-NoSwitch.is (rw word at c.writeln.ensures.bytes)

pub returns-in-Switch : goal.returns-in-Switch
returns-in-Switch c =
    let word : c.if-active.state.now ≡ state_word c.args.active = elim c.if-active.branch [
      | then-active w ↦ rw (w.state-is, w.if-active.true) refl
      | else-active w ↦ rw (w.state-is, w.if-active.false) refl
    ] in
    let h = rw word at c.writeln-in-Switch.ensures.bytes in
    rw c.in-Switch.is (rw c.short-interval.ensures at h)
