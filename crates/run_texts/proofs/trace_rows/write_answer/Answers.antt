use Rattle.std.proofs.Common.{◌≡◌, ◌++◌, codes, rules, string_bytes}
use Rattle.std.proofs.lemmas.List.{append-nil}
use Rattle.run_texts.specs.Said.{alone, stray_said}
use Rattle.run_texts.specs.Tables.{service_rows, trace_row}
use Rattle.run_texts.proofs.RowLemmas.{answer_joined}
use Rattle.run_texts.proofs.trace_rows.write_answer.Goals.{then-answer+in_ok-writeln, else-answer}
use Rattle.run_texts.proofs.trace_rows.write_answer.Goals as goal

pub returns-in_ok-writeln-2 : goal.returns-in_ok-writeln-2
returns-in_ok-writeln-2 c =
    let head = c.args.head.now in
    let listed = string_bytes c.write_operations.new.text in
    let operations = rw (c.as_slice.ensures.value, c.operations_of-operations.ensures) at c.in_ok-write_operations.ensures in
    let stray : string_bytes c.if-answer.text ≡ listed ++ service_rows head (stray_said c.args.answer.now.stray) = elim c.if-answer.branch [
      | then-answer+in_ok-writeln w ↦ rw (w.text-is, w.if-answer.true, append-nil (trace_row head (codes "service") (alone (codes "stray")))) w.in_ok-writeln.ensures.bytes
      | else-answer w ↦ rw (w.text-is, w.if-answer.false) (search rules)
    ] in
    answer_joined head c.args.answer.now (string_bytes c.args.text.now) listed (string_bytes c.if-answer.text) (string_bytes c.writeln-in-Some.new.self) operations stray
    (rw c.in-Some.is (search rules))
