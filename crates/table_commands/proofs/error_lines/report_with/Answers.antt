use Rattle.std.proofs.Common.{◌++◌, codes, append_assoc}
use Rattle.table_core.proofs.FrontLemmas.{none_written}
use Rattle.table_commands.specs.Faults.{line_of_fault}
use Rattle.table_commands.proofs.error_lines.report_with.Goals.{in-Ok, in_default}
use Rattle.table_commands.proofs.error_lines.report_with.Goals as goal

pub returns-clause-line : goal.returns-clause-line
returns-clause-line g c =
    let line = line_of_fault c.args.fault in
    elim c.match-fault_line.branch [
      | in-Ok w ↦
          let wrote = rw (w.as_bytes.ensures.value, w.as_str.ensures.value, w.in-Ok.ensures, append_assoc line (codes "\n") c.args.more.now) at w.write_both.ensures in
          rw w.faults-is wrote
      | in_default w ↦ rw w.faults-is (0, none_written _ (line ++ (codes "\n" ++ c.args.more.now)))
    ]
