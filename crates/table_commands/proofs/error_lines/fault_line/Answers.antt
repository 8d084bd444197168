use Rattle.std.proofs.lemmas.Fmt.{contents_after_writes}
use Rattle.table_commands.proofs.error_lines.fault_line.Goals as goal

pub returns : goal.returns
returns c = rw c.new-line.ensures at (contents_after_writes _ (λ line. line.bytes) (λ before text after is. is) _ _ _ c.in_ok-writeln.ensures.writes)
