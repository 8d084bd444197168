use Rattle.std.proofs.Common.{◌≡◌, true, arith}
use Rattle.table_core.proofs.FrontLemmas.{some_written, front_behind}
use Rattle.table_commands.proofs.WriteLemmas.{wholly}
use Rattle.table_commands.proofs.error_lines.write_both.Goals as goal

pub returns : goal.returns
returns g c =
    let all : c.write_text.result ≡ true = grind (arith, c.if-not-write_text.false) in
    front_behind _ _ _ c.args.first.now c.args.second.now (wholly _ _ _ c.write_text.result all c.write_text.ensures) (some_written _ _ _ _ c.write_text-2.ensures)
