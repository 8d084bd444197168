use Rattle.std.proofs.Common.{refl}
use Rattle.run_outputs.proofs.Joins.{prints_parts}
use Rattle.run_outputs.proofs.part.print_parts.Goals as goal

pub returns : goal.returns
returns c said kept =
    prints_parts c.args.output c.args.setup.now.tariff c.args.parts.items c.in_ok-whole.whole _ c.in_ok-whole.ensures c.in_ok-print_joined.ensures.text refl
    (rw c.as_slice.ensures.value at c.in_ok-unplaced.ensures) c.in_ok-print_joined.ensures.typed said kept
