use Rattle.std.proofs.Common.{◌≡◌, ◌++◌, drop, string_bytes}
use Rattle.price_core.specs.Price.{price_at}
use Rattle.price_core.specs.RatesOf.{rates_of}
use Rattle.table_commands.specs.PriceLines.{price_lines}
use Rattle.table_commands.specs.Reports.{AreInOrder}
use Rattle.table_commands.proofs.price_lines.print_reports.Given as goal

-- the lines so far and those of what is left are the lines of all, and what is left is in order
abbrev pub invariant-loop-times : goal.invariant-loop-times
invariant-loop-times l =
    let plan = rates_of l.plan in
    let left = drop l.times-index l.reports in
    (l.total ≡ price_at plan l.last)
    × AreInOrder plan l.last left
    × (price_lines plan 0 l.reports ≡ string_bytes l.text ++ price_lines plan l.total left)
