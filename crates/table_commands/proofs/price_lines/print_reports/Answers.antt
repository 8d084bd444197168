use Rattle.std.proofs.Common.{◌+◌, ◌≡◌, ◌∙◌, ap, arith}
use Rattle.price_core.specs.Price.{price_at}
use Rattle.price_core.specs.RatesOf.{rates_of}
use Rattle.table_commands.proofs.LineLemmas.{line_printed, next_in_order, total_printed}
use Rattle.table_commands.proofs.price_lines.print_reports.Goals as goal

pub debit-debit-requires : goal.debit-debit-requires
debit-debit-requires c =
    (next_in_order _ _ _ c.args.reports.now c.loop-times.times-index c.loop-times-test.true c.times-item.is c.loop-times.invariant.1).0

pub overflow_add-total : goal.overflow_add-total
overflow_add-total c =
    let plan = rates_of c.args.plan.now in
    let adds : c.loop-times.total + c.debit-debit.result ≡ price_at plan c.times-item.result =
    ap (λ t. t + c.debit-debit.result) c.loop-times.invariant.0 ∙ c.debit-debit.ensures.exact in
    omega (arith, c.debit-debit.ensures.bounded)

pub loop-times-preserved : goal.loop-times-preserved
loop-times-preserved c =
    let plan = rates_of c.args.plan.now in
    let adds : c.loop-times.total + c.debit-debit.result ≡ price_at plan c.times-item.result =
    ap (λ t. t + c.debit-debit.result) c.loop-times.invariant.0 ∙ c.debit-debit.ensures.exact in
    let order = next_in_order plan c.loop-times.last c.times-item.result c.args.reports.now c.loop-times.times-index c.loop-times-test.true c.times-item.is c.loop-times.invariant.1 in
    let lines = line_printed plan c.loop-times.total c.debit-debit.result c.times-item.result c.args.reports.now c.loop-times.times-index _ _
    c.loop-times-test.true c.times-item.is adds c.loop-times.invariant.2 in
    (adds, order.1, rw c.in_ok-writeln.ensures.bytes lines)

pub returns : goal.returns
returns c =
    rw c.in_ok-writeln-2.ensures.bytes
    (total_printed (rates_of c.args.plan.now) c.loop-times.total c.args.reports.now c.loop-times.times-index _ _ c.loop-times-test.false c.loop-times.invariant.2)
