use Rattle.std.proofs.Common.{◌≡◌, ◌-◌, rules, length, arith}
use Rattle.run_outputs.proofs.Beginnings.{none_begun, one_begun, one_longer, same_begun, still_enough}
use Rattle.run_outputs.proofs.division.first_accounts.Goals.{then-is_begun+in_ok-push, else-is_begun}
use Rattle.run_outputs.proofs.division.first_accounts.Goals as goal

pub of-requires : goal.of-requires
of-requires c = c.loop-place.invariant.2.rising

pub returns-clause-accounts : goal.returns-clause-accounts
returns-clause-accounts c = rw c.of.ensures c.loop-place.invariant.2.known

pub loop-place-init : goal.loop-place-init
loop-place-init c = (search rules, search rules, none_begun c.args.setup.now.accounts _ c.in_ok-firsts.ensures.items)

pub loop-place-preserved : goal.loop-place-preserved
loop-place-preserved c =
    let accounts = c.args.setup.now.accounts in
    let place = c.loop-place.place in
    let firsts = c.loop-place.firsts.items in
    let before = c.loop-place.invariant in
    let there = c.loop-place-test.true in
    let all = c.requires.weights in
    elim c.if-is_begun.branch [
      | then-is_begun+in_ok-push w ↦
          let missing = c.is_begun.ensures.missing w.if-is_begun.true in
          let grown = w.in_ok-push.ensures.items in
          let longer = one_longer firsts w.number.result w.push.new.self.items grown in
          let many : c.len.result ≡ length firsts = search rules in
          rw (w.firsts-is) (
            omega (arith, before.0, before.1, missing, longer, many),
            omega (arith, before.0, before.1, missing, longer, many, there),
            one_begun accounts place firsts w.number.result w.push.new.self.items c.accounts.ensures.ordered (omega (arith, there, all)) w.number.ensures grown before.2,
          )
      | else-is_begun w ↦
          let many : c.len.result ≡ length firsts = search rules in
          let rest = still_enough c.args.count (length firsts) (length c.args.weights.now - place) c.is_begun.result (rw many at c.is_begun.ensures.needed) w.if-is_begun.false before.1 in
          rw (w.firsts-is) (before.0, omega (arith, rest), same_begun accounts place firsts before.2)
    ]
