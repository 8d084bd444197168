use Rattle.std.proofs.Common.{arith, sym, ◌∙◌}
use Rattle.runs_core.proofs.Teaming.{all_opened, none_opened, one_opened, seat_each}
use Rattle.runs_core.proofs.opened.open_accounts.Goals as goal

pub loop-place-init : goal.loop-place-init
loop-place-init g c =
    none_opened g.S.Shared.reads g.S.Shared.terms g.S.Shared.key (λ team. team.items)
    c.args.setup.now.limit c.args.workers c.args.setup.now.accounts _ _ c.new-accounts.ensures.items c.in_ok-teams.ensures

pub loop-place-preserved : goal.loop-place-preserved
loop-place-preserved g c =
    rw c.in_ok-push.ensures.items
    (one_opened g.S.Shared.reads g.S.Shared.terms g.S.Shared.key (λ team. team.items)
    c.args.setup.now.limit c.args.workers c.args.setup.now.accounts c.loop-place.place c.number.result c.opening.result _ c.loop-place.teams.items _ _ c.in_ok-account.seats.items
    (omega (arith, c.loop-place-test.true, c.account_count-place-end.ensures)) c.number.ensures c.opening.ensures.value c.loop-place.invariant (rw c.limit.ensures at c.in_ok-account.ensures.terms) c.in_ok-account.ensures.seats c.in_ok-deal.ensures)

pub number-requires : goal.number-requires
number-requires g c = omega (arith, c.loop-place-test.true, c.account_count-place-end.ensures)

pub opening-requires : goal.opening-requires
opening-requires g c = omega (arith, c.loop-place-test.true, c.account_count-place-end.ensures)

pub deal-requires : goal.deal-requires
deal-requires g c = seat_each _ _ _ _ c.in_ok-account.ensures.seats ∙ sym c.loop-place.invariant.1

pub returns-clause-accounts : goal.returns-clause-accounts
returns-clause-accounts g c =
    all_opened g.S.Shared.terms c.args.setup.now.limit c.args.workers c.args.setup.now.accounts _ _ (omega (arith, c.loop-place-test.false, c.account_count-place-end.ensures)) c.loop-place.invariant.0
