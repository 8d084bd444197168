use Rattle.std.proofs.Common.{◌≡◌, ◌<◌, All, length, map, sym, subst, ◌∙◌, arith, ◌+◌, []}
use Rattle.std.specs.Prelude.{slice_index_or}
use Rattle.std.proofs.lemmas.List.{get_or-map, length-map}
use Rattle.runs_core.proofs.Finishing.{numbers_of}
use Rattle.runs_core.proofs.Numbers.{numbered_from, seats_each}
use Rattle.runs_core.proofs.Running.{run_if}
use Rattle.runs_core.specs.Hearing.{HasLeft}
use Rattle.runs_core.proofs.serving.serve_over.Goals as goal

pub run_workers-requires-clause-numbered : goal.run_workers-requires-clause-numbered
run_workers-requires-clause-numbered g c = λ _ _.
    rw (c.as_slice.ensures.value)
    (numbers_of g.S.Shared.terms c.args.setup.now.limit c.args.workers c.args.setup.now.accounts c.in_ok-accounts.field-0.accounts.items c.in_ok-accounts.ensures.accounts)

pub close_accounts-requires-clause-keys : goal.close_accounts-requires-clause-keys
close_accounts-requires-clause-keys g c = λ _ _ k d within.
    let has = rw (c.as_slice.ensures.value) at c.in_ok-left.ensures.left in
    let left = c.in_ok-left.left.items in
    let below : k < length c.in_ok-accounts.field-0.teams.items = omega (arith, within, has.count, length-map left (λ team. team.items)) in
    rw (← get_or-map (λ team. team.items) left k d [] within) (has.left k below).of_accounts

pub close_accounts-requires-clause-numbers : goal.close_accounts-requires-clause-numbers
close_accounts-requires-clause-numbers g c = λ _ _.
    let has = c.in_ok-left.ensures.left in
    numbered_from g.S.Shared.reads 0 (map (λ team. team.items) c.in_ok-left.left.items) (λ worker below.
    let here : worker ≡ 0 + worker = omega arith in
    subst (λ n. All (λ seat. g.S.Shared.reads.number seat ≡ n) (slice_index_or (map (λ team. team.items) c.in_ok-left.left.items) worker [])) here
    (has.left worker (omega (arith, below, has.count))).numbered)

pub close_accounts-requires-clause-seats : goal.close_accounts-requires-clause-seats
close_accounts-requires-clause-seats g c = λ _ _.
    seats_each g.S.Shared.terms c.args.setup.now.limit c.args.workers (length c.in_ok-left.left.items) c.args.setup.now.accounts c.in_ok-accounts.field-0.accounts.items
    c.in_ok-accounts.ensures.accounts
    (sym c.in_ok-accounts.ensures.count ∙ sym c.in_ok-left.ensures.left.count ∙ length-map c.in_ok-left.left.items (λ team. team.items))

pub returns-clause-run : goal.returns-clause-run
returns-clause-run g c =
    let opened = c.in_ok-accounts.ensures in
    let has = c.in_ok-left.ensures.left in
    let close = c.close_accounts.ensures in
    let all_there : c.args.workers ≡ length c.in_ok-left.left.items = sym opened.count ∙ sym has.count ∙ length-map c.in_ok-left.left.items (λ team. team.items) in
    let its = subst (λ n. HasLeft g.D.Driver.given g.D.Driver.ended g.D.Driver.hears g.S.Shared.reads g.S.Shared.was (map g.S.Shared.key c.as_slice.result.now) c.args.setup.now n c.args.driver.now c.run_workers.new.driver (map (λ team. team.items) c.in_ok-left.left.items))
    opened.count has in
    run_if g.D.Driver.given g.D.Driver.ended g.D.Driver.hears g.S.Shared.reads g.S.Shared.was g.S.Shared.stood _ c.args.setup.now c.args.workers (length c.in_ok-left.left.items) _ _ (map (λ team. team.items) c.in_ok-left.left.items)
    (map g.S.Shared.terms c.in_ok-accounts.field-0.accounts.items) c.close_accounts.result all_there its opened.accounts close.terms close.legal close.owned close.shown
