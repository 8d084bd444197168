use Rattle.std.proofs.Common.{◌∙◌, ap, arith, refl}
use Rattle.std.specs.Option.{option_or}
use Rattle.std.specs.Prelude.{is_some}
use Rattle.run_values.specs.Setups.{subscribers_fault}
use Rattle.run_values.proofs.Judging.{err_has}
use Rattle.run_values.proofs.Listing.{account_items, all_listed, none_listed, passed, refused, subscriber_items}
use Rattle.run_values.proofs.setup.list.Goals as goal

pub loop-account-init : goal.loop-account-init
loop-account-init c = rw c.new-directory.ensures (none_listed account_items c.args.accounts.now, refl)

pub returns-in_err-account-clause-fault : goal.returns-in_err-account-clause-fault
returns-in_err-account-clause-fault c = err_has c.from_residual.result c.in_err-account.field-0.0 _ c.from_residual.ensures.1 (λ other.
    ap (λ fault. option_or fault (subscribers_fault c.args.accounts.now c.args.subscribers.now))
    (refused account_items c.args.accounts.now c.loop-account.account-index _ c.loop-account.directory.accounts _ (omega (arith, c.loop-account-test.true)) c.loop-account.invariant.0
    (c.in_err-account.ensures.fault other)))

pub loop-account-preserved : goal.loop-account-preserved
loop-account-preserved c =
    let listed = c.in_ok-account.ensures.listed in
    rw listed (
      passed account_items c.args.accounts.now c.loop-account.account-index _ c.loop-account.directory.accounts (omega (arith, c.loop-account-test.true))
          c.loop-account.invariant.0 c.in_ok-account.ensures.made (rw listed at c.in_ok-account.ensures.count),
      c.loop-account.invariant.1,
    )

pub loop-subscriber-init : goal.loop-subscriber-init
loop-subscriber-init c = (
  all_listed account_items c.args.accounts.now c.loop-account.account-index c.loop-account.directory.accounts (omega (arith, c.loop-account-test.false))
      (omega (arith, c.loop-account.auto.account-index-end)) c.loop-account.invariant.0,
  rw c.loop-account.invariant.1 (none_listed (subscriber_items c.args.accounts.now) c.args.subscribers.now),
)

pub returns-in_err-subscriber-clause-fault : goal.returns-in_err-subscriber-clause-fault
returns-in_err-subscriber-clause-fault c = err_has c.from_residual-in_err-subscriber.result c.in_err-subscriber.field-0.0 _ c.from_residual-in_err-subscriber.ensures.1 (λ other.
    let all = c.loop-subscriber.invariant.0 in
    let known = ap is_some (all.finds c.subscriber-item.result.1) in
    ap (λ fault. option_or fault (subscribers_fault c.args.accounts.now c.args.subscribers.now)) all.fine
    ∙ refused (subscriber_items c.args.accounts.now) c.args.subscribers.now c.loop-subscriber.subscriber-index c.subscriber-item.result c.loop-subscriber.directory.subscribers _
    (omega (arith, c.loop-subscriber-test.true)) c.loop-subscriber.invariant.1
    (rw (← c.subscriber-item.is) (rw known at (c.in_err-subscriber.ensures.fault other))))

pub loop-subscriber-preserved : goal.loop-subscriber-preserved
loop-subscriber-preserved c =
    let all = c.loop-subscriber.invariant.0 in
    let known = ap is_some (all.finds c.subscriber-item.result.1) in
    rw c.in_ok-subscriber.ensures.listed (
      all,
      rw c.subscriber-item.is
          (passed (subscriber_items c.args.accounts.now) c.args.subscribers.now c.loop-subscriber.subscriber-index c.subscriber-item.result c.loop-subscriber.directory.subscribers
          (omega (arith, c.loop-subscriber-test.true)) c.loop-subscriber.invariant.1
          (rw (← c.subscriber-item.is) (rw known at c.in_ok-subscriber.ensures.made))
          (rw (← c.subscriber-item.is) (rw c.in_ok-subscriber.ensures.listed at c.in_ok-subscriber.ensures.count))),
    )

pub returns-clause-made : goal.returns-clause-made
returns-clause-made c =
    ap (λ fault. option_or fault (subscribers_fault c.args.accounts.now c.args.subscribers.now)) c.loop-subscriber.invariant.0.fine
    ∙ (all_listed (subscriber_items c.args.accounts.now) c.args.subscribers.now c.loop-subscriber.subscriber-index c.loop-subscriber.directory.subscribers
    (omega (arith, c.loop-subscriber-test.false)) (omega (arith, c.loop-subscriber.auto.subscriber-index-end)) c.loop-subscriber.invariant.1).fine

pub returns-clause-subscribers : goal.returns-clause-subscribers
returns-clause-subscribers c =
    (all_listed (subscriber_items c.args.accounts.now) c.args.subscribers.now c.loop-subscriber.subscriber-index c.loop-subscriber.directory.subscribers
    (omega (arith, c.loop-subscriber-test.false)) (omega (arith, c.loop-subscriber.auto.subscriber-index-end)) c.loop-subscriber.invariant.1).finds
