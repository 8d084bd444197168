use Rattle.std.proofs.Common.{rules, ◌≡◌, None}
use Rattle.std.specs.BTreeMap.{is_at}
use Rattle.std.specs.Map.{lookup}
use Rattle.std.specs.Ordering.{nat_cmp}
use Rattle.account_core.specs.declared.call_stage.CallStage.TheVariants.{Fresh}
use Rattle.account_core.proofs.RisingLemmas.{kept_there}
use Rattle.locked_account.proofs.Roominess.{fresh_put}
use Rattle.locked_account.proofs.seat.kept_stage.Goals as goal

pub returns-in_ok-insert-in-None-clause-kept : goal.returns-in_ok-insert-in-None-clause-kept
returns-in_ok-insert-in-None-clause-kept c = rw c.in_ok-insert-in-None.ensures.inserted (kept_there c.args.call Fresh c.args.stages.now)

pub returns-in_ok-insert-in-None-clause-same : goal.returns-in_ok-insert-in-None-clause-same
returns-in_ok-insert-in-None-clause-same c call =
    let none : lookup (is_at (nat_cmp c.args.call)) c.args.stages.now ≡ None = search rules in
    rw c.in_ok-insert-in-None.ensures.inserted (fresh_put c.args.stages.now c.args.call none call)
