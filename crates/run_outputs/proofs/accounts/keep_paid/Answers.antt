use Rattle.std.proofs.Common.{rules, ◌≡◌, None}
use Rattle.std.proofs.lemmas.Result.{on_ok_weaker}
use Rattle.std.specs.BTreeMap.{is_at}
use Rattle.std.specs.Map.{lookup}
use Rattle.std.specs.Ordering.{nat_cmp}
use Rattle.run_outputs.proofs.KeptLemmas.{kept_first}
use Rattle.run_outputs.proofs.accounts.keep_paid.Goals as goal

pub returns-in-None : goal.returns-in-None
returns-in-None c =
    let none : lookup (is_at (nat_cmp c.args.sum.now.call)) c.args.paid.now ≡ None = search rules in
    on_ok_weaker c.insert.result
    (λ is call. kept_first c.args.paid.now c.args.sum.now.call c.args.sum.now.paid call c.insert.new.self none is) c.insert.ensures.inserted
