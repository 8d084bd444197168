use Rattle.std.proofs.Common.{◌++◌, ap, sym, ◌∙◌}
use Rattle.std.specs.Vec.Iter.{into_iter_items}
use Rattle.account_core.proofs.RisingLemmas.{mapped_more}
use Rattle.book_texts.proofs.account_checks.mapped.Goals as goal

pub loop-account-preserved-in_ok-insert : goal.loop-account-preserved-in_ok-insert
loop-account-preserved-in_ok-insert c =
    rw c.in_ok-insert.ensures.entries (mapped_more c.loop-account.map.entries (c.in-Some.account, c.in-Some.check) (into_iter_items c.next.new.self) c.args.list.items c.requires
    (ap (λ rest. c.loop-account.map.entries ++ rest) (sym c.in-Some.ensures.steps.0) ∙ c.loop-account.invariant))

pub loop-account-preserved-in_ok-insert-2 : goal.loop-account-preserved-in_ok-insert-2
loop-account-preserved-in_ok-insert-2 c =
    rw c.in_ok-insert.ensures.entries (mapped_more c.loop-account.map.entries (c.in-Some.account, c.in-Some.check) (into_iter_items c.next.new.self) c.args.list.items c.requires
    (ap (λ rest. c.loop-account.map.entries ++ rest) (sym c.in-Some.ensures.steps.0) ∙ c.loop-account.invariant))

pub loop-account-preserved : goal.loop-account-preserved
loop-account-preserved c =
    rw c.in_ok-insert.ensures.entries (mapped_more c.loop-account.map.entries (c.in-Some.account, c.in-Some.check) (into_iter_items c.next.new.self) c.args.list.items c.requires
    (ap (λ rest. c.loop-account.map.entries ++ rest) (sym c.in-Some.ensures.steps.0) ∙ c.loop-account.invariant))
