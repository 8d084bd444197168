use Rattle.std.proofs.Common.{◌≡◌, ◌++◌}
use Rattle.std.specs.Vec.Iter.{into_iter_items}
use Rattle.book_texts.proofs.account_checks.mapped.Given as goal

-- the map so far, and what is left of the list
abbrev pub invariant-loop-account : goal.invariant-loop-account
invariant-loop-account l = l.map.entries ++ into_iter_items l.account-iterator ≡ l.fn.list.items
