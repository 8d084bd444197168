use Rattle.std.proofs.Common.{map}
use Rattle.std.specs.Vec.Iter.{into_iter_items}
use Rattle.runs_core.proofs.LayingOut.{AreLaidOut}
use Rattle.runs_core.proofs.opened.deal.Given as goal

abbrev pub invariant-loop-item : goal.invariant-loop-item
invariant-loop-item g l = AreLaidOut (map (λ pile. pile.items) l.fn.piles.items) l.fn.items.items (into_iter_items l.item-iterator) l.at (map (λ pile. pile.items) l.piles.items)
