use Rattle.std.proofs.Common.{map}
use Rattle.std.specs.Vec.Iter.{into_iter_items, into_iter_len}
use Rattle.runs_core.proofs.Finishing.{IsFinishing}
use Rattle.runs_core.proofs.threads.finish_all.Given as goal

abbrev pub invariant-loop-link : goal.invariant-loop-link
invariant-loop-link g l = IsFinishing g.S.Shared.reads g.S.Shared.key g.S.Shared.was g.G.Gate.may_shut l.fn.links.items (into_iter_items l.links) (map (λ team. team.items) l.fn.left.items) (map (λ team. team.items) l.left.items) l.fault

abbrev pub decreases-loop-link : goal.decreases-loop-link
decreases-loop-link g l = into_iter_len l.links
