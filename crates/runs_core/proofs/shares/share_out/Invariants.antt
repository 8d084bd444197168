use Rattle.std.proofs.Common.{map, take}
use Rattle.runs_core.specs.Shares.{AreShares}
use Rattle.runs_core.proofs.shares.share_out.Given as goal

abbrev pub invariant-loop-place : goal.invariant-loop-place
invariant-loop-place l = AreShares l.workers l.first (take l.place l.added) (map (λ share. share.items) l.shares.items)
