use Rattle.std.proofs.Common.{map, take}
use Rattle.runs_core.specs.Hearing.{HaveRefused}
use Rattle.runs_core.proofs.shares.refusals.Given as goal

abbrev pub invariant-loop-place : goal.invariant-loop-place
invariant-loop-place l = HaveRefused l.workers (take l.place l.given) (take l.place l.answers) (map (λ list. list.items) l.lists.items)
