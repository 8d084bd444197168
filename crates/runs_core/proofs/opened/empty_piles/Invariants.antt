use Rattle.std.proofs.Common.{◌≡◌, [], map}
use Rattle.std.specs.Prelude.{replicate}
use Rattle.runs_core.proofs.opened.empty_piles.Given as goal

abbrev pub invariant-loop : goal.invariant-loop
invariant-loop g l = map (λ pile. pile.items) l.piles.items ≡ replicate l.counter []
