use Rattle.std.proofs.Common.{◌≡◌, [], map, take}
use Rattle.std.specs.Prelude.{replicate}
use Rattle.run_outputs.specs.Parts.{AreParts, payer_in}
use Rattle.run_outputs.proofs.division.deal.Given as goal

abbrev pub invariant-loop : goal.invariant-loop
invariant-loop l = map (λ pile. pile.items) l.piles.items ≡ replicate l.counter []

-- the rows so far are laid out
abbrev pub invariant-loop-row : goal.invariant-loop-row
invariant-loop-row l = AreParts l.firsts (payer_in l.payers) (take l.row-index l.script) (map (λ pile. pile.items) l.piles.items)
