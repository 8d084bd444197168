use Rattle.std.proofs.Common.{◌≡◌, ◌≤◌, List, ℕ, length, Some}
use Rattle.run_texts.proofs.FirstSectionLemmas.{IsUnderWay}
use Rattle.run_texts.proofs.section.read_section.Given as goal

-- the lines so far divide nothing
abbrev pub invariant-loop-turn : goal.invariant-loop-turn
invariant-loop-turn g l =
    (length l.text.items ≤ 16777216) × ((text : List ℕ) → g.I.Read.remaining l.fn.input ≡ Some text → IsUnderWay text l.text.items (g.I.Read.remaining l.input))
