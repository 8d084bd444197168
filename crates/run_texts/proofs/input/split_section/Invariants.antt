use Rattle.std.proofs.Common.{◌≡◌, ◌-◌, ◌≤◌, drop, length, take}
use Rattle.run_texts.specs.Sections.{after_line, lines_in_text, sections_of}
use Rattle.run_texts.proofs.input.split_section.Given as goal

-- the lines so far divide nothing
abbrev pub invariant-loop-start : goal.invariant-loop-start
invariant-loop-start l =
    (l.start ≤ length l.text) × (sections_of (lines_in_text l.text) ≡ after_line (take l.start l.text) (sections_of (lines_in_text (drop l.start l.text))))

abbrev pub decreases-loop-start : goal.decreases-loop-start
decreases-loop-start l = length l.text - l.start
