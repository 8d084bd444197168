use Rattle.std.proofs.Common.{◌≡◌, ◌+◌, [], length}
use Rattle.live_answers.proofs.checking.check_replay.Given as goal
use Rattle.live_answers.specs.Checks.{first_wrong}
use Rattle.live_answers.specs.Lines.{live_lines}
use Rattle.live_answers.specs.Live.{heard_after, heard_in}

-- the lines before are accepted, so what is wrong is that of the lines that are left
abbrev pub invariant-loop-next : goal.invariant-loop-next
invariant-loop-next l =
    (l.line.items ≡ [])
    × (first_wrong 1 (heard_in l.fn.lines) ≡ first_wrong (l.next + 1) (heard_after l.next l.last (live_lines l.input)))
    × (length (heard_in l.fn.lines) ≡ l.next + length (heard_after l.next l.last (live_lines l.input)))
