use Rattle.std.proofs.Common.{◌≡◌, ◌++◌, map, take}
use Rattle.book_texts.specs.RunTexts.{call_line_of}
use Rattle.book_texts.proofs.lines.add_calls.Given as goal

-- the lines of the calls so far
abbrev pub invariant-loop-sum : goal.invariant-loop-sum
invariant-loop-sum l = l.lines.items ≡ l.fn.lines.items ++ map (call_line_of l.account) (take l.sum-index l.sums)
