use Rattle.std.proofs.Common.{◌≡◌, ◌++◌, List, take}
use Rattle.run_outputs.specs.Refused.{refusals_counted_in}
use Rattle.run_values.specs.declared.post.Answer.{Answer}
use Rattle.run_outputs.proofs.refusals.Refusals.hear.Given as goal

-- the refusals of the answers so far
abbrev pub invariant-loop-answer : goal.invariant-loop-answer
invariant-loop-answer l = (heard : List Answer) → l.fn.self ≡ refusals_counted_in heard → l.self ≡ refusals_counted_in (heard ++ take l.answer-index l.answers)
