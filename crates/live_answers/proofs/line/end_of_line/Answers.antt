use Rattle.std.proofs.Common.{◌≢◌, ◌≤◌, ◌<◌, ◌==◌, ◌∙◌, ℕ, List, All, ap, arith, length, length-take-le, sym, take, get_or-take}
use Rattle.std.proofs.lemmas.List.{get_or_default}
use Rattle.memchr.specs.Find.{Nowhere, Passes, is_byte}
use Rattle.live_answers.proofs.line.end_of_line.Goals as goal

-- no byte is an LF of those up to a place before which there is none
none_before : (bytes : List ℕ) (place upto : ℕ) → Nowhere (Passes (is_byte 10) bytes) 0 place → upto ≤ place → upto ≤ length bytes → All (λ byte. byte ≢ 10) (take upto bytes)
none_before bytes place upto none below within = λ k d here is.
    let there : k < upto = omega (arith, here, length-take-le upto bytes within) in
    none k (omega arith) (omega (arith, there, below))
    (ap (λ byte. byte == 10) (get_or_default bytes k 0 d (omega (arith, there, within)) ∙ sym (get_or-take upto bytes k d there) ∙ is))

pub returns-in-Some-clause-before : goal.returns-in-Some-clause-before
returns-in-Some-clause-before c =
    none_before c.args.bytes.now c.in-Some.place _ c.in-Some.ensures.0.before (omega arith) (omega (arith, c.in-Some.ensures.0.high))

pub returns-in-None-clause-before : goal.returns-in-None-clause-before
returns-in-None-clause-before c = none_before c.args.bytes.now (length c.args.bytes.now) _ c.in-None.ensures (omega arith) (omega arith)
