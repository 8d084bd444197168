use Rattle.std.proofs.Common.{arith, length, rules}
use Rattle.std.proofs.lemmas.Bool.{le-ltb}
use Rattle.live_answers.specs.declared.line.TheConstants.{MAX_LINE}
use Rattle.live_answers.proofs.judging.judge.Goals as goal

pub returns-in-Ok-place-clause-says : goal.returns-in-Ok-place-clause-says
returns-in-Ok-place-clause-says c =
    rw (le-ltb MAX_LINE (length c.args.line.now) (omega (arith, c.if-line-gt-MAX_LINE.false))) (search rules)

pub returns-in-Err-clause-says : goal.returns-in-Err-clause-says
returns-in-Err-clause-says c =
    rw (le-ltb MAX_LINE (length c.args.line.now) (omega (arith, c.if-line-gt-MAX_LINE.false))) (search rules)
