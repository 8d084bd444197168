use Rattle.live_answers.proofs.LastLines.{ends_there, none_behind}
use Rattle.std.proofs.Common.{◌+◌, arith, refl}
use Rattle.std.proofs.lemmas.List.{length-take-le}
use Rattle.live_answers.proofs.finding.whole_lines.Goals as goal

pub returns-in-Some-clause-whole : goal.returns-in-Some-clause-whole
returns-in-Some-clause-whole c = ends_there 10 c.args.text.now c.in-Some.place c.in-Some.ensures.0.high c.in-Some.ensures.1

pub returns-in-Some-clause-torn : goal.returns-in-Some-clause-torn
returns-in-Some-clause-torn c =
    none_behind 10 c.args.text.now (c.in-Some.place + 1) _ (length-take-le (c.in-Some.place + 1) c.args.text.now (omega (arith, c.in-Some.ensures.0.high))) c.in-Some.ensures.0.after

pub returns-in-None-clause-torn : goal.returns-in-None-clause-torn
returns-in-None-clause-torn c = none_behind 10 c.args.text.now 0 _ refl c.in-None.ensures
