use Rattle.std.proofs.Common.{◌≡◌, arith, rules}
use Rattle.std.proofs.lemmas.Bool.{le-ltb}
use Rattle.live_answers.proofs.judging.place.Goals.{in_default-via-in-Some-2+else-number-next-2, in_default-via-in_default}
use Rattle.live_answers.proofs.judging.place.Goals as goal

pub returns-in_default-clause-says : goal.returns-in_default-clause-says
returns-in_default-clause-says c = elim c.in_default.branch [
  | in_default-via-in-Some-2+else-number-next-2 w ↦
      let same : w.in-Some.number ≡ w.in-Some-2.number = cc (w.in-Some.is, w.in-Some-2.is) in
      let least = le-ltb w.in-Some-2.number c.args.next (omega (arith, same, w.if-number-next.false)) in
      let most = le-ltb c.args.next w.in-Some-2.number (omega (arith, w.if-number-next-2.false)) in
      rw (c.in_ok-message.was, w.in-Some-2.is, least, most) (search rules)
  | in_default-via-in_default w ↦ rw (c.in_ok-message.was, w.in_default.is) (search rules)
]
