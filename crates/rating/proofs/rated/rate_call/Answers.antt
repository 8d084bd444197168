use Rattle.std.proofs.Common.{◌≡◌, inl, refl}
use Rattle.rating.specs.Rated.{charge_by}
use Rattle.rating.proofs.rated.rate_call.Goals.{in-Lasts, in-Splits}
use Rattle.rating.proofs.rated.rate_call.Goals as goal

pub returns-after-answered : goal.returns-after-answered
returns-after-answered c =
    let quote = c.in-Some-quote.quote in
    let answered = c.in-Some.answered in
    let charge : c.match-answered.charge ≡ charge_by quote.route answered.at answered.talk = elim c.match-answered.branch [
      | in-Lasts w ↦ rw (w.charge-is, w.in-Lasts.is) w.charge_call-charge.ensures.exact
      | in-Splits w ↦ rw (w.charge-is, w.in-Splits.is) w.of_times-charge.ensures
    ] in
    rw c.in-Some.is (inl (record { prefix = quote.prefix.now; start = quote.start; route = quote.route; is_quote = c.in-Some-quote.ensures.quote; is = rw charge refl }))
