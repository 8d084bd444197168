use Rattle.std.proofs.Common.{◌≡◌, ◌∙◌, true, false, ap, arith, length, length-append, refl, sym}
use Rattle.std.specs.Prelude.{◌&&◌}
use Rattle.csv.specs.Records.{fields_of}
use Rattle.rating.specs.Calls.{with_commas}
use Rattle.rating.specs.Rated.{is_right}
use Rattle.rating.specs.SaidOf.{rating_of}
use Rattle.rating.proofs.RateLemmas.{added, hidden, take_front}
use Rattle.rating.proofs.rating.Rater.add_row.Goals.{else-self-via-then-self+else-is_right, else-self-via-else-self}
use Rattle.rating.proofs.rating.Rater.add_row.Goals as goal

pub returns-clause-adds : goal.returns-clause-adds
returns-clause-adds c =
    let rating = rating_of c.rate_row-rated.result in
    let printed : (c.args.self.now.differing && is_right rating) ≡ false = elim c.else-self.branch [
      | else-self-via-then-self+else-is_right w ↦ rw w.if-self.true (sym w.is_right.ensures ∙ w.if-is_right.false)
      | else-self-via-else-self w ↦ rw w.if-self.false refl
    ] in
    added c.push_rated.result _ _ _ c.args.self.now.differing (fields_of c.args.row.now) c.args.text.now.items c.push_rated.new.text.items _ _ rating
    c.rate_row-rated.ensures printed (rw c.in_ok-push_fields.ensures at c.push_rated.ensures) c.count.ensures.exact

pub returns-then-is_right-clause-adds : goal.returns-then-is_right-clause-adds
returns-then-is_right-clause-adds c =
    let rating = rating_of c.rate_row-rated.result in
    let left_out : (c.args.self.now.differing && is_right rating) ≡ true = rw c.if-self.true (sym c.is_right.ensures ∙ c.if-is_right.true) in
    hidden _ _ _ c.args.self.now.differing (fields_of c.args.row.now) c.args.text.now.items _ _ _ rating
    c.rate_row-rated.ensures left_out
    (rw (c.truncate.ensures.items, c.in_ok-push_fields.ensures, c.len-start.ensures) (take_front c.args.text.now.items _ _ c.args.text.now.ok.0)) c.count.ensures.exact

pub overflow_sub-size : goal.overflow_sub-size
overflow_sub-size c =
    let longer = ap length c.in_ok-push_fields.ensures ∙ length-append c.args.text.now.items (with_commas (fields_of c.args.row.now)) in
    omega (arith, longer, c.len.ensures, c.len-start.ensures, c.push_fields.new.text.ok, c.args.text.now.ok)

pub rate_row-rated-requires : goal.rate_row-rated-requires
rate_row-rated-requires c =
    let longer = ap length c.in_ok-push_fields.ensures ∙ length-append c.args.text.now.items (with_commas (fields_of c.args.row.now)) in
    record { size = omega (arith, longer, c.len.ensures, c.len-start.ensures, c.push_fields.new.text.ok, c.args.text.now.ok) }
