use Rattle.std.proofs.Common.{◌≡◌, ◌∙◌, ◌+◌, ℕ, [], true, refl, ap, sym, drop, true≢false, arith}
use Rattle.std.proofs.lemmas.List.{drop_all, drop_more}
use Rattle.tariff_core.specs.TariffTable.{rise_from}
use Rattle.tariff_core.proofs.WeekdayLemmas.{past, rise_on, rise_short, rise_stops}
use Rattle.tariff_core.proofs.fields.are_days.Goals as goal

pub loop-digit-preserved : goal.loop-digit-preserved
loop-digit-preserved c =
    let i = c.loop-digit.digit-index in
    c.loop-digit.invariant ∙ ap (rise_from c.loop-digit.last) (drop_more c.args.text.now i 0 c.loop-digit-test.true)
    ∙ rise_on c.loop-digit.last _ (drop (i + 1) c.args.text.now) c.if-digit-last.false c.if-digit-gt55.false

pub returns-then-digit-last : goal.returns-then-digit-last
returns-then-digit-last c =
    let i = c.loop-digit.digit-index in
    record {
      value = sym (c.loop-digit.invariant ∙ ap (rise_from c.loop-digit.last) (drop_more c.args.text.now i 0 c.loop-digit-test.true)
          ∙ rise_stops c.loop-digit.last _ (drop (i + 1) c.args.text.now) (past c.loop-digit.last _ c.then-digit-last.either));
      short = λ is. absurd (true≢false (sym is));
    }

done : (last : ℕ) → rise_from last [] ≡ true
unfolding rise_from
done last = refl

pub returns : goal.returns
returns c =
    let all : true ≡ rise_from 48 c.args.text.now = sym (c.loop-digit.invariant ∙ ap (rise_from c.loop-digit.last) (drop_all c.loop-digit.digit-index c.args.text.now c.loop-digit-test.false) ∙ done c.loop-digit.last) in
    record { value = all; short = λ yes. let short = rise_short 48 c.args.text.now (omega arith) (sym all) in omega (arith, short) }
