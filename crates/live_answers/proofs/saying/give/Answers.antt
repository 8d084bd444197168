use Rattle.std.proofs.Common.{◌++◌, ◌∙◌, append-nil, append_assoc, ap, map, sym}
use Rattle.std.proofs.lemmas.List.{drop_all}
use Rattle.live_answers.proofs.GroupLemmas.{next_left}
use Rattle.live_answers.specs.Live.{item_view}
use Rattle.live_answers.proofs.saying.give.Goals as goal

pub loop-one-preserved : goal.loop-one-preserved
loop-one-preserved c =
    let ((added, is), within, gave) = c.loop-one.invariant in
    let (more, more_is) = c.in_ok-give_one.ensures.grows in
    let said = c.args.said.now in
    let i = c.loop-one.one-index in
    let next = next_left said i c.one-item.result c.loop-one-test.true c.one-item.is in
    let all = append_assoc c.args.given.now.items added more in (
      (added ++ more, more_is ∙ ap (λ l. l ++ more) is ∙ all),
      c.in_ok-give_one.ensures.moments,
      rw (c.in_ok-give_one.ensures.gives, append_assoc) (rw next at gave),
    )

pub returns : goal.returns
returns c =
    let (grown, within, gave) = c.loop-one.invariant in
    let whole = drop_all c.loop-one.one-index c.args.said.now c.loop-one-test.false in
    record {
      moments = within;
      grows = grown;
      gives = sym (append-nil (map item_view c.loop-one.given.items)) ∙ rw whole at gave;
    }
