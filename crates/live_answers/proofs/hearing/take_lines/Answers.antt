use Rattle.std.proofs.Common.{◌≡◌, ◌++◌, ◌∙◌, length, map, ap, rules}
use Rattle.std.specs.Prelude.{flat_map}
use Rattle.live_answers.proofs.GroupLemmas.{given_each}
use Rattle.live_answers.proofs.hearing.take_lines.Goals as goal
use Rattle.live_answers.specs.Groups.{heard_behind, views_in}
use Rattle.live_answers.specs.Live.{given_by, heard_after, item_view, logged_of}
use Rattle.live_answers.specs.Said.{line_view_of}
use Rattle.live_answers.specs.Standing.{last_item_moment}

pub returns-clause-takes : goal.returns-clause-takes
returns-clause-takes g c =
    let was = c.args.given.now.items in
    let (lines, few, takes, said, logged) = c.in_ok-left.ensures.taken in
    let next_is : c.new-group.result.next ≡ length was = search rules in
    let last_is : c.new-group.result.last ≡ last_item_moment was = search rules in
    let heard = heard_behind was lines in
    let heard_is : heard_after c.new-group.result.next c.new-group.result.last lines ≡ heard =
    ap (λ n. heard_after n c.new-group.result.last lines) next_is ∙ ap (λ m. heard_after (length was) m lines) last_is in
    let said_is : map line_view_of c.take_group.new.group.said.items ≡ views_in heard = said ∙ ap views_in heard_is in
    let logged_is : c.take_group.new.group.logged.items ≡ logged_of heard = logged ∙ ap logged_of heard_is in
    let gave : map item_view c.give.new.given.items ≡ map item_view was ++ flat_map given_by (map line_view_of c.take_group.new.group.said.items) = search rules in
    record {
      lines = lines;
      few = few;
      takes = takes;
      says = said_is;
      gives = gave ∙ ap (λ v. map item_view was ++ flat_map given_by v) said_is ∙ ap (λ l. map item_view was ++ l) (given_each heard);
      logs = rw (c.as_slice-2.ensures.value, logged_is) at c.in_ok-put_down.ensures.logs;
    }
