use Rattle.std.proofs.Common.{rules}
use Rattle.script_player.proofs.network.feed.Goals as goal

pub returns-clause-some : goal.returns-clause-some
returns-clause-some c = record {
  moves = record {
    old = c.in_ok-ssf.ssf.now;
    new = c.step-sent.new.ssf;
    was = search rules;
    updates = (c.get_mut.follows.holds c.step-sent.new.ssf).3 (search rules);
    goes_on = c.step-sent.ensures.goes_on;
  };
  is_given = c.step-sent.ensures.given.0;
  refused = c.step-sent.ensures.given.1;
  was_next = record { least = c.next_due-before.ensures.least; ahead = c.next_due-before.ensures.ahead };
  is_next = record { least = c.next_due-after.ensures.least; ahead = c.next_due-after.ensures.ahead };
}
