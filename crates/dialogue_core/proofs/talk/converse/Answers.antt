use Rattle.std.proofs.Common.{refl, ◌∷◌, ◌∙◌}
use Rattle.account_core.specs.Entries.{asked_of}
use Rattle.dialogue_core.proofs.talk.converse.Goals as goal

pub loop-turn-preserved : goal.loop-turn-preserved
loop-turn-preserved g c =
    let so_far = c.loop-turn.invariant in
    record {
      may_ask = c.in-Ok.ensures.may_ask;
      gots = c.in-Ok.got ∷ so_far.gots;
      are_got = ((c.loop-turn.asker, c.loop-turn.way), so_far.are_got, rw (so_far.talks, c.in-Ask.is) c.in-Ok.ensures.does);
      talks = rw so_far.talks c.hear-turn.ensures.says;
    }

pub returns-in-Err-clause-cut_off : goal.returns-in-Err-clause-cut_off
returns-in-Err-clause-cut_off g c =
    let so_far = c.loop-turn.invariant in
    record {
      gots = so_far.gots;
      between = (c.loop-turn.asker, c.loop-turn.way);
      are_got = so_far.are_got;
      asked = asked_of c.in-Ask.op;
      talks = so_far.talks ∙ rw c.in-Ask.is refl;
      ends = c.in-Err.ensures.ends;
    }
