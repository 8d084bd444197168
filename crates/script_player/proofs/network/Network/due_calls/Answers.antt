use Rattle.std.proofs.Common.{[], ◌∷◌, ◌++◌, ◌∙◌, sym, ap, append_assoc, append-nil}
use Rattle.script_player.proofs.DueCalls.{listed, listed_more}
use Rattle.script_player.proofs.network.Network.due_calls.Goals as goal

pub loop-due-preserved : goal.loop-due-preserved
loop-due-preserved c =
    let was = c.loop-due.invariant in
    let due = c.in-Some.due.now in (
      was.0 ++ due ∷ [],
      append_assoc was.0 (due ∷ []) c.next.new.self ∙ ap (λ rest. was.0 ++ rest) (sym c.in-Some.ensures.steps) ∙ was.1,
      listed_more c.loop-due.calls c.insert.new.self was.0 due c.in_ok-insert.ensures.updates was.2,
    )

pub returns : goal.returns
returns c =
    let was = c.loop-due.invariant in
    rw (← c.self.view_is)
    (λ whole. listed c.self.inside.calls.entries c.self.inside.dues c.args.now was.0 c.loop-due.calls.keys (c.self.invariant.1 whole)
    (sym (append-nil was.0) ∙ ap (λ rest. was.0 ++ rest) (sym c.in-None.ensures.steps.0) ∙ was.1 ∙ c.into_iter-due-iterator.ensures.into_iter_gives ∙ c.range-due-items.ensures.between tt) was.2)
