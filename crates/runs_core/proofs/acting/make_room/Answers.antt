use Rattle.account_core.proofs.RisingLemmas.{kept_there, looked_up_at}
use Rattle.runs_core.proofs.CaseLemmas.{stands_now}
use Rattle.runs_core.proofs.acting.make_room.Goals as goal

pub returns-in_ok-insert-clause-room : goal.returns-in_ok-insert-clause-room
returns-in_ok-insert-clause-room c =
    rw (c.in-Talk.is, c.in_ok-insert.ensures.inserted) (kept_there c.in-Talk.call c.in-Talk.talk c.args.talks.now)

pub returns-in_ok-insert-clause-others : goal.returns-in_ok-insert-clause-others
returns-in_ok-insert-clause-others c = λ other.
    let old = c.args.talks.now in
    rw (c.in-Talk.is)
    (stands_now old c.insert.new.self c.in-Talk.call c.in-Talk.talk
    (λ call. rw c.in_ok-insert.ensures.inserted (looked_up_at c.in-Talk.call c.in-Talk.talk call old)) other)
