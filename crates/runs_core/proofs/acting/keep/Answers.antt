use Rattle.account_core.proofs.RisingLemmas.{looked_up_at}
use Rattle.runs_core.proofs.acting.keep.Goals as goal

pub returns : goal.returns
returns c = λ other. rw c.set.ensures (looked_up_at c.args.call c.args.talk other c.args.talks.now)
