use Rattle.std.proofs.lemmas.Result.{on_ok_weaker}
use Rattle.account_core.proofs.Renewing.{renews}
use Rattle.account_core.proofs.call_states.CallStates.renew.Goals as goal

pub returns-clause-renewed : goal.returns-clause-renewed
returns-clause-renewed c =
    on_ok_weaker c.insert.result (renews c.args.self.now (record { calls = c.insert.new.self }) c.args.call c.args.state) c.insert.ensures.inserted
