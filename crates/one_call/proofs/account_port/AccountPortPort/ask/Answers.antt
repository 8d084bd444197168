use Rattle.account_core.specs.Entries.{asked_of}
use Rattle.account_core.proofs.FittingAnswers.{account_moves}
use Rattle.one_call.proofs.account_port.AccountPortPort.ask.Goals as goal

pub returns-clause-moves : goal.returns-clause-moves
returns-clause-moves c = λ call.
    account_moves c.answers_fit_their_operations.ensures c.args.self.now.account c.apply.new.self c.args.self.now.seat call (asked_of c.args.op) c.apply.result
    c.history-entries.ensures.small c.history-entries.ensures.legal c.apply.ensures.answered c.apply.ensures.entered c.apply.ensures.admitted
    c.apply.ensures.kept
