use Rattle.turn_account.proofs.Seeing.{stood_in_book}
use Rattle.turn_account.proofs.account.TurnAccountShared.close.Goals as goal

pub returns-clause-was : goal.returns-clause-was
returns-clause-was c =
    stood_in_book c.args.seats.items c.close.result c.close.ensures.seen c.close.ensures.opened
