use Rattle.account_core.specs.Asked.{call_of}
use Rattle.account_core.specs.Entries.{asked_of}
use Rattle.locked_account.proofs.Seeing.{none_alone}
use Rattle.locked_account.proofs.account.SharedAccountShared.call.Goals as goal

pub returns-clause-owed : goal.returns-clause-owed
returns-clause-owed g c alone closes = absurd (none_alone (call_of (asked_of c.args.op)) alone)
