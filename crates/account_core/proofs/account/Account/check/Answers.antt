use Rattle.std.proofs.Common.{List, subst, sym}
use Rattle.account_core.specs.Checked.{IsCheckOf}
use Rattle.account_core.specs.Entries.{EntryData}
use Rattle.account_core.proofs.Walking.{past_more, past_to}
use Rattle.account_core.proofs.account.Account.check.Goals as goal

pub loop-entry-preserved : goal.loop-entry-preserved
loop-entry-preserved c =
    let P : List EntryData → Type 0 = λ h. IsCheckOf c.args.opening c.args.until h c.hear.new.self in
    subst P (sym (past_more c.args.entries.now c.loop-entry.entry-index c.entry-item.result c.loop-entry-test.true c.entry-item.is))
    (c.in_ok-hear.ensures.heard c.args.opening c.args.until (past_to c.args.entries.now c.loop-entry.entry-index) c.loop-entry.invariant)
