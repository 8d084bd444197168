use Rattle.std.proofs.Common.{inl, inr}
use Rattle.cap_values.specs.declared.message.SsfMsg.TheVariants as message
use Rattle.run_outputs.proofs.CallLemmas.{message_kept}
use Rattle.run_outputs.proofs.reports.CallReports.after.Goals as goal

pub returns-in-Ended : goal.returns-in-Ended
returns-in-Ended c = λ call given is. rw (c.in-Ended.is, c.or.ensures) (message_kept call given c.args.at message.Ended c.args.self is)

pub returns-in-InitialDp : goal.returns-in-InitialDp
returns-in-InitialDp c = λ call given is. elim c.in-InitialDp.is [
  | inl starts ↦ rw starts.3 (message_kept call given c.args.at (message.InitialDp starts.0 starts.1 starts.2) c.args.self is)
  | inr charges ↦ rw charges.2 (message_kept call given c.args.at (message.ChargingReport charges.0 charges.1) c.args.self is)
]
