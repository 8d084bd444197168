use Rattle.cap_values.specs.declared.event.Event.TheVariants as event
use Rattle.run_outputs.proofs.CallLemmas.{event_kept}
use Rattle.run_outputs.proofs.reports.CallReports.with_event.Goals as goal

pub returns-in-CollectedInfo : goal.returns-in-CollectedInfo
returns-in-CollectedInfo c = λ call given leg mode is. rw (c.in-CollectedInfo.is) (event_kept call given c.args.at event.CollectedInfo leg mode c.args.self is)

pub returns-in-RouteSelectFailure : goal.returns-in-RouteSelectFailure
returns-in-RouteSelectFailure c = λ call given leg mode is. rw (c.in-RouteSelectFailure.is) (event_kept call given c.args.at event.RouteSelectFailure leg mode c.args.self is)

pub returns-in-CalledPartyBusy : goal.returns-in-CalledPartyBusy
returns-in-CalledPartyBusy c = λ call given leg mode is. rw (c.in-CalledPartyBusy.is) (event_kept call given c.args.at event.CalledPartyBusy leg mode c.args.self is)

pub returns-in-NoAnswer : goal.returns-in-NoAnswer
returns-in-NoAnswer c = λ call given leg mode is. rw (c.in-NoAnswer.is) (event_kept call given c.args.at event.NoAnswer leg mode c.args.self is)

pub returns-in-Answer : goal.returns-in-Answer
returns-in-Answer c = λ call given leg mode is. rw (c.in-Answer.is, c.or.ensures) (event_kept call given c.args.at event.Answer leg mode c.args.self is)

pub returns-in-Disconnect : goal.returns-in-Disconnect
returns-in-Disconnect c = λ call given leg mode is. rw (c.in-Disconnect.is) (event_kept call given c.args.at event.Disconnect leg mode c.args.self is)

pub returns-in-Abandon : goal.returns-in-Abandon
returns-in-Abandon c = λ call given leg mode is. rw (c.in-Abandon.is) (event_kept call given c.args.at event.Abandon leg mode c.args.self is)
