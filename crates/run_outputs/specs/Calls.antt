-- What the posts of a run say of a call: its start, its moments, and what was reported of it.
use Rattle.std.specs.Prelude.{◌==◌, ℕ, Bool, Option, Some, None, List, [], ◌∷◌, if◌then◌else◌, is_some}
use Rattle.std.specs.Option.{option_map, option_or}
use Rattle.cap_values.specs.Codes.{event_code}
use Rattle.cap_values.specs.declared.event.Event.{Event}
use Rattle.cap_values.specs.declared.event.Event.TheVariants as event
use Rattle.cap_values.specs.declared.message.SsfMsg.{SsfMsg}
use Rattle.cap_values.specs.declared.message.SsfMsg.TheVariants as message
use Rattle.cap_values.specs.declared.number.Number.{Number}
use Rattle.run_values.specs.declared.post.Body.{Body}
use Rattle.run_values.specs.declared.post.Body.TheVariants as body
use Rattle.run_outputs.specs.declared.reports.CallReports.{CallReports}
use Rattle.run_outputs.specs.declared.starts.Start.{Start}

-- what a post says, if it is a message of this call
abbrev pub message_of_call : {X : Type 0} → ℕ → (SsfMsg → Option X) → Body → Option X
message_of_call call tell (body.Ssf other msg) = if other == call then tell msg else None
message_of_call call tell (body.Recharge account amount until) = None

-- what the first message of a call says that says anything, at its moment
abbrev pub first_said : {X : Type 0} → ℕ → (ℕ → SsfMsg → Option X) → List (ℕ × Body) → Option X
first_said call tell [] = None
first_said call tell (post ∷ posts) = option_or (message_of_call call (tell post.0) post.1) (first_said call tell posts)

-- an InitialDP starts its call
abbrev pub start_by : ℕ → SsfMsg → Option Start
start_by at (message.InitialDp call calling called) = Some (record { at = at; calling = calling; called = called })
start_by at _ = None

-- an Ended ends its call
abbrev pub end_by : ℕ → SsfMsg → Option ℕ
end_by at message.Ended = Some at
end_by at _ = None

-- the moment of an EventReport of this event
abbrev pub report_by : Event → ℕ → SsfMsg → Option ℕ
report_by event at (message.EventReport other leg mode) = if event_code other == event_code event then Some at else None
report_by event at _ = None

-- the start of a call
abbrev pub start_of : ℕ → List (ℕ × Body) → Option Start
start_of call given = first_said call start_by given

-- the calling and the called number that a call starts with
abbrev pub parties_of : ℕ → List (ℕ × Body) → Option (Number × Number)
parties_of call given = option_map (λ start. (start.calling, start.called)) (start_of call given)

-- the moment at which an event of a call was reported
abbrev pub reported_at : Event → ℕ → List (ℕ × Body) → Option ℕ
reported_at event call given = first_said call (report_by event) given

-- whether an event of a call was reported
abbrev pub is_reported : Event → ℕ → List (ℕ × Body) → Bool
is_reported event call given = is_some (reported_at event call given)

-- what was reported of a call, and when it was answered and ended
abbrev pub call_reports_of : ℕ → List (ℕ × Body) → CallReports
call_reports_of call given = record {
  answer = reported_at event.Answer call given;
  end = first_said call end_by given;
  busy = is_reported event.CalledPartyBusy call given;
  no_answer = is_reported event.NoAnswer call given;
  route_failed = is_reported event.RouteSelectFailure call given;
  abandoned = is_reported event.Abandon call given;
  disconnected = is_reported event.Disconnect call given;
}
