-- The meaning of a message row: who says what of which call, and when, in the columns and the words of a trace.
use Rattle.std.specs.Prelude.{◌&&◌, ℕ, Bool, true, false, Option, Some, None, List, Result, Ok, Err, if◌then◌else◌, codes}
use Rattle.std.specs.Fmt.{decimal}
use Rattle.cap_values.specs.declared.event.Event.{Event}
use Rattle.cap_values.specs.declared.event.Event.TheVariants as event
use Rattle.cap_values.specs.declared.mode.Mode.{Mode}
use Rattle.cap_values.specs.declared.mode.Mode.TheVariants as mode
use Rattle.run_texts.specs.declared.words.Word.{Word}
use Rattle.run_texts.specs.declared.words.Word.TheVariants as word
use Rattle.tariff_core.specs.Fields.{moment_in}
use Rattle.tariff_core.specs.declared.clock.Clock.TheVariants as clock
use Rattle.run_texts.specs.Setups.{account_in, amount_in, party_in, until_in}
use Rattle.run_texts.specs.Said.{Said, alone, event_word, mode_word, post_said, report_said, state_word}
use Rattle.run_texts.specs.Tables.{call_of_post, sender_of}
use Rattle.run_values.specs.declared.post.Body.{Body}
use Rattle.table_core.specs.Fields.{counted_if_any, has_word, is_blank, number_in, number_or_empty, optional_in, when_blank}
use Rattle.table_core.specs.Judging.{and_then}
use Rattle.table_core.specs.Rows.{Fields}
use Rattle.table_core.specs.declared.fault.RowKind.{RowKind}
use Rattle.table_core.specs.declared.fault.RowKind.TheVariants as kind
use Rattle.price_core.specs.declared.times.TheConstants.{DAY, HORIZON}
use Rattle.price_core.specs.declared.times.TimeInfo.{TimeInfo}
use Rattle.price_core.specs.declared.times.TimeInfo.TheVariants as info

-- who says what of which call, as a trace prints it
pub record Speech : Type 0 where
  pub call : Option ℕ
  pub from : List ℕ
  pub said : Said

-- what is posted, as a trace prints it
abbrev pub speech_of : Body → Speech
speech_of body = record { call = call_of_post body; from = sender_of body; said = post_said clock.Digits body }

-- a message row: its moment, its number, if it has one, and what is said
pub record MessageView : Type 0 where
  pub at : ℕ
  pub number : Option ℕ
  pub speech : Speech

-- ---- words: moment,number,call,from,what,x1,x2,x3,x4 are the fields 0 to 8

-- the event of a report is x1
abbrev pub event_message_in : Fields → Result Event RowKind
event_message_in fields =
    if has_word fields 5 (event_word event.CollectedInfo) then Ok event.CollectedInfo else
    if has_word fields 5 (event_word event.RouteSelectFailure) then Ok event.RouteSelectFailure else
    if has_word fields 5 (event_word event.CalledPartyBusy) then Ok event.CalledPartyBusy else
    if has_word fields 5 (event_word event.NoAnswer) then Ok event.NoAnswer else
    if has_word fields 5 (event_word event.Answer) then Ok event.Answer else
    if has_word fields 5 (event_word event.Disconnect) then Ok event.Disconnect else
    if has_word fields 5 (event_word event.Abandon) then Ok event.Abandon else Err kind.What

-- how the event was watched is x3
abbrev pub mode_in : Fields → Result Mode RowKind
mode_in fields =
    if has_word fields 7 (mode_word mode.Interrupted) then Ok mode.Interrupted else
    if has_word fields 7 (mode_word mode.NotifyAndContinue) then Ok mode.NotifyAndContinue else
    if has_word fields 7 (mode_word mode.Transparent) then Ok mode.Transparent else Err kind.What

-- whether the call of a charging report goes on is x1
abbrev pub report_state_in : Fields → Result Bool RowKind
report_state_in fields = if has_word fields 5 (state_word true) then Ok true else if has_word fields 5 (state_word false) then Ok false else Err kind.What

-- whether its times know of a tariff switch is x2
abbrev pub switched_in : Fields → Result Bool RowKind
switched_in fields = if has_word fields 6 (codes "n") then Ok false else if has_word fields 6 (codes "s") then Ok true else Err kind.What

-- the word of a message of a switch
abbrev pub switch_word_in : Fields → Result Word RowKind
switch_word_in fields =
    if has_word fields 4 (codes "InitialDP") then Ok word.InitialDp else
    if has_word fields 4 (codes "EventReportBCSM") then and_then (event_message_in fields) (λ event. and_then (mode_in fields) (λ mode. Ok (word.EventReport event mode))) else
    if has_word fields 4 (codes "ApplyChargingReport") then and_then (report_state_in fields) (λ active. and_then (switched_in fields) (λ switched. Ok (word.ChargingReport active switched))) else
    if has_word fields 4 (codes "Ended") then Ok word.Ended else Err kind.What

-- the word of a row: a message of the switch, or a recharge by the operator
abbrev pub message_word_in : Fields → Result Word RowKind
message_word_in fields =
    if has_word fields 3 (codes "switch") then switch_word_in fields else
    if has_word fields 3 (codes "operator") && has_word fields 4 (codes "Recharge") then Ok word.Recharge else Err kind.What

-- ---- numbers, and fields that must be empty

-- a call: any number of 64 bits
abbrev pub message_call_in : Fields → Result ℕ RowKind
message_call_in fields = number_in fields 2 18446744073709551615

-- what the switch says of a call
abbrev pub of_switch : ℕ → Said → Speech
of_switch call said = record { call = Some call; from = codes "switch"; said = said }

-- InitialDP: x1 is the calling and x2 the called party
abbrev pub initial_in : Fields → Result Speech RowKind
initial_in fields =
    and_then (message_call_in fields) (λ call. and_then (party_in fields 5) (λ calling. and_then (party_in fields 6) (λ called.
    when_blank (is_blank fields 7 && is_blank fields 8) (of_switch call (record (alone (codes "InitialDP")) { x1 = calling; x2 = called })))))

-- a leg, 1 or 2, where there is one
abbrev pub leg_in : Fields → Result (Option ℕ) RowKind
leg_in fields = and_then (optional_in fields 6 2) counted_if_any

-- EventReportBCSM: x2 is the leg, or empty
abbrev pub event_report_in : Fields → Event → Mode → Result Speech RowKind
event_report_in fields event mode =
    and_then (message_call_in fields) (λ call. and_then (leg_in fields) (λ leg.
    when_blank (is_blank fields 8)
    (of_switch call (record (alone (codes "EventReportBCSM")) { x1 = event_word event; x2 = number_or_empty leg; x3 = mode_word mode }))))

-- the time of a report that knows no switch is x3
abbrev pub report_without_switch : Fields → Result TimeInfo RowKind
report_without_switch fields = and_then (number_in fields 7 DAY) (λ time. Ok (info.NoSwitch time))

-- the time before the switch is x4, 1 to a day, or empty
abbrev pub interval_in : Fields → Result (Option ℕ) RowKind
interval_in fields = and_then (optional_in fields 8 DAY) counted_if_any

-- the times of a report that knows a switch: x3 is the time since, and x4 that before
abbrev pub report_with_switch : Fields → Result TimeInfo RowKind
report_with_switch fields = and_then (number_in fields 7 DAY) (λ since. and_then (interval_in fields) (λ interval. Ok (info.Switch since interval)))

-- ApplyChargingReport
abbrev pub charging_report_in : Fields → Bool → Bool → Result Speech RowKind
charging_report_in fields active false =
    and_then (message_call_in fields) (λ call. and_then (report_without_switch fields) (λ times. when_blank (is_blank fields 8) (of_switch call (report_said active times))))
charging_report_in fields active true =
    and_then (message_call_in fields) (λ call. and_then (report_with_switch fields) (λ times. Ok (of_switch call (report_said active times))))

-- Ended
abbrev pub ended_message_in : Fields → Result Speech RowKind
ended_message_in fields =
    and_then (message_call_in fields) (λ call. when_blank (is_blank fields 5 && is_blank fields 6 && is_blank fields 7 && is_blank fields 8) (of_switch call (alone (codes "Ended"))))

-- Recharge, which has no call: x1 is the account, x2 the amount, and x3 its last moment from then on, or empty
abbrev pub recharge_message_in : Fields → Result Speech RowKind
recharge_message_in fields =
    and_then (account_in fields 5) (λ account. and_then (amount_in fields 6) (λ amount. and_then (until_in fields 7) (λ until.
    when_blank (is_blank fields 2 && is_blank fields 8) (record {
      call = None;
      from = codes "operator";
      said = record (alone (codes "Recharge")) { x1 = decimal account; x2 = decimal amount; x3 = number_or_empty until };
    }))))

-- what is said in a row with this word
abbrev pub speech_in : Fields → Word → Result Speech RowKind
speech_in fields word.InitialDp = initial_in fields
speech_in fields (word.EventReport event mode) = event_report_in fields event mode
speech_in fields (word.ChargingReport active switched) = charging_report_in fields active switched
speech_in fields word.Ended = ended_message_in fields
speech_in fields word.Recharge = recharge_message_in fields

-- the message in a row: its words are judged first, then its numbers from the left to the right, then what must be empty
abbrev pub message_in : Fields → Result MessageView RowKind
message_in fields =
    and_then (message_word_in fields) (λ word. and_then (moment_in fields 0 HORIZON) (λ at. and_then (optional_in fields 1 18446744073709551615) (λ number.
    and_then (speech_in fields word) (λ speech. Ok (record { at = at; number = number; speech = speech })))))
