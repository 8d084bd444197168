-- The table of calls.
use Rattle.std.specs.Prelude.{◌≡◌, ℕ, List, [], ◌++◌, codes, unwrap_or}
use Rattle.std.specs.Fmt.{decimal}
use Rattle.std.specs.List.{flat_map}
use Rattle.cap_values.specs.NumberDigits.{digits_of_number}
use Rattle.tariff_core.specs.Printing.{moment_or_empty, moment_text}
use Rattle.tariff_core.specs.declared.clock.Clock.{Clock}
use Rattle.table_core.specs.Decimals.{digits_text}
use Rattle.run_outputs.specs.Records.{AreRecords, Run, prefix_of}
use Rattle.run_outputs.specs.declared.outcome.Outcome.{Outcome}
use Rattle.run_outputs.specs.declared.outcome.Outcome.TheVariants as outcome
use Rattle.run_outputs.specs.declared.call_record.CallRecord.{CallRecord}
use Rattle.table_core.specs.Fields.{field_then, number_or_empty}

-- the word for what became of a call
abbrev pub outcome_word : Outcome → List ℕ
outcome_word outcome.Unknown = codes "unknown"
outcome_word outcome.NoRoute = codes "noroute"
outcome_word outcome.Denied = codes "denied"
outcome_word outcome.Refused = codes "refused"
outcome_word outcome.Forfeit = codes "forfeit"
outcome_word outcome.Open = codes "open"
outcome_word outcome.Busy = codes "busy"
outcome_word outcome.NoAnswer = codes "noanswer"
outcome_word outcome.RouteFail = codes "routefail"
outcome_word outcome.Abandoned = codes "abandoned"
outcome_word outcome.Ended = codes "ended"
outcome_word outcome.Cut = codes "cut"
outcome_word outcome.Released = codes "released"

-- the moments and the numbers of a row, each with a comma behind it
abbrev pub moments_text : Clock → CallRecord → List ℕ
moments_text clock call =
    field_then (moment_text clock call.start) (field_then (moment_or_empty clock call.answer) (field_then (moment_or_empty clock call.end)
    (field_then (decimal call.times.before) (field_then (decimal call.times.after) (field_then (decimal call.paid) [])))))

-- a row: `call,calling,called,account,prefix,start,answer,end,before,after,paid,outcome`
abbrev pub record_row : Clock → CallRecord → List ℕ
record_row clock call =
    field_then (decimal call.call) (field_then (digits_of_number call.calling) (field_then (digits_of_number call.called)
    (field_then (number_or_empty call.account) (field_then (digits_text (unwrap_or (prefix_of call) [])) (moments_text clock call ++ (outcome_word call.outcome ++ codes "\n"))))))

-- the header of the table
abbrev pub call_header : List ℕ
call_header = codes "call,calling,called,account,prefix,start,answer,end,before,after,paid,outcome\n"

-- the table of calls: a header, and a row of each record in order
abbrev pub call_text : Clock → List CallRecord → List ℕ
call_text clock calls = call_header ++ flat_map (record_row clock) calls

-- the table of the calls of a run, with its moments as a clock prints them
pub record IsCallText (clock : Clock) (run : Run) (text : List ℕ) : Type 0 where
  pub calls : List CallRecord
  pub are : AreRecords run calls
  pub is : text ≡ call_text clock calls
