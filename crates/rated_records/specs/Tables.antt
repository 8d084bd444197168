-- What `rate` prints of the table of a run's calls.
use Rattle.std.specs.Prelude.{◌≡◌, ◌≢◌, ◌<◌, ◌≤◌, ◌^◌, ℕ, Bool, true, List, [], ◌∷◌, codes, All, None, Ok, IfSome, is_some, unwrap_or}
use Rattle.std.specs.Fmt.{decimal}
use Rattle.std.specs.List.{AllZip}
use Rattle.run_outputs.specs.Records.{Run, prefix_of}
use Rattle.run_outputs.specs.Tables.{IsCallText, outcome_word}
use Rattle.run_outputs.specs.declared.call_record.CallRecord.{CallRecord}
use Rattle.run_outputs.specs.declared.outcome.Outcome.TheVariants as outcome
use Rattle.cap_values.specs.NumberDigits.{digits_of_number}
use Rattle.tariff_core.specs.Printing.{moment_or_empty, moment_text}
use Rattle.tariff_core.specs.declared.clock.Clock.{Clock}
use Rattle.rated_records.specs.Laws.{paid_rightly}
use Rattle.rating.specs.Asks.{NamesWish, ByUsualNames}
use Rattle.rating.specs.Lines.{header_line}
use Rattle.rating.specs.Scores.{passes}
use Rattle.rating.specs.Texts.{IsRatedText, RatedRow, counts_of, rate_input_of, rated_text}
use Rattle.rating.specs.declared.score.Score.{Score}
use Rattle.run_laws.specs.Records.{IsServedRun}
use Rattle.run_laws.specs.Starts.{HaveTheirStarts}
use Rattle.run_texts.specs.FirstSections.{FirstSection, first_section}
use Rattle.run_texts.specs.Inputs.{tariff_in}
use Rattle.account_core.specs.Closed.{Closed}
use Rattle.account_core.specs.Refusals.{Knowing}
use Rattle.table_core.specs.Decimals.{digits_text}
use Rattle.table_core.specs.Rows.{Fields}
use Rattle.price_core.specs.declared.times.TheConstants.{MAX_MOMENT}
use Rattle.table_core.specs.Fields.{number_or_empty}

-- what `rate --answer start` is asked for: the usual names, but for the start in place of the answer
abbrev pub names_by_start : NamesWish
names_by_start = record { called = codes "called"; answer = codes "start"; times = ByUsualNames; paid = None }

-- the names of the columns of a table of calls
abbrev pub header_fields : Fields
header_fields =
    codes "call" ∷ codes "calling" ∷ codes "called" ∷ codes "account" ∷ codes "prefix" ∷ codes "start" ∷ codes "answer" ∷ codes "end" ∷ codes "before" ∷ codes "after" ∷ codes "paid"
    ∷ codes "outcome" ∷ []

-- the fields of a record there
abbrev pub record_fields : Clock → CallRecord → Fields
record_fields clock call =
    decimal call.call ∷ digits_of_number call.calling ∷ digits_of_number call.called ∷ number_or_empty call.account ∷ digits_text (unwrap_or (prefix_of call) []) ∷ moment_text clock call.start
    ∷ moment_or_empty clock call.answer ∷ moment_or_empty clock call.end ∷ decimal call.times.before ∷ decimal call.times.after ∷ decimal call.paid ∷ outcome_word call.outcome ∷ []

-- the numbers of a record have 64 bits, as those of each record of the code, and its start is a moment that a script may have
pub record IsPrintable (call : CallRecord) : Type 0 where
  pub number : call.call < 2 ^ 64
  pub account : IfSome call.account (λ account. account < 2 ^ 64)
  pub start : call.start ≤ MAX_MOMENT
  pub answer : IfSome call.answer (λ at. at < 2 ^ 64)
  pub end : IfSome call.end (λ at. at < 2 ^ 64)

-- an input of `rate`: the tariff of a run, and a table behind it
pub record IsInputOf (run : Run) (table input : List ℕ) : Type 0 where
  pub first : FirstSection
  pub is_first : first_section input ≡ Ok first
  pub tariff : tariff_in first.section ≡ Ok run.setup.tariff
  pub rest : first.rest ≡ table

-- a row that was rated is that of a record, and comes to just what the call has paid, unless it has a forfeit
pub record IsRowOf (clock : Clock) (call : CallRecord) (row : RatedRow) : Type 0 where
  pub fields : row.fields ≡ record_fields clock call
  pub rating : call.outcome ≢ outcome.Forfeit → row.rating ≡ paid_rightly call (prefix_of call)

-- the text that is printed of these records, each in its row, and what is counted
pub record IsRatedTable (differing : Bool) (clock : Clock) (calls : List CallRecord) (printed : List ℕ) (score : Score) : Type 0 where
  pub rated : List RatedRow
  pub each : AllZip (IsRowOf clock) calls rated
  pub printed_is : printed ≡ rated_text differing header_fields rated
  pub score_is : score ≡ counts_of rated

-- of a run's tariff with the table of its calls `rate` prints such a text, whatever it is asked to print
abbrev pub TablesHaveNoDifference : (Closed → ℕ → Knowing) → Type 0
TablesHaveNoDifference Stood =
    (run : Run) (clock : Clock) (table input : List ℕ) → IsServedRun Stood run → HaveTheirStarts run.given → (text : IsCallText clock run table) → All IsPrintable text.calls
    → IsInputOf run table input → (differing : Bool) (printed : List ℕ) (score : Score) → IsRatedText differing (rate_input_of names_by_start input) printed score
    → IsRatedTable differing clock text.calls printed score

-- where no call has a forfeit and each has a prefix, all rows are right, and of those that aren't none is printed
abbrev pub NoRowIsPrinted : Type 0
NoRowIsPrinted =
    (clock : Clock) (calls : List CallRecord) (printed : List ℕ) (score : Score) → All (λ call. call.outcome ≢ outcome.Forfeit) calls → All (λ call. is_some call.prefix ≡ true) calls
    → IsRatedTable true clock calls printed score → (printed ≡ header_line header_fields) × (passes score ≡ true)
