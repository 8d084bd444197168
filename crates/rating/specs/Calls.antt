-- What the record of a call says, or why it says nothing.
use Rattle.std.specs.Prelude.{◌+◌, ◌-◌, ◌==◌, ◌≤◌, ◌++◌, ◌∷◌, [], ℕ, List, not, length, Option, Some, None, Result, Ok, Err, ok_or, if◌then◌else◌, nat_lt}
use Rattle.std.specs.List.{flat_map}
use Rattle.cap_values.specs.Numbers.{is_number}
use Rattle.csv.specs.Writing.{comma, default_writer, field_text}
use Rattle.tariff_core.specs.Reading.{moment_of}
use Rattle.table_core.specs.Decimals.{decimal_of}
use Rattle.table_core.specs.Fields.{field_in, is_blank, present}
use Rattle.table_core.specs.Judging.{and_then}
use Rattle.table_core.specs.Rows.{Fields}
use Rattle.price_core.specs.declared.plan.TheConstants.{MAX_MONEY}
use Rattle.price_core.specs.declared.times.TheConstants.{DAY, MAX_MOMENT}
use Rattle.rating.specs.declared.call.Answered.{Answered}
use Rattle.rating.specs.declared.call.Talk.{Talk}
use Rattle.rating.specs.declared.call.Talk.TheVariants as talk
use Rattle.rating.specs.declared.call.TheConstants.{MAX_ROW}
use Rattle.rating.specs.declared.columns.Columns.{Columns}
use Rattle.rating.specs.declared.columns.TimeColumns.{TimeColumns}
use Rattle.rating.specs.declared.columns.TimeColumns.TheVariants as times
use Rattle.rating.specs.declared.kind.RateKind.{RateKind}
use Rattle.rating.specs.declared.kind.RateKind.TheVariants as kind

-- the number that was called, when the call was answered and how long it lasted if it was, and what it was charged where that is recorded
pub record CallSaid : Type 0 where
  pub called : List ℕ
  pub answered : Option Answered
  pub paid : Option ℕ

-- each field as csv writes it, with a comma behind
unfoldable pub with_commas : Fields → List ℕ
with_commas fields = flat_map (λ field. field_text default_writer field ++ (comma ∷ [])) fields

-- the bytes of a row as csv writes it, the end of its line counted as one
abbrev pub row_size : Fields → ℕ
row_size fields = length (with_commas fields)

-- the number called, 1 to 15 digits
abbrev pub called_in : Fields → ℕ → Result (List ℕ) RateKind
called_in fields place = if is_number (field_in fields place) then Ok (field_in fields place) else Err kind.Number

-- a number that must be there
abbrev pub needed_number : Fields → ℕ → ℕ → Result ℕ RateKind
needed_number fields place most = ok_or (decimal_of most (field_in fields place)) kind.Number

-- a moment that must be there
abbrev pub needed_moment : Fields → ℕ → Result ℕ RateKind
needed_moment fields place = ok_or (moment_of MAX_MOMENT (field_in fields place)) kind.Number

abbrev pub optional_number : Fields → ℕ → ℕ → Result (Option ℕ) RateKind
optional_number fields place most = if is_blank fields place then Ok None else present (needed_number fields place most)

-- the time up to an end, which is at most a day after the answer
abbrev pub talk_until : ℕ → ℕ → Result Talk RateKind
talk_until at end = if nat_lt end at then Err kind.Order else if nat_lt DAY (end - at) then Err kind.Order else Ok (talk.Lasts (end - at))

-- times before the tariff switch and after it, a day at most together
abbrev pub talk_split : ℕ → ℕ → Result Talk RateKind
talk_split before and_then = if nat_lt DAY (before + and_then) then Err kind.Number else Ok (talk.Splits before and_then)

-- how long a call lasted that was answered at a moment
abbrev pub talk_in : Fields → TimeColumns → ℕ → Result Talk RateKind
talk_in fields (times.Time place) at = and_then (needed_number fields place DAY) (λ time. Ok (talk.Lasts time))
talk_in fields (times.End place) at = and_then (needed_moment fields place) (λ end. talk_until at end)
talk_in fields (times.Split before_place after_place) at =
    and_then (needed_number fields before_place DAY) (λ before. and_then (needed_number fields after_place DAY) (λ and_then. talk_split before and_then))

-- a call that was answered at a moment, and how long it lasted
abbrev pub answered_at : Fields → Columns → ℕ → Result (Option Answered) RateKind
answered_at fields columns at = and_then (talk_in fields columns.times at) (λ talk. Ok (Some (record { at = at; talk = talk })))

-- the same, if it was answered; of one that wasn't, the times aren't read
abbrev pub answered_in : Fields → Columns → Result (Option Answered) RateKind
answered_in fields columns = if is_blank fields columns.answer then Ok None else and_then (needed_moment fields columns.answer) (answered_at fields columns)

-- what was charged, where there is a column for it and it isn't empty
abbrev pub charged_in : Fields → Option ℕ → Result (Option ℕ) RateKind
charged_in fields None = Ok None
charged_in fields (Some place) = optional_number fields place MAX_MONEY

-- what the columns of a row say; that an end is out of order is found last
unfoldable pub rated_call_in : Fields → Columns → Result CallSaid RateKind
rated_call_in fields columns =
    and_then (called_in fields columns.called) (λ called. and_then (charged_in fields columns.paid) (λ paid. and_then (answered_in fields columns) (λ answered.
    Ok (record { called = called; answered = answered; paid = paid }))))

-- what a row says under a header of so many fields: a row that is too long, or of another number of fields, says nothing
unfoldable pub said_in : ℕ → Columns → Fields → Result CallSaid RateKind
said_in width columns fields =
    if nat_lt MAX_ROW (row_size fields) then Err kind.TooLong else if not (length fields == width) then Err kind.Csv else rated_call_in fields columns

-- times are a day at most
abbrev pub IsWithinDay : Talk → Type 0
IsWithinDay (talk.Lasts time) = time ≤ DAY
IsWithinDay (talk.Splits before and_then) = before + and_then ≤ DAY

-- the answer and the times lie in their ranges
pub record AnsweredIsInRange (answered : Answered) : Type 0 where
  pub at : answered.at ≤ MAX_MOMENT
  pub talk : IsWithinDay answered.talk
