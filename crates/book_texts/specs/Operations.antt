-- What the columns of an operation ask, by its word.
use Rattle.std.specs.Prelude.{◌&&◌, ℕ, Bool, true, List, Option, None, Result, Ok}
use Rattle.account_core.specs.Asked.{Asked, Credits, Reserves, Settles, Returns}
use Rattle.table_core.specs.Judging.{and_then}
use Rattle.table_core.specs.declared.fault.RowKind.{RowKind}
use Rattle.price_core.specs.Rates.{Rates}
use Rattle.price_core.specs.declared.times.TimeInfo.{TimeInfo}
use Rattle.price_core.specs.declared.times.TimeInfo.TheVariants as info
use Rattle.book_texts.specs.Column.{any_number_of, interval_of, moment_column, money_of, optional_moment_of, optional_rate_of, rate_of, step_units_of, units_of}
use Rattle.book_texts.specs.Columns.{Operation}
use Rattle.book_texts.specs.declared.version.Version.{Version}
use Rattle.book_texts.specs.declared.version.Version.TheVariants as version
use Rattle.book_texts.specs.declared.words.OpWord.{OpWord}
use Rattle.book_texts.specs.declared.words.OpWord.TheVariants as word
use Rattle.table_core.specs.Fields.{is_empty_field}

-- ---- numbers

-- x2 of a credit is its last moment, or empty; there is none before version 3
abbrev pub until_of : Version → List ℕ → Result (Option ℕ) RowKind
until_of version.One text = Ok None
until_of version.Two text = Ok None
until_of version.Three text = optional_moment_of text
until_of version.Four text = optional_moment_of text

-- `credit`: x1 the amount, and the last moment
abbrev pub credit_in : Operation → Result Asked RowKind
credit_in o = and_then (money_of o.x1) (λ amount. and_then (until_of o.version o.x2) (λ until. Ok (Credits amount until)))

-- x6 of a reserve is its free units; there are none in version 1
abbrev pub free_of : Version → List ℕ → Result ℕ RowKind
free_of version.One text = Ok 0
free_of version.Two text = units_of text
free_of version.Three text = units_of text
free_of version.Four text = units_of text

-- x7 of a reserve is its moment, and 0 before version 3
abbrev pub at_of : Version → List ℕ → Result ℕ RowKind
at_of version.One text = Ok 0
at_of version.Two text = Ok 0
at_of version.Three text = moment_column text
at_of version.Four text = moment_column text

-- x8 of a reserve is the least that is billed, and 0 before version 4
abbrev pub first_column : Version → List ℕ → Result ℕ RowKind
first_column version.Four text = units_of text
first_column version text = Ok 0

-- x9 of a reserve is its billing step, and 1 before version 4
abbrev pub step_column : Version → List ℕ → Result ℕ RowKind
step_column version.Four text = step_units_of text
step_column version text = Ok 1

-- x1 to x3 of a reserve: the fee and the rates; x6 its free units, x8 and x9 its billing steps
unfoldable pub plan_in : Operation → Result Rates RowKind
plan_in o =
    and_then (rate_of o.x1) (λ fee.
    and_then (rate_of o.x2) (λ first.
    and_then (optional_rate_of o.x3) (λ second.
    and_then (free_of o.version o.x6) (λ free.
    and_then (first_column o.version o.x8) (λ least.
    and_then (step_column o.version o.x9) (λ step.
    Ok (record { fee = fee; before = first; after = second; free = free; first = least; step = step })))))))

-- `reserve`: the call, its plan, x4 the time wanted, x5 the least, and the moment
unfoldable pub reserve_in : Operation → Result Asked RowKind
reserve_in o =
    and_then (any_number_of o.call) (λ call.
    and_then (plan_in o) (λ plan.
    and_then (units_of o.x4) (λ wanted.
    and_then (units_of o.x5) (λ least.
    and_then (at_of o.version o.x7) (λ at.
    Ok (Reserves call plan wanted least at))))))

-- x3 of a settle, where its report knows no switch: the time
abbrev pub settle_without_switch : Operation → Result TimeInfo RowKind
settle_without_switch o = and_then (units_of o.x3) (λ time. Ok (info.NoSwitch time))

-- x3 and x4 of a settle, where its report knows a switch: the time since the switch, and the one before it
abbrev pub settle_with_switch : Operation → Result TimeInfo RowKind
settle_with_switch o = and_then (units_of o.x3) (λ since. and_then (interval_of o.x4) (λ interval. Ok (info.Switch since interval)))

-- `settle`: the call, and x1 the number
abbrev pub settle_in : Operation → TimeInfo → Result Asked RowKind
settle_in o report = and_then (any_number_of o.call) (λ call. and_then (any_number_of o.x1) (λ number. Ok (Settles call number report)))

-- `return`: the call
abbrev pub return_in : Operation → Result Asked RowKind
return_in o = and_then (any_number_of o.call) (λ call. Ok (Returns call))

-- the operation that the word names
abbrev pub asked_in : OpWord → Operation → Result Asked RowKind
asked_in word.Credit o = credit_in o
asked_in word.Reserve o = reserve_in o
asked_in word.SettleNoSwitch o = and_then (settle_without_switch o) (settle_in o)
asked_in word.SettleSwitch o = and_then (settle_with_switch o) (settle_in o)
asked_in word.Return o = return_in o

-- ---- columns that must be empty

-- x6 to x9 are empty
abbrev pub are_added_empty : Operation → Bool
are_added_empty o = is_empty_field o.x6 && is_empty_field o.x7 && is_empty_field o.x8 && is_empty_field o.x9

-- x3 to x9 are empty
abbrev pub are_last_empty : Operation → Bool
are_last_empty o = is_empty_field o.x3 && is_empty_field o.x4 && is_empty_field o.x5 && are_added_empty o

-- x2 is empty, but from version 3 on
abbrev pub has_no_until : Version → List ℕ → Bool
has_no_until version.One text = is_empty_field text
has_no_until version.Two text = is_empty_field text
has_no_until version.Three text = true
has_no_until version.Four text = true

-- the columns are empty that neither an opening nor a credit uses: the call, x2 but from version 3 on, and x3 to x9
abbrev pub is_money_blank : Operation → Bool
is_money_blank o = is_empty_field o.call && has_no_until o.version o.x2 && are_last_empty o

-- the columns that the operation doesn't use are empty
abbrev pub is_asked_blank : OpWord → Operation → Bool
is_asked_blank word.Credit o = is_money_blank o
is_asked_blank word.Reserve o = true
is_asked_blank word.SettleNoSwitch o = is_empty_field o.x4 && is_empty_field o.x5 && are_added_empty o
is_asked_blank word.SettleSwitch o = is_empty_field o.x5 && are_added_empty o
is_asked_blank word.Return o = is_empty_field o.x1 && is_empty_field o.x2 && are_last_empty o
