-- What is in one column: a word, nothing, or a number in its range.
use Rattle.std.specs.Prelude.{◌==◌, ℕ, Option, List, Result, Ok, Err, if◌then◌else◌}
use Rattle.table_core.specs.Fields.{counted_if_any, number_in_field, optional_in_field}
use Rattle.table_core.specs.Judging.{and_then}
use Rattle.table_core.specs.declared.fault.RowKind.{RowKind}
use Rattle.table_core.specs.declared.fault.RowKind.TheVariants as kind
use Rattle.price_core.specs.declared.plan.TheConstants.{MAX_MONEY}
use Rattle.price_core.specs.declared.plan.TheConstants.{MAX_RATE}
use Rattle.price_core.specs.declared.times.TheConstants.{DAY, HORIZON}

-- a seat, 0 to 15
abbrev pub seat_of : List ℕ → Result ℕ RowKind
seat_of text = number_in_field 15 text

-- any number of 64 bits
abbrev pub any_number_of : List ℕ → Result ℕ RowKind
any_number_of text = number_in_field 18446744073709551615 text

-- a time of a day at most
abbrev pub units_of : List ℕ → Result ℕ RowKind
units_of text = number_in_field DAY text

-- money: 0 to 10^15
abbrev pub money_of : List ℕ → Result ℕ RowKind
money_of text = number_in_field MAX_MONEY text

-- a fee or a rate
abbrev pub rate_of : List ℕ → Result ℕ RowKind
rate_of text = number_in_field MAX_RATE text

-- a rate that there may not be
abbrev pub optional_rate_of : List ℕ → Result (Option ℕ) RowKind
optional_rate_of text = optional_in_field MAX_RATE text

-- a moment: 0 to 2·10^12
abbrev pub moment_column : List ℕ → Result ℕ RowKind
moment_column text = number_in_field HORIZON text

-- a moment that there may not be
abbrev pub optional_moment_of : List ℕ → Result (Option ℕ) RowKind
optional_moment_of text = optional_in_field HORIZON text

-- a tariff interval of a report, 1 to a day, or none where the field is empty
abbrev pub interval_of : List ℕ → Result (Option ℕ) RowKind
interval_of text = and_then (optional_in_field DAY text) counted_if_any

-- a billing step, which is at least 1
abbrev pub counted_units : ℕ → Result ℕ RowKind
counted_units units = if units == 0 then Err kind.Number else Ok units

-- the units of a billing step, 1 to a day
abbrev pub step_units_of : List ℕ → Result ℕ RowKind
step_units_of text = and_then (units_of text) counted_units
