-- Where the columns of a table are, by their names in its header.
use Rattle.std.specs.Prelude.{◌+◌, ℕ, List, [], ◌∷◌, drop, if◌then◌else◌, Option, Some, None, Result, Ok, Err, is_some, ok_or}
use Rattle.std.specs.Str.{bytes_eq}
use Rattle.table_core.specs.Judging.{and_then}
use Rattle.table_core.specs.Rows.{Fields}
use Rattle.rating.specs.Asks.{NamesWish, TimesWish, ByEnd, BySplit, ByTime, ByUsualNames, name_of}
use Rattle.rating.specs.declared.ask.Column.{Column}
use Rattle.rating.specs.declared.ask.Column.TheVariants as column
use Rattle.rating.specs.declared.columns.Columns.{Columns}
use Rattle.rating.specs.declared.columns.TimeColumns.{TimeColumns}
use Rattle.rating.specs.declared.columns.TimeColumns.TheVariants as times
use Rattle.rating.specs.declared.fault.HeaderFault.{HeaderFault}
use Rattle.rating.specs.declared.fault.HeaderFault.TheVariants as fault

-- the first place of a name in some fields, the first of which has this place
unfoldable pub place_from : Fields → List ℕ → ℕ → Option ℕ
place_from [] name place = None
place_from (field ∷ fields) name place = if bytes_eq field name then Some place else place_from fields name (place + 1)

-- a name that is found at a place may not be behind it once more
abbrev pub found_once : Fields → List ℕ → Column → Option ℕ → Result (Option ℕ) HeaderFault
found_once header name column None = Ok None
found_once header name column (Some place) = if is_some (place_from (drop (place + 1) header) name (place + 1)) then Err (fault.Repeated column) else Ok (Some place)

-- the place of a column in a header, none where it has no such name; it may not have the name twice
abbrev pub sought : Fields → NamesWish → Column → Result (Option ℕ) HeaderFault
sought header names column = found_once header (name_of names column) column (place_from header (name_of names column) 0)

-- the place of a column that the header must have
abbrev pub needed_column : Fields → NamesWish → Column → Result ℕ HeaderFault
needed_column header names column = and_then (sought header names column) (λ place. ok_or place (fault.Missing column))

-- by their usual names: the times before the switch and after it where both are there, else the time, else the end
abbrev pub time_or_end : Fields → NamesWish → Option ℕ → Result TimeColumns HeaderFault
time_or_end header names (Some place) = Ok (times.Time place)
time_or_end header names None = and_then (needed_column header names column.End) (λ place. Ok (times.End place))

-- the same, by what there is of `before` and `after`
abbrev pub split_or_other : Fields → NamesWish → Option ℕ → Option ℕ → Result TimeColumns HeaderFault
split_or_other header names (Some before) (Some after) = Ok (times.Split before after)
split_or_other header names _ _ = and_then (sought header names column.Time) (time_or_end header names)

-- the columns of the times, where no name is asked for
abbrev pub usual_times : Fields → NamesWish → Result TimeColumns HeaderFault
usual_times header names = and_then (sought header names column.Before) (λ before. and_then (sought header names column.After) (split_or_other header names before))

-- the columns of the times
abbrev pub columns_by : Fields → NamesWish → TimesWish → Result TimeColumns HeaderFault
columns_by header names ByUsualNames = usual_times header names
columns_by header names (ByTime name) = and_then (needed_column header names column.Time) (λ place. Ok (times.Time place))
columns_by header names (ByEnd name) = and_then (needed_column header names column.End) (λ place. Ok (times.End place))
columns_by header names (BySplit before after) =
    and_then (needed_column header names column.Before) (λ first. and_then (needed_column header names column.After) (λ second. Ok (times.Split first second)))

-- the same, by the names that are asked for
abbrev pub times_in : Fields → NamesWish → Result TimeColumns HeaderFault
times_in header names = columns_by header names names.times

-- the column of what was charged, where there is one; where a name is asked for there must be
abbrev pub paid_by : Fields → NamesWish → Option (List ℕ) → Result (Option ℕ) HeaderFault
paid_by header names None = sought header names column.Paid
paid_by header names (Some name) = and_then (needed_column header names column.Paid) (λ place. Ok (Some place))

-- the same, by the name that is asked for
abbrev pub paid_column : Fields → NamesWish → Result (Option ℕ) HeaderFault
paid_column header names = paid_by header names names.paid

-- the columns by these names, or what is wrong with the header first: it hasn't a column that must be there, or has one twice
unfoldable pub found_columns : Fields → NamesWish → Result Columns HeaderFault
found_columns header names =
    and_then (needed_column header names column.Called) (λ called. and_then (needed_column header names column.Answer) (λ answer. and_then (times_in header names) (λ times.
    and_then (paid_column header names) (λ paid. Ok (record { called = called; answer = answer; times = times; paid = paid })))))
