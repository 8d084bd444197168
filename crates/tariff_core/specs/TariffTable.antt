-- The meaning of a tariff table: its rows, or the first fault.
use Rattle.std.specs.Prelude.{◌≡◌, ◌≤◌, ◌+◌, ◌*◌, ◌==◌, ◌&&◌, ℕ, Bool, true, List, [], ◌∷◌, ◌++◌, length, Option, Some, None, Result, Ok, Err, ⊤, if◌then◌else◌, nat_le, nat_lt, ok_or, slice_index, take, drop, codes}
use Rattle.std.specs.Char.{is_ascii_digit}
use Rattle.std.specs.List.{list_all, list_any}
use Rattle.table_core.specs.Decimals.{decimal_of}
use Rattle.table_core.specs.Fields.{field_in}
use Rattle.table_core.specs.Judging.{adds, and_then}
use Rattle.table_core.specs.Tables.{TableForm, table_of}
use Rattle.tariff_core.specs.Bands.{Band, counts_on, has_band, has_midnights, weekdays}
use Rattle.tariff_core.specs.TariffFaults.{kind_from}
use Rattle.tariff_core.specs.declared.tariff_fault.TariffFault.{TariffFault}
use Rattle.tariff_core.specs.declared.tariff_fault.TariffKind.{TariffKind}
use Rattle.tariff_core.specs.declared.tariff_fault.TariffKind.TheVariants as kind
use Rattle.price_core.specs.declared.plan.TheConstants.{MAX_RATE}
use Rattle.price_core.specs.declared.times.TheConstants.{DAY}

-- 0 to 15 digits
abbrev pub is_prefix : List ℕ → Bool
is_prefix text = nat_le (length text) 15 && list_all is_ascii_digit text

-- the time of day at hours and minutes, in units of 100 ms
abbrev pub time_at : Option ℕ → Option ℕ → Option ℕ
time_at None minutes = None
time_at (Some hours) None = None
time_at (Some hours) (Some minutes) = Some ((hours * 60 + minutes) * 600)

-- the time of day that `HH:MM` writes, 00:00 to 23:59
unfoldable pub time_of : List ℕ → Option ℕ
time_of text =
    if (length text == 5) && (slice_index text 2 == 58) then time_at (decimal_of 23 (take 2 text)) (decimal_of 59 (drop 3 text)) else None

-- the prefix in a row
abbrev pub prefix_in : List (List ℕ) → Result (List ℕ) TariffKind
prefix_in fields = if is_prefix (field_in fields 0) then Ok (field_in fields 0) else Err kind.Digits

-- the start of a band
abbrev pub band_start_in : List (List ℕ) → Result ℕ TariffKind
band_start_in fields = ok_or (time_of (field_in fields 1)) kind.From

-- a fee or a rate
abbrev pub money_in : List (List ℕ) → ℕ → Result ℕ TariffKind
money_in fields place = ok_or (decimal_of MAX_RATE (field_in fields place)) kind.Money

-- the free units in a row: none under the first header
abbrev pub free_in : ℕ → List (List ℕ) → Result ℕ TariffKind
free_in tariff_header fields = if tariff_header == 0 then Ok 0 else ok_or (decimal_of DAY (field_in fields 4)) kind.Free

-- the least units that are billed: none under the first two headers
abbrev pub first_in : ℕ → List (List ℕ) → Result ℕ TariffKind
first_in tariff_header fields = if nat_lt tariff_header 2 then Ok 0 else ok_or (decimal_of DAY (field_in fields 5)) kind.First

-- a number of units, of which there is one at least
abbrev pub step_of : Option ℕ → Result ℕ TariffKind
step_of None = Err kind.Step
step_of (Some units) = if units == 0 then Err kind.Step else Ok units

-- the units of a step: one under the first two headers
abbrev pub step_in : ℕ → List (List ℕ) → Result ℕ TariffKind
step_in tariff_header fields = if nat_lt tariff_header 2 then Ok 1 else step_of (decimal_of DAY (field_in fields 6))

-- digits up to 7, each above the one before it
unfoldable pub rise_from : ℕ → List ℕ → Bool
rise_from last [] = true
rise_from last (digit ∷ text) = nat_lt last digit && nat_le digit 55 && rise_from digit text

-- digits from 1 to 7, each above the one before it
abbrev pub are_days : List ℕ → Bool
are_days text = rise_from 48 text

-- the days in a row: none, for each day, under the first three headers
abbrev pub days_in : ℕ → List (List ℕ) → Result (List ℕ) TariffKind
days_in tariff_header fields =
    if nat_lt tariff_header 3 then Ok [] else if are_days (field_in fields 7) then Ok (field_in fields 7) else Err kind.Days

-- what a row says
abbrev pub band_in : ℕ → List (List ℕ) → Result Band TariffKind
band_in tariff_header fields =
    and_then (prefix_in fields) (λ prefix. and_then (band_start_in fields) (λ start. and_then (money_in fields 2) (λ fee. and_then (money_in fields 3) (λ rate.
    and_then (free_in tariff_header fields) (λ free. and_then (first_in tariff_header fields) (λ first. and_then (step_in tariff_header fields) (λ step. and_then (days_in tariff_header fields) (λ days.
    Ok (record { prefix = prefix; start = start; fee = fee; rate = rate; free = free; first = first; step = step; days = days })))))))))

-- on a weekday on which the row counts, an earlier one that counts too has its prefix and its start
abbrev pub repeats : List Band → Band → Bool
repeats earlier band = list_any (λ day. counts_on day band && has_band band.prefix day band.start earlier) weekdays

-- the row, where no earlier one has its prefix and its start on a common day
abbrev pub new_band : List Band → Band → Result Band TariffKind
new_band earlier band = if repeats earlier band then Err kind.Repeated else Ok band

-- what a row says, after the earlier ones
abbrev pub new_band_in : ℕ → List Band → List (List ℕ) → Result Band TariffKind
new_band_in tariff_header earlier fields = and_then (band_in tariff_header fields) (new_band earlier)

-- the header `prefix,from,fee,rate`
abbrev pub tariff_header : List (List ℕ)
tariff_header = codes "prefix" ∷ codes "from" ∷ codes "fee" ∷ codes "rate" ∷ []

-- the header with a column for free units
abbrev pub header_with_free : List (List ℕ)
header_with_free = tariff_header ++ codes "free" ∷ []

-- the header with two more for steps
abbrev pub header_with_steps : List (List ℕ)
header_with_steps = header_with_free ++ codes "first" ∷ codes "step" ∷ []

-- the header with one more for days
abbrev pub header_with_days : List (List ℕ)
header_with_days = header_with_steps ++ codes "days" ∷ []

-- a tariff table of at most 10,000 rows
abbrev pub tariff_form : TableForm (List Band) TariffKind TariffFault
tariff_form = record {
  headers = tariff_header ∷ header_with_free ∷ header_with_steps ∷ header_with_days ∷ [];
  most_rows = 10000;
  start = [];
  judge = λ tariff_header. adds (new_band_in tariff_header);
  kind_of = kind_from;
  fault_at = λ row kind. record { row = row; kind = kind };
}

-- the rows of a table before they are judged as a whole
abbrev pub bands_of : List (List (List ℕ)) → Result (List Band) TariffFault
bands_of rows = table_of tariff_form rows

-- the first row, from this number on, whose prefix has no row from midnight on, on some weekday
unfoldable pub without_midnight : List Band → ℕ → List Band → Option ℕ
without_midnight all number [] = None
without_midnight all number (band ∷ bands) = if has_midnights band.prefix all then without_midnight all (number + 1) bands else Some number

-- the rows of a table, where each prefix has a row from midnight on, on each weekday
abbrev pub complete_by : List Band → Option ℕ → Result (List Band) TariffFault
complete_by bands None = Ok bands
complete_by bands (Some number) = Err (record { row = number; kind = kind.NoMidnightBand })

-- the bands, where each prefix has one from midnight on, on each weekday
abbrev pub complete : List Band → Result (List Band) TariffFault
complete bands = complete_by bands (without_midnight bands 2 bands)

-- the rows of a tariff table, judged as a whole
abbrev pub tariff_of : List (List (List ℕ)) → Result (List Band) TariffFault
tariff_of rows = and_then (bands_of rows) complete

-- where a fault comes: at its row, but after the last where a prefix has no row from midnight on, on some weekday
abbrev pub ComesBy : ℕ → TariffKind → ℕ → Type 0
ComesBy number kind.NoMidnightBand row = ⊤
ComesBy number _ row = number ≤ row

-- no row before this one has a fault
abbrev pub NotBefore : ℕ → Result (List Band) TariffFault → Type 0
NotBefore number (Ok bands) = ⊤
NotBefore number (Err fault) = ComesBy number fault.kind fault.row

-- a fault of the table is the one that its meaning has; out of memory and a failed reader come before that
abbrev pub RefusesBands : TariffKind → ℕ → Result (List Band) TariffFault → Type 0
RefusesBands kind.OutOfMemory row meaning = NotBefore row meaning
RefusesBands kind.Device row meaning = NotBefore row meaning
RefusesBands why row meaning = meaning ≡ Err (record { row = row; kind = why })

-- an answer is the table's meaning
abbrev pub GivesBands : Result (List Band) TariffFault → Result (List Band) TariffFault → Type 0
GivesBands (Ok bands) meaning = meaning ≡ Ok bands
GivesBands (Err fault) meaning = RefusesBands fault.kind fault.row meaning
