-- What a tariff keeps.
use Rattle.std.specs.Prelude.{◌≡◌, ◌≤◌, ◌++◌, ◌∷◌, [], ℕ, Bool, true, All, List, if◌then◌else◌, length, map, Some, option_map, Result, Ok, Err}
use Rattle.std.specs.BTreeMap.{BTreeMap, get}
use Rattle.std.specs.List.{list_all}
use Rattle.tariff_core.specs.Bands.{Band, band_at, has_midnights, is_at}
use Rattle.tariff_core.specs.Digits.{text_of_digits}
use Rattle.tariff_core.specs.BandKeys.{by_band_key}
use Rattle.tariff_core.specs.declared.row.Row.{Row}
use Rattle.tariff_core.specs.declared.band_key.BandKey.{BandKey}

-- what a row of the code says
abbrev pub band_of : Row → Band
band_of row = record { prefix = text_of_digits row.prefix; start = row.start; fee = row.cost.fee; rate = row.cost.rate; free = row.cost.free; first = row.cost.first; step = row.cost.step; days = text_of_digits row.days }

-- what was read of a value, seen by `view`, is what its meaning says
abbrev pub ReadsAs : {X Y E : Type 0} → (X → Y) → Result X E → Result Y E → Type 0
ReadsAs view (Ok x) meaning = meaning ≡ Ok (view x)
ReadsAs view (Err why) meaning = meaning ≡ Err why

-- the day of a key at which the rows of a weekday are found: that weekday, or 0 in a table without days
abbrev pub key_of : Bool → ℕ → ℕ
key_of by_days day = if by_days then day else 0

-- a key is one for a weekday
pub record IsOn (by_days : Bool) (day : ℕ) (band_key : BandKey) : Type 0 where
  pub from_monday : 1 ≤ day
  pub to_sunday : day ≤ 7
  pub key : band_key.day ≡ key_of by_days day

-- at the key for a weekday the index finds the row that counts on it
abbrev pub Indexes : Bool → BTreeMap BandKey Row → List Band → Type 0
Indexes by_days index bands =
    (band_key : BandKey) (day : ℕ) → IsOn by_days day band_key → option_map band_of (get by_band_key index band_key) ≡ band_at (text_of_digits band_key.prefix) day band_key.start bands

-- the index of the rows of a table
pub record IsIndexed (rows : List Row) (by_days : Bool) (index : BTreeMap BandKey Row) : Type 0 where
  pub few : length rows ≤ 10000
  pub indexed : Indexes by_days index (map band_of rows)

-- a row came into the index, at its keys for the weekdays on which it counts
abbrev pub Finds : Bool → BTreeMap BandKey Row → Row → BTreeMap BandKey Row → Type 0
Finds by_days before row after =
    (band_key : BandKey) (day : ℕ) → IsOn by_days day band_key
    → get by_band_key after band_key ≡ (if is_at (text_of_digits band_key.prefix) day band_key.start (band_of row) then Some row else get by_band_key before band_key)

-- a row came to the end, and into the index
pub record KeepsRow (by_days : Bool) (old : List Row) (before : BTreeMap BandKey Row) (row : Row) (new : List Row) (after : BTreeMap BandKey Row) : Type 0 where
  pub rows : new ≡ old ++ row ∷ []
  pub index : Finds by_days before row after

-- each prefix has a row from midnight on, on each weekday
abbrev pub is_complete : List Band → Bool
is_complete bands = list_all (λ band. has_midnights band.prefix bands) bands

-- no prefix has more digits than these
abbrev pub AreNoLonger : ℕ → List Band → Type 0
AreNoLonger digits bands = All (λ band. length band.prefix ≤ digits) bands

-- the rows of a tariff: each prefix has one from midnight on, on each weekday, and no prefix has more digits than the longest
pub record IsTariff (bands : List Band) (longest : ℕ) : Type 0 where
  pub complete : is_complete bands ≡ true
  pub short : longest ≤ 15
  pub no_longer : AreNoLonger longest bands
