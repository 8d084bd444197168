-- The index of the rows of a tariff.
use Rattle.std.proofs.Common.{◌≡◌, ℕ, ◌+◌, ◌<◌, ◌≤◌, Bool, true, false, List, [], ◌∷◌, ◌++◌, length, Option, Some, None, refl, sym, ap, ◌∙◌, inl, inr, arith, length-append}
use Rattle.std.specs.Prelude.{◌==◌, ◌&&◌, ◌||◌, if◌then◌else◌, is_some, map, option_map}
use Rattle.std.specs.BTreeMap.{BTreeMap, get}
use Rattle.std.specs.Cmp.Lexicographic.{slice_cmp}
use Rattle.std.specs.List.{list_any}
use Rattle.std.specs.Ordering.{is_eq, nat_cmp, ordering_then}
use Rattle.std.specs.Str.{bytes_eq}
use Rattle.std.specs.declared.cmp.Ordering.{Ordering}
use Rattle.std.specs.declared.cmp.Ordering.TheVariants.{Less, Equal, Greater}
use Rattle.std.proofs.lemmas.Bool.{cases_lt}
use Rattle.std.proofs.lemmas.Bool.Decides.{nat_tests}
use Rattle.std.proofs.lemmas.List.{map-append}
use Rattle.std.proofs.lemmas.Map.Lookups.{exact_bytes, exact_unsigned}
use Rattle.std.proofs.lemmas.Map.Text.{is_eq-slice_cmp}
use Rattle.tariff_core.specs.Bands.{Band, band_at, counts_on, has_band, is_at}
use Rattle.tariff_core.specs.Digits.{text_of_digits}
use Rattle.tariff_core.specs.BandKeys.{by_band_key}
use Rattle.tariff_core.specs.Tariff.{Finds, Indexes, KeepsRow, band_of, key_of}
use Rattle.tariff_core.specs.TariffTable.{repeats}
use Rattle.tariff_core.specs.declared.band_key.BandKey.{BandKey}
use Rattle.tariff_core.specs.declared.row.Row.{Row}
use Rattle.tariff_core.proofs.WeekdayLemmas.{no_weekday, three}

-- ---- the order of keys

pub is_eq-nat_cmp : (s t : ℕ) → is_eq (nat_cmp s t) ≡ (s == t)
is_eq-nat_cmp s t = grind (arith, nat_tests)

is_eq-then : (o p : Ordering) → is_eq (ordering_then o p) ≡ (is_eq o && is_eq p)
is_eq-then Less p = refl
is_eq-then Equal p = refl
is_eq-then Greater p = refl

-- two keys are the same where their digits, their days and their starts are
pub same_band_key : (k q : BandKey) → is_eq (by_band_key k q) ≡ (bytes_eq (text_of_digits k.prefix) (text_of_digits q.prefix) && ((k.day == q.day) && (k.start == q.start)))
same_band_key k q =
    is_eq-then (slice_cmp nat_cmp (text_of_digits k.prefix) (text_of_digits q.prefix)) (ordering_then (nat_cmp k.day q.day) (nat_cmp k.start q.start))
    ∙ rw (is_eq-slice_cmp (text_of_digits k.prefix) (text_of_digits q.prefix), is_eq-then (nat_cmp k.day q.day) (nat_cmp k.start q.start), is_eq-nat_cmp k.day q.day, is_eq-nat_cmp k.start q.start) refl

both_equal : (o p : Ordering) → is_eq (ordering_then o p) ≡ true → (o ≡ Equal) × (is_eq p ≡ true)
both_equal Less p is = cc
both_equal Equal p is = (refl, is)
both_equal Greater p is = cc

equal_is : (o : Ordering) → is_eq o ≡ true → o ≡ Equal
equal_is Less is = cc
equal_is Equal is = refl
equal_is Greater is = cc

pub same_digits : (k q : BandKey) → is_eq (by_band_key k q) ≡ true → (text_of_digits k.prefix ≡ text_of_digits q.prefix) × (k.day ≡ q.day) × (k.start ≡ q.start)
same_digits k q is =
    let one = both_equal (slice_cmp nat_cmp (text_of_digits k.prefix) (text_of_digits q.prefix)) (ordering_then (nat_cmp k.day q.day) (nat_cmp k.start q.start)) is in
    let two = both_equal (nat_cmp k.day q.day) (nat_cmp k.start q.start) one.1 in
    (exact_bytes _ _ one.0, exact_unsigned _ _ two.0, exact_unsigned _ _ (equal_is _ two.1))

-- ---- the day of a key

-- the day of the keys of a weekday
pub record IsKey (by_days : Bool) (weekday day : ℕ) : Type 0 where
  pub low : 1 ≤ weekday
  pub high : weekday ≤ 7
  pub key : day ≡ key_of by_days weekday

-- each day of a key is that of a weekday
pub key_day : (by_days : Bool) (first end day : ℕ) → first ≡ key_of by_days 1 → end ≡ key_of by_days 7 + 1 → first ≤ day → day < end → (weekday : ℕ) × IsKey by_days weekday day
key_day true first end day first_is end_is low high = (day, record { low = omega (arith, first_is); high = omega (arith, end_is); key = refl })
key_day false first end day first_is end_is low high = (1, record { low = omega arith; high = omega arith; key = omega (arith, end_is, high) })

-- what holds of the weekdays before a day of keys, and of those of that day, holds of those before the next
pub one_more : (by_days : Bool) (P : ℕ → Type 0) (day : ℕ) → ((weekday : ℕ) → 1 ≤ weekday → weekday ≤ 7 → key_of by_days weekday < day → P weekday)
    → ((weekday : ℕ) → IsKey by_days weekday day → P weekday) → (weekday : ℕ) → 1 ≤ weekday → weekday ≤ 7 → key_of by_days weekday < day + 1 → P weekday
one_more by_days P day below at weekday low high less = elim (cases_lt (key_of by_days weekday) day) [
  | inl before ↦ below weekday low high before
  | inr behind ↦ at weekday (record { low = low; high = high; key = omega (arith, less, behind) })
]

-- the days of keys end behind that of each weekday
pub key_below : (by_days : Bool) (end weekday : ℕ) → end ≡ key_of by_days 7 + 1 → weekday ≤ 7 → key_of by_days weekday < end
key_below true end weekday is high = omega (arith, is)
key_below false end weekday is high = omega (arith, is)

-- and begin before it
pub key_above : (by_days : Bool) (first weekday : ℕ) → first ≡ key_of by_days 1 → 1 ≤ weekday → first ≤ key_of by_days weekday
key_above true first weekday is low = omega (arith, is)
key_above false first weekday is low = omega (arith, is)

all_count : (days : List ℕ) (one other : ℕ) → days ≡ [] → ((length days == 0) || list_any (λ digit. digit == 48 + one) days) ≡ ((length days == 0) || list_any (λ digit. digit == 48 + other) days)
all_count days one other none = rw none refl

-- a row counts on the day of its key where it counts on the weekday
pub counts_key : (by_days : Bool) (band : Band) (weekday day : ℕ) → (by_days ≡ false → band.days ≡ []) → day ≡ key_of by_days weekday → counts_on day band ≡ counts_on weekday band
counts_key true band weekday day none is = ap (λ d. counts_on d band) is
counts_key false band weekday day none is = all_count band.days day weekday (none refl)

some_map : {X Y : Type 0} (view : X → Y) (found : Option X) → is_some (option_map view found) ≡ is_some found
some_map view None = refl
some_map view (Some x) = refl

-- the index has an entry at a key for a weekday where there is a row
pub finds_at : (by_days : Bool) (index : BTreeMap BandKey Row) (bands : List Band) (band_key : BandKey) (weekday : ℕ) → Indexes by_days index bands → IsKey by_days weekday band_key.day
    → is_some (get by_band_key index band_key) ≡ has_band (text_of_digits band_key.prefix) weekday band_key.start bands
finds_at by_days index bands band_key weekday indexed is =
    sym (some_map band_of (get by_band_key index band_key)) ∙ ap is_some (indexed band_key weekday (record { from_monday = is.low; to_sunday = is.high; key = is.key }))

-- ---- no row

pub indexes_none : (by_days : Bool) (index : BTreeMap BandKey Row) (rows : List Row) → index.entries ≡ [] → rows ≡ [] → Indexes by_days index (map band_of rows)
unfolding band_at
indexes_none by_days index rows empty none q day on = rw (empty, none) refl

-- ---- one row more

append_first : (b : Bool) (first : Band) (now more other : Option Band) → more ≡ (if is_some now then now else other)
    → (if b then Some first else more) ≡ (if is_some (if b then Some first else now) then (if b then Some first else now) else other)
append_first true first now more other is = refl
append_first false first now more other is = is

pub band_at-append : (prefix : List ℕ) (day start : ℕ) (bands : List Band) (band : Band)
    → band_at prefix day start (bands ++ band ∷ [])
    ≡ (if has_band prefix day start bands then band_at prefix day start bands else if is_at prefix day start band then Some band else None)
unfolding band_at
band_at-append prefix day start [] band = refl
band_at-append prefix day start (first ∷ bands) band =
    append_first (is_at prefix day start first) first (band_at prefix day start bands) _ _ (band_at-append prefix day start bands band)

taken : (found : Option Band) (b : Band) → is_some found ≡ false → Some b ≡ (if is_some found then found else Some b)
taken found b none = rw none refl

passed : (found : Option Band) → found ≡ (if is_some found then found else None)
passed None = refl
passed (Some b) = refl

pub same_bytes_is : (xs ys : List ℕ) → bytes_eq xs ys ≡ true → xs ≡ ys
same_bytes_is xs ys is = exact_bytes xs ys (equal_is (slice_cmp nat_cmp xs ys) (is_eq-slice_cmp xs ys ∙ is))

pub same_number_is : (s t : ℕ) → (s == t) ≡ true → s ≡ t
same_number_is s t is = grind (arith, nat_tests)

-- what a row is that was found at a prefix, a weekday and a start
pub at_parts : (prefix : List ℕ) (day start : ℕ) (band : Band) → is_at prefix day start band ≡ true → (band.prefix ≡ prefix) × (band.start ≡ start) × (counts_on day band ≡ true)
at_parts prefix day start band is =
    let parts = three (bytes_eq band.prefix prefix) (band.start == start) (counts_on day band) is in
    (same_bytes_is band.prefix prefix parts.0, same_number_is band.start start parts.1, parts.2)

counted : (counts has : Bool) → (counts && has) ≡ false → counts ≡ true → has ≡ false
counted true has none is = none
counted false has none is = cc

-- on a day on which a row counts, one that isn't a repetition is new
pub not_there : (bands : List Band) (band : Band) (day : ℕ) → 1 ≤ day → day ≤ 7 → repeats bands band ≡ false → counts_on day band ≡ true
    → has_band band.prefix day band.start bands ≡ false
not_there bands band day low high new counts =
    counted (counts_on day band) (has_band band.prefix day band.start bands)
    (no_weekday (λ d. counts_on d band && has_band band.prefix d band.start bands) day low high new) counts

-- the index of the rows and one more, which is new
pub indexes_more : (by_days : Bool) (before after : BTreeMap BandKey Row) (bands : List Band) (row : Row)
    → Indexes by_days before bands → Finds by_days before row after → repeats bands (band_of row) ≡ false
    → Indexes by_days after (bands ++ band_of row ∷ [])
indexes_more by_days before after bands row indexed finds new q day on =
    rw (finds q day on, band_at-append (text_of_digits q.prefix) day q.start bands (band_of row), ← indexed q day on)
    (by_same (is_at (text_of_digits q.prefix) day q.start (band_of row)) refl)
  where
    by_same : (b : Bool) → is_at (text_of_digits q.prefix) day q.start (band_of row) ≡ b
        → option_map band_of (if b then Some row else get by_band_key before q)
        ≡ (if is_some (option_map band_of (get by_band_key before q)) then option_map band_of (get by_band_key before q) else if b then Some (band_of row) else None)
    by_same true is =
        let parts = at_parts (text_of_digits q.prefix) day q.start (band_of row) is in
        let new_there : has_band (text_of_digits q.prefix) day q.start bands ≡ false =
        rw (← parts.0, ← parts.1) (not_there bands (band_of row) day on.from_monday on.to_sunday new parts.2) in
        let none : is_some (option_map band_of (get by_band_key before q)) ≡ false = rw (indexed q day on) new_there in
        taken (option_map band_of (get by_band_key before q)) (band_of row) none
    by_same false is = passed (option_map band_of (get by_band_key before q))

pub rows_more : (old new : List Row) (row : Row) → new ≡ old ++ row ∷ [] → map band_of new ≡ map band_of old ++ band_of row ∷ []
rows_more old new row grown = rw (grown, map-append band_of old (row ∷ [])) refl

pub count_more : (old new : List Row) (row : Row) → new ≡ old ++ row ∷ [] → length new ≡ length old + 1
count_more old new row grown = rw (grown, length-append old (row ∷ [])) refl

pub keeps_indexed : (by_days : Bool) (old new : List Row) (before after : BTreeMap BandKey Row) (row : Row) → Indexes by_days before (map band_of old)
    → KeepsRow by_days old before row new after → repeats (map band_of old) (band_of row) ≡ false → Indexes by_days after (map band_of new)
keeps_indexed by_days old new before after row indexed kept is_new =
    rw (rows_more old new row kept.rows) (indexes_more by_days before after (map band_of old) row indexed kept.index is_new)
