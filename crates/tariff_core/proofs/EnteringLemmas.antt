-- A row that comes into the index, day by day.
use Rattle.std.proofs.Common.{◌≡◌, ℕ, ◌+◌, ◌<◌, ◌≤◌, Bool, true, false, [], Some, refl, sym, ap, ◌∙◌, arith}
use Rattle.std.specs.Prelude.{◌==◌, ◌&&◌, if◌then◌else◌, nat_le, nat_lt}
use Rattle.std.specs.BTreeMap.{BTreeMap, Updates, get}
use Rattle.std.specs.Ordering.{is_eq}
use Rattle.std.specs.Str.{bytes_eq}
use Rattle.std.proofs.lemmas.Bool.Decides.{nat_tests}
use Rattle.std.proofs.lemmas.Bool.{and_right, and_from}
use Rattle.tariff_core.specs.Bands.{counts_on, is_at}
use Rattle.tariff_core.specs.Digits.{text_of_digits}
use Rattle.tariff_core.specs.BandKeys.{by_band_key}
use Rattle.tariff_core.specs.Tariff.{Finds, band_of, key_of}
use Rattle.tariff_core.specs.declared.band_key.BandKey.{BandKey}
use Rattle.tariff_core.specs.declared.row.Row.{Row}
use Rattle.tariff_core.proofs.IndexLemmas.{counts_key, key_above, key_below, same_digits, same_number_is, same_band_key}
use Rattle.tariff_core.proofs.RangeLemmas.{own_band_key, band_key_at}

-- whether a key is one of the row on a day from the first to before the end
abbrev pub is_entered : ℕ → ℕ → Row → BandKey → Bool
is_entered first end row band_key = (nat_le first band_key.day && nat_lt band_key.day end) && is_at (text_of_digits band_key.prefix) band_key.day band_key.start (band_of row)

-- the row is found on these days, and nothing else changed
abbrev pub Entered : ℕ → ℕ → BTreeMap BandKey Row → Row → BTreeMap BandKey Row → Type 0
Entered first end before row after = (band_key : BandKey) → get by_band_key after band_key ≡ (if is_entered first end row band_key then Some row else get by_band_key before band_key)

no_day : (first day : ℕ) → (nat_le first day && nat_lt day first) ≡ false
no_day first day = grind (arith, nat_tests)

-- before the first day
pub none_entered : (first : ℕ) (index : BTreeMap BandKey Row) (row : Row) → Entered first first index row index
none_entered first index row band_key = let none = no_day first band_key.day in rw none refl

one_day : (first day on : ℕ) → first ≤ day → day ≡ on → (nat_le first on && nat_lt on (day + 1)) ≡ true
one_day first day on low is = grind (arith, nat_tests, low, is)

no_more : (day on : ℕ) → (day == on) ≡ false → nat_lt on (day + 1) ≡ nat_lt on day
no_more day on is = grind (arith, nat_tests, is)

-- a key that isn't the row's on a day is found behind it as it was before
still : (first day : ℕ) (row : Row) (band_key : BandKey) → ((day == band_key.day) ≡ true → is_at (text_of_digits band_key.prefix) band_key.day band_key.start (band_of row) ≡ false)
    → is_entered first (day + 1) row band_key ≡ is_entered first day row band_key
still first day row band_key not_at = by_day (day == band_key.day) refl
  where
    by_day : (b : Bool) → (day == band_key.day) ≡ b → is_entered first (day + 1) row band_key ≡ is_entered first day row band_key
    by_day true is =
        and_right (nat_le first band_key.day && nat_lt band_key.day (day + 1)) (is_at (text_of_digits band_key.prefix) band_key.day band_key.start (band_of row)) (not_at is)
        ∙ sym (and_right (nat_le first band_key.day && nat_lt band_key.day day) (is_at (text_of_digits band_key.prefix) band_key.day band_key.start (band_of row)) (not_at is))
    by_day false is = ap (λ b. (nat_le first band_key.day && b) && is_at (text_of_digits band_key.prefix) band_key.day band_key.start (band_of row)) (no_more day band_key.day is)

not_same : (bytes day start counts : Bool) → (bytes && (day && start)) ≡ false → day ≡ true → ((bytes && start) && counts) ≡ false
not_same true true start counts is on = rw is refl
not_same true false start counts is on = cc
not_same false day start counts is on = refl

-- a day on which the row counts
pub entered_more : (first day : ℕ) (row : Row) (before now after : BTreeMap BandKey Row) → first ≤ day → counts_on day (band_of row) ≡ true → Entered first day before row now
    → Updates by_band_key now after (band_key_at row.prefix day row.start) (Some row) → Entered first (day + 1) before row after
entered_more first day row before now after low counts so_far updates band_key =
    updates.0 band_key ∙ by_same (is_eq (by_band_key (band_key_at row.prefix day row.start) band_key)) refl
  where
    by_same : (b : Bool) → is_eq (by_band_key (band_key_at row.prefix day row.start) band_key) ≡ b
        → (if b then Some row else get by_band_key now band_key) ≡ (if is_entered first (day + 1) row band_key then Some row else get by_band_key before band_key)
    by_same true is =
        let same = same_digits (band_key_at row.prefix day row.start) band_key is in
        let at : is_at (text_of_digits band_key.prefix) band_key.day band_key.start (band_of row) ≡ true = rw (← same.0, ← same.1, ← same.2) (own_band_key (band_of row) day counts) in
        let there : is_entered first (day + 1) row band_key ≡ true = and_from _ _ (one_day first day band_key.day low same.1) at in
        rw there refl
    by_same false is =
        let other = sym (same_band_key (band_key_at row.prefix day row.start) band_key) ∙ is in
        let as_before = still first day row band_key (λ on. not_same (bytes_eq (text_of_digits row.prefix) (text_of_digits band_key.prefix)) (day == band_key.day) (row.start == band_key.start)
        (counts_on band_key.day (band_of row)) other on) in
        so_far band_key ∙ ap (λ b. if b then Some row else get by_band_key before band_key) (sym as_before)

-- a day on which it doesn't
pub entered_not : (first day : ℕ) (row : Row) (before now : BTreeMap BandKey Row) → counts_on day (band_of row) ≡ false → Entered first day before row now
    → Entered first (day + 1) before row now
entered_not first day row before now counts so_far band_key =
    so_far band_key ∙ ap (λ b. if b then Some row else get by_band_key before band_key) (sym (still first day row band_key (λ on.
    and_right (bytes_eq (text_of_digits row.prefix) (text_of_digits band_key.prefix) && (row.start == band_key.start)) (counts_on band_key.day (band_of row))
    (ap (λ d. counts_on d (band_of row)) (sym (same_number_is day band_key.day on)) ∙ counts))))

within : (first day on : ℕ) → first ≤ on → on < day → (nat_le first on && nat_lt on day) ≡ true
within first day on low high = grind (arith, nat_tests, low, high)

-- all days
pub entered_all : (by_days : Bool) (first end day : ℕ) (row : Row) (before after : BTreeMap BandKey Row) → first ≡ key_of by_days 1 → end ≡ key_of by_days 7 + 1 → end ≤ day
    → (by_days ≡ false → text_of_digits row.days ≡ []) → Entered first day before row after → Finds by_days before row after
entered_all by_days first end day row before after first_is end_is past none entered band_key weekday on =
    entered band_key ∙ ap (λ b. if b then Some row else get by_band_key before band_key) same
  where
    low : first ≤ band_key.day
    low = let above = key_above by_days first weekday first_is on.from_monday in omega (arith, above, on.key)

    high : band_key.day < day
    high = let below = key_below by_days end weekday end_is on.to_sunday in omega (arith, below, on.key, past)

    same : is_entered first day row band_key ≡ is_at (text_of_digits band_key.prefix) weekday band_key.start (band_of row)
    same =
        ap (λ b. b && is_at (text_of_digits band_key.prefix) band_key.day band_key.start (band_of row)) (within first day band_key.day low high)
        ∙ ap (λ b. (bytes_eq (text_of_digits row.prefix) (text_of_digits band_key.prefix) && (row.start == band_key.start)) && b) (counts_key by_days (band_of row) weekday band_key.day none on.key)
