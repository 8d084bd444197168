-- The rows of a prefix that a range of the index has.
use Rattle.std.proofs.Common.{◌≡◌, ℕ, zero, suc, ◌<◌, ◌≤◌, Bool, true, false, List, [], ◌∷◌, ◌++◌, get_or, Option, Some, None, refl, sym, ap, ◌∙◌, arith, length}
use Rattle.std.specs.Prelude.{◌==◌, ◌&&◌, if◌then◌else◌, is_some, map, option_map, All, Contains, IfNone, IsSome}
use Rattle.std.specs.BTreeMap.{BTreeMap, get}
use Rattle.std.specs.BTreeMap.Range.{IsInRange, IsRangeOf}
use Rattle.std.specs.Cmp.Lexicographic.{slice_cmp}
use Rattle.std.specs.Ordering.{is_eq, is_gt, nat_cmp, ordering_reverse, ordering_then}
use Rattle.std.specs.Str.{bytes_eq}
use Rattle.std.specs.declared.cmp.Ordering.{Ordering}
use Rattle.std.specs.declared.cmp.Ordering.TheVariants.{Less, Equal, Greater}
use Rattle.std.specs.declared.ops.Bound.TheVariants.{Included, Excluded}
use Rattle.std.proofs.Math.ListN.{get_or-map, length-map}
use Rattle.std.proofs.lemmas.Bool.Decides.{nat_tests}
use Rattle.std.proofs.lemmas.Cmp.{nat_list_cmp_total, tied_itself}
use Rattle.std.proofs.lemmas.List.Elements.{All-map, Contains-get_or}
use Rattle.std.proofs.lemmas.Map.Keys.{ge_from_not_lt, le_from_not_gt}
use Rattle.std.proofs.lemmas.Map.Lookups.{exact_bytes, exact_unsigned}
use Rattle.std.proofs.lemmas.Map.Text.{is_eq-slice_cmp}
use Rattle.tariff_core.specs.Bands.{Band, band_at, counts_on, has_band, is_at}
use Rattle.tariff_core.specs.Digits.{text_of_digits}
use Rattle.tariff_core.specs.BandKeys.{by_band_key}
use Rattle.tariff_core.specs.Tariff.{Indexes, IsOn, band_of}
use Rattle.tariff_core.specs.declared.band_key.BandKey.{BandKey}
use Rattle.tariff_core.specs.declared.digits.Digits.{Digits}
use Rattle.tariff_core.specs.declared.row.Row.{Row}
use Rattle.tariff_core.proofs.IndexLemmas.{IsKey, at_parts}

-- ---- rows that a list has

pub same_bytes : (digits : List ℕ) → bytes_eq digits digits ≡ true
same_bytes digits = sym (is_eq-slice_cmp digits digits) ∙ ap is_eq (tied_itself nat_list_cmp_total digits)

same_number : (s : ℕ) → (s == s) ≡ true
same_number s = grind (arith, nat_tests)

-- a row is found by its own prefix and start on a day on which it counts
pub own_band_key : (band : Band) (day : ℕ) → counts_on day band ≡ true → is_at band.prefix day band.start band ≡ true
own_band_key band day counts = all_three (same_bytes band.prefix) (same_number band.start) counts
  where
    all_three : {a b c : Bool} → a ≡ true → b ≡ true → c ≡ true → ((a && b) && c) ≡ true
    all_three one two three = rw (one, two, three) refl

listed_first : (band first : Band) (day : ℕ) (rest : Option Band) → counts_on day band ≡ true → first ≡ band
    → is_some (if is_at band.prefix day band.start first then Some first else rest) ≡ true
listed_first band first day rest counts is =
    let at : is_at band.prefix day band.start first ≡ true = rw is (own_band_key band day counts) in
    rw at refl

listed_later : (at : Bool) (first : Band) (rest : Option Band) → is_some rest ≡ true → is_some (if at then Some first else rest) ≡ true
listed_later true first rest is = refl
listed_later false first rest is = is

-- a row of the list is found by its prefix, a weekday on which it counts, and its start
pub listed_found : (bands : List Band) (band : Band) (day : ℕ) → Contains bands band → counts_on day band ≡ true → has_band band.prefix day band.start bands ≡ true
unfolding band_at
listed_found [] band day (k, below, is) counts = absurd (omega arith)
listed_found (first ∷ bands) band day (zero, below, is) counts = listed_first band first day _ counts is
listed_found (first ∷ bands) band day (suc k, below, is) counts =
    listed_later (is_at band.prefix day band.start first) first _ (listed_found bands band day (k, omega arith, is) counts)

-- a row of the list for a prefix, a weekday and a start
pub record IsListed (bands : List Band) (prefix : List ℕ) (day start : ℕ) (band : Band) : Type 0 where
  pub listed : Contains bands band
  pub own : band.prefix ≡ prefix
  pub starts : band.start ≡ start
  pub counts : counts_on day band ≡ true

listed_with : (first band : Band) (bands : List Band) (prefix : List ℕ) (day start : ℕ) → IsListed bands prefix day start band → IsListed (first ∷ bands) prefix day start band
listed_with first band bands prefix day start is =
    let (k, below, at) = is.listed in record { listed = (suc k, omega arith, at); own = is.own; starts = is.starts; counts = is.counts }

found_first : (at : Bool) (first band : Band) (bands : List Band) (prefix : List ℕ) (day start : ℕ) (rest : Option Band) → is_at prefix day start first ≡ at
    → (rest ≡ Some band → IsListed bands prefix day start band) → (if at then Some first else rest) ≡ Some band → IsListed (first ∷ bands) prefix day start band
found_first true first band bands prefix day start rest at later is =
    let same : first ≡ band = cc in
    let parts = at_parts prefix day start first at in
    record { listed = (0, omega arith, same); own = rw (← same) parts.0; starts = rw (← same) parts.1; counts = rw (← same) parts.2 }
found_first false first band bands prefix day start rest at later is = listed_with first band bands prefix day start (later is)

-- a row that was found is one of the list
pub found_listed : (prefix : List ℕ) (day start : ℕ) (bands : List Band) (band : Band) → band_at prefix day start bands ≡ Some band → IsListed bands prefix day start band
unfolding band_at
found_listed prefix day start [] band is = cc
found_listed prefix day start (first ∷ bands) band is =
    found_first (is_at prefix day start first) first band bands prefix day start (band_at prefix day start bands) refl (found_listed prefix day start bands band) is

Contains-map : (rows : List Row) (row : Row) → Contains rows row → Contains (map band_of rows) (band_of row)
Contains-map rows row (k, below, is) = (k, rw (length-map rows band_of) below, get_or-map band_of rows k row ∙ ap band_of is)

-- what holds of each row of the code holds of each row that they say
pub each_row_at : (rows : List Row) (P : Band → Type 0) → ((k : ℕ) (d : Row) → k < length rows → P (band_of (get_or rows k d))) → All P (map band_of rows)
each_row_at rows P holds = All-map P band_of rows holds

pub each_row : (rows : List Row) (P : Band → Type 0) → ((row : Row) → Contains rows row → P (band_of row)) → All P (map band_of rows)
each_row rows P holds = each_row_at rows P (λ k d below. holds (get_or rows k d) (Contains-get_or rows k d below))

some_seen : {X Y : Type 0} (view : X → Y) (found : Option X) → is_some (option_map view found) ≡ true → IsSome found
some_seen view None is = cc
some_seen view (Some x) is = refl

-- ---- the keys of a prefix

abbrev pub band_key_at : Digits → ℕ → ℕ → BandKey
band_key_at prefix day start = record { prefix = prefix; day = day; start = start }

-- keys of one prefix and one day are in the order of their starts
same_prefix : (k q : BandKey) → text_of_digits k.prefix ≡ text_of_digits q.prefix → k.day ≡ q.day → by_band_key k q ≡ nat_cmp k.start q.start
same_prefix k q same days = rw (same, days, tied_itself nat_list_cmp_total (text_of_digits q.prefix), tied q.day) refl
  where
    tied : (n : ℕ) → nat_cmp n n ≡ Equal
    tied n = grind (arith, nat_tests)

pub forward : (prefix : Digits) (day from to : ℕ) → from ≤ to → is_gt (by_band_key (band_key_at prefix day from) (band_key_at prefix day to)) ≡ false
forward prefix day from to le = rw (same_prefix (band_key_at prefix day from) (band_key_at prefix day to) refl refl) (grind (arith, nat_tests))

ends_equal : (o a b : Ordering) → is_gt (ordering_then o a) ≡ false → ordering_then (ordering_reverse o) b ≡ Less → (o ≡ Equal) × (is_gt a ≡ false) × (b ≡ Less)
ends_equal Less a b low high = cc
ends_equal Equal a b low high = (refl, low, high)
ends_equal Greater a b low high = cc

less_is : (s t : ℕ) → nat_cmp s t ≡ Less → s < t
less_is s t is = grind (arith, nat_tests)

is_less : (s t : ℕ) → s < t → nat_cmp s t ≡ Less
is_less s t below = grind (arith, nat_tests)

back_nat : (s t : ℕ) → nat_cmp t s ≡ ordering_reverse (nat_cmp s t)
back_nat s t = grind (arith, nat_tests)

-- a key of a prefix and a day, from a start on and before another
pub record IsOf (prefix : Digits) (day from to : ℕ) (band_key : BandKey) : Type 0 where
  pub own : text_of_digits band_key.prefix ≡ text_of_digits prefix
  pub on_day : band_key.day ≡ day
  pub from_start : from ≤ band_key.start
  pub to_end : band_key.start < to

module _ (prefix : Digits) (day from to : ℕ) where
  within : (k : BandKey) → IsInRange by_band_key (Included (band_key_at prefix day from)) (Excluded (band_key_at prefix day to)) k → IsOf prefix day from to k
  within k (low, high) =
      let back = nat_list_cmp_total.antisymm (text_of_digits k.prefix) (text_of_digits prefix) in
      let ends = ends_equal (slice_cmp nat_cmp (text_of_digits prefix) (text_of_digits k.prefix)) (ordering_then (nat_cmp day k.day) (nat_cmp from k.start))
      (ordering_then (nat_cmp k.day day) (nat_cmp k.start to)) low (rw back at high) in
      let starts = ends_equal (nat_cmp day k.day) (nat_cmp from k.start) (nat_cmp k.start to) ends.1 (rw (back_nat day k.day) at ends.2) in
      record {
        own = sym (exact_bytes _ _ ends.0);
        on_day = sym (exact_unsigned _ _ starts.0);
        from_start = le_from_not_gt _ _ starts.1;
        to_end = less_is _ _ starts.2;
      }

  into : (k : BandKey) → IsOf prefix day from to k → IsInRange by_band_key (Included (band_key_at prefix day from)) (Excluded (band_key_at prefix day to)) k
  into k is = (
    let above = is.from_start in rw (same_prefix (band_key_at prefix day from) k (sym is.own) (sym is.on_day)) (grind (arith, nat_tests)),
    rw (same_prefix k (band_key_at prefix day to) is.own is.on_day) (is_less k.start to is.to_end),
  )

-- a row of a prefix that counts on a weekday, from a start on and before another
pub record IsRowOf (prefix : Digits) (weekday from to : ℕ) (row : Row) : Type 0 where
  pub own : text_of_digits row.prefix ≡ text_of_digits prefix
  pub counts : counts_on weekday (band_of row) ≡ true
  pub from_start : from ≤ row.start
  pub to_end : row.start < to

module _ (by_days : Bool) (weekday day : ℕ) (keyed : IsKey by_days weekday day) (prefix : Digits) (from to : ℕ) (index : BTreeMap BandKey Row) (rows : List Row) (found : List (BandKey × Row))
    (indexed : Indexes by_days index (map band_of rows))
    (range : IsRangeOf by_band_key (Included (band_key_at prefix day from)) (Excluded (band_key_at prefix day to)) index found) where
  -- where a row is found on the weekday
  abbrev own_band_key_of : Row → BandKey
  own_band_key_of row = band_key_at row.prefix day row.start

  own_of : (row : Row) → IsRowOf prefix weekday from to row → IsOf prefix day from to (own_band_key_of row)
  own_of row is = record { own = is.own; on_day = refl; from_start = is.from_start; to_end = is.to_end }

  is_on : (band_key : BandKey) → band_key.day ≡ day → IsOn by_days weekday band_key
  is_on band_key is = record { from_monday = keyed.low; to_sunday = keyed.high; key = is ∙ keyed.key }

  indexed_found : (row : Row) → Contains rows row → counts_on weekday (band_of row) ≡ true → IsSome (get by_band_key index (own_band_key_of row))
  indexed_found row listed counts =
      some_seen band_of (get by_band_key index (own_band_key_of row))
      (rw (indexed (own_band_key_of row) weekday (is_on (own_band_key_of row) refl)) (listed_found (map band_of rows) (band_of row) weekday (Contains-map rows row listed) counts))

  -- the range has no rows
  pub none_of : found ≡ [] → (row : Row) → Contains rows row → IsRowOf prefix weekday from to row → ⊥
  none_of none row listed is =
      let no = range.5 none (own_band_key_of row) (into prefix day from to (own_band_key_of row) (own_of row is)) in
      let yes = indexed_found row listed is.counts in
      cc

  -- an entry of the range is a row of the prefix
  pub record IsEntry (e : BandKey × Row) : Type 0 where
    pub listed : Contains (map band_of rows) (band_of e.1)
    pub row_of : IsRowOf prefix weekday from to e.1
    pub band_key : IsOf prefix day from to e.0
    pub starts : e.1.start ≡ e.0.start

  entry_of : (e : BandKey × Row) → IsOf prefix day from to e.0 → get by_band_key index e.0 ≡ Some e.1 → IsEntry e
  entry_of e of is =
      let at = found_listed (text_of_digits e.0.prefix) weekday e.0.start (map band_of rows) (band_of e.1) (sym (indexed e.0 weekday (is_on e.0 of.on_day)) ∙ ap (option_map band_of) is) in
      let starts : e.1.start ≡ e.0.start = at.starts in
      record {
        listed = at.listed;
        row_of = record { own = at.own ∙ of.own; counts = at.counts; from_start = omega (arith, starts, of.from_start); to_end = omega (arith, starts, of.to_end) };
        band_key = of;
        starts = starts;
      }

  pub last_is : (e : BandKey × Row) (front : List (BandKey × Row)) → found ≡ front ++ e ∷ [] → IsEntry e
  last_is e front is = let entry = range.3 e front is in entry_of e (within prefix day from to e.0 entry.0) entry.1

  pub last_latest : (e : BandKey × Row) (front : List (BandKey × Row)) → found ≡ front ++ e ∷ [] → (row : Row) → Contains rows row
      → IsRowOf prefix weekday from to row → row.start ≤ e.1.start
  last_latest e front is row listed of =
      let entry = last_is e front is in
      let order = range.4 e front is (own_band_key_of row) (into prefix day from to (own_band_key_of row) (own_of row of)) (indexed_found row listed of.counts) in
      rw entry.starts (ge_from_not_lt e.0.start row.start (rw (same_prefix e.0 (own_band_key_of row) (entry.band_key.own ∙ sym of.own) entry.band_key.on_day) at order))

  pub first_is : (e : BandKey × Row) (rest : List (BandKey × Row)) → found ≡ e ∷ rest → IsEntry e
  first_is e rest is = let entry = rw is at range.1 in entry_of e (within prefix day from to e.0 entry.0) entry.1

  pub first_soonest : (e : BandKey × Row) (rest : List (BandKey × Row)) → found ≡ e ∷ rest → (row : Row) → Contains rows row
      → IsRowOf prefix weekday from to row → e.1.start ≤ row.start
  first_soonest e rest is row listed of =
      let entry = first_is e rest is in
      let order = rw is at range.2 (own_band_key_of row) (into prefix day from to (own_band_key_of row) (own_of row of)) (indexed_found row listed of.counts) in
      rw entry.starts (le_from_not_gt e.0.start row.start (rw (same_prefix e.0 (own_band_key_of row) (entry.band_key.own ∙ sym of.own) entry.band_key.on_day) at order))

pub if_none : {X : Type 0} (answer : Option X) (P : Type 0) → P → IfNone answer P
if_none None P holds = holds
if_none (Some x) P holds = tt
