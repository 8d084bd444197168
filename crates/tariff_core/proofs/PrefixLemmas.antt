-- The longest prefix of the table that a called number begins with.
use Rattle.std.proofs.Common.{◌≡◌, ℕ, ◌+◌, ◌-◌, ◌/◌, ◌%◌, ◌<◌, ◌≤◌, Bool, true, false, List, length, get_or, take, drop, min, Option, Some, None, refl, sym, ap, subst, ◌∙◌, inl, inr, arith, length-take, length-append}
use Rattle.std.proofs.Math.Seq.{take-append_seam}
use Rattle.std.proofs.lemmas.List.{take-append-drop}
use Rattle.std.specs.Prelude.{is_some, All, Contains, IfNone, IsSome}
use Rattle.std.proofs.lemmas.Bool.{cases_lt, true_from_ne_false}
use Rattle.std.proofs.lemmas.List.Elements.{All-contains, Contains-get_or}
use Rattle.std.proofs.lemmas.List.Folds.{list_all_at}
use Rattle.tariff_core.specs.Bands.{Band, band_at, counts_on, has_band, has_midnights, weekday}
use Rattle.tariff_core.specs.Routes.{BeginsWith, HasNoRoute, IsPrefixFor}
use Rattle.tariff_core.specs.Tariff.{AreNoLonger, is_complete, key_of}
use Rattle.tariff_core.specs.declared.row.Row.{Row}
use Rattle.price_core.specs.declared.times.TheConstants.{DAY}
use Rattle.tariff_core.proofs.IndexLemmas.{IsKey}
use Rattle.tariff_core.proofs.RangeLemmas.{IsListed, found_listed}
use Rattle.tariff_core.proofs.WeekdayLemmas.{each_weekday}

-- ---- the row of a prefix from midnight on

pub weekday_within : (moment : ℕ) → (1 ≤ weekday moment) × (weekday moment ≤ 7)
weekday_within moment = within (moment / DAY)
  where
    within : (days : ℕ) → (1 ≤ (days + 3) % 7 + 1) × ((days + 3) % 7 + 1 ≤ 7)
    within days = (omega arith, omega arith)

-- the day of the keys of a moment
pub keyed_at : (by_days : Bool) (now on day : ℕ) → on ≡ weekday now → day ≡ key_of by_days on → IsKey by_days (weekday now) day
keyed_at by_days now on day on_is day_is =
    let (low, high) = weekday_within now in record { low = low; high = high; key = day_is ∙ ap (key_of by_days) on_is }

listed_at : (bands : List Band) (prefix : List ℕ) (day start : ℕ) (found : Option Band) → band_at prefix day start bands ≡ found → is_some found ≡ true
    → (band : Band) × IsListed bands prefix day start band
listed_at bands prefix day start None is has = cc
listed_at bands prefix day start (Some band) is has = (band, found_listed prefix day start bands band is)

pub has_listed : (bands : List Band) (prefix : List ℕ) (day start : ℕ) → has_band prefix day start bands ≡ true → (band : Band) × IsListed bands prefix day start band
has_listed bands prefix day start has = listed_at bands prefix day start (band_at prefix day start bands) refl has

-- a prefix with a row from midnight on, on each weekday, has one at each moment
pub some_latest : (bands : List Band) (prefix : List ℕ) (now : ℕ) (answer : Option Row) → has_midnights prefix bands ≡ true
    → IfNone answer (All (λ band. band.prefix ≡ prefix → counts_on (weekday now) band ≡ true → now % DAY < band.start) bands) → IsSome answer
some_latest bands prefix now (Some row) has none = refl
some_latest bands prefix now None has none =
    let (from_monday, to_sunday) = weekday_within now in
    let at = each_weekday (λ day. has_band prefix day 0 bands) (weekday now) from_monday to_sunday has in
    let (band, is) = has_listed bands prefix (weekday now) 0 at in
    let later : now % DAY < band.start = All-contains (λ b. b.prefix ≡ prefix → counts_on (weekday now) b ≡ true → now % DAY < b.start) bands band none is.listed is.own is.counts in
    absurd (omega (arith, is.starts))

-- ---- prefixes of a called number

begins_take : (called prefix : List ℕ) → BeginsWith called prefix → take (length prefix) called ≡ prefix
begins_take called prefix (rest, is) = rw is (take-append_seam prefix rest)

begins_fits : (called prefix : List ℕ) → BeginsWith called prefix → length prefix ≤ length called
begins_fits called prefix (rest, is) = omega (arith, ap length is ∙ length-append prefix rest)

-- each row's prefix that fits is at most this long
abbrev pub NoneLonger : List Band → List ℕ → ℕ → Type 0
NoneLonger bands called most = All (λ band. BeginsWith called band.prefix → length band.prefix ≤ most) bands

pub none_longer_first : (bands : List Band) (called : List ℕ) (longest most : ℕ) → AreNoLonger longest bands → most ≡ min (length called) longest → NoneLonger bands called most
none_longer_first bands called longest most no_longer is k d below begins =
    let fits = begins_fits called _ begins in
    let short = no_longer k d below in omega (arith, fits, short)

complete_at : (bands : List Band) (band : Band) → is_complete bands ≡ true → Contains bands band → has_midnights band.prefix bands ≡ true
complete_at bands band complete (k, below, is) =
    true_from_ne_false (has_midnights band.prefix bands) (λ no.
    let none = list_all_at (λ b. has_midnights b.prefix bands) bands k band below (rw is no) in
    let both : true ≡ false = sym complete ∙ none in cc)

-- a prefix that has a row from midnight on, on Mondays, has one on each weekday
pub complete_prefix : (bands : List Band) (prefix : List ℕ) → is_complete bands ≡ true → has_band prefix 1 0 bands ≡ true → has_midnights prefix bands ≡ true
complete_prefix bands prefix complete has =
    let (band, is) = has_listed bands prefix 1 0 has in
    let all : has_midnights band.prefix bands ≡ true = complete_at bands band complete is.listed in
    subst (λ p. has_midnights p bands ≡ true) is.own all

pub is_longest : (bands : List Band) (called prefix : List ℕ) (most : ℕ) → prefix ≡ take most called → most ≤ length called → has_band prefix 1 0 bands ≡ true
    → NoneLonger bands called most → IsPrefixFor bands called prefix
is_longest bands called prefix most is within has none =
    let (band, found) = has_listed bands prefix 1 0 has in
    let (place, below, at) = found.listed in
    let count : length prefix ≡ min most (length called) = ap length is ∙ length-take most called in
    record {
      listed = (place, band, below, at, found.own);
      begins = (drop most called, rw is (sym (take-append-drop most called)));
      longest = λ k d inside begins. let le = none k d inside begins in omega arith;
    }

-- no row's prefix is one that isn't in the table
absent : (bands : List Band) (called prefix : List ℕ) (most : ℕ) → prefix ≡ take most called → is_complete bands ≡ true → has_band prefix 1 0 bands ≡ false
    → (band : Band) → Contains bands band → BeginsWith called band.prefix → length band.prefix ≡ most → ⊥
absent bands called prefix most is complete none band listed begins long =
    let same : band.prefix ≡ prefix = sym (begins_take called band.prefix begins) ∙ ap (λ n. take n called) long ∙ sym is in
    let all : has_midnights prefix bands ≡ true = subst (λ p. has_midnights p bands ≡ true) same (complete_at bands band complete listed) in
    let has : has_band prefix 1 0 bands ≡ true = each_weekday (λ day. has_band prefix day 0 bands) 1 (omega arith) (omega arith) all in
    let both : true ≡ false = sym has ∙ none in cc

pub none_longer_next : (bands : List Band) (called prefix : List ℕ) (most : ℕ) → prefix ≡ take most called → is_complete bands ≡ true
    → has_band prefix 1 0 bands ≡ false → NoneLonger bands called most → NoneLonger bands called (most - 1)
none_longer_next bands called prefix most is complete none longer k d below begins =
    let le = longer k d below begins in
    let other = absent bands called prefix most is complete none (get_or bands k d) (Contains-get_or bands k d below) begins in
    elim (cases_lt (length (get_or bands k d).prefix) most) [
      | inl less ↦ omega arith
      | inr more ↦ absurd (other (omega arith))
    ]

pub no_route : (bands : List Band) (called prefix : List ℕ) (most : ℕ) → prefix ≡ take most called → is_complete bands ≡ true
    → has_band prefix 1 0 bands ≡ false → NoneLonger bands called most → most ≡ 0 → HasNoRoute bands called
no_route bands called prefix most is complete none longer last k d below begins =
    let le = longer k d below begins in
    absent bands called prefix most is complete none (get_or bands k d) (Contains-get_or bands k d below) begins (omega arith)
