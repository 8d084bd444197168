-- No two rows of a tariff that was read have one prefix and one start on a common day, and each starts within a day.
use Rattle.std.proofs.Common.{◌≡◌, ◌<◌, ◌≤◌, ◌+◌, ◌*◌, ◌++◌, ◌&&◌, ◌⊎◌, ◌∙◌, inl, inr, ℕ, Bool, true, false, true≢false, Option, Some, None, List, [], ◌∷◌, Ok, Err, length, refl, sym, ap, subst, arith}
use Rattle.std.specs.Prelude.{Contains, Result, if◌then◌else◌, nat_le, ok_or}
use Rattle.std.specs.Str.Parse.{digits_value}
use Rattle.std.proofs.lemmas.Bool.Decides.{nat_tests}
use Rattle.std.proofs.lemmas.List.Elements.{All-nil, All-push, Contains-push_cases}
use Rattle.table_core.specs.Decimals.{decimal_of, is_decimal}
use Rattle.table_core.specs.Rows.{Fields}
use Rattle.table_core.specs.Tables.{below, own_fault, rows_from, table_of, then_rows, unless_own, which_header}
use Rattle.table_core.specs.declared.fault.RowKind.{RowKind}
use Rattle.tariff_core.specs.Bands.{Band, counts_on, has_band}
use Rattle.tariff_core.specs.Laws.{IsProper, ReadTariffsAreProper}
use Rattle.tariff_core.specs.TariffTable.{bands_of, complete, complete_by, new_band_in, repeats, tariff_form, time_at, time_of, without_midnight}
use Rattle.tariff_core.specs.declared.tariff_fault.TariffFault.{TariffFault}
use Rattle.tariff_core.specs.declared.tariff_fault.TariffKind.{TariffKind}
use Rattle.tariff_core.specs.declared.tariff_fault.TariffKind.TheVariants as kind
use Rattle.price_core.specs.declared.times.TheConstants.{DAY}
use Rattle.tariff_core.proofs.IndexLemmas.{not_there}
use Rattle.tariff_core.proofs.RangeLemmas.{listed_found}
use Rattle.tariff_core.proofs.TableLemmas.{after_is, read_parts, taken_band}

-- ---- a start

-- a decimal is at most the most that it may be
pub decimal_within : (most : ℕ) (text : List ℕ) (n : ℕ) → decimal_of most text ≡ Some n → n ≤ most
unfolding decimal_of
decimal_within most text n is = by_tests (is_decimal text) (nat_le (digits_value 10 text) most) refl is
  where
    by_tests : (shaped within : Bool) → nat_le (digits_value 10 text) most ≡ within → (if shaped && within then Some (digits_value 10 text) else None) ≡ Some n → n ≤ most
    by_tests true true le read = let same : digits_value 10 text ≡ n = cc read in grind (arith, nat_tests, le, same)
    by_tests true false le read = absurd (cc)
    by_tests false within le read = absurd (cc)

time_within : (hours minutes : Option ℕ) (start : ℕ) → ((h : ℕ) → hours ≡ Some h → h ≤ 23) → ((m : ℕ) → minutes ≡ Some m → m ≤ 59) → time_at hours minutes ≡ Some start → start < 864000
time_within None minutes start hour minute is = absurd (cc)
time_within (Some h) None start hour minute is = absurd (cc)
time_within (Some h) (Some m) start hour minute is =
    let same : (h * 60 + m) * 600 ≡ start = cc is in
    omega (arith, same, hour h refl, minute m refl)

some_time : (shaped : Bool) (hours minutes : Option ℕ) (start : ℕ) → ((h : ℕ) → hours ≡ Some h → h ≤ 23) → ((m : ℕ) → minutes ≡ Some m → m ≤ 59)
    → (if shaped then time_at hours minutes else None) ≡ Some start → start < 864000
some_time true hours minutes start hour minute is = time_within hours minutes start hour minute is
some_time false hours minutes start hour minute is = absurd (cc)

starts_within : (text : List ℕ) (start : ℕ) → time_of text ≡ Some start → start < 864000
unfolding time_of
starts_within text start is = some_time _ _ _ start (decimal_within 23 _) (decimal_within 59 _) is

some_start : (found : Option ℕ) (start : ℕ) → ((s : ℕ) → found ≡ Some s → s < 864000) → ok_or found kind.From ≡ Ok start → start < 864000
some_start None start within is = absurd (cc)
some_start (Some s) start within is = let same : s ≡ start = cc is in subst (λ t. t < 864000) same (within s refl)

-- ---- rows

none_proper : IsProper []
none_proper = record { apart = λ one other on at too prefix start low high counts also. absurd (omega (arith, at.1)); within = All-nil (λ (band : Band). band.start < DAY) }

more_proper : (bands : List Band) (band : Band) → IsProper bands → repeats bands band ≡ false → band.start < 864000 → IsProper (bands ++ band ∷ [])
more_proper bands band proper new day = record {
  apart = λ one other on at too prefix start low high counts also.
      apart one other on (Contains-push_cases bands band one at) (Contains-push_cases bands band other too) prefix start low high counts also;
  within = All-push (λ (b : Band). b.start < DAY) bands band proper.within day;
}
  where
    -- an earlier row that counts on a day of this one has another prefix or another start
    other_place : (one : Band) (on : ℕ) → Contains bands one → one.prefix ≡ band.prefix → one.start ≡ band.start → 1 ≤ on → on ≤ 7 → counts_on on one ≡ true → counts_on on band ≡ true → ⊥
    other_place one on at prefix start low high counts also =
        let there : has_band band.prefix on band.start bands ≡ true =
        ap (λ p. has_band p on band.start bands) (sym prefix) ∙ ap (λ s. has_band one.prefix on s bands) (sym start) ∙ listed_found bands one on at counts in
        true≢false (sym there ∙ not_there bands band on low high new also)

    own_prefix : (one : Band) → band ≡ one → one.prefix ≡ band.prefix
    own_prefix one is = ap (λ (b : Band). b.prefix) (sym is)

    own_start : (one : Band) → band ≡ one → one.start ≡ band.start
    own_start one is = ap (λ (b : Band). b.start) (sym is)

    own_day : (one : Band) (on : ℕ) → band ≡ one → counts_on on one ≡ true → counts_on on band ≡ true
    own_day one on is counts = ap (λ b. counts_on on b) is ∙ counts

    apart : (one other : Band) (on : ℕ) → Contains bands one ⊎ (band ≡ one) → Contains bands other ⊎ (band ≡ other) → one.prefix ≡ other.prefix → one.start ≡ other.start
        → 1 ≤ on → on ≤ 7 → counts_on on one ≡ true → counts_on on other ≡ true → one ≡ other
    apart one other on (inl at) (inl too) prefix start low high counts also = proper.apart one other on at too prefix start low high counts also
    apart one other on (inl at) (inr is) prefix start low high counts also =
        absurd (other_place one on at (prefix ∙ own_prefix other is) (start ∙ own_start other is) low high counts (own_day other on is also))
    apart one other on (inr is) (inl too) prefix start low high counts also =
        absurd (other_place other on too (sym prefix ∙ own_prefix one is) (sym start ∙ own_start one is) low high also (own_day one on is counts))
    apart one other on (inr is) (inr too) prefix start low high counts also = sym is ∙ too

adds_proper : (which : ℕ) (earlier : List Band) (fields : Fields) (read : List Band) → IsProper earlier → tariff_form.judge which earlier fields ≡ Ok read → IsProper read
adds_proper which earlier fields read proper is =
    let (band, new, added) = after_is (new_band_in which earlier fields) _ read is in
    let (is_read, apart) = taken_band which earlier fields band new in
    let day = some_start _ band.start (starts_within _) (read_parts which fields band is_read).0 in
    let all : earlier ++ band ∷ [] ≡ read = cc added in
    subst IsProper all (more_proper earlier band proper apart day)

then_is : (number : ℕ) (own : Option RowKind) (judged : Result (List Band) TariffKind) (next : List Band → Result (List Band) TariffFault) (bands : List Band)
    → then_rows tariff_form number (unless_own tariff_form own judged) next ≡ Ok bands → (read : List Band) × (judged ≡ Ok read) × (next read ≡ Ok bands)
then_is number None (Ok read) next bands is = (read, refl, is)
then_is number None (Err why) next bands is = absurd (cc)
then_is number (Some why) judged next bands is = absurd (cc)

rows_proper : (which width number : ℕ) (earlier : List Band) (rows : List Fields) (bands : List Band) → IsProper earlier → rows_from tariff_form which width number earlier rows ≡ Ok bands → IsProper bands
unfolding rows_from
rows_proper which width number earlier [] bands proper is = let same : earlier ≡ bands = cc is in subst IsProper same proper
rows_proper which width number earlier (fields ∷ rows) bands proper is =
    let (read, judged, later) = then_is number (own_fault tariff_form.most_rows width number fields) (tariff_form.judge which earlier fields) _ bands is in
    rows_proper which width (number + 1) read rows bands (adds_proper which earlier fields read proper judged) later

below_proper : (first : Fields) (rows : List Fields) (which : Option ℕ) (bands : List Band) → below tariff_form first rows which ≡ Ok bands → IsProper bands
below_proper first rows None bands is = absurd (cc)
below_proper first rows (Some which) bands is = rows_proper which (length first) 2 [] rows bands none_proper is

table_proper : (rows : List Fields) (bands : List Band) → bands_of rows ≡ Ok bands → IsProper bands
unfolding table_of
table_proper [] bands is = absurd (cc)
table_proper (first ∷ rows) bands is = below_proper first rows (which_header tariff_form.headers first) bands is

complete_is : (bands read : List Band) (missing : Option ℕ) → complete_by bands missing ≡ Ok read → bands ≡ read
complete_is bands read None is = cc is
complete_is bands read (Some number) is = absurd (cc)

pub read_is_proper : ReadTariffsAreProper
read_is_proper bands (rows, is) =
    let (read, table, whole) = after_is (bands_of rows) complete bands is in
    subst IsProper (complete_is read bands (without_midnight read 2 read) whole) (table_proper rows read table)
