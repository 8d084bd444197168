-- The search for a prefix that has no row from midnight on.
use Rattle.std.proofs.Common.{◌≡◌, ℕ, ◌+◌, ◌<◌, ◌≤◌, Bool, true, false, List, [], ◌∷◌, length, get_or, drop, Option, Some, None, refl, ap, ◌∙◌}
use Rattle.std.specs.Prelude.{◌&&◌, if◌then◌else◌, map}
use Rattle.std.specs.List.{list_all}
use Rattle.std.proofs.lemmas.List.{drop_all, drop_more}
use Rattle.tariff_core.specs.Bands.{Band, has_midnights}
use Rattle.tariff_core.specs.Tariff.{band_of}
use Rattle.tariff_core.specs.TariffTable.{without_midnight}
use Rattle.tariff_core.specs.declared.row.Row.{Row}

next_row : (rows : List Row) (i : ℕ) (row : Row) → i < length rows → row ≡ get_or rows i row → map band_of (drop i rows) ≡ band_of row ∷ map band_of (drop (i + 1) rows)
next_row rows i row below is = ap (map band_of) (drop_more rows i row below) ∙ rw (← is) refl

pub goes_on : (all : List Band) (rows : List Row) (i number : ℕ) (row : Row) → i < length rows → row ≡ get_or rows i row
    → has_midnights (band_of row).prefix all ≡ true
    → without_midnight all number (map band_of (drop i rows)) ≡ without_midnight all (number + 1) (map band_of (drop (i + 1) rows))
unfolding without_midnight
goes_on all rows i number row below is has = rw (next_row rows i row below is, has) refl

pub stops_at : (all : List Band) (rows : List Row) (i number : ℕ) (row : Row) → i < length rows → row ≡ get_or rows i row
    → has_midnights (band_of row).prefix all ≡ false → without_midnight all number (map band_of (drop i rows)) ≡ Some number
unfolding without_midnight
stops_at all rows i number row below is none = rw (next_row rows i row below is, none) refl

pub ends : (all : List Band) (rows : List Row) (i number : ℕ) → length rows ≤ i → without_midnight all number (map band_of (drop i rows)) ≡ None
unfolding without_midnight
ends all rows i number past = rw (drop_all i rows past) refl

complete_first : (has : Bool) (rest : Option ℕ) (number : ℕ) (all : Bool) → (rest ≡ None → all ≡ true) → (if has then rest else Some number) ≡ None → (has && all) ≡ true
complete_first true rest number all later none = later none
complete_first false rest number all later none = cc

-- where no such prefix is found, each has one
pub complete_from : (all : List Band) (number : ℕ) (bands : List Band) → without_midnight all number bands ≡ None
    → list_all (λ band. has_midnights band.prefix all) bands ≡ true
unfolding without_midnight
complete_from all number [] none = refl
complete_from all number (band ∷ bands) none =
    complete_first (has_midnights band.prefix all) (without_midnight all (number + 1) bands) number _ (complete_from all (number + 1) bands) none
