-- The order of the rows of a tariff in its index.
use Rattle.std.specs.Cmp.Lexicographic.{slice_cmp}
use Rattle.std.specs.Ordering.{nat_cmp, on, then_cmp}
use Rattle.std.specs.declared.cmp.Ordering.{Ordering}
use Rattle.tariff_core.specs.Digits.{text_of_digits}
use Rattle.tariff_core.specs.declared.band_key.BandKey.{BandKey}

-- by their prefixes, digit by digit, at one prefix by their days, and on one day by their starts
abbrev pub by_band_key : BandKey → BandKey → Ordering
by_band_key = then_cmp (on (λ p. text_of_digits p.prefix) (slice_cmp nat_cmp)) (then_cmp (on (λ p. p.day) nat_cmp) (on (λ p. p.start) nat_cmp))
