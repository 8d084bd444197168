-- What is printed of a moment is read back.
use Rattle.std.specs.Prelude.{◌≡◌, ◌<◌, ◌≤◌, ◌^◌, ℕ, true, List, Some, slice_index}
use Rattle.std.specs.Char.{is_ascii_digit}
use Rattle.table_core.specs.Printed.{IsPlain}
use Rattle.tariff_core.specs.Printing.{moment_text}
use Rattle.tariff_core.specs.Reading.{moment_of}
use Rattle.tariff_core.specs.declared.clock.Clock.{Clock}

-- what a clock prints of a moment is read as that moment
abbrev pub MomentsAreRead : Type 0
MomentsAreRead = (clock : Clock) (most at : ℕ) → most < 2 ^ 64 → at ≤ most → moment_of most (moment_text clock at) ≡ Some at

-- a field needs no quotes, and begins with a digit, so that no table with it in front begins with a byte order mark
pub record IsPlainMoment (text : List ℕ) : Type 0 where
  pub plain : IsPlain text
  pub digit : is_ascii_digit (slice_index text 0) ≡ true

-- what a clock prints of a moment is such a field
abbrev pub MomentsArePlain : Type 0
MomentsArePlain = (clock : Clock) (at : ℕ) → at < 2 ^ 64 → IsPlainMoment (moment_text clock at)
