use Rattle.std.proofs.Common.{◌≡◌, ◌+◌, drop}
use Rattle.std.specs.Prelude.{map}
use Rattle.tariff_core.specs.Tariff.{band_of}
use Rattle.tariff_core.specs.TariffTable.{without_midnight}
use Rattle.tariff_core.proofs.bands.Bands.without_midnight.Given as goal

-- the rows so far have a row from midnight on
abbrev pub invariant-loop-position : goal.invariant-loop-position
invariant-loop-position l =
    without_midnight l.self 2 l.self ≡ without_midnight l.self (l.position + 2) (map band_of (drop l.position l.row-items))
