use Rattle.std.proofs.Common.{◌≡◌, drop}
use Rattle.tariff_core.specs.TariffTable.{are_days, rise_from}
use Rattle.tariff_core.proofs.fields.are_days.Given as goal

-- the digits so far rise
abbrev pub invariant-loop-digit : goal.invariant-loop-digit
invariant-loop-digit l = are_days l.text ≡ rise_from l.last (drop l.digit-index l.text)
