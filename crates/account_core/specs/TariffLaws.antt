-- The laws of the tariff that an account rests on.
use Rattle.price_core.specs.Laws.{AffordedAreCovered, AffordedAreWithin, CeilingIsNotPassed, ComingIsTransitive, ComingTimesStand, ReadTimesAre, TimesMayStay}

-- the laws of prices that an account rests on
pub record TariffLaws : Type 0 where
  pub not_passed : CeilingIsNotPassed
  pub within : AffordedAreWithin
  pub covered : AffordedAreCovered
  pub stand : ComingTimesStand
  pub stay : TimesMayStay
  pub follow : ComingIsTransitive
  pub read : ReadTimesAre
