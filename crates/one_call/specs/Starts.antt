-- A gsmSSF that was started.
use Rattle.std.specs.Prelude.{◌≡◌, false}
use Rattle.ssf_core.specs.Calls.{View}
use Rattle.ssf_core.specs.Meters.{Meter, Shows}

-- it took no period, none is pending, and no switch is awaited
pub record IsUnpaid (meter : Meter) : Type 0 where
  pub none_granted : meter.granted ≡ 0
  pub none_pending : meter.pending ≡ false
  pub none_awaited : meter.awaited ≡ false

-- a gsmSSF that shows such a meter
abbrev pub IsStarted : View → Type 0
IsStarted view = (meter : Meter) × (Shows view meter × IsUnpaid meter)
