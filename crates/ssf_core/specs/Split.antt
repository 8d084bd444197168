-- The split of a stretch at the tariff switch (GSM 03.78).
use Rattle.std.specs.Prelude.{◌-◌, ℕ, Option, Some, None, nat_le, if◌then◌else◌}
use Rattle.price_core.specs.declared.times.TimeInfo.{TimeInfo}
use Rattle.price_core.specs.declared.times.TimeInfo.TheVariants.{NoSwitch, Switch}

-- the stretch from the answer to a moment, where the switch came at its moment, if it came by then: what lies after the switch, and the interval before it, which is left out where the switch came at the answer or before
abbrev pub split : ℕ → Option ℕ → ℕ → TimeInfo
split answer None now = NoSwitch (now - answer)
split answer (Some switch) now =
    if nat_le switch answer then Switch (now - answer) None else Switch (now - switch) (Some (switch - answer))
