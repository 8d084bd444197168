-- The ranges of the times of a run, and of the live service.
use Rattle.std.specs.Prelude.{◌&&◌, Bool, nat_le}
use Rattle.run_values.specs.declared.live.LiveAsk.{LiveAsk}
use Rattle.run_values.specs.declared.options.RunAsk.{RunAsk}
use Rattle.price_core.specs.declared.times.TheConstants.{DAY}

-- 1 ≤ delay ≤ tccd ≤ least ≤ wanted ≤ a day, and 1 ≤ tssf ≤ a day
abbrev pub is_config : RunAsk → Bool
is_config ask =
    nat_le 1 ask.delay && nat_le ask.delay ask.tccd && nat_le ask.tccd ask.least && nat_le ask.least ask.wanted && nat_le ask.wanted DAY
    && nat_le 1 ask.tssf && nat_le ask.tssf DAY

-- 1 ≤ tccd ≤ least ≤ wanted ≤ a day
abbrev pub is_live_config : LiveAsk → Bool
is_live_config ask = nat_le 1 ask.tccd && nat_le ask.tccd ask.least && nat_le ask.least ask.wanted && nat_le ask.wanted DAY
