-- Numbers as the code keeps them: 32 bits, of which the greatest stands for all above it.
use Rattle.std.specs.Prelude.{ℕ, min}
use Rattle.run_values.specs.declared.live.LiveAsk.{LiveAsk}
use Rattle.run_values.specs.declared.options.RunAsk.{RunAsk}

-- a number in 32 bits, of which the greatest stands for all above it
abbrev pub capped : ℕ → ℕ
capped number = min number 4294967295

-- an ask whose numbers are capped
abbrev pub capped_ask : RunAsk → RunAsk
capped_ask ask = record ask { wanted = capped ask.wanted; least = capped ask.least; tssf = capped ask.tssf; tccd = capped ask.tccd; delay = capped ask.delay }

-- the same of what the live service is asked for
abbrev pub capped_live_ask : LiveAsk → LiveAsk
capped_live_ask ask = record ask { wanted = capped ask.wanted; least = capped ask.least; tccd = capped ask.tccd }
