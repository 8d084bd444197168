-- What a writer holds that passes over what is there already.
use Rattle.std.specs.Prelude.{◌-◌, ℕ, Option, Some, None, List, drop, length, option_and_then, take, if◌then◌else◌}
use Rattle.std.specs.Str.{bytes_eq}
use Rattle.live_answers.specs.declared.skipping.Skipping.{Skipping}

-- a text without these bytes at its end, where it has them
abbrev pub without_end : List ℕ → List ℕ → Option (List ℕ)
without_end end text = if bytes_eq (drop (length text - length end) text) end then Some (take (length text - length end) text) else None

-- known bytes without those at their end, where they have them
abbrev pub in_front_of : List ℕ → Option (List ℕ) → Option (List ℕ)
in_front_of end known = option_and_then (without_end end) known

-- the bytes that a writer has still to pass over
abbrev pub left_of : {L : Type 0} → Skipping L → List ℕ
left_of skipping = skipping.left.now

-- the writer behind them
abbrev pub inner_of : {L : Type 0} → Skipping L → L
inner_of skipping = skipping.inner
