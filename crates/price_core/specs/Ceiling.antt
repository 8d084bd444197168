-- The most that a call can come to pay for what it was granted.
use Rattle.std.specs.Prelude.{◌+◌, ◌==◌, ◌&&◌, ◌||◌, ℕ, Bool, true, false, max, if◌then◌else◌}
use Rattle.std.proofs.Common.{zero, suc}
use Rattle.price_core.specs.Lawful.{is_lawful}
use Rattle.price_core.specs.Price.{price_at}
use Rattle.price_core.specs.Rates.{Rates}
use Rattle.price_core.specs.Times.{Elapsed}

-- the greatest value of a function at 0 to n
unfoldable pub greatest : ℕ → (ℕ → ℕ) → ℕ
greatest zero f = f zero
greatest (suc n) f = max (greatest n f) (f (suc n))

-- whether nothing lies after a switch that wasn't
abbrev pub are_times : Elapsed → Bool
are_times times = times.switched || (times.after == 0)

-- whether a call with these times may come to others, with so much granted in all
abbrev pub may_come : Rates → Elapsed → ℕ → Elapsed → Bool
may_come plan old granted new = are_times new && is_lawful plan old new granted

-- the price of times that a call may come to, and nothing for others
abbrev pub price_if_lawful : Rates → Elapsed → ℕ → Elapsed → ℕ
price_if_lawful plan old granted new = if may_come plan old granted new then price_at plan new else 0

-- the greatest price over all times that are lawful after the old ones, with `more` units granted beyond them
unfoldable pub ceiling_of : Rates → Elapsed → ℕ → ℕ
ceiling_of plan old more =
    let granted = old.before + old.after + more in
    greatest granted (λ before. greatest granted (λ after.
    max (price_if_lawful plan old granted (record { before = before; after = after; switched = false }))
    (price_if_lawful plan old granted (record { before = before; after = after; switched = true }))))
