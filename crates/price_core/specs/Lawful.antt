-- Which times a call may report next.
use Rattle.std.specs.Prelude.{◌+◌, ◌==◌, ◌&&◌, ◌||◌, ℕ, Bool, not, is_some, nat_le}
use Rattle.price_core.specs.Rates.{Rates}
use Rattle.price_core.specs.Times.{Elapsed}

-- neither time falls, a switch stays with the time before it, only a plan with a second rate switches, and no more is talked than was granted
abbrev pub is_lawful : Rates → Elapsed → Elapsed → ℕ → Bool
is_lawful plan old new granted =
    nat_le old.before new.before
    && nat_le old.after new.after
    && (not old.switched || (new.switched && (new.before == old.before)))
    && (not new.switched || is_some plan.after)
    && nat_le (new.before + new.after) granted
