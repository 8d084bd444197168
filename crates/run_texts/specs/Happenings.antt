-- What happens in a run.
use Rattle.std.specs.Prelude.{ℕ, Bool, true, List, Option}
use Rattle.ssf_core.specs.declared.item.BcsmEvent.{BcsmEvent}
use Rattle.run_values.specs.Openings.{expires_in_time}

-- a call starts, between a calling and a called party; a call meets an event; an account is recharged by an amount, and has another last moment if
-- there is one
pub data Happens : Type 0 where
  Starts : ℕ → List ℕ → List ℕ → Happens
  Meets : ℕ → BcsmEvent → Happens
  Recharges : (account amount : ℕ) (until : Option ℕ) → Happens

-- what happens, and its moment in units of 100 ms
pub record RowData : Type 0 where
  pub at : ℕ
  pub what : Happens

-- whether a recharge has a last moment of 0 to `MAX_MOMENT`, if it has one
abbrev pub is_in_time : Happens → Bool
is_in_time (Starts call calling called) = true
is_in_time (Meets call event) = true
is_in_time (Recharges account amount until) = expires_in_time until
