-- What an account is asked, as plain data.
use Rattle.std.specs.Prelude.{◌≡◌, ◌&&◌, ℕ, Bool, true, Option, nat_le}
use Rattle.price_core.specs.Rates.{Rates}
use Rattle.price_core.specs.declared.times.TimeInfo.{TimeInfo}
use Rattle.price_core.specs.declared.plan.TheConstants.{MAX_MONEY}
use Rattle.price_core.specs.declared.times.TheConstants.{DAY}

-- an operation: money is added, which may give the account another last moment; held for more time of a call, which is asked for at a moment; settled as a report says;
-- and given back. Moments are in units of 100 ms
pub data Asked : Type 0 where
  Credits : (amount : ℕ) (until : Option ℕ) → Asked
  Reserves : (call : ℕ) (plan : Rates) (wanted least at : ℕ) → Asked
  Settles : (call number : ℕ) (info : TimeInfo) → Asked
  Returns : (call : ℕ) → Asked

-- the call of an operation, and 0 where it has none
abbrev pub call_of : Asked → ℕ
call_of (Credits amount moment) = 0
call_of (Reserves call plan wanted least at) = call
call_of (Settles call number info) = call
call_of (Returns call) = call

-- whether an amount is 1 to `MAX_MONEY`, and a time is a day at most
abbrev pub is_in_range : Asked → Bool
is_in_range (Credits amount moment) = nat_le 1 amount && nat_le amount MAX_MONEY
is_in_range (Reserves call plan wanted least at) = nat_le 1 wanted && nat_le wanted DAY && nat_le least DAY
is_in_range (Settles call number info) = true
is_in_range (Returns call) = true

-- an operation that adds money
abbrev pub IsCredit : Asked → Type 0
IsCredit (Credits amount moment) = Unit {0}
IsCredit asked = ⊥

-- an operation of this call
abbrev pub IsOfCall : ℕ → Asked → Type 0
IsOfCall call (Credits amount moment) = ⊥
IsOfCall call (Reserves other plan wanted least at) = other ≡ call
IsOfCall call (Settles other number info) = other ≡ call
IsOfCall call (Returns other) = other ≡ call
