-- The operations whose numbers a row may have, and the entries.
use Rattle.std.specs.Prelude.{◌≤◌, ℕ, IfSome}
use Rattle.account_core.specs.Asked.{Asked, Credits, Reserves, Settles, Returns}
use Rattle.account_core.specs.Entries.{EntryData}
use Rattle.account_core.specs.Laws.{IsReplyInRange}
use Rattle.price_core.specs.Rates.{Rates}
use Rattle.price_core.specs.declared.times.TimeInfo.{TimeInfo}
use Rattle.price_core.specs.declared.times.TimeInfo.TheVariants as info
use Rattle.price_core.specs.declared.plan.TheConstants.{MAX_MONEY}
use Rattle.price_core.specs.declared.plan.TheConstants.{MAX_RATE}
use Rattle.price_core.specs.declared.times.TheConstants.{DAY, HORIZON}

-- a number of 64 bits
abbrev pub IsWide : ℕ → Type 0
IsWide number = number ≤ 18446744073709551615

-- 0 to a day
abbrev pub IsTime : ℕ → Type 0
IsTime units = units ≤ DAY

-- 0 to the largest money
abbrev pub IsMoney : ℕ → Type 0
IsMoney money = money ≤ MAX_MONEY

-- 0 to the largest rate
abbrev pub IsRate : ℕ → Type 0
IsRate rate = rate ≤ MAX_RATE

-- an interval before a switch, or a billing step: some time
abbrev pub IsInterval : ℕ → Type 0
IsInterval interval = (1 ≤ interval) × (interval ≤ DAY)

-- a moment
abbrev pub IsMoment : ℕ → Type 0
IsMoment moment = moment ≤ HORIZON

-- each number of a plan is in its range
pub record FitsPlan (plan : Rates) : Type 0 where
  pub fee : IsRate plan.fee
  pub first : IsRate plan.before
  pub second : IfSome plan.after IsRate
  pub free : IsTime plan.free
  pub least : IsTime plan.first
  pub step : IsInterval plan.step

-- the times of a report fit their columns
abbrev pub FitsReport : TimeInfo → Type 0
FitsReport (info.NoSwitch time) = IsTime time
FitsReport (info.Switch since interval) = IsTime since × IfSome interval IsInterval

-- the numbers of an operation fit their columns
abbrev pub FitsAsked : Asked → Type 0
FitsAsked (Credits amount until) = IsMoney amount × IfSome until IsMoment
FitsAsked (Reserves call plan wanted least at) = IsWide call × FitsPlan plan × IsTime wanted × IsTime least × IsMoment at
FitsAsked (Settles call number report) = IsWide call × IsWide number × FitsReport report
FitsAsked (Returns call) = IsWide call

-- an entry of one of 16 seats
pub record FitsEntry (entry : EntryData) : Type 0 where
  pub seat : entry.seat ≤ 15
  pub asked : FitsAsked entry.asked
  pub reply : IsReplyInRange entry.reply
