-- What a history says of a call. Here and in all that follows a history is read newest first: `e ∷ h` is the history h followed by the entry e.
use Rattle.std.specs.Prelude.{◌+◌, ◌==◌, ◌&&◌, ℕ, Bool, true, false, Option, Some, None, List, [], ◌∷◌, if◌then◌else◌, not, is_some, unwrap_or}
use Rattle.price_core.specs.Ceiling.{ceiling_of}
use Rattle.price_core.specs.Price.{price_at}
use Rattle.price_core.specs.Rates.{Rates}
use Rattle.price_core.specs.Reading.{times_read}
use Rattle.price_core.specs.Times.{Elapsed, no_times}
use Rattle.price_core.specs.declared.times.TimeInfo.{TimeInfo}
use Rattle.account_core.specs.Asked.{Asked, Credits, Reserves, Settles, Returns, call_of}
use Rattle.account_core.specs.Entries.{EntryData}
use Rattle.account_core.specs.declared.entry.Reply.{Reply}
use Rattle.account_core.specs.declared.entry.Reply.TheVariants as reply

-- what an entry does to its call
pub data EntryDeed : Type 0 where
  Grants : (plan : Rates) (units : ℕ) → EntryDeed
  Reports : (info : TimeInfo) → EntryDeed
  Forfeits : EntryDeed
  Ends : (paid : ℕ) → EntryDeed
  Rests : EntryDeed

-- what an entry does, by what was asked and answered. A Credit, and a Reserve that is denied, change no call
abbrev pub deed_of : Asked → Reply → EntryDeed
deed_of (Reserves call plan wanted least at) (reply.Granted units last available) = Grants plan units
deed_of (Settles call number info) (reply.Settled paid available) = Reports info
deed_of (Settles call number info) (reply.Forfeit paid available) = Forfeits
deed_of (Returns call) (reply.Returned paid available) = Ends paid
deed_of asked answer = Rests

-- what an entry does to this call
unfoldable pub deed : ℕ → EntryData → EntryDeed
deed call entry = if call_of entry.asked == call then deed_of entry.asked entry.reply else Rests

-- the plan of a call's first grant; its times, which its last accepted report states; the time granted in all, which is its times at its last grant and the units of that
-- grant; the most that it can come to pay for them; whether it has a forfeit; whether it was returned; and whether it isn't and no report has come since its last grant
pub record CallFacts : Type 0 where
  pub plan : Option Rates
  pub times : Elapsed
  pub granted : ℕ
  pub top : ℕ
  pub forfeited : Bool
  pub returned : Bool
  pub awaits : Bool

-- a call before any entry
abbrev pub nothing_known : CallFacts
nothing_known = record { plan = None; times = no_times; granted = 0; top = 0; forfeited = false; returned = false; awaits = false }

-- the plan that a grant goes by: the call's first one
abbrev pub plan_in_force : CallFacts → Rates → Rates
plan_in_force known plan = unwrap_or known.plan plan

-- what is known of a call after an entry of it
abbrev pub known_after : CallFacts → EntryDeed → CallFacts
known_after known (Grants plan units) = record {
  plan = Some (plan_in_force known plan);
  times = known.times;
  granted = known.times.before + known.times.after + units;
  top = ceiling_of (plan_in_force known plan) known.times units;
  forfeited = known.forfeited;
  returned = known.returned;
  awaits = true;
}
known_after known (Reports info) = record known { times = unwrap_or (times_read known.times info) known.times; awaits = false }
known_after known Forfeits = record known { forfeited = true; awaits = false }
known_after known (Ends paid) = record known { returned = true; awaits = false }
known_after known Rests = known

-- what a history says of a call
abbrev pub known : ℕ → List EntryData → CallFacts
known call [] = nothing_known
known call (entry ∷ h) = known_after (known call h) (deed call entry)

-- what a history says of the call that is asked for, and nothing at a Credit, which is of none
abbrev pub known_asked : Asked → List EntryData → CallFacts
known_asked (Credits amount moment) h = nothing_known
known_asked asked h = known (call_of asked) h

-- a call is open from its first grant until it is returned
abbrev pub is_open : CallFacts → Bool
is_open known = is_some known.plan && not known.returned

-- the price of a call's times under its plan
abbrev pub price_under : Option Rates → Elapsed → ℕ
price_under None times = 0
price_under (Some plan) times = price_at plan times

-- what a call has paid: all that was held for it after a forfeit, else the price of its times
abbrev pub paid_of : CallFacts → ℕ
paid_of known = if known.forfeited then known.top else price_under known.plan known.times

-- what a call takes of the credit: nothing before its first grant, all that it can come to while it is open, and then what it has paid
abbrev pub taken_under : Option Rates → CallFacts → ℕ
taken_under None known = 0
taken_under (Some plan) known = if known.returned then paid_of known else known.top

-- what a call takes of the credit
unfoldable pub taken_of : CallFacts → ℕ
taken_of known = taken_under known.plan known

-- what a call has paid, where it was granted anything
abbrev pub paid_under : Option Rates → CallFacts → Option ℕ
paid_under None known = None
paid_under (Some plan) known = Some (paid_of known)

-- what a call has paid, where it was ever granted anything
abbrev pub paid_if_granted : CallFacts → Option ℕ
paid_if_granted known = paid_under known.plan known
