-- The entries of a history, as plain data.
use Rattle.std.specs.Prelude.{ℕ}
use Rattle.price_core.specs.RatesOf.{rates_of}
use Rattle.account_core.specs.Asked.{Asked, Credits, Reserves, Settles, Returns}
use Rattle.account_core.specs.declared.entry.Entry.{Entry}
use Rattle.account_core.specs.declared.entry.Op.{Op}
use Rattle.account_core.specs.declared.entry.Op.TheVariants as op
use Rattle.account_core.specs.declared.entry.Reply.{Reply}

-- what was asked by which seat, and the reply to it
pub record EntryData : Type 0 where
  pub seat : ℕ
  pub asked : Asked
  pub reply : Reply

-- what an operation of the code asks
abbrev pub asked_of : Op → Asked
asked_of (op.Credit amount until) = Credits amount until
asked_of (op.Reserve call plan wanted least at) = Reserves call (rates_of plan) wanted least at
asked_of (op.Settle call number info) = Settles call number info
asked_of (op.Return call) = Returns call

-- what an entry of the code says
abbrev pub entry_data : Entry → EntryData
entry_data entry = record { seat = entry.seat; asked = asked_of entry.op; reply = entry.reply }
