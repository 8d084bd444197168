-- What a reply or a fault may be, whatever the account holds.
use Rattle.std.specs.Prelude.{◌≡◌, ◌≢◌, ◌≤◌, true, false}
use Rattle.account_core.specs.Asked.{Asked, Credits, Reserves, Returns, Settles, is_in_range}
use Rattle.account_core.specs.Ledger.{IsRefusal, Ledger}
use Rattle.account_core.specs.declared.entry.Reply.{Reply}
use Rattle.account_core.specs.declared.entry.Reply.TheVariants as reply
use Rattle.account_core.specs.declared.fault.AccountFault.{AccountFault}
use Rattle.account_core.specs.declared.fault.AccountFault.TheVariants as fault

-- a reply of a kind that the operation has. A grant is of some units, at least the least and at most those wanted
abbrev pub IsReplyTo : Asked → Reply → Type 0
IsReplyTo (Credits amount moment) (reply.Credited available) = Unit {0}
IsReplyTo (Credits amount moment) (reply.CreditOver available) = Unit {0}
IsReplyTo (Reserves call plan wanted least at) (reply.Granted units last available) = (1 ≤ units) × (least ≤ units) × (units ≤ wanted)
IsReplyTo (Reserves call plan wanted least at) (reply.Denied available) = Unit {0}
IsReplyTo (Settles call number info) (reply.Settled paid available) = Unit {0}
IsReplyTo (Settles call number info) (reply.Forfeit paid available) = Unit {0}
IsReplyTo (Returns call) (reply.Returned paid available) = Unit {0}
IsReplyTo asked other = ⊥

-- a Return
abbrev pub IsReturn : Asked → Type 0
IsReturn (Returns call) = Unit {0}
IsReturn asked = ⊥

-- a Settle or a Return, which are of an open call
abbrev pub ClosesCall : Asked → Type 0
ClosesCall (Credits amount moment) = ⊥
ClosesCall (Reserves call plan wanted least at) = ⊥
ClosesCall (Settles call number info) = Unit {0}
ClosesCall (Returns call) = Unit {0}

-- a Reserve, which isn't of a call that was returned
abbrev pub OpensCall : Asked → Type 0
OpensCall (Reserves call plan wanted least at) = Unit {0}
OpensCall asked = ⊥

-- a fault of a kind that the operation has: out of range just where it is, and else none of another operation's
abbrev pub IsFaultOf : Asked → AccountFault → Type 0
IsFaultOf asked fault.OutOfMemory = is_in_range asked ≡ true
IsFaultOf asked fault.HistoryFull = is_in_range asked ≡ true
IsFaultOf asked fault.NotOpen = ClosesCall asked
IsFaultOf asked fault.CallUsed = OpensCall asked × (is_in_range asked ≡ true)
IsFaultOf asked fault.OutOfRange = is_in_range asked ≡ false
IsFaultOf asked fault.GateClosed = Unit {0}

-- what an account refuses an operation with is a fault of a kind that the operation has, and no closed gate
abbrev pub RefusalsAreOfTheirKind : Type 0
RefusalsAreOfTheirKind = (account : Ledger) (asked : Asked) (why : AccountFault) → IsRefusal account asked why → IsFaultOf asked why × (why ≢ fault.GateClosed)
