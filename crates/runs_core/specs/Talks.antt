-- The talk of a dialogue with its account: what is asked, what each ask gets, and what is entered.
use Rattle.std.specs.Prelude.{◌≡◌, ◌++◌, ℕ, true, false, Option, Some, None, Ok, Err, List, [], ◌∷◌}
use Rattle.account_core.specs.Asked.{Asked}
use Rattle.account_core.specs.Entries.{EntryData}
use Rattle.account_core.specs.Ledger.{entry_by}
use Rattle.account_core.specs.declared.fault.AccountFault.{AccountFault}
use Rattle.cap_values.specs.Orders.{Order}
use Rattle.dialogue_core.specs.Phases.{Phase, Says, Asks, Sends, Finished}
use Rattle.dialogue_core.specs.Talks.{Got, is_ask, orders_sent_by, talked}

-- the entry of an ask that got a reply
abbrev pub entry_of : ℕ → Says → Got → List EntryData
entry_of seat (Asks asked) (Ok reply) = entry_by seat asked reply ∷ []
entry_of seat (Asks asked) (Err fault) = []
entry_of seat (Sends orders) got = []
entry_of seat Finished got = []

-- the entries of a talk, oldest first: just the asks that got a reply, with those replies
abbrev pub entries_of : ℕ → Says × Phase → List Got → List EntryData
entries_of seat first [] = []
entries_of seat first (got ∷ earlier) = entries_of seat first earlier ++ entry_of seat (talked first earlier).0 got

-- the last fault that an ask got
abbrev pub last_fault : List Got → Option AccountFault
last_fault [] = None
last_fault (Ok reply ∷ earlier) = last_fault earlier
last_fault (Err fault ∷ earlier) = Some fault

-- each of these came to an ask that was pending
abbrev pub AllAsk : Says × Phase → List Got → Type 0
AllAsk first [] = Unit {0}
AllAsk first (got ∷ earlier) = (is_ask (talked first earlier).0 ≡ true) × AllAsk first earlier

-- what shows that an ask got a fault of its account when the seat's own entries were these
abbrev pub Showing : Type 1
Showing = List EntryData → Asked → AccountFault → Type 0

-- what was got for what was said is right, where the seat's own entries were these: a fault is shown to be the account's
abbrev pub IsRightlyGot : Showing → List EntryData → Says → Got → Type 0
IsRightlyGot Shows mine (Asks asked) (Ok reply) = Unit {0}
IsRightlyGot Shows mine (Asks asked) (Err fault) = Shows mine asked fault
IsRightlyGot Shows mine (Sends orders) got = Unit {0}
IsRightlyGot Shows mine Finished got = Unit {0}

-- all that was got in a talk is right, each in its place: there the seat had what it had before the talk, and what the asks had entered until then
abbrev pub AreRightlyGot : Showing → ℕ → Says × Phase → List EntryData → List Got → Type 0
AreRightlyGot Shows seat first before [] = Unit {0}
AreRightlyGot Shows seat first before (got ∷ earlier) =
    IsRightlyGot Shows (before ++ entries_of seat first earlier) (talked first earlier).0 got × AreRightlyGot Shows seat first before earlier

-- a talk from what is said first until no ask is left: where the dialogue is then, what it sends, what the seat has entered, why
-- the account refused an ask last, if it did, and that each refusal was right
pub record IsTalk (Shows : Showing) (seat : ℕ) (first : Says × Phase) (before after : List EntryData) (phase : Phase) (orders : List Order) (refused : Option AccountFault) : Type 0 where
  pub gots : List Got
  pub asked : AllAsk first gots
  pub last : Says
  pub talks : talked first gots ≡ (last, phase)
  pub rests : is_ask last ≡ false
  pub sends : orders ≡ orders_sent_by last
  pub enters : after ≡ before ++ entries_of seat first gots
  pub refuses : refused ≡ last_fault gots
  pub right : AreRightlyGot Shows seat first before gots
