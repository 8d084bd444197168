-- The last moment of an account's credit: after it nothing new is granted.
use Rattle.std.specs.Prelude.{◌≤◌, ℕ, Bool, false, Option, Some, None, List, [], ◌∷◌, nat_lt}
use Rattle.account_core.specs.Asked.{Asked, Credits, Reserves}
use Rattle.account_core.specs.Entries.{EntryData}
use Rattle.account_core.specs.declared.entry.Reply.{Reply}
use Rattle.account_core.specs.declared.entry.Reply.TheVariants as reply

-- the last moment after an entry: that of a Credit that was added and has one, else as before
abbrev pub last_moment_after : Option ℕ → Asked → Reply → Option ℕ
last_moment_after before (Credits amount (Some moment)) (reply.Credited available) = Some moment
last_moment_after before asked answer = before

-- the last moment after a history: that of the last such Credit, else the opening's, if it has one
abbrev pub last_moment : Option ℕ → List EntryData → Option ℕ
last_moment until [] = until
last_moment until (entry ∷ h) = last_moment_after (last_moment until h) entry.asked entry.reply

-- whether a moment is past the last one. None is, where there is no last moment
abbrev pub is_past : Option ℕ → ℕ → Bool
is_past None at = false
is_past (Some last) at = nat_lt last at

-- an entry that doesn't move the last moment: any but a Credit that was added and has one
abbrev pub LeavesLastMoment : Asked → Reply → Type 0
LeavesLastMoment (Credits amount (Some moment)) (reply.Credited available) = ⊥
LeavesLastMoment asked answer = Unit {0}

-- an entry that grants something was asked at this moment at the latest
abbrev pub GrantsBy : ℕ → Asked → Reply → Type 0
GrantsBy last (Reserves call plan wanted least at) (reply.Granted units shortened available) = at ≤ last
GrantsBy last asked answer = Unit {0}
