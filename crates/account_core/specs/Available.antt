-- The credit that an account has left.
use Rattle.std.specs.Prelude.{◌+◌, ◌-◌, ◌&&◌, ℕ, Bool, true, false, List, [], ◌∷◌, if◌then◌else◌, not, is_some, sum_by}
use Rattle.account_core.specs.Asked.{Asked, Credits, call_of}
use Rattle.account_core.specs.Entries.{EntryData}
use Rattle.account_core.specs.Known.{EntryDeed, Grants, deed_of, known, taken_of}
use Rattle.account_core.specs.declared.entry.Reply.{Reply}
use Rattle.account_core.specs.declared.entry.Reply.TheVariants as reply

-- what an entry adds
abbrev pub credited : Asked → Reply → ℕ
credited (Credits amount moment) (reply.Credited available) = amount
credited asked answer = 0

-- the credits that were accepted
abbrev pub credits : List EntryData → ℕ
credits [] = 0
credits (entry ∷ h) = credits h + credited entry.asked entry.reply

-- an entry that grants time
abbrev pub is_grant : EntryDeed → Bool
is_grant (Grants plan units) = true
is_grant deed = false

-- whether an entry is the first grant of its call
abbrev pub begins_call : EntryData → List EntryData → Bool
begins_call entry h = is_grant (deed_of entry.asked entry.reply) && not (is_some (known (call_of entry.asked) h).plan)

-- the calls that were granted anything, each once. The others take nothing
abbrev pub calls : List EntryData → List ℕ
calls [] = []
calls (entry ∷ h) = if begins_call entry h then call_of entry.asked ∷ calls h else calls h

-- what all calls take
unfoldable pub taken_by_all : List EntryData → ℕ
taken_by_all h = sum_by (λ call. taken_of (known call h)) (calls h)

-- the opening and the accepted credits, less what all calls take
unfoldable pub available : ℕ → List EntryData → ℕ
available opening h = opening + credits h - taken_by_all h
