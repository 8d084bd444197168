-- What an account knows of a call, beside what `account_core` says. A history is read newest first.
use Rattle.std.specs.Prelude.{◌==◌, ◌+◌, ◌&&◌, ◌||◌, ℕ, Bool, true, false, Option, Some, None, List, [], ◌∷◌, if◌then◌else◌, is_some, unwrap_or, reverse}
use Rattle.std.specs.List.{find, list_any}
use Rattle.std.specs.Option.{option_or}
use Rattle.account_core.specs.Asked.{Asked, Reserves, call_of}
use Rattle.account_core.specs.Entries.{EntryData}
use Rattle.account_core.specs.Known.{CallFacts, known, paid_if_granted}
use Rattle.account_core.specs.declared.entry.Reply.{Reply}
use Rattle.account_core.specs.declared.entry.Reply.TheVariants as reply
use Rattle.account_core.specs.Closed.{Closed}
use Rattle.run_outputs.specs.declared.standing.Standing.{Standing}

-- whether a Reserve was denied
abbrev pub denies : Asked → Reply → Bool
denies (Reserves call plan wanted least at) (reply.Denied available) = true
denies asked answer = false

-- whether this entry denies a call
abbrev pub denies_call : ℕ → EntryData → Bool
denies_call call entry = call_of entry.asked == call && denies entry.asked entry.reply

-- whether an entry of the history denies the call
abbrev pub is_denied : ℕ → List EntryData → Bool
is_denied call h = list_any (denies_call call) h

-- whether an entry denies the call after it was granted something
abbrev pub is_denied_later : ℕ → List EntryData → Bool
is_denied_later call [] = false
is_denied_later call (entry ∷ h) = denies_call call entry && is_some (known call h).plan || is_denied_later call h

-- whether a grant is the last one, less than was wanted
abbrev pub last_by : Asked → Reply → Option Bool
last_by (Reserves call plan wanted least at) (reply.Granted units last available) = Some last
last_by asked answer = None

-- whether the newest grant of a call is the last one
abbrev pub last_grant : ℕ → List EntryData → Option Bool
last_grant call [] = None
last_grant call (entry ∷ h) = option_or (if call_of entry.asked == call then last_by entry.asked entry.reply else None) (last_grant call h)

-- whether the times of a call are all that was granted
abbrev pub is_used_up : CallFacts → Bool
is_used_up known = known.times.before + known.times.after == known.granted

-- whether a call's credit ended: it was denied after a grant, or its newest grant was the last one and is used up
abbrev pub is_cut : ℕ → List EntryData → Bool
is_cut call h = is_denied_later call h || unwrap_or (last_grant call h) false && is_used_up (known call h)

-- what a history says of a call: its times, what it has paid, whether it was ever granted anything, forfeited, denied, and cut
abbrev pub standing_of : ℕ → List EntryData → Standing
standing_of call h = record {
  times = (known call h).times;
  paid = unwrap_or (paid_if_granted (known call h)) 0;
  granted = is_some (known call h).plan;
  forfeited = (known call h).forfeited;
  denied = is_denied call h;
  cut = is_cut call h;
}

-- the book of an account
abbrev pub book_of : ℕ → List Closed → Option Closed
book_of account books = find (λ book. book.account == account) books

-- the history of a book, newest first, and none without a book
abbrev pub past_in : Option Closed → List EntryData
past_in None = []
past_in (Some book) = reverse book.history

-- the history of the account of a call, newest first, and none where it has no account
abbrev pub past_of : Option ℕ → List Closed → List EntryData
past_of None books = []
past_of (Some account) books = past_in (book_of account books)
