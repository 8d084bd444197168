-- What is true of the numbers of a book by their types alone.
use Rattle.std.specs.Prelude.{◌≤◌, length}
use Rattle.std.specs.List.{All}
use Rattle.account_core.specs.Asked.{Asked, Credits, Reserves, Settles, Returns}
use Rattle.account_core.specs.Entries.{EntryData}
use Rattle.book_texts.specs.Fits.{FitsPlan, IsWide}
use Rattle.account_core.specs.Closed.{Closed}

-- a call and the number of a report have 64 bits, and a plan has fees, rates, free units and steps as plans may have them
abbrev pub IsTypedAsked : Asked → Type 0
IsTypedAsked (Credits amount until) = Unit {0}
IsTypedAsked (Reserves call plan wanted least at) = IsWide call × FitsPlan plan
IsTypedAsked (Settles call number report) = IsWide call × IsWide number
IsTypedAsked (Returns call) = IsWide call

-- the same of the operation of an entry
abbrev pub IsTypedEntry : EntryData → Type 0
IsTypedEntry entry = IsTypedAsked entry.asked

-- the number of an account has 32 bits, each entry is as its types have it, and the history keeps within its limit
pub record IsTyped (book : Closed) : Type 0 where
  pub account : book.account ≤ 4294967295
  pub history : All IsTypedEntry book.history
  pub within_limit : length book.history ≤ book.limit
