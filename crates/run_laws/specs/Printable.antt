-- Books that are read back from the table that is printed of them.
use Rattle.std.specs.Prelude.{◌+◌, ◌≤◌, ℕ, List, [], ◌∷◌, length, map, IfSome}
use Rattle.std.specs.List.{All}
use Rattle.std.specs.List.Sorted.{IsStrictlySortedBy}
use Rattle.std.specs.Ordering.{nat_cmp}
use Rattle.book_texts.specs.Fits.{FitsEntry, IsMoment, IsMoney}
use Rattle.account_core.specs.Closed.{Closed}
use Rattle.book_texts.specs.Books.{Booked}

-- each number of a book is in the range of its column
pub record FitsBook (book : Closed) : Type 0 where
  pub account : book.account ≤ 4294967295
  pub opening : IsMoney book.opening
  pub until : IfSome book.until IsMoment
  pub history : All FitsEntry book.history

-- how many rows books have, the header not counted
abbrev pub row_count : List Closed → ℕ
row_count [] = 0
row_count (book ∷ books) = 1 + length book.history + row_count books

-- books of different accounts, by rising number, whose numbers fit, and that have at most so many rows
pub record ArePrintable (most : ℕ) (books : List Closed) : Type 0 where
  pub rising : IsStrictlySortedBy nat_cmp (map (λ book. book.account) books)
  pub fit : All FitsBook books
  pub room : row_count books ≤ most

-- what is booked of the account of a book
abbrev pub account_of_book : Closed → ℕ × Booked
account_of_book book = (book.account, record { opening = book.opening; until = book.until; history = book.history })
