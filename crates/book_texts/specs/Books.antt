-- The meaning of a table of books: the opening and the history of each account, or the first fault.
use Rattle.std.specs.Prelude.{ℕ, Option, Some, None, List, [], ◌∷◌, ◌++◌, Result, Ok, Err, codes}
use Rattle.std.specs.BTreeMap.{insert_entry, is_at}
use Rattle.std.specs.Map.{lookup, set_value}
use Rattle.std.specs.Ordering.{nat_cmp}
use Rattle.account_core.specs.Entries.{EntryData}
use Rattle.book_texts.specs.Versions.{version_at}
use Rattle.book_texts.specs.declared.version.Version.{Version}
use Rattle.table_core.specs.Judging.{and_then}
use Rattle.table_core.specs.Tables.{TableForm, table_form, table_of}
use Rattle.table_core.specs.declared.fault.RowFault.{RowFault}
use Rattle.table_core.specs.declared.fault.RowKind.{RowKind}
use Rattle.table_core.specs.declared.fault.RowKind.TheVariants as kind
use Rattle.book_texts.specs.BookRows.{Enters, Opens, RowSaid, columns_in, row_said_in}

-- the opening credit of an account, its last moment, if it has one, and its entries, oldest first
pub record Booked : Type 0 where
  pub opening : ℕ
  pub until : Option ℕ
  pub history : List EntryData

-- what is booked of each account, by rising number
abbrev pub Books : Type 0
Books = List (ℕ × Booked)

-- what was booked of an account so far
abbrev pub account_so_far : ℕ → Books → Option Booked
account_so_far account books = lookup (is_at (nat_cmp account)) books

-- the books with one account more
abbrev pub with_opening : ℕ → ℕ → Option ℕ → Books → Books
with_opening account opening until books = insert_entry nat_cmp books account (record { opening = opening; until = until; history = [] })

-- the books with one entry more of an account
abbrev pub books_with_entry : ℕ → Booked → EntryData → Books → Books
books_with_entry account booked entry books = set_value (is_at (nat_cmp account)) books (record booked { history = booked.history ++ entry ∷ [] })

-- an account opens once
abbrev pub opened : ℕ → ℕ → Option ℕ → Books → Option Booked → Result Books RowKind
opened account opening until books None = Ok (with_opening account opening until books)
opened account opening until books (Some booked) = Err kind.Repeated

-- an account has entries once it is open
abbrev pub entered_in_books : ℕ → EntryData → Books → Option Booked → Result Books RowKind
entered_in_books account entry books None = Err kind.Unknown
entered_in_books account entry books (Some booked) = Ok (books_with_entry account booked entry books)

-- the books after a row that says this
abbrev pub judged_books : Books → RowSaid → Result Books RowKind
judged_books books (Opens account opening until) = opened account opening until books (account_so_far account books)
judged_books books (Enters account entry) = entered_in_books account entry books (account_so_far account books)

-- the books after a row of a table of this version
unfoldable pub book_row_at : Version → Books → List (List ℕ) → Result Books RowKind
book_row_at version books fields = and_then (row_said_in (columns_in version fields)) (judged_books books)

-- `account,seat,op,call,x1,x2,x3,x4,x5,reply,y1,y2,y3`: version 1
abbrev pub first_book_header : List (List ℕ)
first_book_header =
    codes "account" ∷ codes "seat" ∷ codes "op" ∷ codes "call" ∷ codes "x1" ∷ codes "x2" ∷ codes "x3" ∷ codes "x4" ∷ codes "x5"
    ∷ codes "reply" ∷ codes "y1" ∷ codes "y2" ∷ codes "y3" ∷ []

-- the same with `x6` behind `x5`: version 2
abbrev pub second_header : List (List ℕ)
second_header =
    codes "account" ∷ codes "seat" ∷ codes "op" ∷ codes "call" ∷ codes "x1" ∷ codes "x2" ∷ codes "x3" ∷ codes "x4" ∷ codes "x5" ∷ codes "x6"
    ∷ codes "reply" ∷ codes "y1" ∷ codes "y2" ∷ codes "y3" ∷ []

-- the same with `x7` behind `x6`: version 3
abbrev pub third_header : List (List ℕ)
third_header =
    codes "account" ∷ codes "seat" ∷ codes "op" ∷ codes "call" ∷ codes "x1" ∷ codes "x2" ∷ codes "x3" ∷ codes "x4" ∷ codes "x5" ∷ codes "x6" ∷ codes "x7"
    ∷ codes "reply" ∷ codes "y1" ∷ codes "y2" ∷ codes "y3" ∷ []

-- the same with `x8` and `x9` behind `x7`: version 4
abbrev pub fourth_header : List (List ℕ)
fourth_header =
    codes "account" ∷ codes "seat" ∷ codes "op" ∷ codes "call" ∷ codes "x1" ∷ codes "x2" ∷ codes "x3" ∷ codes "x4" ∷ codes "x5" ∷ codes "x6" ∷ codes "x7"
    ∷ codes "x8" ∷ codes "x9" ∷ codes "reply" ∷ codes "y1" ∷ codes "y2" ∷ codes "y3" ∷ []

-- the headers of all versions, the oldest first
abbrev pub books_headers : List (List (List ℕ))
books_headers = first_book_header ∷ second_header ∷ third_header ∷ fourth_header ∷ []

-- at most so many rows; each says something of an account
abbrev pub books_form : ℕ → TableForm Books RowKind RowFault
books_form most = table_form books_headers most [] (λ header. book_row_at (version_at header))

-- the books of a table that may have so many rows
abbrev pub books_of : ℕ → List (List (List ℕ)) → Result Books RowFault
books_of most rows = table_of (books_form most) rows
