-- The accounts of a run are closed: what their books show of the workers.
use Rattle.std.specs.Prelude.{◌≡◌, ◌+◌, ◌<◌, ℕ, true, List, [], ◌∷◌, length, map, All, slice_index_or}
use Rattle.account_core.specs.Entries.{EntryData}
use Rattle.account_core.specs.Closed.{Closed, IsBookOf}
use Rattle.account_core.specs.Own.{own}
use Rattle.account_core.specs.Refusals.{IsRefusedAt, Knowing, Refusal}
use Rattle.account_core.specs.Seats.{Reads, are_all}
use Rattle.account_core.specs.Terms.{Terms}
use Rattle.runs_core.specs.Refusals.{WasAt}
use Rattle.runs_core.specs.Talks.{Showing}

-- what a book shows of an account with so many seats: its number, the credit that it was opened with and its last moment, and how many entries it may have
abbrev pub terms_shown : ℕ → Closed → Terms
terms_shown seats book = record { number = book.account; opening = book.opening; until = book.until; limit = book.limit; seats = seats }

-- a worker's own entries in the books, in the order of the books
abbrev pub lists_of : ℕ → List Closed → List (List EntryData)
lists_of worker books = map (λ book. own worker book.history) books

-- a refusal by the account of the book at a place, when a worker's own entries there were these
pub record StoodAt (Stood : Closed → ℕ → Knowing) (books : List Closed) (worker place : ℕ) (mine : List EntryData) (refusal : Refusal) : Type 0 where
  pub book : Closed
  pub within : place < length books
  pub book_is : book ≡ slice_index_or books place book
  pub stood : Stood book worker mine refusal

-- what shows a refusal of a worker in the books of a run: the account of the book at a place has refused the ask with just that fault
abbrev pub refuses_in : (Closed → ℕ → Knowing) → List Closed → ℕ → ℕ → Showing
refuses_in Stood books worker place = IsRefusedAt (StoodAt Stood books worker place)

-- ---- with the seats of the accounts

-- a book shows all that the seats of its account knew
abbrev pub ShowsAll : {K T : Type 0} → Reads K T → (T → Knowing) → (Closed → ℕ → Knowing) → List T → Closed → Type 0
ShowsAll read Was Stood row book = All (λ seat. (mine : List EntryData) (refusal : Refusal) → Was seat mine refusal → Stood book (read.number seat) mine refusal) row

-- these are the books of accounts that were made with these terms and closed with these rows of seats
abbrev pub AreBooksOfSeats : {K T : Type 0} → Reads K T → (T → Knowing) → (Closed → ℕ → Knowing) → List Terms → List (List T) → List Closed → Type 0
AreBooksOfSeats read Was Stood [] rows [] = Unit {0}
AreBooksOfSeats read Was Stood [] rows (book ∷ books) = ⊥
AreBooksOfSeats read Was Stood (terms ∷ accounts) rows [] = ⊥
AreBooksOfSeats read Was Stood (terms ∷ accounts) [] (book ∷ books) = ⊥
AreBooksOfSeats read Was Stood (terms ∷ accounts) (row ∷ rows) (book ∷ books) =
    IsBookOf terms (map read.mine row) book × ShowsAll read Was Stood row book × AreBooksOfSeats read Was Stood accounts rows books

-- each row of seats is of its account
abbrev pub AreSeatsOf : {K T : Type 0} → (T → K) → List K → List (List T) → Type 0
AreSeatsOf key_of [] [] = Unit {0}
AreSeatsOf key_of [] (row ∷ rows) = ⊥
AreSeatsOf key_of (key ∷ keys) [] = ⊥
AreSeatsOf key_of (key ∷ keys) (row ∷ rows) = All (λ seat. key_of seat ≡ key) row × AreSeatsOf key_of keys rows

-- each row of seats' numbers is that of all seats of an account, in order, where the accounts have so many
abbrev pub AreAllThere : List ℕ → List (List ℕ) → Type 0
AreAllThere [] [] = Unit {0}
AreAllThere [] (row ∷ rows) = ⊥
AreAllThere (seats ∷ counts) [] = ⊥
AreAllThere (seats ∷ counts) (row ∷ rows) = (are_all seats row ≡ true) × AreAllThere counts rows

-- the seats that the workers from this number on have left have each its worker's number
abbrev pub AreNumberedFrom : {K T : Type 0} → Reads K T → ℕ → List (List T) → Type 0
AreNumberedFrom read number [] = Unit {0}
AreNumberedFrom read number (team ∷ teams) = All (λ seat. read.number seat ≡ number) team × AreNumberedFrom read (number + 1) teams

-- the books have just the entries of a worker that has left these seats, and show what they knew
pub record IsInBooks {K T : Type 0} (read : Reads K T) (Was : T → Knowing) (Stood : Closed → ℕ → Knowing) (books : List Closed) (worker : ℕ) (team : List T) : Type 0 where
  pub lists : lists_of worker books ≡ map read.mine team
  pub stood : (place : ℕ) (mine : List EntryData) (refusal : Refusal) → WasAt Was team place mine refusal → StoodAt Stood books worker place mine refusal
