-- Books by what each of them is, and what they show of each worker.
use Rattle.std.proofs.Common.{◌≡◌, ◌<◌, ◌+◌, ◌∙◌, ℕ, zero, suc, List, [], ◌∷◌, length, map, refl, ap, sym, subst, arith}
use Rattle.std.specs.Prelude.{All, replicate, slice_index_or}
use Rattle.std.proofs.lemmas.List.{get_or-map, length-map}
use Rattle.std.proofs.lemmas.List.Elements.{All-cons, All-head, All-nil, All-tail}
use Rattle.account_core.specs.Answers.{IsLegal}
use Rattle.account_core.specs.Entries.{EntryData}
use Rattle.account_core.specs.Closed.{Closed}
use Rattle.account_core.specs.Own.{own}
use Rattle.account_core.specs.Refusals.{Knowing, Refusal}
use Rattle.account_core.specs.Seats.{Reads}
use Rattle.account_core.specs.Terms.{Terms}
use Rattle.runs_core.proofs.Columns.{AreEven, column, column_of, even_at, laid, laid_even, laid_many}
use Rattle.runs_core.proofs.Numbers.{numbered_at, teams_even}
use Rattle.runs_core.specs.Closing.{AreBooksOfSeats, AreNumberedFrom, IsInBooks, lists_of, terms_shown}

-- the account of a book at a place was this
record HasStood (Stood : Closed → ℕ → Knowing) (books : List Closed) (place number : ℕ) (mine : List EntryData) (refusal : Refusal) : Type 0 where
  pub book : Closed
  pub within : place < length books
  pub book_is : book ≡ slice_index_or books place book
  pub stood : Stood book number mine refusal

module _ {K S T : Type 0} (read : Reads K T) (Was : T → Knowing) (Stood : Closed → ℕ → Knowing) (terms : S → Terms) where
  pub books_legal : (accounts : List S) (rows : List (List T)) (books : List Closed) → AreBooksOfSeats read Was Stood (map terms accounts) rows books
      → All (λ book. IsLegal book.opening book.until book.history) books
  books_legal [] rows [] are = All-nil (λ book. IsLegal book.opening book.until book.history)
  books_legal [] rows (book ∷ books) are = absurd are
  books_legal (account ∷ accounts) rows [] are = absurd are
  books_legal (account ∷ accounts) [] (book ∷ books) are = absurd are
  books_legal (account ∷ accounts) (row ∷ rows) (book ∷ books) are =
      All-cons (λ book. IsLegal book.opening book.until book.history) book books are.0.legal (books_legal accounts rows books are.2)

  pub books_shown : (workers : ℕ) (accounts : List S) (rows : List (List T)) (books : List Closed) → AreBooksOfSeats read Was Stood (map terms accounts) rows books
      → All (λ account. (terms account).seats ≡ workers) accounts → map (terms_shown workers) books ≡ map terms accounts
  books_shown workers [] rows [] are seats = refl
  books_shown workers [] rows (book ∷ books) are seats = absurd are
  books_shown workers (account ∷ accounts) rows [] are seats = absurd are
  books_shown workers (account ∷ accounts) [] (book ∷ books) are seats = absurd are
  books_shown workers (account ∷ accounts) (row ∷ rows) (book ∷ books) are seats =
      let its : terms_shown workers book ≡ terms account = λ i. record {
        number = are.0.account i;
        opening = are.0.opening i;
        until = are.0.until i;
        limit = are.0.limit i;
        seats = sym (All-head (λ a. (terms a).seats ≡ workers) account accounts seats) i;
      } in
      rw (its, books_shown workers accounts rows books are.2 (All-tail (λ a. (terms a).seats ≡ workers) account accounts seats)) refl

  -- there are no entries but those of the workers
  pub books_owned : (workers : ℕ) (accounts : List S) (rows : List (List T)) (books : List Closed) → AreBooksOfSeats read Was Stood (map terms accounts) rows books → AreEven workers rows
      → All (λ book. All (λ entry. entry.seat < workers) book.history) books
  books_owned workers [] rows [] are even = All-nil (λ book. All (λ entry. entry.seat < workers) book.history)
  books_owned workers [] rows (book ∷ books) are even = absurd are
  books_owned workers (account ∷ accounts) rows [] are even = absurd are
  books_owned workers (account ∷ accounts) [] (book ∷ books) are even = absurd are
  books_owned workers (account ∷ accounts) (row ∷ rows) (book ∷ books) are even =
      let many : length (map read.mine row) ≡ workers = length-map row read.mine ∙ even.0 in
      let its : All (λ entry. entry.seat < workers) book.history = λ k d within. let less = are.0.merged.no_others k d within in omega (arith, less, many) in
      All-cons (λ book. All (λ entry. entry.seat < workers) book.history) book books its (books_owned workers accounts rows books are.2 even.1)

  -- a worker's own entries are those of its seats
  listed : (workers worker : ℕ) → worker < workers → (d : T) (accounts : List S) (rows : List (List T)) (books : List Closed) → AreBooksOfSeats read Was Stood (map terms accounts) rows books → AreEven workers rows
      → length rows ≡ length accounts → lists_of worker books ≡ map read.mine (column d worker rows)
  listed workers worker below d [] [] [] are even many = refl
  listed workers worker below d [] (row ∷ rows) [] are even many = absurd (omega (arith, many))
  listed workers worker below d [] rows (book ∷ books) are even many = absurd are
  listed workers worker below d (account ∷ accounts) rows [] are even many = absurd are
  listed workers worker below d (account ∷ accounts) [] (book ∷ books) are even many = absurd are
  listed workers worker below d (account ∷ accounts) (row ∷ rows) (book ∷ books) are even many =
      let there : worker < length row = omega (arith, below, even.0) in
      let one : own worker book.history ≡ read.mine (slice_index_or row worker d) =
      are.0.merged.each worker (omega (arith, there, length-map row read.mine)) ∙ get_or-map read.mine row worker d [] there in
      rw (one, listed workers worker below d accounts rows books are.2 even.1 (omega (arith, many))) refl

  none_listed : (worker : ℕ) (accounts : List S) (rows : List (List T)) (books : List Closed) → AreBooksOfSeats read Was Stood (map terms accounts) rows books → length accounts ≡ 0
      → lists_of worker books ≡ []
  none_listed worker [] rows [] are none = refl
  none_listed worker [] rows (book ∷ books) are none = absurd are
  none_listed worker (account ∷ accounts) rows books are none = absurd (omega (arith, none))

  -- and the books show what these knew
  stood_at : (accounts : List S) (rows : List (List T)) (books : List Closed) (place worker : ℕ) (seat : T) (mine : List EntryData) (refusal : Refusal) → AreBooksOfSeats read Was Stood (map terms accounts) rows books
      → length rows ≡ length accounts → place < length rows → worker < length (slice_index_or rows place []) → seat ≡ slice_index_or (slice_index_or rows place []) worker seat → Was seat mine refusal
      → HasStood Stood books place (read.number seat) mine refusal
  stood_at accounts [] books place worker seat mine refusal are many within below is was = absurd (omega (arith, within))
  stood_at [] (row ∷ rows) books place worker seat mine refusal are many within below is was = absurd (omega (arith, many))
  stood_at (a ∷ accounts) (row ∷ rows) [] place worker seat mine refusal are many within below is was = absurd are
  stood_at (a ∷ accounts) (row ∷ rows) (book ∷ books) zero worker seat mine refusal are many within below is was =
      let Shows : T → Type 0 = λ t. Was t mine refusal → Stood book (read.number t) mine refusal in
      record { book = book; within = omega (arith); book_is = refl; stood = subst Shows (sym is) (are.1 worker seat below mine refusal) was }
  stood_at (a ∷ accounts) (row ∷ rows) (book ∷ books) (suc place) worker seat mine refusal are many within below is was =
      let there = stood_at accounts rows books place worker seat mine refusal are.2 (omega (arith, many)) (omega (arith, within)) below is was in
      record { book = there.book; within = omega (arith, there.within); book_is = there.book_is; stood = there.stood }

  lists_by : (accounts : List S) (rows : List (List T)) (books : List Closed) (worker : ℕ) (teams : List (List T)) (team : List T) → AreBooksOfSeats read Was Stood (map terms accounts) rows books
      → AreEven (length teams) rows → length rows ≡ length accounts → worker < length teams → ((d : T) → column d worker rows ≡ team) → length team ≡ length accounts
      → lists_of worker books ≡ map read.mine team
  lists_by accounts rows books worker teams [] are high many below its wide = none_listed worker accounts rows books are (sym wide)
  lists_by accounts rows books worker teams (seat ∷ team) are high many below its wide =
      listed (length teams) worker below seat accounts rows books are high many ∙ ap (map read.mine) (its seat)

  pub in_books : (key : S → K) (accounts : List S) (teams rows : List (List T)) (books : List Closed) (worker : ℕ) → rows ≡ laid (replicate (length accounts) []) teams
      → All (λ team. map read.key team ≡ map key accounts) teams → AreNumberedFrom read 0 teams → AreBooksOfSeats read Was Stood (map terms accounts) rows books → worker < length teams
      → IsInBooks read Was Stood books worker (slice_index_or teams worker [])
  in_books key accounts teams rows books worker is keys numbered are below =
      let even = teams_even read.key key accounts teams keys in
      let high : AreEven (length teams) rows = subst (AreEven (length teams)) (sym is) (laid_even (length accounts) teams even) in
      let many : length rows ≡ length accounts = ap length is ∙ laid_many (length accounts) teams in
      let team = slice_index_or teams worker [] in
      let wide : length team ≡ length accounts = even_at (length accounts) teams worker even below in
      let its : (d : T) → column d worker rows ≡ team = λ d. ap (column d worker) is ∙ column_of d (length accounts) worker teams even below in
      record {
        lists = lists_by accounts rows books worker teams team are high many below its wide;
        stood = λ place mine refusal known.
            let d = known.seat in
            let within : place < length rows = omega (arith, known.within, wide, many) in
            let at : d ≡ slice_index_or (slice_index_or rows place []) worker d =
            known.seat_is ∙ ap (λ (t : List T). slice_index_or t place d) (sym (its d)) ∙ get_or-map (λ (row : List T). slice_index_or row worker d) rows place [] d within in
            let there = stood_at accounts rows books place worker d mine refusal are many within (omega (arith, below, even_at (length teams) rows place high within)) at known.was in
            let here : 0 + worker ≡ worker = omega arith in
            let number : read.number d ≡ worker = ap read.number known.seat_is ∙ numbered_at read 0 teams worker numbered below place d known.within ∙ here in
            record { book = there.book; within = there.within; book_is = there.book_is; stood = subst (λ n. Stood there.book n mine refusal) number there.stood };
      }
