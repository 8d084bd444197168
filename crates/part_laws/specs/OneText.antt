-- The text of books, in words of its own.
use Rattle.std.specs.Prelude.{◌≡◌, ℕ, List}
use Rattle.book_texts.specs.RunTexts.{IsRunText}
use Rattle.account_core.specs.Closed.{Closed}

-- of books there is no more than one text
abbrev pub BooksHaveOneText : Type 0
BooksHaveOneText = (books : List Closed) (one other : List ℕ) → IsRunText books one → IsRunText books other → one ≡ other
