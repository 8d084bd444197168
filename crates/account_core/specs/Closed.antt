-- The book of an account that was closed.
use Rattle.std.specs.Prelude.{◌≡◌, ℕ, Option, List}
use Rattle.account_core.specs.Answers.{IsLegal}
use Rattle.account_core.specs.Entries.{EntryData}
use Rattle.account_core.specs.Own.{IsMerged}
use Rattle.account_core.specs.Terms.{Terms}

-- the account's number, its opening with the last moment of that, if it has one, and its limit; and its history, oldest first
pub record Closed : Type 0 where
  pub account : ℕ
  pub opening : ℕ
  pub until : Option ℕ
  pub limit : ℕ
  pub history : List EntryData

-- the book of an account that was made with these terms, and whose seats have these entries: the history is legal and merges them
pub record IsBookOf (terms : Terms) (lists : List (List EntryData)) (book : Closed) : Type 0 where
  pub account : book.account ≡ terms.number
  pub opening : book.opening ≡ terms.opening
  pub until : book.until ≡ terms.until
  pub limit : book.limit ≡ terms.limit
  pub legal : IsLegal book.opening book.until book.history
  pub merged : IsMerged book.history lists
