-- The rows of a table of books whose replies are wrong.
use Rattle.std.specs.Prelude.{◌≡◌, ◌+◌, ℕ, List, [], ◌∷◌, ◌++◌, length, Some, Ok, codes, reverse}
use Rattle.std.specs.Fmt.{decimal}
use Rattle.account_core.specs.Answers.{IsLegal}
use Rattle.account_core.specs.Entries.{entry_data}
use Rattle.account_core.specs.Wrong.{IsWrong}
use Rattle.book_texts.specs.Responses.{reply_text, response_text, operation_word}
use Rattle.table_core.specs.Rows.{Fields}
use Rattle.book_texts.specs.Books.{Books, Booked, books_of, account_so_far, books_with_entry}
use Rattle.book_texts.specs.declared.wrong_row.WrongRow.{WrongRow}

-- a row of a table enters an operation of an account, of which the rows above it make a legal history. Its reply isn't what an account answers after that; what one answers is right
pub record IsWrongRow (most : ℕ) (rows : List Fields) (account : ℕ) (wrong : WrongRow) : Type 0 where
  pub above : List Fields
  pub row : Fields
  pub below : List Fields
  pub rows_are : rows ≡ above ++ row ∷ below
  pub number : wrong.row ≡ length above + 1
  pub books : Books
  pub so_far : books_of most above ≡ Ok books
  pub booked : Booked
  pub of_account : account_so_far account books ≡ Some booked
  pub enters : books_of most (above ++ row ∷ []) ≡ Ok (books_with_entry account booked (entry_data wrong.entry) books)
  pub legal : IsLegal booked.opening booked.until booked.history
  pub is_wrong : IsWrong booked.opening booked.until (reverse booked.history) (entry_data wrong.entry) wrong.right

-- `account A row N: OPERATION: REPLY, is REPLY`: the reply of the row, and the right one
abbrev pub wrong_line : ℕ → WrongRow → List ℕ
wrong_line account wrong =
    codes "account " ++ (decimal account ++ (codes " row " ++ (decimal wrong.row ++ (codes ": " ++ (operation_word (entry_data wrong.entry).asked
    ++ (codes ": " ++ (reply_text wrong.entry.reply ++ (codes ", is " ++ (response_text wrong.right ++ codes "\n")))))))))
