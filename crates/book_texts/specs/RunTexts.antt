-- The lines that a run prints of its books.
use Rattle.std.specs.Prelude.{◌≡◌, ◌==◌, ℕ, Option, List, ◌++◌, codes, length, reverse}
use Rattle.std.specs.Fmt.{decimal}
use Rattle.std.specs.List.{filter, filter_map, flat_map}
use Rattle.std.specs.List.Sorted.{IsNonDecreasingBy}
use Rattle.std.specs.Option.{option_map}
use Rattle.account_core.specs.Available.{available}
use Rattle.account_core.specs.Known.{known}
use Rattle.account_core.specs.Sums.{sum_of}
use Rattle.account_core.specs.declared.call_sum.CallSum.{CallSum}
use Rattle.account_core.specs.declared.call_sum.Fate.{Fate}
use Rattle.account_core.specs.declared.call_sum.Fate.TheVariants as fate
use Rattle.account_core.specs.Closed.{Closed}
use Rattle.book_texts.specs.declared.lines.CallLine.{CallLine}

-- `account A opening O available N entries E`
abbrev pub account_text : ℕ → ℕ → ℕ → ℕ → List ℕ
account_text account opening credit entries =
    codes "account " ++ (decimal account ++ (codes " opening " ++ (decimal opening
    ++ (codes " available " ++ (decimal credit ++ (codes " entries " ++ (decimal entries ++ codes "\n")))))))

-- what an account came to
abbrev pub account_line : Closed → List ℕ
account_line book = account_text book.account book.opening (available book.opening (reverse book.history)) (length book.history)

-- the word for what became of a call
abbrev pub fate_word : Fate → List ℕ
fate_word fate.Holding = codes "holding"
fate_word fate.Returned = codes "returned"
fate_word fate.Forfeit = codes "forfeit"

-- `call C account A paid P WORD`
abbrev pub call_line : CallLine → List ℕ
call_line line =
    codes "call " ++ (decimal line.sum.call ++ (codes " account " ++ (decimal line.account
    ++ (codes " paid " ++ (decimal line.sum.paid ++ (codes " " ++ (fate_word line.sum.fate ++ codes "\n")))))))

-- what a call came to with an account
abbrev pub call_line_of : ℕ → CallSum → CallLine
call_line_of account sum = record { account = account; sum = sum }

-- the line of a call in a book, where the account granted it anything
abbrev pub line_in : ℕ → Closed → Option CallLine
line_in call book = option_map (call_line_of book.account) (sum_of call (known call (reverse book.history)))

-- the lines of a call among these
abbrev pub call_lines_of : ℕ → List CallLine → List CallLine
call_lines_of call lines = filter (λ line. line.sum.call == call) lines

-- the lines of calls in their order: they rise by call, and those of a call are in the order that they had
pub record AreOrdered (listed lines : List CallLine) : Type 0 where
  pub rising : IsNonDecreasingBy (λ line. line.sum.call) lines
  pub each : (call : ℕ) → call_lines_of call lines ≡ call_lines_of call listed

-- the lines of all calls: they rise by call, and those of a call are one of each account that granted it anything, in the order of the books
pub record AreCallLines (books : List Closed) (lines : List CallLine) : Type 0 where
  pub rising : IsNonDecreasingBy (λ line. line.sum.call) lines
  pub each : (call : ℕ) → call_lines_of call lines ≡ filter_map (line_in call) books

-- the text of accounts, and the calls whose lines come behind it
pub record LinesSaid : Type 0 where
  pub accounts : List ℕ
  pub calls : List CallLine

-- these are of books: the lines of the accounts, in the order of the books, and of each call one of each account that granted it anything, in that order too
pub record AreLinesOf (books : List Closed) (said : LinesSaid) : Type 0 where
  pub accounts : said.accounts ≡ flat_map account_line books
  pub calls : (call : ℕ) → call_lines_of call said.calls ≡ filter_map (line_in call) books

-- the lines of the accounts, in the order of the books, and then those of the calls
pub record IsRunText (books : List Closed) (text : List ℕ) : Type 0 where
  pub lines : List CallLine
  pub are : AreCallLines books lines
  pub is : text ≡ flat_map account_line books ++ flat_map call_line lines
