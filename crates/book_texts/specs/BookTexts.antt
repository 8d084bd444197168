-- The table of books.
use Rattle.std.specs.Prelude.{◌||◌, ℕ, Bool, false, List, [], ◌++◌, codes, if◌then◌else◌}
use Rattle.std.specs.Fmt.{decimal}
use Rattle.std.specs.List.{flat_map, list_any}
use Rattle.account_core.specs.Asked.{Asked, Reserves}
use Rattle.account_core.specs.Entries.{EntryData}
use Rattle.price_core.specs.Rates.{has_steps}
use Rattle.account_core.specs.Closed.{Closed}
use Rattle.book_texts.specs.Columns.{Answer, Operation, reply_fields, answer_text, no_answer, opening_columns, operation_of, operation_text}
use Rattle.book_texts.specs.declared.version.Version.{Version}
use Rattle.book_texts.specs.declared.version.Version.TheVariants as version
use Rattle.table_core.specs.Fields.{field_then}

-- a row: the account's number, the seat, what was asked and what was answered
abbrev pub book_row : ℕ → List ℕ → Operation → Answer → List ℕ
book_row account seat operation answer = field_then (decimal account) (field_then seat (operation_text operation ++ answer_text answer))

-- the row that opens an account
abbrev pub opening_row : Version → Closed → List ℕ
opening_row version book = book_row book.account [] (opening_columns version book.opening book.until) no_answer

-- the row of an entry
abbrev pub entry_row : Version → ℕ → EntryData → List ℕ
entry_row version account entry = book_row account (decimal entry.seat) (operation_of version entry.asked) (reply_fields entry.reply)

-- the opening of a book, and its entries
abbrev pub book_rows : Version → Closed → List ℕ
book_rows version book = opening_row version book ++ flat_map (entry_row version book.account) book.history

-- the header of a table of books
abbrev pub book_header : Version → List ℕ
book_header version.Four = codes "account,seat,op,call,x1,x2,x3,x4,x5,x6,x7,x8,x9,reply,y1,y2,y3\n"
book_header version = codes "account,seat,op,call,x1,x2,x3,x4,x5,x6,x7,reply,y1,y2,y3\n"

-- the table of books in version 3 or 4: a header, and the rows of each book in order
unfoldable pub book_text : Version → List Closed → List ℕ
book_text version books = book_header version ++ flat_map (book_rows version) books

-- whether an operation bills in steps: a Reserve whose plan does
abbrev pub asks_steps : Asked → Bool
asks_steps (Reserves call plan wanted least at) = has_steps plan
asks_steps asked = false

-- whether any operation of a history bills in steps
abbrev pub history_has_steps : List EntryData → Bool
history_has_steps history = list_any (λ entry. asks_steps entry.asked) history

-- the version of the table of books: 4 where the tariff has steps or an operation has, else 3
abbrev pub version_of : Bool → List Closed → Version
version_of steps books = if steps || list_any (λ book. history_has_steps book.history) books then version.Four else version.Three
