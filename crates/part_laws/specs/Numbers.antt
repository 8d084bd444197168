-- Without the numbers of items: a settle carries the number of its report's item, which is another in a run that was given fewer items.
use Rattle.std.specs.Prelude.{List, map}
use Rattle.account_core.specs.Asked.{Asked, Credits, Reserves, Settles, Returns}
use Rattle.account_core.specs.Entries.{EntryData}
use Rattle.cap_values.specs.Orders.{orders_in}
use Rattle.run_values.specs.declared.post.Answer.{Answer}
use Rattle.account_core.specs.Closed.{Closed}
use Rattle.runs_core.specs.Handled.{AnswerView}

-- an operation, where a settle has the number 0
abbrev pub unnumbered : Asked → Asked
unnumbered (Credits amount until) = Credits amount until
unnumbered (Reserves call plan wanted least at) = Reserves call plan wanted least at
unnumbered (Settles call number info) = Settles call 0 info
unnumbered (Returns call) = Returns call

-- an entry, so
abbrev pub without_number : EntryData → EntryData
without_number entry = record { seat = entry.seat; asked = unnumbered entry.asked; reply = entry.reply }

-- a history, so
abbrev pub without_numbers : List EntryData → List EntryData
without_numbers history = map without_number history

-- a book, so
abbrev pub unnumbered_book : Closed → Closed
unnumbered_book book =
    record { account = book.account; opening = book.opening; until = book.until; limit = book.limit; history = without_numbers book.history }

-- what an answer says, so
abbrev pub unnumbered_answer : Answer → AnswerView
unnumbered_answer answer = record { number = 0; orders = orders_in answer.instructions; stray = answer.stray; refused = answer.refused }
