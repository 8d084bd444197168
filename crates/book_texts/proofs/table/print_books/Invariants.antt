use Rattle.std.proofs.Common.{◌≡◌, string_bytes, take}
use Rattle.std.specs.List.{All}
use Rattle.book_texts.specs.BookTexts.{book_text}
use Rattle.book_texts.specs.Typed.{IsTyped}
use Rattle.book_texts.proofs.table.print_books.Given as goal

abbrev pub invariant-loop-book : goal.invariant-loop-book
invariant-loop-book l = (string_bytes l.text ≡ book_text l.version (take l.book-index l.books)) × All IsTyped (take l.book-index l.books)
