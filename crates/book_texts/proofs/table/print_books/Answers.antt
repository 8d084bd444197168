use Rattle.std.proofs.Common.{ap, sym, take, ◌∙◌}
use Rattle.std.proofs.lemmas.List.{take_all}
use Rattle.std.proofs.lemmas.List.Elements.{All-same}
use Rattle.book_texts.proofs.TextLemmas.{all_so_far, one_more}
use Rattle.book_texts.specs.BookTexts.{book_rows, book_text, book_header}
use Rattle.book_texts.specs.Typed.{IsTyped}
use Rattle.book_texts.proofs.table.print_books.Goals as goal

pub loop-book-preserved : goal.loop-book-preserved
unfolding book_text
loop-book-preserved c = (
  rw c.in_ok-write_book.ensures.text
      (one_more (book_rows c.args.version) (book_header c.args.version) _ c.args.books.now c.loop-book.book-index c.book-item.result c.loop-book-test.true c.book-item.is c.loop-book.invariant.0),
  all_so_far IsTyped c.args.books.now c.loop-book.book-index c.book-item.result c.loop-book-test.true c.book-item.is c.loop-book.invariant.1
      c.in_ok-write_book.ensures.typed,
)

pub returns-clause-text : goal.returns-clause-text
returns-clause-text c = c.loop-book.invariant.0 ∙ ap (book_text c.args.version) (take_all c.loop-book.book-index c.args.books.now c.loop-book-test.false)

pub returns-clause-typed : goal.returns-clause-typed
returns-clause-typed c =
    let books = c.args.books.now in
    All-same IsTyped books (take c.loop-book.book-index books) (sym (take_all c.loop-book.book-index books c.loop-book-test.false)) c.loop-book.invariant.1
