use Rattle.std.proofs.Common.{take}
use Rattle.book_texts.proofs.TextLemmas.{next_item}
use Rattle.run_outputs.proofs.accounts.accounts_in.Goals as goal

pub loop-book-preserved : goal.loop-book-preserved
loop-book-preserved c =
    let books = c.args.books.now in
    let i = c.loop-book.book-index in
    let book = c.book-item.result in
    λ account. rw (next_item books i book c.loop-book-test.true c.book-item.is)
    (c.in_ok-open.ensures (take i books) c.loop-book.invariant account)
