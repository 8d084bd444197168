use Rattle.std.proofs.Common.{◌++◌, List, sym, subst}
use Rattle.std.proofs.lemmas.List.{append-nil, take_all}
use Rattle.account_core.specs.Closed.{Closed}
use Rattle.book_texts.proofs.LineLemmas.{next_lines}
use Rattle.book_texts.specs.RunTexts.{AreLinesOf}
use Rattle.book_texts.proofs.lines.RunLines.add.Goals as goal

pub loop-book-init : goal.loop-book-init
loop-book-init c = λ before are. subst (λ (b : List Closed). AreLinesOf b c.args.self.now) (sym (append-nil before)) are

pub loop-book-preserved : goal.loop-book-preserved
loop-book-preserved c =
    let booked = c.in_ok-summary.ensures in
    λ before are. next_lines before c.args.books.now c.loop-book.book-index c.book-item.result _ _ _ _ _ _ _ c.loop-book-test.true c.book-item.is
    booked.account booked.opening booked.available booked.entries booked.calls c.in_ok-add_one.ensures.accounts c.in_ok-add_one.ensures.calls (c.loop-book.invariant before are)

pub returns : goal.returns
returns c =
    let all = take_all c.loop-book.book-index c.args.books.now c.loop-book-test.false in
    λ before are. subst (λ (b : List Closed). AreLinesOf (before ++ b) c.loop-book.self) all (c.loop-book.invariant before are)
