use Rattle.std.proofs.Common.{◌++◌, List, take}
use Rattle.account_core.specs.Closed.{Closed}
use Rattle.book_texts.specs.RunTexts.{AreLinesOf}
use Rattle.book_texts.proofs.lines.RunLines.add.Given as goal

-- those of the books so far are added
abbrev pub invariant-loop-book : goal.invariant-loop-book
invariant-loop-book l = (before : List Closed) → AreLinesOf before l.fn.self → AreLinesOf (before ++ take l.book-index l.books) l.self
