use Rattle.std.specs.Prelude.{◌≡◌, IfSome}
use Rattle.table_core.specs.Reading.{room_of}
use Rattle.table_core.proofs.TableLemmas.{IsRead}
use Rattle.book_texts.specs.Books.{Books, books_form}
use Rattle.book_texts.specs.Checks.{HaveChecks}
use Rattle.book_texts.specs.Sizes.{most_rows}
use Rattle.book_texts.specs.Versions.{version_at}
use Rattle.book_texts.proofs.CheckLemmas.{AreRightSoFar}
use Rattle.book_texts.proofs.audit.check_books.Given as goal

-- the checks and the wrong rows are those of the books so far, and the version is that of the header
abbrev pub invariant-loop-wrongs : goal.invariant-loop-wrongs
invariant-loop-wrongs g l =
    (books : Books) × IsRead (books_form (most_rows l.fn.size)) g.I.Read.remaining (g.I.Read.remaining l.fn.reader) l.table books × HaveChecks books l.checks
    × IfSome (g.I.Read.remaining l.fn.reader) (AreRightSoFar (most_rows l.fn.size) g.I.Read.remaining l.table books l.wrongs) × (l.version ≡ version_at l.table.header)

-- a row past the last one that a table may have is refused
abbrev pub decreases-loop-wrongs : goal.decreases-loop-wrongs
decreases-loop-wrongs g l = room_of l.table
