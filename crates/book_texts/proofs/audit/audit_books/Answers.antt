use Rattle.std.proofs.Common.{false, refl, true}
use Rattle.std.proofs.lemmas.Option.{IfSome_then}
use Rattle.table_core.specs.Rows.{rows_of}
use Rattle.book_texts.specs.Books.{books_of}
use Rattle.book_texts.specs.Sizes.{most_rows}
use Rattle.book_texts.proofs.CheckLemmas.{audit_said}
use Rattle.book_texts.proofs.audit.audit_books.Goals as goal

pub returns-then-ask : goal.returns-then-ask
returns-then-ask g c = rw c.if-ask.true (IfSome_then (g.I.Read.remaining c.args.reader) c.in_ok-checked.ensures
    (λ text are. audit_said (most_rows c.args.ask.size) true c.args.ask.rows (rows_of text) c.in_ok-checked.checked c.in_ok-write_sums.field-0 (books_of (most_rows c.args.ask.size) (rows_of text)) refl
    (λ books checks verdicts. c.in_ok-write_sums.ensures (most_rows c.args.ask.size) (rows_of text) books checks verdicts) are))

pub returns : goal.returns
returns g c = rw c.if-ask.false (IfSome_then (g.I.Read.remaining c.args.reader) c.in_ok-checked.ensures
    (λ text are. audit_said (most_rows c.args.ask.size) false c.args.ask.rows (rows_of text) c.in_ok-checked.checked c.in_ok-write_audit.field-0 (books_of (most_rows c.args.ask.size) (rows_of text)) refl
    (λ books checks verdicts. c.in_ok-write_audit.ensures) are))
