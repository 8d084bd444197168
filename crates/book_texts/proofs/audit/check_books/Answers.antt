use Rattle.std.proofs.Common.{[], ap, refl, sym, ◌∙◌}
use Rattle.std.specs.Prelude.{⊤}
use Rattle.table_core.specs.Rows.{rows_of}
use Rattle.table_core.proofs.Known.{if_known}
use Rattle.table_core.proofs.TableLemmas.{ended, not_opened, opened, refused, refuses, stopped, taken}
use Rattle.book_texts.specs.Books.{books_form, books_of}
use Rattle.book_texts.specs.Sizes.{most_rows}
use Rattle.book_texts.specs.Versions.{version_at}
use Rattle.book_texts.proofs.CheckLemmas.{checks_given, fault_booked, right_at_first, right_so_far, row_refused, row_taken}
use Rattle.book_texts.proofs.audit.check_books.Goals as goal

pub returns-in_err-table : goal.returns-in_err-table
returns-in_err-table g c =
    fault_booked (most_rows c.args.size) (g.I.Read.remaining c.args.reader) c.from_residual.result c.in_err-table.field-0.0 _ (λ text. books_of (most_rows c.args.size) (rows_of text)) c.from_residual.ensures.1
    (not_opened (books_form (most_rows c.args.size)) g.I.Read.remaining _ c.in_err-table.field-0.0 c.in_err-table.ensures.opens)
    (λ text. refuses (books_form (most_rows c.args.size)) (λ row why. refl) (λ all. all) (λ why. refl) c.in_err-table.field-0.0 (books_of (most_rows c.args.size) (rows_of text)))

pub loop-wrongs-init : goal.loop-wrongs-init
loop-wrongs-init g c =
    let first = rw c.most_rows.ensures at c.in_ok-table.ensures.first in (
      [],
      opened (books_form (most_rows c.args.size)) g.I.Read.remaining _ c.in_ok-table.table first c.in_ok-table.ensures.opens,
      c.new-checks.ensures,
      rw c.new-wrongs.ensures (right_at_first (most_rows c.args.size) g.I.Read.remaining c.in_ok-table.table _ first.number c.in_ok-table.ensures.opens),
      c.of_header-version.ensures ∙ ap version_at c.header.ensures,
    )

pub returns-in_err-next_row : goal.returns-in_err-next_row
returns-in_err-next_row g c =
    let (books, read, are, right, version) = c.loop-wrongs.invariant in
    fault_booked (most_rows c.args.size) (g.I.Read.remaining c.args.reader) c.from_residual-in_err-next_row.result c.in_err-next_row.field-0.0 _ (λ text. books_of (most_rows c.args.size) (rows_of text)) c.from_residual-in_err-next_row.ensures.1
    (stopped (books_form (most_rows c.args.size)) g.I.Read.remaining _ c.loop-wrongs.table c.next_row.new.self books read c.in_err-next_row.field-0.0 c.in_err-next_row.ensures.steps)
    (λ text. refuses (books_form (most_rows c.args.size)) (λ row why. refl) (λ all. all) (λ why. refl) c.in_err-next_row.field-0.0 (books_of (most_rows c.args.size) (rows_of text)))

pub returns-in-Some : goal.returns-in-Some
returns-in-Some g c =
    let (books, read, are, right, version) = c.loop-wrongs.invariant in
    let next = rw c.if-branch.true at c.in_ok-next_row.ensures.moves in
    let came = rw (c.row.ensures, version, c.in-Some.is) at (c.in_ok-kind.ensures.comes books are) in
    rw c.fault.ensures (refused (books_form (most_rows c.args.size)) g.I.Read.remaining _ c.loop-wrongs.table c.next_row.new.self books read c.in-Some.kind
    next (rw c.if-branch.true at c.in_ok-next_row.ensures.steps) (row_refused books _ _ c.in-Some.kind came))

pub loop-wrongs-preserved : goal.loop-wrongs-preserved
loop-wrongs-preserved g c =
    let (books, read, are, right, version) = c.loop-wrongs.invariant in
    let next = rw c.if-branch.true at c.in_ok-next_row.ensures.moves in
    let steps = rw c.if-branch.true at c.in_ok-next_row.ensures.steps in
    let came = rw (c.row.ensures, version, c.in_default.is) at (c.in_ok-kind.ensures.comes books are) in
    let noted = rw (c.row.ensures, version, c.number-number.ensures) at (c.in_ok-kind.ensures.noted books are) in
    let (all, is, all_are) = row_taken books _ _ came in (
      all,
      taken (books_form (most_rows c.args.size)) g.I.Read.remaining _ c.loop-wrongs.table c.next_row.new.self books read all next steps is,
      all_are,
      right_so_far (most_rows c.args.size) g.I.Read.remaining _ c.loop-wrongs.table c.next_row.new.self books all _ _ read.most_rows next steps is noted right,
      version ∙ ap version_at (sym next.same.header),
    )

pub returns : goal.returns
returns g c =
    let (books, read, are, right, version) = c.loop-wrongs.invariant in
    let steps = rw c.if-branch.false at c.in_ok-next_row.ensures.steps in
    let whole = ended (books_form (most_rows c.args.size)) g.I.Read.remaining _ c.loop-wrongs.table c.next_row.new.self books read steps in
    checks_given (most_rows c.args.size) g.I.Read.remaining _ c.loop-wrongs.table c.next_row.new.self books books _ c.loop-wrongs.wrongs _ whole steps c.in_ok-into_list.ensures are.0 right refl

pub returns-in_err-kind : goal.returns-in_err-kind
returns-in_err-kind g c =
    let input = g.I.Read.remaining c.args.reader in
    let stop = c.from_residual-in_err-kind in
    fault_booked (most_rows c.args.size) input stop.result _ (λ text. ⊤) (λ text. books_of (most_rows c.args.size) (rows_of text)) stop.ensures.1
    (if_known input _ (λ text known. tt)) (λ text may. tt)

pub returns-in_err-into_list : goal.returns-in_err-into_list
returns-in_err-into_list g c =
    let input = g.I.Read.remaining c.args.reader in
    let stop = c.from_residual-in_err-into_list in
    fault_booked (most_rows c.args.size) input stop.result _ (λ text. ⊤) (λ text. books_of (most_rows c.args.size) (rows_of text)) stop.ensures.1
    (if_known input _ (λ text known. tt)) (λ text may. tt)
