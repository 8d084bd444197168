use Rattle.std.proofs.Common.{◌∙◌, length, refl, ap, arith}
use Rattle.csv.specs.Records.{fields_of}
use Rattle.table_core.proofs.TableLemmas.{too_many, wrong_width}
use Rattle.table_core.proofs.table.Table.take_row.Goals as goal

pub returns-then-not-branch-clause-steps : goal.returns-then-not-branch-clause-steps
returns-then-not-branch-clause-steps g c = λ left has. rw c.if-not-branch.true at c.in_ok-next_row.ensures.takes left has.1

pub returns-then-len-self-clause-steps : goal.returns-then-len-self-clause-steps
returns-then-len-self-clause-steps g c = λ left has.
    let (rest, left_are, more) = rw c.if-not-branch.false at c.in_ok-next_row.ensures.takes left has.1 in
    record { fields = _; rest = rest; left_are = left_are; row_is = refl; has = wrong_width c.args.self.now.most_rows c.args.self.now.width _ _ (λ same. c.if-len-self.true (c.len.ensures ∙ ap (λ row. length (fields_of row)) c.row.ensures ∙ same)) }

pub returns-then-self-clause-steps : goal.returns-then-self-clause-steps
returns-then-self-clause-steps g c = λ left has.
    let (rest, left_are, more) = rw c.if-not-branch.false at c.in_ok-next_row.ensures.takes left has.1 in
    record { fields = _; rest = rest; left_are = left_are; row_is = refl; has = too_many c.args.self.now.most_rows c.args.self.now.width _ _ (rw (c.len.ensures, c.row.ensures) at c.if-len-self.false) (omega (arith, c.if-self.true)) }

pub returns-clause-steps : goal.returns-clause-steps
returns-clause-steps g c = λ left has.
    let (rest, left_are, more) = rw c.if-not-branch.false at c.in_ok-next_row.ensures.takes left has.1 in
    (rest, left_are, (has.0, more))
