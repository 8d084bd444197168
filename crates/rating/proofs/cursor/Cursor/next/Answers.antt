use Rattle.std.proofs.Common.{◌∙◌, Some}
use Rattle.rating.proofs.PassLemmas.{first_mark, not_first, not_second, not_third, second_mark, third_mark}
use Rattle.rating.specs.declared.call.TheConstants.{MAX_SHOWN}
use Rattle.rating.proofs.cursor.Cursor.next.Goals as goal

pub returns-in-Start-eq239 : goal.returns-in-Start-eq239
returns-in-Start-eq239 c = λ rest. rw (c.in-Start-eq239.is-0, c.in-Start-eq239.is-1) (first_mark rest)

pub returns-in-FirstMark-eq187 : goal.returns-in-FirstMark-eq187
returns-in-FirstMark-eq187 c = λ rest. rw (c.in-FirstMark-eq187.is-0, c.in-FirstMark-eq187.is-1) (second_mark rest)

pub returns-in-FirstMark-default : goal.returns-in-FirstMark-default
returns-in-FirstMark-default c = λ rest.
    rw c.in-FirstMark-default.is-0 (not_second MAX_SHOWN (Some 131071) c.args.byte rest c.in-FirstMark-default.is-1.1 ∙ c.in_row.ensures rest)

pub returns-in-SecondMark-eq191 : goal.returns-in-SecondMark-eq191
returns-in-SecondMark-eq191 c = λ rest. rw (c.in-SecondMark-eq191.is-0, c.in-SecondMark-eq191.is-1) (third_mark rest)

pub returns-in-SecondMark-default : goal.returns-in-SecondMark-default
returns-in-SecondMark-default c = λ rest.
    rw c.in-SecondMark-default.is-0
    (not_third MAX_SHOWN (Some 131070) c.args.byte rest c.in-SecondMark-default.is-1.1 ∙ c.in_row-in-SecondMark-default.ensures rest)

pub returns-in-Start-default : goal.returns-in-Start-default
returns-in-Start-default c = λ rest. rw c.in-Start-default.is-0 (not_first MAX_SHOWN c.args.byte rest c.in-Start-default.is-1.1 ∙ c.between.ensures rest)
