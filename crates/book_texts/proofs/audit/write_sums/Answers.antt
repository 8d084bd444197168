use Rattle.std.proofs.Common.{◌≡◌, ◌+◌, ◌∙◌, ℕ, List, suc, string_bytes, refl, subst, arith}
use Rattle.account_core.specs.declared.history_check.HistoryCheck.{HistoryCheck}
use Rattle.book_texts.specs.Audits.{AreVerdicts}
use Rattle.book_texts.specs.Checks.{AreChecks, verdicts_of, wrong_of}
use Rattle.book_texts.proofs.SumLines.{AreSaid, Sums, all_said, next_is, none_more, sum_more}
use Rattle.book_texts.proofs.audit.write_sums.Goals as goal
use Rattle.book_texts.proofs.audit.write_sums.Goals.{in-Some+in_ok-write_sum-in-Some, in-None+in_ok-write_verdict-in-None}

pub loop-account-init : goal.loop-account-init
loop-account-init c = λ most rows books checks verdicts. record {
  lines = c.new-lines.ensures.bytes;
  calls_are = λ call. rw c.new-calls.ensures.items refl;
  passes_are = refl;
}

pub loop-account-preserved : goal.loop-account-preserved
loop-account-preserved c = λ most rows books checks verdicts.
    let i = c.loop-account.account-index in
    let items = c.deref-account-items.result.now in
    let check = c.loop-account-item.result in
    let wrongs = c.args.checked.now.wrongs in
    let next = next_is c.args.shown most rows wrongs check books items i c.loop-account-test.true c.loop-account-item.is checks verdicts in
    let so_far = c.loop-account.invariant most rows books checks verdicts in
    let wrong_is : c.copied-wrong.result ≡ wrong_of check.0 wrongs = c.copied-wrong.ensures ∙ c.get.ensures in
    let index : i + 1 ≡ suc i = omega arith in
    elim c.match-branch-2.branch [
      | in-Some+in_ok-write_sum-in-Some w ↦
          let sums : Sums check.1 c.in_ok-sum.field-0 = c.in_ok-sum.ensures in
          rw (index, w.lines-is, w.calls-is, w.in_ok-write_sum-in-Some.ensures.line, w.in_ok-write_sum-in-Some.ensures.calls)
          (sum_more c.args.shown most rows books items wrongs i check next _ _ _ so_far c.copied-wrong.result wrong_is c.is_none-passes.result c.is_none-passes.ensures w.in-Some.sum (rw w.in-Some.is at sums))
      | in-None+in_ok-write_verdict-in-None w ↦
          let sums : Sums check.1 c.in_ok-sum.field-0 = c.in_ok-sum.ensures in
          rw (index, w.lines-is, w.calls-is, w.in_ok-write_verdict-in-None.ensures)
          (none_more c.args.shown most rows books items wrongs i check next _ _ _ so_far c.copied-wrong.result wrong_is c.is_none-passes.result c.is_none-passes.ensures (rw w.in-None.is at sums))
    ]

pub returns : goal.returns
returns c = λ most rows books checks verdicts.
    let items = c.deref-account-items.result.now in
    let wrongs = c.args.checked.now.wrongs in
    let value = c.deref-account-items.ensures.value in
    let are : AreChecks books items = rw (← value) at checks in
    let verdicts_are : AreVerdicts most rows books (verdicts_of items wrongs) = rw (← value) at verdicts in
    let those = all_said c.args.shown books items wrongs c.loop-account.account-index _ _ _ are c.loop-account-test.false
    (c.loop-account.invariant most rows books are verdicts_are) in
    let Said : List (ℕ × HistoryCheck) → Type 0 =
    λ checks. AreSaid c.args.shown books (verdicts_of checks wrongs) (string_bytes c.loop-account.lines) c.loop-account.calls.items c.loop-account.passes in
    let said : Said c.args.checked.now.checks.items = subst Said value those in
    let (ordered, in_order, printed) = c.in_ok-write_in_order.ensures in record {
      calls = ordered;
      are = record { rising = in_order.rising; each = λ call. in_order.each call ∙ said.calls_are call };
      lines = rw (printed, said.lines) refl;
      passes = said.passes_are;
    }
