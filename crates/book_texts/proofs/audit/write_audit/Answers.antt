use Rattle.std.proofs.Common.{◌≡◌, ◌++◌, ◌+◌, ◌<◌, ◌∙◌, ℕ, [], ◌∷◌, List, ap, get_or, length, refl, rules, sym, take}
use Rattle.std.specs.List.{list_all}
use Rattle.std.specs.Prelude.{◌&&◌, is_none}
use Rattle.std.proofs.lemmas.List.{flat_map_more, map_push, take_all}
use Rattle.std.proofs.Math.Bool.{and-true}
use Rattle.std.proofs.lemmas.List.Folds.{list_all-append}
use Rattle.account_core.specs.declared.history_check.HistoryCheck.{HistoryCheck}
use Rattle.book_texts.specs.Audits.{AccountVerdict, verdict_lines}
use Rattle.book_texts.specs.Checks.{verdicts_of, wrong_of}
use Rattle.book_texts.specs.declared.wrong_row.WrongRow.{WrongRow}
use Rattle.book_texts.proofs.TextLemmas.{next_item}
use Rattle.book_texts.proofs.audit.write_audit.Goals as goal

-- the verdicts with that on one account more
verdict_more : (wrongs : List (ℕ × WrongRow)) (items : List (ℕ × HistoryCheck)) (i : ℕ) (item : ℕ × HistoryCheck) → i < length items → item ≡ get_or items i item
    → verdicts_of (take (i + 1) items) wrongs ≡ verdicts_of (take i items) wrongs ++ (item.0, wrong_of item.0 wrongs) ∷ []
verdict_more wrongs items i item within is =
    ap (λ done. verdicts_of done wrongs) (next_item items i item within is) ∙ map_push (λ check. (check.0, wrong_of check.0 wrongs)) (take i items) item

pub loop-account-preserved : goal.loop-account-preserved
loop-account-preserved c =
    let items = c.deref-account-items.result.now in
    let wrongs = c.args.checked.now.wrongs in
    let check = c.loop-account-item.result in
    let so_far = verdicts_of (take c.loop-account.account-index items) wrongs in
    let none_wrong = λ (verdict : AccountVerdict). is_none verdict.1 in
    let wrong_is : c.copied-wrong.result ≡ wrong_of check.0 wrongs = c.copied-wrong.ensures ∙ c.get.ensures in
    let none : c.is_none-passes.result ≡ is_none c.copied-wrong.result = search rules in
    rw (verdict_more wrongs items c.loop-account.account-index check c.loop-account-test.true c.loop-account-item.is, c.in_ok-write_verdict.ensures, none, wrong_is, c.loop-account.invariant.0, c.loop-account.invariant.1) (
      flat_map_more (verdict_lines c.args.shown) [] so_far (check.0, wrong_of check.0 wrongs),
      sym (list_all-append none_wrong so_far ((check.0, wrong_of check.0 wrongs) ∷ []) ∙ ap (λ last. list_all none_wrong so_far && last) (and-true (is_none (wrong_of check.0 wrongs)))),
    )

pub returns : goal.returns
returns c =
    rw (c.loop-account.invariant.0, c.loop-account.invariant.1, take_all c.loop-account.account-index c.deref-account-items.result.now c.loop-account-test.false, c.deref-account-items.ensures.value) refl
