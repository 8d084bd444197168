use Rattle.std.proofs.Common.{ℕ, List, string_bytes, take}
use Rattle.table_core.specs.Rows.{Fields}
use Rattle.book_texts.specs.Audits.{AreVerdicts}
use Rattle.book_texts.specs.Books.{Books}
use Rattle.book_texts.specs.Checks.{AreChecks, verdicts_of}
use Rattle.book_texts.proofs.SumLines.{AreSaid}
use Rattle.book_texts.proofs.audit.write_sums.Given as goal

-- what is said of the accounts so far, and their calls
abbrev pub invariant-loop-account : goal.invariant-loop-account
invariant-loop-account l =
    (most : ℕ) (rows : List Fields) (books : Books) → AreChecks books l.account-items → AreVerdicts most rows books (verdicts_of l.account-items l.checked.wrongs)
    → AreSaid l.shown (take l.account-index books) (verdicts_of (take l.account-index l.account-items) l.checked.wrongs) (string_bytes l.lines) l.calls.items l.passes
