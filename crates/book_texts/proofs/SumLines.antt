-- The lines of accounts, one check after another.
use Rattle.std.proofs.Common.{◌≡◌, ◌&&◌, ℕ, zero, suc, ◌<◌, ◌≤◌, Bool, true, false, cond, Option, Some, None, List, [], ◌∷◌, ◌++◌, get_or, length, map, take, reverse, refl, sym, ap, ◌∙◌, append_assoc, arith}
use Rattle.std.specs.Prelude.{is_none, is_some, not}
use Rattle.std.specs.List.{filter_map, list_all}
use Rattle.std.proofs.lemmas.List.{append-nil, length-reverse, take_all}
use Rattle.account_core.specs.Checked.{IsCheckOf, SumsUp}
use Rattle.account_core.specs.Entries.{EntryData}
use Rattle.account_core.specs.declared.account_sum.AccountSum.{AccountSum}
use Rattle.account_core.specs.declared.history_check.HistoryCheck.{HistoryCheck}
use Rattle.table_core.specs.Rows.{Fields}
use Rattle.book_texts.specs.Audits.{AreVerdicts, IsVerdict, AccountVerdict, all_sum_lines, book_by, summed_line, passed_books, sum_lines, verdict_lines}
use Rattle.book_texts.specs.Books.{Books, Booked}
use Rattle.book_texts.specs.Checks.{AreChecks, IsCheck, verdicts_of, wrong_of}
use Rattle.book_texts.specs.RunTexts.{account_text, line_in, call_line_of, call_lines_of}
use Rattle.book_texts.specs.declared.lines.CallLine.{CallLine}
use Rattle.book_texts.specs.declared.wrong_row.WrongRow.{WrongRow}
use Rattle.book_texts.proofs.CallLemmas.{calls_more}

-- the verdict of an account with a check
abbrev pub verdict_of : List (ℕ × WrongRow) → ℕ × HistoryCheck → AccountVerdict
verdict_of wrongs check = (check.0, wrong_of check.0 wrongs)

-- all that is right is yes
abbrev pub all_pass : List AccountVerdict → Bool
all_pass verdicts = list_all (λ verdict. is_none verdict.1) verdicts

cond_append : {X : Type 0} (is : Bool) (x : X) (front rest : List X) → cond is (x ∷ (front ++ rest)) (front ++ rest) ≡ cond is (x ∷ front) front ++ rest
cond_append true x front rest = refl
cond_append false x front rest = refl

not_so : (a b : Bool) → b ≡ not a → a ≡ not b
not_so true b is = sym (ap not is)
not_so false b is = sym (ap not is)

and_true : (a : Bool) → a && true ≡ a
and_true true = refl
and_true false = refl

and_assoc : (a b c : Bool) → a && (b && c) ≡ (a && b) && c
and_assoc true b c = refl
and_assoc false b c = refl

-- of a check among those of books, the book and the verdict, and what is said of it behind what is said before
pub record IsNext (shown : Bool) (most : ℕ) (rows : List Fields) (books : Books) (checks : List (ℕ × HistoryCheck)) (wrongs : List (ℕ × WrongRow)) (i : ℕ) (check : ℕ × HistoryCheck) : Type 0 where
  pub book : ℕ × Booked
  pub is_check : IsCheck book check
  pub is_verdict : IsVerdict most rows book (verdict_of wrongs check)
  pub lines : all_sum_lines shown (take (suc i) books) (verdicts_of (take (suc i) checks) wrongs)
      ≡ all_sum_lines shown (take i books) (verdicts_of (take i checks) wrongs) ++ sum_lines shown book (verdict_of wrongs check)
  pub passed_are : passed_books (take (suc i) books) (verdicts_of (take (suc i) checks) wrongs)
      ≡ passed_books (take i books) (verdicts_of (take i checks) wrongs) ++ passed_books (book ∷ []) (verdict_of wrongs check ∷ [])
  pub passes : all_pass (verdicts_of (take (suc i) checks) wrongs) ≡ all_pass (verdicts_of (take i checks) wrongs) && is_none (wrong_of check.0 wrongs)

pub next_is : (shown : Bool) (most : ℕ) (rows : List Fields) (wrongs : List (ℕ × WrongRow)) (check : ℕ × HistoryCheck) (books : Books) (checks : List (ℕ × HistoryCheck)) (i : ℕ)
    → i < length checks → check ≡ get_or checks i check → AreChecks books checks → AreVerdicts most rows books (verdicts_of checks wrongs)
    → IsNext shown most rows books checks wrongs i check
next_is shown most rows wrongs check [] [] i within is are verdicts = absurd (omega (arith, within))
next_is shown most rows wrongs check [] (first ∷ checks) i within is are verdicts = absurd are
next_is shown most rows wrongs check (book ∷ books) [] i within is are verdicts = absurd are
next_is shown most rows wrongs check (book ∷ books) (first ∷ checks) zero within is are verdicts = rw is (record {
  book = book;
  is_check = are.0;
  is_verdict = verdicts.0;
  lines = append-nil (sum_lines shown book (verdict_of wrongs first));
  passed_are = refl;
  passes = and_true (is_none (wrong_of first.0 wrongs));
})
next_is shown most rows wrongs check (book ∷ books) (first ∷ checks) (suc i) within is are verdicts =
    let next = next_is shown most rows wrongs check books checks i (omega (arith, within)) is are.1 verdicts.1 in
    let yes = is_none (wrong_of first.0 wrongs) in record {
      book = next.book;
      is_check = next.is_check;
      is_verdict = next.is_verdict;
      lines = ap (λ lines. sum_lines shown book (verdict_of wrongs first) ++ lines) next.lines ∙ sym (append_assoc (sum_lines shown book (verdict_of wrongs first)) _ _);
      passed_are = ap (λ those. cond yes (book_by book ∷ those) those) next.passed_are ∙ cond_append yes (book_by book) _ _;
      passes = ap (λ pass. yes && pass) next.passes ∙ and_assoc yes _ _;
    }

-- ---- one account more

-- these are the lines of the accounts, their calls, and whether each of them passes
pub record AreSaid (shown : Bool) (books : Books) (verdicts : List AccountVerdict) (text : List ℕ) (calls : List CallLine) (passes : Bool) : Type 0 where
  pub lines : text ≡ all_sum_lines shown books verdicts
  pub calls_are : (call : ℕ) → call_lines_of call calls ≡ filter_map (line_in call) (passed_books books verdicts)
  pub passes_are : passes ≡ all_pass verdicts

-- a check sums up whatever history it is of
abbrev pub Sums : HistoryCheck → Option AccountSum → Type 0
Sums check sum = (opening : ℕ) (until : Option ℕ) (h : List EntryData) → IsCheckOf opening until h check → SumsUp opening until h sum

module _ (shown : Bool) (most : ℕ) (rows : List Fields) (book : ℕ × Booked) (check : ℕ × HistoryCheck) (is_check : IsCheck book check) where
  -- a check with a sum has no wrong row
  no_wrong : (wrong : Option WrongRow) → IsVerdict most rows book (check.0, wrong) → (sum : AccountSum) → SumsUp book.1.opening book.1.until (reverse book.1.history) (Some sum)
      → is_none wrong ≡ true
  no_wrong (Some wrong) verdict sum (legal, is) = absurd (verdict.1.0 legal)
  no_wrong None verdict sum (legal, is) = refl

  -- and one without has one
  a_wrong : (wrong : Option WrongRow) → IsVerdict most rows book (check.0, wrong) → SumsUp book.1.opening book.1.until (reverse book.1.history) None → is_none wrong ≡ false
  a_wrong (Some wrong) verdict illegal = refl
  a_wrong None verdict illegal = absurd (illegal verdict.1)

  sum_line : (sum : AccountSum) → SumsUp book.1.opening book.1.until (reverse book.1.history) (Some sum)
      → account_text check.0 sum.opening sum.available sum.entries ≡ summed_line (book_by book)
  sum_line sum (legal, is) = rw (is_check.0, is.opening_is, is.available_is, is.entries_are, length-reverse book.1.history) refl

module _ (shown : Bool) (most : ℕ) (rows : List Fields) (books : Books) (checks : List (ℕ × HistoryCheck)) (wrongs : List (ℕ × WrongRow)) (i : ℕ) (check : ℕ × HistoryCheck)
    (next : IsNext shown most rows books checks wrongs i check) (text : List ℕ) (calls : List CallLine) (passes : Bool)
    (so_far : AreSaid shown (take i books) (verdicts_of (take i checks) wrongs) text calls passes) (wrong : Option WrongRow) (wrong_is : wrong ≡ wrong_of check.0 wrongs)
    (pass : Bool) (pass_is : is_some wrong ≡ not pass) where
  abbrev Next : List ℕ → List CallLine → Type 0
  Next text calls = AreSaid shown (take (suc i) books) (verdicts_of (take (suc i) checks) wrongs) text calls (passes && pass)

  still_passes : passes && pass ≡ all_pass (verdicts_of (take (suc i) checks) wrongs)
  still_passes = rw (so_far.passes_are, not_so pass (is_some wrong) pass_is, wrong_is) (sym next.passes)

  pub sum_more : (sum : AccountSum) → Sums check.1 (Some sum)
      → Next (text ++ account_text check.0 sum.opening sum.available sum.entries) (calls ++ map (call_line_of check.0) sum.calls.items)
  sum_more sum sums =
      let booked = next.book.1 in
      let said = sums booked.opening booked.until (reverse booked.history) next.is_check.1 in
      let none = no_wrong shown most rows next.book check next.is_check (wrong_of check.0 wrongs) next.is_verdict sum said in
      record {
        lines = rw (so_far.lines, sum_line shown most rows next.book check next.is_check sum said, next.lines, none) refl;
        calls_are = λ call. rw (next.passed_are, none, next.is_check.0)
            (calls_more (passed_books (take i books) (verdicts_of (take i checks) wrongs)) (book_by next.book) calls sum.calls.items said.1.calls_are so_far.calls_are call);
        passes_are = still_passes;
      }

  pub none_more : Sums check.1 None → Next (text ++ verdict_lines shown (check.0, wrong)) calls
  none_more sums =
      let booked = next.book.1 in
      let said = sums booked.opening booked.until (reverse booked.history) next.is_check.1 in
      let some = a_wrong shown most rows next.book check next.is_check (wrong_of check.0 wrongs) next.is_verdict said in
      record {
        lines = rw (so_far.lines, wrong_is, next.lines, some) refl;
        calls_are = λ call. rw (next.passed_are, some, append-nil (passed_books (take i books) (verdicts_of (take i checks) wrongs))) (so_far.calls_are call);
        passes_are = still_passes;
      }

-- ---- all accounts

as_many : (books : Books) (checks : List (ℕ × HistoryCheck)) → AreChecks books checks → length books ≡ length checks
as_many [] [] are = refl
as_many [] (check ∷ checks) are = absurd are
as_many (book ∷ books) [] are = absurd are
as_many (book ∷ books) (check ∷ checks) are = omega (arith, as_many books checks are.1)

pub all_said : (shown : Bool) (books : Books) (checks : List (ℕ × HistoryCheck)) (wrongs : List (ℕ × WrongRow)) (i : ℕ) (text : List ℕ) (calls : List CallLine) (passes : Bool)
    → AreChecks books checks → length checks ≤ i
    → AreSaid shown (take i books) (verdicts_of (take i checks) wrongs) text calls passes → AreSaid shown books (verdicts_of checks wrongs) text calls passes
all_said shown books checks wrongs i text calls passes are none said =
    let all_checks : take i checks ≡ checks = take_all i checks none in
    let all_books : take i books ≡ books = take_all i books (omega (arith, none, as_many books checks are)) in
    rw (all_checks, all_books) at said
