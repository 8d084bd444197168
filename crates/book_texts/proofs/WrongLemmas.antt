-- The wrong rows follow the books, row after row.
use Rattle.std.proofs.Common.{◌≡◌, ℕ, ◌+◌, arith, Bool, true, false, List, [], ◌∷◌, ◌++◌, inl, inr, length, Option, Some, None, Result, Ok, refl, sym, ap, subst, ◌∙◌, reverse}
use Rattle.std.proofs.lemmas.Bool.Decides.{nat_tests}
use Rattle.std.proofs.lemmas.List.{append_assoc, reverse-append}
use Rattle.std.specs.Prelude.{◌==◌, if◌then◌else◌}
use Rattle.account_core.specs.Answers.{IsAnswered, IsLegal, IsLegalPast, answer}
use Rattle.account_core.specs.Entries.{EntryData}
use Rattle.account_core.specs.Wrong.{IsWrong, response as response_after, reply_or_fault}
use Rattle.account_core.specs.declared.entry.Reply.{Reply}
use Rattle.account_core.specs.declared.fault.AccountFault.{AccountFault}
use Rattle.table_core.specs.Rows.{Fields}
use Rattle.account_core.proofs.RisingLemmas.{looked_up_at}
use Rattle.book_texts.specs.Audits.{HasVerdict}
use Rattle.book_texts.specs.Books.{Books, Booked, books_of, account_so_far, books_with_entry, with_opening}
use Rattle.book_texts.specs.Checks.{HaveVerdicts, HasItsVerdict, NotesEntry, wrong_of}
use Rattle.book_texts.specs.Wrongs.{IsWrongRow}
use Rattle.book_texts.specs.declared.wrong_row.WrongRow.{WrongRow}
use Rattle.book_texts.proofs.BookedLemmas.{booked_set}

-- what is booked of an account with one entry more
abbrev with_entry : Booked → EntryData → Booked
with_entry booked entry = record booked { history = booked.history ++ entry ∷ [] }

module _ (booked : Booked) (entry : EntryData) where
  still_legal : IsLegal booked.opening booked.until booked.history → IsAnswered booked.opening booked.until (reverse booked.history) entry
      → IsLegal booked.opening booked.until (booked.history ++ entry ∷ [])
  still_legal legal answered = rw (reverse-append booked.history (entry ∷ [])) (legal, answered)

  was_legal : IsLegal booked.opening booked.until (booked.history ++ entry ∷ []) → IsLegalPast booked.opening booked.until (entry ∷ reverse booked.history)
  was_legal legal = rw (reverse-append booked.history (entry ∷ [])) at legal

  booked_right : IsAnswered booked.opening booked.until (reverse booked.history) entry → response_after booked.opening booked.until (reverse booked.history) entry.asked ≡ Ok entry.reply
  booked_right answered =
      ap (λ refused. reply_or_fault refused (answer booked.opening booked.until (reverse booked.history) entry.asked)) answered.admissible ∙ ap Ok (sym answered.answered)

  not_legal : (right : Result Reply AccountFault) → IsWrong booked.opening booked.until (reverse booked.history) entry right
      → IsLegal booked.opening booked.until (booked.history ++ entry ∷ []) → ⊥
  not_legal right wrong legal = wrong.differs (wrong.is_response ∙ booked_right (was_legal legal).1)

-- ---- a row further

module _ (most : ℕ) (rows : List Fields) (more : Fields) where
  row_kept : (account : ℕ) (wrong : WrongRow) → IsWrongRow most rows account wrong → IsWrongRow most (rows ++ more ∷ []) account wrong
  row_kept account wrong is = record {
    above = is.above;
    row = is.row;
    below = is.below ++ more ∷ [];
    rows_are = ap (λ all. all ++ more ∷ []) is.rows_are ∙ append_assoc is.above (is.row ∷ is.below) (more ∷ []);
    number = is.number;
    books = is.books;
    so_far = is.so_far;
    booked = is.booked;
    of_account = is.of_account;
    enters = is.enters;
    legal = is.legal;
    is_wrong = is.is_wrong;
  }

  verdict_kept : (account : ℕ) (booked : Booked) (wrong : Option WrongRow) → HasVerdict most rows account booked wrong → HasVerdict most (rows ++ more ∷ []) account booked wrong
  verdict_kept account booked None legal = legal
  verdict_kept account booked (Some wrong) (not, row) = (not, row_kept account wrong row)

  right_kept : (account : ℕ) (booked : Option Booked) (wrong : Option WrongRow) → HasItsVerdict most rows account booked wrong → HasItsVerdict most (rows ++ more ∷ []) account booked wrong
  right_kept account None wrong none = none
  right_kept account (Some booked) wrong has = verdict_kept account booked wrong has

  -- an account that opens has no wrong row
  opens_right : (account : ℕ) (found : Option Booked) (wrong : Option WrongRow) (booked : Booked) → booked.history ≡ [] → found ≡ None → HasItsVerdict most rows account found wrong
      → HasItsVerdict most (rows ++ more ∷ []) account (Some booked) wrong
  opens_right account None wrong booked empty none is = rw (is, empty) tt
  opens_right account (Some other) wrong booked empty none is = cc

  same_number : (one other : ℕ) → (one == other) ≡ true → one ≡ other
  same_number one other same = grind (arith, nat_tests)

  opened_at : (same : Bool) (account other : ℕ) (booked : Booked) (found : Option Booked) (wrong : Option WrongRow) → booked.history ≡ [] → (same ≡ true → found ≡ None)
      → HasItsVerdict most rows other found wrong → HasItsVerdict most (rows ++ more ∷ []) other (if same then Some booked else found) wrong
  opened_at true account other booked found wrong empty none is = opens_right other found wrong booked empty (none refl) is
  opened_at false account other booked found wrong empty none is = right_kept other found wrong is

  pub opening_right : (account opening : ℕ) (until : Option ℕ) (books : Books) (wrongs : List (ℕ × WrongRow)) → account_so_far account books ≡ None → HaveVerdicts most rows books wrongs
      → HaveVerdicts most (rows ++ more ∷ []) (with_opening account opening until books) wrongs
  opening_right account opening until books wrongs none are = λ other.
      let booked : Booked = record { opening = opening; until = until; history = [] } in
      rw (looked_up_at account booked other books)
      (opened_at (other == account) account other booked (account_so_far other books) (wrong_of other wrongs) refl
      (λ same. rw (same_number other account same) none) (are other))

  -- ---- an entry

  module _ (account : ℕ) (books : Books) (booked : Booked) (entry : EntryData) (found : account_so_far account books ≡ Some booked) where
    entered_legal : (wrong : Option WrongRow) → (IsLegal booked.opening booked.until booked.history → IsAnswered booked.opening booked.until (reverse booked.history) entry)
        → HasVerdict most rows account booked wrong → HasVerdict most (rows ++ more ∷ []) account (with_entry booked entry) wrong
    entered_legal None answers legal = still_legal booked entry legal (answers legal)
    entered_legal (Some wrong) answers (not, row) = (λ legal. not (was_legal booked entry legal).0, row_kept account wrong row)

    entered_at : (same : Bool) (other : ℕ) (wrong : Option WrongRow) → (same ≡ true → other ≡ account)
        → (IsLegal booked.opening booked.until booked.history → IsAnswered booked.opening booked.until (reverse booked.history) entry)
        → HasItsVerdict most rows other (account_so_far other books) wrong
        → HasItsVerdict most (rows ++ more ∷ []) other (if same then Some (with_entry booked entry) else account_so_far other books) wrong
    entered_at true other wrong one answers is =
        let H : Option Booked → Type 0 = λ t. HasItsVerdict most rows account t wrong in
        let here = subst H found (rw (one refl) at is) in
        rw (one refl) (entered_legal wrong answers here)
    entered_at false other wrong one answers is = right_kept other (account_so_far other books) wrong is

    noted_at : (same : Bool) (other : ℕ) (old : Option WrongRow) (wrong : WrongRow) → (same ≡ true → other ≡ account)
        → HasVerdict most (rows ++ more ∷ []) account (with_entry booked entry) (Some wrong)
        → HasItsVerdict most rows other (account_so_far other books) old
        → HasItsVerdict most (rows ++ more ∷ []) other (if same then Some (with_entry booked entry) else account_so_far other books) (if same then Some wrong else old)
    noted_at true other old wrong one has is = rw (one refl) has
    noted_at false other old wrong one has is = right_kept other (account_so_far other books) old is

    pub entry_right : (number : ℕ) (before after : List (ℕ × WrongRow)) → number ≡ length rows + 1 → books_of most rows ≡ Ok books
        → books_of most (rows ++ more ∷ []) ≡ Ok (books_with_entry account booked entry books) → NotesEntry number account booked entry before after → HaveVerdicts most rows books before
        → HaveVerdicts most (rows ++ more ∷ []) (books_with_entry account booked entry books) after
    entry_right number before after number_is so_far now (inl (answers, same)) are = λ other.
        rw (booked_set account (with_entry booked entry) other books (rw found refl), same)
        (entered_at (other == account) other (wrong_of other before) (same_number other account) answers (are other))
    entry_right number before after number_is so_far now (inr (wrong, row_is, says, heard, added)) are = λ other.
        let has : HasVerdict most (rows ++ more ∷ []) account (with_entry booked entry) (Some wrong) = (
          not_legal booked entry wrong.right heard.1,
          record {
            above = rows;
            row = more;
            below = [];
            rows_are = refl;
            number = row_is ∙ number_is;
            books = books;
            so_far = so_far;
            booked = booked;
            of_account = found;
            enters = rw says now;
            legal = heard.0;
            is_wrong = rw says heard.1;
          },
        ) in
        rw (booked_set account (with_entry booked entry) other books (rw found refl), added, looked_up_at account wrong other before)
        (noted_at (other == account) other (wrong_of other before) wrong (same_number other account) has (are other))
