-- The checks follow the books, row after row.
use Rattle.std.proofs.Common.{◌≡◌, ℕ, ◌+◌, length, arith, Bool, true, false, cond, List, [], ◌∷◌, ◌++◌, Option, Some, None, Result, Ok, Err, reverse, refl, sym, ap, subst, ◌∙◌, append-nil}
use Rattle.csv.specs.Records.{fields_of}
use Rattle.std.specs.BTreeMap.{insert_entry, is_at}
use Rattle.std.specs.Map.{lookup, set_value}
use Rattle.std.specs.Ordering.{match_ordering, nat_cmp}
use Rattle.std.specs.Prelude.{⊤, IfSome, IsErrAnd, is_some}
use Rattle.std.specs.declared.cmp.Ordering.{Ordering}
use Rattle.std.specs.declared.cmp.Ordering.TheVariants as order
use Rattle.std.proofs.lemmas.List.{reverse-append}
use Rattle.std.proofs.lemmas.Option.{IfSome_then}
use Rattle.account_core.specs.Answers.{IsAnswered, IsLegal, IsLegalPast}
use Rattle.account_core.specs.Checked.{IsCheckOf}
use Rattle.account_core.specs.Entries.{EntryData}
use Rattle.account_core.specs.Wrong.{IsWrong}
use Rattle.account_core.specs.declared.entry.Reply.{Reply}
use Rattle.account_core.specs.declared.fault.AccountFault.{AccountFault}
use Rattle.account_core.specs.declared.history_check.HistoryCheck.{HistoryCheck}
use Rattle.table_core.specs.Faults.{RefusesTable}
use Rattle.table_core.specs.Judging.{and_then as after_row}
use Rattle.table_core.specs.Reading.{IsNextRow, Opens as OpensTable, StepsRow}
use Rattle.table_core.specs.Rows.{Fields, rows_of}
use Rattle.table_core.specs.declared.fault.RowFault.{RowFault}
use Rattle.table_core.specs.declared.fault.RowKind.{RowKind}
use Rattle.table_core.specs.declared.fault.TableFault.{TableFault}
use Rattle.table_core.specs.declared.table.Table.{Table}
use Rattle.table_core.proofs.Known.{both_known}
use Rattle.book_texts.specs.Versions.{version_at}
use Rattle.book_texts.specs.Audits.{AreVerdicts, GivesAuditOf, IsSaidOfBooks}
use Rattle.book_texts.specs.BookRows.{Enters, Opens, RowSaid, columns_in, row_said_in}
use Rattle.book_texts.specs.Books.{Books, Booked, books_form, books_headers, books_of, entered_in_books, judged_books, opened, book_row_at, account_so_far, books_with_entry, with_opening}
use Rattle.book_texts.specs.Checks.{AreChecks, AreNoted, HaveVerdicts, Comes, GivesChecks, HaveChecks, HearsBy, IsHeard, HasItsVerdict, NotesEntry, audited_by, verdicts_of, wrong_of}
use Rattle.book_texts.specs.declared.account_checks.AccountChecks.{AccountChecks}
use Rattle.book_texts.specs.declared.audit.Audit.{Audit}
use Rattle.book_texts.specs.declared.audit.Checked.{Checked}
use Rattle.book_texts.specs.declared.wrong_row.WrongRow.{WrongRow}
use Rattle.book_texts.proofs.AboveLemmas.{IsAbove, above_is, at_first, next_above}
use Rattle.book_texts.proofs.BookedLemmas.{AreFoundIn, all_found, books_ascend}
use Rattle.book_texts.proofs.WrongLemmas.{entry_right, opening_right}

-- a check has heard what is booked
abbrev pub HasHeard : Booked → HistoryCheck → Type 0
HasHeard booked check = IsCheckOf booked.opening booked.until (reverse booked.history) check

-- ---- what is found

abbrev pub AreFound : Option Booked → Option HistoryCheck → Type 0
AreFound None None = ⊤
AreFound None (Some check) = ⊥
AreFound (Some booked) None = ⊥
AreFound (Some booked) (Some check) = HasHeard booked check

module _ (test : ℕ → Bool) where
  found_at : (passes : Bool) (booked : Booked) (check : HistoryCheck) (later : Option Booked) (others : Option HistoryCheck) → HasHeard booked check → AreFound later others
      → AreFound (cond passes (Some booked) later) (cond passes (Some check) others)
  found_at true booked check later others heard are = heard
  found_at false booked check later others heard are = are

  pub found : (books : Books) (checks : List (ℕ × HistoryCheck)) → AreChecks books checks → AreFound (lookup test books) (lookup test checks)
  found [] [] are = tt
  found [] (check ∷ checks) are = absurd are
  found (book ∷ books) [] are = absurd are
  found (book ∷ books) (check ∷ checks) are =
      rw are.0.0 (found_at (test book.0) book.1 check.1 _ _ are.0.1 (found books checks are.1))

  -- ---- what is set

  module _ (booked : Booked) (check : HistoryCheck) (heard : HasHeard booked check) where
    set_at : (passes : Bool) (account : ℕ) (was : Booked) (old : HistoryCheck) (books later : Books) (checks others : List (ℕ × HistoryCheck)) → HasHeard was old → AreChecks books checks
        → AreChecks later others
        → AreChecks (cond passes ((account, booked) ∷ books) ((account, was) ∷ later)) (cond passes ((account, check) ∷ checks) ((account, old) ∷ others))
    set_at true account was old books later checks others had are set = ((refl, heard), are)
    set_at false account was old books later checks others had are set = ((refl, had), set)

    pub checks_set : (books : Books) (checks : List (ℕ × HistoryCheck)) → AreChecks books checks → AreChecks (set_value test books booked) (set_value test checks check)
    checks_set [] [] are = tt
    checks_set [] (old ∷ checks) are = absurd are
    checks_set (book ∷ books) [] are = absurd are
    checks_set ((account, was) ∷ books) ((number, old) ∷ checks) are =
        rw are.0.0 (set_at (test account) account was old books _ checks _ are.0.1 are.1 (checks_set books checks are.1))

-- what is found of an account
pub not_found : (booked : Option Booked) (check : Option HistoryCheck) → AreFound booked check → check ≡ None → booked ≡ None
not_found None check are none = refl
not_found (Some booked) None are none = absurd are
not_found (Some booked) (Some check) are none = cc

pub is_found : (booked : Option Booked) (check : Option HistoryCheck) (heard : HistoryCheck) → AreFound booked check → check ≡ Some heard → (t : Booked) × (booked ≡ Some t) × HasHeard t heard
is_found None None heard are some = cc
is_found None (Some check) heard are some = absurd are
is_found (Some booked) None heard are some = absurd are
is_found (Some booked) (Some check) heard are some = let same : check ≡ heard = cc in (booked, refl, rw (← same) are)

pub is_known : (booked : Option Booked) (check : Option HistoryCheck) → AreFound booked check → is_some check ≡ true → (t : Booked) × (booked ≡ Some t)
is_known None None are some = cc
is_known None (Some check) are some = absurd are
is_known (Some booked) check are some = (booked, refl)

pub is_new : (booked : Option Booked) (check : Option HistoryCheck) → AreFound booked check → is_some check ≡ false → booked ≡ None
is_new None check are none = refl
is_new (Some booked) None are none = absurd are
is_new (Some booked) (Some check) are none = cc

-- ---- what is inserted

module _ (cmp : ℕ → ℕ → Ordering) (account : ℕ) (booked : Booked) (check : HistoryCheck) (heard : HasHeard booked check) where
  inserted_at : (o : Ordering) (number : ℕ) (was : Booked) (old : HistoryCheck) (books later : Books) (checks others : List (ℕ × HistoryCheck)) → HasHeard was old → AreChecks books checks
      → AreChecks later others
      → AreChecks (match_ordering o ((account, booked) ∷ (number, was) ∷ books) ((number, booked) ∷ books) ((number, was) ∷ later))
      (match_ordering o ((account, check) ∷ (number, old) ∷ checks) ((number, check) ∷ checks) ((number, old) ∷ others))
  inserted_at order.Less number was old books later checks others had are set = ((refl, heard), ((refl, had), are))
  inserted_at order.Equal number was old books later checks others had are set = ((refl, heard), are)
  inserted_at order.Greater number was old books later checks others had are set = ((refl, had), set)

  pub checks_inserted : (books : Books) (checks : List (ℕ × HistoryCheck)) → AreChecks books checks
      → AreChecks (insert_entry cmp books account booked) (insert_entry cmp checks account check)
  checks_inserted [] [] are = ((refl, heard), tt)
  checks_inserted [] (old ∷ checks) are = absurd are
  checks_inserted (book ∷ books) [] are = absurd are
  checks_inserted ((number, was) ∷ books) ((key, old) ∷ checks) are =
      rw are.0.0 (inserted_at (cmp account number) number was old books _ checks _ are.0.1 are.1 (checks_inserted books checks are.1))

-- ---- what a row comes to

pub row_taken : (before : Books) (meaning : Result Books RowKind) (checks : AccountChecks) → Comes before None meaning checks → (next : Books) × (meaning ≡ Ok next) × HaveChecks next checks
row_taken before (Ok next) checks are = (next, refl, are)
row_taken before (Err why) checks never = absurd never

pub row_refused : (before : Books) (meaning : Result Books RowKind) (checks : AccountChecks) (kind : RowKind) → Comes before (Some kind) meaning checks → meaning ≡ Err kind
row_refused before (Ok next) checks kind never = absurd never
row_refused before (Err why) checks kind is = ap (λ k. Err k) (sym is.0)

-- a fault that the table's reader passes on is that of the meaning
pub fault_booked : (most : ℕ) (known : Option (List ℕ)) (answer : Result Checked TableFault) (why : TableFault) (P : List ℕ → Type 0) (meaning : List ℕ → Result Books RowFault)
    → IsErrAnd answer (λ met. met ≡ why) → IfSome known P → ((text : List ℕ) → P text → RefusesTable why (meaning text))
    → IfSome known (λ text. GivesChecks most (rows_of text) answer (meaning text))
fault_booked most known (Ok checked) why P meaning met holds so = absurd met
fault_booked most known (Err other) why P meaning met holds so = IfSome_then known holds (λ text at. rw met (so text at))

-- an entry was heard, by what the check says of it
heard_by : (booked : Booked) (entry : EntryData) (wrong : Option (Result Reply AccountFault))
    → (wrong ≡ None → IsLegal booked.opening booked.until booked.history → IsAnswered booked.opening booked.until (reverse booked.history) entry)
    → IfSome wrong (λ right. IsLegal booked.opening booked.until booked.history × IsWrong booked.opening booked.until (reverse booked.history) entry right)
    → HearsBy booked entry wrong
heard_by booked entry None answers says = answers refl
heard_by booked entry (Some right) answers says = says

-- a check of an account that was found heard an entry: what becomes of the checks, and what was heard
module _ (account : ℕ) (entry : EntryData) (books : Books) (checks : List (ℕ × HistoryCheck)) (are : AreChecks books checks) (check : HistoryCheck) where
  pub check_after : (after : HistoryCheck) → lookup (is_at (nat_cmp account)) checks ≡ Some check
      → ((opening : ℕ) (until : Option ℕ) (h : List EntryData) → IsCheckOf opening until h check → IsCheckOf opening until (entry ∷ h) after)
      → (booked : Booked) × (account_so_far account books ≡ Some booked)
      × AreChecks (books_with_entry account booked entry books) (set_value (is_at (nat_cmp account)) checks after)
  check_after after is hears =
      let (booked, there, heard) = is_found _ _ check (found (is_at (nat_cmp account)) books checks are) is in (
        booked,
        there,
        checks_set (is_at (nat_cmp account)) (record booked { history = booked.history ++ entry ∷ [] }) after
            (rw (reverse-append booked.history (entry ∷ [])) (hears booked.opening booked.until (reverse booked.history) heard)) books checks are,
      )

  pub heard_of : lookup (is_at (nat_cmp account)) checks ≡ Some check → (wrong : Option (Result Reply AccountFault))
      → (wrong ≡ None → (opening : ℕ) (until : Option ℕ) (h : List EntryData) → IsCheckOf opening until h check → IsLegalPast opening until h → IsAnswered opening until h entry)
      → IfSome wrong (λ right. (opening : ℕ) (until : Option ℕ) (h : List EntryData) → IsCheckOf opening until h check → IsLegalPast opening until h × IsWrong opening until h entry right)
      → IsHeard (account_so_far account books) entry (Ok wrong)
  heard_of is wrong right says =
      let (booked, there, heard) = is_found _ _ check (found (is_at (nat_cmp account)) books checks are) is in
      rw there (heard_by booked entry wrong (λ none. right none booked.opening booked.until (reverse booked.history) heard)
      (IfSome_then wrong says (λ right so. so booked.opening booked.until (reverse booked.history) heard)))

-- ---- the wrong rows so far

module _ {R : Type 0} (most : ℕ) (remaining : R → Option (List ℕ)) where
  -- each account has its verdict by the rows so far
  abbrev pub AreRightSoFar : Table R → Books → List (ℕ × WrongRow) → List ℕ → Type 0
  AreRightSoFar table books wrongs text =
      (above : IsAbove (books_form most) remaining table books text) × HaveVerdicts most (above.first ∷ above.rows) books wrongs

  none_wrong : (rows : List Fields) → HaveVerdicts most rows [] []
  none_wrong rows = λ account. refl

  pub right_at_first : (table : Table R) (known : Option (List ℕ)) → table.number ≡ 1 → IfSome known (λ text. OpensTable remaining books_headers (Ok table) (rows_of text))
      → IfSome known (AreRightSoFar table [] [])
  right_at_first table known number opens =
      IfSome_then known opens (λ text opened.
      let above = at_first (books_form most) remaining table text number opened in (above, none_wrong (above.first ∷ above.rows)))

  module _ (number : ℕ) (rows : List Fields) (more : Fields) (books next : Books) (before after : List (ℕ × WrongRow)) (number_is : number ≡ length rows + 1)
      (so_far : books_of most rows ≡ Ok books) (now : books_of most (rows ++ more ∷ []) ≡ Ok next) (are : HaveVerdicts most rows books before) where
    opens_so : (account opening : ℕ) (until : Option ℕ) (found : Option Booked) → account_so_far account books ≡ found → opened account opening until books found ≡ Ok next → after ≡ before
        → HaveVerdicts most (rows ++ more ∷ []) next after
    opens_so account opening until None none is same =
        let with : with_opening account opening until books ≡ next = cc in
        rw (← with, same) (opening_right most rows more account opening until books before none are)
    opens_so account opening until (Some booked) found is same = cc

    enters_so : (account : ℕ) (entry : EntryData) (found : Option Booked) → account_so_far account books ≡ found → entered_in_books account entry books found ≡ Ok next
        → ((booked : Booked) → account_so_far account books ≡ Some booked → NotesEntry number account booked entry before after) → HaveVerdicts most (rows ++ more ∷ []) next after
    enters_so account entry None none is noted = cc
    enters_so account entry (Some booked) found is noted =
        let with : books_with_entry account booked entry books ≡ next = cc in
        rw (← with) (entry_right most rows more account books booked entry found number before after number_is so_far (rw (← with) at now) (noted booked found) are)

    pub right_next : (said : Result RowSaid RowKind) → after_row said (judged_books books) ≡ Ok next → AreNoted number books said before after → HaveVerdicts most (rows ++ more ∷ []) next after
    right_next (Ok (Opens account opening until)) is noted = opens_so account opening until (account_so_far account books) refl is noted
    right_next (Ok (Enters account entry)) is noted = enters_so account entry (account_so_far account books) refl is noted
    right_next (Err why) is noted = cc

module _ {R : Type 0} (most : ℕ) (remaining : R → Option (List ℕ)) (known : Option (List ℕ)) (table after : Table R) (books next : Books) where
  -- the same after a row
  pub right_so_far : (wrongs now : List (ℕ × WrongRow)) → table.most_rows ≡ most → IsNextRow table after → StepsRow remaining table after (Ok true)
      → book_row_at (version_at table.header) books (fields_of after.rows.row) ≡ Ok next
      → AreNoted after.number books (row_said_in (columns_in (version_at table.header) (fields_of after.rows.row))) wrongs now
      → IfSome known (AreRightSoFar most remaining table books wrongs) → IfSome known (AreRightSoFar most remaining after next now)
  unfolding book_row_at
  right_so_far wrongs now most_rows moves steps is noted right = IfSome_then known right (λ text (above, are).
      let fields = fields_of after.rows.row in
      let (further, first_is, rows_are) = next_above (books_form most) remaining table after books next text most_rows moves steps is above in
      let so_far = above_is (books_form most) remaining table books text above in
      let whole : books_of most ((above.first ∷ above.rows) ++ fields ∷ []) ≡ Ok next = rw (first_is, rows_are) at (above_is (books_form most) remaining after next text further) in
      let held = right_next most remaining after.number (above.first ∷ above.rows) fields books next wrongs now
      (omega (arith, moves.number, above.number)) so_far whole are (row_said_in (columns_in (version_at table.header) fields)) is noted in
      let A : List Fields → Type 0 = λ rows. HaveVerdicts most rows next now in
      (further, rw (first_is, rows_are) held))

  -- where no row is left, the checks are those of the table's books
  pub checks_given : (checks : List (ℕ × HistoryCheck)) (wrongs : List (ℕ × WrongRow)) (checked : Checked) → IfSome known (λ text. books_of most (rows_of text) ≡ Ok books)
      → StepsRow remaining table after (Ok false) → checked.checks.items ≡ checks → AreChecks books checks → IfSome known (AreRightSoFar most remaining table books wrongs)
      → checked.wrongs ≡ wrongs → IfSome known (λ text. GivesChecks most (rows_of text) (Ok checked) (books_of most (rows_of text)))
  checks_given checks wrongs checked whole steps same are right kept = IfSome_then known (both_known known _ _ whole right) (λ text (is, (above, holds)).
      let none = steps above.left above.has in
      let rows_are : rows_of text ≡ above.first ∷ above.rows = above.rows_are ∙ ap (λ l. above.first ∷ (above.rows ++ l)) none ∙ ap (λ l. above.first ∷ l) (append-nil above.rows) in
      rw is (record { checks = rw same are; wrongs = rw (rows_are, kept) holds }))

-- ---- the verdicts

pub verdicts_right : (most : ℕ) (rows : List Fields) (all books : Books) (checks : List (ℕ × HistoryCheck)) (wrongs : List (ℕ × WrongRow)) → AreFoundIn all books → AreChecks books checks
    → HaveVerdicts most rows all wrongs → AreVerdicts most rows books (verdicts_of checks wrongs)
verdicts_right most rows all [] [] wrongs found are right = tt
verdicts_right most rows all [] (check ∷ checks) wrongs found are right = absurd are
verdicts_right most rows all (book ∷ books) [] wrongs found are right = absurd are
verdicts_right most rows all (book ∷ books) (check ∷ checks) wrongs found are right =
    let R : Option Booked → Type 0 = λ booked. HasItsVerdict most rows book.0 booked (wrong_of book.0 wrongs) in
    ((are.0.0, rw are.0.0 (subst R found.0 (right book.0))), verdicts_right most rows all books checks wrongs found.1 are.1 right)

-- what is said of a table's checks, where the verdicts on its books are those of the checks
abbrev pub SaysOf : ℕ → Bool → Bool → List Fields → Checked → Audit → Type 0
SaysOf most lines shown rows checked audit =
    (books : Books) → AreChecks books checked.checks.items → AreVerdicts most rows books (verdicts_of checked.checks.items checked.wrongs)
    → IsSaidOfBooks lines shown books (verdicts_of checked.checks.items checked.wrongs) (audited_by audit)

-- from the checks of a table's books to an audit of them
pub audit_said : (most : ℕ) (lines shown : Bool) (rows : List Fields) (checked : Checked) (audit : Audit) (meaning : Result Books RowFault) → books_of most rows ≡ meaning
    → SaysOf most lines shown rows checked audit → GivesChecks most rows (Ok checked) meaning
    → GivesAuditOf most lines shown rows (Ok (audited_by audit)) meaning
audit_said most lines shown rows checked audit (Ok books) is said of =
    let are = verdicts_right most rows books books checked.checks.items checked.wrongs (all_found 0 books (books_ascend most rows books is)) of.checks of.wrongs in
    record { verdicts = verdicts_of checked.checks.items checked.wrongs; are = are; said = said books of.checks are }
audit_said most lines shown rows checked audit (Err why) is said never = absurd never
