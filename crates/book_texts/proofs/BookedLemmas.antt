-- What is booked of an account, after a row.
use Rattle.std.proofs.Common.{◌≡◌, ℕ, ◌+◌, ◌≤◌, arith, Bool, true, false, cond, List, [], ◌∷◌, Option, Some, None, Result, Ok, Err, refl}
use Rattle.std.proofs.lemmas.Bool.Decides.{nat_tests}
use Rattle.std.specs.BTreeMap.{insert_entry, is_at}
use Rattle.std.specs.Map.{lookup, set_value}
use Rattle.std.specs.Ordering.{match_ordering, nat_cmp}
use Rattle.std.specs.Prelude.{◌==◌, IsSome, if◌then◌else◌}
use Rattle.std.specs.declared.cmp.Ordering.{Ordering}
use Rattle.std.specs.declared.cmp.Ordering.TheVariants as order
use Rattle.account_core.specs.Entries.{EntryData}
use Rattle.book_texts.specs.Versions.{version_at}
use Rattle.table_core.specs.Rows.{Fields}
use Rattle.table_core.specs.declared.fault.RowKind.{RowKind}
use Rattle.table_core.proofs.TableLemmas.{table_keeps}
use Rattle.book_texts.specs.BookRows.{Enters, Opens, RowSaid, columns_in, row_said_in}
use Rattle.book_texts.specs.Books.{Books, Booked, books_form, books_of, book_row_at, judged_books, entered_in_books, opened, account_so_far, books_with_entry, with_opening}

-- ---- one account is set

module _ (account : ℕ) (booked : Booked) (other : ℕ) where
  set_at : (here there same : Bool) (key : ℕ) (was : Booked) (books later : Books) → (here ≡ true → there ≡ same) → (here ≡ false → same ≡ true → there ≡ false)
      → is_at (nat_cmp other) key ≡ there
      → (here ≡ false → lookup (is_at (nat_cmp other)) later ≡ (if same then Some booked else lookup (is_at (nat_cmp other)) books))
      → lookup (is_at (nat_cmp other)) (cond here ((key, booked) ∷ books) ((key, was) ∷ later)) ≡ (if same then Some booked else cond there (Some was) (lookup (is_at (nat_cmp other)) books))
  set_at true there true key was books later one apart is rest = let now = one refl in rw (is, now) refl
  set_at true there false key was books later one apart is rest = let now = one refl in rw (is, now) refl
  set_at false there true key was books later one apart is rest = let now = apart refl refl in rw (is, now) (rest refl)
  set_at false true false key was books later one apart is rest = rw is refl
  set_at false false false key was books later one apart is rest = rw is (rest refl)

  one_key : (key : ℕ) → is_at (nat_cmp account) key ≡ true → is_at (nat_cmp other) key ≡ (other == account)
  one_key key same = grind (arith, nat_tests)

  other_key : (key : ℕ) → is_at (nat_cmp account) key ≡ false → (other == account) ≡ true → is_at (nat_cmp other) key ≡ false
  other_key key apart same = grind (arith, nat_tests)

  pub booked_set : (books : Books) → IsSome (lookup (is_at (nat_cmp account)) books)
      → lookup (is_at (nat_cmp other)) (set_value (is_at (nat_cmp account)) books booked) ≡ (if other == account then Some booked else account_so_far other books)
  booked_set [] there = let never : false ≡ true = there in cc
  booked_set ((key, was) ∷ books) there =
      set_at (is_at (nat_cmp account) key) (is_at (nat_cmp other) key) (other == account) key was books _ (one_key key) (other_key key) refl
      (λ not. booked_set books (rw not at there))

-- ---- accounts ascend

-- each number is above those before it, and the first is at least so much
abbrev pub Ascend : ℕ → Books → Type 0
Ascend least [] = Unit {0}
Ascend least (book ∷ books) = (least ≤ book.0) × Ascend (book.0 + 1) books

is_less : (number key : ℕ) → nat_cmp number key ≡ order.Less → number + 1 ≤ key
is_less number key less = grind (arith, nat_tests)

is_greater : (number key : ℕ) → nat_cmp number key ≡ order.Greater → key + 1 ≤ number
is_greater number key greater = grind (arith, nat_tests)

module _ (account : ℕ) (booked : Booked) where
  inserted_by : (how : Ordering) (least key : ℕ) (was : Booked) (books : Books) → nat_cmp account key ≡ how → least ≤ account → least ≤ key → Ascend (key + 1) books
      → ((key + 1 ≤ account) → Ascend (key + 1) (insert_entry nat_cmp books account booked))
      → Ascend least (match_ordering how ((account, booked) ∷ (key, was) ∷ books) ((key, booked) ∷ books) ((key, was) ∷ insert_entry nat_cmp books account booked))
  inserted_by order.Less least key was books how low first ascend rest = (low, (is_less account key how, ascend))
  inserted_by order.Equal least key was books how low first ascend rest = (first, ascend)
  inserted_by order.Greater least key was books how low first ascend rest = (first, rest (is_greater account key how))

  inserted : (least : ℕ) (books : Books) → least ≤ account → Ascend least books → Ascend least (insert_entry nat_cmp books account booked)
  inserted least [] low ascend = (low, tt)
  inserted least ((key, was) ∷ books) low ascend =
      inserted_by (nat_cmp account key) least key was books refl low ascend.0 ascend.1 (λ above. inserted (key + 1) books above ascend.1)

  set_by : (here : Bool) (least key : ℕ) (was : Booked) (books later : Books) → least ≤ key → Ascend (key + 1) books → Ascend (key + 1) later
      → Ascend least (cond here ((key, booked) ∷ books) ((key, was) ∷ later))
  set_by true least key was books later low ascend set = (low, ascend)
  set_by false least key was books later low ascend set = (low, set)

  set_ascends : (least : ℕ) (books : Books) → Ascend least books → Ascend least (set_value (is_at (nat_cmp account)) books booked)
  set_ascends least [] ascend = tt
  set_ascends least ((key, was) ∷ books) ascend = set_by (is_at (nat_cmp account) key) least key was books _ ascend.0 ascend.1 (set_ascends (key + 1) books ascend.1)

-- ---- the accounts of a table ascend

opened_ascends : (account opening : ℕ) (until : Option ℕ) (books next : Books) (found : Option Booked) → opened account opening until books found ≡ Ok next → Ascend 0 books → Ascend 0 next
opened_ascends account opening until books next None is ascend =
    let same : with_opening account opening until books ≡ next = cc in rw (← same) (inserted account _ 0 books (omega arith) ascend)
opened_ascends account opening until books next (Some booked) is ascend = cc

entered_ascends : (account : ℕ) (entry : EntryData) (books next : Books) (found : Option Booked) → entered_in_books account entry books found ≡ Ok next → Ascend 0 books → Ascend 0 next
entered_ascends account entry books next None is ascend = cc
entered_ascends account entry books next (Some booked) is ascend =
    let same : books_with_entry account booked entry books ≡ next = cc in rw (← same) (set_ascends account _ 0 books ascend)

judged_ascends : (books next : Books) (said : Result RowSaid RowKind) → Rattle.table_core.specs.Judging.and_then said (judged_books books) ≡ Ok next → Ascend 0 books → Ascend 0 next
judged_ascends books next (Ok (Opens account opening until)) is ascend = opened_ascends account opening until books next (account_so_far account books) is ascend
judged_ascends books next (Ok (Enters account entry)) is ascend = entered_ascends account entry books next (account_so_far account books) is ascend
judged_ascends books next (Err why) is ascend = cc

row_ascends : (header : ℕ) (books next : Books) (fields : Fields) → book_row_at (version_at header) books fields ≡ Ok next → Ascend 0 books → Ascend 0 next
unfolding book_row_at
row_ascends header books next fields is ascend = judged_ascends books next (row_said_in (columns_in (version_at header) fields)) is ascend

pub books_ascend : (most : ℕ) (rows : List Fields) (books : Books) → books_of most rows ≡ Ok books → Ascend 0 books
books_ascend most rows books is = table_keeps (books_form most) (Ascend 0) row_ascends rows books tt is

-- ---- so each is found by its number

not_at : (number key : ℕ) → key + 1 ≤ number → is_at (nat_cmp number) key ≡ false
not_at number key above = grind (arith, nat_tests)

at_itself : (number : ℕ) → is_at (nat_cmp number) number ≡ true
at_itself number = grind (arith, nat_tests)

-- each book is found in all of them
abbrev pub AreFoundIn : Books → Books → Type 0
AreFoundIn all [] = Unit {0}
AreFoundIn all (book ∷ books) = (account_so_far book.0 all ≡ Some book.1) × AreFoundIn all books

found_later : (least key : ℕ) (was : Booked) (books some : Books) → key + 1 ≤ least → Ascend least some → AreFoundIn books some → AreFoundIn ((key, was) ∷ books) some
found_later least key was books [] above ascend found = tt
found_later least key was books (book ∷ some) above ascend found =
    (rw (not_at book.0 key (omega (arith, above, ascend.0))) found.0, found_later (book.0 + 1) key was books some (omega (arith, above, ascend.0)) ascend.1 found.1)

pub all_found : (least : ℕ) (books : Books) → Ascend least books → AreFoundIn books books
all_found least [] ascend = tt
all_found least ((key, booked) ∷ books) ascend =
    (rw (at_itself key) refl, found_later (key + 1) key booked books books (omega arith) ascend.1 (all_found (key + 1) books ascend.1))
