-- The rows that are printed of books are read back.
use Rattle.std.proofs.Common.{◌≡◌, ℕ, ◌+◌, ◌≤◌, Bool, true, false, List, [], ◌∷◌, ◌++◌, length, map, Option, Some, None, Result, Ok, refl, ap, ◌∙◌, append_assoc, append-nil, add-zero, arith}
use Rattle.std.specs.BTreeMap.{insert_entry, is_at}
use Rattle.std.specs.Fmt.{decimal}
use Rattle.std.specs.List.{All, AllByRecursion, cons_option, filter_map, flat_map, list_all, list_any}
use Rattle.std.specs.List.Sorted.{IsStrictlySortedBy}
use Rattle.std.specs.Map.{lookup, set_value}
use Rattle.std.specs.Ordering.{nat_cmp}
use Rattle.std.specs.Str.{bytes_eq}
use Rattle.std.specs.Prelude.{◌||◌, codes, if◌then◌else◌, is_none}
use Rattle.std.specs.declared.cmp.Ordering.TheVariants as order
use Rattle.std.proofs.lemmas.Bool.Decides.{nat_tests}
use Rattle.std.proofs.lemmas.List.Elements.{All-head, All-tail}
use Rattle.std.proofs.lemmas.Bool.{or_parts}
use Rattle.run_laws.proofs.ReadBack.{number_read, money_read, optional_moment_read}
use Rattle.account_core.specs.Answers.{IsLegal}
use Rattle.account_core.specs.Asked.{Asked, Credits, Reserves, Returns, Settles}
use Rattle.account_core.specs.Checked.{entries_counted}
use Rattle.account_core.specs.Entries.{EntryData}
use Rattle.book_texts.specs.Column.{seat_of}
use Rattle.book_texts.specs.Columns.{Answer, Operation, reply_fields, no_answer, opening_columns, operation_at, operation_of}
use Rattle.book_texts.specs.Fits.{FitsEntry}
use Rattle.run_laws.specs.ReadBack.{OperationsAreRead, PrintsWhole, RepliesAreRead}
use Rattle.book_texts.specs.Versions.{version_at}
use Rattle.book_texts.specs.declared.version.Version.{Version}
use Rattle.book_texts.specs.declared.version.Version.TheVariants as version
use Rattle.account_core.specs.Closed.{Closed}
use Rattle.table_core.specs.Printed.{DecimalsArePlain, DecimalsAreRead, TablesAreRead}
use Rattle.table_core.specs.Rows.{Fields, rows_of}
use Rattle.table_core.specs.Tables.{rows_from, table_of}
use Rattle.table_core.proofs.TableLemmas.{no_fault}
use Rattle.table_core.specs.declared.fault.RowFault.{RowFault}
use Rattle.price_core.specs.Rates.{are_steps}
use Rattle.price_core.specs.declared.times.TimeInfo.TheVariants as info
use Rattle.book_texts.specs.Audits.{AreVerdicts, IsAuditOf, IsSummedUp, AccountVerdict, all_sum_lines, audited, passed_books}
use Rattle.book_texts.specs.BookRows.{Enters, Opens, book_account_in, columns_in, entry_in, opening_in, row_said_in}
use Rattle.book_texts.specs.BookTexts.{asks_steps, book_text, history_has_steps, version_of}
use Rattle.book_texts.specs.Books.{Books, Booked, books_form, book_row_at}
use Rattle.run_laws.specs.PrintedBooks.{BooksAreRead, PrintedBooksHaveTheirLines, PrintedBooksPass}
use Rattle.run_laws.specs.Printable.{ArePrintable, FitsBook, row_count, account_of_book}
use Rattle.book_texts.specs.RunTexts.{account_line, call_line, line_in}
use Rattle.run_laws.proofs.PrintedRows.{book_fields, entry_fields, opening_fields, row_fields, table_fields, table_plain, text_lines, unmarked}

-- ---- the last account of a list that rises

abbrev pub IsAbove : ℕ → Books → Type 0
IsAbove account front = AllByRecursion (λ other. nat_cmp account other.0 ≡ order.Greater) front

itself : (account : ℕ) → nat_cmp account account ≡ order.Equal
itself account = grind (arith, nat_tests)

later_is_above : (first later : ℕ) → nat_cmp first later ≡ order.Less → nat_cmp later first ≡ order.Greater
later_is_above first later less = grind (arith, nat_tests)

module _ (account : ℕ) where
  not_booked : (front : Books) → IsAbove account front → lookup (is_at (nat_cmp account)) front ≡ None
  not_booked [] above = refl
  not_booked (other ∷ front) above = rw above.0 (not_booked front above.1)

  opened_last : (front : Books) (booked : Booked) → IsAbove account front → insert_entry nat_cmp front account booked ≡ front ++ (account, booked) ∷ []
  opened_last [] booked above = refl
  opened_last (other ∷ front) booked above = rw above.0 (ap (λ l. other ∷ l) (opened_last front booked above.1))

  booked_last : (front : Books) (booked : Booked) → IsAbove account front → lookup (is_at (nat_cmp account)) (front ++ (account, booked) ∷ []) ≡ Some booked
  booked_last [] booked above = rw (itself account) refl
  booked_last (other ∷ front) booked above = rw above.0 (booked_last front booked above.1)

  set_last : (front : Books) (was booked : Booked) → IsAbove account front → set_value (is_at (nat_cmp account)) (front ++ (account, was) ∷ []) booked ≡ front ++ (account, booked) ∷ []
  set_last [] was booked above = rw (itself account) refl
  set_last (other ∷ front) was booked above = rw above.0 (ap (λ l. other ∷ l) (set_last front was booked above.1))

  above_more : (front : Books) (other : ℕ × Booked) → IsAbove account front → nat_cmp account other.0 ≡ order.Greater → IsAbove account (front ++ other ∷ [])
  above_more [] other above last = (last, tt)
  above_more (first ∷ front) other above last = (above.0, above_more front other above.1 last)

-- each of these books is above all of the accounts before
abbrev pub AreAbove : List Closed → Books → Type 0
AreAbove books front = AllByRecursion (λ book. IsAbove book.account front) books

all_above : (first : Closed) (books : List Closed) (front : Books) → AreAbove books front → AllByRecursion (λ account. nat_cmp first.account account ≡ order.Less) (map (λ book. book.account) books)
    → AreAbove books (front ++ account_of_book first ∷ [])
all_above first [] front above rising = tt
all_above first (book ∷ books) front above rising =
    (above_more book.account front (account_of_book first) above.0 (later_is_above first.account book.account rising.0), all_above first books front above.1 rising.1)

none_before : (books : List Closed) → AreAbove books []
none_before [] = tt
none_before (book ∷ books) = (tt, none_before books)

-- ---- rows

not_opening : (version : Version) (asked : Asked) → bytes_eq (operation_of version asked).op (codes "opening") ≡ false
not_opening version (Credits amount until) = refl
not_opening version (Reserves call plan wanted least at) = refl
not_opening version (Settles call number (info.NoSwitch t)) = refl
not_opening version (Settles call number (info.Switch since interval)) = refl
not_opening version (Returns call) = refl

-- a version in which a table is printed
abbrev IsPrinted : Version → Type 0
IsPrinted version.Three = Unit {0}
IsPrinted version.Four = Unit {0}
IsPrinted version = ⊥

-- what is printed of an operation is its columns in that version
same_operation : (version : Version) → IsPrinted version → (account seat : List ℕ) (asked : Asked) (a : Answer)
    → operation_at version (row_fields account seat (operation_of version asked) a) 2 ≡ operation_of version asked
same_operation version.One printed account seat asked a = absurd printed
same_operation version.Two printed account seat asked a = absurd printed
same_operation version.Three printed account seat (Credits amount until) a = refl
same_operation version.Three printed account seat (Reserves call plan wanted least at) a = refl
same_operation version.Three printed account seat (Settles call number (info.NoSwitch t)) a = refl
same_operation version.Three printed account seat (Settles call number (info.Switch since interval)) a = refl
same_operation version.Three printed account seat (Returns call) a = refl
same_operation version.Four printed account seat (Credits amount until) a = refl
same_operation version.Four printed account seat (Reserves call plan wanted least at) a = refl
same_operation version.Four printed account seat (Settles call number (info.NoSwitch t)) a = refl
same_operation version.Four printed account seat (Settles call number (info.Switch since interval)) a = refl
same_operation version.Four printed account seat (Returns call) a = refl

-- the operation of a printed row has the version of its table
own_version : (version : Version) (asked : Asked) → (operation_of version asked).version ≡ version
own_version version (Credits amount until) = refl
own_version version (Reserves call plan wanted least at) = refl
own_version version (Settles call number (info.NoSwitch t)) = refl
own_version version (Settles call number (info.Switch since interval)) = refl
own_version version (Returns call) = refl

-- where the header of a printed version is, and how many columns it has
abbrev header_place : Version → ℕ
header_place version.Four = 3
header_place version = 2

abbrev columns_of : Version → ℕ
columns_of version.Four = 17
columns_of version = 15

placed : (version : Version) → IsPrinted version → version_at (header_place version) ≡ version
placed version.One printed = absurd printed
placed version.Two printed = absurd printed
placed version.Three printed = refl
placed version.Four printed = refl

wide : (version : Version) (account seat : List ℕ) (o : Operation) (a : Answer) → o.version ≡ version → length (row_fields account seat o a) ≡ columns_of version
wide version.One account seat o a is = rw is refl
wide version.Two account seat o a is = rw is refl
wide version.Three account seat o a is = rw is refl
wide version.Four account seat o a is = rw is refl

one_row : (version : Version) → IsPrinted version → (most number : ℕ) (books next : Books) (fields : Fields) (rest : List Fields) → length fields ≡ columns_of version
    → number ≤ most + 1 → book_row_at version books fields ≡ Ok next
    → rows_from (books_form most) (header_place version) (columns_of version) number books (fields ∷ rest)
    ≡ rows_from (books_form most) (header_place version) (columns_of version) (number + 1) next rest
unfolding rows_from
one_row version printed most number books next fields rest width within is =
    rw (no_fault most (columns_of version) number fields width within, placed version printed, is) refl

-- ---- what has no steps is printed whole in version 3

no_steps : (first step : ℕ) → are_steps first step ≡ false → (first ≡ 0) × (step ≡ 1)
no_steps first step none = (grind (arith, nat_tests), grind (arith, nat_tests))

whole : (asked : Asked) → asks_steps asked ≡ false → PrintsWhole version.Three asked
whole (Credits amount until) none = tt
whole (Reserves call plan wanted least at) none = no_steps plan.first plan.step none
whole (Settles call number info) none = tt
whole (Returns call) none = tt

-- each operation of a history is printed whole
abbrev PrintsAll : Version → List EntryData → Type 0
PrintsAll version history = AllByRecursion (λ entry. PrintsWhole version entry.asked) history

history_whole : (history : List EntryData) → history_has_steps history ≡ false → PrintsAll version.Three history
history_whole [] none = tt
history_whole (entry ∷ history) none =
    let parts = or_parts (asks_steps entry.asked) (history_has_steps history) none in
    (whole entry.asked parts.0, history_whole history parts.1)

history_fourth : (history : List EntryData) → PrintsAll version.Four history
history_fourth [] = tt
history_fourth (entry ∷ history) = (tt, history_fourth history)

abbrev PrintsBooks : Version → List Closed → Type 0
PrintsBooks version books = AllByRecursion (λ book. PrintsAll version book.history) books

books_whole : (books : List Closed) → list_any (λ book. history_has_steps book.history) books ≡ false → PrintsBooks version.Three books
books_whole [] none = tt
books_whole (book ∷ books) none =
    let parts = or_parts (history_has_steps book.history) (list_any (λ b. history_has_steps b.history) books) none in
    (history_whole book.history parts.0, books_whole books parts.1)

books_fourth : (books : List Closed) → PrintsBooks version.Four books
books_fourth [] = tt
books_fourth (book ∷ books) = (history_fourth book.history, books_fourth books)

-- the version that is chosen is one in which a table is printed, and prints all
pub record Chosen (version : Version) (books : List Closed) : Type 0 where
  pub printed : IsPrinted version
  pub prints : PrintsBooks version books

chosen : (steps : Bool) (books : List Closed) → Chosen (version_of steps books) books
chosen steps books = by (steps || list_any (λ book. history_has_steps book.history) books) refl
  where
    by : (b : Bool) → (steps || list_any (λ book. history_has_steps book.history) books) ≡ b → Chosen (if b then version.Four else version.Three) books
    by true is = record { printed = tt; prints = books_fourth books }
    by false is = record { printed = tt; prints = books_whole books (or_parts steps _ is).1 }

module _ (reads : DecimalsAreRead) (operations : OperationsAreRead) (replies : RepliesAreRead) where
  account_read : (account : ℕ) → account ≤ 4294967295 → book_account_in (decimal account) ≡ Ok account
  account_read account small = number_read reads 4294967295 account (omega arith) small

  seat_read : (seat : ℕ) → seat ≤ 15 → seat_of (decimal seat) ≡ Ok seat
  seat_read seat small = number_read reads 15 seat (omega arith) small

  opening_said : (version : Version) → IsPrinted version → (book : Closed) → FitsBook book
      → row_said_in (columns_in version (opening_fields version book)) ≡ Ok (Opens book.account book.opening book.until)
  unfolding opening_in
  opening_said version.One printed book fits = absurd printed
  opening_said version.Two printed book fits = absurd printed
  opening_said version.Three printed book fits =
      rw (account_read book.account fits.account, money_read reads book.opening fits.opening, optional_moment_read reads book.until fits.until) refl
  opening_said version.Four printed book fits =
      rw (account_read book.account fits.account, money_read reads book.opening fits.opening, optional_moment_read reads book.until fits.until) refl

  entry_said : (version : Version) → IsPrinted version → (account : ℕ) (entry : EntryData) → account ≤ 4294967295 → FitsEntry entry → PrintsWhole version entry.asked
      → row_said_in (columns_in version (entry_fields version account entry)) ≡ Ok (Enters account entry)
  unfolding entry_in
  entry_said version.One printed account entry small fits prints = absurd printed
  entry_said version.Two printed account entry small fits prints = absurd printed
  entry_said version.Three printed account entry small fits prints =
      let asked = operations version.Three entry.asked fits.asked prints in
      let reply = replies entry.reply fits.reply in
      rw (
        same_operation version.Three tt (decimal account) (decimal entry.seat) entry.asked (reply_fields entry.reply),
        own_version version.Three entry.asked,
        not_opening version.Three entry.asked,
        asked.known,
        reply.known,
        account_read account small,
        seat_read entry.seat fits.seat,
        asked.read,
        reply.read,
        asked.blank,
        reply.blank,
      ) refl
  entry_said version.Four printed account entry small fits prints =
      let asked = operations version.Four entry.asked fits.asked prints in
      let reply = replies entry.reply fits.reply in
      rw (
        same_operation version.Four tt (decimal account) (decimal entry.seat) entry.asked (reply_fields entry.reply),
        own_version version.Four entry.asked,
        not_opening version.Four entry.asked,
        asked.known,
        reply.known,
        account_read account small,
        seat_read entry.seat fits.seat,
        asked.read,
        reply.read,
        asked.blank,
        reply.blank,
      ) refl

  module _ (version : Version) (printed : IsPrinted version) where
    opening_at : (book : Closed) (front : Books) → FitsBook book → IsAbove book.account front
        → book_row_at version front (opening_fields version book) ≡ Ok (front ++ (book.account, record { opening = book.opening; until = book.until; history = [] }) ∷ [])
    unfolding book_row_at
    opening_at book front fits above = rw (opening_said version printed book fits, not_booked book.account front above, opened_last book.account front _ above) refl

    entry_at : (account opening : ℕ) (until : Option ℕ) (before : List EntryData) (entry : EntryData) (front : Books) → account ≤ 4294967295 → FitsEntry entry
        → PrintsWhole version entry.asked → IsAbove account front
        → book_row_at version (front ++ (account, record { opening = opening; until = until; history = before }) ∷ []) (entry_fields version account entry)
        ≡ Ok (front ++ (account, record { opening = opening; until = until; history = before ++ entry ∷ [] }) ∷ [])
    unfolding book_row_at
    entry_at account opening until before entry front small fits prints above =
        rw (entry_said version printed account entry small fits prints, booked_last account front _ above, set_last account front _ _ above) refl

    -- ---- books

    -- the rows from a number on
    abbrev from : ℕ → ℕ → Books → List Fields → Result Books RowFault
    from most number books rows = rows_from (books_form most) (header_place version) (columns_of version) number books rows

    entries_from : (most account opening : ℕ) (until : Option ℕ) (front : Books) → account ≤ 4294967295 → IsAbove account front → (history before : List EntryData) (number : ℕ)
        (rest : List Fields) → All FitsEntry history → PrintsAll version history → number + length history ≤ most + 2
        → from most number (front ++ (account, record { opening = opening; until = until; history = before }) ∷ []) (map (entry_fields version account) history ++ rest)
        ≡ from most (number + length history) (front ++ (account, record { opening = opening; until = until; history = before ++ history }) ∷ []) rest
    entries_from most account opening until front small above [] before number rest fit prints room = rw (add-zero number, append-nil before) refl
    entries_from most account opening until front small above (entry ∷ history) before number rest fit prints room =
        let entries_counted : (number + 1) + length history ≡ number + length (entry ∷ history) = omega arith in
        let more = entries_from most account opening until front small above history (before ++ entry ∷ []) (number + 1) rest (All-tail FitsEntry entry history fit) prints.1 (omega arith) in
        one_row version printed most number _ _ (entry_fields version account entry) (map (entry_fields version account) history ++ rest)
        (wide version (decimal account) (decimal entry.seat) (operation_of version entry.asked) (reply_fields entry.reply) (own_version version entry.asked)) (omega arith)
        (entry_at account opening until before entry front small (All-head FitsEntry entry history fit) prints.0 above)
        ∙ rw (entries_counted, append_assoc before (entry ∷ []) history) at more

    books_from : (most : ℕ) (books : List Closed) (front : Books) (number : ℕ) → AreAbove books front → IsStrictlySortedBy nat_cmp (map (λ book. book.account) books)
        → All FitsBook books → PrintsBooks version books → number + row_count books ≤ most + 2
        → from most number front (flat_map (book_fields version) books) ≡ Ok (front ++ map account_of_book books)
    unfolding IsStrictlySortedBy rows_from
    books_from most [] front number above rising fit prints room = rw (append-nil front) refl
    books_from most (book ∷ books) front number above rising fit prints room =
        let fits : FitsBook book = All-head FitsBook book books fit in
        let rest = flat_map (book_fields version) books in
        let opened = one_row version printed most number front _ (opening_fields version book) (map (entry_fields version book.account) book.history ++ rest)
        (wide version (decimal book.account) [] (opening_columns version book.opening book.until) no_answer refl) (omega arith) (opening_at book front fits above.0) in
        let entered = entries_from most book.account book.opening book.until front fits.account above.0 book.history [] (number + 1) rest fits.history prints.0 (omega arith) in
        let others = books_from most books (front ++ account_of_book book ∷ []) ((number + 1) + length book.history) (all_above book books front above.1 rising.0) rising.1
        (All-tail FitsBook book books fit) prints.1 (omega arith) in
        opened ∙ entered ∙ rw (append_assoc front (account_of_book book ∷ []) (map account_of_book books)) at others

  table_read : (version : Version) → IsPrinted version → (most : ℕ) (books : List Closed) → ArePrintable most books → PrintsBooks version books
      → table_of (books_form most) (table_fields version books) ≡ Ok (map account_of_book books)
  unfolding table_of
  table_read version.One printed most books are prints = absurd printed
  table_read version.Two printed most books are prints = absurd printed
  table_read version.Three printed most books are prints = books_from version.Three printed most books [] 2 (none_before books) are.rising are.fit prints (omega (arith, are.room))
  table_read version.Four printed most books are prints = books_from version.Four printed most books [] 2 (none_before books) are.rising are.fit prints (omega (arith, are.room))

  module _ (plain : DecimalsArePlain) (tables : TablesAreRead) where
    pub books_read : BooksAreRead
    books_read most steps books are =
        let version = version_of steps books in
        let is = chosen steps books in
        rw (text_lines version books, tables (table_fields version books) (table_plain plain version books are.fit) (unmarked version (flat_map (book_fields version) books)))
        (table_read version is.printed most books are is.prints)

    -- ---- verdicts

    each_passes : (most : ℕ) (rows : List Fields) (books : List Closed) (verdicts : List AccountVerdict) → All (λ book. IsLegal book.opening book.until book.history) books
        → AreVerdicts most rows (map account_of_book books) verdicts → verdicts ≡ map (λ book. (book.account, None)) books
    each_passes most rows [] [] legal are = refl
    each_passes most rows [] (verdict ∷ verdicts) legal are = absurd are
    each_passes most rows (book ∷ books) [] legal are = absurd are
    each_passes most rows (book ∷ books) ((account, None) ∷ verdicts) legal are =
        let Legal : Closed → Type 0 = λ b. IsLegal b.opening b.until b.history in
        rw (are.0.0, each_passes most rows books verdicts (All-tail Legal book books legal) are.1) refl
    each_passes most rows (book ∷ books) ((account, Some wrong) ∷ verdicts) legal are =
        let Legal : Closed → Type 0 = λ b. IsLegal b.opening b.until b.history in
        absurd (are.0.1.0 (All-head Legal book books legal))

    pub books_pass : PrintedBooksPass
    books_pass most steps shown books audit are legal gives =
        let rows = rows_of (book_text (version_of steps books) books) in
        let is_audit : IsAuditOf most false shown rows (map account_of_book books) audit = rw (books_read most steps books are) at gives in
        is_audit.said ∙ ap (audited shown) (each_passes most rows books is_audit.verdicts legal is_audit.are)

    -- ---- their lines

    -- the verdicts on books that are all legal
    abbrev yes_of : List Closed → List AccountVerdict
    yes_of books = map (λ book. (book.account, None)) books

    all_yes : (books : List Closed) → list_all (λ verdict. is_none verdict.1) (yes_of books) ≡ true
    all_yes [] = refl
    all_yes (book ∷ books) = all_yes books

    each_line : (most : ℕ) (shown : Bool) (books : List Closed) → most ≤ 18446744073709551615 → row_count books ≤ most
        → all_sum_lines shown (map account_of_book books) (yes_of books) ≡ flat_map account_line books
    each_line most shown [] small few = refl
    each_line most shown (book ∷ books) small few =
        let count : entries_counted (length book.history) ≡ length book.history = omega (arith, small, few) in
        rw (count, each_line most shown books small (omega (arith, few))) refl

    each_call : (call : ℕ) (books : List Closed) → filter_map (line_in call) (passed_books (map account_of_book books) (yes_of books)) ≡ filter_map (line_in call) books
    each_call call [] = refl
    each_call call (book ∷ books) = ap (cons_option (line_in call book)) (each_call call books)

    pub books_have_lines : PrintedBooksHaveTheirLines
    books_have_lines most steps shown books audit small are legal gives =
        let rows = rows_of (book_text (version_of steps books) books) in
        let is_audit : IsAuditOf most true shown rows (map account_of_book books) audit = rw (books_read most steps books are) at gives in
        let yes = each_passes most rows books is_audit.verdicts legal is_audit.are in
        let sums : IsSummedUp shown (map account_of_book books) (yes_of books) audit = rw yes at is_audit.said in (
          sums.passes ∙ all_yes books,
          record {
            lines = sums.calls;
            are = record { rising = sums.are.rising; each = λ call. sums.are.each call ∙ each_call call books };
            is = sums.lines ∙ ap (λ text. text ++ flat_map call_line sums.calls) (each_line most shown books small are.room);
          },
        )
