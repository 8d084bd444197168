-- The table of books is the lines of plain rows.
use Rattle.std.proofs.Common.{◌≡◌, ℕ, ◌≤◌, true, false, Option, Some, None, List, [], ◌∷◌, ◌++◌, map, refl, sym, ap, append_assoc, arith}
use Rattle.std.specs.Prelude.{IfSome}
use Rattle.std.specs.Fmt.{decimal}
use Rattle.std.specs.List.{All, flat_map}
use Rattle.std.proofs.lemmas.List.Concat.{flat_map-append}
use Rattle.std.proofs.lemmas.List.Elements.{All-append, All-cons, All-from_recursion, All-head, All-nil, All-tail}
use Rattle.csv.specs.Reading.{strip_bom}
use Rattle.account_core.specs.Asked.{Asked, Credits, Reserves, Returns, Settles}
use Rattle.account_core.specs.Entries.{EntryData}
use Rattle.account_core.specs.Laws.{IsReplyInRange}
use Rattle.account_core.specs.declared.entry.Reply.{Reply}
use Rattle.account_core.specs.declared.entry.Reply.TheVariants as reply
use Rattle.book_texts.specs.Columns.{Answer, Operation, reply_fields, in_fourth, no_answer, opening_columns, operation_of}
use Rattle.book_texts.specs.declared.version.Version.{Version}
use Rattle.book_texts.specs.declared.version.Version.TheVariants as version
use Rattle.book_texts.specs.Fits.{FitsAsked, FitsEntry, IsInterval, IsMoment, IsRate}
use Rattle.account_core.specs.Closed.{Closed}
use Rattle.table_core.specs.Printed.{DecimalsArePlain, IsPlain, IsPlainRow, line_of, lines_of}
use Rattle.table_core.specs.Rows.{Fields}
use Rattle.price_core.specs.declared.times.TimeInfo.TheVariants as info
use Rattle.book_texts.specs.BookTexts.{book_rows, book_text, entry_row, book_header, book_row}
use Rattle.book_texts.specs.Books.{fourth_header, third_header}
use Rattle.run_laws.specs.Printable.{FitsBook}
use Rattle.table_core.specs.Fields.{number_or_empty}

-- ---- fields

-- the columns of version 4, and those that follow in each version
abbrev pub steps_fields : Version → List ℕ → List ℕ → Fields → Fields
steps_fields version.Four first step others = first ∷ step ∷ others
steps_fields version first step others = others

abbrev pub row_fields : List ℕ → List ℕ → Operation → Answer → Fields
row_fields account seat o a =
    account ∷ seat ∷ o.op ∷ o.call ∷ o.x1 ∷ o.x2 ∷ o.x3 ∷ o.x4 ∷ o.x5 ∷ o.x6 ∷ o.x7 ∷ steps_fields o.version o.x8 o.x9 (a.reply ∷ a.y1 ∷ a.y2 ∷ a.y3 ∷ [])

abbrev pub entry_fields : Version → ℕ → EntryData → Fields
entry_fields version account entry = row_fields (decimal account) (decimal entry.seat) (operation_of version entry.asked) (reply_fields entry.reply)

abbrev pub opening_fields : Version → Closed → Fields
opening_fields version book = row_fields (decimal book.account) [] (opening_columns version book.opening book.until) no_answer

abbrev pub book_fields : Version → Closed → List Fields
book_fields version book = opening_fields version book ∷ map (entry_fields version book.account) book.history

abbrev pub header_fields : Version → Fields
header_fields version.Four = fourth_header
header_fields version = third_header

abbrev pub table_fields : Version → List Closed → List Fields
table_fields version books = header_fields version ∷ flat_map (book_fields version) books

-- ---- lines

row_line : (account : ℕ) (seat : List ℕ) (o : Operation) (a : Answer) → book_row account seat o a ≡ line_of (row_fields (decimal account) seat o a)
row_line account seat o a = by o.version refl
  where
    by : (version : Version) → o.version ≡ version → book_row account seat o a ≡ line_of (row_fields (decimal account) seat o a)
    by version.One is = rw is (simp append_assoc)
    by version.Two is = rw is (simp append_assoc)
    by version.Three is = rw is (simp append_assoc)
    by version.Four is = rw is (simp append_assoc)

entry_lines : (version : Version) (account : ℕ) (history : List EntryData)
    → flat_map (entry_row version account) history ≡ flat_map line_of (map (entry_fields version account) history)
entry_lines version account [] = refl
entry_lines version account (entry ∷ history) =
    rw (row_line account (decimal entry.seat) (operation_of version entry.asked) (reply_fields entry.reply), entry_lines version account history) refl

book_lines : (version : Version) (book : Closed) → book_rows version book ≡ flat_map line_of (book_fields version book)
book_lines version book =
    rw (row_line book.account [] (opening_columns version book.opening book.until) no_answer, entry_lines version book.account book.history) refl

all_lines : (version : Version) (books : List Closed) → flat_map (book_rows version) books ≡ flat_map line_of (flat_map (book_fields version) books)
all_lines version [] = refl
all_lines version (book ∷ books) =
    rw (book_lines version book, all_lines version books) (sym (flat_map-append line_of (book_fields version book) (flat_map (book_fields version) books)))

header_line : (version : Version) → book_header version ≡ line_of (header_fields version)
header_line version.One = refl
header_line version.Two = refl
header_line version.Three = refl
header_line version.Four = refl

pub text_lines : (version : Version) (books : List Closed) → book_text version books ≡ lines_of (table_fields version books)
unfolding book_text
text_lines version books =
    rw (all_lines version books) (ap (λ first. first ++ flat_map line_of (flat_map (book_fields version) books)) (header_line version))

pub unmarked : (version : Version) (rows : List Fields) → strip_bom (lines_of (header_fields version ∷ rows)) ≡ lines_of (header_fields version ∷ rows)
unfolding strip_bom
unmarked version.One rows = refl
unmarked version.Two rows = refl
unmarked version.Three rows = refl
unmarked version.Four rows = refl

-- ---- plain fields

pub record IsPlainOperation (o : Operation) : Type 0 where
  pub op : IsPlain o.op
  pub call : IsPlain o.call
  pub x1 : IsPlain o.x1
  pub x2 : IsPlain o.x2
  pub x3 : IsPlain o.x3
  pub x4 : IsPlain o.x4
  pub x5 : IsPlain o.x5
  pub x6 : IsPlain o.x6
  pub x7 : IsPlain o.x7
  pub x8 : IsPlain o.x8
  pub x9 : IsPlain o.x9

pub record IsPlainAnswer (a : Answer) : Type 0 where
  pub reply : IsPlain a.reply
  pub y1 : IsPlain a.y1
  pub y2 : IsPlain a.y2
  pub y3 : IsPlain a.y3

row_plain : (account seat : List ℕ) (o : Operation) (a : Answer) → IsPlain account → IsPlain seat → IsPlainOperation o → IsPlainAnswer a → IsPlainRow (row_fields account seat o a)
row_plain account seat o a of_account of_seat op answer = by o.version refl
  where
    short : Fields
    short = account ∷ seat ∷ o.op ∷ o.call ∷ o.x1 ∷ o.x2 ∷ o.x3 ∷ o.x4 ∷ o.x5 ∷ o.x6 ∷ o.x7 ∷ a.reply ∷ a.y1 ∷ a.y2 ∷ a.y3 ∷ []

    shorter : IsPlainRow short
    shorter = record {
      several = omega arith;
      plain = All-from_recursion IsPlain short
          (of_account, (of_seat, (op.op, (op.call, (op.x1, (op.x2, (op.x3, (op.x4, (op.x5, (op.x6, (op.x7, (answer.reply, (answer.y1, (answer.y2, (answer.y3, tt)))))))))))))));
    }

    long : Fields
    long = account ∷ seat ∷ o.op ∷ o.call ∷ o.x1 ∷ o.x2 ∷ o.x3 ∷ o.x4 ∷ o.x5 ∷ o.x6 ∷ o.x7 ∷ o.x8 ∷ o.x9 ∷ a.reply ∷ a.y1 ∷ a.y2 ∷ a.y3 ∷ []

    longer : IsPlainRow long
    longer = record {
      several = omega arith;
      plain = All-from_recursion IsPlain long
          (of_account, (of_seat, (op.op, (op.call, (op.x1, (op.x2, (op.x3, (op.x4, (op.x5, (op.x6, (op.x7, (op.x8, (op.x9, (answer.reply, (answer.y1, (answer.y2, (answer.y3, tt)))))))))))))))));
    }

    by : (version : Version) → o.version ≡ version → IsPlainRow (row_fields account seat o a)
    by version.One is = rw is shorter
    by version.Two is = rw is shorter
    by version.Three is = rw is shorter
    by version.Four is = rw is longer

module _ (plain : DecimalsArePlain) where
  optional_rate : (number : Option ℕ) → IfSome number IsRate → IsPlain (number_or_empty number)
  optional_rate None fits = refl
  optional_rate (Some number) fits = plain number (omega (arith, fits))

  optional_interval : (number : Option ℕ) → IfSome number IsInterval → IsPlain (number_or_empty number)
  optional_interval None fits = refl
  optional_interval (Some number) fits = plain number (omega (arith, fits.1))

  optional_moment : (number : Option ℕ) → IfSome number IsMoment → IsPlain (number_or_empty number)
  optional_moment None fits = refl
  optional_moment (Some number) fits = plain number (omega (arith, fits))

  fourth : (version : Version) (number : ℕ) → number ≤ 864000 → IsPlain (in_fourth version number)
  fourth version.One number fits = refl
  fourth version.Two number fits = refl
  fourth version.Three number fits = refl
  fourth version.Four number fits = plain number (omega (arith, fits))

  operation_plain : (version : Version) (asked : Asked) → FitsAsked asked → IsPlainOperation (operation_of version asked)
  operation_plain version (Credits amount until) fits =
      record { op = refl; call = refl; x1 = plain amount (omega (arith, fits.0)); x2 = optional_moment until fits.1; x3 = refl; x4 = refl; x5 = refl; x6 = refl; x7 = refl; x8 = refl; x9 = refl }
  operation_plain version (Reserves call plan wanted least at) fits = record {
    op = refl;
    call = plain call (omega (arith, fits.0));
    x1 = plain plan.fee (omega (arith, fits.1.fee));
    x2 = plain plan.before (omega (arith, fits.1.first));
    x3 = optional_rate plan.after fits.1.second;
    x4 = plain wanted (omega (arith, fits.2));
    x5 = plain least (omega (arith, fits.3));
    x6 = plain plan.free (omega (arith, fits.1.free));
    x7 = plain at (omega (arith, fits.4));
    x8 = fourth version plan.first fits.1.least;
    x9 = fourth version plan.step fits.1.step.1;
  }
  operation_plain version (Settles call number (info.NoSwitch t)) fits = record {
    op = refl;
    call = plain call (omega (arith, fits.0));
    x1 = plain number (omega (arith, fits.1));
    x2 = refl;
    x3 = plain t (omega (arith, fits.2));
    x4 = refl;
    x5 = refl;
    x6 = refl;
    x7 = refl;
    x8 = refl;
    x9 = refl;
  }
  operation_plain version (Settles call number (info.Switch since interval)) fits = record {
    op = refl;
    call = plain call (omega (arith, fits.0));
    x1 = plain number (omega (arith, fits.1));
    x2 = refl;
    x3 = plain since (omega (arith, fits.2.0));
    x4 = optional_interval interval fits.2.1;
    x5 = refl;
    x6 = refl;
    x7 = refl;
    x8 = refl;
    x9 = refl;
  }
  operation_plain version (Returns call) fits = record { op = refl; call = plain call (omega (arith, fits)); x1 = refl; x2 = refl; x3 = refl; x4 = refl; x5 = refl; x6 = refl; x7 = refl; x8 = refl; x9 = refl }

  answer_plain : (answer : Reply) → IsReplyInRange answer → IsPlainAnswer (reply_fields answer)
  answer_plain (reply.Credited available) fits = record { reply = refl; y1 = refl; y2 = refl; y3 = plain available (omega (arith, fits)) }
  answer_plain (reply.CreditOver available) fits = record { reply = refl; y1 = refl; y2 = refl; y3 = plain available (omega (arith, fits)) }
  answer_plain (reply.Granted units true available) fits =
      record { reply = refl; y1 = plain units (omega (arith, fits.0)); y2 = refl; y3 = plain available (omega (arith, fits.1)) }
  answer_plain (reply.Granted units false available) fits =
      record { reply = refl; y1 = plain units (omega (arith, fits.0)); y2 = refl; y3 = plain available (omega (arith, fits.1)) }
  answer_plain (reply.Denied available) fits = record { reply = refl; y1 = refl; y2 = refl; y3 = plain available (omega (arith, fits)) }
  answer_plain (reply.Settled paid available) fits =
      record { reply = refl; y1 = plain paid (omega (arith, fits.0)); y2 = refl; y3 = plain available (omega (arith, fits.1)) }
  answer_plain (reply.Forfeit paid available) fits =
      record { reply = refl; y1 = plain paid (omega (arith, fits.0)); y2 = refl; y3 = plain available (omega (arith, fits.1)) }
  answer_plain (reply.Returned paid available) fits =
      record { reply = refl; y1 = plain paid (omega (arith, fits.0)); y2 = refl; y3 = plain available (omega (arith, fits.1)) }

  -- ---- plain rows

  entries_plain : (version : Version) (account : ℕ) (history : List EntryData) → account ≤ 4294967295 → All FitsEntry history
      → All IsPlainRow (map (entry_fields version account) history)
  entries_plain version account [] small fit = All-nil IsPlainRow
  entries_plain version account (entry ∷ history) small fit =
      let fits : FitsEntry entry = All-head FitsEntry entry history fit in
      All-cons IsPlainRow (entry_fields version account entry) (map (entry_fields version account) history)
      (row_plain _ _ _ _ (plain account (omega (arith, small))) (plain entry.seat (omega (arith, fits.seat))) (operation_plain version entry.asked fits.asked)
      (answer_plain entry.reply fits.reply))
      (entries_plain version account history small (All-tail FitsEntry entry history fit))

  opening_plain : (version : Version) (book : Closed) → FitsBook book → IsPlainRow (opening_fields version book)
  opening_plain version book fits =
      row_plain _ [] (opening_columns version book.opening book.until) no_answer (plain book.account (omega (arith, fits.account))) refl
      (record {
        op = refl;
        call = refl;
        x1 = plain book.opening (omega (arith, fits.opening));
        x2 = optional_moment book.until fits.until;
        x3 = refl;
        x4 = refl;
        x5 = refl;
        x6 = refl;
        x7 = refl;
        x8 = refl;
        x9 = refl;
      })
      (record { reply = refl; y1 = refl; y2 = refl; y3 = refl })

  books_plain : (version : Version) (books : List Closed) → All FitsBook books → All IsPlainRow (flat_map (book_fields version) books)
  books_plain version [] fit = All-nil IsPlainRow
  books_plain version (book ∷ books) fit =
      let fits : FitsBook book = All-head FitsBook book books fit in
      All-append IsPlainRow (book_fields version book) (flat_map (book_fields version) books)
      (All-cons IsPlainRow (opening_fields version book) (map (entry_fields version book.account) book.history) (opening_plain version book fits)
      (entries_plain version book.account book.history fits.account fits.history))
      (books_plain version books (All-tail FitsBook book books fit))

  third_plain : IsPlainRow third_header
  third_plain = record {
    several = omega arith;
    plain = All-from_recursion IsPlain third_header (refl, (refl, (refl, (refl, (refl, (refl, (refl, (refl, (refl, (refl, (refl, (refl, (refl, (refl, (refl, tt)))))))))))))));
  }

  header_plain : (version : Version) → IsPlainRow (header_fields version)
  header_plain version.One = third_plain
  header_plain version.Two = third_plain
  header_plain version.Three = third_plain
  header_plain version.Four = record {
    several = omega arith;
    plain = All-from_recursion IsPlain fourth_header
        (refl, (refl, (refl, (refl, (refl, (refl, (refl, (refl, (refl, (refl, (refl, (refl, (refl, (refl, (refl, (refl, (refl, tt)))))))))))))))));
  }

  pub table_plain : (version : Version) (books : List Closed) → All FitsBook books → All IsPlainRow (table_fields version books)
  table_plain version books fit = All-cons IsPlainRow (header_fields version) (flat_map (book_fields version) books) (header_plain version) (books_plain version books fit)
