-- What a row of the table of books says.
use Rattle.std.specs.Prelude.{◌&&◌, ◌+◌, ℕ, Bool, List, Option, Result, codes, if◌then◌else◌}
use Rattle.std.specs.Str.{bytes_eq}
use Rattle.account_core.specs.Entries.{EntryData}
use Rattle.book_texts.specs.Column.{money_of, seat_of}
use Rattle.book_texts.specs.Columns.{Answer, Operation, answer_at, operation_at}
use Rattle.book_texts.specs.Operations.{asked_in, is_asked_blank, is_money_blank, until_of}
use Rattle.book_texts.specs.Replies.{is_reply_blank, reply_in}
use Rattle.book_texts.specs.Versions.{operation_width}
use Rattle.book_texts.specs.Words.{op_word_in, reply_word_in}
use Rattle.book_texts.specs.declared.version.Version.{Version}
use Rattle.table_core.specs.Fields.{field_in, is_empty_field, number_in_field, when_blank}
use Rattle.table_core.specs.Judging.{and_then}
use Rattle.table_core.specs.declared.fault.RowKind.{RowKind}

-- the columns of a row
pub record Columns : Type 0 where
  pub account : List ℕ
  pub seat : List ℕ
  pub operation : Operation
  pub answer : Answer

-- the place of the reply, behind the operation
abbrev pub reply_place : Version → ℕ
reply_place version = 2 + operation_width version

-- the fields of a row by the columns of its version
abbrev pub columns_in : Version → List (List ℕ) → Columns
columns_in version fields = record {
  account = field_in fields 0;
  seat = field_in fields 1;
  operation = operation_at version fields 2;
  answer = answer_at fields (reply_place version);
}

-- what a row says: an account opens with a credit and its last moment, if it has one, or has one more entry
pub data RowSaid : Type 0 where
  Opens : (account opening : ℕ) (until : Option ℕ) → RowSaid
  Enters : (account : ℕ) (entry : EntryData) → RowSaid

-- the number of an account
abbrev pub book_account_in : List ℕ → Result ℕ RowKind
book_account_in text = number_in_field 4294967295 text

-- ---- openings

-- the row opens an account
abbrev pub is_opening : Columns → Bool
is_opening columns = bytes_eq columns.operation.op (codes "opening")

-- the fields of the reply are empty
abbrev pub is_no_answer : Answer → Bool
is_no_answer a = is_empty_field a.reply && is_empty_field a.y1 && is_empty_field a.y2 && is_empty_field a.y3

-- all but the account, the word, x1 and, from version 3 on, x2 is empty; the reply is not read as a word
abbrev pub is_opening_blank : Columns → Bool
is_opening_blank columns = is_empty_field columns.seat && is_money_blank columns.operation && is_no_answer columns.answer

-- x1 of an opening is the credit, and x2 its last moment
unfoldable pub opening_in : Columns → Result RowSaid RowKind
opening_in columns =
    and_then (book_account_in columns.account) (λ account.
    and_then (money_of columns.operation.x1) (λ opening.
    and_then (until_of columns.operation.version columns.operation.x2) (λ until.
    when_blank (is_opening_blank columns) (Opens account opening until))))

-- ---- entries

-- the words are judged first, then the numbers, then the empty columns
unfoldable pub entry_in : Columns → Result RowSaid RowKind
entry_in columns =
    and_then (op_word_in columns.operation) (λ op_word.
    and_then (reply_word_in columns.answer) (λ reply_word.
    and_then (book_account_in columns.account) (λ account.
    and_then (seat_of columns.seat) (λ seat.
    and_then (asked_in op_word columns.operation) (λ asked.
    and_then (reply_in reply_word columns.answer) (λ reply.
    when_blank (is_asked_blank op_word columns.operation && is_reply_blank reply_word columns.answer)
    (Enters account (record { seat = seat; asked = asked; reply = reply }))))))))

-- what a row says, wherever it is
abbrev pub row_said_in : Columns → Result RowSaid RowKind
row_said_in columns = if is_opening columns then opening_in columns else entry_in columns
