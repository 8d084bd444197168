-- The meaning of an ops table: what is asked of one account, or the first fault.
use Rattle.std.specs.Prelude.{ℕ, List, [], ◌∷◌, ◌++◌, Result, codes}
use Rattle.account_core.specs.Asked.{Asked}
use Rattle.table_core.specs.Fields.{field_in, when_blank}
use Rattle.table_core.specs.Judging.{adds, and_then}
use Rattle.table_core.specs.Tables.{TableForm, table_form, table_of}
use Rattle.table_core.specs.declared.fault.RowFault.{RowFault}
use Rattle.table_core.specs.declared.fault.RowKind.{RowKind}
use Rattle.book_texts.specs.Column.{seat_of}
use Rattle.book_texts.specs.Columns.{Operation, operation_at}
use Rattle.book_texts.specs.Operations.{asked_in, is_asked_blank}
use Rattle.book_texts.specs.Versions.{version_at}
use Rattle.book_texts.specs.Words.{op_word_in}
use Rattle.book_texts.specs.declared.version.Version.{Version}

-- what a seat asks
pub record SeatAsk : Type 0 where
  pub seat : ℕ
  pub asked : Asked

-- what the columns of a row ask: its word is judged first, then its numbers, then the empty columns
unfoldable pub asking_in : List ℕ → Operation → Result SeatAsk RowKind
asking_in seat_text columns =
    and_then (op_word_in columns) (λ word.
    and_then (seat_of seat_text) (λ seat.
    and_then (asked_in word columns) (λ asked.
    when_blank (is_asked_blank word columns) (record { seat = seat; asked = asked }))))

-- what a row of a table of this version asks
abbrev pub seat_ask_in : Version → List (List ℕ) → Result SeatAsk RowKind
seat_ask_in version fields = asking_in (field_in fields 0) (operation_at version fields 1)

-- `seat,op,call,x1,x2,x3,x4,x5`; later headers have `x6` too, then `x7`, then `x8` and `x9`
abbrev pub first_ops_header : List (List ℕ)
first_ops_header = codes "seat" ∷ codes "op" ∷ codes "call" ∷ codes "x1" ∷ codes "x2" ∷ codes "x3" ∷ codes "x4" ∷ codes "x5" ∷ []

-- the headers of a table of operations, the oldest first
abbrev pub asks_headers : List (List (List ℕ))
asks_headers =
    first_ops_header ∷ (first_ops_header ++ codes "x6" ∷ []) ∷ (first_ops_header ++ codes "x6" ∷ codes "x7" ∷ [])
    ∷ (first_ops_header ++ codes "x6" ∷ codes "x7" ∷ codes "x8" ∷ codes "x9" ∷ []) ∷ []

-- 10,000 rows at most; each row asks something
abbrev pub asks_form : TableForm (List SeatAsk) RowKind RowFault
asks_form = table_form asks_headers 10000 [] (λ header. adds (λ asks. seat_ask_in (version_at header)))

-- what a table asks
abbrev pub asks_of : List (List (List ℕ)) → Result (List SeatAsk) RowFault
asks_of rows = table_of asks_form rows
