-- The columns of an entry: what is asked, and what is answered.
use Rattle.std.specs.Prelude.{◌+◌, ℕ, true, false, Option, List, [], ◌++◌, codes}
use Rattle.std.specs.Fmt.{decimal}
use Rattle.price_core.specs.declared.times.TimeInfo.{TimeInfo}
use Rattle.price_core.specs.declared.times.TimeInfo.TheVariants as info
use Rattle.account_core.specs.Asked.{Asked, Credits, Reserves, Returns, Settles}
use Rattle.account_core.specs.declared.entry.Reply.{Reply}
use Rattle.account_core.specs.declared.entry.Reply.TheVariants as reply
use Rattle.table_core.specs.Fields.{field_then, field_in, number_or_empty}
use Rattle.book_texts.specs.declared.version.Version.{Version}
use Rattle.book_texts.specs.declared.version.Version.TheVariants as version

-- what is asked, and with what; x6 to x9 are empty in the versions that have no such column
pub record Operation : Type 0 where
  pub version : Version
  pub op : List ℕ
  pub call : List ℕ
  pub x1 : List ℕ
  pub x2 : List ℕ
  pub x3 : List ℕ
  pub x4 : List ℕ
  pub x5 : List ℕ
  pub x6 : List ℕ
  pub x7 : List ℕ
  pub x8 : List ℕ
  pub x9 : List ℕ

-- what is answered
pub record Answer : Type 0 where
  pub reply : List ℕ
  pub y1 : List ℕ
  pub y2 : List ℕ
  pub y3 : List ℕ

-- the column behind x5
abbrev pub x6_at : Version → List (List ℕ) → ℕ → List ℕ
x6_at version.One fields at = []
x6_at version.Two fields at = field_in fields (at + 7)
x6_at version.Three fields at = field_in fields (at + 7)
x6_at version.Four fields at = field_in fields (at + 7)

-- the column behind x6
abbrev pub x7_at : Version → List (List ℕ) → ℕ → List ℕ
x7_at version.One fields at = []
x7_at version.Two fields at = []
x7_at version.Three fields at = field_in fields (at + 8)
x7_at version.Four fields at = field_in fields (at + 8)

-- the column behind x7
abbrev pub x8_at : Version → List (List ℕ) → ℕ → List ℕ
x8_at version.One fields at = []
x8_at version.Two fields at = []
x8_at version.Three fields at = []
x8_at version.Four fields at = field_in fields (at + 9)

-- the column behind x8
abbrev pub x9_at : Version → List (List ℕ) → ℕ → List ℕ
x9_at version.One fields at = []
x9_at version.Two fields at = []
x9_at version.Three fields at = []
x9_at version.Four fields at = field_in fields (at + 10)

-- the columns of an operation in the fields of a row, where its word is at a place
abbrev pub operation_at : Version → List (List ℕ) → ℕ → Operation
operation_at version fields at = record {
  version = version;
  op = field_in fields at;
  call = field_in fields (at + 1);
  x1 = field_in fields (at + 2);
  x2 = field_in fields (at + 3);
  x3 = field_in fields (at + 4);
  x4 = field_in fields (at + 5);
  x5 = field_in fields (at + 6);
  x6 = x6_at version fields at;
  x7 = x7_at version fields at;
  x8 = x8_at version fields at;
  x9 = x9_at version fields at;
}

-- the columns that each version has
abbrev pub first_operation_at : List (List ℕ) → ℕ → Operation
first_operation_at fields at = operation_at version.One fields at

-- the four fields of a reply, from this column on
abbrev pub answer_at : List (List ℕ) → ℕ → Answer
answer_at fields at = record {
  reply = field_in fields at;
  y1 = field_in fields (at + 1);
  y2 = field_in fields (at + 2);
  y3 = field_in fields (at + 3);
}

-- an operation with nothing in its fields
abbrev pub no_operation : Version → Operation
no_operation version = record { version = version; op = []; call = []; x1 = []; x2 = []; x3 = []; x4 = []; x5 = []; x6 = []; x7 = []; x8 = []; x9 = [] }

-- a reply with nothing in its fields
abbrev pub no_answer : Answer
no_answer = record { reply = []; y1 = []; y2 = []; y3 = [] }

-- the columns of an opening: its credit is x1, and its last moment, if it has one, x2
abbrev pub opening_columns : Version → ℕ → Option ℕ → Operation
opening_columns version opening until = record (no_operation version) { op = codes "opening"; x1 = decimal opening; x2 = number_or_empty until }

-- a Settle in the fields of a row
abbrev pub settle_of : Version → ℕ → ℕ → TimeInfo → Operation
settle_of version call number (info.NoSwitch t) =
    record (no_operation version) { op = codes "settle"; call = decimal call; x1 = decimal number; x2 = codes "n"; x3 = decimal t }
settle_of version call number (info.Switch since interval) =
    record (no_operation version) { op = codes "settle"; call = decimal call; x1 = decimal number; x2 = codes "s"; x3 = decimal since; x4 = number_or_empty interval }

-- a number in a column that only version 4 has
abbrev pub in_fourth : Version → ℕ → List ℕ
in_fourth version.Four number = decimal number
in_fourth version number = []

-- an operation in the fields of a row
abbrev pub operation_of : Version → Asked → Operation
operation_of version (Credits amount until) = record (no_operation version) { op = codes "credit"; x1 = decimal amount; x2 = number_or_empty until }
operation_of version (Reserves call plan wanted least at) = record {
  version = version;
  op = codes "reserve";
  call = decimal call;
  x1 = decimal plan.fee;
  x2 = decimal plan.before;
  x3 = number_or_empty plan.after;
  x4 = decimal wanted;
  x5 = decimal least;
  x6 = decimal plan.free;
  x7 = decimal at;
  x8 = in_fourth version plan.first;
  x9 = in_fourth version plan.step;
}
operation_of version (Settles call number info) = settle_of version call number info
operation_of version (Returns call) = record (no_operation version) { op = codes "return"; call = decimal call }

-- a reply in the fields of a row
abbrev pub reply_fields : Reply → Answer
reply_fields (reply.Credited available) = record no_answer { reply = codes "credited"; y3 = decimal available }
reply_fields (reply.CreditOver available) = record no_answer { reply = codes "over"; y3 = decimal available }
reply_fields (reply.Granted units true available) = record { reply = codes "granted"; y1 = decimal units; y2 = codes "last"; y3 = decimal available }
reply_fields (reply.Granted units false available) = record { reply = codes "granted"; y1 = decimal units; y2 = codes "more"; y3 = decimal available }
reply_fields (reply.Denied available) = record no_answer { reply = codes "denied"; y3 = decimal available }
reply_fields (reply.Settled paid available) = record no_answer { reply = codes "settled"; y1 = decimal paid; y3 = decimal available }
reply_fields (reply.Forfeit paid available) = record no_answer { reply = codes "forfeit"; y1 = decimal paid; y3 = decimal available }
reply_fields (reply.Returned paid available) = record no_answer { reply = codes "returned"; y1 = decimal paid; y3 = decimal available }

-- the columns that version 4 has behind x7
abbrev pub steps_columns : Version → List ℕ → List ℕ → List ℕ
steps_columns version.Four first step = field_then first (field_then step [])
steps_columns version first step = []

-- the fields of an operation, each with a comma behind it: x8 and x9 in version 4 alone
abbrev pub operation_text : Operation → List ℕ
operation_text o =
    field_then o.op (field_then o.call (field_then o.x1 (field_then o.x2 (field_then o.x3 (field_then o.x4 (field_then o.x5 (field_then o.x6 (field_then o.x7 (steps_columns o.version o.x8 o.x9)))))))))

-- those of an answer, which end the line
abbrev pub answer_text : Answer → List ℕ
answer_text a = field_then a.reply (field_then a.y1 (field_then a.y2 (a.y3 ++ codes "\n")))
