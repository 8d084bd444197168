-- What a line says, after those before it.
use Rattle.std.specs.Prelude.{◌-◌, ℕ, Option, Some, None, List, Result, Ok, Err, if◌then◌else◌, length, nat_lt, slice_get}
use Rattle.std.specs.Result.{result_map_both}
use Rattle.run_texts.specs.declared.kind.LineKind.{LineKind}
use Rattle.run_texts.specs.declared.kind.LineKind.TheVariants as kind
use Rattle.live_answers.specs.declared.line.TheConstants.{MAX_LINE}
use Rattle.run_texts.specs.Lines.{line_message}
use Rattle.run_texts.specs.Messages.{MessageView}
use Rattle.run_values.specs.declared.post.Body.{Body}
use Rattle.table_core.specs.Judging.{and_then}
use Rattle.table_core.specs.declared.fault.RowKind.{RowKind}
use Rattle.table_core.specs.declared.fault.RowKind.TheVariants as row

-- what a line says: nothing where it is empty, else a message, or what is wrong with it
abbrev pub LineView : Type 0
LineView = Option (Result MessageView LineKind)

-- a message whose moment is not below that of the last one
abbrev pub in_time : ℕ → MessageView → Result MessageView RowKind
in_time last message = if nat_lt message.at last then Err row.Order else Ok message

-- a message that may be the next, where so many were accepted, the last of them at this moment: its number, where it has one, is looked at first
abbrev pub numbered_message : ℕ → ℕ → MessageView → Option ℕ → Result MessageView RowKind
numbered_message next last message None = in_time last message
numbered_message next last message (Some number) =
    if nat_lt number next then Err row.Repeated else if nat_lt next number then Err row.Order else in_time last message

-- a message that may be the next
abbrev pub placed : ℕ → ℕ → MessageView → Result MessageView RowKind
placed next last message = numbered_message next last message message.number

-- what was read, where it may be the next
abbrev pub standing : ℕ → ℕ → Option (Result MessageView RowKind) → LineView
standing next last None = None
standing next last (Some read) = Some (result_map_both (λ message. message) kind.Row (and_then read (placed next last)))

-- what a line says where so many messages were accepted, the last of them at this moment
abbrev pub said_after : ℕ → ℕ → List ℕ → LineView
said_after next last line = if nat_lt MAX_LINE (length line) then Some (Err kind.TooLong) else standing next last (line_message line)

-- the moment of an item, and 0 where there is none
abbrev pub item_moment : Option (ℕ × Body) → ℕ
item_moment None = 0
item_moment (Some item) = item.0

-- the moment of the last item, 0 before the first
abbrev pub last_item_moment : List (ℕ × Body) → ℕ
last_item_moment given = item_moment (slice_get given (length given - 1))
