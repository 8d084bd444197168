-- The line of an input in which a row begins, as it is shown.
use Rattle.std.specs.Prelude.{◌+◌, ◌-◌, ◌/◌, ◌%◌, ◌==◌, ◌||◌, ◌&&◌, ◌++◌, ◌∷◌, ℕ, Bool, List, [], codes, take, drop, if◌then◌else◌, nat_le, nat_lt}
use Rattle.std.specs.Fmt.{decimal}
use Rattle.std.specs.List.{count_by}
use Rattle.table_commands.specs.RowStarts.{is_line_end}
use Rattle.table_commands.specs.declared.explanations.row_line.TheConstants.{MOST_COLUMNS}

-- how many lines of a text are ended by LF
abbrev pub lines_ended : List ℕ → ℕ
lines_ended text = count_by (λ byte. byte == 10) text

-- a byte that is shown as it is: from the space to the tilde
abbrev pub is_printed : ℕ → Bool
is_printed byte = nat_le 32 byte && nat_lt byte 127

-- the digit of a number below 16
abbrev pub hex_digit : ℕ → ℕ
hex_digit number = if nat_lt number 10 then 48 + number else 97 + (number - 10)

-- a byte as it is shown: as it is, or as `\x` and two digits
abbrev pub shown_byte : ℕ → List ℕ
shown_byte byte = if is_printed byte then byte ∷ [] else codes "\\x" ++ (hex_digit (byte / 16) ∷ hex_digit (byte % 16) ∷ [])

-- how many columns a byte takes as it is shown
abbrev pub shown_width : ℕ → ℕ
shown_width byte = if is_printed byte then 1 else 4

-- whether nothing more is shown from a byte on: it ends the line, or there is no room for it
abbrev pub ends_shown : ℕ → ℕ → Bool
ends_shown room byte = is_line_end byte || nat_lt room (shown_width byte)

-- what is shown of the first line of a text in so many columns
unfoldable pub shown_columns : ℕ → List ℕ → List ℕ
shown_columns room [] = []
shown_columns room (byte ∷ text) = if ends_shown room byte then [] else shown_byte byte ++ shown_columns (room - shown_width byte) text

-- `line 24 of the input: 400,1,disconnect,1`: the line in which a row begins at a byte of a table that has this text in front of it, one more than the LF in front of
-- the row, and what is in it from that byte on, in `MOST_COLUMNS` columns
abbrev pub shown_row_line : List ℕ → List ℕ → ℕ → List ℕ
shown_row_line before table at =
    codes "line " ++ (decimal (lines_ended before + lines_ended (take at table) + 1) ++ (codes " of the input: " ++ (shown_columns MOST_COLUMNS (drop at table) ++ codes "\n")))
