-- The fields of a row, by their places from 0.
use Rattle.std.specs.Prelude.{◌==◌, ◌++◌, ℕ, Bool, Option, Some, None, List, [], codes, length, Result, Ok, Err, ok_or, slice_index_or, if◌then◌else◌}
use Rattle.std.specs.Fmt.{decimal}
use Rattle.std.specs.Str.{bytes_eq}
use Rattle.table_core.specs.Decimals.{decimal_of}
use Rattle.table_core.specs.declared.fault.RowKind.{RowKind}
use Rattle.table_core.specs.declared.fault.RowKind.TheVariants as kind

-- ---- a field

-- whether a field is empty
abbrev pub is_empty_field : List ℕ → Bool
is_empty_field field = length field == 0

-- the number in a field, from 0 to `most`
abbrev pub number_in_field : ℕ → List ℕ → Result ℕ RowKind
number_in_field most field = ok_or (decimal_of most field) kind.Number

-- what was read, where all fields that must be empty are
abbrev pub when_blank : {X : Type 0} → Bool → X → Result X RowKind
when_blank blank read = if blank then Ok read else Err kind.Empty

-- a number where there is one
abbrev pub present : {K : Type 0} → Result ℕ K → Result (Option ℕ) K
present (Ok number) = Ok (Some number)
present (Err why) = Err why

-- the number in a field that may be empty, from 0 to `most`
abbrev pub optional_in_field : ℕ → List ℕ → Result (Option ℕ) RowKind
optional_in_field most field = if is_empty_field field then Ok None else present (number_in_field most field)

-- a number, which is at least 1 where there is one
abbrev pub counted_if_any : Option ℕ → Result (Option ℕ) RowKind
counted_if_any None = Ok None
counted_if_any (Some number) = if number == 0 then Err kind.Number else Ok (Some number)

-- ---- the field at a place

-- the field at a place, and no bytes past the last
abbrev pub field_in : List (List ℕ) → ℕ → List ℕ
field_in fields place = slice_index_or fields place []

-- whether the field at a place is a word
abbrev pub has_word : List (List ℕ) → ℕ → List ℕ → Bool
has_word fields place word = bytes_eq (field_in fields place) word

-- whether the field at a place is empty
abbrev pub is_blank : List (List ℕ) → ℕ → Bool
is_blank fields place = is_empty_field (field_in fields place)

-- the number in the field at a place, from 0 to `most`
abbrev pub number_in : List (List ℕ) → ℕ → ℕ → Result ℕ RowKind
number_in fields place most = number_in_field most (field_in fields place)

-- the number in the field at a place, which may be empty
abbrev pub optional_in : List (List ℕ) → ℕ → ℕ → Result (Option ℕ) RowKind
optional_in fields place most = optional_in_field most (field_in fields place)

-- ---- a field that is printed

-- a number in decimals, nothing where there is none
abbrev pub number_or_empty : Option ℕ → List ℕ
number_or_empty None = []
number_or_empty (Some number) = decimal number

-- a field, a comma, and what follows
abbrev pub field_then : List ℕ → List ℕ → List ℕ
field_then text rest = text ++ (codes "," ++ rest)
