-- The moment in a field of a row.
use Rattle.std.specs.Prelude.{ℕ, Option, None, List, Result, Ok, ok_or, if◌then◌else◌}
use Rattle.table_core.specs.Fields.{field_in, is_empty_field, present}
use Rattle.table_core.specs.declared.fault.RowKind.{RowKind}
use Rattle.table_core.specs.declared.fault.RowKind.TheVariants as kind
use Rattle.tariff_core.specs.Reading.{moment_of}

-- the moment in a field, from 0 to `most`
abbrev pub moment_in_field : ℕ → List ℕ → Result ℕ RowKind
moment_in_field most field = ok_or (moment_of most field) kind.Number

-- the moment in the field at a place
abbrev pub moment_in : List (List ℕ) → ℕ → ℕ → Result ℕ RowKind
moment_in fields place most = moment_in_field most (field_in fields place)

-- the moment in a field, and none where it is empty
abbrev pub optional_moment_in_field : ℕ → List ℕ → Result (Option ℕ) RowKind
optional_moment_in_field most field = if is_empty_field field then Ok None else present (moment_in_field most field)
