-- The names of what is wrong with a line.
use Rattle.std.specs.Prelude.{ℕ, List, codes}
use Rattle.table_core.specs.Faults as rows
use Rattle.run_texts.specs.declared.kind.LineKind.{LineKind}
use Rattle.run_texts.specs.declared.kind.LineKind.TheVariants as kind

-- the name of a kind
abbrev pub line_kind_name : LineKind → List ℕ
line_kind_name kind.TooLong = codes "TooLong"
line_kind_name (kind.Row why) = rows.row_kind_name why
