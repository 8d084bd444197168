-- The versions of a table with operations in it.
use Rattle.std.specs.Prelude.{◌==◌, ℕ, if◌then◌else◌}
use Rattle.book_texts.specs.declared.version.Version.{Version}
use Rattle.book_texts.specs.declared.version.Version.TheVariants as version

-- how many columns an operation has: its word, its call and x1 to x5, then x6, then x7, then x8 and x9
abbrev pub operation_width : Version → ℕ
operation_width version.One = 7
operation_width version.Two = 8
operation_width version.Three = 9
operation_width version.Four = 11

-- the version of a header, where those of all versions are in a row, oldest first
abbrev pub version_at : ℕ → Version
version_at header = if header == 0 then version.One else if header == 1 then version.Two else if header == 2 then version.Three else version.Four
