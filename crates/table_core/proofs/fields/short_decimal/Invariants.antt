use Rattle.std.proofs.Common.{◌≡◌, ◌^◌, ◌<◌, take, true}
use Rattle.std.specs.Char.{is_ascii_digit}
use Rattle.std.specs.List.{list_all}
use Rattle.std.specs.Str.Parse.{digits_value}
use Rattle.table_core.proofs.fields.short_decimal.Given as goal

abbrev pub invariant-loop-byte : goal.invariant-loop-byte
invariant-loop-byte l =
    (list_all is_ascii_digit (take l.byte-index l.text) ≡ true)
    × (l.number ≡ digits_value 10 (take l.byte-index l.text)) × (l.number < 10 ^ l.byte-index)
