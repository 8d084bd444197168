use Rattle.std.proofs.Common.{◌≡◌, ◌∷◌, ◌∙◌, [], refl, sym}
use Rattle.std.proofs.Output.{has_written_append, has_written_of_eq}
use Rattle.table_commands.specs.RowLines.{shown_byte}
use Rattle.table_commands.proofs.explanations.row_line.write_byte.Goals as goal

pub returns : goal.returns
returns g c = λ plain ok.
    let mark = c.in_ok-write_str.ensures.writes plain refl in
    let first = c.in_ok-write_ascii.ensures mark.plain refl in
    let second = c.write_ascii-3.ensures first.plain ok in
    let is : 92 ∷ 120 ∷ c.hex_digit.result ∷ c.hex_digit-2.result ∷ [] ≡ shown_byte c.args.byte =
    let not_printed = sym c.is_printed.ensures ∙ c.if-is_printed.false in
    rw (not_printed, c.hex_digit.ensures.value, c.hex_digit-2.ensures.value) refl in
    let both = has_written_append _ _ _ _ _ _ mark first in
    has_written_of_eq _ _ _ _ _ is (has_written_append _ _ _ _ _ _ both second)
