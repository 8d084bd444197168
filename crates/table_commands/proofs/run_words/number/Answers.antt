use Rattle.std.proofs.Common.{◌∙◌, ap, sym, Some}
use Rattle.std.specs.Prelude.{unwrap_or}
use Rattle.table_core.specs.Decimals.{decimal_of}
use Rattle.table_commands.proofs.CappedLemmas.{capped_number}
use Rattle.table_commands.proofs.run_words.number.Goals as goal

pub returns : goal.returns
returns c =
    ap (λ n. Some n) (c.unwrap_or.ensures ∙ ap (unwrap_or c.decimal-number.result) c.from-2.ensures)
    ∙ capped_number c.args.text.now c.decimal-number.result (sym c.if-not-is_decimal.ensures)
    (c.decimal-number.ensures.value ∙ ap (λ most. decimal_of most c.args.text.now) c.from.ensures)
