use Rattle.std.proofs.Common.{◌≡◌, ◌<◌, ◌++◌, true, ◌∙◌, [], ◌∷◌, length, ap, sym, arith, rules, tests}
use Rattle.std.specs.Prelude.{codes}
use Rattle.std.specs.List.{list_all}
use Rattle.std.proofs.lemmas.List.{map_push}
use Rattle.std.proofs.lemmas.Iterator.Consumers.{YieldsList-at}
use Rattle.std.proofs.lemmas.Iterator.Splits.{YieldsList-from_slice_split}
use Rattle.csv.specs.Records.{fields_of}
use Rattle.run_texts.proofs.PlainLines.{all_yielded, is_comma, line_is_row, parts_of}
use Rattle.run_texts.specs.Lines.{is_plain}
use Rattle.run_texts.proofs.line.plain_row.Goals as goal

pub returns-clause-row : goal.returns-clause-row
returns-clause-row c =
    let text = c.in-Some-eq10-default.text.now in
    let plain : list_all is_plain text ≡ true = sym c.are_plain.ensures ∙ c.if-not-are_plain.false in
    let line : c.args.line.now ≡ text ++ codes "\n" = search rules in
    let parts : fields_of c.loop-field.row ≡ parts_of text =
    c.loop-field.invariant.1
    ∙ all_yielded _ _ _ _ c.loop-field.yielded_by c.in-None.is c.next.ensures.steps
    (YieldsList-at c.into_iter-field-iterator.ensures.into_iter_gives
    (YieldsList-from_slice_split _ is_comma text c.split-field-items.ensures.rest c.split-field-items.ensures.done c.split-field-items.ensures.closure
    (λ byte is after called. search (rules, tests)))) in
    let several : 1 < length (parts_of text) = search (arith, rules) in
    rw (line, line_is_row text plain several) (ap (λ row. row ∷ []) (sym parts))

pub loop-field-preserved : goal.loop-field-preserved
loop-field-preserved c =
    let pushed = c.in_ok-push_field.ensures in (
      pushed.partial,
      rw (pushed.fields, c.loop-field.invariant.0, c.loop-field.invariant.1)
          (sym (map_push (λ part. part.now) c.loop-field.yielded c.in-Some.field)),
    )
