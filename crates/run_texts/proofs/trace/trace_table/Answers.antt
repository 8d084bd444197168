use Rattle.std.proofs.Common.{◌≡◌, ◌∙◌, string_bytes}
use Rattle.std.specs.Option.{option_copied}
use Rattle.std.specs.Prelude.{slice_get}
use Rattle.std.proofs.lemmas.List.{take_all}
use Rattle.run_texts.proofs.RowLemmas.{got, rows_more}
use Rattle.run_texts.proofs.trace.trace_table.Goals as goal

pub loop-number-preserved : goal.loop-number-preserved
loop-number-preserved c =
    let found : option_copied c.get.result ≡ slice_get c.args.answers.now c.loop-number.number =
    got c.args.answers.now c.loop-number.number c.get.result c.get.ensures.lookup in
    let written = c.in_ok-write_rows.ensures in
    rw found at written
    ∙ rows_more c.args.clock c.args.answers.now c.args.given.now c.loop-number.number c.index-given-number.result (string_bytes c.loop-number.text) c.loop-number-test.true c.index-given-number.is c.loop-number.invariant

pub returns : goal.returns
returns c =
    let whole = take_all c.loop-number.number c.args.given.now c.loop-number-test.false in
    rw whole at c.loop-number.invariant
