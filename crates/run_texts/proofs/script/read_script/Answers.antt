use Rattle.std.proofs.Common.{[], Ok, ap, refl, ◌∙◌}
use Rattle.std.specs.Prelude.{map}
use Rattle.table_core.proofs.TakingLemmas.{refused_gives, taken_gives}
use Rattle.run_texts.specs.Scripts.{first_to_last}
use Rattle.run_texts.specs.Views.{row_data}
use Rattle.run_texts.proofs.ScriptLemmas.{no_rows, rows_in_turn}
use Rattle.run_texts.proofs.script.read_script.Goals as goal

pub returns-in_err-take_table-clause-means : goal.returns-in_err-take_table-clause-means
returns-in_err-take_table-clause-means g c =
    refused_gives (g.I.Read.remaining c.args.reader) _ c.args.directory.now.accounts [] _ first_to_last (λ rows. map row_data rows.items)
    (refl, no_rows _ _ c.new.ensures.empty c.new-2.ensures.items) (λ why. refl) _ c.in_err-take_table.field-0.0 c.from_residual.ensures.1 c.in_err-take_table.ensures.taken

pub returns-clause-means : goal.returns-clause-means
returns-clause-means g c =
    taken_gives (g.I.Read.remaining c.args.reader) _ c.args.directory.now.accounts [] _ first_to_last (λ rows. map row_data rows.items)
    (refl, no_rows _ _ c.new.ensures.empty c.new-2.ensures.items) c.take_table.new.taker.rows _
    (λ text earlier (same, are). ap first_to_last (ap Ok are.say) ∙ ap Ok (rows_in_turn c.take_table.new.taker.rows.items)) c.in_ok-take_table.ensures.taken

pub returns-clause-in_range : goal.returns-clause-in_range
returns-clause-in_range g c =
    let (rows, earlier, (same, are), few) = c.in_ok-take_table.ensures.has c.args.directory.now.accounts [] (refl, no_rows _ _ c.new.ensures.empty c.new-2.ensures.items) in
    are.in_range

pub returns-clause-in_time : goal.returns-clause-in_time
returns-clause-in_time g c =
    let (rows, earlier, (same, are), few) = c.in_ok-take_table.ensures.has c.args.directory.now.accounts [] (refl, no_rows _ _ c.new.ensures.empty c.new-2.ensures.items) in
    are.in_time

pub returns-clause-in_order : goal.returns-clause-in_order
returns-clause-in_order g c =
    let (rows, earlier, (same, are), few) = c.in_ok-take_table.ensures.has c.args.directory.now.accounts [] (refl, no_rows _ _ c.new.ensures.empty c.new-2.ensures.items) in
    are.in_order
