use Rattle.std.proofs.Common.{◌∷◌, refl}
use Rattle.run_texts.specs.Views.{row_data}
use Rattle.run_texts.proofs.ScriptLemmas.{row_more}
use Rattle.run_texts.proofs.script.ScriptTakeRow.take.Goals as goal

pub returns : goal.returns
returns c = λ accounts taken earlier (same, are).
    let script = c.args.self.now in
    let row = c.in_ok-row.row in
    let says = rw same at (c.in_ok-row.ensures.says earlier are.started are.before) in
    let more = row_more earlier script.calls c.note.new.calls script.last script.rows.items row are c.in_ok-note.ensures c.in_ok-row.ensures.in_range c.in_ok-row.ensures.in_time c.in_ok-row.ensures.in_order in
    (row_data row ∷ earlier, rw (← says) refl, (same, rw c.in_ok-push.ensures.items more))
