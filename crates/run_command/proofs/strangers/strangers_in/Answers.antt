use Rattle.std.proofs.Common.{◌≡◌, ◌+◌, ◌<◌, ◌++◌, ◌∙◌, ℕ, List, [], length, map, take, get_or, ap, sym}
use Rattle.std.specs.List.{flat_map}
use Rattle.std.proofs.lemmas.List.{flat_map_more, map_more, take_all}
use Rattle.std.proofs.lemmas.Result.{IfOk-from_err}
use Rattle.run_command.specs.Strangers.{stranger_of, strangers_in}
use Rattle.run_texts.specs.Happenings.{RowData}
use Rattle.run_texts.specs.Views.{row_data, with_digits}
use Rattle.run_texts.specs.declared.script.ScriptRow.{ScriptRow}
use Rattle.run_command.proofs.strangers.strangers_in.Goals as goal

-- what one row more adds is behind what the rows before it have
one_more : (f : RowData → List ℕ) (found more : List ℕ) (script : List ScriptRow) (at : ℕ) (row : ScriptRow) → at < length script → row ≡ get_or script at row
    → found ≡ flat_map f (map row_data (take at script)) → more ≡ found ++ f (row_data row) → more ≡ flat_map f (map row_data (take (at + 1) script))
one_more f found more script at row within is so_far adds =
    adds ∙ ap (λ (l : List ℕ). l ++ f (row_data row)) so_far ∙ ap (λ (r : ScriptRow). flat_map f (map row_data (take at script)) ++ f (row_data r)) is
    ∙ flat_map_more f [] (map row_data (take at script)) (row_data (get_or script at row)) ∙ ap (λ (l : List RowData). flat_map f l) (sym (map_more row_data script at row within))

pub loop-row-init : goal.loop-row-init
loop-row-init c = c.new-calls.ensures.items

pub loop-row-preserved : goal.loop-row-preserved
loop-row-preserved c =
    one_more (λ (event : RowData). stranger_of (with_digits c.args.setup.now.subscribers) event.what) c.loop-row.calls.items _ c.args.script.now c.loop-row.row-index c.row-item.result
    c.loop-row-test.true c.row-item.is c.loop-row.invariant c.in_ok-add_stranger.ensures

pub returns-in_err-add_stranger : goal.returns-in_err-add_stranger
returns-in_err-add_stranger c = IfOk-from_err c.from_residual.result _ c.from_residual.ensures.0

pub returns : goal.returns
returns c =
    c.loop-row.invariant
    ∙ ap (λ (l : List ScriptRow). strangers_in (with_digits c.args.setup.now.subscribers) (map row_data l)) (take_all c.loop-row.row-index c.args.script.now c.loop-row-test.false)
