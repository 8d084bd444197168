use Rattle.std.proofs.Common.{◌≡◌, ◌++◌, [], string_bytes, take}
use Rattle.std.specs.Prelude.{unwrap_or}
use Rattle.std.specs.List.{flat_map}
use Rattle.run_outputs.specs.Lists.{behind_comma}
use Rattle.run_outputs.proofs.list_lines.write_others.Given as goal

abbrev pub invariant-loop-item : goal.invariant-loop-item
invariant-loop-item g l = string_bytes l.line ≡ string_bytes l.fn.line ++ flat_map (λ item. behind_comma (unwrap_or (g.T.Display.output item) [])) (take l.item-index l.others)
