use Rattle.std.proofs.Common.{rules, get_or, sym, ◌∙◌, ap, ◌++◌}
use Rattle.std.proofs.Output.{has_written_append, has_written_of_eq}
use Rattle.std.specs.Prelude.{◌-◌}
use Rattle.table_commands.specs.RowLines.{shown_byte}
use Rattle.table_commands.proofs.ShownLemmas.{shown_all, shown_more, shown_stops}
use Rattle.table_commands.proofs.explanations.row_line.ShownDisplay.fmt.Goals as goal

pub returns-then-ends_shown-clause-writes : goal.returns-then-ends_shown-clause-writes
returns-then-ends_shown-clause-writes g c =
    λ plain _.
    let now = c.loop-byte.invariant plain in
    has_written_of_eq _ _ _ _ _ (shown_stops c.args.self.now.0.now c.loop-byte.byte-index c.loop-byte.room now.0 _ now.2 c.loop-byte-test.true (sym c.ends_shown.ensures ∙ c.if-ends_shown.true)) now.1

pub loop-byte-preserved : goal.loop-byte-preserved
loop-byte-preserved g c =
    λ plain.
    let now = c.loop-byte.invariant plain in (
      now.0 ++ shown_byte (get_or c.args.self.now.0.now c.loop-byte.byte-index 0),
      has_written_append _ _ _ _ _ _ now.1 (search rules),
      shown_more c.args.self.now.0.now c.loop-byte.byte-index c.loop-byte.room now.0 _ now.2 (c.loop-byte.room - c.width_of-room.result) c.loop-byte-test.true
          (sym c.ends_shown.ensures ∙ c.if-ends_shown.false) (ap (λ width. c.loop-byte.room - width) c.width_of-room.ensures),
    )

pub returns-clause-writes : goal.returns-clause-writes
returns-clause-writes g c =
    λ plain _.
    let now = c.loop-byte.invariant plain in
    has_written_of_eq _ _ _ _ _ (shown_all c.args.self.now.0.now c.loop-byte.byte-index c.loop-byte.room now.0 _ now.2 c.loop-byte-test.false) now.1
