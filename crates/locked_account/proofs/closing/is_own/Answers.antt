use Rattle.std.proofs.Common.{rules, arith, ap, ◌∙◌, sym}
use Rattle.std.proofs.lemmas.Bool.{not-false}
use Rattle.std.proofs.lemmas.Grind.{common_steps}
use Rattle.account_core.specs.Entries.{entry_data}
use Rattle.locked_account.proofs.Alike.{equal_entry, same_entry}
use Rattle.locked_account.proofs.Merging.{next_own, one_more_own}
use Rattle.locked_account.proofs.closing.is_own.Goals.{then-entry-seat+else-at-mine+else-ne, else-entry-seat, then-at-mine-via-then-at-mine, then-at-mine-via-else-at-mine+then-ne}
use Rattle.locked_account.proofs.closing.is_own.Goals as goal

pub returns-then-at-mine : goal.returns-then-at-mine
returns-then-at-mine c = (
  λ is. absurd (cc is),
  λ all.
      let next = next_own c.args.seat c.args.history.now c.args.mine.now c.loop-entry.entry-index c.loop-entry.at c.entry-item.result c.entry-item.is
      (search rules) c.if-entry-seat.true c.loop-entry.invariant.within c.loop-entry.invariant.same all in
      absurd (elim c.then-at-mine.branch [
        | then-at-mine-via-then-at-mine w ↦ omega (arith, next.0, w.if-at-mine.true)
        | then-at-mine-via-else-at-mine+then-ne w ↦
            let is = equal_entry _ _ (ap entry_data w.index-mine-at.is ∙ next.1 w.index-mine-at.result) in
            let never = rw is at (sym w.ne.ensures ∙ w.if-ne.true) in
            cc never
      ]),
)

pub loop-entry-preserved : goal.loop-entry-preserved
loop-entry-preserved c = elim c.if-entry-seat.branch [
  | then-entry-seat+else-at-mine+else-ne w ↦
      let same = same_entry _ _ (not-false _ (sym w.ne.ensures ∙ w.if-ne.false)) in
      rw w.at-is (record {
        within = omega (arith, w.if-at-mine.false);
        same = one_more_own c.args.seat c.args.history.now c.args.mine.now c.loop-entry.entry-index c.loop-entry.at c.entry-item.result w.index-mine-at.result c.entry-item.is
            c.loop-entry-test.true w.if-entry-seat.true w.index-mine-at.is w.if-at-mine.false same c.loop-entry.invariant.same;
      })
  | else-entry-seat w ↦ rw w.at-is (grind (arith, common_steps))
]
