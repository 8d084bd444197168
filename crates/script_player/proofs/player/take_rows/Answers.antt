use Rattle.std.proofs.Common.{◌+◌, ◌≤◌, [], append-nil, arith, drop, length, refl, sym, take}
use Rattle.script_player.proofs.DueRows.{later_moment, later_next, none_next, played_more, played_none, plays_due, same_moment}
use Rattle.script_player.proofs.RowLemmas.{adds_grown, adds_on, adds_row, follows_grown, follows_more}
use Rattle.script_player.proofs.player.take_rows.Goals as goal

pub loop-taken-preserved : goal.loop-taken-preserved
loop-taken-preserved c =
    let within : c.loop-taken.taken + 1 ≤ length c.args.rows.now = omega (arith, c.loop-taken-test.true) in
    let row = c.index-rows-taken-in-loop-taken.result in (
      within,
      follows_more c.args.rows.now c.loop-taken.taken row c.loop-taken.network c.take_row.new.network c.loop-taken-test.true c.index-rows-taken-in-loop-taken.is c.in_ok-fault.ensures.taken
          c.loop-taken.invariant.1,
      adds_on c.args.network.now c.loop-taken.network c.take_row.new.network c.loop-taken.invariant.2
          (adds_row c.loop-taken.network c.take_row.new.network row.at row.what c.in_ok-fault.ensures.taken),
      played_more c.args.now c.loop-taken.taken c.args.network.now c.loop-taken.network c.take_row.new.network (drop c.args.taken.now c.args.rows.now) c.args.rows.now
          c.args.unplaced.now.items c.loop-taken.unplaced.items c.put_down_refused.new.unplaced.items row c.in_ok-fault.fault c.loop-taken-test.true
          c.index-rows-taken-in-loop-taken.is c.loop-taken.invariant.3
          (same_moment c.args.rows.now c.loop-taken.taken c.args.now c.index-rows-taken.result row c.loop-taken-test.true c.index-rows-taken.is c.index-rows-taken-in-loop-taken.is c.if-rows-taken.true)
          c.in_ok-fault.ensures.plays c.in_ok-put_down_refused.ensures,
    )

pub returns-in_err-fault-clause-follows : goal.returns-in_err-fault-clause-follows
returns-in_err-fault-clause-follows c =
    follows_grown (take c.loop-taken.taken c.args.rows.now) c.loop-taken.network c.take_row.new.network c.in_err-fault.ensures.failed c.loop-taken.invariant.1

pub returns-in_err-put_down_refused-clause-follows : goal.returns-in_err-put_down_refused-clause-follows
returns-in_err-put_down_refused-clause-follows c =
    let row = c.index-rows-taken-in-loop-taken.result in
    follows_more c.args.rows.now c.loop-taken.taken row c.loop-taken.network c.take_row.new.network c.loop-taken-test.true c.index-rows-taken-in-loop-taken.is c.in_ok-fault.ensures.taken c.loop-taken.invariant.1

pub returns-else-rows-taken-clause-plays : goal.returns-else-rows-taken-clause-plays
returns-else-rows-taken-clause-plays c =
    let row = c.index-rows-taken.result in
    plays_due _ _ _ _ _ _ _ c.loop-taken.invariant.3
    (later_next c.args.rows.now c.loop-taken.taken c.args.now row c.loop-taken-test.true c.index-rows-taken.is
    (later_moment c.args.rows.now c.loop-taken.taken c.args.now row c.index-rows-taken.is (omega (arith, c.if-rows-taken.false))))

pub returns-after-loop-taken-clause-plays : goal.returns-after-loop-taken-clause-plays
returns-after-loop-taken-clause-plays c =
    plays_due _ _ _ _ _ _ _ c.loop-taken.invariant.3 (none_next c.args.rows.now c.loop-taken.taken c.args.now (omega (arith, c.loop-taken-test.false)))

pub loop-taken-init : goal.loop-taken-init
loop-taken-init c = (
  c.requires.within,
  c.requires.follows,
  record { same_config = refl; added = []; grown = sym (append-nil c.args.network.now.given) },
  played_none c.args.now c.args.network.now (drop c.args.taken.now c.args.rows.now) c.args.unplaced.now.items,
)

pub returns-in_err-fault-clause-added : goal.returns-in_err-fault-clause-added
returns-in_err-fault-clause-added c =
    adds_on c.args.network.now c.loop-taken.network c.take_row.new.network c.loop-taken.invariant.2
    (adds_grown c.loop-taken.network c.take_row.new.network c.in_err-fault.ensures.failed)

pub returns-in_err-put_down_refused-clause-added : goal.returns-in_err-put_down_refused-clause-added
returns-in_err-put_down_refused-clause-added c =
    let row = c.index-rows-taken-in-loop-taken.result in
    adds_on c.args.network.now c.loop-taken.network c.take_row.new.network c.loop-taken.invariant.2
    (adds_row c.loop-taken.network c.take_row.new.network row.at row.what c.in_ok-fault.ensures.taken)
