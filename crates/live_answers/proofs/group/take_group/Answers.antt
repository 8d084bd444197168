use Rattle.std.proofs.Common.{◌≤◌, ◌<◌, ◌+◌, ℕ, arith, rules, refl}
use Rattle.live_answers.proofs.GroupLemmas.{cut_off, one_taken, at_end, none_taken}
use Rattle.live_answers.proofs.group.take_group.Goals as goal

below_all : (many at all : ℕ) → many ≤ at → at < all → many ≤ all
below_all many at all within below = omega (arith, within, below)

next_all : (many at all : ℕ) → many ≤ at + 1 → at < all → many ≤ all
next_all many at all within below = omega (arith, within, below)

pub returns-in-Err-Failed : goal.returns-in-Err-Failed
returns-in-Err-Failed g c =
    let has = c.loop-count.invariant in
    record {
      taken = (
        has.lines,
        below_all _ _ _ has.few c.loop-count-test.true,
        cut_off (g.I.Read.remaining c.args.input.now) (g.I.Read.remaining c.loop-count.input) (g.I.Read.remaining c.take_line.new.input) has.lines has.takes,
        has.said_is,
        has.logged_is,
      );
    }

pub returns-then-not-more : goal.returns-then-not-more
returns-then-not-more g c =
    let taken = c.take_line.ensures.taken (search rules) in
    let old = c.loop-count.group in
    let line = c.as_slice.result.now in
    let adds = c.in_ok-add-in-Ok-true.ensures in
    let has = one_taken _ _ _ c.args.group.now.next c.args.group.now.last _ _ old.logged.items c.add.new.self.logged.items old.next old.last c.add.new.self.next
    c.add.new.self.last c.loop-count._count line c.loop-count.invariant (rw (← c.as_slice.ensures.value) at taken) adds.said adds.logged adds.next adds.last in
    record {
      taken = (
        has.lines,
        next_all _ _ _ has.few c.loop-count-test.true,
        has.takes,
        has.said_is,
        has.logged_is,
      );
    }

pub loop-count-preserved : goal.loop-count-preserved
loop-count-preserved g c =
    let taken = c.take_line.ensures.taken (search rules) in
    let old = c.loop-count.group in
    let line = c.as_slice.result.now in
    let adds = c.in_ok-add-in-Ok-true.ensures in
    one_taken _ _ _ c.args.group.now.next c.args.group.now.last _ _ old.logged.items c.add.new.self.logged.items old.next old.last c.add.new.self.next
    c.add.new.self.last c.loop-count._count line c.loop-count.invariant (rw (← c.as_slice.ensures.value) at taken) adds.said adds.logged adds.next adds.last

pub loop-count-init : goal.loop-count-init
loop-count-init g c =
    let group = c.args.group.now in
    none_taken _ group.next group.last _ _ (rw c.requires.said refl) c.requires.logged

pub add-requires : goal.add-requires
add-requires g c =
    omega (arith, c.loop-count.invariant.room, c.requires.room, c.loop-count-test.true)

pub returns-in-Ok-false : goal.returns-in-Ok-false
returns-in-Ok-false g c =
    let has = c.loop-count.invariant in
    let rest = g.I.Read.remaining in
    let ended = c.take_line.ensures.end (search rules) in
    record {
      taken = (
        has.lines,
        below_all _ _ _ has.few c.loop-count-test.true,
        at_end _ (rest c.loop-count.input) (rest c.take_line.new.input) has.lines has.takes ended,
        has.said_is,
        has.logged_is,
      );
    }

pub returns : goal.returns
returns g c =
    let has = c.loop-count.invariant in
    record { taken = (has.lines, omega (arith, has.few), has.takes, has.said_is, has.logged_is) }
