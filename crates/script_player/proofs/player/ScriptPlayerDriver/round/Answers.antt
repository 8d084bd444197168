use Rattle.std.proofs.Common.{true, false, true≢false, [], refl, ap, append-nil, ◌++◌, ◌∙◌, append_assoc, sym, take}
use Rattle.std.proofs.lemmas.List.{take-append-drop}
use Rattle.std.proofs.lemmas.Result.{IfOk-from_err}
use Rattle.script_player.specs.Plays.{Play, play_at}
use Rattle.script_player.proofs.EndLemmas.{none_left}
use Rattle.script_player.proofs.RoundLemmas.{end_is, heard_more, next_is, reached_more, reached_whole, round_is}
use Rattle.script_player.proofs.RowLemmas.{follows_grown, kept_grown, kept_on}
use Rattle.script_player.proofs.player.ScriptPlayerDriver.round.Goals as goal

-- it has ended: nothing changes
pub returns-then-self : goal.returns-then-self
returns-then-self c =
    let over = sym (ap (λ (play : Play). play.ended) c.self.view_is) ∙ c.if-self.true in
    record {
      grows = ([], sym (append-nil c.args.self.now.network.given));
      ended = over;
      end = λ same. refl;
      turn = λ running. absurd (true≢false (sym over ∙ running));
      hears = λ running. absurd (true≢false (sym over ∙ running));
      heard = λ running. absurd (true≢false (sym over ∙ running));
      config = refl;
      delay = refl;
      rows = refl;
    }

pub returns-then-not-self : goal.returns-then-not-self
returns-then-not-self c = record { grows = tt; ended = tt; end = tt; turn = tt; hears = tt; heard = tt; config = refl; delay = refl; rows = refl }

pub put_down-requires-clause-delay : goal.put_down-requires-clause-delay
put_down-requires-clause-delay c = c.self.invariant.0.delay_within_day

pub put_down-requires-clause-in_range : goal.put_down-requires-clause-in_range
put_down-requires-clause-in_range c = c.given.ensures.in_range

pub invariant_of-self : goal.invariant_of-self
invariant_of-self c = (c.self.invariant.0, λ over. absurd (true≢false (sym over ∙ c.if-self.false)), λ sound. absurd (true≢false (sym sound)))

-- memory ran out: there is no result, and the rows of the script are the same
pub returns-in_err-put_down : goal.returns-in_err-put_down
returns-in_err-put_down c =
    let failed = c.from_residual.ensures.0 in
    record {
      grows = IfOk-from_err c.from_residual.result _ failed;
      ended = IfOk-from_err c.from_residual.result _ failed;
      end = IfOk-from_err c.from_residual.result _ failed;
      turn = IfOk-from_err c.from_residual.result _ failed;
      hears = IfOk-from_err c.from_residual.result _ failed;
      heard = IfOk-from_err c.from_residual.result _ failed;
      config = ap (λ (play : Play). play.network.config) c.self.view_is;
      delay = ap (λ (play : Play). play.delay) c.self.view_is;
      rows = ap (λ (play : Play). play.taken ++ play.left) c.self.view_is;
    }

pub invariant_of-self-in_default : goal.invariant_of-self-in_default
invariant_of-self-in_default c =
    let least = rw (c.next_row-row.ensures, c.as_slice.ensures.value) at c.next_moment.ensures.least in
    let i = c.self.inside in
    let waits = rw c.given.ensures.items at c.in_ok-put_down.ensures in
    let row = rw c.as_slice.ensures.value at c.next_row-row.ensures in
    let whole = reached_whole i.network.config i.delay i.rows.items _ (c.self.invariant.2 c.if-not-self.false) in
    let next = next_is i.network i.deliveries.items c.put_down.new.deliveries.items i.delay i.rows.items i.taken i.ended i.unplaced.items c.args.answers.now c.next_row-row.result c.next_delivery-delivery.result
    c.first_due.result c.next_moment.result c.next_moment.ensures.least row c.next_delivery-delivery.ensures.first waits in
    let turn = end_is i.network i.deliveries.items c.put_down.new.deliveries.items i.delay i.rows.items i.taken i.ended i.unplaced.items c.args.answers.now c.first_due.result c.self.invariant.0.in_range whole c.first_due.ensures
    (sym next ∙ c.in_default.is) waits in (
      record {
        delay_within_day = c.self.invariant.0.delay_within_day;
        in_range = c.self.invariant.0.in_range;
        within = c.self.invariant.0.within;
        follows = c.self.invariant.0.follows;
        played_out = λ over. none_left i.rows.items i.taken c.next_delivery-delivery.result c.first_due.result c.self.invariant.0.in_range (sym least ∙ c.in_default.is);
      },
      λ over. refl,
      λ sound. reached_more i.network.config i.network.config i.delay i.rows.items c.args.answers.now (play_at i.network i.deliveries.items i.delay i.rows.items i.taken i.ended i.unplaced.items) _ false refl
          c.if-self.false turn (c.self.invariant.2 c.if-not-self.false),
    )

pub returns-in_default-clause-grows : goal.returns-in_default-clause-grows
returns-in_default-clause-grows c = ([], rw (← c.self.view_is) (sym (append-nil c.self.inside.network.given)))

pub returns-in_default-clause-turn : goal.returns-in_default-clause-turn
returns-in_default-clause-turn c =
    let i = c.self.inside in
    let waits = rw c.given.ensures.items at c.in_ok-put_down.ensures in
    let row = rw c.as_slice.ensures.value at c.next_row-row.ensures in
    let whole = reached_whole i.network.config i.delay i.rows.items _ (c.self.invariant.2 c.if-not-self.false) in
    let next = next_is i.network i.deliveries.items c.put_down.new.deliveries.items i.delay i.rows.items i.taken i.ended i.unplaced.items c.args.answers.now c.next_row-row.result c.next_delivery-delivery.result
    c.first_due.result c.next_moment.result c.next_moment.ensures.least row c.next_delivery-delivery.ensures.first waits in
    let turn = end_is i.network i.deliveries.items c.put_down.new.deliveries.items i.delay i.rows.items i.taken i.ended i.unplaced.items c.args.answers.now c.first_due.result c.self.invariant.0.in_range whole c.first_due.ensures
    (sym next ∙ c.in_default.is) waits in
    rw (← c.self.view_is) (λ running. turn)

pub returns-in_default-clause-hears : goal.returns-in_default-clause-hears
returns-in_default-clause-hears c = λ running. record { running = running; more = false; turn = returns-in_default-clause-turn c running }

pub returns-in_default-clause-heard : goal.returns-in_default-clause-heard
returns-in_default-clause-heard c = λ running config delay rows heard has.
    heard_more config delay rows heard c.args.answers.now c.args.self.now _ false running (returns-in_default-clause-turn c running) has

pub deliver-requires : goal.deliver-requires
deliver-requires c = c.next_moment.ensures.in_range c.in-Some.now c.in-Some.is

pub invariant_of-self-in_err-deliver : goal.invariant_of-self-in_err-deliver
invariant_of-self-in_err-deliver c = (
  kept_grown c.self.inside.delay c.self.inside.taken c.self.inside.rows.items c.self.inside.ended c.self.inside.network c.deliver.new.network c.deliver.ensures.grows c.self.invariant.0,
  λ over. absurd (true≢false (sym over ∙ c.if-self.false)),
  λ sound. absurd (true≢false (sym sound)),
)

pub returns-in_err-deliver : goal.returns-in_err-deliver
returns-in_err-deliver c =
    let failed = c.from_residual-in_err-deliver.ensures.0 in
    record {
      grows = IfOk-from_err c.from_residual-in_err-deliver.result _ failed;
      ended = IfOk-from_err c.from_residual-in_err-deliver.result _ failed;
      end = IfOk-from_err c.from_residual-in_err-deliver.result _ failed;
      turn = IfOk-from_err c.from_residual-in_err-deliver.result _ failed;
      hears = IfOk-from_err c.from_residual-in_err-deliver.result _ failed;
      heard = IfOk-from_err c.from_residual-in_err-deliver.result _ failed;
      config = c.deliver.ensures.grows.same_config ∙ ap (λ (play : Play). play.network.config) c.self.view_is;
      delay = ap (λ (play : Play). play.delay) c.self.view_is;
      rows = ap (λ (play : Play). play.taken ++ play.left) c.self.view_is;
    }

pub take_rows-requires-clause-in_range : goal.take_rows-requires-clause-in_range
take_rows-requires-clause-in_range c = rw c.as_slice-2.ensures.value c.self.invariant.0.in_range

pub take_rows-requires-clause-within : goal.take_rows-requires-clause-within
take_rows-requires-clause-within c = rw c.as_slice-2.ensures.value c.self.invariant.0.within

pub take_rows-requires-clause-follows : goal.take_rows-requires-clause-follows
take_rows-requires-clause-follows c =
    rw c.as_slice-2.ensures.value
    (follows_grown (take c.self.inside.taken c.self.inside.rows.items) c.self.inside.network c.deliver.new.network c.deliver.ensures.grows c.self.invariant.0.follows)

pub invariant_of-self-in_err-take_rows : goal.invariant_of-self-in_err-take_rows
invariant_of-self-in_err-take_rows c = (
  record {
    delay_within_day = c.self.invariant.0.delay_within_day;
    in_range = c.self.invariant.0.in_range;
    within = rw c.as_slice-2.ensures.value at c.take_rows.ensures.within;
    follows = rw c.as_slice-2.ensures.value at c.take_rows.ensures.follows;
    played_out = λ over. absurd (true≢false (sym over ∙ c.if-self.false));
  },
  λ over. absurd (true≢false (sym over ∙ c.if-self.false)),
  λ sound. absurd (true≢false (sym sound)),
)

pub returns-in_err-take_rows : goal.returns-in_err-take_rows
returns-in_err-take_rows c =
    let failed = c.from_residual-in_err-take_rows.ensures.0 in
    record {
      grows = IfOk-from_err c.from_residual-in_err-take_rows.result _ failed;
      ended = IfOk-from_err c.from_residual-in_err-take_rows.result _ failed;
      end = IfOk-from_err c.from_residual-in_err-take_rows.result _ failed;
      turn = IfOk-from_err c.from_residual-in_err-take_rows.result _ failed;
      hears = IfOk-from_err c.from_residual-in_err-take_rows.result _ failed;
      heard = IfOk-from_err c.from_residual-in_err-take_rows.result _ failed;
      config = c.take_rows.ensures.added.same_config ∙ c.deliver.ensures.grows.same_config ∙ ap (λ (play : Play). play.network.config) c.self.view_is;
      delay = ap (λ (play : Play). play.delay) c.self.view_is;
      rows =
          take-append-drop c.take_rows.new.taken c.self.inside.rows.items ∙ sym (take-append-drop c.self.inside.taken c.self.inside.rows.items)
          ∙ ap (λ (play : Play). play.taken ++ play.left) c.self.view_is;
    }

pub advance-requires : goal.advance-requires
advance-requires c = c.next_moment.ensures.in_range c.in-Some.now c.in-Some.is

pub invariant_of-self-in_err-advance : goal.invariant_of-self-in_err-advance
invariant_of-self-in_err-advance c = (
  kept_on c.self.inside.network.given c.self.inside.delay c.self.inside.taken c.take_rows.new.taken c.self.inside.rows.items c.self.inside.ended c.take_rows.new.network c.advance.new.self
      c.self.invariant.0 c.if-self.false (rw c.as_slice-2.ensures.value at c.take_rows.ensures.within) (rw c.as_slice-2.ensures.value at c.take_rows.ensures.follows) c.advance.ensures.grows,
  λ over. absurd (true≢false (sym over ∙ c.if-self.false)),
  λ sound. absurd (true≢false (sym sound)),
)

pub returns-in_err-advance : goal.returns-in_err-advance
returns-in_err-advance c =
    let failed = c.from_residual-in_err-advance.ensures.0 in
    record {
      grows = IfOk-from_err c.from_residual-in_err-advance.result _ failed;
      ended = IfOk-from_err c.from_residual-in_err-advance.result _ failed;
      end = IfOk-from_err c.from_residual-in_err-advance.result _ failed;
      turn = IfOk-from_err c.from_residual-in_err-advance.result _ failed;
      hears = IfOk-from_err c.from_residual-in_err-advance.result _ failed;
      heard = IfOk-from_err c.from_residual-in_err-advance.result _ failed;
      config = c.advance.ensures.grows.same_config ∙ c.take_rows.ensures.added.same_config ∙ c.deliver.ensures.grows.same_config ∙ ap (λ (play : Play). play.network.config) c.self.view_is;
      delay = ap (λ (play : Play). play.delay) c.self.view_is;
      rows =
          take-append-drop c.take_rows.new.taken c.self.inside.rows.items ∙ sym (take-append-drop c.self.inside.taken c.self.inside.rows.items)
          ∙ ap (λ (play : Play). play.taken ++ play.left) c.self.view_is;
    }

pub invariant_of-self-2 : goal.invariant_of-self-2
invariant_of-self-2 c =
    let i = c.self.inside in
    let waits = rw c.given.ensures.items at c.in_ok-put_down.ensures in
    let row = rw c.as_slice.ensures.value at c.next_row-row.ensures in
    let whole = reached_whole i.network.config i.delay i.rows.items _ (c.self.invariant.2 c.if-not-self.false) in
    let next = next_is i.network i.deliveries.items c.put_down.new.deliveries.items i.delay i.rows.items i.taken i.ended i.unplaced.items c.args.answers.now c.next_row-row.result c.next_delivery-delivery.result
    c.first_due.result c.next_moment.result c.next_moment.ensures.least row c.next_delivery-delivery.ensures.first waits in
    let delivers = rw waits at c.in_ok-deliver.ensures.delivers in
    let plays = rw c.as_slice-2.ensures.value at c.in_ok-take_rows.ensures.plays in
    let turn = round_is i.network c.deliver.new.network c.take_rows.new.network c.advance.new.self i.deliveries.items c.deliver.new.deliveries.items i.delay i.rows.items i.taken c.take_rows.new.taken
    i.ended i.unplaced.items c.take_rows.new.unplaced.items c.args.answers.now c.first_due.result c.in-Some.now c.if-self.false whole c.first_due.ensures (sym next ∙ c.in-Some.is) delivers plays c.in_ok-advance.ensures.runs in
    let config = c.advance.ensures.grows.same_config ∙ c.take_rows.ensures.added.same_config ∙ c.deliver.ensures.grows.same_config in (
      kept_on i.network.given i.delay i.taken c.take_rows.new.taken i.rows.items i.ended c.take_rows.new.network c.advance.new.self c.self.invariant.0 c.if-self.false
          (rw c.as_slice-2.ensures.value at c.take_rows.ensures.within) (rw c.as_slice-2.ensures.value at c.take_rows.ensures.follows) c.advance.ensures.grows,
      λ over. refl,
      λ sound. reached_more i.network.config c.advance.new.self.config i.delay i.rows.items c.args.answers.now (play_at i.network i.deliveries.items i.delay i.rows.items i.taken i.ended i.unplaced.items) _ true config
          c.if-self.false turn (c.self.invariant.2 c.if-not-self.false),
    )

pub returns-clause-grows : goal.returns-clause-grows
returns-clause-grows c = (
  c.deliver.ensures.grows.added ++ (c.take_rows.ensures.added.added ++ c.advance.ensures.grows.added),
  rw (← c.self.view_is, c.advance.ensures.grows.grown, c.take_rows.ensures.added.grown, c.deliver.ensures.grows.grown)
      (append_assoc (c.self.inside.network.given ++ c.deliver.ensures.grows.added) c.take_rows.ensures.added.added c.advance.ensures.grows.added
      ∙ append_assoc c.self.inside.network.given c.deliver.ensures.grows.added (c.take_rows.ensures.added.added ++ c.advance.ensures.grows.added)),
)

pub returns-clause-end : goal.returns-clause-end
returns-clause-end c = λ over. absurd (true≢false over)

pub returns-clause-turn : goal.returns-clause-turn
returns-clause-turn c =
    let i = c.self.inside in
    let waits = rw c.given.ensures.items at c.in_ok-put_down.ensures in
    let row = rw c.as_slice.ensures.value at c.next_row-row.ensures in
    let whole = reached_whole i.network.config i.delay i.rows.items _ (c.self.invariant.2 c.if-not-self.false) in
    let next = next_is i.network i.deliveries.items c.put_down.new.deliveries.items i.delay i.rows.items i.taken i.ended i.unplaced.items c.args.answers.now c.next_row-row.result c.next_delivery-delivery.result
    c.first_due.result c.next_moment.result c.next_moment.ensures.least row c.next_delivery-delivery.ensures.first waits in
    let delivers = rw waits at c.in_ok-deliver.ensures.delivers in
    let plays = rw c.as_slice-2.ensures.value at c.in_ok-take_rows.ensures.plays in
    let turn = round_is i.network c.deliver.new.network c.take_rows.new.network c.advance.new.self i.deliveries.items c.deliver.new.deliveries.items i.delay i.rows.items i.taken c.take_rows.new.taken
    i.ended i.unplaced.items c.take_rows.new.unplaced.items c.args.answers.now c.first_due.result c.in-Some.now c.if-self.false whole c.first_due.ensures (sym next ∙ c.in-Some.is) delivers plays c.in_ok-advance.ensures.runs in
    rw (← c.self.view_is) (λ running. turn)

pub returns-clause-hears : goal.returns-clause-hears
returns-clause-hears c = λ running. record { running = running; more = true; turn = returns-clause-turn c running }

pub returns-clause-heard : goal.returns-clause-heard
returns-clause-heard c = λ running config delay rows heard has.
    heard_more config delay rows heard c.args.answers.now c.args.self.now _ true running (returns-clause-turn c running) has

pub returns-clause-rows : goal.returns-clause-rows
returns-clause-rows c =
    take-append-drop c.take_rows.new.taken c.self.inside.rows.items ∙ sym (take-append-drop c.self.inside.taken c.self.inside.rows.items)
    ∙ ap (λ (play : Play). play.taken ++ play.left) c.self.view_is
