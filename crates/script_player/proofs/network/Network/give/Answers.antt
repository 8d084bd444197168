use Rattle.std.proofs.Common.{false, refl}
use Rattle.script_player.proofs.Changes.{dues_fed, gives_fed, shown, waited}
use Rattle.script_player.proofs.CallItems.{grows_posted, has_some, gave_moved}
use Rattle.script_player.proofs.network.Network.give.Goals as goal

pub invariant_of-self-2 : goal.invariant_of-self-2
invariant_of-self-2 c =
    rw (c.post.ensures.items, c.as_slice.ensures.value, c.in_ok-reserve.ensures.items)
    ((
      gave_moved c.self.inside.config c.self.inside.calls c.feed.new.calls c.args.call c.self.inside.given.items c.in-Some.fed.sent.items c.self.invariant.0 c.in-Some.ensures.some.moves,
      λ whole. dues_fed c.self.inside.config c.self.inside.calls c.feed.new.calls c.self.inside.dues c.replace_due.new.dues c.args.now c.args.call c.self.inside.given.items c.args.input c.in-Some.fed
          c.self.invariant.0 (c.self.invariant.1 whole) c.in-Some.ensures.some c.in_ok-replace_due.ensures,
    ))

pub invariant_of-self-in_err-replace_due : goal.invariant_of-self-in_err-replace_due
invariant_of-self-in_err-replace_due c =
    rw (c.post.ensures.items, c.as_slice.ensures.value, c.in_ok-reserve.ensures.items)
    ((
      gave_moved c.self.inside.config c.self.inside.calls c.feed.new.calls c.args.call c.self.inside.given.items c.in-Some.fed.sent.items c.self.invariant.0 c.in-Some.ensures.some.moves,
      λ whole. cc,
    ))

pub returns-in_err-replace_due-clause-grows : goal.returns-in_err-replace_due-clause-grows
returns-in_err-replace_due-clause-grows c =
    rw (← c.self.view_is)
    (grows_posted c.args.call (shown c.self.inside.config c.self.inside.calls c.self.inside.given.items c.self.inside.whole) (shown c.self.inside.config c.feed.new.calls c.post.new.given.items false) c.in-Some.fed.sent.items
    (has_some c.self.inside.config c.self.inside.calls c.feed.new.calls c.args.call c.self.inside.given.items c.in-Some.fed.sent.items c.self.invariant.0 c.in-Some.ensures.some.moves) refl
    (rw (c.post.ensures.items, c.as_slice.ensures.value, c.in_ok-reserve.ensures.items) refl))

pub returns-clause-grows : goal.returns-clause-grows
returns-clause-grows c =
    rw (← c.self.view_is)
    (grows_posted c.args.call (shown c.self.inside.config c.self.inside.calls c.self.inside.given.items c.self.inside.whole) (shown c.self.inside.config c.feed.new.calls c.post.new.given.items c.self.inside.whole) c.in-Some.fed.sent.items
    (has_some c.self.inside.config c.self.inside.calls c.feed.new.calls c.args.call c.self.inside.given.items c.in-Some.fed.sent.items c.self.invariant.0 c.in-Some.ensures.some.moves) refl
    (rw (c.post.ensures.items, c.as_slice.ensures.value, c.in_ok-reserve.ensures.items) refl))

pub returns-clause-gives : goal.returns-clause-gives
returns-clause-gives c =
    rw (← c.self.view_is)
    (gives_fed (shown c.self.inside.config c.self.inside.calls c.self.inside.given.items c.self.inside.whole) (shown c.self.inside.config c.feed.new.calls c.post.new.given.items c.self.inside.whole)
    c.self.inside.calls c.feed.new.calls c.args.now c.args.call c.args.input c.in-Some.fed refl refl c.in-Some.ensures.some
    (rw (c.post.ensures.items, c.as_slice.ensures.value, c.in_ok-reserve.ensures.items) refl) refl refl)

pub returns-clause-waited : goal.returns-clause-waited
returns-clause-waited c = λ wait at timer.
    waited c.self.inside.config c.self.inside.calls c.feed.new.calls c.args.now c.args.call at c.self.inside.given.items c.args.input c.in-Some.fed c.self.invariant.0 c.in-Some.ensures.some wait timer
