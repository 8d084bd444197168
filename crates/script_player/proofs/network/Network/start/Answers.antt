use Rattle.std.proofs.Common.{true≢false, ◌∙◌, sym, refl}
use Rattle.script_player.proofs.Changes.{dues_begun, shown, starts_new}
use Rattle.script_player.proofs.CallItems.{gave_started, starts_not}
use Rattle.script_player.proofs.network.Network.start.Goals as goal

pub invariant_of-self-2 : goal.invariant_of-self-2
invariant_of-self-2 c =
    rw (c.post.ensures.items, c.as_slice.ensures.value, c.in_ok-reserve.ensures.items)
    ((
      gave_started c.self.inside.config c.self.inside.calls c.insert.new.self c.args.now c.args.call c.args.calling c.args.called c.self.inside.given.items c.begin-ssf.result.ssf
          c.begin-ssf.result.sent.items c.requires c.self.invariant.0 (sym c.contains_key.ensures ∙ c.if-contains_key.false) c.in_ok-insert.ensures.updates c.begin-ssf.ensures,
      λ whole. dues_begun c.self.inside.calls c.insert.new.self c.self.inside.dues c.replace_due.new.dues c.self.inside.config c.args.now c.args.call c.args.calling c.args.called
          c.begin-ssf.result.ssf c.begin-ssf.result.sent.items c.next_due.result (c.self.invariant.1 whole) (sym c.contains_key.ensures ∙ c.if-contains_key.false)
          c.in_ok-insert.ensures.updates c.begin-ssf.ensures (record { least = c.next_due.ensures.least; ahead = c.next_due.ensures.ahead }) c.in_ok-replace_due.ensures,
    ))

pub returns-clause-starts : goal.returns-clause-starts
returns-clause-starts c =
    rw (← c.self.view_is)
    (starts_new (shown c.self.inside.config c.self.inside.calls c.self.inside.given.items c.self.inside.whole) (shown c.self.inside.config c.insert.new.self c.post.new.given.items c.self.inside.whole)
    c.self.inside.calls c.insert.new.self c.args.now c.args.call c.args.calling c.args.called c.begin-ssf.result.ssf c.begin-ssf.result.sent.items refl refl
    (sym c.contains_key.ensures ∙ c.if-contains_key.false) c.in_ok-insert.ensures.updates c.begin-ssf.ensures
    (rw (c.post.ensures.items, c.as_slice.ensures.value, c.in_ok-reserve.ensures.items) refl) refl refl)

pub returns-then-contains_key-clause-started : goal.returns-then-contains_key-clause-started
returns-then-contains_key-clause-started c =
    rw (← c.self.view_is)
    (starts_not c.self.inside.config c.self.inside.calls c.self.inside.given.items c.args.call _ c.self.invariant.0 (sym c.contains_key.ensures ∙ c.if-contains_key.true))

pub invariant_of-self-in_err-replace_due : goal.invariant_of-self-in_err-replace_due
invariant_of-self-in_err-replace_due c = (rw c.in_ok-reserve.ensures.items c.self.invariant.0, λ whole. absurd (true≢false (sym whole)))

pub invariant_of-self-in_err-insert : goal.invariant_of-self-in_err-insert
invariant_of-self-in_err-insert c = (
  rw (c.in_err-insert.ensures.err, c.in_ok-reserve.ensures.items) (record { gave = c.self.invariant.0.gave; in_range = c.self.invariant.0.in_range }),
  λ whole. absurd (true≢false (sym whole)),
)
