use Rattle.std.proofs.Common.{◌≡◌, ◌++◌, ◌∷◌, [], Bool, List, true, false, subst, sym, ◌∙◌, ◌≢◌, ℕ, append-nil, refl}
use Rattle.std.proofs.lemmas.List.Elements.{All-push}
use Rattle.std.specs.Prelude.{All, if◌then◌else◌}
use Rattle.std.specs.Result.{is_ok}
use Rattle.std.proofs.lemmas.List.{map-append}
use Rattle.live_answers.specs.Said.{IsInRange, line_view_of}
use Rattle.live_answers.specs.declared.judging.Said.{Said}
use Rattle.live_answers.proofs.group.Group.add.Goals.{in-Message+in_ok-extend_from_slice, in_default}
use Rattle.live_answers.specs.Live.{last_after}
use Rattle.live_answers.specs.Rows.{put_down}
use Rattle.live_answers.specs.declared.judging.Said.TheVariants as said
use Rattle.run_texts.specs.declared.message.Message.{Message}
use Rattle.live_answers.proofs.group.Group.add.Goals as goal

-- whether or not there was room for it
pushed : (room : Bool) (items : List Said) (item : Said) → All IsInRange items → IsInRange item → All IsInRange (if room then items ++ item ∷ [] else items)
pushed true items item are is = All-push IsInRange items item are is
pushed false items item are is = are

pub invariant_of-self-2 : goal.invariant_of-self-2
invariant_of-self-2 c =
    let said_is : c.match-said.said ≡ c.in_ok-said.said = elim c.match-said.branch [
      | in-Message+in_ok-extend_from_slice w ↦ w.said-is ∙ sym w.in-Message.is
      | in_default w ↦ w.said-is
    ] in
    let in_range = subst IsInRange (sym said_is) c.in_ok-said.ensures.in_range in
    record { in_range = rw c.push.ensures.items (pushed (is_ok c.push.result) c.args.self.now.said.items c.match-said.said c.args.self.now.in_range in_range) }

-- nothing is logged of a line that says no message
none_logged : (one : Said) (line : List ℕ) → ((m : Message) → one ≢ said.Message m)
    → put_down line (line_view_of one) ≡ []
none_logged said.Nothing line is = refl
none_logged (said.Message m) line is = absurd (is m refl)
none_logged (said.Fault kind) line is = refl

-- nor is there another moment
same_moment : (one : Said) (last : ℕ) → ((m : Message) → one ≢ said.Message m)
    → last_after last (line_view_of one) ≡ last
same_moment said.Nothing last is = refl
same_moment (said.Message m) last is = absurd (is m refl)
same_moment (said.Fault kind) last is = refl

pub returns-clause-said : goal.returns-clause-said
returns-clause-said c =
    let said_is : c.match-said.said ≡ c.in_ok-said.said = elim c.match-said.branch [
      | in-Message+in_ok-extend_from_slice w ↦ w.said-is ∙ sym w.in-Message.is
      | in_default w ↦ w.said-is
    ] in
    rw (c.in_ok-push.ensures.items, map-append, said_is, c.in_ok-said.ensures.says) refl

pub returns-clause-logged : goal.returns-clause-logged
returns-clause-logged c = rw (← c.in_ok-said.ensures.says) (elim c.match-said.branch [
  | in-Message+in_ok-extend_from_slice w ↦
      rw (w.self-is, w.in-Message.is) w.in_ok-extend_from_slice.ensures.items
  | in_default w ↦
      let none = none_logged c.in_ok-said.said c.args.line.now w.in_default.not-Message in
      rw (w.self-is, none) (sym (append-nil _))
])

pub returns-clause-next : goal.returns-clause-next
returns-clause-next c = rw c.in_ok-said.ensures.says at c.next_place-self.ensures

pub returns-clause-last : goal.returns-clause-last
returns-clause-last c = rw (← c.in_ok-said.ensures.says) (elim c.match-said.branch [
  | in-Message+in_ok-extend_from_slice w ↦ rw (w.self-is, w.in-Message.is) refl
  | in_default w ↦
      let same = same_moment c.in_ok-said.said c.args.self.now.last w.in_default.not-Message in
      rw (w.self-is, same) refl
])
