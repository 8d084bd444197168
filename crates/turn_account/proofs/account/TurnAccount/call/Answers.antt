use Rattle.std.proofs.Common.{◌≡◌, ℕ, ◌∷◌, ◌++◌, [], List, ap, sym, subst}
use Rattle.std.specs.Prelude.{IfOk, MatchResult}
use Rattle.account_core.specs.Entries.{EntryData, asked_of}
use Rattle.account_core.specs.Ledger.{entry_by}
use Rattle.account_core.specs.Own.{own}
use Rattle.turn_account.specs.Plays.{Sitter}
use Rattle.account_core.specs.Prefixes.{EndsWithEntry, IsPrefix}
use Rattle.turn_account.specs.TurnViews.{TurnSeatView, own_of}
use Rattle.turn_account.proofs.Calls.{HasGone, ends, gone, owns, sits}
use Rattle.turn_account.proofs.account.TurnAccount.call.Given.{Over}
use Rattle.turn_account.proofs.account.TurnAccount.call.Goals as goal

went : (g : Over) (c : goal.After-drop-door g) → HasGone c.seat.inside.chair.me.0 c.ask_and_count-result.new.chair.me.0
went g c =
    gone c.seat.inside.chair.me.0 c.take_turn.new.chair.me.0 c.take_turn.ensures.later c.ask_and_count-result.new.chair.me.0 (entry_by c.seat.inside.number (asked_of c.args.op))
    c.ask_and_count-result.result c.ask_and_count-result.ensures.entered c.ask_and_count-result.ensures.kept

seen : (g : Over) (c : goal.After-drop-door g) → c.ask_and_count-result.new.chair.me.0.seen.history ≡ c.hand_on.new.chair.me.0.seen.history
seen g c = sym (ap (λ (m : Sitter). m.0.seen.history) c.hand_on.ensures.idle)

pub invariant_of-seat : goal.invariant_of-seat
invariant_of-seat g c =
    sits c.hand_on.new.chair.me c.seat.inside.chair.me.0 c.ask_and_count-result.new.chair.me.0 c.seat.inside.number c.hand_on.ensures.idle (went g c)
    c.seat.invariant.number c.seat.invariant.ended c.hand_on.ensures.legal

pub returns-clause-begins : goal.returns-clause-begins
returns-clause-begins g c =
    let I : TurnSeatView → Type 0 = λ s. IsPrefix s.view.history c.hand_on.new.chair.me.0.seen.history in
    subst I c.seat.view_is (subst (IsPrefix c.seat.inside.chair.me.0.seen.history) (seen g c) (went g c).begins)

pub returns-clause-ends : goal.returns-clause-ends
returns-clause-ends g c =
    let response = c.ask_and_count-result.result in
    let Ends : ℕ → List EntryData → List EntryData → Type 0 = λ number before after. IfOk response
    (λ reply. EndsWithEntry before (entry_by number (asked_of c.args.op) reply) after) in
    let after = c.hand_on.new.chair.me.0.seen.history in
    let S : TurnSeatView → Type 0 = λ s. Ends s.number s.view.history after in
    let before = c.seat.inside.chair.me.0.seen.history in
    subst S c.seat.view_is (subst (Ends c.seat.inside.number before) (seen g c)
    (ends _ _ c.take_turn.ensures.later _ _ response c.ask_and_count-result.ensures.entered))

pub returns-clause-own : goal.returns-clause-own
returns-clause-own g c =
    let number = c.seat.inside.number in
    let asked = asked_of c.args.op in
    let response = c.ask_and_count-result.result in
    let before : List EntryData = own number c.seat.inside.chair.me.0.seen.history in
    let O : List EntryData → Type 0 = λ h. MatchResult response (λ reply. own number h ≡ before ++ entry_by number asked reply ∷ []) (λ _. own number h ≡ before) in
    let S : TurnSeatView → Type 0 = λ s. let now = own number c.hand_on.new.chair.me.0.seen.history in
    MatchResult response (λ reply. now ≡ own_of s ++ entry_by s.number asked reply ∷ []) (λ _. now ≡ own_of s) in
    subst S c.seat.view_is (subst O (seen g c) (owns c.seat.inside.chair.me.0 c.take_turn.new.chair.me.0 c.take_turn.ensures.later c.ask_and_count-result.new.chair.me.0 asked number response
    c.seat.invariant.number c.ask_and_count-result.ensures.entered c.ask_and_count-result.ensures.kept))
