-- What a seat of a turn account has seen after a call, and after a meeting.
use Rattle.std.proofs.Common.{◌≡◌, ℕ, List, [], ◌∷◌, ◌++◌, Option, Result, Ok, Err, append_assoc, refl, sym, ap, ◌∙◌, subst}
use Rattle.std.specs.Prelude.{IfOk, MatchResult, OnErr, reverse}
use Rattle.std.proofs.lemmas.List.{reverse-append}
use Rattle.account_core.specs.Answers.{IsLegal, IsLegalPast}
use Rattle.account_core.specs.Asked.{Asked}
use Rattle.account_core.specs.Entries.{EntryData}
use Rattle.account_core.specs.Ledger.{entry_by}
use Rattle.account_core.specs.declared.entry.Reply.{Reply}
use Rattle.account_core.specs.declared.fault.AccountFault.{AccountFault}
use Rattle.account_core.specs.Kinds.{IsReplyTo}
use Rattle.account_core.specs.Own.{own}
use Rattle.turn_account.specs.Plays.{HasMet, IsLater, Sitter, with_entry}
use Rattle.account_core.specs.Prefixes.{EndsWithEntry, IsPrefix}
use Rattle.turn_account.specs.Sitting.{IsSitting}
use Rattle.turn_account.specs.Views.{at_stage, hearing, seeing}
use Rattle.turn_account.specs.declared.board.Stage.TheVariants.{Idles}
use Rattle.turn_account.specs.declared.board.View.{View}
use Rattle.account_core.proofs.ReplyKinds.{answer_fits}
use Rattle.account_core.proofs.Beginnings.{begins_further, begins_longer, own_entry}

-- a seat after its turn: it has seen what it saw, and more
pub record HasGone (before after : View) : Type 0 where
  pub number : after.number ≡ before.number
  pub opening : after.seen.opening ≡ before.seen.opening
  pub until : after.seen.until ≡ before.seen.until
  pub limit : after.seen.limit ≡ before.seen.limit
  pub ended : after.ended ≡ before.ended
  pub begins : IsPrefix before.seen.history after.seen.history

module _ (before here : View) (later : IsLater before here) where
  unentered : HasGone before here
  unentered = record { number = later.number; opening = later.opening; until = later.until; limit = later.limit; ended = later.ended; begins = later.begins }

  entered : (entry : EntryData) → HasGone before (seeing here (with_entry here.seen entry))
  entered entry = record {
    number = later.number;
    opening = later.opening;
    until = later.until;
    limit = later.limit;
    ended = later.ended;
    begins = begins_further before.seen.history here.seen.history (here.seen.history ++ entry ∷ []) later.begins (begins_longer here.seen.history entry);
  }

  pub gone : (after : View) (entry : Reply → EntryData) (response : Result Reply AccountFault) → IfOk response (λ reply. after ≡ seeing here (with_entry here.seen (entry reply)))
      → OnErr response (after ≡ here) → HasGone before after
  gone after entry (Ok reply) seen kept = subst (HasGone before) (sym seen) (entered (entry reply))
  gone after entry (Err why) seen kept = subst (HasGone before) (sym kept) unentered

  -- with a reply, the history ends with the entry
  pub ends : (after : View) (entry : Reply → EntryData) (response : Result Reply AccountFault) → IfOk response (λ reply. after ≡ seeing here (with_entry here.seen (entry reply)))
      → IfOk response (λ reply. EndsWithEntry before.seen.history (entry reply) after.seen.history)
  ends after entry (Ok reply) seen = record {
    between = later.begins.rest;
    is = ap (λ (v : View). v.seen.history) seen ∙ (ap (λ (h : List EntryData). h ++ entry reply ∷ []) later.begins.is ∙ append_assoc before.seen.history later.begins.rest (entry reply ∷ []));
  }
  ends after entry (Err why) seen = tt

  -- and the seat has one entry more, of its own
  pub owns : (after : View) (asked : Asked) (seat : ℕ) (response : Result Reply AccountFault) → before.number ≡ seat
      → IfOk response (λ reply. after ≡ seeing here (with_entry here.seen (entry_by seat asked reply))) → OnErr response (after ≡ here)
      → MatchResult response (λ reply. own seat after.seen.history ≡ own seat before.seen.history ++ entry_by seat asked reply ∷ [])
      (λ _. own seat after.seen.history ≡ own seat before.seen.history)
  owns after asked seat (Ok reply) number seen kept =
      let here_own : own seat here.seen.history ≡ own seat before.seen.history = subst (λ (n : ℕ). own n here.seen.history ≡ own n before.seen.history) number later.own in
      ap (λ (v : View). own seat v.seen.history) seen
      ∙ (own_entry seat here.seen.history (entry_by seat asked reply) refl ∙ ap (λ (h : List EntryData). h ++ entry_by seat asked reply ∷ []) here_own)
  owns after asked seat (Err why) number seen kept =
      ap (λ (v : View). own seat v.seen.history) kept ∙ subst (λ (n : ℕ). own n here.seen.history ≡ own n before.seen.history) number later.own

pub sits : (me : Sitter) (before after : View) (seat : ℕ) → me ≡ (at_stage after Idles, []) → HasGone before after → before.number ≡ seat → before.ended ≡ []
    → IsLegal after.seen.opening after.seen.until after.seen.history → IsSitting me seat
sits me before after seat rests gone number ended legal =
    subst (λ (m : Sitter). IsSitting m seat) (sym rests)
    (record { idle = refl; hands = refl; number = gone.number ∙ number; ended = gone.ended ∙ ended; legal = legal })

-- ---- a meeting

pub met_sits : (second heard after : Sitter) (first : View) (seat : ℕ) → IsSitting second seat → heard ≡ (hearing second.0 first, second.1)
    → HasMet heard.0.seen.history heard.0.heard.history heard.0 after.0 → after.1 ≡ heard.1 → IsSitting after seat
met_sits second heard after first seat rests hears met hands =
    let M : Sitter → Type 0 = λ x. HasMet x.0.seen.history x.0.heard.history x.0 after.0 in
    let now : HasMet second.0.seen.history first.seen.history (hearing second.0 first) after.0 = subst M hears met in
    record {
      idle = now.stage ∙ rests.idle;
      hands = hands ∙ (ap (λ (x : Sitter). x.1) hears ∙ rests.hands);
      number = now.number ∙ rests.number;
      ended = now.ended ∙ rests.ended;
      legal = now.legal;
    }

-- ---- a reply at the end of a legal history is of its operation's kind

fits_last : (opening : ℕ) (until : Option ℕ) (before : List EntryData) (entry : EntryData) → IsLegal opening until (before ++ entry ∷ []) → IsReplyTo entry.asked entry.reply
fits_last opening until before entry legal =
    let L : List EntryData → Type 0 = IsLegalPast opening until in
    let last = (subst L (reverse-append before (entry ∷ [])) legal).1 in
    subst (IsReplyTo entry.asked) (sym last.answered) (answer_fits opening until (reverse before) entry.asked)

pub ends_kindly : (opening : ℕ) (until : Option ℕ) (before after : List EntryData) (seat : ℕ) (asked : Asked) (response : Result Reply AccountFault) → IsLegal opening until after
    → IfOk response (λ reply. EndsWithEntry before (entry_by seat asked reply) after) → IfOk response (IsReplyTo asked)
ends_kindly opening until before after seat asked (Ok reply) legal ends =
    let entry : EntryData = entry_by seat asked reply in
    let whole : after ≡ (before ++ ends.between) ++ entry ∷ [] = ends.is ∙ sym (append_assoc before ends.between (entry ∷ [])) in
    fits_last opening until (before ++ ends.between) entry (subst (IsLegal opening until) whole legal)
ends_kindly opening until before after seat asked (Err why) legal ends = tt
