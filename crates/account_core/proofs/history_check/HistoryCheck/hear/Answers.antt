use Rattle.std.proofs.Common.{◌≡◌, ℕ, Box, Global, List, None, Option, ap, arith, refl, rules}
use Rattle.std.proofs.lemmas.Option.{IfSome_then}
use Rattle.std.specs.Box.{with_value}
use Rattle.account_core.specs.Asked.{call_of}
use Rattle.account_core.specs.Checked.{HasTally, IsCheckOf, IsHeardOf}
use Rattle.account_core.specs.Entries.{EntryData, asked_of}
use Rattle.account_core.specs.Known.{known, nothing_known}
use Rattle.account_core.specs.Tallied.{IsTallied}
use Rattle.account_core.specs.declared.history_check.Heard.{Heard}
use Rattle.account_core.specs.declared.history_check.Heard.TheVariants.{Illegal, Legal, Nothing}
use Rattle.account_core.specs.declared.history_check.HistoryCheck.{HistoryCheck}
use Rattle.account_core.specs.declared.tally.Tally.{Tally}
use Rattle.account_core.proofs.history_check.HistoryCheck.hear.Goals as goal

-- a check that has a tally has that of its history
tallied : (opening : ℕ) (until : Option ℕ) (h : List EntryData) (check : HistoryCheck) (tally : Box Tally Global) (now : Tally) → check.heard ≡ Legal tally → now ≡ tally.value
    → IsCheckOf opening until h check → IsTallied opening until h now
tallied opening until h check tally now is now_is check_is = rw now_is (rw is at check_is.heard)

-- one that has none, and needs none, has heard that its history isn't legal
illegal : (opening : ℕ) (until : Option ℕ) (h : List EntryData) (heard : Heard) → HasTally heard → ((tally : Box Tally Global) → heard ≡ Legal tally → ⊥)
    → IsHeardOf opening until h heard → heard ≡ Illegal
illegal opening until h (Nothing alloc last) has other is = absurd has
illegal opening until h (Legal tally) has other is = absurd (other tally refl)
illegal opening until h Illegal has other is = refl

pub returns-in_err-begin-clause-fresh : goal.returns-in_err-begin-clause-fresh
returns-in_err-begin-clause-fresh c =
    let new : (opening : ℕ) (until : Option ℕ) (h : List EntryData) → IsCheckOf opening until h c.args.self.now → known (call_of (asked_of c.args.entry.op)) h ≡ nothing_known =
    λ opening until h check. ap (known (call_of (asked_of c.args.entry.op))) (c.in_err-begin.ensures.empty opening until h check) in
    search rules

pub returns-in_default : goal.returns-in_default
returns-in_default c = record {
  heard = λ opening until h check.
      let begun = c.begin.ensures.same opening until h check in
      let is = illegal opening until h c.begin.new.self.heard c.in_ok-begin.ensures.begun c.in_default.not-Legal begun.heard in
      search rules;
  right = λ none opening until h check legal.
      let begun = c.begin.ensures.same opening until h check in
      let is = illegal opening until h c.begin.new.self.heard c.in_ok-begin.ensures.begun c.in_default.not-Legal begun.heard in
      search rules;
  wrong = tt;
  kept = tt;
  fresh = tt;
}

pub hear-requires : goal.hear-requires
hear-requires c =
    let (opening, until, h, check) = c.requires in (
      opening,
      until,
      h,
      tallied opening until h c.begin.new.self c.in-Legal.tally c.deref_mut.result.now c.in-Legal.is c.deref_mut.ensures.value (c.begin.ensures.same opening until h check),
    )

pub returns-in_err-wrong-clause-kept : goal.returns-in_err-wrong-clause-kept
returns-in_err-wrong-clause-kept c =
    let kept : (opening : ℕ) (until : Option ℕ) (h : List EntryData) → IsCheckOf opening until h c.args.self.now
    → IsCheckOf opening until h (record c.begin.new.self { heard = Legal (with_value c.in-Legal.tally c.hear.new.self) }) =
    λ opening until h check.
    let begun = c.begin.ensures.same opening until h check in
    let before = tallied opening until h c.begin.new.self c.in-Legal.tally c.deref_mut.result.now c.in-Legal.is c.deref_mut.ensures.value begun in
    record { heard = c.in_err-wrong.ensures.kept opening until h before; opening_is = begun.opening_is; entries_are = begun.entries_are } in
    search rules

pub returns-in_err-wrong-clause-fresh : goal.returns-in_err-wrong-clause-fresh
returns-in_err-wrong-clause-fresh c =
    let fresh : (opening : ℕ) (until : Option ℕ) (h : List EntryData) → IsCheckOf opening until h c.args.self.now → known (call_of (asked_of c.args.entry.op)) h ≡ nothing_known =
    λ opening until h check. c.in_err-wrong.ensures.fresh opening until h
    (tallied opening until h c.begin.new.self c.in-Legal.tally c.deref_mut.result.now c.in-Legal.is c.deref_mut.ensures.value (c.begin.ensures.same opening until h check)) in
    search rules

pub returns-then-is_some-clause-heard : goal.returns-then-is_some-clause-heard
returns-then-is_some-clause-heard c = λ opening until h check.
    let begun = c.begin.ensures.same opening until h check in
    let before = tallied opening until h c.begin.new.self c.in-Legal.tally c.deref_mut.result.now c.in-Legal.is c.deref_mut.ensures.value begun in
    search rules

pub returns-then-is_some-clause-wrong : goal.returns-then-is_some-clause-wrong
returns-then-is_some-clause-wrong c =
    IfSome_then c.in_ok-wrong.wrong c.in_ok-wrong.ensures.wrong (λ right is_wrong opening until h check.
    let begun = c.begin.ensures.same opening until h check in
    let before = tallied opening until h c.begin.new.self c.in-Legal.tally c.deref_mut.result.now c.in-Legal.is c.deref_mut.ensures.value begun in
    (before.legal, is_wrong opening until h before))

pub returns-else-is_some-clause-heard : goal.returns-else-is_some-clause-heard
returns-else-is_some-clause-heard c = λ opening until h check.
    let begun = c.begin.ensures.same opening until h check in
    let before = tallied opening until h c.begin.new.self c.in-Legal.tally c.deref_mut.result.now c.in-Legal.is c.deref_mut.ensures.value begun in
    let none : c.in_ok-wrong.wrong ≡ None = search rules in
    let after = c.in_ok-wrong.ensures.legal none opening until h before in
    record { heard = after; opening_is = begun.opening_is; entries_are = omega (arith, c.saturating_add-self-2.ensures, begun.entries_are) }

pub returns-else-is_some-clause-right : goal.returns-else-is_some-clause-right
returns-else-is_some-clause-right c = λ none opening until h check legal.
    let begun = c.begin.ensures.same opening until h check in
    let before = tallied opening until h c.begin.new.self c.in-Legal.tally c.deref_mut.result.now c.in-Legal.is c.deref_mut.ensures.value begun in
    (c.in_ok-wrong.ensures.legal none opening until h before).legal.1
