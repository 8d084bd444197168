-- Two runs that are given the same at first.
use Rattle.std.proofs.Common.{◌≡◌, ◌∙◌, ◌++◌, ◌+◌, ℕ, Option, List, [], ◌∷◌, length, map, take, refl, sym, ap, subst, arith}
use Rattle.std.proofs.lemmas.List.{length-map}
use Rattle.runs_core.proofs.HandOuts.{numbered-append}
use Rattle.runs_core.proofs.HearingLemmas.{many_answers, numbered-length}
use Rattle.account_core.specs.Entries.{EntryData}
use Rattle.live_recovery.proofs.Alike.{ItemsAlike, SpeakAlike, speaks_itself}
use Rattle.live_recovery.proofs.Alone.{answers_all, are_legal, none_is_fault, opening_at, own_lists, shares_all, until_at}
use Rattle.live_recovery.proofs.Chains.{NoFault, chain_begins, once_alike}
use Rattle.live_recovery.proofs.Handling.{AreLegal, HoldAlike, done_goes_on}
use Rattle.live_recovery.specs.Laws.{views_of}
use Rattle.part_laws.specs.Laws.{FrontsAreAnsweredAlike}
use Rattle.run_values.specs.Setups.{Setup}
use Rattle.run_values.specs.declared.post.Post.{Post}
use Rattle.runs_core.specs.Closing.{refuses_in}
use Rattle.runs_core.specs.Hearing.{IsAnsweredBy}
use Rattle.runs_core.specs.Shares.{Item, item_of, numbered}
use Rattle.turn_account.specs.Seen.{StoodIn}
use Rattle.tariff_core.specs.Laws.{IsProper}
use Rattle.runs_core.proofs.Handling.{placed_after}
use Rattle.runs_core.specs.Chains.{AreAnswered, at_first, seat_numbers}
use Rattle.runs_core.specs.Handled.{AnswerView, Holding}
use Rattle.runs_core.specs.Talks.{Showing}
use Rattle.runs_core.specs.Verdicts.{verdict}
use Rattle.runs_core.specs.Workers.{ArePlaced}

same_items : (one other : Item) → one ≡ other → ItemsAlike one other
same_items one other same = record {
  number = ap (λ (i : Item). i.number) same;
  at = ap (λ (i : Item). i.at) same;
  body = subst (λ (i : Item). SpeakAlike one.body i.body) same (speaks_itself one.body);
}

module _ (o : ℕ → ℕ) (u : ℕ → Option ℕ) (Shows Others : ℕ → Showing) (setup : Setup) (numbers : List ℕ) (proper : IsProper setup.tariff) where
  pub fronts_alike : (front more rest : List Item) (posts others : List Post) (answers replies : List AnswerView) (old new again last : Holding)
      → map item_of posts ≡ front ++ more → map item_of others ≡ front ++ rest → length old.lists ≡ length setup.accounts → ArePlaced (length setup.accounts) old.talks → HoldAlike old again
      → NoFault answers → NoFault replies → AreLegal o u (length setup.accounts) new.lists → AreLegal o u (length setup.accounts) last.lists
      → AreAnswered Shows setup numbers posts answers old new → AreAnswered Others setup numbers others replies again last
      → take (length front) answers ≡ take (length front) replies
  fronts_alike [] more rest posts others answers replies old new again last is its many placed hold none none_too legal legal_too are too = refl
  fronts_alike (item ∷ front) more rest [] others answers replies old new again last is its many placed hold none none_too legal legal_too are too = absurd (cc)
  fronts_alike (item ∷ front) more rest (post ∷ posts) [] answers replies old new again last is its many placed hold none none_too legal legal_too are too = absurd (cc)
  fronts_alike (item ∷ front) more rest (post ∷ posts) (other ∷ others) [] replies old new again last is its many placed hold none none_too legal legal_too are too = absurd are
  fronts_alike (item ∷ front) more rest (post ∷ posts) (other ∷ others) (answer ∷ answers) [] old new again last is its many placed hold none none_too legal legal_too are too = absurd too
  fronts_alike (item ∷ front) more rest (post ∷ posts) (other ∷ others) (answer ∷ answers) (also ∷ replies) old new again last is its many placed hold none none_too legal legal_too are too =
      let between = are.0 in
      let between_too = too.0 in
      let first : item_of post ≡ item = cc is in
      let second : item_of other ≡ item = cc its in
      let alike = once_alike o u Shows Others setup numbers proper post other old between again between_too answer also new.lists last.lists (same_items (item_of post) (item_of other) (first ∙ sym second))
      many placed hold are.1.handled.number too.1.handled.number none.0 none_too.0
      (chain_begins Shows setup numbers posts answers between new are.2) legal (chain_begins Others setup numbers others replies between_too last too.2) legal_too
      are.1.handled.done too.1.handled.done in
      let goes = done_goes_on setup numbers post.at (verdict setup old.talks post) old between answer are.1.handled.done in
      let later = fronts_alike front more rest posts others answers replies between new between_too last (cc is) (cc its) (goes.many ∙ many)
      (placed_after setup numbers post old between answer placed are.1.handled.done) alike.hold none.1 none_too.1 legal legal_too are.2 too.2 in
      ap (λ (t : AnswerView). t ∷ take (length front) answers) alike.answer_is ∙ ap (λ (l : List AnswerView). also ∷ l) later

pub fronts_answered : FrontsAreAnsweredAlike
fronts_answered setup given more rest answers others books other proper run run_too none none_too =
    let all = given ++ more in
    let its = given ++ rest in
    let a : IsAnsweredBy StoodIn setup 1 all answers books 0 = run.answered 0 (omega arith) in
    let b : IsAnsweredBy StoodIn setup 1 its others other 0 = run_too.answered 0 (omega arith) in
    let views = ap views_of (answers_all all answers (many_answers 0 all answers run.each_heard)) in
    let views_too = ap views_of (answers_all its others (many_answers 0 its others run_too.each_heard)) in
    let lists = own_lists books run.owned in
    let lists_too = own_lists other run_too.owned in
    let o = opening_at setup.accounts in
    let u = until_at setup.accounts in
    let L : List (List EntryData) → Type 0 = AreLegal o u (length setup.accounts) in
    let legal = subst L (sym lists) (λ place within. are_legal setup.limit setup.accounts books place run.opened run.legal within) in
    let legal_too = subst L (sym lists_too) (λ place within. are_legal setup.limit setup.accounts other place run_too.opened run_too.legal within) in
    let N : List AnswerView → Type 0 = NoFault in
    let front = numbered 0 given in
    let same = fronts_alike o u (refuses_in StoodIn books 0) (refuses_in StoodIn other 0) setup (seat_numbers 0 setup) proper front (numbered (0 + length given) more) (numbered (0 + length given) rest)
    a.posts b.posts _ _ (at_first setup) _ (at_first setup) _ (a.share ∙ shares_all all ∙ numbered-append 0 given more) (b.share ∙ shares_all its ∙ numbered-append 0 given rest)
    (length-map setup.accounts _) (λ call. tt) (record { lists = refl; talks = λ call. refl })
    (subst N (sym views) (none_is_fault answers none)) (subst N (sym views_too) (none_is_fault others none_too)) legal legal_too a.answered.chain b.answered.chain in
    let count = numbered-length 0 given in
    ap (λ (n : ℕ). take n (views_of answers)) (sym count) ∙ ap (take (length front)) (sym views) ∙ same ∙ ap (take (length front)) views_too ∙ ap (λ (n : ℕ). take n (views_of others)) count
