-- What the steps of a turn leave of its rule.
use Rattle.std.proofs.Common.{◌≡◌, ◌≤◌, ◌<◌, ◌+◌, ◌-◌, ◌%◌, ◌^◌, ℕ, Option, None, List, length, get_or, set, refl, sym, ap, ◌∙◌, arith, subst, length-set, get_or-set_other, get_or-set_same}
use Rattle.std.proofs.Math.Nat.{mod-add-mod, mod-eq_of_lt}
use mathlib.Core.Option.{some}
use lib.ListN.{get_elem?}
use lib.Seq.{set-get_or}
use Rattle.atomic_table.specs.Table.{State}
use Rattle.atomic_table.proofs.Lists.{set_again}
use Rattle.account_core.specs.Ledger.{Ledger}
use Rattle.turn_account.specs.Turns.{BoardState, AreWords, IsNumbered, Kept, Knows}
use Rattle.turn_account.specs.Views.{IsSeat, IsServing, its_ticket, seats_at, ticket_of, tickets_at}
use Rattle.turn_account.specs.declared.board.Stage.{Stage}
use Rattle.turn_account.specs.declared.board.Stage.TheVariants.{Idles, Notes, Serves, Waits}
use Rattle.turn_account.specs.declared.board.Start.{Start}
use Rattle.turn_account.specs.declared.board.View.{View}
use Rattle.turn_account.proofs.Rosters.{apart_alike, apart_set, lies_set, total_kept, views_stay}

abbrev pub Table : Type 0
Table = State (Option Ledger) View

pub serving_is : (stage : Stage) → IsServing stage → stage ≡ Serves (its_ticket stage)
serving_is Notes serving = absurd serving
serving_is Idles serving = absurd serving
serving_is (Waits t) serving = absurd serving
serving_is (Serves t) serving = refl

pub numbered_so : (now : BoardState) (served out : ℕ) (holder : Option ℕ) (v : View) (stage : Stage) (heard : Ledger) → IsNumbered now v
    → IsNumbered (record { account = now.account; made = now.made; gone = now.gone; served = served; out = out; holder = holder }) (record v { stage = stage; heard = heard })
numbered_so now served out holder v stage heard numbered = record {
  opening = numbered.opening;
  until = numbered.until;
  limit = numbered.limit;
  number = numbered.number;
  gone = numbered.gone;
  first = numbered.first;
  own = numbered.own;
}

-- ---- words

pub words_draw : (now : BoardState) (words : List ℕ) → AreWords now words
    → AreWords (record now { out = now.out + 1 }) (set words 0 ((get_or words 0 0 + 1) % 2 ^ 64))
words_draw now words are =
    let next : ℕ = (get_or words 0 0 + 1) % 2 ^ 64 in
    let inside : 0 < length words = omega (arith, are.wide) in
    let sum : now.served + now.out + 1 ≡ now.served + (now.out + 1) = omega arith in
    record {
      wide = length-set words 0 next ∙ are.wide;
      ticket = get_or-set_same words 0 next 0 inside ∙ (ap (λ (n : ℕ). (n + 1) % 2 ^ 64) are.ticket
          ∙ (mod-add-mod (now.served + now.out) (2 ^ 64) 1 ∙ ap (λ (n : ℕ). n % 2 ^ 64) sum));
      serving = get_or-set_other words 0 1 next 0 (λ e. omega (arith, e)) ∙ are.serving;
      count = get_or-set_other words 0 2 next 0 (λ e. omega (arith, e)) ∙ are.count;
    }

pub words_hand : (now : BoardState) (words : List ℕ) → AreWords now words → 1 ≤ now.out
    → AreWords (record now { served = now.served + 1; out = now.out - 1; holder = None }) (set words 1 ((get_or words 1 0 + 1) % 2 ^ 64))
words_hand now words are some_out =
    let next : ℕ = (get_or words 1 0 + 1) % 2 ^ 64 in
    let inside : 1 < length words = omega (arith, are.wide) in
    let sum : now.served + now.out ≡ now.served + 1 + (now.out - 1) = omega (arith, some_out) in
    record {
      wide = length-set words 1 next ∙ are.wide;
      ticket = get_or-set_other words 1 0 next 0 (λ e. omega (arith, e)) ∙ (are.ticket ∙ ap (λ (n : ℕ). n % 2 ^ 64) sum);
      serving = get_or-set_same words 1 next 0 inside ∙ (ap (λ (n : ℕ). (n + 1) % 2 ^ 64) are.serving ∙ mod-add-mod now.served (2 ^ 64) 1);
      count = get_or-set_other words 1 2 next 0 (λ e. omega (arith, e)) ∙ are.count;
    }

pub words_count : (now : BoardState) (words : List ℕ) (account : Ledger) → AreWords now words → length account.history ≡ length now.account.history + 1
    → length account.history < 2 ^ 64 → AreWords (record now { account = account }) (set words 2 ((get_or words 2 0 + 1) % 2 ^ 64))
words_count now words account are longer fits =
    let next : ℕ = (get_or words 2 0 + 1) % 2 ^ 64 in
    let inside : 2 < length words = omega (arith, are.wide) in
    let small : length now.account.history + 1 < 2 ^ 64 = omega (arith, longer, fits) in
    record {
      wide = length-set words 2 next ∙ are.wide;
      ticket = get_or-set_other words 2 0 next 0 (λ e. omega (arith, e)) ∙ are.ticket;
      serving = get_or-set_other words 2 1 next 0 (λ e. omega (arith, e)) ∙ are.serving;
      count = get_or-set_same words 2 next 0 inside ∙ (ap (λ (n : ℕ). (n + 1) % 2 ^ 64) are.count
          ∙ (mod-eq_of_lt {n = length now.account.history + 1} {m = 2 ^ 64} small ∙ sym longer));
    }

module _ (start : Start) where
  -- ---- where nothing changes but a view, within its stage

  pub unchanged : (s : Table) (i id : ℕ) (v : View) → get_elem? s.views id ≡ some v → Kept start s
      → Kept start (record { words = set s.words i (get_or s.words i 0); homes = s.homes; views = set s.views id v })
  unchanged s i id v there kept =
      let W : List ℕ → Type 0 = λ ws. Kept start (record { words = ws; homes = s.homes; views = set s.views id v }) in
      let V : List View → Type 0 = λ vs. Kept start (record { words = s.words; homes = s.homes; views = vs }) in
      subst W (sym (set-get_or s.words i 0)) (subst V (sym (set_again s.views id v there)) kept)

  pub revises : (s : Table) (id : ℕ) (v w : View) (kept : Kept start s) → get_elem? s.views id ≡ some v → w.stage ≡ v.stage → (IsSeat w.stage → w.number ≡ v.number)
      → Knows kept.now id w → Kept start (record { words = s.words; homes = s.homes; views = set s.views id w })
  revises s id v w kept there stage number knows = record {
    now = kept.now;
    words = kept.words;
    past = kept.past;
    totals = record {
      seats = ap (λ (n : ℕ). n + kept.now.gone) (total_kept seats_at s.views id v w there (ap seats_at stage)) ∙ kept.totals.seats;
      tickets = total_kept tickets_at s.views id v w there (ap tickets_at stage) ∙ kept.totals.tickets;
    };
    each = views_stay (Knows kept.now) s.views id w knows (λ at u other is. kept.each at u is);
    apart = apart_set s.views id w kept.apart (λ by u other is. apart_alike v w u number (λ seat. subst IsSeat stage seat)
        (λ t has. ap ticket_of (sym stage) ∙ has) (kept.apart id by v u (λ e. other (sym e)) there is));
    lies = lies_set kept.now.account s.homes s.views id v w kept.now.holder there (λ t is. stage ∙ is) kept.lies;
  }
