-- Lists of views, of which one changes or is new.
use Rattle.std.proofs.Common.{◌≡◌, ◌≢◌, ◌≤◌, ◌+◌, ◌⊎◌, ℕ, Option, Some, None, List, [], ◌∷◌, ◌++◌, length, set, refl, sym, ap, ◌∙◌, arith, subst, zero, suc, ⊎_elim, inl, inr}
use mathlib.Core.Option.{some, some-injective, some-ne-none}
use mathlib.Core.Option as maybe
use native.Mathlib.Decide.{ℕ_discrete}
use lib.ListN.{get_elem?}
use Rattle.atomic_table.proofs.Lists.{at_longer, at_set, set_else, set_here}
use Rattle.account_core.specs.Ledger.{Ledger}
use Rattle.turn_account.specs.Ended.{HaveEnded}
use Rattle.account_core.specs.Prefixes.{IsPrefix}
use Rattle.turn_account.specs.Turns.{BoardState, AllApart, AreApart, HasTurn, IsNumbered, IsOut, IsTakenUp, Knows, AccountLiesAt}
use Rattle.turn_account.specs.Views.{IsSeat, seats_at, ticket_of, tickets_at, total}
use Rattle.turn_account.specs.declared.board.Stage.{Stage}
use Rattle.turn_account.specs.declared.board.Stage.TheVariants.{Idles, Notes, Serves, Waits}
use Rattle.turn_account.specs.declared.board.View.{View}

at_end : {A : Type 0} (l : List A) (a b : A) (j : ℕ) → get_elem? (l ++ a ∷ []) j ≡ some b → (get_elem? l j ≡ some b) ⊎ ((j ≡ length l) × (a ≡ b))
at_end [] a b zero e = inr (refl, some-injective a b e)
at_end [] a b (suc j) e = absurd (some-ne-none b (sym e))
at_end (x ∷ xs) a b zero e = inl e
at_end (x ∷ xs) a b (suc j) e = ⊎_elim (λ t. inl t) (λ t. inr (ap suc t.0, t.1)) (at_end xs a b j e)

pub within_views : {A : Type 0} (l : List A) (i : ℕ) (a : A) → get_elem? l i ≡ some a → suc i ≤ length l
within_views [] i a e = absurd (some-ne-none a (sym e))
within_views (x ∷ xs) zero a e = omega arith
within_views (x ∷ xs) (suc i) a e = omega (arith, within_views xs i a e)

-- ---- what is so of each view

pub views_stay : (P : ℕ → View → Type 0) (views : List View) (id : ℕ) (w : View) → P id w
    → ((at : ℕ) (v : View) → at ≢ id → get_elem? views at ≡ some v → P at v) → (at : ℕ) (v : View) → get_elem? (set views id w) at ≡ some v → P at v
views_stay P views id w mine others at v e =
    ⊎_elim (λ (t : (at ≡ id) × (w ≡ v)). subst (λ (x : ℕ × View). P x.0 x.1) (λ i. (sym t.0 i, t.1 i)) mine)
    (λ (t : (at ≢ id) × (get_elem? views at ≡ some v)). others at v t.0 t.1) (at_set views id at w v e)

pub views_grow : (P : ℕ → View → Type 0) (views : List View) (w : View) → ((at : ℕ) → P at w) → ((at : ℕ) (v : View) → get_elem? views at ≡ some v → P at v)
    → (at : ℕ) (v : View) → get_elem? (views ++ w ∷ []) at ≡ some v → P at v
views_grow P views w mine others at v e =
    ⊎_elim (λ (t : get_elem? views at ≡ some v). others at v t) (λ (t : (at ≡ length views) × (w ≡ v)). subst (P at) t.1 (mine at)) (at_end views w v at e)

pub knows_again : (now after : BoardState) (at : ℕ) (v : View) → Knows now at v → IsPrefix v.seen.history after.account.history → IsPrefix v.heard.history after.account.history
    → HaveEnded after.account 0 v.ended → now.gone ≤ after.gone
    → (IsSeat v.stage → IsNumbered now v → IsNumbered after v) → ((t : ℕ) → ticket_of v.stage ≡ Some t → IsOut now t → IsOut after t)
    → ((t : ℕ) → v.stage ≡ Serves t → HasTurn now at v t → HasTurn after at v t) → Knows after at v
knows_again now after at v knows seen heard ended gone numbered out turn = record {
  seen = seen;
  heard = heard;
  ended = ended;
  gone = omega (arith, knows.gone, gone);
  seated = λ seat. numbered seat (knows.seated seat);
  ticket = λ t is. out t is (knows.ticket t is);
  turn = λ t is. turn t is (knows.turn t is);
}

-- ---- apart

pub apart_sym : (v w : View) → AreApart v w → AreApart w v
apart_sym v w apart = record {
  numbers = λ first second same. apart.numbers second first (sym same);
  tickets = λ t first second. apart.tickets t second first;
}

pub apart_set : (views : List View) (id : ℕ) (w : View) → AllApart views → ((by : ℕ) (other : View) → by ≢ id → get_elem? views by ≡ some other → AreApart w other)
    → AllApart (set views id w)
apart_set views id w apart mine at by v other differ e f =
    ⊎_elim
    (λ (t : (at ≡ id) × (w ≡ v)). ⊎_elim (λ (u : (by ≡ id) × (w ≡ other)). absurd (differ (t.0 ∙ sym u.0)))
    (λ (u : (by ≢ id) × (get_elem? views by ≡ some other)). subst (λ (x : View). AreApart x other) t.1 (mine by other u.0 u.1)) (at_set views id by w other f))
    (λ (t : (at ≢ id) × (get_elem? views at ≡ some v)). ⊎_elim (λ (u : (by ≡ id) × (w ≡ other)). subst (λ (x : View). AreApart v x) u.1 (apart_sym w v (mine at v t.0 t.1)))
    (λ (u : (by ≢ id) × (get_elem? views by ≡ some other)). apart at by v other differ t.1 u.1) (at_set views id by w other f))
    (at_set views id at w v e)

pub apart_end : (views : List View) (w : View) → AllApart views → ((by : ℕ) (other : View) → get_elem? views by ≡ some other → AreApart w other)
    → AllApart (views ++ w ∷ [])
apart_end views w apart mine at by v other differ e f =
    ⊎_elim
    (λ (t : get_elem? views at ≡ some v). ⊎_elim (λ (u : get_elem? views by ≡ some other). apart at by v other differ t u)
    (λ (u : (by ≡ length views) × (w ≡ other)). subst (λ (x : View). AreApart v x) u.1 (apart_sym w v (mine at v t))) (at_end views w other by f))
    (λ (t : (at ≡ length views) × (w ≡ v)). ⊎_elim (λ (u : get_elem? views by ≡ some other). subst (λ (x : View). AreApart x other) t.1 (mine by other u))
    (λ (u : (by ≡ length views) × (w ≡ other)). absurd (differ (t.0 ∙ sym u.0))) (at_end views w other by f))
    (at_end views w v at e)

-- a view that changes nothing of its number, nor of its ticket
pub apart_alike : (v w other : View) → (IsSeat w.stage → w.number ≡ v.number) → (IsSeat w.stage → IsSeat v.stage) → ((t : ℕ) → ticket_of w.stage ≡ Some t → ticket_of v.stage ≡ Some t)
    → AreApart v other → AreApart w other
apart_alike v w other number seat ticket apart = record {
  numbers = λ first second same. apart.numbers (seat first) second (sym (number first) ∙ same);
  tickets = λ t first second. apart.tickets t (ticket t first) second;
}

-- a note is apart from all
pub note_apart : (w other : View) → w.stage ≡ Notes → AreApart w other
note_apart w other note = record {
  numbers = λ first. absurd (subst IsSeat note first);
  tickets = λ t first. let none : None ≡ Some t = ap ticket_of (sym note) ∙ first in cc none;
}

-- ---- totals

pub total_set : (count : Stage → ℕ) (views : List View) (id : ℕ) (v w : View) → get_elem? views id ≡ some v
    → total count (set views id w) + count v.stage ≡ total count views + count w.stage
total_set count [] id v w e = absurd (some-ne-none v (sym e))
total_set count (x ∷ xs) zero v w e =
    let same : count x.stage ≡ count v.stage = ap (λ (u : View). count u.stage) (some-injective x v e) in
    omega (arith, same)
total_set count (x ∷ xs) (suc id) v w e = omega (arith, total_set count xs id v w e)

pub total_end : (count : Stage → ℕ) (views : List View) (w : View) → total count (views ++ w ∷ []) ≡ total count views + count w.stage
total_end count [] w = omega arith
total_end count (x ∷ xs) w = omega (arith, total_end count xs w)

pub total_kept : (count : Stage → ℕ) (views : List View) (id : ℕ) (v w : View) → get_elem? views id ≡ some v → count w.stage ≡ count v.stage
    → total count (set views id w) ≡ total count views
total_kept count views id v w e same = omega (arith, total_set count views id v w e, same)

few_tickets : (stage : Stage) → tickets_at stage ≤ seats_at stage
few_tickets Notes = omega arith
few_tickets Idles = omega arith
few_tickets (Waits t) = omega arith
few_tickets (Serves t) = omega arith

-- no more tickets are out than there are seats
pub tickets_fewer : (views : List View) → total tickets_at views ≤ total seats_at views
tickets_fewer [] = omega arith
tickets_fewer (x ∷ xs) = omega (arith, few_tickets x.stage, tickets_fewer xs)

-- ---- where the account lies

lies_there : (homes : List (maybe.Option (Option Ledger))) (views : List View) (id at : ℕ) (v w : View) → get_elem? views id ≡ some v
    → ((t : ℕ) → v.stage ≡ Serves t → w.stage ≡ Serves t) → IsTakenUp homes views at → Dec (at ≡ id) → IsTakenUp homes (set views id w) at
lies_there homes views id at v w e kept taken (yes here) =
    let its : get_elem? views id ≡ some taken.view = subst (λ (i : ℕ). get_elem? views i ≡ some taken.view) here taken.there in
    let same : v ≡ taken.view = some-injective v taken.view (sym e ∙ its) in
    record {
      empty = taken.empty;
      view = w;
      ticket = taken.ticket;
      there = subst (λ (i : ℕ). get_elem? (set views id w) i ≡ some w) (sym here) (set_here views id w (within_views views id v e));
      serves = kept taken.ticket (ap (λ (u : View). u.stage) same ∙ taken.serves);
    }
lies_there homes views id at v w e kept taken (no other) = record {
  empty = taken.empty;
  view = taken.view;
  ticket = taken.ticket;
  there = set_else views id at w other ∙ taken.there;
  serves = taken.serves;
}

pub lies_set : (account : Ledger) (homes : List (maybe.Option (Option Ledger))) (views : List View) (id : ℕ) (v w : View) (holder : Option ℕ) → get_elem? views id ≡ some v
    → ((t : ℕ) → v.stage ≡ Serves t → w.stage ≡ Serves t) → AccountLiesAt account homes views holder → AccountLiesAt account homes (set views id w) holder
lies_set account homes views id v w None e kept lies = lies
lies_set account homes views id v w (Some at) e kept lies = lies_there homes views id at v w e kept lies (ℕ_discrete at id)

pub lies_end : (account : Ledger) (homes : List (maybe.Option (Option Ledger))) (views : List View) (w : View) (holder : Option ℕ)
    → AccountLiesAt account homes views holder → AccountLiesAt account homes (views ++ w ∷ []) holder
lies_end account homes views w None lies = lies
lies_end account homes views w (Some at) lies = record {
  empty = lies.empty;
  view = lies.view;
  ticket = lies.ticket;
  there = at_longer views (w ∷ []) at lies.view lies.there;
  serves = lies.serves;
}
