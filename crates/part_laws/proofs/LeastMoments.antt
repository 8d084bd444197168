-- The moment of a round is the least of three: of the next row, of the next delivery, and at which a timer is due.
use Rattle.std.proofs.Common.{◌≡◌, ◌≤◌, ◌⊎◌, ℕ, Bool, true, false, Option, Some, None, min, inl, inr, refl, sym, ap, arith, subst}
use Rattle.std.proofs.lemmas.Bool.{cases_lt}
use Rattle.std.proofs.lemmas.Bool.Decides.{nat_tests}
use Rattle.std.specs.Option.{ForSome}
use Rattle.std.specs.Prelude.{nat_lt}
use Rattle.ssf_core.specs.Moments.{in_reach, sooner}
use Rattle.price_core.specs.declared.times.TheConstants.{HORIZON}

reach_by : (far : Bool) (moment now : ℕ) → nat_lt HORIZON moment ≡ far → in_reach (Some moment) ≡ Some now → (moment ≡ now) × (now ≤ HORIZON)
reach_by true moment now far is = let none : None ≡ Some now = rw far at is in absurd (cc none)
reach_by false moment now near is =
    let some : Some moment ≡ Some now = rw near at is in
    let same : moment ≡ now = cc some in
    let within : now ≤ HORIZON = grind (arith, nat_tests, near, same) in (same, within)

reach_of : (moment : Option ℕ) (now : ℕ) → in_reach moment ≡ Some now → (moment ≡ Some now) × (now ≤ HORIZON)
reach_of None now is = absurd (cc is)
reach_of (Some moment) now is = let parts = reach_by (nat_lt HORIZON moment) moment now refl is in (ap (λ (n : ℕ). Some n) parts.0, parts.1)

which : (one two : Option ℕ) (now : ℕ) → sooner one two ≡ Some now → (one ≡ Some now) ⊎ (two ≡ Some now)
which None two now is = inr is
which (Some first) None now is = inl is
which (Some first) (Some second) now is =
    let least : min first second ≡ now = cc is in
    elim (cases_lt first second) [
      | inl less ↦ (let same : first ≡ now = omega (arith, least, less) in inl (ap (λ (n : ℕ). Some n) same))
      | inr more ↦ (let same : second ≡ now = omega (arith, least, more) in inr (ap (λ (n : ℕ). Some n) same))
    ]

abbrev pub From : ℕ → Option ℕ → Type 0
From now moment = ForSome moment (λ at. now ≤ at)

from_some : (now at : ℕ) → now ≤ at → From now (Some at)
from_some now at order = λ its is. let same : at ≡ its = cc is in subst (λ (n : ℕ). now ≤ n) same order

from_none : (now : ℕ) → From now None
from_none now = λ its is. absurd (cc is)

below : (one two : Option ℕ) (now : ℕ) → From now (sooner one two) → From now one × From now two
below None two now from = (from_none now, from)
below (Some first) None now from = (from, from_none now)
below (Some first) (Some second) now from =
    let least : now ≤ min first second = from (min first second) refl in (from_some now first (omega (arith, least)), from_some now second (omega (arith, least)))

-- the moment of a round is the least of three
pub record IsLeast (row delivery due : Option ℕ) (now : ℕ) : Type 0 where
  pub row_from : From now row
  pub delivery_from : From now delivery
  pub due_from : From now due
  pub within : now ≤ HORIZON
  pub one_of : (row ≡ Some now) ⊎ ((delivery ≡ Some now) ⊎ (due ≡ Some now))

pub least_of : (row delivery due : Option ℕ) (now : ℕ) → in_reach (sooner (sooner row delivery) due) ≡ Some now → IsLeast row delivery due now
least_of row delivery due now is =
    let reached = reach_of (sooner (sooner row delivery) due) now is in
    let outer = below (sooner row delivery) due now (subst (From now) (sym reached.0) (from_some now now (omega arith))) in
    let inner = below row delivery now outer.0 in
    let one : (row ≡ Some now) ⊎ ((delivery ≡ Some now) ⊎ (due ≡ Some now)) =
    elim (which (sooner row delivery) due now reached.0) [
      | inl first ↦ elim (which row delivery now first) [ inl its ↦ inl its | inr its ↦ inr (inl its) ]
      | inr last ↦ inr (inr last)
    ] in
    record { row_from = inner.0; delivery_from = inner.1; due_from = outer.1; within = reached.1; one_of = one }
