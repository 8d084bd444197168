-- The ceiling grows with the units, so the last that the money covers is found by halving.
use Rattle.std.proofs.Common.{◌≡◌, ℕ, zero, suc, ◌+◌, ◌<◌, ◌≤◌, Bool, true, false, refl, sym, inl, inr, arith}
use Rattle.std.specs.Prelude.{◌⊎◌, if◌then◌else◌, nat_le}
use Rattle.std.proofs.lemmas.Bool.{le-leb, leb-false, leb-true, lt-leb}
use Rattle.price_core.specs.Afford.{units_covered}
use Rattle.price_core.specs.Ceiling.{ceiling_of}
use Rattle.price_core.specs.Rates.{Rates}
use Rattle.price_core.specs.Times.{Elapsed}
use Rattle.price_core.proofs.CeilingLemmas.{ceiling_covers, ceiling_least}
use Rattle.price_core.proofs.LawfulLemmas.{comes, may_come_by}

pub ceiling_grows : (plan : Rates) (old : Elapsed) (less more : ℕ) → less ≤ more → ceiling_of plan old less ≤ ceiling_of plan old more
ceiling_grows plan old less more le =
    ceiling_least plan old less (ceiling_of plan old more) (λ new comes_new.
    let facts = comes plan old (old.before + old.after + less) new comes_new in
    ceiling_covers plan old more new (may_come_by plan old (old.before + old.after + more) new (record {
      unswitched = facts.unswitched;
      before = facts.before;
      after = facts.after;
      kept = facts.kept;
      rated = facts.rated;
      within = omega (arith, facts.within);
    })))

-- where the money covers so many units, and no more of them up to n, these are the units covered
pub units_covered_are : (plan : Rates) (old : Elapsed) (money n covered : ℕ) → covered ≤ n
    → (1 ≤ covered → ceiling_of plan old covered ≤ money) → ((units : ℕ) → covered < units → units ≤ n → money < ceiling_of plan old units)
    → units_covered plan old money n ≡ covered
unfolding units_covered
units_covered_are plan old money zero covered within holds above = omega arith
units_covered_are plan old money (suc n) covered within holds above = by_place (place n covered within)
    (λ le. units_covered_are plan old money n covered le holds (λ units more le'. above units more (omega arith)))
  where
    place : (n covered : ℕ) → covered ≤ suc n → (covered ≡ suc n) ⊎ (covered ≤ n)
    place n covered le = grind arith

    by_place : (covered ≡ suc n) ⊎ (covered ≤ n) → (covered ≤ n → units_covered plan old money n ≡ covered)
        → (if nat_le (ceiling_of plan old (suc n)) money then suc n else units_covered plan old money n) ≡ covered
    by_place (inl same) before =
        let covers : ceiling_of plan old (suc n) ≤ money = rw same at (holds (omega arith)) in
        rw (le-leb (ceiling_of plan old (suc n)) money covers) (sym same)
    by_place (inr le) before =
        let dearer = above (suc n) (omega arith) (omega arith) in
        rw (lt-leb (ceiling_of plan old (suc n)) money dearer) (before le)

-- the units on whose two sides the halving ends
pub halving_ends : (plan : Rates) (old : Elapsed) (money n covered beyond : ℕ) → covered < beyond → beyond ≤ covered + 1 → beyond ≤ n + 1
    → (1 ≤ covered → ceiling_of plan old covered ≤ money) → (beyond ≤ n → money < ceiling_of plan old beyond)
    → units_covered plan old money n ≡ covered
halving_ends plan old money n covered beyond below next within holds fails =
    units_covered_are plan old money n covered (omega arith) holds (λ units more le.
    let dearer = fails (omega arith) in
    omega (arith, dearer, ceiling_grows plan old beyond units (omega arith)))

-- ---- the units covered are the greatest

pub units_covered_within : (plan : Rates) (old : Elapsed) (money n : ℕ) → units_covered plan old money n ≤ n
unfolding units_covered
units_covered_within plan old money zero = omega arith
units_covered_within plan old money (suc n) = within (nat_le (ceiling_of plan old (suc n)) money) (units_covered_within plan old money n)
  where
    within : (b : Bool) → units_covered plan old money n ≤ n → (if b then suc n else units_covered plan old money n) ≤ suc n
    within true h = omega arith
    within false h = omega arith

pub units_covered_pay : (plan : Rates) (old : Elapsed) (money n : ℕ) → 1 ≤ units_covered plan old money n
    → ceiling_of plan old (units_covered plan old money n) ≤ money
unfolding units_covered
units_covered_pay plan old money zero some = absurd (omega arith)
units_covered_pay plan old money (suc n) some = pays (nat_le (ceiling_of plan old (suc n)) money) refl some (units_covered_pay plan old money n)
  where
    pays : (b : Bool) → nat_le (ceiling_of plan old (suc n)) money ≡ b → 1 ≤ (if b then suc n else units_covered plan old money n)
        → (1 ≤ units_covered plan old money n → ceiling_of plan old (units_covered plan old money n) ≤ money)
        → ceiling_of plan old (if b then suc n else units_covered plan old money n) ≤ money
    pays true is some before = leb-true (ceiling_of plan old (suc n)) money is
    pays false is some before = before some

pub units_covered_last : (plan : Rates) (old : Elapsed) (money n units : ℕ) → units_covered plan old money n < units → units ≤ n
    → money < ceiling_of plan old units
unfolding units_covered
units_covered_last plan old money zero units more le = absurd (omega arith)
units_covered_last plan old money (suc n) units more le =
    last (nat_le (ceiling_of plan old (suc n)) money) refl more (place n units le) (units_covered_last plan old money n units)
  where
    place : (n units : ℕ) → units ≤ suc n → (units ≡ suc n) ⊎ (units ≤ n)
    place n units le = grind arith

    last : (b : Bool) → nat_le (ceiling_of plan old (suc n)) money ≡ b → (if b then suc n else units_covered plan old money n) < units
        → (units ≡ suc n) ⊎ (units ≤ n) → (units_covered plan old money n < units → units ≤ n → money < ceiling_of plan old units)
        → money < ceiling_of plan old units
    last true is more at before = absurd (omega arith)
    last false is more (inl same) before = rw same (leb-false (ceiling_of plan old (suc n)) money is)
    last false is more (inr below) before = before more below
