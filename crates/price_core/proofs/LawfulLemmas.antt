-- What the test of lawful times says, and when it passes.
use Rattle.std.proofs.Common.{◌≡◌, ℕ, ◌+◌, ◌≤◌, Bool, true, false, refl, ◌∙◌, arith}
use Rattle.std.specs.Prelude.{◌==◌, ◌&&◌, ◌||◌, Some, None, not, is_some, nat_le, if◌then◌else◌}
use Rattle.std.proofs.lemmas.Bool.{and_from, and_parts, eq-eqb, eqb-true, le-leb, leb-true}
use Rattle.price_core.specs.Ceiling.{are_times, may_come}
use Rattle.price_core.specs.Lawful.{is_lawful}
use Rattle.price_core.specs.Laws.{MayStand}
use Rattle.price_core.specs.Rates.{Rates}
use Rattle.price_core.specs.Reading.{times_read, times_stated}
use Rattle.price_core.specs.Times.{Elapsed}
use Rattle.price_core.specs.declared.times.TimeInfo.{TimeInfo}
use Rattle.price_core.specs.declared.times.TimeInfo.TheVariants as info

implied : (a b : Bool) → (not a || b) ≡ true → a ≡ true → b ≡ true
implied true b h x = h
implied false b h x = cc

pub implies : (a b : Bool) → (a ≡ true → b ≡ true) → (not a || b) ≡ true
implies true b h = h refl
implies false b h = refl

-- what the test of lawful times says of them
pub record Follows (old new : Elapsed) : Type 0 where
  pub before : old.before ≤ new.before
  pub after : old.after ≤ new.after
  pub kept : old.switched ≡ true → new.before ≡ old.before

pub follows : (plan : Rates) (old new : Elapsed) (granted : ℕ) → is_lawful plan old new granted ≡ true → Follows old new
follows plan old new granted lawful =
    let (first, within) = and_parts _ (nat_le (new.before + new.after) granted) lawful in
    let (second, rated) = and_parts _ (not new.switched || is_some plan.after) first in
    let (third, kept) = and_parts _ (not old.switched || (new.switched && (new.before == old.before))) second in
    let (before, after) = and_parts (nat_le old.before new.before) (nat_le old.after new.after) third in
    record {
      before = leb-true old.before new.before before;
      after = leb-true old.after new.after after;
      kept = λ s. eqb-true new.before old.before (and_parts new.switched (new.before == old.before) (implied old.switched _ kept s)).1;
    }

-- a call with the old times may come to the new ones
pub record Comes (plan : Rates) (old : Elapsed) (granted : ℕ) (new : Elapsed) : Type 0 where
  pub unswitched : new.switched ≡ false → new.after ≡ 0
  pub before : old.before ≤ new.before
  pub after : old.after ≤ new.after
  pub kept : old.switched ≡ true → (new.switched ≡ true) × (new.before ≡ old.before)
  pub rated : new.switched ≡ true → is_some plan.after ≡ true
  pub within : new.before + new.after ≤ granted

pub or_zero : (s : Bool) (n : ℕ) → (s || (n == 0)) ≡ true → s ≡ false → n ≡ 0
or_zero true n h e = cc
or_zero false n h e = eqb-true n 0 h

zero_or : (s : Bool) (n : ℕ) → (s ≡ false → n ≡ 0) → (s || (n == 0)) ≡ true
zero_or true n h = refl
zero_or false n h = eq-eqb n 0 (h refl)

pub comes : (plan : Rates) (old : Elapsed) (granted : ℕ) (new : Elapsed) → may_come plan old granted new ≡ true → Comes plan old granted new
comes plan old granted new h =
    let (times, lawful) = and_parts (are_times new) (is_lawful plan old new granted) h in
    let (first, within) = and_parts _ (nat_le (new.before + new.after) granted) lawful in
    let (second, rated) = and_parts _ (not new.switched || is_some plan.after) first in
    let (third, kept) = and_parts _ (not old.switched || (new.switched && (new.before == old.before))) second in
    let (before, after) = and_parts (nat_le old.before new.before) (nat_le old.after new.after) third in
    record {
      unswitched = or_zero new.switched new.after times;
      before = leb-true old.before new.before before;
      after = leb-true old.after new.after after;
      kept = λ s. let (switched, same) = and_parts new.switched (new.before == old.before) (implied old.switched _ kept s) in (switched, eqb-true new.before old.before same);
      rated = implied new.switched (is_some plan.after) rated;
      within = leb-true (new.before + new.after) granted within;
    }

pub may_come_by : (plan : Rates) (old : Elapsed) (granted : ℕ) (new : Elapsed) → Comes plan old granted new → may_come plan old granted new ≡ true
may_come_by plan old granted new h =
    and_from _ _ (zero_or new.switched new.after h.unswitched)
    (and_from _ _ (and_from _ _ (and_from _ _ (and_from _ _ (le-leb old.before new.before h.before) (le-leb old.after new.after h.after))
    (implies old.switched _ (λ s. and_from _ _ (h.kept s).0 (eq-eqb new.before old.before (h.kept s).1))))
    (implies new.switched _ h.rated)) (le-leb (new.before + new.after) granted h.within))

-- ---- the laws of lawful times

pub coming_stands : (plan : Rates) (old : Elapsed) (granted : ℕ) (new : Elapsed) → may_come plan old granted new ≡ true → MayStand plan new × (new.before + new.after ≤ granted)
coming_stands plan old granted new may =
    let facts = comes plan old granted new may in
    (record { times_are = zero_or new.switched new.after facts.unswitched; rated = facts.rated }, facts.within)

pub may_stay : (plan : Rates) (times : Elapsed) (granted : ℕ) → MayStand plan times → times.before + times.after ≤ granted → may_come plan times granted times ≡ true
may_stay plan times granted stands within = may_come_by plan times granted times (record {
  unswitched = or_zero times.switched times.after stands.times_are;
  before = omega arith;
  after = omega arith;
  kept = λ s. (s, refl);
  rated = stands.rated;
  within = within;
})

pub coming_follows : (plan : Rates) (first : Elapsed) (granted : ℕ) (second third : Elapsed) → may_come plan first granted second ≡ true
    → are_times third ≡ true → is_lawful plan second third granted ≡ true → may_come plan first granted third ≡ true
coming_follows plan first granted second third may times lawful =
    let one = comes plan first granted second may in
    let two = comes plan second granted third (and_from (are_times third) (is_lawful plan second third granted) times lawful) in
    may_come_by plan first granted third (record {
      unswitched = two.unswitched;
      before = omega (arith, one.before, two.before);
      after = omega (arith, one.after, two.after);
      kept = λ s. let before = one.kept s in let later = two.kept before.0 in (later.0, later.1 ∙ before.1);
      rated = two.rated;
      within = two.within;
    })

-- times within a day, where the test of their report passes
taken : (ranges : Bool) (times new : Elapsed) → are_times times ≡ true → (if ranges && nat_le (times.before + times.after) 864000 then Some times else None) ≡ Some new
    → (are_times new ≡ true) × (new.before + new.after ≤ 864000)
taken ranges times new are is = by_test _ refl is
  where
    by_test : (b : Bool) → (ranges && nat_le (times.before + times.after) 864000) ≡ b → (if b then Some times else None) ≡ Some new
        → (are_times new ≡ true) × (new.before + new.after ≤ 864000)
    by_test true passes is =
        let same : times ≡ new = cc in
        let within = leb-true (times.before + times.after) 864000 (and_parts ranges _ passes).1 in
        rw (← same) (are, within)
    by_test false passes is = cc

pub read_times_are : (old : Elapsed) (report : TimeInfo) (new : Elapsed) → times_read old report ≡ Some new → (are_times new ≡ true) × (new.before + new.after ≤ 864000)
read_times_are old (info.NoSwitch time) new is = taken _ (times_stated old (info.NoSwitch time)) new refl is
read_times_are old (info.Switch since None) new is = taken _ (times_stated old (info.Switch since None)) new refl is
read_times_are old (info.Switch since (Some interval)) new is = taken _ (times_stated old (info.Switch since (Some interval))) new refl is
