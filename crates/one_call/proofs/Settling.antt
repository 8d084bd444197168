-- A report of a covered call is settled.
use Rattle.std.proofs.Common.{◌≡◌, ◌+◌, ◌-◌, ◌≤◌, ◌<◌, ◌⊎◌, inl, inr, ℕ, Bool, true, false, Option, Some, None, List, [], ◌∷◌, refl, sym, ◌∙◌, arith}
use Rattle.std.proofs.Math.Nat.{le_trans}
use Rattle.std.proofs.lemmas.Bool.Decides.{nat_tests}
use Rattle.std.specs.Prelude.{◌&&◌, ◌||◌, ◌==◌, not, is_some, unwrap_or, nat_le, if◌then◌else◌, IsSome}
use Rattle.std.proofs.lemmas.Bool.{and_from, le-leb}
use Rattle.price_core.proofs.LawfulLemmas.{implies}
use Rattle.account_core.specs.Answers.{accepted_times}
use Rattle.account_core.specs.Known.{CallFacts, known_after}
use Rattle.account_core.specs.Known as known
use Rattle.cap_values.specs.Orders.{Period}
use Rattle.ssf_core.specs.Meters.{Meter, Reports}
use Rattle.ssf_core.specs.Split.{split}
use Rattle.price_core.specs.Lawful.{is_lawful}
use Rattle.price_core.specs.Rates.{Rates}
use Rattle.price_core.specs.Reading.{times_read}
use Rattle.price_core.specs.Times.{Elapsed, no_times}
use Rattle.price_core.specs.declared.times.TimeInfo.{TimeInfo}
use Rattle.price_core.specs.declared.times.TimeInfo.TheVariants.{Switch}
use Rattle.one_call.specs.Covered.{IsCovered, IsSingle, KnowsTimes, IsUsedUp, times_at}

-- ---- tests

is_at_most : (a b : ℕ) → nat_le a b ≡ true → a ≤ b
is_at_most a b test = grind (arith, nat_tests)

is_above : (a b : ℕ) → nat_le a b ≡ false → b < a
is_above a b test = grind (arith, nat_tests)

equal : (a b : ℕ) → a ≡ b → (a == b) ≡ true
equal a b same = grind (arith, nat_tests)

all_five : (a b c d e : Bool) → a ≡ true → b ≡ true → c ≡ true → d ≡ true → e ≡ true → (a && b && c && d && e) ≡ true
all_five a b c d e p q r s t = rw (p, q, r, s, t) refl

-- ---- times that follow times

-- no time falls, and a switch stays with the time before it
record Follows (old new : Elapsed) : Type 0 where
  before : old.before ≤ new.before
  after : old.after ≤ new.after
  stays : old.switched ≡ true → (new.switched ≡ true) × (new.before ≡ old.before)

-- the times where the switch came by the answer, or later
abbrev times_if : Bool → ℕ → ℕ → ℕ → Elapsed
times_if b answer switch now =
    if b then record { before = 0; after = now - answer; switched = true }
    else record { before = switch - answer; after = now - switch; switched = true }

none_follow : (new : Elapsed) → Follows no_times new
none_follow new = record { before = omega arith; after = omega arith; stays = λ switched. absurd (cc) }

switch_follows : (b : Bool) (answer switch moment now : ℕ) → nat_le switch answer ≡ b → moment ≤ switch
    → Follows (times_at answer None moment) (times_if b answer switch now)
switch_follows true answer switch moment now test behind =
    let by = is_at_most switch answer test in record { before = omega arith; after = omega arith; stays = λ switched. absurd (cc) }
switch_follows false answer switch moment now test behind = record { before = omega arith; after = omega arith; stays = λ switched. absurd (cc) }

same_follow : (b : Bool) (answer switch moment now : ℕ) → moment ≤ now → Follows (times_if b answer switch moment) (times_if b answer switch now)
same_follow true answer switch moment now behind = record { before = omega arith; after = omega arith; stays = λ switched. (refl, refl) }
same_follow false answer switch moment now behind = record { before = omega arith; after = omega arith; stays = λ switched. (refl, refl) }

known_times_follow : (answer moment now : ℕ) (switch came : Option ℕ) → moment ≤ now → ((s : ℕ) → switch ≡ Some s → came ≡ Some s)
    → ((s : ℕ) → switch ≡ None → came ≡ Some s → moment ≤ s) → Follows (times_at answer switch moment) (times_at answer came now)
known_times_follow answer moment now None None behind same later = record { before = omega arith; after = omega arith; stays = λ switched. absurd (cc) }
known_times_follow answer moment now None (Some s) behind same later = switch_follows (nat_le s answer) answer s moment now refl (later s refl refl)
known_times_follow answer moment now (Some s) None behind same later = let no = same s refl in absurd (cc)
known_times_follow answer moment now (Some s) (Some r) behind same later =
    let is : r ≡ s = let some = same s refl in cc in
    rw is (same_follow (nat_le s answer) answer s moment now behind)

-- ---- the whole of the times

total_if : (b : Bool) (answer switch now : ℕ) → nat_le switch answer ≡ b → switch ≤ now
    → (times_if b answer switch now).before + (times_if b answer switch now).after ≡ now - answer
total_if true answer switch now test behind = omega arith
total_if false answer switch now test behind = let above = is_above switch answer test in omega arith

total_at : (answer now : ℕ) (came : Option ℕ) → ((s : ℕ) → came ≡ Some s → s ≤ now)
    → (times_at answer came now).before + (times_at answer came now).after ≡ now - answer
total_at answer now None behind = omega arith
total_at answer now (Some s) behind = total_if (nat_le s answer) answer s now refl (behind s refl)

-- ---- the report is read

guarded : (a b : Bool) (times : Elapsed) → a ≡ true → b ≡ true → (if a && b then Some times else None) ≡ Some times
guarded a b times p q = rw (p, q) refl

none_before : (switched : Bool) (before : ℕ) → (switched ≡ true → before ≡ 0) → (if switched then before else 0) ≡ 0
none_before true before zero = zero refl
none_before false before zero = refl

read_switched : (b : Bool) (old : Elapsed) (answer switch now : ℕ) → nat_le switch answer ≡ b → switch ≤ now → now ≤ answer + 864000
    → Follows old (times_if b answer switch now)
    → times_read old (if b then Switch (now - answer) None else Switch (now - switch) (Some (switch - answer))) ≡ Some (times_if b answer switch now)
read_switched true old answer switch now test behind day follows =
    let zero : (if old.switched then old.before else 0) ≡ 0 = none_before old.switched old.before (λ switched. sym ((follows.stays switched).1)) in
    rw zero (guarded _ _ (record { before = 0; after = now - answer; switched = true }) (le-leb (now - answer) 864000 (omega arith)) (le-leb (0 + (now - answer)) 864000 (omega arith)))
read_switched false old answer switch now test behind day follows =
    let above = is_above switch answer test in
    guarded _ _ (record { before = switch - answer; after = now - switch; switched = true })
    (and_from _ _ (and_from _ _ (le-leb (now - switch) 864000 (omega arith)) (le-leb 1 (switch - answer) (omega arith))) (le-leb (switch - answer) 864000 (omega arith)))
    (le-leb ((switch - answer) + (now - switch)) 864000 (omega arith))

read_at : (old : Elapsed) (answer now : ℕ) (came : Option ℕ) → ((s : ℕ) → came ≡ Some s → s ≤ now) → now ≤ answer + 864000
    → Follows old (times_at answer came now) → times_read old (split answer came now) ≡ Some (times_at answer came now)
read_at old answer now None behind day follows =
    guarded _ _ (record { before = now - answer; after = 0; switched = false }) (le-leb (now - answer) 864000 (omega arith)) (le-leb ((now - answer) + 0) 864000 (omega arith))
read_at old answer now (Some s) behind day follows = read_switched (nat_le s answer) old answer s now refl (behind s refl) day follows

-- ---- it is lawful

stays_with : (old new : Bool) (a b : ℕ) → (old ≡ true → (new ≡ true) × (a ≡ b)) → (not old || (new && (a == b))) ≡ true
stays_with true new a b stays = rw ((stays refl).0, equal a b (stays refl).1) refl
stays_with false new a b stays = refl

is_switched : (answer now : ℕ) (came : Option ℕ) (rated : Bool) → ((s : ℕ) → came ≡ Some s → rated ≡ true) → (times_at answer came now).switched ≡ true → rated ≡ true
is_switched answer now None rated may switched = absurd (cc)
is_switched answer now (Some s) rated may switched = may s refl

lawful_at : (plan : Rates) (old new : Elapsed) (granted : ℕ) → Follows old new → (new.switched ≡ true → is_some plan.after ≡ true) → new.before + new.after ≤ granted
    → is_lawful plan old new granted ≡ true
lawful_at plan old new granted follows rated total =
    all_five _ _ _ _ _ (le-leb old.before new.before follows.before) (le-leb old.after new.after follows.after)
    (stays_with old.switched new.switched new.before old.before follows.stays) (implies new.switched (is_some plan.after) rated)
    (le-leb (new.before + new.after) granted total)

accepts : (kept : CallFacts) (info : TimeInfo) (plan : Rates) (new : Elapsed) → kept.forfeited ≡ false → kept.plan ≡ Some plan → times_read kept.times info ≡ Some new
    → is_lawful plan kept.times new kept.granted ≡ true → accepted_times kept info ≡ Some new
unfolding accepted_times
accepts kept info plan new unforfeited is_plan read lawful = rw (unforfeited, is_plan, read, lawful) refl

-- ---- of a covered call

known_times_at : (meter : Meter) (times : Elapsed) (answer now : ℕ) → (times ≡ no_times) ⊎ KnowsTimes meter times → meter.answered ≡ Some answer → meter.last ≤ now
    → Follows times (times_at answer meter.switched now)
known_times_at meter times answer now (inl none) answered last = rw none (none_follow (times_at answer meter.switched now))
known_times_at meter times answer now (inr known_times) answered last =
    let same : known_times.answer ≡ answer = let some : Some known_times.answer ≡ Some answer = sym known_times.was_answered ∙ answered in cc in
    rw (known_times.are, same) (known_times_follow answer known_times.moment now known_times.switch meter.switched (le_trans known_times.behind last) known_times.same_switch known_times.later_switch)

-- what is queued is nothing, as a period is pending
none_queued : (meter : Meter) (plan : Rates) (queued : List Period) → IsSingle meter plan queued → meter.pending ≡ true → queued ≡ []
none_queued meter plan [] single pending = refl
none_queued meter plan (period ∷ []) single pending = let none : meter.pending ≡ false = single.0 in absurd (cc)
none_queued meter plan (period ∷ (next ∷ queued)) single pending = absurd single

-- a report of a covered call is accepted; then nothing is queued, and where the call goes on all that was granted was talked
pub record Settles (meter : Meter) (queued : List Period) (kept : CallFacts) (active : Bool) (info : TimeInfo) (after : Meter) : Type 0 where
  pub accepted : IsSome (accepted_times kept info)
  pub none_queued : queued ≡ []
  pub goes_on : active ≡ true → IsUsedUp after queued (known_after kept (known.Reports info))

used_up : (meter after : Meter) (kept : CallFacts) (now : ℕ) (active : Bool) (info : TimeInfo) (answer : ℕ) (new : Elapsed) (plan : Rates)
    → meter.answered ≡ Some answer → new ≡ times_at answer meter.switched now → kept.plan ≡ Some plan → kept.forfeited ≡ false → kept.granted ≤ 864000
    → meter.granted ≤ kept.granted → (meter.awaited ≡ true → is_some plan.after ≡ true) → times_read kept.times info ≡ Some new
    → new.before + new.after ≡ now - answer → Reports meter now active info after → active ≡ true → now ≡ answer + meter.granted
    → IsUsedUp after [] (known_after kept (known.Reports info))
used_up meter after kept now active info answer new plan answered new_is is_plan unforfeited day covers rated read total reports goes_on whole =
    let times : unwrap_or (times_read kept.times info) kept.times ≡ new = rw read refl in
    record {
      covered = record {
        plan = plan;
        is_plan = is_plan;
        covers = rw reports.later.same_granted (omega arith);
        within_day = day;
        single = tt;
        agrees = rw times (inr (record {
          answer = answer;
          switch = meter.switched;
          moment = now;
          was_answered = reports.later.keeps_answer answer answered;
          behind = reports.moment;
          are = new_is;
          same_switch = λ s is. reports.same_switch ∙ is;
          later_switch = λ s none is. let no : None ≡ Some s = sym none ∙ (sym reports.same_switch ∙ is) in absurd (cc);
        }));
        rated = λ awaited. rated (sym reports.later.same_awaited ∙ awaited);
        unforfeited = unforfeited;
      };
      none_queued = refl;
      none_pending = reports.ends goes_on;
      all = rw (times, total, reports.later.same_granted) (omega (arith, whole));
    }

pub every_report_settles : (meter after : Meter) (queued : List Period) (kept : CallFacts) (now : ℕ) (active : Bool) (info : TimeInfo)
    → IsCovered meter queued kept → Reports meter now active info after → Settles meter queued kept active info after
every_report_settles meter after queued kept now active info covered reports =
    let answer : ℕ = reports.answer in
    let new : Elapsed = times_at answer meter.switched now in
    let queue_is : queued ≡ [] = none_queued meter covered.plan queued covered.single reports.was_pending in
    let covers : meter.granted ≤ kept.granted = omega (arith, covered.covers) in
    let came : (s : ℕ) → meter.switched ≡ Some s → is_some covered.plan.after ≡ true =
    λ s is. covered.rated (sym reports.later.same_awaited ∙ (reports.later.came s (reports.same_switch ∙ is)).1) in
    let follows : Follows kept.times new = known_times_at meter kept.times answer now covered.agrees reports.was_answered reports.last in
    let day : now ≤ answer + 864000 = omega (arith, covers, covered.within_day, reports.within) in
    let read : times_read kept.times info ≡ Some new = rw reports.exact (read_at kept.times answer now meter.switched reports.behind day follows) in
    let total : new.before + new.after ≡ now - answer = total_at answer now meter.switched reports.behind in
    let lawful : is_lawful covered.plan kept.times new kept.granted ≡ true =
    lawful_at covered.plan kept.times new kept.granted follows (is_switched answer now meter.switched (is_some covered.plan.after) came)
    (omega (arith, total, covers, reports.within)) in
    let accepted : accepted_times kept info ≡ Some new = accepts kept info covered.plan new covered.unforfeited covered.is_plan read lawful in
    record {
      accepted = rw accepted refl;
      none_queued = queue_is;
      goes_on = λ active_is. rw queue_is
          (used_up meter after kept now active info answer new covered.plan reports.was_answered refl covered.is_plan covered.unforfeited covered.within_day covers covered.rated read
          total reports active_is (reports.whole active_is));
    }
