-- Which row of a prefix counts later on a day, and on the next.
use Rattle.std.proofs.Common.{◌≡◌, ℕ, ◌+◌, ◌-◌, ◌/◌, ◌%◌, ◌<◌, ◌≤◌, ◌∙◌, true, false, true≢false, List, refl, sym, ap, subst, inl, inr, arith}
use Rattle.std.specs.Prelude.{◌≢◌, All, Some, get_or}
use Rattle.std.proofs.lemmas.Bool.{cases_lt}
use Rattle.tariff_core.specs.Bands.{Band, counts_on, weekday}
use Rattle.tariff_core.specs.Routes.{IsBandAt, IsSoonest, IsSwitch}
use Rattle.price_core.specs.declared.times.TheConstants.{DAY}

-- ---- moments of a day

-- when the day of a moment began
abbrev pub midnight : ℕ → ℕ
midnight now = now - now % 864000

pub same_days : (now moment : ℕ) → midnight now ≤ moment → moment < midnight now + 864000 → moment / 864000 ≡ now / 864000
same_days now moment low high = omega (arith, low, high)

pub same_time : (now moment : ℕ) → midnight now ≤ moment → moment < midnight now + 864000 → midnight now + moment % 864000 ≡ moment
same_time now moment low high = omega (arith, low, high)

pub since_midnight : (now : ℕ) → midnight now + now % 864000 ≡ now
since_midnight now = omega arith

pub in_day : (now : ℕ) → now % 864000 < 864000
in_day now = omega arith

pub next_time : (now : ℕ) → (midnight now + 864000) % 864000 ≡ 0
next_time now = omega arith

pub next_midnight : (now : ℕ) → midnight (midnight now + 864000) ≡ midnight now + 864000
next_midnight now = omega arith

same_weekday : (now moment : ℕ) → moment / 864000 ≡ now / 864000 → weekday moment ≡ weekday now
same_weekday now moment same = ap (λ day. (day + 3) % 7 + 1) same

-- ---- the row that counts

module _ (bands : List Band) (prefix : List ℕ) where
  -- no row starts after a moment, on its day, before a time of day
  abbrev pub NoneBefore : ℕ → ℕ → Type 0
  NoneBefore now until = All (λ other. other.prefix ≡ prefix → counts_on (weekday now) other ≡ true → now % DAY < other.start → until ≤ other.start) bands

  pub none_later : (now : ℕ) → All (λ other. other.prefix ≡ prefix → counts_on (weekday now) other ≡ true → other.start ≤ now % DAY) bands → NoneBefore now 864000
  none_later now none k d below own counts later = let not_later = none k d below own counts in absurd (omega (arith, not_later, later))

  -- a row counts on until another one starts on the day
  pub stays : (now moment until : ℕ) (band : Band) → IsBandAt bands prefix now band → NoneBefore now until → now ≤ moment → moment < midnight now + until → until ≤ 864000
      → IsBandAt bands prefix moment band
  stays now moment until band at none from before within =
      let low : midnight now ≤ moment = omega (arith, from) in
      let high : moment < midnight now + 864000 = omega (arith, before, within) in
      let days = same_weekday now moment (same_days now moment low high) in
      let time = same_time now moment low high in
      let began = since_midnight now in
      let begun : band.start ≤ now % 864000 = at.begun in
      record {
        listed = at.listed;
        own = at.own;
        counts = ap (λ day. counts_on day band) days ∙ at.counts;
        begun = omega (arith, begun, time, began, from);
        latest = λ k d below own counts started.
            let there = ap (λ day. counts_on day (get_or bands k d)) (sym days) ∙ counts in
            elim (cases_lt (now % 864000) (get_or bands k d).start) [
              | inl later ↦ let past = none k d below own there later in absurd (omega (arith, past, started, time, before))
              | inr early ↦ at.latest k d below own there early
            ];
      }

  -- the next row counts as soon as it starts
  pub next_at : (now : ℕ) (next : Band) → IsSoonest bands prefix now next → next.start < 864000 → IsBandAt bands prefix (midnight now + next.start) next
  next_at now next soonest day =
      let days = same_weekday now (midnight now + next.start) (same_days now (midnight now + next.start) (omega arith) (omega (arith, day))) in
      let time = same_time now (midnight now + next.start) (omega arith) (omega (arith, day)) in
      record {
        listed = soonest.listed;
        own = soonest.own;
        counts = ap (λ day. counts_on day next) days ∙ soonest.counts;
        begun = omega (arith, time);
        latest = λ k d below own counts started. omega (arith, started, time);
      }

  -- a row from midnight on that counts on the next day too
  pub from_midnight : (now moment : ℕ) (band : Band) → IsBandAt bands prefix now band → moment % 864000 ≡ 0 → band.start ≡ 0 → counts_on (weekday moment) band ≡ true
      → IsBandAt bands prefix moment band
  from_midnight now moment band at time start counts = record {
    listed = at.listed;
    own = at.own;
    counts = counts;
    begun = omega (arith, start);
    latest = λ k d below own there started. omega (arith, started, time);
  }

  another : (next band : Band) → band.start < next.start → next ≢ band
  another next band later same = let starts = ap (λ (b : Band). b.start) same in omega (arith, later, starts)

  -- the switch to a row that starts on the day
  pub today : (now : ℕ) (band next : Band) → IsBandAt bands prefix now band → IsSoonest bands prefix now next → next.start < 864000
      → IsSwitch bands prefix band now (midnight now + next.start) (Some next.rate)
  today now band next at soonest day =
      let began = since_midnight now in
      let begun : band.start ≤ now % 864000 = at.begun in
      let later : now % 864000 < next.start = soonest.later in
      record {
        later = omega (arith, began, later);
        within_day = omega (arith, began, day);
        next = next;
        is_next = next_at now next soonest day;
        is_another = another next band (omega (arith, begun, later));
        first = λ moment from before. stays now moment next.start band at soonest.soonest (omega (arith, from)) before (omega (arith, day));
        second_rate = refl;
      }

  -- the switch at midnight
  pub at_midnight : (now : ℕ) (band next : Band) → IsBandAt bands prefix now band → NoneBefore now 864000 → IsBandAt bands prefix (midnight now + 864000) next → next ≢ band
      → IsSwitch bands prefix band now (midnight now + 864000) (Some next.rate)
  at_midnight now band next at none is is_another =
      let began = since_midnight now in
      let day = in_day now in
      record {
        later = omega (arith, began, day);
        within_day = omega (arith, began);
        next = next;
        is_next = is;
        is_another = is_another;
        first = λ moment from before. stays now moment 864000 band at none (omega (arith, from)) before (omega arith);
        second_rate = refl;
      }

  -- a row that counts at midnight starts then
  pub not_begun : (now : ℕ) (band next : Band) → 0 < band.start → IsBandAt bands prefix (midnight now + 864000) next → next ≢ band
  not_begun now band next started is same =
      let time = next_time now in
      let begun : next.start ≤ (midnight now + 864000) % 864000 = is.begun in
      let starts = ap (λ (b : Band). b.start) same in
      omega (arith, started, begun, time, starts)

  -- and counts on that day
  pub not_counting : (moment : ℕ) (band next : Band) → counts_on (weekday moment) band ≡ false → IsBandAt bands prefix moment next → next ≢ band
  not_counting moment band next never is same = true≢false (sym is.counts ∙ ap (λ b. counts_on (weekday moment) b) same ∙ never)

  -- a row counts on over midnight, until another one starts on the next day
  pub through : (now moment until : ℕ) (band : Band) → IsBandAt bands prefix now band → NoneBefore now 864000 → IsBandAt bands prefix (midnight now + 864000) band
      → NoneBefore (midnight now + 864000) until → until ≤ 864000 → now < moment → moment < midnight now + 864000 + until → IsBandAt bands prefix moment band
  through now moment until band at none tomorrow later within from before =
      elim (cases_lt moment (midnight now + 864000)) [
        | inl today ↦ stays now moment 864000 band at none (omega (arith, from)) today (omega arith)
        | inr next ↦
            let began = next_midnight now in
            stays (midnight now + 864000) moment until band tomorrow later next (omega (arith, before, began)) within
      ]

  -- the switch to a row that starts on the next day
  pub on_next_day : (now : ℕ) (band next : Band) → IsBandAt bands prefix now band → NoneBefore now 864000 → IsBandAt bands prefix (midnight now + 864000) band → band.start ≡ 0
      → IsSoonest bands prefix (midnight now + 864000) next → next.start < 864000 → midnight now + 864000 + next.start ≤ now + 864000
      → IsSwitch bands prefix band now (midnight now + 864000 + next.start) (Some next.rate)
  on_next_day now band next at none tomorrow start soonest day within =
      let began = since_midnight now in
      let today = in_day now in
      let time = next_time now in
      let next_day = next_midnight now in
      let later : (midnight now + 864000) % 864000 < next.start = soonest.later in
      record {
        later = omega (arith, began, today);
        within_day = within;
        next = next;
        is_next = subst (λ m. IsBandAt bands prefix (m + next.start) next) next_day (next_at (midnight now + 864000) next soonest day);
        is_another = another next band (omega (arith, start, time, later));
        first = λ moment from before. through now moment next.start band at none tomorrow soonest.soonest (omega (arith, day)) from before;
        second_rate = refl;
      }
