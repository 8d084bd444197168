-- The next expiry, and what it leaves.
use Rattle.std.proofs.Common.{◌≡◌, ◌+◌, ◌<◌, ◌≤◌, ℕ, Bool, true, false, Option, Some, None, ◌⊎◌, inl, inr, refl, subst, arith}
use Rattle.std.proofs.lemmas.Bool.Decides.{nat_tests}
use Rattle.std.proofs.lemmas.Bool.{cases_lt}
use Rattle.std.specs.Prelude.{if◌then◌else◌, nat_lt, nat_le}
use Rattle.ssf_core.specs.Stages.{IsChargingTimely, IsQuiet, IsSwitchTimely, IsTimelyStage, due_by, expiry_of, items_after_period, items_left, next_expiry_of, sooner_of, stage_due, switch_due_of, tccd_due_of, tcp_due_of}
use Rattle.ssf_core.specs.Traces.{rank}
use Rattle.ssf_core.specs.declared.stage.Charging.{Charging}
use Rattle.ssf_core.specs.declared.stage.Charging.TheVariants as charging
use Rattle.ssf_core.specs.declared.stage.Stage.{Stage}
use Rattle.ssf_core.specs.declared.stage.Stage.TheVariants as stage
use Rattle.ssf_core.specs.declared.stage.Switch.{Switch}
use Rattle.ssf_core.specs.declared.stage.Switch.TheVariants as switch
use Rattle.ssf_core.specs.declared.timers.Expiry.{Expiry}
use Rattle.ssf_core.specs.declared.timers.Timer.{Timer}
use Rattle.ssf_core.specs.declared.timers.Timer.TheVariants.{Tsw, Tcp, Tccd, Tssf}

-- an expiry comes before a timer that is due at a moment
abbrev pub Before : Expiry → Timer → ℕ → Type 0
Before e timer d = (e.due < d) ⊎ ((e.due ≡ d) × (rank e.timer ≤ rank timer))

-- if the timer is due, this is an expiry that comes before it
abbrev pub Leads : Option Expiry → Timer → Option ℕ → Type 0
Leads x timer a = (d : ℕ) → a ≡ Some d → (e : Expiry) × (x ≡ Some e) × Before e timer d

-- the timer of this expiry is due then
abbrev pub Sound : Stage → Option Expiry → Type 0
Sound s x = (e : Expiry) → x ≡ Some e → stage_due s e.timer ≡ Some e.due

leads_own : (timer : Timer) (a : Option ℕ) → Leads (expiry_of timer a) timer a
leads_own timer None d due = absurd (cc)
leads_own timer (Some m) d due = let same : m ≡ d = cc in (record { due = m; timer = timer }, refl, inr (same, omega arith))

leads_left_at : (e f : Expiry) (b : Bool) (timer : Timer) (d : ℕ) → nat_lt f.due e.due ≡ b → Before e timer d
    → (g : Expiry) × ((if b then Some f else Some e) ≡ Some g) × Before g timer d
leads_left_at e f true timer d lower (inl sooner) = let lt : f.due < e.due = grind (arith, nat_tests) in (f, refl, inl (omega arith))
leads_left_at e f true timer d lower (inr (at, order)) = let lt : f.due < e.due = grind (arith, nat_tests) in (f, refl, inl (omega arith))
leads_left_at e f false timer d lower before = (e, refl, before)

leads_left : (x y : Option Expiry) (timer : Timer) (a : Option ℕ) → Leads x timer a → Leads (sooner_of x y) timer a
leads_left None y timer a leads d due = let (e, is, before) = leads d due in absurd (cc)
leads_left (Some e) None timer a leads d due = leads d due
leads_left (Some e) (Some f) timer a leads d due =
    let (g, is, before) = leads d due in
    let same : g ≡ e = cc in
    leads_left_at e f (nat_lt f.due e.due) timer d refl (subst (λ (g : Expiry). Before g timer d) same before)

leads_right_at : (e f : Expiry) (b : Bool) (timer : Timer) (d : ℕ) → nat_lt f.due e.due ≡ b → rank e.timer ≤ rank timer → Before f timer d
    → (g : Expiry) × ((if b then Some f else Some e) ≡ Some g) × Before g timer d
leads_right_at e f true timer d lower first before = (f, refl, before)
leads_right_at e f false timer d lower first (inl sooner) = let le : e.due ≤ f.due = grind (arith, nat_tests) in (e, refl, inl (omega arith))
leads_right_at e f false timer d lower first (inr (at, order)) =
    let le : e.due ≤ d = grind (arith, nat_tests) in (e, refl, elim (cases_lt e.due d) [ inl lt ↦ inl lt | inr ge ↦ inr (omega arith, first) ])

leads_right : (x y : Option Expiry) (timer : Timer) (a : Option ℕ) → ((e : Expiry) → x ≡ Some e → rank e.timer ≤ rank timer) → Leads y timer a
    → Leads (sooner_of x y) timer a
leads_right None y timer a first leads d due = leads d due
leads_right (Some e) None timer a first leads d due = let (f, is, before) = leads d due in absurd (cc)
leads_right (Some e) (Some f) timer a first leads d due =
    let (g, is, before) = leads d due in
    let same : g ≡ f = cc in
    leads_right_at e f (nat_lt f.due e.due) timer d refl (first e refl) (subst (λ (g : Expiry). Before g timer d) same before)

rank_own : (timer later : Timer) (a : Option ℕ) → rank timer ≤ rank later → (e : Expiry) → expiry_of timer a ≡ Some e → rank e.timer ≤ rank later
rank_own timer later None le e is = absurd (cc)
rank_own timer later (Some m) le e is = let same : timer ≡ e.timer = cc in subst (λ (x : Timer). rank x ≤ rank later) same le

-- the next expiry comes before every timer that is due
pub next_leads : (s : Stage) (timer : Timer) → Leads (next_expiry_of s) timer (stage_due s timer)
next_leads s Tsw = leads_left (expiry_of Tsw (stage_due s Tsw)) _ Tsw _ (leads_own Tsw (stage_due s Tsw))
next_leads s Tcp =
    leads_right (expiry_of Tsw (stage_due s Tsw)) _ Tcp _ (rank_own Tsw Tcp (stage_due s Tsw) (omega arith))
    (leads_left (expiry_of Tcp (stage_due s Tcp)) _ Tcp _ (leads_own Tcp (stage_due s Tcp)))
next_leads s Tccd =
    leads_right (expiry_of Tsw (stage_due s Tsw)) _ Tccd _ (rank_own Tsw Tccd (stage_due s Tsw) (omega arith))
    (leads_right (expiry_of Tcp (stage_due s Tcp)) _ Tccd _ (rank_own Tcp Tccd (stage_due s Tcp) (omega arith))
    (leads_left (expiry_of Tccd (stage_due s Tccd)) _ Tccd _ (leads_own Tccd (stage_due s Tccd))))
next_leads s Tssf =
    leads_right (expiry_of Tsw (stage_due s Tsw)) _ Tssf _ (rank_own Tsw Tssf (stage_due s Tsw) (omega arith))
    (leads_right (expiry_of Tcp (stage_due s Tcp)) _ Tssf _ (rank_own Tcp Tssf (stage_due s Tcp) (omega arith))
    (leads_right (expiry_of Tccd (stage_due s Tccd)) _ Tssf _ (rank_own Tccd Tssf (stage_due s Tccd) (omega arith)) (leads_own Tssf (stage_due s Tssf))))

sound_own : (s : Stage) (timer : Timer) (a : Option ℕ) → stage_due s timer ≡ a → Sound s (expiry_of timer a)
sound_own s timer None is e eq = absurd (cc)
sound_own s timer (Some m) is e eq =
    let same : record { due = m; timer = timer } ≡ e = cc in
    subst (λ (x : Expiry). stage_due s x.timer ≡ Some x.due) same is

sound_if : (s : Stage) (b : Bool) (x y : Expiry) → Sound s (Some x) → Sound s (Some y) → Sound s (if b then Some y else Some x)
sound_if s true x y sx sy = sy
sound_if s false x y sx sy = sx

sound_sooner : (s : Stage) (x y : Option Expiry) → Sound s x → Sound s y → Sound s (sooner_of x y)
sound_sooner s None y sx sy = sy
sound_sooner s (Some e) None sx sy = sx
sound_sooner s (Some e) (Some f) sx sy = sound_if s (nat_lt f.due e.due) e f sx sy

-- the timer of the next expiry is due then
pub next_sound : (s : Stage) → Sound s (next_expiry_of s)
next_sound s =
    sound_sooner s _ _ (sound_own s Tsw (stage_due s Tsw) refl)
    (sound_sooner s _ _ (sound_own s Tcp (stage_due s Tcp) refl)
    (sound_sooner s _ _ (sound_own s Tccd (stage_due s Tccd) refl) (sound_own s Tssf (stage_due s Tssf) refl)))

due_by_if : (now : ℕ) (x e : Expiry) (b : Bool) → nat_le x.due now ≡ b → (if b then Some x else None) ≡ Some e → (Some x ≡ Some e) × (e.due ≤ now)
due_by_if now x e true le is = let low : x.due ≤ now = grind (arith, nat_tests) in let same : x ≡ e = cc in (is, subst (λ (y : Expiry). y.due ≤ now) same low)
due_by_if now x e false le is = absurd (cc)

-- an expiry that is due by now is the next
pub due_by-some : (now : ℕ) (x : Option Expiry) (e : Expiry) → due_by now x ≡ Some e → (x ≡ Some e) × (e.due ≤ now)
due_by-some now None e is = absurd (cc)
due_by-some now (Some x) e is = due_by_if now x e (nat_le x.due now) refl is

due_by_none_if : (now : ℕ) (x : Expiry) (b : Bool) → nat_le x.due now ≡ b → (if b then Some x else None) ≡ None → now < x.due
due_by_none_if now x true le is = absurd (cc)
due_by_none_if now x false le is = grind (arith, nat_tests)

due_by-none : (now : ℕ) (x : Option Expiry) (e : Expiry) → due_by now x ≡ None → x ≡ Some e → now < e.due
due_by-none now None e is eq = absurd (cc)
due_by-none now (Some x) e is eq =
    let same : x ≡ e = cc in subst (λ (y : Expiry). now < y.due) same (due_by_none_if now x (nat_le x.due now) refl is)

pub later_than : (e : Expiry) (timer : Timer) (d : ℕ) → Before e timer d → e.due ≤ d
later_than e timer d (inl sooner) = omega arith
later_than e timer d (inr (at, order)) = omega arith

-- where no expiry is due by now, no timer is
pub quiet_by : (now : ℕ) (s : Stage) → due_by now (next_expiry_of s) ≡ None → IsQuiet now s
quiet_by now s none timer d is =
    let (e, next, before) = next_leads s timer d is in
    let le = later_than e timer d before in
    let lt = due_by-none now (next_expiry_of s) e none next in
    omega (arith, le, lt)

-- the next expiry comes first
pub next_first : (s : Stage) (e : Expiry) → next_expiry_of s ≡ Some e → (timer : Timer) (d : ℕ) → stage_due s timer ≡ Some d → Before e timer d
next_first s e next timer d is =
    let (f, also, before) = next_leads s timer d is in
    let same : f ≡ e = cc in subst (λ (y : Expiry). Before y timer d) same before

switch_later : (clock now : ℕ) (w : Switch) → IsSwitchTimely clock w → clock ≤ now → ((d : ℕ) → switch_due_of w ≡ Some d → now ≤ d) → IsSwitchTimely now w
switch_later clock now switch.Unset timely le all = tt
switch_later clock now (switch.Due m) timely le all = all m refl
switch_later clock now (switch.Passed m) timely le all = omega arith

charging_later : (clock now end : ℕ) (ch : Charging) → ((d : ℕ) → tcp_due_of end ch ≡ Some d → now ≤ d) → ((d : ℕ) → tccd_due_of ch ≡ Some d → now ≤ d)
    → IsChargingTimely now end ch
charging_later clock now end charging.Off tcp tccd = tt
charging_later clock now end (charging.Running release) tcp tccd = tcp end refl
charging_later clock now end (charging.Over m) tcp tccd = tccd m refl

-- a stage stays timely up to its least due moment
pub timely_later : (clock now : ℕ) (s : Stage) → IsTimelyStage clock s → clock ≤ now → ((timer : Timer) (d : ℕ) → stage_due s timer ≡ Some d → now ≤ d) → IsTimelyStage now s
timely_later clock now stage.Unused timely le all = tt
timely_later clock now stage.Requested timely le all = tt
timely_later clock now (stage.Initial early m) timely le all = (all Tssf m refl, switch_later clock now early.switch timely.1 le (all Tsw))
timely_later clock now (stage.Early early) timely le all = switch_later clock now early.switch timely le (all Tsw)
timely_later clock now (stage.Active active) timely le all = record {
  answered = let old = timely.answered in omega arith;
  granted = timely.granted;
  charging = charging_later clock now (active.answered + active.granted) active.charging (all Tcp) (all Tccd);
  switch = switch_later clock now active.switch timely.switch le (all Tsw);
}
timely_later clock now (stage.Down m) timely le all = all Tssf m refl
timely_later clock now stage.Ended timely le all = tt

period_few : (ch : Charging) → items_after_period ch ≤ 3
period_few charging.Off = omega arith
period_few (charging.Running release) = omega arith
period_few (charging.Over m) = omega arith

-- the timers of a stage send at most three items
pub few_left : (s : Stage) → items_left s ≤ 3
few_left stage.Unused = omega arith
few_left stage.Requested = omega arith
few_left (stage.Initial early m) = omega arith
few_left (stage.Early early) = omega arith
few_left (stage.Active active) = period_few active.charging
few_left (stage.Down m) = omega arith
few_left stage.Ended = omega arith
