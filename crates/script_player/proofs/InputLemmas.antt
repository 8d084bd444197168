-- What one gsmSSF is given, and when its next timer is due.
use Rattle.std.proofs.Common.{◌≡◌, ◌<◌, ◌≤◌, ℕ, Option, Some, None, List, inl, inr, refl, ap, arith, subst}
use Rattle.std.proofs.lemmas.Bool.{cases_lt}
use Rattle.ssf_core.specs.Calls.{Advances, IsNextDue, Stands, View}
use Rattle.ssf_core.specs.Happenings.{Happening}
use Rattle.ssf_core.specs.declared.config.SsfConfig.{SsfConfig}
use Rattle.ssf_core.specs.declared.fault.SsfFault.{SsfFault}
use Rattle.ssf_core.specs.declared.item.Out.{Out}
use Rattle.script_player.specs.Inputs.{GoesOnBy, IsGiven, IsNextTimer}
use Rattle.script_player.specs.declared.network.Input.{Input}
use Rattle.script_player.specs.declared.network.Input.TheVariants as input
use Rattle.script_player.proofs.TraceLemmas.{Backwards}

config_stays : (before after : View) (now : ℕ) (sent : List Out) (why : Option SsfFault) → Backwards before after now why sent
    → (before.last ≤ now → (after.last ≡ now) × (after.config ≡ before.config)) → after.config ≡ before.config
config_stays before after now sent why backwards moment =
    elim (cases_lt now before.last) [
      | inl early ↦ ap (λ (view : View). view.config) (backwards early).0
      | inr late ↦ (moment late).1
    ]

-- the answer of a gsmSSF's call to its input
pub given_by : (before after : View) (now : ℕ) (input : Input) (sent : List Out) (why : Option SsfFault) → Backwards before after now why sent
    → (before.last ≤ now → (after.last ≡ now) × (after.config ≡ before.config))
    → (before.last ≤ now → (trace : List Happening) → Stands before trace → GoesOnBy before after now input trace sent why)
    → (given : IsGiven before after now input sent) × (why ≡ given.fault)
given_by before after now input sent why backwards moment goes_on = (
  record {
    fault = why;
    same_config = config_stays before after now sent why backwards moment;
    backwards = λ early. ((backwards early).0, (backwards early).2, (backwards early).1);
    moment = λ late. (moment late).0;
    goes_on = goes_on;
  },
  refl,
)

-- two least due moments of a trace are one
pub one_next : (config : SsfConfig) (trace : List Happening) (one other : Option ℕ) → IsNextDue config trace one → IsNextDue config trace other → one ≡ other
one_next config trace None None first second = refl
one_next config trace None (Some at) first second = let none = first second.0.0 in absurd (cc (none, second.0.1))
one_next config trace (Some at) None first second = let none = second first.0.0 in absurd (cc (none, first.0.1))
one_next config trace (Some one) (Some other) first second =
    let early : one ≤ other = first.1 second.0.0 other second.0.1 in
    let late : other ≤ one = second.1 first.0.0 one first.0.1 in
    let same : one ≡ other = omega arith in
    ap (λ (at : ℕ). Some at) same

-- the next timers of a gsmSSF that stands for a trace are one
pub same_next : (view : View) (trace : List Happening) (one other : Option ℕ) → Stands view trace → IsNextTimer view one → IsNextTimer view other → one ≡ other
same_next view trace one other stands first second = one_next view.config trace one other (first.least trace stands) (second.least trace stands)

quiet_next : (before after : View) (now at : ℕ) (trace : List Happening) (sent : List Out) → after.config ≡ before.config → Advances before after now trace sent → IsNextTimer after (Some at) → now < at
quiet_next before after now at trace sent same advances next =
    let least = next.least advances.timed advances.stands in
    let P : SsfConfig → Type 0 = λ config. IsNextDue config advances.timed (Some at) in
    let due = subst P same least in
    advances.runs.quiet due.0.0 at due.0.1

-- once time has passed, no timer is left due
pub waited_next : (before after : View) (now at : ℕ) (trace : List Happening) (sent : List Out) → Stands before trace → IsGiven before after now input.Wait sent → IsNextTimer after (Some at) → now < at
waited_next before after now at trace sent stands given next =
    elim (cases_lt now before.last) [
      | inl early ↦
          let same : after.last ≡ before.last = ap (λ (view : View). view.last) (given.backwards early).0 in
          let ahead : after.last ≤ at = next.ahead at refl in
          omega arith
      | inr late ↦ quiet_next before after now at trace sent given.same_config (given.goes_on late trace stands).0 next
    ]
