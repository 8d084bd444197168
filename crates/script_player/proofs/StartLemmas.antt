-- A fresh gsmSSF is invoked and triggered: no timer runs before, so that both are taken at once.
use Rattle.std.proofs.Common.{◌≡◌, ℕ, Option, Some, Result, Ok, List, [], ◌∷◌, ◌++◌, refl, sym, ◌∙◌, ap, arith, subst}
use Rattle.std.proofs.lemmas.List.{append_cancel_left}
use Rattle.cap_values.specs.declared.message.SsfMsg.TheVariants as message
use Rattle.cap_values.specs.declared.number.Number.{Number}
use Rattle.ssf_core.specs.Calls.{AreExpiries, IsExpiry, Stands, TakesAt, View, with_input}
use Rattle.ssf_core.specs.Happenings.{Expired, Happening, Took, What, sent_at, sent_in}
use Rattle.ssf_core.specs.Inputs.{invokes, triggers}
use Rattle.ssf_core.specs.Phases.{Initial, SsfPhase, Requested, Unused}
use Rattle.ssf_core.specs.Rules.{Effect, goes, on_input}
use Rattle.ssf_core.specs.Traces.{HasEffect, IsTrace, MayFollow, due_in, phase_after}
use Rattle.ssf_core.specs.declared.config.SsfConfig.{SsfConfig}
use Rattle.ssf_core.specs.declared.fault.SsfFault.{SsfFault}
use Rattle.ssf_core.specs.declared.item.Item.{Item}
use Rattle.ssf_core.specs.declared.item.Item.TheVariants as item
use Rattle.ssf_core.specs.declared.item.Out.{Out}
use Rattle.script_player.specs.Beginnings.{IsTriggered}

-- the timer of an expiry is due at a moment, in a phase
abbrev IsDueIn : SsfConfig → List Happening → SsfPhase → What → ℕ → Type 0
IsDueIn config trace phase (Took input) d = ⊥
IsDueIn config trace phase (Expired timer) d = due_in config trace phase timer ≡ Some d

-- no timer is due
abbrev NoneDue : SsfConfig → List Happening → SsfPhase → Type 0
NoneDue config trace phase = (what : What) (d : ℕ) → IsDueIn config trace phase what d → ⊥

expiry_due : (config : SsfConfig) (trace : List Happening) (at : ℕ) (what : What) (sent : List Item) → NoneDue config trace (phase_after config trace) → IsExpiry what
    → HasEffect config trace at what sent → ⊥
expiry_due config trace at (Took input) sent none is effect = is
expiry_due config trace at (Expired timer) sent none is effect = none (Expired timer) at effect.0

none_fired : (config : SsfConfig) (trace fired : List Happening) → NoneDue config trace (phase_after config trace) → AreExpiries fired → IsTrace config (fired ++ trace) → fired ≡ []
none_fired config trace [] none are is = refl
none_fired config trace (e ∷ fired) none are is =
    let P : List Happening → Type 0 = λ front. MayFollow config (front ++ trace) e in
    let follow : MayFollow config trace e = subst P (none_fired config trace fired none are.0 is.0) is.1 in
    absurd (expiry_due config trace e.at e.what e.sent none are.1 follow.has_effect)

-- an input is taken or refused, by what it is
abbrev TakesWhat : View → View → ℕ → What → List Happening → List Out → Option SsfFault → Type 0
TakesWhat before after now (Took input) trace sent why = TakesAt before after now input trace sent why
TakesWhat before after now (Expired timer) trace sent why = ⊥

-- what the rules do at an input
abbrev Answers : List Happening → SsfPhase → ℕ → What → Effect → Type 0
Answers trace phase now (Took input) effect = on_input trace phase now input ≡ Ok effect
Answers trace phase now (Expired timer) effect = ⊥

-- an input is taken while no timer is due
taken_at : (before after : View) (now : ℕ) (what : What) (trace : List Happening) (sent : List Out) (why : Option SsfFault) (effect : Effect) → NoneDue before.config trace (phase_after before.config trace)
    → TakesWhat before after now what trace sent why → Answers trace (phase_after before.config trace) now what effect
    → Stands after (record { at = now; what = what; sent = effect.sent } ∷ trace) × (sent ≡ sent_at now effect.sent)
taken_at before after now (Expired timer) trace sent why effect none takes answers = absurd takes
taken_at before after now (Took input) trace sent why effect none takes answers =
    let T : List Happening → Type 0 = λ t. IsTrace before.config t in
    let unfired : takes.runs.fired ≡ [] = none_fired before.config trace takes.runs.fired none takes.runs.expiries (subst T takes.runs.follows takes.runs.is_trace) in
    let same : takes.timed ≡ trace = takes.runs.follows ∙ ap (λ (front : List Happening). front ++ trace) unfired in
    let P : List Happening → Type 0 = λ t. Stands after (with_input now input t (on_input t (phase_after before.config t) now input)) in
    let Q : List Happening → Type 0 = λ t. sent_in (with_input now input t (on_input t (phase_after before.config t) now input)) ≡ sent_in trace ++ sent in
    let R : Result Effect SsfFault → Type 0 = λ outcome. Stands after (with_input now input trace outcome) in
    let S : Result Effect SsfFault → Type 0 = λ outcome. sent_in (with_input now input trace outcome) ≡ sent_in trace ++ sent in
    (subst R answers (subst P same takes.stands), sym (append_cancel_left (sent_in trace) (sent_at now effect.sent) sent (subst S answers (subst Q same takes.sends))))

unused_due : (config : SsfConfig) (what : What) (d : ℕ) → IsDueIn config [] Unused what d → ⊥
unused_due config (Took input) d is = is
unused_due config (Expired timer) d is = grind arith

requested_due : (config : SsfConfig) (trace : List Happening) (what : What) (d : ℕ) → IsDueIn config trace Requested what d → ⊥
requested_due config trace (Took input) d is = is
requested_due config trace (Expired timer) d is = grind arith

requested_after : (config : SsfConfig) (now : ℕ) (what : What) (sent : List Item) → Answers [] Unused now what (goes [] Requested)
    → phase_after config (record { at = now; what = what; sent = sent } ∷ []) ≡ Requested
requested_after config now (Took input) sent answers = rw answers refl
requested_after config now (Expired timer) sent answers = absurd answers

-- it was invoked, and then triggered
pub has_begun : (config : SsfConfig) (fresh invoked triggered : View) (now call : ℕ) (calling called : Number) (first second : List Out) (why other : Option SsfFault) (invoke trigger : What)
    → triggered.config ≡ config → triggered.last ≡ now → TakesWhat fresh invoked now invoke [] first why → Answers [] Unused now invoke (goes [] Requested)
    → ((trace : List Happening) → Stands invoked trace → TakesWhat invoked triggered now trigger trace second other)
    → ((trace : List Happening) → Answers trace Requested now trigger (goes (item.Msg (message.InitialDp call calling called) ∷ []) Initial))
    → invoke ≡ Took invokes → trigger ≡ Took (triggers call calling called) → IsTriggered config now call calling called triggered second
has_begun config fresh invoked triggered now call calling called first second why other invoke trigger same moment takes answers then answered first_is then_is =
    let one = taken_at fresh invoked now invoke [] first why (goes [] Requested) (unused_due fresh.config) takes answers in
    let trace : List Happening = record { at = now; what = invoke; sent = [] } ∷ [] in
    let phase : phase_after invoked.config trace ≡ Requested = requested_after invoked.config now invoke [] answers in
    let N : SsfPhase → Type 0 = λ p. NoneDue invoked.config trace p in
    let A : SsfPhase → Type 0 = λ p. Answers trace p now trigger (goes (item.Msg (message.InitialDp call calling called) ∷ []) Initial) in
    let two =
    taken_at invoked triggered now trigger trace second other (goes (item.Msg (message.InitialDp call calling called) ∷ []) Initial)
    (subst N (sym phase) (requested_due invoked.config trace)) (then trace one.0) (subst A (sym phase) (answered trace)) in
    record {
      same_config = same;
      moment = moment;
      trace = record { at = now; what = trigger; sent = item.Msg (message.InitialDp call calling called) ∷ [] } ∷ trace;
      is = rw (first_is, then_is) refl;
      stands = two.0;
      sends = sym two.1;
      initial = two.1;
    }
