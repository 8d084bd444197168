-- An input is taken or refused as the rules say.
use Rattle.std.proofs.Common.{◌≡◌, ◌++◌, ℕ, Option, Some, None, Result, Ok, Err, List, [], ◌∷◌, refl, sym, ap, subst, ◌∙◌, append_assoc, arith}
use Rattle.std.specs.Prelude.{IsSome}
use Rattle.std.specs.Result.{result_err, result_unwrap_or}
use Rattle.cap_values.specs.declared.charge.Charge.{Charge}
use Rattle.cap_values.specs.declared.operation.ScfOp.TheVariants.{ApplyCharging}
use Rattle.ssf_core.specs.Calls.{with_input}
use Rattle.ssf_core.specs.Happenings.{Happening, Took, What, sent_at, sent_in}
use Rattle.ssf_core.specs.Quantities.{pending, started_switch}
use Rattle.ssf_core.specs.Stages.{IsQuiet, passed_switch, started, switch_due_of}
use Rattle.ssf_core.specs.Stands.{EarlyMatches, StageStands, period_of, release_of}
use Rattle.ssf_core.specs.Steps.{FollowsEffect, IsTakenInput, TakesInput}
use Rattle.ssf_core.specs.Rules.{Effect, sent_before, on_input}
use Rattle.ssf_core.specs.Traces.{awaited_switch, next_in, phase_after}
use Rattle.ssf_core.specs.declared.config.SsfConfig.{SsfConfig}
use Rattle.ssf_core.specs.declared.fault.SsfFault.{SsfFault}
use Rattle.ssf_core.specs.declared.fault.SsfFault.TheVariants.{UnexpectedComponentSequence}
use Rattle.ssf_core.specs.declared.ssf.Input.{Input}
use Rattle.ssf_core.specs.declared.ssf.Input.TheVariants.{Operate}
use Rattle.ssf_core.specs.declared.item.Item.{Item}
use Rattle.ssf_core.specs.declared.item.Out.{Out}
use Rattle.ssf_core.specs.declared.stage.Early.{Early}
use Rattle.ssf_core.specs.declared.stage.Stage.{Stage}
use Rattle.ssf_core.specs.declared.stage.Switch.{Switch}
use Rattle.ssf_core.specs.declared.stage.Switch.TheVariants as switch
use Rattle.ssf_core.proofs.ExpiryLemmas.{due-stage}

sent_at-append : (now : ℕ) (first rest : List Item) → sent_at now (first ++ rest) ≡ sent_at now first ++ sent_at now rest
sent_at-append now [] rest = refl
sent_at-append now (item ∷ first) rest = ap (λ (outs : List Out). record { at = now; item = item } ∷ outs) (sent_at-append now first rest)

-- an effect with items before its own
pub follows_after : {config : SsfConfig} {t : List Happening} {now : ℕ} {what : What} {to : Stage} {before between behind : List Out} (first : List Item) (effect : Effect)
    → between ≡ before ++ sent_at now first → FollowsEffect config t now what effect to between behind → FollowsEffect config t now what (sent_before first effect) to before behind
follows_after {now = now} {before = before} first effect is follows = record {
  phase = follows.phase;
  data' = follows.data';
  sends =
      follows.sends
      ∙ ap (λ (outs : List Out). outs ++ sent_at now effect.sent) is
      ∙ append_assoc before (sent_at now first) (sent_at now effect.sent)
      ∙ ap (λ (outs : List Out). before ++ outs) (sym (sent_at-append now first effect.sent));
}

-- what an input leaves of a stage that stands for a trace
pub record Taken (config : SsfConfig) (now : ℕ) (s : Stage) (t : List Happening) (input : Input) (before : List Out) (o : Result Effect SsfFault) (result : Result Stage SsfFault) (outs : List Out) : Type 0 where
  pub refused : result_err result ≡ result_err o
  pub stands : StageStands config now (result_unwrap_or result s) (with_input now input t o)
  pub sends : sent_in (with_input now input t o) ≡ before ++ outs

taken_as : (config : SsfConfig) (now : ℕ) (s : Stage) (t : List Happening) (input : Input) (before sent : List Out) (o : Result Effect SsfFault) (result : Result Stage SsfFault) (outs : List Out)
    → StageStands config now s t → IsQuiet now s → sent_in t ≡ before ++ sent → on_input t (phase_after config t) now input ≡ o → IsTakenInput config t now input o result sent outs
    → Taken config now s t input before o result outs
taken_as config now s t input before sent (Ok effect) (Ok to) outs st quiet so_far is follows = record {
  refused = refl;
  stands = record {
    is_trace = (
      st.is_trace,
      record {
        in_order = st.behind;
        none_missed = λ timer d is_due. quiet timer d (sym (due-stage config now s t timer st) ∙ is_due);
        has_effect = (effect, is, refl);
      },
    );
    phase = ap (next_in (phase_after config t)) is ∙ follows.phase;
    data' = follows.data' effect.sent;
    behind = omega arith;
  };
  sends =
      ap (λ (outs : List Out). outs ++ sent_at now effect.sent) so_far
      ∙ append_assoc before sent (sent_at now effect.sent)
      ∙ ap (λ (outs : List Out). before ++ outs) (sym follows.sends);
}
taken_as config now s t input before sent (Ok effect) (Err f) outs st quiet so_far is taken = absurd taken
taken_as config now s t input before sent (Err f) (Ok to) outs st quiet so_far is taken = absurd taken
taken_as config now s t input before sent (Err f) (Err g) outs st quiet so_far is taken = record {
  refused = ap (λ (x : SsfFault). Some x) (sym taken.0);
  stands = st;
  sends = so_far ∙ ap (λ (outs : List Out). before ++ outs) (sym taken.1);
}

pub taken : (config : SsfConfig) (now : ℕ) (s : Stage) (t : List Happening) (input : Input) (before sent : List Out) (result : Result Stage SsfFault) (outs : List Out)
    → StageStands config now s t → IsQuiet now s → sent_in t ≡ before ++ sent → TakesInput config s now input result sent outs
    → Taken config now s t input before (on_input t (phase_after config t) now input) result outs
taken config now s t input before sent result outs st quiet so_far takes =
    taken_as config now s t input before sent _ result outs st quiet so_far refl
    (subst (λ p. IsTakenInput config t now input (on_input t p now input) result sent outs) (sym st.phase) (takes t st.data'))

-- ---- a first period

-- a switch that came stays, and none comes where Tsw is started
passed_started : (w : Switch) (now : ℕ) (seconds : Option ℕ)
    → passed_switch w ≡ passed_switch (started w now seconds)
passed_started switch.Unset now (Some seconds) = refl
passed_started switch.Unset now None = refl
passed_started (switch.Due moment) now (Some seconds) = refl
passed_started (switch.Due moment) now None = refl
passed_started (switch.Passed moment) now seconds = refl

-- where a trace and a switch agree, they do once Tsw is started
due_started : (w : Switch) (now : ℕ) (seconds came due : Option ℕ) → came ≡ passed_switch w
    → awaited_switch came due ≡ switch_due_of w
    → awaited_switch came (started_switch seconds now came due)
    ≡ switch_due_of (started w now seconds)
due_started switch.Unset now (Some seconds) came due none is = rw none refl
due_started switch.Unset now None came due none is = is
due_started (switch.Due moment) now (Some seconds) came due none is = rw none refl
due_started (switch.Due moment) now None came due none is = is
due_started (switch.Passed moment) now seconds came due passed is = rw passed refl

-- a call that takes an order had none
none_ordered : (order : Option Charge) (response : Result Early SsfFault) (to : Early)
    → response ≡ Ok to → (IsSome order → response ≡ Err UnexpectedComponentSequence) → order ≡ None
none_ordered None response to is refused = refl
none_ordered (Some charge) response to is refused = absurd (cc (is, refused refl))

-- a call before its answer that took a charge had none,
-- and what it keeps then is what the longer trace says
pub charged_early : (trace : List Happening) (early to : Early) (now : ℕ) (charge : Charge)
    (response : Result Early SsfFault) → response ≡ Ok to
    → (IsSome early.charge → response ≡ Err UnexpectedComponentSequence)
    → (early.charge ≡ None → response ≡ Ok (record early {
      charge = Some charge;
      switch = started early.switch now charge.switch;
    })) → EarlyMatches early trace
    → (pending trace ≡ None) × ((items : List Item) → EarlyMatches to
    (record { at = now; what = Took (Operate (ApplyCharging charge)); sent = items } ∷ trace))
charged_early trace early to now charge response is refused gives has =
    let none = none_ordered early.charge response to is refused in
    let after : Early =
    record early { charge = Some charge; switch = started early.switch now charge.switch } in
    let same : after ≡ to = cc (is, gives none) in
    let Matches : List Item → Early → Type 0 = λ items e. EarlyMatches e
    (record { at = now; what = Took (Operate (ApplyCharging charge)); sent = items } ∷ trace) in (
      has.same_wish ∙ ap release_of none,
      λ items. subst (Matches items) same (record {
        same_modes = has.same_modes;
        same_wish = refl;
        same_sum = omega (arith, has.same_sum ∙ ap period_of none);
        no_end = refl;
        same_switch = has.same_switch ∙ passed_started early.switch now charge.switch;
        same_awaited =
            due_started early.switch now charge.switch _ _ has.same_switch has.same_awaited;
      }),
    )
