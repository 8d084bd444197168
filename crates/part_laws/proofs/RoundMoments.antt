-- What the steps of a round give is of the round's moment.
use Rattle.std.proofs.Common.{◌≡◌, ◌==◌, ◌++◌, ◌<◌, ◌≤◌, ◌⊎◌, ℕ, Bool, true, false, Option, Some, None, Result, Ok, Err, List, [], ◌∷◌, All, MatchOption, inl, inr, refl, sym, ap, ◌∙◌, arith, subst, append-nil, append_assoc}
use Rattle.std.proofs.lemmas.Bool.{cases_lt, eqb-true}
use Rattle.std.proofs.lemmas.List.{append_cancel_left}
use Rattle.std.proofs.lemmas.List.Elements.{All-append, All-cons, All-head, All-nil, All-tail}
use Rattle.part_laws.proofs.OneSsf.{dues_same}
use Rattle.cap_values.specs.declared.number.Number.{Number}
use Rattle.part_laws.proofs.Beside.{ExpiresFrom}
use Rattle.run_texts.specs.declared.script.Happening.{Happening as RowHappening}
use Rattle.run_texts.specs.declared.script.Happening.TheVariants as row
use Rattle.run_values.specs.declared.post.Body.{Body}
use Rattle.run_values.specs.declared.post.Body.TheVariants as body
use Rattle.script_player.specs.Beginnings.{begun_trace}
use Rattle.script_player.specs.Chains.{Chain}
use Rattle.script_player.specs.Dues.{ssf_of}
use Rattle.script_player.specs.Inputs.{IsGiven, IsNextTimer}
use Rattle.script_player.specs.Networks.{Shown}
use Rattle.script_player.specs.Posts.{post_of, posts_of}
use Rattle.script_player.specs.Steps.{Delivers, GetsSsf, FeedsSsf, GivesTo, HappensAt, SendsItems, StartsCall, Waits}
use Rattle.ssf_core.specs.Calls.{Advances, AreExpiries, IsExpiry, IsNextDue, RunsUntil, Stands, TakesAt, View, with_input}
use Rattle.ssf_core.specs.Happenings.{Expired, Happening, Took, What, sent_at, sent_in}
use Rattle.ssf_core.specs.Inputs.{meets, operates}
use Rattle.ssf_core.specs.Quantities.{last_happening_moment}
use Rattle.ssf_core.specs.Rules.{Effect, on_input}
use Rattle.ssf_core.specs.Traces.{ComesBefore, HasEffect, IsTrace, MayFollow, due, phase_after}
use Rattle.ssf_core.specs.declared.config.SsfConfig.{SsfConfig}
use Rattle.ssf_core.specs.declared.deliveries.Delivery.{Delivery}
use Rattle.ssf_core.specs.declared.fault.SsfFault.{SsfFault}
use Rattle.ssf_core.specs.declared.item.Item.{Item}
use Rattle.ssf_core.specs.declared.item.Item.TheVariants as sent_item
use Rattle.ssf_core.specs.declared.item.Out.{Out}

-- ---- the timer that expires first

pub not_later : (one other : ℕ) (timer its : _) → ComesBefore one (Expired timer) other its → one ≤ other
not_later one other timer its (inl earlier) = omega (arith, earlier)
not_later one other timer its (inr now) = omega (arith, now.0)

first_of : (config : SsfConfig) (trace : List Happening) (at : ℕ) (what : What) (sent : List Item) → IsExpiry what → ((its : _) (d : ℕ) → due config trace its ≡ Some d → ComesBefore at what d its)
    → HasEffect config trace at what sent → IsNextDue config trace (Some at)
first_of config trace at (Took input) sent expiry missed has = absurd expiry
first_of config trace at (Expired timer) sent expiry missed has = ((timer, has.0), λ its d d_is. not_later at d timer its (missed its d d_is))

next_timer : (view : View) (trace : List Happening) (at : ℕ) → Stands view trace → IsNextDue view.config trace (Some at) → view.last ≤ at → IsNextTimer view (Some at)
next_timer view trace at stands first ahead = record {
  least = λ other too.
      let same = dues_same view other trace too stands in
      ((first.0.0, same first.0.0 ∙ first.0.1), λ its d d_is. first.1 its d (sym (same its) ∙ d_is));
  ahead = λ d is. let same : at ≡ d = cc is in subst (λ (n : ℕ). view.last ≤ n) same ahead;
}

-- where a gsmSSF's next timer isn't due before a moment, none expires before it
pub expires_later : (view : View) (now : ℕ) → ExpiresFrom view view.last → ((at : ℕ) → IsNextTimer view (Some at) → now ≤ at) → ExpiresFrom view now
expires_later view now from later = record {
  trace = from.trace;
  stands = from.stands;
  ahead = λ e expiry may.
      let first = first_of view.config from.trace e.at e.what e.sent expiry may.none_missed may.has_effect in
      later e.at (next_timer view from.trace e.at from.stands first (from.ahead e expiry may));
}

-- ---- what expires by a moment

abbrev pub AreSentAt : ℕ → List Out → Type 0
AreSentAt now sent = All (λ (out : Out). out.at ≡ now) sent

sent_now : (now at : ℕ) (items : List Item) → at ≡ now → AreSentAt now (sent_at at items)
sent_now now at [] same = All-nil (λ (out : Out). out.at ≡ now)
sent_now now at (item ∷ items) same = All-cons (λ (out : Out). out.at ≡ now) (record { at = at; item = item }) (sent_at at items) same (sent_now now at items same)

module _ (config : SsfConfig) (now : ℕ) (trace : List Happening) (ahead : (e : Happening) → IsExpiry e.what → MayFollow config trace e → now ≤ e.at) where
  -- all that has been sent behind a trace is of this moment
  record SendsNow (timed : List Happening) : Type 0 where
    pub outs : List Out
    pub sends : sent_in timed ≡ sent_in trace ++ outs
    pub moments : AreSentAt now outs

  fired_late : (e : Happening) (fired : List Happening) → IsTrace config (e ∷ fired ++ trace) → AreExpiries (e ∷ fired) → now ≤ e.at
  fired_late e [] is expiries = ahead e expiries.1 is.1
  fired_late e (first ∷ fired) is expiries =
      let before : now ≤ first.at = fired_late first fired is.0 expiries.0 in
      let order : first.at ≤ e.at = is.1.in_order in omega (arith, before, order)

  fired_now : (fired : List Happening) → IsTrace config (fired ++ trace) → AreExpiries fired → last_happening_moment (fired ++ trace) ≤ now → SendsNow (fired ++ trace)
  fired_now [] is expiries reached = record { outs = []; sends = sym (append-nil (sent_in trace)); moments = All-nil (λ (out : Out). out.at ≡ now) }
  fired_now (e ∷ fired) is expiries reached =
      let late : now ≤ e.at = fired_late e fired is expiries in
      let order : last_happening_moment (fired ++ trace) ≤ e.at = is.1.in_order in
      let same : e.at ≡ now = omega (arith, late, reached) in
      let before : last_happening_moment (fired ++ trace) ≤ now = omega (arith, order, reached) in
      let rest = fired_now fired is.0 expiries.0 before in
      let last : List Out = sent_at e.at e.sent in
      record {
        outs = rest.outs ++ last;
        sends = ap (λ l. l ++ last) rest.sends ∙ append_assoc (sent_in trace) rest.outs last;
        moments = All-append (λ (out : Out). out.at ≡ now) rest.outs last rest.moments (sent_now now e.at e.sent same);
      }

  runs_now : (timed : List Happening) → RunsUntil config now trace timed → last_happening_moment timed ≤ now → SendsNow timed
  runs_now timed runs reached =
      subst SendsNow (sym runs.follows) (fired_now runs.fired (subst (IsTrace config) runs.follows runs.is_trace) runs.expiries (subst (λ (l : List Happening). last_happening_moment l ≤ now) runs.follows reached))

-- ---- a gsmSSF

-- of a gsmSSF no timer expires before its latest moment, nor before this one
pub record IsTimely (now : ℕ) (view : View) : Type 0 where
  pub own : ExpiresFrom view view.last
  pub from : ExpiresFrom view now

timely_at : (now : ℕ) (view : View) → view.last ≡ now → ExpiresFrom view now → IsTimely now view
timely_at now view same from = record { own = subst (ExpiresFrom view) (sym same) from; from = from }

-- a gsmSSF has sent this, all at a moment, and goes on
record GoesOnAt (now : ℕ) (new : View) (sent : List Out) : Type 0 where
  pub moments : AreSentAt now sent
  pub timely : IsTimely now new

quiet_later : (config : SsfConfig) (view : View) (now : ℕ) (trace timed : List Happening) → view.config ≡ config → RunsUntil config now trace timed → Stands view timed → ExpiresFrom view now
quiet_later config view now trace timed same runs stands = record {
  trace = timed;
  stands = stands;
  ahead = λ e expiry may.
      let first = first_of view.config timed e.at e.what e.sent expiry may.none_missed may.has_effect in
      let far : now < e.at = runs.quiet first.0.0 e.at (subst (λ (c : SsfConfig). due c timed first.0.0 ≡ Some e.at) same first.0.1) in omega (arith, far);
}

module _ (old new : View) (now : ℕ) (sent : List Out) (from : ExpiresFrom old now) (timed : List Happening) (config : new.config ≡ old.config) (moment : new.last ≡ now)
    (runs : RunsUntil old.config now from.trace timed) where
  quiet_goes : Stands new timed → sent_in timed ≡ sent_in from.trace ++ sent → GoesOnAt now new sent
  quiet_goes stands sends =
      let reached : last_happening_moment timed ≤ now = subst (λ (n : ℕ). last_happening_moment timed ≤ n) moment stands.behind in
      let its = runs_now old.config now from.trace from.ahead timed runs reached in
      let same : its.outs ≡ sent = append_cancel_left (sent_in from.trace) its.outs sent (sym its.sends ∙ sends) in
      record { moments = subst (AreSentAt now) same its.moments; timely = timely_at now new moment (quiet_later old.config new now from.trace timed config runs stands) }

  input_goes : (input : _) (result : Result Effect SsfFault) → Stands new (with_input now input timed result) → sent_in (with_input now input timed result) ≡ sent_in from.trace ++ sent → GoesOnAt now new sent
  input_goes input (Err fault) stands sends = quiet_goes stands sends
  input_goes input (Ok effect) stands sends =
      let its = runs_now old.config now from.trace from.ahead timed runs stands.is_trace.1.in_order in
      let last : List Out = sent_at now effect.sent in
      let same : its.outs ++ last ≡ sent = append_cancel_left (sent_in from.trace) (its.outs ++ last) sent (sym (append_assoc (sent_in from.trace) its.outs last) ∙ ap (λ l. l ++ last) (sym its.sends) ∙ sends) in
      let moments = All-append (λ (out : Out). out.at ≡ now) its.outs last its.moments (sent_now now now effect.sent refl) in
      record {
        moments = subst (AreSentAt now) same moments;
        timely = timely_at now new moment (record { trace = with_input now input timed (Ok effect); stands = stands; ahead = λ e expiry may. may.in_order });
      }

-- an input is taken or refused, or time passes alone
abbrev pub GoesOnNow : View → View → ℕ → List Happening → List Out → Type 0
GoesOnNow old new now trace sent = ((said : _) × ((fault : Option SsfFault) × TakesAt old new now said trace sent fault)) ⊎ Advances old new now trace sent

given_late : (old new : View) (now : ℕ) (sent : List Out) (from : ExpiresFrom old now) → new.config ≡ old.config → new.last ≡ now → GoesOnNow old new now from.trace sent → GoesOnAt now new sent
given_late old new now sent from config moment (inl takes) =
    let timed = takes.1.1.timed in
    input_goes old new now sent from timed config moment takes.1.1.runs takes.0 (on_input timed (phase_after old.config timed) now takes.0) takes.1.1.stands takes.1.1.sends
given_late old new now sent from config moment (inr waits) = quiet_goes old new now sent from waits.timed config moment waits.runs waits.stands waits.sends

given_now : (old new : View) (now : ℕ) (input : _) (sent : List Out) → IsGiven old new now input sent → (old.last ≤ now → (trace : List Happening) → Stands old trace → GoesOnNow old new now trace sent) → IsTimely now old
    → GoesOnAt now new sent
given_now old new now input sent is goes timely = elim (cases_lt now old.last) [
  | inl early ↦
      (let stays = is.backwards early in
      record { moments = subst (AreSentAt now) (sym stays.1) (All-nil (λ (out : Out). out.at ≡ now)); timely = subst (IsTimely now) (sym stays.0) timely })
  | inr late ↦
      (let from = timely.from in
      given_late old new now sent from is.same_config (is.moment late) (goes late from.trace from.stands))
]

-- ---- posts

abbrev pub AreAt : ℕ → List (ℕ × Body) → Type 0
AreAt now items = All (λ (item : ℕ × Body). item.0 ≡ now) items

post_now : (now call at : ℕ) (item : Item) → at ≡ now → AreAt now (post_of call at item)
post_now now call at (sent_item.Msg msg) same = All-cons (λ (item : ℕ × Body). item.0 ≡ now) (at, body.Ssf call msg) [] same (All-nil (λ (item : ℕ × Body). item.0 ≡ now))
post_now now call at sent_item.Proceed same = All-nil (λ (item : ℕ × Body). item.0 ≡ now)
post_now now call at (sent_item.Clear cause) same = All-nil (λ (item : ℕ × Body). item.0 ≡ now)

posts_now : (now call : ℕ) (outs : List Out) → AreSentAt now outs → AreAt now (posts_of call outs)
posts_now now call [] all = All-nil (λ (item : ℕ × Body). item.0 ≡ now)
posts_now now call (out ∷ outs) all =
    let P : Out → Type 0 = λ other. other.at ≡ now in
    All-append (λ (item : ℕ × Body). item.0 ≡ now) (post_of call out.at out.item) (posts_of call outs) (post_now now call out.at out.item (All-head P out outs all)) (posts_now now call outs (All-tail P out outs all))

-- ---- one step

abbrev pub AreTimely : ℕ → Shown → Type 0
AreTimely now shown = (call : ℕ) (view : View) → ssf_of shown.ssfs call ≡ Some view → IsTimely now view

-- what was given has grown, at one moment
pub record GrowsAt (now : ℕ) (before after : Shown) : Type 0 where
  pub added : List (ℕ × Body)
  pub grown : after.given ≡ before.given ++ added
  pub moments : AreAt now added
  pub timely : AreTimely now after

stays_at : (now : ℕ) (before after : Shown) → after ≡ before → AreTimely now before → GrowsAt now before after
stays_at now before after same timely = record {
  added = [];
  grown = ap (λ (s : Shown). s.given) same ∙ sym (append-nil before.given);
  moments = All-nil (λ (item : ℕ × Body). item.0 ≡ now);
  timely = subst (AreTimely now) (sym same) timely;
}

pub grows_both : (now : ℕ) (one two three : Shown) → GrowsAt now one two → GrowsAt now two three → GrowsAt now one three
grows_both now one two three first second = record {
  added = first.added ++ second.added;
  grown = second.grown ∙ ap (λ g. g ++ second.added) first.grown ∙ append_assoc one.given first.added second.added;
  moments = All-append (λ (item : ℕ × Body). item.0 ≡ now) first.added second.added first.moments second.moments;
  timely = second.timely;
}

sends_at : (now : ℕ) (before after : Shown) (call : ℕ) (view : View) (sent : List Out) → SendsItems before after call view sent → GoesOnAt now view sent → AreTimely now before → GrowsAt now before after
sends_at now before after call view sent sends goes timely =
    record { added = posts_of call sent; grown = sends.posts; moments = posts_now now call sent goes.moments; timely = λ other found is. by_call other found is (call == other) refl }
  where
    by_call : (other : ℕ) (found : View) → ssf_of after.ssfs other ≡ Some found → (b : Bool) → (call == other) ≡ b → IsTimely now found
    by_call other found is true here =
        let its : call ≡ other = eqb-true call other here in
        let some : Some view ≡ Some found = sym sends.sets.own ∙ ap (ssf_of after.ssfs) its ∙ is in
        let same : view ≡ found = cc some in subst (IsTimely now) same goes.timely
    by_call other found is false here = timely other found (sym (sends.sets.others other here) ∙ is)

gives_at : (now call : ℕ) (input : _) (before after : Shown) → GivesTo now call input before after
    → ((old new : View) (sent : List Out) → IsGiven old new now input sent → old.last ≤ now → (trace : List Happening) → Stands old trace → GoesOnNow old new now trace sent) → AreTimely now before
    → GrowsAt now before after
gives_at now call input before after gives goes timely = by_ssf (ssf_of before.ssfs call) refl gives
  where
    by_ssf : (found : Option View) → ssf_of before.ssfs call ≡ found → MatchOption found (after ≡ before) (FeedsSsf before after now call input) → GrowsAt now before after
    by_ssf None is same = stays_at now before after same timely
    by_ssf (Some view) is gives =
        sends_at now before after call gives.new gives.sent gives.sends
        (given_now view gives.new now input gives.sent gives.is_given (goes view gives.new gives.sent gives.is_given) (timely call view is)) timely

pub delivers_at : (now : ℕ) (delivery : Delivery) (before after : Shown) → Delivers now before delivery after → AreTimely now before → GrowsAt now before after
delivers_at now delivery before after is timely = gives_at now delivery.call _ before after is (λ old new sent given late trace stands. inl (operates delivery.op, (given.fault, given.goes_on late trace stands))) timely

pub waits_at : (now call : ℕ) (before after : Shown) → Waits now before call after → AreTimely now before → GrowsAt now before after
waits_at now call before after is timely = gives_at now call _ before after is (λ old new sent given late trace stands. inr (given.goes_on late trace stands).0) timely

starts_at : (now call : ℕ) (calling called : Number) (before after : Shown) → StartsCall now call calling called before after → AreTimely now before → GrowsAt now before after
starts_at now call calling called before after starts timely = by_ssf (ssf_of before.ssfs call) starts
  where
    by_ssf : (found : Option View) → MatchOption found (GetsSsf before after now call calling called) (λ _. after ≡ before) → GrowsAt now before after
    by_ssf (Some view) same = stays_at now before after same timely
    by_ssf None starts =
        let P : Out → Type 0 = λ out. out.at ≡ now in
        let from : ExpiresFrom starts.view now = record {
          trace = begun_trace now call calling called;
          stands = subst (Stands starts.view) starts.begun.is starts.begun.stands;
          ahead = λ e expiry may. may.in_order;
        } in
        let goes : GoesOnAt now starts.view starts.sent = record {
          moments = subst (AreSentAt now) (sym starts.begun.initial) (All-cons P _ [] refl (All-nil P));
          timely = timely_at now starts.view starts.begun.moment from;
        } in
        sends_at now before after call starts.view starts.sent starts.sends goes timely

pub happens_at : (now at : ℕ) (happening : RowHappening) (before after : Shown) → at ≡ now → HappensAt at happening before after → AreTimely now before → GrowsAt now before after
happens_at now at happening before after same is timely = by_what happening (subst (λ (n : ℕ). HappensAt n happening before after) same is)
  where
    by_what : (happening : RowHappening) → HappensAt now happening before after → GrowsAt now before after
    by_what (row.Start call calling called) is = starts_at now call calling called before after is timely
    by_what (row.Meets call event) is = gives_at now call _ before after is (λ old new sent given late trace stands. inl (meets event, (given.fault, given.goes_on late trace stands))) timely
    by_what (row.Recharge account amount until) is = record {
      added = (now, body.Recharge account amount until) ∷ [];
      grown = ap (λ (s : Shown). s.given) is;
      moments = All-cons (λ (item : ℕ × Body). item.0 ≡ now) (now, body.Recharge account amount until) [] refl (All-nil (λ (item : ℕ × Body). item.0 ≡ now));
      timely = λ call view found. timely call view (sym (ap (λ (s : Shown). ssf_of s.ssfs call) is) ∙ found);
    }

-- ---- steps one after another

pub chain_at : {X : Type 0} (now : ℕ) (Step : Shown → X → Shown → Type 0) (May : X → Type 0) → ((x : X) (before after : Shown) → May x → Step before x after → AreTimely now before → GrowsAt now before after)
    → (xs : List X) (before after : Shown) → All May xs → Chain Step before xs after → AreTimely now before → GrowsAt now before after
chain_at now Step May each [] before after all is timely = stays_at now before after is timely
chain_at now Step May each (x ∷ xs) before after all is timely =
    let first = each x before is.0 (All-head May x xs all) is.1.0 timely in
    grows_both now before is.0 after first (chain_at now Step May each xs is.0 after (All-tail May x xs all) is.1.1 first.timely)
