-- What was given of a call is what its gsmSSF has sent in the life that the deeds of the run have made.
use Rattle.std.proofs.Common.{◌≡◌, ◌==◌, ◌++◌, ◌<◌, ◌≤◌, ℕ, Bool, true, false, Option, Some, None, List, [], ◌∷◌, inl, inr, refl, sym, ap, ◌∙◌, append-nil, arith, subst}
use Rattle.std.proofs.lemmas.Bool.{cases_lt, eqb-true}
use Rattle.std.specs.Prelude.{MatchOption}
use Rattle.std.specs.Result.{result_err}
use Rattle.cap_values.specs.declared.number.Number.{Number}
use Rattle.ssf_core.specs.Calls.{RunsUntil, Stands, View}
use Rattle.ssf_core.specs.Happenings.{Happening, sent_in}
use Rattle.ssf_core.specs.Inputs.{meets, operates}
use Rattle.ssf_core.specs.Rules.{on_input}
use Rattle.ssf_core.specs.Traces.{phase_after}
use Rattle.ssf_core.specs.declared.config.SsfConfig.{SsfConfig}
use Rattle.ssf_core.specs.declared.fault.SsfFault.{SsfFault}
use Rattle.ssf_core.specs.declared.item.Out.{Out}
use Rattle.run_values.specs.declared.post.Body.{Body}
use Rattle.script_player.specs.Beginnings.{begun_trace}
use Rattle.script_player.specs.Chains.{Chain}
use Rattle.script_player.specs.Dues.{ssf_of}
use Rattle.script_player.specs.Inputs.{GoesOnBy, IsGiven}
use Rattle.script_player.specs.Lives.{Befalls, BefallsDeed, Deed, Does, DoesDeed, Giving, HasLived, Life, LivesOn, Recharging, Starting, sent_in_life, taken_or_refused}
use Rattle.script_player.specs.Networks.{Shown}
use Rattle.script_player.specs.Posts.{items_of, posts_of}
use Rattle.script_player.specs.Steps.{GetsSsf, FeedsSsf, SendsItems}
use Rattle.script_player.specs.declared.network.Input.{Input}
use Rattle.script_player.specs.declared.network.Input.TheVariants as what
use Rattle.script_player.proofs.Items.{items_of-other, items_of-own, posts_of-append, same_true}
use Rattle.script_player.proofs.RowLemmas.{items_of-recharged}

-- a gsmSSF stands for the life of its call, and its messages were given
record IsAlive (config : SsfConfig) (call : ℕ) (given : List (ℕ × Body)) (view : View) (life : Life) : Type 0 where
  pub same_config : view.config ≡ config
  pub same_last : view.last ≡ life.last
  pub stands : Stands view life.trace
  pub same : items_of call given ≡ posts_of call (sent_in life.trace)

abbrev Agrees : SsfConfig → ℕ → List (ℕ × Body) → Option View → Option Life → Type 0
Agrees config call given None None = items_of call given ≡ []
Agrees config call given (Some view) (Some life) = IsAlive config call given view life
Agrees config call given None (Some life) = ⊥
Agrees config call given (Some view) None = ⊥

agrees_same : (config : SsfConfig) (call : ℕ) (given more : List (ℕ × Body)) (found : Option View) (life : Option Life) → items_of call more ≡ items_of call given
    → Agrees config call given found life → Agrees config call more found life
agrees_same config call given more None None same agrees = same ∙ agrees
agrees_same config call given more (Some view) (Some life) same agrees =
    record { same_config = agrees.same_config; same_last = agrees.same_last; stands = agrees.stands; same = same ∙ agrees.same }
agrees_same config call given more None (Some life) same agrees = agrees
agrees_same config call given more (Some view) None same agrees = agrees

-- ---- one input

grown : (call : ℕ) (given : List (ℕ × Body)) (before after : List Happening) (sent : List Out) → items_of call given ≡ posts_of call (sent_in before) → sent_in after ≡ sent_in before ++ sent
    → items_of call (given ++ posts_of call sent) ≡ posts_of call (sent_in after)
grown call given before after sent same sends = items_of-own call given sent ∙ rw (same, sends) (sym (posts_of-append call (sent_in before) sent))

-- the fault by which the rules refuse an input
abbrev pub table_fault : SsfConfig → ℕ → Input → List Happening → Option SsfFault
table_fault config now (what.Operate op) timed = result_err (on_input timed (phase_after config timed) now (operates op))
table_fault config now (what.Meet event) timed = result_err (on_input timed (phase_after config timed) now (meets event))
table_fault config now what.Wait timed = None

-- a trace whose timers have run, which a gsmSSF stands for once it was given an input
abbrev pub Timed : View → View → ℕ → Input → List Happening → List Out → Option SsfFault → Type 0
Timed before after now input trace sent fault = (timed : List Happening) × (RunsUntil before.config now trace timed
    × (Stands after (taken_or_refused before.config now input timed) × (sent_in (taken_or_refused before.config now input timed) ≡ sent_in trace ++ sent)
    × (fault ≡ table_fault before.config now input timed)))

pub timed_by : (before after : View) (now : ℕ) (input : Input) (trace : List Happening) (sent : List Out) (fault : Option SsfFault) → GoesOnBy before after now input trace sent fault
    → Timed before after now input trace sent fault
timed_by before after now (what.Operate op) trace sent fault goes = (goes.timed, (goes.runs, (goes.stands, goes.sends, goes.refused)))
timed_by before after now (what.Meet event) trace sent fault goes = (goes.timed, (goes.runs, (goes.stands, goes.sends, goes.refused)))
timed_by before after now what.Wait trace sent fault goes = (goes.0.timed, (goes.0.runs, (goes.0.stands, goes.0.sends, goes.1)))

-- a life goes on
abbrev GoesOnIn : SsfConfig → ℕ → ℕ → Input → List (ℕ × Body) → View → Life → Type 0
GoesOnIn config now call input given view life = (next : Life) × (LivesOn config now input life next × IsAlive config call given view next)

lives_early : (old new : View) (now call : ℕ) (input : Input) (given : List (ℕ × Body)) (sent : List Out) (life : Life) → now < old.last → new ≡ old → sent ≡ []
    → IsAlive old.config call given old life → GoesOnIn old.config now call input (given ++ posts_of call sent) new life
lives_early old new now call input given sent life early same none alive =
    let P : View → Type 0 = λ v. GoesOnIn old.config now call input (given ++ posts_of call sent) v life in
    let Q : List Out → Type 0 = λ outs. GoesOnIn old.config now call input (given ++ posts_of call outs) old life in
    let is : old.last ≡ life.last = alive.same_last in
    subst P (sym same) (subst Q (sym none) (
      life,
      (
        record { backwards = λ behind. refl; moment = λ late. absurd (omega arith); trace = λ late. absurd (omega arith) },
        record { same_config = alive.same_config; same_last = alive.same_last; stands = alive.stands; same = ap (items_of call) (append-nil given) ∙ alive.same },
      ),
    ))

lives_late : (old new : View) (now call : ℕ) (input : Input) (given : List (ℕ × Body)) (sent : List Out) (life : Life) → old.last ≤ now → IsGiven old new now input sent
    → IsAlive old.config call given old life → GoesOnIn old.config now call input (given ++ posts_of call sent) new life
lives_late old new now call input given sent life late is_given alive =
    let timed : Timed old new now input life.trace sent is_given.fault = timed_by old new now input life.trace sent is_given.fault (is_given.goes_on late life.trace alive.stands) in
    let is : old.last ≡ life.last = alive.same_last in
    let trace : List Happening = taken_or_refused old.config now input timed.0 in (
      record { last = now; trace = trace },
      (
        record { backwards = λ behind. absurd (omega arith); moment = λ still. refl; trace = λ still. (timed.0, (timed.1.0, refl)) },
        record {
          same_config = is_given.same_config;
          same_last = is_given.moment late;
          stands = timed.1.1.0;
          same = grown call given life.trace trace sent alive.same timed.1.1.1;
        },
      ),
    )

lives_on : (config : SsfConfig) (old new : View) (now call : ℕ) (input : Input) (given : List (ℕ × Body)) (sent : List Out) (life : Life) → IsGiven old new now input sent
    → IsAlive config call given old life → GoesOnIn config now call input (given ++ posts_of call sent) new life
lives_on config old new now call input given sent life is_given alive =
    let P : SsfConfig → Type 0 = λ c. GoesOnIn c now call input (given ++ posts_of call sent) new life in
    let own : IsAlive old.config call given old life = record { same_config = refl; same_last = alive.same_last; stands = alive.stands; same = alive.same } in
    subst P alive.same_config (elim (cases_lt now old.last) [
      | inl early ↦ lives_early old new now call input given sent life early (is_given.backwards early).0 (is_given.backwards early).1 own
      | inr late ↦ lives_late old new now call input given sent life late is_given own
    ])

-- ---- one deed

-- what a deed makes of the life of a call
abbrev Makes : SsfConfig → ℕ → Option Life → ℕ → Deed → List (ℕ × Body) → Option View → Type 0
Makes config call life at deed given found = (next : Option Life) × (Befalls config call life at deed next × Agrees config call given found next)

-- the call isn't this one
left_alone : (config : SsfConfig) (call other at : ℕ) (input : Input) (given : List (ℕ × Body)) (found : Option View) (life : Option Life) → (other == call) ≡ false → Agrees config call given found life
    → Makes config call life at (Giving other input) given found
left_alone config call other at input given found None apart agrees = (None, (refl, agrees))
left_alone config call other at input given found (Some life) apart agrees = (Some life, (rw apart refl, agrees))

left_starting : (config : SsfConfig) (call other at : ℕ) (calling called : Number) (given : List (ℕ × Body)) (found : Option View) (life : Option Life) → (other == call) ≡ false
    → Agrees config call given found life → Makes config call life at (Starting other calling called) given found
left_starting config call other at calling called given found None apart agrees = (None, (rw apart refl, agrees))
left_starting config call other at calling called given found (Some life) apart agrees = (Some life, (refl, agrees))

recharged : (config : SsfConfig) (call at account amount : ℕ) (until : Option ℕ) (given : List (ℕ × Body)) (found : Option View) (life : Option Life) → Agrees config call given found life
    → Makes config call life at (Recharging account amount until) given found
recharged config call at account amount until given found None agrees = (None, (refl, agrees))
recharged config call at account amount until given found (Some life) agrees = (Some life, (refl, agrees))

abbrev AgreesNow : SsfConfig → ℕ → Shown → Option Life → Type 0
AgreesNow config call shown life = Agrees config call shown.given (ssf_of shown.ssfs call) life

abbrev MakesNow : SsfConfig → ℕ → Option Life → ℕ → Deed → Shown → Type 0
MakesNow config call life at deed shown = Makes config call life at deed shown.given (ssf_of shown.ssfs call)

-- nothing of a call changes
abbrev IsApart : ℕ → Shown → Shown → Type 0
IsApart call before after = (ssf_of after.ssfs call ≡ ssf_of before.ssfs call) × (items_of call after.given ≡ items_of call before.given)

agrees_apart : (config : SsfConfig) (call : ℕ) (before after : Shown) (life : Option Life) → IsApart call before after → AgreesNow config call before life → AgreesNow config call after life
agrees_apart config call before after life apart agrees =
    let P : Option View → Type 0 = λ found. Agrees config call after.given found life in
    subst P (sym apart.0) (agrees_same config call before.given after.given (ssf_of before.ssfs call) life apart.1 agrees)

apart_not : (call : ℕ) (before after : Shown) → after ≡ before → IsApart call before after
apart_not call before after same = (ap (λ (shown : Shown). ssf_of shown.ssfs call) same, ap (λ (shown : Shown). items_of call shown.given) same)

apart_sends : (call other : ℕ) (before after : Shown) (view : View) (sent : List Out) → (other == call) ≡ false → SendsItems before after other view sent → IsApart call before after
apart_sends call other before after view sent apart sends = (sends.sets.others call apart, ap (items_of call) sends.posts ∙ items_of-other other call before.given sent apart)

apart_gives : (found : Option View) (call other at : ℕ) (input : Input) (before after : Shown) → (other == call) ≡ false → MatchOption found (after ≡ before) (FeedsSsf before after at other input)
    → IsApart call before after
apart_gives None call other at input before after apart gives = apart_not call before after gives
apart_gives (Some view) call other at input before after apart gives = apart_sends call other before after gives.new gives.sent apart gives.sends

apart_starts : (found : Option View) (call other at : ℕ) (calling called : Number) (before after : Shown) → (other == call) ≡ false
    → MatchOption found (GetsSsf before after at other calling called) (λ _. after ≡ before) → IsApart call before after
apart_starts None call other at calling called before after apart starts = apart_sends call other before after starts.view starts.sent apart starts.sends
apart_starts (Some view) call other at calling called before after apart starts = apart_not call before after starts

own_given : (found : Option View) (life : Option Life) (config : SsfConfig) (call at : ℕ) (input : Input) (before after : Shown) → ssf_of before.ssfs call ≡ found
    → MatchOption found (after ≡ before) (FeedsSsf before after at call input) → Agrees config call before.given found life → MakesNow config call life at (Giving call input) after
own_given None None config call at input before after is gives agrees =
    let P : Option View → Type 0 = λ found. Agrees config call before.given found None in
    (None, (refl, agrees_apart config call before after None (apart_not call before after gives) (subst P (sym is) agrees)))
own_given None (Some life) config call at input before after is gives agrees = absurd agrees
own_given (Some view) None config call at input before after is gives agrees = absurd agrees
own_given (Some view) (Some life) config call at input before after is gives agrees =
    let lives = lives_on config view gives.new at call input before.given gives.sent life gives.is_given agrees in
    (Some lives.0, (rw (same_true call) (lives.0, (refl, lives.1.0)), rw (gives.sends.sets.own, gives.sends.posts) lives.1.1))

own_started : (found : Option View) (life : Option Life) (config : SsfConfig) (call at : ℕ) (calling called : Number) (before after : Shown) → before.config ≡ config → ssf_of before.ssfs call ≡ found
    → MatchOption found (GetsSsf before after at call calling called) (λ _. after ≡ before) → Agrees config call before.given found life
    → MakesNow config call life at (Starting call calling called) after
own_started None None config call at calling called before after same is starts agrees =
    let begun = starts.begun in
    let T : List Happening → Type 0 = λ trace. Stands starts.view trace in (
      Some (record { last = at; trace = begun_trace at call calling called }),
      (
        rw (same_true call) refl,
        rw (starts.sends.sets.own, starts.sends.posts) (record {
          same_config = begun.same_config ∙ same;
          same_last = begun.moment;
          stands = subst T begun.is begun.stands;
          same = items_of-own call before.given starts.sent ∙ (rw agrees (ap (posts_of call) (sym begun.sends ∙ ap sent_in begun.is)));
        }),
      ),
    )
own_started None (Some life) config call at calling called before after same is starts agrees = absurd agrees
own_started (Some view) None config call at calling called before after same is starts agrees = absurd agrees
own_started (Some view) (Some life) config call at calling called before after same is starts agrees =
    let P : Option View → Type 0 = λ found. Agrees config call before.given found (Some life) in
    (Some life, (refl, agrees_apart config call before after (Some life) (apart_not call before after starts) (subst P (sym is) agrees)))

makes_given : (here : Bool) (config : SsfConfig) (call other at : ℕ) (input : Input) (before after : Shown) (life : Option Life) → (other == call) ≡ here
    → Does at (Giving other input) before after → AgreesNow config call before life → MakesNow config call life at (Giving other input) after
makes_given true config call other at input before after life is does agrees =
    let same : other ≡ call = eqb-true other call is in
    let P : ℕ → Type 0 = λ c. MakesNow config call life at (Giving c input) after in
    let Q : ℕ → Type 0 = λ c. Does at (Giving c input) before after in
    subst P (sym same) (own_given (ssf_of before.ssfs call) life config call at input before after refl (subst Q same does) agrees)
makes_given false config call other at input before after life is does agrees =
    left_alone config call other at input after.given (ssf_of after.ssfs call) life is
    (agrees_apart config call before after life (apart_gives (ssf_of before.ssfs other) call other at input before after is does) agrees)

makes_started : (here : Bool) (config : SsfConfig) (call other at : ℕ) (calling called : Number) (before after : Shown) (life : Option Life) → (other == call) ≡ here → before.config ≡ config
    → Does at (Starting other calling called) before after → AgreesNow config call before life → MakesNow config call life at (Starting other calling called) after
makes_started true config call other at calling called before after life is config_is does agrees =
    let same : other ≡ call = eqb-true other call is in
    let P : ℕ → Type 0 = λ c. MakesNow config call life at (Starting c calling called) after in
    let Q : ℕ → Type 0 = λ c. Does at (Starting c calling called) before after in
    subst P (sym same) (own_started (ssf_of before.ssfs call) life config call at calling called before after config_is refl (subst Q same does) agrees)
makes_started false config call other at calling called before after life is config_is does agrees =
    left_starting config call other at calling called after.given (ssf_of after.ssfs call) life is
    (agrees_apart config call before after life (apart_starts (ssf_of before.ssfs other) call other at calling called before after is does) agrees)

makes : (at : ℕ) (deed : Deed) (config : SsfConfig) (call : ℕ) (before after : Shown) (life : Option Life) → before.config ≡ config → Does at deed before after
    → AgreesNow config call before life → MakesNow config call life at deed after
makes at (Starting other calling called) config call before after life same does agrees = makes_started _ config call other at calling called before after life refl same does agrees
makes at (Giving other input) config call before after life same does agrees = makes_given _ config call other at input before after life refl does agrees
makes at (Recharging account amount until) config call before after life same does agrees =
    recharged config call at account amount until after.given (ssf_of after.ssfs call) life
    (agrees_apart config call before after life (
      ap (λ (shown : Shown). ssf_of shown.ssfs call) does,
      ap (λ (shown : Shown). items_of call shown.given) does ∙ items_of-recharged call before.given at account amount until,
    ) agrees)

given_config : (found : Option View) (at call : ℕ) (input : Input) (before after : Shown) → MatchOption found (after ≡ before) (FeedsSsf before after at call input) → after.config ≡ before.config
given_config None at call input before after gives = ap (λ (shown : Shown). shown.config) gives
given_config (Some view) at call input before after gives = gives.sends.same_config

started_config : (found : Option View) (at call : ℕ) (calling called : Number) (before after : Shown)
    → MatchOption found (GetsSsf before after at call calling called) (λ _. after ≡ before) → after.config ≡ before.config
started_config None at call calling called before after starts = starts.sends.same_config
started_config (Some view) at call calling called before after starts = ap (λ (shown : Shown). shown.config) starts

does_config : (at : ℕ) (deed : Deed) (before after : Shown) → Does at deed before after → after.config ≡ before.config
does_config at (Starting call calling called) before after does = started_config (ssf_of before.ssfs call) at call calling called before after does
does_config at (Giving call input) before after does = given_config (ssf_of before.ssfs call) at call input before after does
does_config at (Recharging account amount until) before after does = ap (λ (shown : Shown). shown.config) does

-- ---- all deeds

lives_through : (config : SsfConfig) (call : ℕ) (before after : Shown) (deeds : List (ℕ × Deed)) (life : Option Life) → Chain DoesDeed before deeds after → before.config ≡ config
    → AgreesNow config call before life → (next : Option Life) × (Chain (BefallsDeed config call) life deeds next × AgreesNow config call after next)
lives_through config call before after [] life chain same agrees =
    let P : Shown → Type 0 = λ shown. AgreesNow config call shown life in
    (life, (refl, subst P (sym chain) agrees))
lives_through config call before after (deed ∷ deeds) life chain same agrees =
    let step = makes deed.0 deed.1 config call before chain.0 life same chain.1.0 agrees in
    let rest = lives_through config call chain.0 after deeds step.0 chain.1.1 (does_config deed.0 deed.1 before chain.0 chain.1.0 ∙ same) step.1.1 in
    (rest.0, ((step.0, (step.1.0, rest.1.0)), rest.1.1))

gave_by : (config : SsfConfig) (call : ℕ) (given : List (ℕ × Body)) (found : Option View) (life : Option Life) → Agrees config call given found life → items_of call given ≡ posts_of call (sent_in_life life)
gave_by config call given None None agrees = agrees
gave_by config call given (Some view) (Some life) agrees = agrees.same
gave_by config call given None (Some life) agrees = absurd agrees
gave_by config call given (Some view) None agrees = absurd agrees

pub has_lived : (config : SsfConfig) (call : ℕ) (before after : Shown) (deeds : List (ℕ × Deed)) → before.config ≡ config → before.ssfs ≡ [] → before.given ≡ [] → Chain DoesDeed before deeds after
    → HasLived config deeds call after.given
has_lived config call before after deeds same none empty chain =
    let P : List (ℕ × View) → Type 0 = λ ssfs. Agrees config call before.given (ssf_of ssfs call) None in
    let lives = lives_through config call before after deeds None chain same (subst P (sym none) (ap (items_of call) empty)) in
    record { life = lives.0; lived = lives.1.0; same = gave_by config call after.given (ssf_of after.ssfs call) lives.0 lives.1.1 }
