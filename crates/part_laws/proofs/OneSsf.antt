-- Two gsmSSFs that stand for one trace go on alike.
use Rattle.std.proofs.Common.{◌≡◌, ◌++◌, ◌<◌, ◌≤◌, ℕ, Bool, true, false, Option, Some, None, List, [], ◌∷◌, inl, inr, refl, sym, ap, ◌∙◌, arith, subst}
use Rattle.std.proofs.lemmas.Bool.{cases_lt, eqb-true}
use Rattle.std.proofs.lemmas.List.{append_cancel_left}
use Rattle.std.specs.Option.{ForSome}
use Rattle.std.specs.Prelude.{◌==◌, MatchOption}
use Rattle.cap_values.specs.declared.number.Number.{Number}
use Rattle.part_laws.specs.OneWay.{TimersRunOneWay}
use Rattle.run_texts.specs.declared.script.Happening.{Happening as RowHappening}
use Rattle.run_texts.specs.declared.script.Happening.TheVariants as row
use Rattle.run_values.specs.declared.post.Body.TheVariants as body
use Rattle.ssf_core.proofs.ExpiryLemmas.{due-stage}
use Rattle.ssf_core.specs.Calls.{IsNextDue, RunsUntil, Stands, View}
use Rattle.ssf_core.specs.Happenings.{Happening, sent_in}
use Rattle.ssf_core.specs.Traces.{due}
use Rattle.ssf_core.specs.declared.config.SsfConfig.{SsfConfig}
use Rattle.ssf_core.specs.declared.fault.SsfFault.{SsfFault}
use Rattle.ssf_core.specs.declared.item.Out.{Out}
use Rattle.script_player.proofs.LifeLemmas.{Timed, table_fault, timed_by}
use Rattle.script_player.specs.Beginnings.{begun_trace}
use Rattle.script_player.specs.Dues.{HasTimer, IsDueBy, IsFirstDue, ssf_of}
use Rattle.script_player.specs.Inputs.{IsGiven, IsNextTimer}
use Rattle.script_player.specs.Lives.{taken_or_refused}
use Rattle.script_player.specs.Networks.{Shown}
use Rattle.script_player.specs.Posts.{posts_of}
use Rattle.script_player.specs.Steps.{GetsSsf, FeedsSsf, GivesTo, HappensAt, Recharges, SendsItems, Sets, StartsCall}
use Rattle.script_player.specs.Unplaced.{fault_given, fault_of_feed, fault_of_row}

-- two gsmSSFs stand for one trace
pub record StandAlike (one other : View) : Type 0 where
  pub config : one.config ≡ other.config
  pub last : one.last ≡ other.last
  pub trace : List Happening
  pub stands : Stands one trace
  pub stands_too : Stands other trace

-- ---- an input

-- two gsmSSFs have sent the same, have refused alike, and stand for one trace again
pub record GoAlike (new also : View) (sent outs : List Out) (fault its : Option SsfFault) : Type 0 where
  pub sends : sent ≡ outs
  pub refuses : fault ≡ its
  pub stand : StandAlike new also

late_alike : TimersRunOneWay → (one other new also : View) (now : ℕ) (input : _) (sent outs : List Out) → one.last ≤ now → StandAlike one other → (is : IsGiven one new now input sent)
    → (too : IsGiven other also now input outs) → GoAlike new also sent outs is.fault too.fault
late_alike one_way one other new also now input sent outs late alike is too =
    let late_too : other.last ≤ now = subst (λ (n : ℕ). n ≤ now) alike.last late in
    let a : Timed one new now input alike.trace sent is.fault = timed_by one new now input alike.trace sent is.fault (is.goes_on late alike.trace alike.stands) in
    let b : Timed other also now input alike.trace outs too.fault = timed_by other also now input alike.trace outs too.fault (too.goes_on late_too alike.trace alike.stands_too) in
    let runs : RunsUntil one.config now alike.trace b.0 = subst (λ (c : SsfConfig). RunsUntil c now alike.trace b.0) (sym alike.config) b.1.0 in
    let same : a.0 ≡ b.0 = one_way one.config now alike.trace a.0 b.0 a.1.0 runs in
    let last : taken_or_refused one.config now input a.0 ≡ taken_or_refused other.config now input b.0 = ap (λ (c : SsfConfig). taken_or_refused c now input a.0) alike.config ∙ ap (taken_or_refused other.config now input) same in
    record {
      sends = append_cancel_left (sent_in alike.trace) sent outs (sym a.1.1.1 ∙ ap sent_in last ∙ b.1.1.1);
      refuses = a.1.1.2 ∙ ap (λ (c : SsfConfig). table_fault c now input a.0) alike.config ∙ ap (table_fault other.config now input) same ∙ sym b.1.1.2;
      stand = record {
        config = is.same_config ∙ alike.config ∙ sym too.same_config;
        last = is.moment late ∙ sym (too.moment late_too);
        trace = taken_or_refused one.config now input a.0;
        stands = a.1.1.0;
        stands_too = subst (Stands also) (sym last) b.1.1.0;
      };
    }

given_alike : TimersRunOneWay → (one other new also : View) (now : ℕ) (input : _) (sent outs : List Out) → StandAlike one other → (is : IsGiven one new now input sent) → (too : IsGiven other also now input outs)
    → GoAlike new also sent outs is.fault too.fault
given_alike one_way one other new also now input sent outs alike is too = elim (cases_lt now one.last) [
  | inl early ↦
      (let early_too : now < other.last = subst (λ (n : ℕ). now < n) alike.last early in
      let stays = is.backwards early in
      let stays_too = too.backwards early_too in
      record {
        sends = stays.1 ∙ sym stays_too.1;
        refuses = stays.2 ∙ sym stays_too.2;
        stand = subst (λ (v : View). StandAlike v also) (sym stays.0) (subst (λ (v : View). StandAlike one v) (sym stays_too.0) alike);
      })
  | inr late ↦ late_alike one_way one other new also now input sent outs late alike is too
]

-- ---- all gsmSSFs

abbrev pub AreSsfsAlike : Option View → Option View → Type 0
AreSsfsAlike None None = Unit {0}
AreSsfsAlike None (Some other) = ⊥
AreSsfsAlike (Some one) None = ⊥
AreSsfsAlike (Some one) (Some other) = StandAlike one other

abbrev pub HaveSsfsAlike : List (ℕ × View) → List (ℕ × View) → Type 0
HaveSsfsAlike one other = (call : ℕ) → AreSsfsAlike (ssf_of one call) (ssf_of other call)

-- two networks have given the same, and their gsmSSFs stand alike
pub record ShownAlike (one other : Shown) : Type 0 where
  pub config : one.config ≡ other.config
  pub given : one.given ≡ other.given
  pub ssfs : HaveSsfsAlike one.ssfs other.ssfs

sets_alike : (before after again last : List (ℕ × View)) (call : ℕ) (view also : View) → Sets before after call view → Sets again last call also → StandAlike view also → HaveSsfsAlike before again
    → HaveSsfsAlike after last
sets_alike before after again last call view also sets too stand alike other = by_call (call == other) refl
  where
    by_call : (b : Bool) → (call == other) ≡ b → AreSsfsAlike (ssf_of after other) (ssf_of last other)
    by_call true here =
        let its : call ≡ other = eqb-true call other here in
        subst (λ (c : ℕ). AreSsfsAlike (ssf_of after c) (ssf_of last c)) its
        (subst (λ (f : Option View). AreSsfsAlike f (ssf_of last call)) (sym sets.own) (subst (λ (f : Option View). AreSsfsAlike (Some view) f) (sym too.own) stand))
    by_call false here =
        subst (λ (f : Option View). AreSsfsAlike f (ssf_of last other)) (sym (sets.others other here))
        (subst (λ (f : Option View). AreSsfsAlike (ssf_of before other) f) (sym (too.others other here)) (alike other))

sends_alike : (before after again last : Shown) (call : ℕ) (view also : View) (sent outs : List Out) → SendsItems before after call view sent → SendsItems again last call also outs → sent ≡ outs → StandAlike view also
    → ShownAlike before again → ShownAlike after last
sends_alike before after again last call view also sent outs sends too same stand alike = record {
  config = sends.same_config ∙ alike.config ∙ sym too.same_config;
  given = sends.posts ∙ ap (λ g. g ++ posts_of call sent) alike.given ∙ ap (λ (o : List Out). again.given ++ posts_of call o) same ∙ sym too.posts;
  ssfs = sets_alike before.ssfs after.ssfs again.ssfs last.ssfs call view also sends.sets too.sets stand alike.ssfs;
}

pub stay_alike : (before after again last : Shown) → after ≡ before → last ≡ again → ShownAlike before again → ShownAlike after last
stay_alike before after again last same too alike = subst (λ (s : Shown). ShownAlike s last) (sym same) (subst (λ (s : Shown). ShownAlike before s) (sym too) alike)

pub gives_alike : TimersRunOneWay → (now call : ℕ) (input : _) (before after again last : Shown) → GivesTo now call input before after → GivesTo now call input again last → ShownAlike before again → ShownAlike after last
gives_alike one_way now call input before after again last gives too alike = by_ssf (ssf_of before.ssfs call) (ssf_of again.ssfs call) gives too (alike.ssfs call)
  where
    by_ssf : (found its : Option View) → MatchOption found (after ≡ before) (FeedsSsf before after now call input) → MatchOption its (last ≡ again) (FeedsSsf again last now call input) → AreSsfsAlike found its
        → ShownAlike after last
    by_ssf None None gives too ssfs = stay_alike before after again last gives too alike
    by_ssf None (Some other) gives too ssfs = absurd ssfs
    by_ssf (Some one) None gives too ssfs = absurd ssfs
    by_ssf (Some one) (Some other) gives too ssfs =
        let go = given_alike one_way one other gives.new too.new now input gives.sent too.sent ssfs gives.is_given too.is_given in
        sends_alike before after again last call gives.new too.new gives.sent too.sent gives.sends too.sends go.sends go.stand alike

-- and by the same fault, where there is one
gives_fault_alike : TimersRunOneWay → (now call : ℕ) (input : _) (before after again last : Shown) (gives : GivesTo now call input before after) (too : GivesTo now call input again last) → ShownAlike before again
    → fault_given now call input before after gives ≡ fault_given now call input again last too
gives_fault_alike one_way now call input before after again last gives too alike = by_ssf (ssf_of before.ssfs call) (ssf_of again.ssfs call) gives too (alike.ssfs call)
  where
    by_ssf : (found its : Option View) (gives : MatchOption found (after ≡ before) (FeedsSsf before after now call input)) (too : MatchOption its (last ≡ again) (FeedsSsf again last now call input)) → AreSsfsAlike found its
        → fault_of_feed found now call input before after gives ≡ fault_of_feed its now call input again last too
    by_ssf None None gives too ssfs = refl
    by_ssf None (Some other) gives too ssfs = absurd ssfs
    by_ssf (Some one) None gives too ssfs = absurd ssfs
    by_ssf (Some one) (Some other) gives too ssfs = (given_alike one_way one other gives.new too.new now input gives.sent too.sent ssfs gives.is_given too.is_given).refuses

starts_alike : (now call : ℕ) (calling called : Number) (before after again last : Shown) → StartsCall now call calling called before after → StartsCall now call calling called again last
    → ShownAlike before again → ShownAlike after last
starts_alike now call calling called before after again last starts too alike = by_ssf (ssf_of before.ssfs call) (ssf_of again.ssfs call) starts too (alike.ssfs call)
  where
    by_ssf : (found its : Option View) → MatchOption found (GetsSsf before after now call calling called) (λ _. after ≡ before)
        → MatchOption its (GetsSsf again last now call calling called) (λ _. last ≡ again) → AreSsfsAlike found its → ShownAlike after last
    by_ssf None None starts too ssfs =
        let stand : StandAlike starts.view too.view = record {
          config = starts.begun.same_config ∙ alike.config ∙ sym too.begun.same_config;
          last = starts.begun.moment ∙ sym too.begun.moment;
          trace = begun_trace now call calling called;
          stands = subst (Stands starts.view) starts.begun.is starts.begun.stands;
          stands_too = subst (Stands too.view) too.begun.is too.begun.stands;
        } in
        sends_alike before after again last call starts.view too.view starts.sent too.sent starts.sends too.sends (starts.begun.initial ∙ sym too.begun.initial) stand alike
    by_ssf None (Some other) starts too ssfs = absurd ssfs
    by_ssf (Some one) None starts too ssfs = absurd ssfs
    by_ssf (Some one) (Some other) starts too ssfs = stay_alike before after again last starts too alike

recharges_alike : (now account amount : ℕ) (until : Option ℕ) (before after again last : Shown) → Recharges now account amount until before after → Recharges now account amount until again last
    → ShownAlike before again → ShownAlike after last
recharges_alike now account amount until before after again last is too alike = record {
  config = ap (λ (s : Shown). s.config) is ∙ alike.config ∙ sym (ap (λ (s : Shown). s.config) too);
  given = ap (λ (s : Shown). s.given) is ∙ ap (λ g. g ++ (now, body.Recharge account amount until) ∷ []) alike.given ∙ sym (ap (λ (s : Shown). s.given) too);
  ssfs = λ call.
      let first : ssf_of after.ssfs call ≡ ssf_of before.ssfs call = ap (λ (s : Shown). ssf_of s.ssfs call) is in
      let second : ssf_of last.ssfs call ≡ ssf_of again.ssfs call = ap (λ (s : Shown). ssf_of s.ssfs call) too in
      subst (λ (f : Option View). AreSsfsAlike f (ssf_of last.ssfs call)) (sym first) (subst (λ (f : Option View). AreSsfsAlike (ssf_of before.ssfs call) f) (sym second) (alike.ssfs call));
}

pub happens_alike : TimersRunOneWay → (at : ℕ) (happening : RowHappening) (before after again last : Shown) → HappensAt at happening before after → HappensAt at happening again last → ShownAlike before again → ShownAlike after last
happens_alike one_way at (row.Start call calling called) before after again last is too alike = starts_alike at call calling called before after again last is too alike
happens_alike one_way at (row.Meets call event) before after again last is too alike = gives_alike one_way at call _ before after again last is too alike
happens_alike one_way at (row.Recharge account amount until) before after again last is too alike = recharges_alike at account amount until before after again last is too alike

pub row_fault_alike : TimersRunOneWay → (at : ℕ) (happening : RowHappening) (before after again last : Shown) (is : HappensAt at happening before after) (too : HappensAt at happening again last) → ShownAlike before again
    → fault_of_row at happening before after is ≡ fault_of_row at happening again last too
row_fault_alike one_way at (row.Start call calling called) before after again last is too alike = refl
row_fault_alike one_way at (row.Meets call event) before after again last is too alike = gives_fault_alike one_way at call _ before after again last is too alike
row_fault_alike one_way at (row.Recharge account amount until) before after again last is too alike = refl

-- ---- what is due

pub dues_same : (view : View) (trace other : List Happening) → Stands view trace → Stands view other → (timer : _) → due view.config trace timer ≡ due view.config other timer
dues_same view trace other stands too timer = due-stage view.config view.last view.stage trace timer stands ∙ sym (due-stage view.config view.last view.stage other timer too)

next_due_too : (config : SsfConfig) (trace other : List Happening) (moment : Option ℕ) → ((timer : _) → due config trace timer ≡ due config other timer) → IsNextDue config trace moment → IsNextDue config other moment
next_due_too config trace other None same next = λ timer. sym (same timer) ∙ next timer
next_due_too config trace other (Some moment) same next =
    ((next.0.0, sym (same next.0.0) ∙ next.0.1), λ timer d is. next.1 timer d (same timer ∙ is))

next_too : (one other : View) (moment : Option ℕ) → StandAlike one other → IsNextTimer one moment → IsNextTimer other moment
next_too one other moment alike next = record {
  least = λ trace stands.
      let common : IsNextDue other.config alike.trace moment = subst (λ (c : SsfConfig). IsNextDue c alike.trace moment) alike.config (next.least alike.trace alike.stands) in
      next_due_too other.config alike.trace trace moment (dues_same other alike.trace trace alike.stands_too stands) common;
  ahead = subst (λ (n : ℕ). ForSome moment (λ at. n ≤ at)) alike.last next.ahead;
}

turned : (one other : View) → StandAlike one other → StandAlike other one
turned one other alike = record { config = sym alike.config; last = sym alike.last; trace = alike.trace; stands = alike.stands_too; stands_too = alike.stands }

pub ssfs_turned : (one other : List (ℕ × View)) → HaveSsfsAlike one other → HaveSsfsAlike other one
ssfs_turned one other alike call = by_ssf (ssf_of one call) (ssf_of other call) (alike call)
  where
    by_ssf : (found its : Option View) → AreSsfsAlike found its → AreSsfsAlike its found
    by_ssf None None ssfs = tt
    by_ssf None (Some view) ssfs = absurd ssfs
    by_ssf (Some view) None ssfs = absurd ssfs
    by_ssf (Some view) (Some also) ssfs = turned view also ssfs

pub timer_too : (one other : List (ℕ × View)) (call at : ℕ) → HaveSsfsAlike one other → HasTimer one call at → HasTimer other call at
timer_too one other call at alike timer = by_ssf (ssf_of other call) refl (subst (λ (f : Option View). AreSsfsAlike f (ssf_of other call)) timer.is (alike call))
  where
    by_ssf : (its : Option View) → ssf_of other call ≡ its → AreSsfsAlike (Some timer.view) its → HasTimer other call at
    by_ssf None is ssfs = absurd ssfs
    by_ssf (Some view) is ssfs = record { view = view; is = is; next = next_too timer.view view (Some at) ssfs timer.next }

pub due_too : (one other : List (ℕ × View)) (now call : ℕ) → HaveSsfsAlike one other → IsDueBy one now call → IsDueBy other now call
due_too one other now call alike due_now = (due_now.0, (timer_too one other call due_now.0 alike due_now.1.0, due_now.1.1))

pub first_same : (one other : List (ℕ × View)) (first its : Option ℕ) → HaveSsfsAlike one other → IsFirstDue one first → IsFirstDue other its → first ≡ its
first_same one other None None alike is too = refl
first_same one other None (Some at) alike is too =
    absurd (is too.0.0 at (timer_too other one too.0.0 at (ssfs_turned one other alike) too.0.1))
first_same one other (Some at) None alike is too = absurd (too is.0.0 at (timer_too one other is.0.0 at alike is.0.1))
first_same one other (Some at) (Some its) alike is too =
    let first : at ≤ its = is.1 too.0.0 its (timer_too other one too.0.0 its (ssfs_turned one other alike) too.0.1) in
    let second : its ≤ at = too.1 is.0.0 at (timer_too one other is.0.0 at alike is.0.1) in
    let same : at ≡ its = omega (arith, first, second) in ap Some same
