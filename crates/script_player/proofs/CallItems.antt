-- What was given of the calls goes on with their gsmSSFs.
use Rattle.std.proofs.Common.{◌≡◌, ◌==◌, ◌≤◌, ℕ, Bool, true, false, Option, Some, None, List, [], ◌∷◌, ◌++◌, refl, ap, arith, sym, ◌∙◌, append_assoc, append-nil, subst}
use Rattle.std.proofs.lemmas.Bool.{eqb-true}
use Rattle.std.proofs.lemmas.Bool.Decides.{nat_tests}
use Rattle.std.proofs.lemmas.List.Elements.{All-append, All-cons, All-nil, All-same}
use Rattle.std.specs.BTreeMap.{BTreeMap, Updates, get, is_at}
use Rattle.std.specs.Ordering.{nat_cmp}
use Rattle.std.specs.Prelude.{All, MatchOption, is_some}
use Rattle.cap_values.specs.declared.message.SsfMsg.TheVariants as message
use Rattle.cap_values.specs.declared.number.Number.{Number}
use Rattle.ssf_core.specs.Calls.{View}
use Rattle.ssf_core.specs.Happenings.{sent_in}
use Rattle.ssf_core.specs.Traces.{IsTrace}
use Rattle.ssf_core.specs.declared.config.SsfConfig.{SsfConfig}
use Rattle.ssf_core.specs.declared.item.Item.TheVariants as item
use Rattle.ssf_core.specs.declared.item.Out.{Out}
use Rattle.run_values.specs.declared.post.Body.{Body}
use Rattle.script_player.specs.Beginnings.{IsTriggered}
use Rattle.script_player.specs.Networks.{HaveGiven, SsfGoesOn, Grows, HasGiven, MovesSsf, Shown}
use Rattle.script_player.specs.Plays.{IsPlayed}
use Rattle.script_player.specs.Posts.{items_of, posts_of}
use Rattle.script_player.specs.Rows.{Starts, unless_begun}
use Rattle.script_player.proofs.Items.{items_of-other, items_of-own, posts_in_range, posts_of-append, recharges_in-posts}

-- what was given of a call, whether it has a gsmSSF or not
abbrev HasGivenOf : SsfConfig → List (ℕ × Body) → ℕ → Option View → Type 0
HasGivenOf config given call found = MatchOption found (items_of call given ≡ []) (HasGiven config call given)

pub apart_at : (call other : ℕ) → (call == other) ≡ false → is_at (nat_cmp call) other ≡ false
apart_at call other apart = grind (arith, nat_tests)

gave_same : (config : SsfConfig) (call : ℕ) (given more : List (ℕ × Body)) (found : Option View) → items_of call more ≡ items_of call given
    → HasGivenOf config given call found → HasGivenOf config more call found
gave_same config call given more None same gave = same ∙ gave
gave_same config call given more (Some view) same gave = record { same_config = gave.same_config; trace = gave.trace; stands = gave.stands; same = same ∙ gave.same; some = λ none. gave.some (sym same ∙ none) }

front_none : (front rest : List (ℕ × Body)) → front ++ rest ≡ [] → front ≡ []
front_none [] rest none = refl
front_none (item ∷ front) rest none = cc

gave_further : (config : SsfConfig) (call : ℕ) (given : List (ℕ × Body)) (old new : View) (sent : List Out) → HasGiven config call given old → SsfGoesOn old new sent
    → HasGiven config call (given ++ posts_of call sent) new
gave_further config call given old new sent gave on =
    let sends = on.from gave.trace gave.stands in
    record {
      same_config = on.same_config ∙ gave.same_config;
      trace = sends.further;
      stands = sends.stands;
      same = items_of-own call given sent ∙ (rw (gave.same, sends.sends) (sym (posts_of-append call (sent_in gave.trace) sent)));
      some = λ none. gave.some (front_none (items_of call given) (posts_of call sent) (sym (items_of-own call given sent) ∙ none));
    }

moved_by : (here : Bool) (config : SsfConfig) (before after : BTreeMap ℕ View) (call other : ℕ) (given : List (ℕ × Body)) (sent : List Out) → (call == other) ≡ here
    → HaveGiven config before given → MovesSsf before after call sent → HasGivenOf config (given ++ posts_of call sent) other (get nat_cmp after other)
moved_by true config before after call other given sent is are moves =
    let P : ℕ → Type 0 = λ c. HasGivenOf config (given ++ posts_of call sent) c (get nat_cmp after c) in
    let gave : HasGiven config call given moves.old = rw moves.was at (are.gave call) in
    subst P (eqb-true call other is) (rw moves.updates.1 (gave_further config call given moves.old moves.new sent gave moves.goes_on))
moved_by false config before after call other given sent is are moves =
    rw (moves.updates.2 other (apart_at call other is))
    (gave_same config other given (given ++ posts_of call sent) (get nat_cmp before other) (items_of-other call other given sent is) (are.gave other))

-- a gsmSSF goes on, and its messages are posted
pub gave_moved : (config : SsfConfig) (before after : BTreeMap ℕ View) (call : ℕ) (given : List (ℕ × Body)) (sent : List Out)
    → HaveGiven config before given → MovesSsf before after call sent → HaveGiven config after (given ++ posts_of call sent)
gave_moved config before after call given sent are moves = record {
  gave = λ other. moved_by _ config before after call other given sent refl are moves;
  in_range =
      let gave : HasGiven config call given moves.old = rw moves.was at (are.gave call) in
      All-append (λ (item : ℕ × Body). item.0 ≤ 2000000000000) given (posts_of call sent) are.in_range (posts_in_range call sent (moves.goes_on.from gave.trace gave.stands).in_range);
}

-- a call with a gsmSSF has items
pub has_some : (config : SsfConfig) (before after : BTreeMap ℕ View) (call : ℕ) (given : List (ℕ × Body)) (sent : List Out)
    → HaveGiven config before given → MovesSsf before after call sent → items_of call given ≡ [] → ⊥
has_some config before after call given sent are moves none =
    let gave : HasGiven config call given moves.old = rw moves.was at (are.gave call) in
    gave.some none

none_begins_by : (here : Bool) (call other : ℕ) (given : List (ℕ × Body)) (sent : List Out) → (call == other) ≡ here → (items_of call given ≡ [] → ⊥) → items_of other given ≡ []
    → items_of other (given ++ posts_of call sent) ≡ []
none_begins_by true call other given sent is some none =
    let P : ℕ → Type 0 = λ c. items_of c given ≡ [] in
    absurd (some (subst P (sym (eqb-true call other is)) none))
none_begins_by false call other given sent is some none = items_of-other call other given sent is ∙ none

-- the posts of a call that has begun are added
pub grows_posted : (call : ℕ) (before after : Shown) (sent : List Out) → (items_of call before.given ≡ [] → ⊥) → after.config ≡ before.config
    → after.given ≡ before.given ++ posts_of call sent → Grows before after
grows_posted call before after sent some same is = record {
  same_config = same;
  added = posts_of call sent;
  grown = is;
  same_recharges = rw is (recharges_in-posts call before.given sent);
  none_begins = λ other none. rw is (none_begins_by _ call other before.given sent refl some none);
}

-- one growth follows another
pub grows_on : (first second third : Shown) → Grows first second → Grows second third → Grows first third
grows_on first second third one two = record {
  same_config = two.same_config ∙ one.same_config;
  added = one.added ++ two.added;
  grown = two.grown ∙ rw one.grown (append_assoc first.given one.added two.added);
  same_recharges = two.same_recharges ∙ one.same_recharges;
  none_begins = λ call none. two.none_begins call (one.none_begins call none);
}

pub grows_not : (shown : Shown) → Grows shown shown
grows_not shown = record { same_config = refl; added = []; grown = sym (append-nil shown.given); same_recharges = refl; none_begins = λ call none. none }

played_by : (config : SsfConfig) (call : ℕ) (given : List (ℕ × Body)) (found : Option View) → HasGivenOf config given call found → IsPlayed config call given
played_by config call given None gave = record { trace = []; is_trace = tt; same = gave }
played_by config call given (Some view) gave =
    let P : SsfConfig → Type 0 = λ other. IsTrace other gave.trace in
    record { trace = gave.trace; is_trace = subst P gave.same_config gave.stands.is_trace; same = gave.same }

-- what was given of each call was played
pub played : (config : SsfConfig) (calls : BTreeMap ℕ View) (given : List (ℕ × Body)) → HaveGiven config calls given → (call : ℕ) → IsPlayed config call given
played config calls given are call = played_by config call given (get nat_cmp calls call) (are.gave call)

-- ---- a call starts

begun_already : (items : List (ℕ × Body)) (item : ℕ × Body) → (items ≡ [] → ⊥) → unless_begun items item ≡ []
begun_already [] item some = absurd (some refl)
begun_already (first ∷ items) item some = refl

starts_not_by : (config : SsfConfig) (found : Option View) (given : List (ℕ × Body)) (call : ℕ) (item : ℕ × Body) → HasGivenOf config given call found → is_some found ≡ true
    → Starts given given call item
starts_not_by config None given call item gave has = cc
starts_not_by config (Some view) given call item gave has = rw (begun_already (items_of call given) item gave.some) (sym (append-nil given))

-- a call that has a gsmSSF has started already
pub starts_not : (config : SsfConfig) (calls : BTreeMap ℕ View) (given : List (ℕ × Body)) (call : ℕ) (item : ℕ × Body) → HaveGiven config calls given → is_some (get nat_cmp calls call) ≡ true
    → Starts given given call item
starts_not config calls given call item are has = starts_not_by config (get nat_cmp calls call) given call item (are.gave call) has

gave_begun : (config : SsfConfig) (now call : ℕ) (calling called : Number) (given : List (ℕ × Body)) (view : View) (sent : List Out) → items_of call given ≡ []
    → IsTriggered config now call calling called view sent → HasGiven config call (given ++ posts_of call sent) view
gave_begun config now call calling called given view sent none begun =
    let own : items_of call (given ++ posts_of call sent) ≡ posts_of call sent = items_of-own call given sent ∙ rw none refl in
    record {
      same_config = begun.same_config;
      trace = begun.trace;
      stands = begun.stands;
      same = own ∙ sym (ap (posts_of call) begun.sends);
      some = λ empty. let posted = rw begun.initial at (sym own ∙ empty) in cc posted;
    }

started_by : (here : Bool) (config : SsfConfig) (before after : BTreeMap ℕ View) (now call other : ℕ) (calling called : Number) (given : List (ℕ × Body)) (view : View) (sent : List Out)
    → (call == other) ≡ here → HaveGiven config before given → items_of call given ≡ [] → Updates nat_cmp before after call (Some view) → IsTriggered config now call calling called view sent
    → HasGivenOf config (given ++ posts_of call sent) other (get nat_cmp after other)
started_by true config before after now call other calling called given view sent is are none updates begun =
    let P : ℕ → Type 0 = λ c. HasGivenOf config (given ++ posts_of call sent) c (get nat_cmp after c) in
    subst P (eqb-true call other is) (rw updates.1 (gave_begun config now call calling called given view sent none begun))
started_by false config before after now call other calling called given view sent is are none updates begun =
    rw (updates.2 other (apart_at call other is))
    (gave_same config other given (given ++ posts_of call sent) (get nat_cmp before other) (items_of-other call other given sent is) (are.gave other))

sent_by_now : (now call : ℕ) (calling called : Number) (sent : List Out) → now ≤ 2000000000000 → sent ≡ record { at = now; item = item.Msg (message.InitialDp call calling called) } ∷ []
    → All (λ (out : Out). out.at ≤ 2000000000000) sent
sent_by_now now call calling called sent order is =
    All-same (λ (out : Out). out.at ≤ 2000000000000) sent (record { at = now; item = item.Msg (message.InitialDp call calling called) } ∷ []) is
    (All-cons (λ (out : Out). out.at ≤ 2000000000000) (record { at = now; item = item.Msg (message.InitialDp call calling called) }) [] order
    (All-nil (λ (out : Out). out.at ≤ 2000000000000)))

none_yet : (config : SsfConfig) (given : List (ℕ × Body)) (call : ℕ) (found : Option View) → HasGivenOf config given call found → is_some found ≡ false → items_of call given ≡ []
none_yet config given call None gave without = gave
none_yet config given call (Some view) gave without = cc

-- a call without a gsmSSF gets one
pub gave_started : (config : SsfConfig) (before after : BTreeMap ℕ View) (now call : ℕ) (calling called : Number) (given : List (ℕ × Body)) (view : View) (sent : List Out) → now ≤ 2000000000000
    → HaveGiven config before given → is_some (get nat_cmp before call) ≡ false → Updates nat_cmp before after call (Some view) → IsTriggered config now call calling called view sent
    → HaveGiven config after (given ++ posts_of call sent)
gave_started config before after now call calling called given view sent order are without updates begun =
    let none : items_of call given ≡ [] = none_yet config given call (get nat_cmp before call) (are.gave call) without in
    record {
      gave = λ other. started_by _ config before after now call other calling called given view sent refl are none updates begun;
      in_range =
          All-append (λ (item : ℕ × Body). item.0 ≤ 2000000000000) given (posts_of call sent) are.in_range
          (posts_in_range call sent (sent_by_now now call calling called sent order begun.initial));
    }
