-- What an input does to the gsmSSFs of a run.
use Rattle.std.proofs.Common.{◌≡◌, ◌<◌, ◌++◌, ℕ, Bool, true, false, Option, Some, None, List, refl, sym, ap, ◌∙◌, subst}
use Rattle.std.specs.BTreeMap.{BTreeMap, Updates, get}
use Rattle.std.specs.BTreeSet.{BTreeSet}
use Rattle.std.specs.Ordering.{nat_cmp}
use Rattle.std.specs.Prelude.{MatchOption, is_some}
use Rattle.cap_values.specs.declared.number.Number.{Number}
use Rattle.ssf_core.specs.Calls.{View}
use Rattle.ssf_core.specs.declared.config.SsfConfig.{SsfConfig}
use Rattle.ssf_core.specs.declared.fault.SsfFault.{SsfFault}
use Rattle.ssf_core.specs.declared.item.Out.{Out}
use Rattle.run_values.specs.declared.post.Body.{Body}
use Rattle.script_player.specs.Beginnings.{IsTriggered}
use Rattle.script_player.specs.Dues.{AreDues, HasTimer, IsPutDown, Replaces, ssf_of}
use Rattle.script_player.specs.Inputs.{IsGiven, IsNextTimer}
use Rattle.script_player.specs.Networks.{HaveGiven, Feeds, HasGiven, Shown}
use Rattle.script_player.specs.Posts.{posts_of}
use Rattle.script_player.specs.Steps.{FeedsSsf, GetsSsf, StartsCall}
use Rattle.script_player.specs.Unplaced.{GivesWithFault, fault_of_feed}
use Rattle.script_player.specs.declared.network.Sent.{Sent}
use Rattle.script_player.specs.declared.network.Input.{Input}
use Rattle.script_player.specs.declared.network.Input.TheVariants as what
use Rattle.script_player.proofs.InputLemmas.{same_next, waited_next}
use Rattle.script_player.proofs.DueMoments.{dues_on, put_down, sets_by, timer_of}

-- what a network of these shows
abbrev pub shown : SsfConfig → BTreeMap ℕ View → List (ℕ × Body) → Bool → Shown
shown config calls given whole = record { config = config; ssfs = calls.entries; given = given; whole = whole }

gave_of : (config : SsfConfig) (before after : BTreeMap ℕ View) (now call : ℕ) (given : List (ℕ × Body)) (input : Input) (fed : Sent) → HaveGiven config before given
    → (feeds : Feeds before after now call input fed) → HasGiven config call given feeds.moves.old
gave_of config before after now call given input fed are feeds = rw feeds.moves.was at (are.gave call)

-- the moments go on with a gsmSSF that is given an input
pub dues_fed : (config : SsfConfig) (before after : BTreeMap ℕ View) (dues kept : BTreeSet (ℕ × ℕ)) (now call : ℕ) (given : List (ℕ × Body)) (input : Input) (fed : Sent)
    → HaveGiven config before given → AreDues before.entries dues → Feeds before after now call input fed
    → (IsPutDown dues call fed.before → Replaces dues kept call fed.before fed.after) → AreDues after.entries kept
dues_fed config before after dues kept now call given input fed gave are feeds replaces =
    let own : HasGiven config call given feeds.moves.old = gave_of config before after now call given input fed gave feeds in
    let further = feeds.moves.goes_on.from own.trace own.stands in
    dues_on before.entries after.entries dues kept call fed.before fed.after feeds.moves.new further.further are
    (replaces (put_down before.entries dues call feeds.moves.old fed.before are feeds.moves.was feeds.was_next)) (sets_by before after call feeds.moves.new feeds.moves.updates) feeds.is_next further.stands
    (λ at timer. same_next feeds.moves.old own.trace fed.before (Some at) own.stands feeds.was_next (timer_of before.entries call at feeds.moves.old feeds.moves.was timer))

-- the fault is that of the gsmSSF that is found
with_fault : (found : Option View) (now call : ℕ) (input : Input) (before after : Shown) → ssf_of before.ssfs call ≡ found
    → (gives : MatchOption found (after ≡ before) (FeedsSsf before after now call input)) → GivesWithFault now call input before after (fault_of_feed found now call input before after gives)
with_fault found now call input before after is =
    let P : Option View → Type 0 = λ f. (gives : MatchOption f (after ≡ before) (FeedsSsf before after now call input)) → GivesWithFault now call input before after (fault_of_feed f now call input before after gives) in
    subst P is (λ gives. record { gives = gives; refused = refl })

-- it is given the input, and its messages are posted
pub gives_fed : (before after : Shown) (calls now_calls : BTreeMap ℕ View) (now call : ℕ) (input : Input) (fed : Sent) → before.ssfs ≡ calls.entries → after.ssfs ≡ now_calls.entries
    → Feeds calls now_calls now call input fed → after.given ≡ before.given ++ posts_of call fed.sent.items → after.config ≡ before.config → after.whole ≡ before.whole
    → GivesWithFault now call input before after fed.fault
gives_fed before after calls now_calls now call input fed was is feeds posts config whole =
    let P : Option SsfFault → Type 0 = λ fault. GivesWithFault now call input before after fault in
    let own : FeedsSsf before after now call input feeds.moves.old = record {
      new = feeds.moves.new;
      sent = fed.sent.items;
      is_given = feeds.is_given;
      sends = record { sets = rw (was, is) (sets_by calls now_calls call feeds.moves.new feeds.moves.updates); posts = posts; same_config = config; same_whole = whole };
    } in
    subst P (sym feeds.refused) (with_fault (Some feeds.moves.old) now call input before after (ap (λ (ssfs : List (ℕ × View)). ssf_of ssfs call) was ∙ feeds.moves.was) own)

-- where time has passed for a call, no timer of it is left due
pub waited : (config : SsfConfig) (before after : BTreeMap ℕ View) (now call at : ℕ) (given : List (ℕ × Body)) (input : Input) (fed : Sent) → HaveGiven config before given
    → Feeds before after now call input fed → input ≡ what.Wait → HasTimer after.entries call at → now < at
waited config before after now call at given input fed gave feeds wait timer =
    let own : HasGiven config call given feeds.moves.old = gave_of config before after now call given input fed gave feeds in
    let P : Input → Type 0 = λ i. IsGiven feeds.moves.old feeds.moves.new now i fed.sent.items in
    waited_next feeds.moves.old feeds.moves.new now at own.trace fed.sent.items own.stands (subst P wait feeds.is_given)
    (timer_of after.entries call at feeds.moves.new feeds.moves.updates.1 timer)

pub no_timer : (calls : BTreeMap ℕ View) (call at : ℕ) → get nat_cmp calls call ≡ None → HasTimer calls.entries call at → ⊥
no_timer calls call at absent timer = let is = timer.is in absurd (cc (absent, is))

-- ---- a call starts

without : (found : Option View) → is_some found ≡ false → found ≡ None
without None none = refl
without (Some view) none = cc

-- the moments go on with a gsmSSF that is new
pub dues_begun : (before after : BTreeMap ℕ View) (dues kept : BTreeSet (ℕ × ℕ)) (config : SsfConfig) (now call : ℕ) (calling called : Number) (view : View) (sent : List Out) (next : Option ℕ)
    → AreDues before.entries dues → is_some (get nat_cmp before call) ≡ false → Updates nat_cmp before after call (Some view) → IsTriggered config now call calling called view sent
    → IsNextTimer view next → (IsPutDown dues call None → Replaces dues kept call None next) → AreDues after.entries kept
dues_begun before after dues kept config now call calling called view sent next are none updates begun is_next replaces =
    dues_on before.entries after.entries dues kept call None next view begun.trace are (replaces tt) (sets_by before after call view updates) is_next begun.stands
    (λ at timer. absurd (no_timer before call at (without (get nat_cmp before call) none) timer))

pub starts_new : (before after : Shown) (calls now_calls : BTreeMap ℕ View) (now call : ℕ) (calling called : Number) (view : View) (sent : List Out) → before.ssfs ≡ calls.entries
    → after.ssfs ≡ now_calls.entries → is_some (get nat_cmp calls call) ≡ false → Updates nat_cmp calls now_calls call (Some view) → IsTriggered before.config now call calling called view sent
    → after.given ≡ before.given ++ posts_of call sent → after.config ≡ before.config → after.whole ≡ before.whole → StartsCall now call calling called before after
starts_new before after calls now_calls now call calling called view sent was is none updates begun posts config whole =
    rw (was, without (get nat_cmp calls call) none) (record {
      view = view;
      sent = sent;
      begun = begun;
      sends = record { sets = rw is (sets_by calls now_calls call view updates); posts = posts; same_config = config; same_whole = whole };
    })

starts_not_by : (found : Option View) (before : Shown) (now call : ℕ) (calling called : Number) → is_some found ≡ true
    → MatchOption found (GetsSsf before before now call calling called) (λ _. before ≡ before)
starts_not_by None before now call calling called has = cc
starts_not_by (Some view) before now call calling called has = refl

-- a call that has started doesn't start again
pub starts_not : (before : Shown) (calls : BTreeMap ℕ View) (now call : ℕ) (calling called : Number) → before.ssfs ≡ calls.entries → is_some (get nat_cmp calls call) ≡ true
    → StartsCall now call calling called before before
starts_not before calls now call calling called was has =
    let P : List (ℕ × View) → Type 0 = λ ssfs. MatchOption (ssf_of ssfs call) (GetsSsf before before now call calling called) (λ _. before ≡ before) in
    subst P (sym was) (starts_not_by (get nat_cmp calls call) before now call calling called has)
