-- What each step of a run does to the gsmSSFs and to what was given.
use Rattle.std.specs.Prelude.{◌≡◌, ◌==◌, ◌++◌, ◌<◌, ◌≤◌, ℕ, false, Option, Some, List, [], ◌∷◌, All, MatchOption}
use Rattle.std.specs.Option.{ForSome}
use Rattle.std.specs.List.Sorted.{IsStrictlySortedBy}
use Rattle.std.specs.Ordering.{nat_cmp}
use Rattle.cap_values.specs.declared.number.Number.{Number}
use Rattle.run_texts.specs.declared.script.Happening.{Happening}
use Rattle.run_texts.specs.declared.script.Happening.TheVariants as happening
use Rattle.run_texts.specs.declared.script.ScriptRow.{ScriptRow}
use Rattle.ssf_core.specs.Calls.{View}
use Rattle.ssf_core.specs.declared.item.Out.{Out}
use Rattle.run_values.specs.declared.post.Body.TheVariants as body
use Rattle.script_player.specs.Beginnings.{IsTriggered}
use Rattle.script_player.specs.Chains.{Chain}
use Rattle.ssf_core.specs.Deliveries.{next_delivery}
use Rattle.script_player.specs.Dues.{AreDueBy, HasTimer, ssf_of}
use Rattle.script_player.specs.Inputs.{IsGiven}
use Rattle.script_player.specs.Networks.{Shown}
use Rattle.script_player.specs.Posts.{posts_of}
use Rattle.script_player.specs.Rows.{next_row}
use Rattle.ssf_core.specs.declared.deliveries.Delivery.{Delivery}
use Rattle.script_player.specs.declared.network.Input.{Input}
use Rattle.script_player.specs.declared.network.Input.TheVariants as input

-- the gsmSSF of a call is now this one; the others stay
pub record Sets (before after : List (ℕ × View)) (call : ℕ) (view : View) : Type 0 where
  pub own : ssf_of after call ≡ Some view
  pub others : (other : ℕ) → (call == other) ≡ false → ssf_of after other ≡ ssf_of before other

-- the gsmSSF of a call sends this and becomes another; its messages are given, and nothing else changes
pub record SendsItems (before after : Shown) (call : ℕ) (view : View) (sent : List Out) : Type 0 where
  pub sets : Sets before.ssfs after.ssfs call view
  pub posts : after.given ≡ before.given ++ posts_of call sent
  pub same_config : after.config ≡ before.config
  pub same_whole : after.whole ≡ before.whole

-- the gsmSSF of a call is given an input
pub record FeedsSsf (before after : Shown) (now call : ℕ) (input : Input) (old : View) : Type 0 where
  pub new : View
  pub sent : List Out
  pub is_given : IsGiven old new now input sent
  pub sends : SendsItems before after call new sent

-- the same, where the call has one; else nothing happens
abbrev pub GivesTo : ℕ → ℕ → Input → Shown → Shown → Type 0
GivesTo now call input before after = MatchOption (ssf_of before.ssfs call) (after ≡ before) (FeedsSsf before after now call input)

-- a call gets a gsmSSF, which is invoked and triggered
pub record GetsSsf (before after : Shown) (now call : ℕ) (calling called : Number) : Type 0 where
  pub view : View
  pub sent : List Out
  pub begun : IsTriggered before.config now call calling called view sent
  pub sends : SendsItems before after call view sent

-- a call starts, where it hasn't started; else nothing happens
abbrev pub StartsCall : ℕ → ℕ → Number → Number → Shown → Shown → Type 0
StartsCall now call calling called before after =
    MatchOption (ssf_of before.ssfs call) (GetsSsf before after now call calling called) (λ _. after ≡ before)

-- a recharge of an account is given, and nothing else changes
abbrev pub Recharges : ℕ → ℕ → ℕ → Option ℕ → Shown → Shown → Type 0
Recharges now account amount until before after =
    after ≡ record { config = before.config; ssfs = before.ssfs; given = before.given ++ (now, body.Recharge account amount until) ∷ []; whole = before.whole }

-- ---- deliveries

-- an operation is delivered to its call
abbrev pub Delivers : ℕ → Shown → Delivery → Shown → Type 0
Delivers now before delivery after = GivesTo now delivery.call (input.Operate delivery.op) before after

-- the first deliveries that wait are delivered, in order, until one isn't due by now
pub record DeliversDue (now : ℕ) (before after : Shown) (waiting left : List Delivery) : Type 0 where
  pub delivered : List Delivery
  pub split : waiting ≡ delivered ++ left
  pub due : All (λ delivery. delivery.at ≤ now) delivered
  pub later : ForSome (next_delivery left) (λ at. now < at)
  pub delivers : Chain (Delivers now) before delivered after

-- ---- rows

-- what a row says happens at a moment: a call starts, it meets an event, or an account is recharged
abbrev pub HappensAt : ℕ → Happening → Shown → Shown → Type 0
HappensAt at (happening.Start call calling called) before after = StartsCall at call calling called before after
HappensAt at (happening.Meets call event) before after = GivesTo at call (input.Meet event) before after
HappensAt at (happening.Recharge account amount until) before after = Recharges at account amount until before after

-- a row happens at its moment
abbrev pub PlaysRow : Shown → ScriptRow → Shown → Type 0
PlaysRow before row after = HappensAt row.at row.what before after

-- the first rows that wait are played, in order, until one lies after now
pub record PlaysDue (now : ℕ) (before after : Shown) (waiting left : List ScriptRow) : Type 0 where
  pub played : List ScriptRow
  pub split : waiting ≡ played ++ left
  pub due : All (λ row. row.at ≤ now) played
  pub later : ForSome (next_row left) (λ at. now < at)
  pub plays : Chain PlaysRow before played after

-- ---- timers

-- time passes for the gsmSSF of a call
abbrev pub Waits : ℕ → Shown → ℕ → Shown → Type 0
Waits now before call after = GivesTo now call input.Wait before after

-- the timers run of each gsmSSF that has one due by now, in ascending order of the calls, and then none is left due
pub record RunsTimers (now : ℕ) (before after : Shown) : Type 0 where
  pub calls : List ℕ
  pub ascending : IsStrictlySortedBy nat_cmp calls
  pub due : AreDueBy before.ssfs now calls
  pub waits : Chain (Waits now) before calls after
  pub later : (call at : ℕ) → HasTimer after.ssfs call at → now < at
