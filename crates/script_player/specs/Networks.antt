-- The gsmSSFs of a run beside what was given of them.
use Rattle.std.specs.Prelude.{◌≡◌, ◌++◌, ◌≤◌, ℕ, Bool, Some, List, [], All, MatchOption}
use Rattle.std.specs.BTreeMap.{BTreeMap, Updates, get}
use Rattle.std.specs.Ordering.{nat_cmp}
use Rattle.ssf_core.specs.Calls.{Stands, View}
use Rattle.ssf_core.specs.Happenings.{Happening, sent_in}
use Rattle.ssf_core.specs.declared.config.SsfConfig.{SsfConfig}
use Rattle.ssf_core.specs.declared.item.Out.{Out}
use Rattle.run_values.specs.declared.post.Body.{Body}
use Rattle.script_player.specs.Inputs.{IsGiven, IsNextTimer}
use Rattle.script_player.specs.Posts.{items_of, posts_of, recharges_in}
use Rattle.script_player.specs.declared.network.Sent.{Sent}
use Rattle.script_player.specs.declared.network.Input.{Input}
use Rattle.price_core.specs.declared.times.TheConstants.{HORIZON}

-- what a network shows: the configuration of its gsmSSFs, the gsmSSF of each call that has started, all that was given, and whether memory never ran out while a moment was put down
pub record Shown : Type 0 where
  pub config : SsfConfig
  pub ssfs : List (ℕ × View)
  pub given : List (ℕ × Body)
  pub whole : Bool

-- the gsmSSF of a call stands for a trace whose messages are the items of the call, of which there are some
pub record HasGiven (config : SsfConfig) (call : ℕ) (given : List (ℕ × Body)) (view : View) : Type 0 where
  pub same_config : view.config ≡ config
  pub trace : List Happening
  pub stands : Stands view trace
  pub same : items_of call given ≡ posts_of call (sent_in trace)
  pub some : items_of call given ≡ [] → ⊥

-- what was given of each gsmSSF; a call without one has no items
pub record HaveGiven (config : SsfConfig) (calls : BTreeMap ℕ View) (given : List (ℕ × Body)) : Type 0 where
  pub gave : (call : ℕ) → MatchOption (get nat_cmp calls call) (items_of call given ≡ []) (HasGiven config call given)
  pub in_range : All (λ item. item.0 ≤ HORIZON) given

-- from a trace that it stands for, a gsmSSF goes on and sends this
pub record SendsFrom (after : View) (trace : List Happening) (sent : List Out) : Type 0 where
  pub further : List Happening
  pub stands : Stands after further
  pub sends : sent_in further ≡ sent_in trace ++ sent
  pub in_range : All (λ out. out.at ≤ HORIZON) sent

-- a gsmSSF goes on and sends this
pub record SsfGoesOn (before after : View) (sent : List Out) : Type 0 where
  pub same_config : after.config ≡ before.config
  pub from : (trace : List Happening) → Stands before trace → SendsFrom after trace sent

-- the gsmSSF of a call goes on and sends this, and the others stay
pub record MovesSsf (before after : BTreeMap ℕ View) (call : ℕ) (sent : List Out) : Type 0 where
  pub old : View
  pub new : View
  pub was : get nat_cmp before call ≡ Some old
  pub updates : Updates nat_cmp before after call (Some new)
  pub goes_on : SsfGoesOn old new sent

-- the gsmSSF of a call is given an input, which it refuses by this fault or takes, and its next timer was due then, and is due then
pub record Feeds (before after : BTreeMap ℕ View) (now call : ℕ) (input : Input) (fed : Sent) : Type 0 where
  pub moves : MovesSsf before after call fed.sent.items
  pub is_given : IsGiven moves.old moves.new now input fed.sent.items
  pub refused : fed.fault ≡ is_given.fault
  pub was_next : IsNextTimer moves.old fed.before
  pub is_next : IsNextTimer moves.new fed.after

-- what was given stays and grows; no recharge is added, and no call begins
pub record Grows (before after : Shown) : Type 0 where
  pub same_config : after.config ≡ before.config
  pub added : List (ℕ × Body)
  pub grown : after.given ≡ before.given ++ added
  pub same_recharges : recharges_in after.given ≡ recharges_in before.given
  pub none_begins : (call : ℕ) → items_of call before.given ≡ [] → items_of call after.given ≡ []
