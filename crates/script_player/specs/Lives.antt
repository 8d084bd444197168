-- What is given in a run, one after the other, and what the trace of a call becomes by it.
use Rattle.std.specs.Prelude.{◌≡◌, ◌==◌, ◌<◌, ◌≤◌, ℕ, Option, Some, None, List, []}
use Rattle.std.specs.Bool.{MatchBool}
use Rattle.cap_values.specs.declared.number.Number.{Number}
use Rattle.run_texts.specs.declared.script.Happening.{Happening as RowHappening}
use Rattle.run_texts.specs.declared.script.Happening.TheVariants as happening
use Rattle.run_texts.specs.declared.script.ScriptRow.{ScriptRow}
use Rattle.ssf_core.specs.Calls.{RunsUntil, with_input}
use Rattle.ssf_core.specs.Happenings.{Happening, sent_in}
use Rattle.ssf_core.specs.Inputs.{meets, operates}
use Rattle.ssf_core.specs.Rules.{on_input}
use Rattle.ssf_core.specs.Traces.{phase_after}
use Rattle.ssf_core.specs.declared.config.SsfConfig.{SsfConfig}
use Rattle.ssf_core.specs.declared.item.Out.{Out}
use Rattle.run_values.specs.declared.post.Body.{Body}
use Rattle.script_player.specs.Beginnings.{begun_trace}
use Rattle.script_player.specs.Chains.{Chain}
use Rattle.script_player.specs.Networks.{Shown}
use Rattle.script_player.specs.Posts.{items_of, posts_of}
use Rattle.script_player.specs.Steps.{GivesTo, Recharges, StartsCall}
use Rattle.ssf_core.specs.declared.deliveries.Delivery.{Delivery}
use Rattle.script_player.specs.declared.network.Input.{Input}
use Rattle.script_player.specs.declared.network.Input.TheVariants as input

-- what is given: a call starts, the gsmSSF of a call gets an input, or an account is recharged
pub data Deed : Type 0 where
  Starting : ℕ → Number → Number → Deed
  Giving : ℕ → Input → Deed
  Recharging : ℕ → ℕ → Option ℕ → Deed

-- what a deed at a moment does to the gsmSSFs and to what was given
abbrev pub Does : ℕ → Deed → Shown → Shown → Type 0
Does at (Starting call calling called) before after = StartsCall at call calling called before after
Does at (Giving call input) before after = GivesTo at call input before after
Does at (Recharging account amount until) before after = Recharges at account amount until before after

-- what a player does at a moment, as a deed says
abbrev pub DoesDeed : Shown → ℕ × Deed → Shown → Type 0
DoesDeed before deed after = Does deed.0 deed.1 before after

-- ---- the deeds of a round

-- an operation is delivered at a moment
abbrev pub delivery_deed : ℕ → Delivery → ℕ × Deed
delivery_deed now delivery = (now, Giving delivery.call (input.Operate delivery.op))

-- the deed of what happens in a row
abbrev pub happening_deed : RowHappening → Deed
happening_deed (happening.Start call calling called) = Starting call calling called
happening_deed (happening.Meets call event) = Giving call (input.Meet event)
happening_deed (happening.Recharge account amount until) = Recharging account amount until

-- a row is played at its moment
abbrev pub row_deed : ScriptRow → ℕ × Deed
row_deed row = (row.at, happening_deed row.what)

-- time passes for a call
abbrev pub wait_deed : ℕ → ℕ → ℕ × Deed
wait_deed now call = (now, Giving call input.Wait)

-- ---- the life of a call

-- the latest moment that a gsmSSF took, and its trace
pub record Life : Type 0 where
  pub last : ℕ
  pub trace : List Happening

-- a trace whose timers have run, once an input is taken or refused
abbrev pub taken_or_refused : SsfConfig → ℕ → Input → List Happening → List Happening
taken_or_refused config now (input.Operate op) timed = with_input now (operates op) timed (on_input timed (phase_after config timed) now (operates op))
taken_or_refused config now (input.Meet event) timed = with_input now (meets event) timed (on_input timed (phase_after config timed) now (meets event))
taken_or_refused config now input.Wait timed = timed

-- a life goes on by an input: the timers run until its moment, and it is taken or refused as the rules say; for a moment before its last one nothing happens
pub record LivesOn (config : SsfConfig) (now : ℕ) (input : Input) (before after : Life) : Type 0 where
  pub backwards : now < before.last → after ≡ before
  pub moment : before.last ≤ now → after.last ≡ now
  pub trace : before.last ≤ now → (timed : List Happening) × (RunsUntil config now before.trace timed × (after.trace ≡ taken_or_refused config now input timed))

-- a deed, as the gsmSSF of a call meets it: the first start begins its life, an input of its own carries it on, and nothing else does anything to it
abbrev pub Befalls : SsfConfig → ℕ → Option Life → ℕ → Deed → Option Life → Type 0
Befalls config call None at (Starting other calling called) after =
    MatchBool (other == call) (after ≡ Some (record { last = at; trace = begun_trace at call calling called })) (after ≡ None)
Befalls config call None at deed after = after ≡ None
Befalls config call (Some life) at (Giving other input) after =
    MatchBool (other == call) ((next : Life) × ((after ≡ Some next) × LivesOn config at input life next)) (after ≡ Some life)
Befalls config call (Some life) at deed after = after ≡ Some life

-- what a deed at a moment is for one call
abbrev pub BefallsDeed : SsfConfig → ℕ → Option Life → ℕ × Deed → Option Life → Type 0
BefallsDeed config call before deed after = Befalls config call before deed.0 deed.1 after

-- all that was sent in a life
abbrev pub sent_in_life : Option Life → List Out
sent_in_life None = []
sent_in_life (Some life) = sent_in life.trace

-- what was given of a call is what its gsmSSF has sent in the life that these deeds have made
pub record HasLived (config : SsfConfig) (deeds : List (ℕ × Deed)) (call : ℕ) (given : List (ℕ × Body)) : Type 0 where
  pub life : Option Life
  pub lived : Chain (BefallsDeed config call) None deeds life
  pub same : items_of call given ≡ posts_of call (sent_in_life life)
