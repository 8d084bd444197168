-- A gsmSSF has one way to go on, and a play goes one way: what it gives is known by its rows and by what it hears.
use Rattle.std.specs.Prelude.{◌≡◌, ℕ, List, map}
use Rattle.cap_values.specs.Orders.{Order, orders_in}
use Rattle.run_texts.specs.declared.script.ScriptRow.{ScriptRow}
use Rattle.run_values.specs.declared.post.Answer.{Answer}
use Rattle.script_player.specs.Plays.{Play}
use Rattle.script_player.specs.Runs.{HasHeard}
use Rattle.ssf_core.specs.Calls.{RunsUntil}
use Rattle.ssf_core.specs.Happenings.{Happening}
use Rattle.ssf_core.specs.declared.config.SsfConfig.{SsfConfig}

-- ---- the timers of a gsmSSF

-- from a trace the timers run up to a moment in one way: two traces to which they have run from it are the same
abbrev pub TimersRunOneWay : Type 0
TimersRunOneWay =
    (config : SsfConfig) (now : ℕ) (trace timed other : List Happening) → RunsUntil config now trace timed → RunsUntil config now trace other → timed ≡ other

-- ---- plays

-- what a play hears of an answer: the number of its item, and what its operations say
abbrev pub order_heard : Answer → ℕ × List Order
order_heard answer = (answer.number, orders_in answer.instructions)

-- the same of all answers, round by round
abbrev pub orders_heard : List (List Answer) → List (List (ℕ × List Order))
orders_heard heard = map (λ answers. map order_heard answers) heard

-- two plays have given the same, in the same order, wait for the same, have ended or not, and the same rows had no place in them
pub record HaveDoneAlike (one other : Play) : Type 0 where
  pub given : one.network.given ≡ other.network.given
  pub queue : one.queue ≡ other.queue
  pub left : one.left ≡ other.left
  pub ended : one.ended ≡ other.ended
  pub unplaced : one.unplaced ≡ other.unplaced

-- so it is of two plays of the same rows that hear the same, round by round
abbrev pub PlaysGoOneWay : Type 0
PlaysGoOneWay =
    (config : SsfConfig) (delay : ℕ) (rows : List ScriptRow) (heard others : List (List Answer)) (one other : Play) → orders_heard heard ≡ orders_heard others
    → HasHeard config delay rows heard one → HasHeard config delay rows others other → HaveDoneAlike one other
