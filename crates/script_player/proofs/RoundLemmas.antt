-- A round, and the run that it carries on.
use Rattle.std.proofs.Common.{◌≡◌, ◌++◌, ℕ, Bool, true, false, Option, Some, None, List, [], ◌∷◌, drop, refl, sym, ◌∙◌, subst}
use Rattle.std.specs.Prelude.{◌≤◌, All, MatchOption}
use Rattle.cap_values.specs.declared.number.Number.{Number}
use Rattle.run_texts.specs.declared.script.Happening.{Happening}
use Rattle.run_texts.specs.declared.script.Happening.TheVariants as happening
use Rattle.run_texts.specs.declared.script.ScriptRow.{ScriptRow}
use Rattle.ssf_core.specs.Calls.{View}
use Rattle.ssf_core.specs.declared.config.SsfConfig.{SsfConfig}
use Rattle.run_values.specs.declared.post.Answer.{Answer}
use Rattle.script_player.specs.Chains.{Chain}
use Rattle.ssf_core.specs.Deliveries.{next_delivery}
use Rattle.script_player.specs.Deliveries.{deliveries_of}
use Rattle.script_player.specs.Dues.{IsFirstDue, ssf_of}
use Rattle.ssf_core.specs.Moments.{in_reach, sooner}
use Rattle.script_player.specs.Networks.{Shown}
use Rattle.script_player.specs.Plays.{Play, play_at}
use Rattle.script_player.specs.Rounds.{IsEnd, IsRound, IsTurn, next_moment_of}
use Rattle.script_player.specs.Rows.{next_row}
use Rattle.script_player.specs.Runs.{HasHeard, Hears, IsReached, fresh_play}
use Rattle.script_player.specs.Steps.{Delivers, DeliversDue, GetsSsf, FeedsSsf, HappensAt, PlaysRow, RunsTimers, Waits}
use Rattle.script_player.specs.Unplaced.{PlaysDueWithout}
use Rattle.ssf_core.specs.declared.deliveries.Delivery.{Delivery}
use Rattle.script_player.specs.declared.network.Input.{Input}
use Rattle.script_player.specs.declared.network.Input.TheVariants as what
use Rattle.script_player.proofs.ChainLemmas.{chain_more}
use Rattle.script_player.proofs.EndLemmas.{delivery_past, none_left, timer_past}

-- ---- a network stays whole

gives_whole : (found : Option View) (now call : ℕ) (input : Input) (before after : Shown) → MatchOption found (after ≡ before) (FeedsSsf before after now call input) → after.whole ≡ before.whole
gives_whole None now call input before after gives = rw gives refl
gives_whole (Some view) now call input before after gives = gives.sends.same_whole

starts_whole : (found : Option View) (now call : ℕ) (calling called : Number) (before after : Shown)
    → MatchOption found (GetsSsf before after now call calling called) (λ _. after ≡ before) → after.whole ≡ before.whole
starts_whole None now call calling called before after starts = starts.sends.same_whole
starts_whole (Some view) now call calling called before after starts = rw starts refl

happens_whole : (at : ℕ) (what : Happening) (before after : Shown) → HappensAt at what before after → after.whole ≡ before.whole
happens_whole at (happening.Start call calling called) before after happens = starts_whole (ssf_of before.ssfs call) at call calling called before after happens
happens_whole at (happening.Meets call event) before after happens = gives_whole (ssf_of before.ssfs call) at call (what.Meet event) before after happens
happens_whole at (happening.Recharge account amount until) before after happens = rw happens refl

delivers_whole : (now : ℕ) (before after : Shown) (deliveries : List Delivery) → Chain (Delivers now) before deliveries after → after.whole ≡ before.whole
delivers_whole now before after [] chain = rw chain refl
delivers_whole now before after (delivery ∷ deliveries) chain =
    delivers_whole now chain.0 after deliveries chain.1.1
    ∙ gives_whole (ssf_of before.ssfs delivery.call) now delivery.call (what.Operate delivery.op) before chain.0 chain.1.0

plays_whole : (before after : Shown) (rows : List ScriptRow) → Chain PlaysRow before rows after → after.whole ≡ before.whole
plays_whole before after [] chain = rw chain refl
plays_whole before after (row ∷ rows) chain = plays_whole chain.0 after rows chain.1.1 ∙ happens_whole row.at row.what before chain.0 chain.1.0

waits_whole : (now : ℕ) (before after : Shown) (calls : List ℕ) → Chain (Waits now) before calls after → after.whole ≡ before.whole
waits_whole now before after [] chain = rw chain refl
waits_whole now before after (call ∷ calls) chain =
    waits_whole now chain.0 after calls chain.1.1 ∙ gives_whole (ssf_of before.ssfs call) now call what.Wait before chain.0 chain.1.0

turn_whole : (more : Bool) (before after : Play) (answers : List Answer) → IsTurn more before after answers → after.network.whole ≡ before.network.whole
turn_whole true before after answers turn =
    waits_whole turn.now turn.played after.network turn.runs.calls turn.runs.waits ∙ plays_whole turn.delivered turn.played turn.plays.played turn.plays.plays
    ∙ delivers_whole turn.now before.network turn.delivered turn.delivers.delivered turn.delivers.delivers
turn_whole false before after answers turn = rw turn.same_network refl

heard_whole : (before after : Play) (heard : List (List Answer)) → Chain Hears before heard after → after.network.whole ≡ before.network.whole
heard_whole before after [] chain = rw chain refl
heard_whole before after (answers ∷ heard) chain = heard_whole chain.0 after heard chain.1.1 ∙ turn_whole chain.1.0.more before chain.0 answers chain.1.0.turn

pub reached_whole : (config : SsfConfig) (delay : ℕ) (rows : List ScriptRow) (play : Play) → IsReached config delay rows play → play.network.whole ≡ true
reached_whole config delay rows play reached = heard_whole (fresh_play config delay rows) play reached.heard reached.has_heard

-- ---- a round

-- a round of a player, of what its parts did
pub round_is : (network delivered played after : Shown) (queue left : List Delivery) (delay : ℕ) (rows : List ScriptRow) (taken next : ℕ) (ended : Bool) (earlier all : List ScriptRow) (answers : List Answer) (due : Option ℕ)
    (now : ℕ)
    → ended ≡ false → network.whole ≡ true → (network.whole ≡ true → IsFirstDue network.ssfs due) → next_moment_of (play_at network queue delay rows taken ended earlier) answers due ≡ Some now
    → DeliversDue now network delivered (queue ++ deliveries_of delay network.given answers) left
    → PlaysDueWithout now delivered played (drop taken rows) (drop next rows) earlier all
    → (played.whole ≡ true → RunsTimers now played after) → IsRound (play_at network queue delay rows taken ended earlier) (play_at after left delay rows next ended all) answers
round_is network delivered played after queue left delay rows taken next ended earlier all answers due now running whole first at delivers plays runs = record {
  due = due;
  first_due = first whole;
  now = now;
  next = at;
  delivered = delivered;
  played = played;
  delivers = delivers;
  plays = plays.plays;
  runs = runs (plays_whole delivered played plays.plays.played plays.plays.plays ∙ delivers_whole now network delivered delivers.delivered delivers.delivers ∙ whole);
  same_delay = refl;
  running = running;
  unplaced = plays.unplaced;
}

-- the end of a player
pub end_is : (network : Shown) (queue left : List Delivery) (delay : ℕ) (rows : List ScriptRow) (taken : ℕ) (ended : Bool) (unplaced : List ScriptRow) (answers : List Answer) (due : Option ℕ)
    → All (λ (row : ScriptRow). row.at ≤ 1000000000000) rows → network.whole ≡ true
    → (network.whole ≡ true → IsFirstDue network.ssfs due) → next_moment_of (play_at network queue delay rows taken ended unplaced) answers due ≡ None → left ≡ queue ++ deliveries_of delay network.given answers
    → IsEnd (play_at network queue delay rows taken ended unplaced) (play_at network left delay rows taken true unplaced) answers
end_is network queue left delay rows taken ended unplaced answers due in_range whole first none waits =
    let row = next_row (drop taken rows) in
    let delivery = next_delivery (queue ++ deliveries_of delay network.given answers) in
    record {
      no_row = none_left rows taken delivery due in_range none;
      delivery_past = delivery_past row delivery due none;
      timers_past = timer_past network.ssfs row delivery due (first whole) none;
      same_network = refl;
      same_queue = waits;
      same_left = refl;
      same_delay = refl;
      ended = refl;
      same_unplaced = refl;
    }

-- the next moment of a player, of what its parts give
pub next_is : (network : Shown) (queue waiting : List Delivery) (delay : ℕ) (rows : List ScriptRow) (taken : ℕ) (ended : Bool) (unplaced : List ScriptRow) (answers : List Answer)
    (row delivery due moment : Option ℕ)
    → moment ≡ in_reach (sooner (sooner row delivery) due) → row ≡ next_row (drop taken rows) → delivery ≡ next_delivery waiting → waiting ≡ queue ++ deliveries_of delay network.given answers
    → moment ≡ next_moment_of (play_at network queue delay rows taken ended unplaced) answers due
next_is network queue waiting delay rows taken ended unplaced answers row delivery due moment is of_row of_delivery waits = is ∙ rw (of_row, of_delivery, waits) refl

-- ---- the run

pub heard_more : (config : SsfConfig) (delay : ℕ) (rows : List ScriptRow) (heard : List (List Answer)) (answers : List Answer) (before after : Play) (more : Bool) → before.ended ≡ false
    → IsTurn more before after answers → HasHeard config delay rows heard before → HasHeard config delay rows (heard ++ answers ∷ []) after
heard_more config delay rows heard answers before after more running turn has =
    chain_more Hears (fresh_play config delay rows) before after heard answers has (record { running = running; more = more; turn = turn })

pub reached_more : (config same : SsfConfig) (delay : ℕ) (rows : List ScriptRow) (answers : List Answer) (before after : Play) (more : Bool) → same ≡ config → before.ended ≡ false
    → IsTurn more before after answers → IsReached config delay rows before → IsReached same delay rows after
reached_more config same delay rows answers before after more is running turn reached =
    let P : SsfConfig → Type 0 = λ c. IsReached c delay rows after in
    subst P (sym is) (record {
      heard = reached.heard ++ answers ∷ [];
      has_heard = heard_more config delay rows reached.heard answers before after more running turn reached.has_heard;
    })
