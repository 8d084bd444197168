-- The deeds of a run.
use Rattle.std.proofs.Common.{◌≡◌, ◌++◌, ℕ, Bool, true, false, List, [], ◌∷◌, map, refl, sym, subst}
use Rattle.run_texts.specs.declared.script.Happening.{Happening}
use Rattle.run_texts.specs.declared.script.Happening.TheVariants as happening
use Rattle.run_texts.specs.declared.script.ScriptRow.{ScriptRow}
use Rattle.ssf_core.specs.declared.config.SsfConfig.{SsfConfig}
use Rattle.run_values.specs.declared.post.Answer.{Answer}
use Rattle.script_player.specs.Chains.{Chain}
use Rattle.script_player.specs.Lives.{Does, DoesDeed, HasLived, delivery_deed, happening_deed, row_deed, wait_deed}
use Rattle.script_player.specs.Networks.{Shown}
use Rattle.script_player.specs.Plays.{Play}
use Rattle.script_player.specs.Rounds.{IsTurn}
use Rattle.script_player.specs.Runs.{Hears, IsReached, deeds_in, deeds_of_run, deeds_of_turn, fresh_play}
use Rattle.script_player.specs.Steps.{Delivers, HappensAt, PlaysRow, Waits}
use Rattle.ssf_core.specs.declared.deliveries.Delivery.{Delivery}
use Rattle.script_player.proofs.LifeLemmas.{has_lived}

chain_append : {S X : Type 0} (Step : S → X → S → Type 0) (before between after : S) (xs ys : List X) → Chain Step before xs between → Chain Step between ys after → Chain Step before (xs ++ ys) after
chain_append {S} Step before between after [] ys first second =
    let P : S → Type 0 = λ s. Chain Step s ys after in
    subst P first second
chain_append Step before between after (x ∷ xs) ys first second = (first.0, (first.1.0, chain_append Step first.0 between after xs ys first.1.1 second))

happens_does : (at : ℕ) (what : Happening) (before after : Shown) → HappensAt at what before after → Does at (happening_deed what) before after
happens_does at (happening.Start call calling called) before after happens = happens
happens_does at (happening.Meets call event) before after happens = happens
happens_does at (happening.Recharge account amount until) before after happens = happens

delivers_does : (now : ℕ) (before after : Shown) (deliveries : List Delivery) → Chain (Delivers now) before deliveries after → Chain DoesDeed before (map (delivery_deed now) deliveries) after
delivers_does now before after [] chain = chain
delivers_does now before after (delivery ∷ deliveries) chain = (chain.0, (chain.1.0, delivers_does now chain.0 after deliveries chain.1.1))

plays_does : (before after : Shown) (rows : List ScriptRow) → Chain PlaysRow before rows after → Chain DoesDeed before (map row_deed rows) after
plays_does before after [] chain = chain
plays_does before after (row ∷ rows) chain = (chain.0, (happens_does row.at row.what before chain.0 chain.1.0, plays_does chain.0 after rows chain.1.1))

waits_does : (now : ℕ) (before after : Shown) (calls : List ℕ) → Chain (Waits now) before calls after → Chain DoesDeed before (map (wait_deed now) calls) after
waits_does now before after [] chain = chain
waits_does now before after (call ∷ calls) chain = (chain.0, (chain.1.0, waits_does now chain.0 after calls chain.1.1))

turn_does : (more : Bool) (before after : Play) (answers : List Answer) (turn : IsTurn more before after answers)
    → Chain DoesDeed before.network (deeds_of_turn more before after answers turn) after.network
turn_does true before after answers turn =
    chain_append DoesDeed before.network turn.delivered after.network (map (delivery_deed turn.now) turn.delivers.delivered) (map row_deed turn.plays.played ++ map (wait_deed turn.now) turn.runs.calls)
    (delivers_does turn.now before.network turn.delivered turn.delivers.delivered turn.delivers.delivers)
    (chain_append DoesDeed turn.delivered turn.played after.network (map row_deed turn.plays.played) (map (wait_deed turn.now) turn.runs.calls)
    (plays_does turn.delivered turn.played turn.plays.played turn.plays.plays) (waits_does turn.now turn.played after.network turn.runs.calls turn.runs.waits))
turn_does false before after answers turn = turn.same_network

run_does : (before after : Play) (heard : List (List Answer)) (chain : Chain Hears before heard after) → Chain DoesDeed before.network (deeds_of_run heard before after chain) after.network
run_does before after [] chain =
    let P : Play → Type 0 = λ play. play.network ≡ before.network in
    subst P (sym chain) refl
run_does before after (answers ∷ heard) chain =
    chain_append DoesDeed before.network chain.0.network after.network (deeds_of_turn chain.1.0.more before chain.0 answers chain.1.0.turn) (deeds_of_run heard chain.0 after chain.1.1)
    (turn_does chain.1.0.more before chain.0 answers chain.1.0.turn) (run_does chain.0 after heard chain.1.1)

-- each call has lived as the deeds of the run have made it live
pub run_lived : (config : SsfConfig) (delay : ℕ) (rows : List ScriptRow) (play : Play) (run : IsReached config delay rows play) (call : ℕ)
    → HasLived config (deeds_in config delay rows play run) call play.network.given
run_lived config delay rows play run call =
    has_lived config call (fresh_play config delay rows).network play.network (deeds_in config delay rows play run) refl refl refl (run_does (fresh_play config delay rows) play run.heard run.has_heard)
