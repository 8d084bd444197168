-- The port answers, and the dialogue goes on.
use Rattle.std.proofs.Common.{refl, ◌≡◌, ◌++◌, ℕ, false, Option, Some, Result, Ok, Err, List, [], ◌∷◌, ap, ◌∙◌, append-nil}
use Rattle.std.specs.Prelude.{IfSome}
use Rattle.account_core.proofs.Asking.{asked_call}
use Rattle.account_core.specs.Asked.{Asked, IsOfCall}
use Rattle.account_core.specs.Known.{CallFacts, deed, deed_of, known_after}
use Rattle.account_core.specs.Ledger.{entry_by}
use Rattle.account_core.specs.Standing.{MovesCall}
use Rattle.account_core.specs.declared.entry.Reply.{Reply}
use Rattle.account_core.specs.declared.fault.AccountFault.{AccountFault}
use Rattle.cap_values.specs.Orders.{Order, Period, periods_in}
use Rattle.dialogue_core.specs.Phases.{Phase, Says, Asks, Sends, Finished}
use Rattle.dialogue_core.specs.Rules.{Step, on_reply, on_refusal}
use Rattle.dialogue_core.specs.Talks.{AreGot, Gets, Got, IsTalkedOut, after_got, is_ask, or_done, orders_sent_by, talked}
use Rattle.ssf_core.specs.Meters.{Meter}
use Rattle.one_call.specs.Asks.{IsAskedOnce}
use Rattle.one_call.specs.Covered.{FitsMeter, IsAtRest, IsReadyCall}
use Rattle.one_call.specs.Counts.{with_answer}
use Rattle.one_call.specs.declared.counts.Counts.{Counts}
use Rattle.one_call.proofs.Asking.{FitsThen, answered_fits, deed_is, no_forfeit, of_call, refused_fits}

-- ---- what it says fits

fits_done : (call : ℕ) (meter : Meter) (queued : List Period) (kept : CallFacts) (phase : Phase) (step : Step) → FitsThen call meter queued kept phase step
    → FitsMeter call meter queued kept (or_done phase step).1 (or_done phase step).0
fits_done call meter queued kept phase (Ok next) fits = fits
fits_done call meter queued kept phase (Err fault) fits = fits

-- a port that moved what it keeps of this call, and a dialogue that went on
ready_by : (call : ℕ) (meter : Meter) (queued : List Period) (before after : Option CallFacts) (phase : Phase) (asked : Asked) (answer : Result Reply AccountFault)
    → IfSome before (λ kept. MovesCall call kept asked answer after) → IsReadyCall call meter queued before phase (Asks asked)
    → IsReadyCall call meter queued after (after_got phase answer).1 (after_got phase answer).0
ready_by call meter queued before after phase asked (Ok reply) moves ready =
    let moved = rw ready.stands at moves in
    let of : IsOfCall call asked = of_call call meter queued ready.kept phase asked ready.fits in
    let deed_here : deed call (entry_by 0 asked reply) ≡ deed_of asked reply = deed_is call asked reply (asked_call call asked of) in
    record {
      kept = known_after ready.kept (deed_of asked reply);
      stands = moved.0 ∙ ap (λ d. Some (known_after ready.kept d)) deed_here;
      fits = fits_done call meter queued (known_after ready.kept (deed_of asked reply)) phase (on_reply phase reply)
          (answered_fits call meter queued ready.kept phase asked reply ready.fits (moved.1 of).1);
    }
ready_by call meter queued before after phase asked (Err fault) moves ready =
    let moved = rw ready.stands at moves in
    record {
      kept = ready.kept;
      stands = moved;
      fits = fits_done call meter queued ready.kept phase (on_refusal phase) (refused_fits call meter queued ready.kept phase asked ready.fits);
    }

-- ---- no forfeit

none_by : (call : ℕ) (meter : Meter) (queued : List Period) (before after : Option CallFacts) (phase : Phase) (asked : Asked) (answer : Result Reply AccountFault) (counts : Counts)
    → IfSome before (λ kept. MovesCall call kept asked answer after) → IsReadyCall call meter queued before phase (Asks asked)
    → (with_answer counts answer).forfeits ≡ counts.forfeits
none_by call meter queued before after phase asked (Ok reply) counts moves ready =
    let moved = rw ready.stands at moves in
    no_forfeit call meter queued ready.kept phase asked reply counts ready.fits (moved.1 (of_call call meter queued ready.kept phase asked ready.fits)).1
none_by call meter queued before after phase asked (Err fault) counts moves ready = refl

-- ---- a talk

-- a port of a talk is ready for what is said, and none of its answers was a forfeit
record IsSoFar {P : Type 0} (state : P → ℕ → Option CallFacts) (call : ℕ) (meter : Meter) (queued : List Period) (from now : Counts × P) (next : Says × Phase) : Type 0 where
  ready : IsReadyCall call meter queued (state now.1 call) next.1 next.0
  kept : now.0.forfeits ≡ from.0.forfeits

so_asked : {P : Type 0} (state : P → ℕ → Option CallFacts) (call : ℕ) (meter : Meter) (queued : List Period) (from between to : Counts × P) (said : Says) (phase : Phase) (got : Got)
    → Gets (IsAskedOnce state) between said got to → IsSoFar state call meter queued from between (said, phase) → IsSoFar state call meter queued from to (after_got phase got)
so_asked state call meter queued from between to (Asks asked) phase got is so = record {
  ready = ready_by call meter queued (state between.1 call) (state to.1 call) phase asked got (is.moves call) so.ready;
  kept = ap (λ (t : Counts). t.forfeits) is.counts ∙ none_by call meter queued (state between.1 call) (state to.1 call) phase asked got between.0 (is.moves call) so.ready ∙ so.kept;
}
so_asked state call meter queued from between to (Sends orders) phase got is so = absurd is
so_asked state call meter queued from between to Finished phase got is so = absurd is

so_far : {P : Type 0} (state : P → ℕ → Option CallFacts) (call : ℕ) (meter : Meter) (queued : List Period) (first : Says × Phase) (from : Counts × P) (gots : List Got) (to : Counts × P)
    → AreGot (IsAskedOnce state) first from gots to → IsReadyCall call meter queued (state from.1 call) first.1 first.0 → IsSoFar state call meter queued from to (talked first gots)
so_far state call meter queued first from [] to is ready = rw is (record { ready = ready; kept = refl })
so_far state call meter queued first from (got ∷ earlier) to is ready =
    let (between, before, gets) = is in
    so_asked state call meter queued from between to (talked first earlier).0 (talked first earlier).1 got gets (so_far state call meter queued first from earlier between before ready)

rests_then : (call : ℕ) (meter : Meter) (queued : List Period) (standing : Option CallFacts) (phase : Phase) (last : Says) → is_ask last ≡ false → IsReadyCall call meter queued standing phase last
    → IsAtRest call meter (queued ++ periods_in (orders_sent_by last)) standing phase
rests_then call meter queued standing phase (Asks asked) rests ready = absurd (cc)
rests_then call meter queued standing phase (Sends orders) rests ready = record { kept = ready.kept; stands = ready.stands; fits = ready.fits }
rests_then call meter queued standing phase Finished rests ready = record { kept = ready.kept; stands = ready.stands; fits = rw (append-nil queued) ready.fits }

-- a talk that began ready has no forfeit, and ends at rest
pub talked_out : {P : Type 0} (state : P → ℕ → Option CallFacts) (call : ℕ) (meter : Meter) (queued : List Period) (first : Says × Phase) (from to : Counts × P) (phase : Phase) (orders : List Order)
    → IsTalkedOut (IsAskedOnce state) first from to phase orders → IsReadyCall call meter queued (state from.1 call) first.1 first.0
    → (to.0.forfeits ≡ from.0.forfeits) × IsAtRest call meter (queued ++ periods_in orders) (state to.1 call) phase
talked_out state call meter queued first from to phase orders talk ready =
    let so = rw talk.talks at (so_far state call meter queued first from talk.gots to talk.are_got ready) in
    (so.kept, rw talk.sends (rests_then call meter queued (state to.1 call) phase talk.last talk.rests so.ready))
