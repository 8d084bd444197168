-- The asks of the service, and the answers of the port to them.
use Rattle.std.specs.Prelude.{◌≡◌, ℕ, Option, IfSome}
use Rattle.account_core.specs.Asked.{Asked}
use Rattle.account_core.specs.Known.{CallFacts}
use Rattle.account_core.specs.Standing.{MovesCall}
use Rattle.dialogue_core.specs.Talks.{Got}
use Rattle.one_call.specs.Counts.{with_answer}
use Rattle.one_call.specs.declared.counts.Counts.{Counts}

-- the port was asked once: it moved what it keeps of each call, and its answer was counted
pub record IsAskedOnce {P : Type 0} (state : P → ℕ → Option CallFacts) (before : Counts × P) (asked : Asked) (answer : Got) (after : Counts × P) : Type 0 where
  pub moves : (call : ℕ) → IfSome (state before.1 call) (λ kept. MovesCall call kept asked answer (state after.1 call))
  pub counts : after.0 ≡ with_answer before.0 answer
