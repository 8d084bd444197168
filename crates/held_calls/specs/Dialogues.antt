-- Runs of a dialogue: what it was handed and what it said to that, by the rules of the service.
use Rattle.std.specs.Prelude.{◌≡◌, ◌+◌, ◌≤◌, ◌||◌, ℕ, Bool, true, false, Option, Ok, IsOk, List, [], ◌∷◌, ⊤, if◌then◌else◌}
use Rattle.account_core.specs.Asked.{Asked, Reserves, Settles, Returns}
use Rattle.account_core.specs.declared.entry.Reply.{Reply}
use Rattle.account_core.specs.declared.entry.Reply.TheVariants.{Granted, Denied, Settled, Forfeit, Returned}
use Rattle.cap_values.specs.declared.message.SsfMsg.{SsfMsg}
use Rattle.dialogue_core.specs.Phases.{Phase, Says, Ending, Closed, Asks}
use Rattle.dialogue_core.specs.Rules.{Step, on_begin, on_reply, on_message, on_refusal}
use Rattle.price_core.specs.declared.route.Route.{Route}
use Rattle.price_core.specs.declared.times.TheConstants.{DAY}

-- what a dialogue is handed: a message with the number of its mail and its moment, a reply, a refusal
pub data Input : Type 0 where
  Message : (number at : ℕ) → SsfMsg → Input
  Answer : Reply → Input
  Refusal : Input

-- the rules
abbrev pub step : Phase → Input → Step
step phase (Message number at message) = on_message phase number at message
step phase (Answer reply) = on_reply phase reply
step phase Refusal = on_refusal phase

-- an input that wasn't refused, and the turn to it
pub record Exchange : Type 0 where
  pub input : Input
  pub said : Says

-- the phase after these exchanges, the newest first, of a dialogue that began so
abbrev pub IsDialogueRun : Says × Phase → List Exchange → Phase → Type 0
IsDialogueRun first [] phase = first.1 ≡ phase
IsDialogueRun first (exchange ∷ earlier) phase = (before : Phase) × IsDialogueRun first earlier before × (step before exchange.input ≡ Ok (exchange.said, phase))

-- ---- what a run has asked

-- a reply that grants time
abbrev pub is_grant_input : Input → Bool
is_grant_input (Answer (Granted units last available)) = true
is_grant_input _ = false

-- 1 where a Settle is asked
abbrev pub settles_in : Says → ℕ
settles_in (Asks (Settles call number info)) = 1
settles_in _ = 0

-- 1 where a Return is asked
abbrev pub returns_in : Says → ℕ
returns_in (Asks (Returns call)) = 1
returns_in _ = 0

-- the settles since the last grant
abbrev pub settles_since_grant : List Exchange → ℕ
settles_since_grant [] = 0
settles_since_grant (exchange ∷ earlier) =
    if is_grant_input exchange.input then settles_in exchange.said else settles_in exchange.said + settles_since_grant earlier

-- how many Returns were asked
abbrev pub returns_asked : List Exchange → ℕ
returns_asked [] = 0
returns_asked (exchange ∷ earlier) = returns_in exchange.said + returns_asked earlier

-- whether time was ever granted
abbrev pub was_granted : List Exchange → Bool
was_granted [] = false
was_granted (exchange ∷ earlier) = is_grant_input exchange.input || was_granted earlier

-- what was said last
abbrev pub last_said : Says × Phase → List Exchange → Says
last_said first [] = first.0
last_said first (exchange ∷ earlier) = exchange.said

-- nothing more is asked of the account
abbrev pub is_over : Phase → Bool
is_over Ending = true
is_over Closed = true
is_over _ = false

-- a reply of the kind that an account gives to what was asked
abbrev pub IsHonest : Asked → Reply → Type 0
IsHonest (Reserves call plan wanted least at) (Granted units last available) = (1 ≤ units) × (units ≤ DAY)
IsHonest (Reserves call plan wanted least at) (Denied available) = ⊤
IsHonest (Settles call number info) (Settled paid available) = ⊤
IsHonest (Settles call number info) (Forfeit paid available) = ⊤
IsHonest (Returns call) (Returned paid available) = ⊤
IsHonest _ _ = ⊥

-- ---- laws

-- at most one settle is asked between a grant and the next
abbrev pub OneSettleAGrant : Type 0
OneSettleAGrant = (call now wanted least : ℕ) (route : Option Route) (run : List Exchange) (phase : Phase)
    → IsDialogueRun (on_begin call now wanted least route) run phase → settles_since_grant run ≤ 1

-- a run that is done with the account has asked exactly one return where it was granted time, and none elsewhere
abbrev pub OneReturnIfGranted : Type 0
OneReturnIfGranted = (call now wanted least : ℕ) (route : Option Route) (run : List Exchange) (phase : Phase)
    → IsDialogueRun (on_begin call now wanted least route) run phase → is_over phase ≡ true → returns_asked run ≡ (if was_granted run then 1 else 0)

-- a reply of the kind that an account gives to what was asked last has its place in the rules
abbrev pub HonestRepliesAreExpected : Type 0
HonestRepliesAreExpected = (call now wanted least : ℕ) (route : Option Route) (run : List Exchange) (phase : Phase) (asked : Asked) (reply : Reply)
    → IsDialogueRun (on_begin call now wanted least route) run phase → last_said (on_begin call now wanted least route) run ≡ Asks asked
    → IsHonest asked reply → IsOk (on_reply phase reply)
