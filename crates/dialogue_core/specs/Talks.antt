-- The talk of a dialogue with the account: what it says to what an ask got, and how many asks can still come.
use Rattle.std.specs.Prelude.{◌≡◌, ℕ, suc, Bool, true, false, Result, Ok, Err, List, [], ◌∷◌}
use Rattle.account_core.specs.Asked.{Asked}
use Rattle.account_core.specs.declared.entry.Reply.{Reply}
use Rattle.account_core.specs.declared.fault.AccountFault.{AccountFault}
use Rattle.cap_values.specs.Orders.{Order}
use Rattle.dialogue_core.specs.Phases.{Phase, Says, Settling, MoreAsk, Asks, Sends, Finished}
use Rattle.dialogue_core.specs.Rules.{Step, on_reply, on_refusal}

-- what an ask gets: the account's reply, or its refusal
abbrev pub Got : Type 0
Got = Result Reply AccountFault

-- a dialogue that has no place for what it is handed stays where it is, and says no more
abbrev pub or_done : Phase → Step → Says × Phase
or_done phase (Ok next) = next
or_done phase (Err fault) = (Finished, phase)

-- what the dialogue says to what its ask got, and where it is then: by the rules of the service
abbrev pub after_got : Phase → Got → Says × Phase
after_got phase (Ok reply) = or_done phase (on_reply phase reply)
after_got phase (Err fault) = or_done phase (on_refusal phase)

-- the operations that are sent
abbrev pub orders_sent_by : Says → List Order
orders_sent_by (Asks asked) = []
orders_sent_by (Sends orders) = orders
orders_sent_by Finished = []

-- the asks that can follow the one that is pending in a phase
abbrev pub asks_after : Phase → ℕ
asks_after (Settling t active since) = 2
asks_after (MoreAsk t) = 1
asks_after phase = 0

-- the asks that are left where this was said
abbrev pub asks_left : Says → Phase → ℕ
asks_left (Asks asked) phase = suc (asks_after phase)
asks_left said phase = 0

-- what the dialogue says, and where it is, once its asks got these, the newest first
abbrev pub talked : Says × Phase → List Got → Says × Phase
talked first [] = first
talked first (got ∷ earlier) = after_got (talked first earlier).1 got

-- an ask is pending
abbrev pub is_ask : Says → Bool
is_ask (Asks asked) = true
is_ask (Sends orders) = false
is_ask Finished = false

-- ---- a talk, with whoever asks and is asked as it was before and after

-- what an ask does, by what it got
abbrev pub Asking : Type 0 → Type 1
Asking X = X → Asked → Got → X → Type 0

-- the ask that is pending got this
abbrev pub Gets : {X : Type 0} → Asking X → X → Says → Got → X → Type 0
Gets Does from (Asks asked) got to = Does from asked got to
Gets Does from (Sends orders) got to = ⊥
Gets Does from Finished got to = ⊥

-- the asks of a talk, each pending in its turn, got these, the newest first
abbrev pub AreGot : {X : Type 0} → Asking X → Says × Phase → X → List Got → X → Type 0
AreGot Does first from [] to = to ≡ from
AreGot {X} Does first from (got ∷ earlier) to = (between : X) × AreGot Does first from earlier between × Gets Does between (talked first earlier).0 got to

-- a talk from what is said first until no ask is left: what its asks got, where the dialogue is then, and what it sends
pub record IsTalkedOut {X : Type 0} (Does : Asking X) (first : Says × Phase) (from to : X) (phase : Phase) (orders : List Order) : Type 0 where
  pub gots : List Got
  pub are_got : AreGot Does first from gots to
  pub last : Says
  pub talks : talked first gots ≡ (last, phase)
  pub rests : is_ask last ≡ false
  pub sends : orders ≡ orders_sent_by last

-- a talk that ended at an ask that got nothing
pub record EndsUnanswered {X E : Type 0} (Does : Asking X) (Ends : X → Asked → E → X → Type 0) (first : Says × Phase) (from to : X) (phase : Phase) (end : E) : Type 0 where
  pub gots : List Got
  pub between : X
  pub are_got : AreGot Does first from gots between
  pub asked : Asked
  pub talks : talked first gots ≡ (Asks asked, phase)
  pub ends : Ends between asked end to
