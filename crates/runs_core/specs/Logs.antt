-- The rule of a mailbox, over what waits in it and what its ends know.
use Rattle.std.specs.Prelude.{◌≡◌, ◌++◌, ◌∷◌, ℕ, Bool, true, false, List, []}
use mathlib.Core.Option.{some}
use lib.ListN.{get_elem?}
use Rattle.runs_core.specs.declared.mailboxes.Log.{Log}
use Rattle.runs_core.specs.declared.mailboxes.Mail.{Mail}
use Rattle.runs_core.specs.declared.mailboxes.Mail.TheVariants.{Work, Close}

-- what an end of a mailbox knows
abbrev pub log : {T : Type 0} → Bool → Bool → List (Mail T) → List (Mail T) → Log T
log sends takes sent taken = record { sends = sends; takes = takes; sent = sent; taken = taken }

-- whether a Close is among mails
abbrev pub has_close : {T : Type 0} → List (Mail T) → Bool
has_close [] = false
has_close (Work content ∷ mails) = has_close mails
has_close (Close ∷ mails) = true

-- whether there are no mails
abbrev pub is_empty_log : {T : Type 0} → List (Mail T) → Bool
is_empty_log [] = true
is_empty_log (mail ∷ mails) = false

-- whether nothing follows a Close
abbrev pub ends_at_close : {T : Type 0} → List (Mail T) → Bool
ends_at_close [] = true
ends_at_close (Work content ∷ mails) = ends_at_close mails
ends_at_close (Close ∷ mails) = is_empty_log mails

-- what one end knows is true: the sender has the list of what was sent, the taker that of what was taken
abbrev pub FitsLog : {T : Type 0} → ℕ → ℕ → List (Mail T) → List (Mail T) → ℕ → Log T → Type 0
FitsLog sender taker sent taken pass v =
    (v.sends ≡ true → (pass ≡ sender) × (v.sent ≡ sent)) × (v.takes ≡ true → (pass ≡ taker) × (v.taken ≡ taken))

-- one end at most sends and one at most takes, what was sent is what was taken and then what waits, and nothing follows a Close
pub record Delivered {T : Type 0} (waiting : List (Mail T)) (views : List (Log T)) : Type 0 where
  pub sender : ℕ
  pub taker : ℕ
  pub sent : List (Mail T)
  pub taken : List (Mail T)
  pub in_order : sent ≡ taken ++ waiting
  pub closes : ends_at_close sent ≡ true
  pub each : (pass : ℕ) (v : Log T) → get_elem? views pass ≡ some v → FitsLog sender taker sent taken pass v
