-- Seats that have ended, in an account that goes on.
use Rattle.std.proofs.Common.{◌≡◌, ◌≤◌, ◌<◌, ◌+◌, ℕ, Bool, true, false, List, [], ◌∷◌, ◌++◌, length, refl, ◌∙◌, arith, subst, zero, suc}
use Rattle.std.specs.Prelude.{◌==◌, if◌then◌else◌, All}
use Rattle.std.proofs.lemmas.Bool.{eq-eqb}
use native.Mathlib.Decide.{dec_le}
use mathlib.Core.Logic.{dite}
use Rattle.account_core.specs.Entries.{EntryData}
use Rattle.account_core.specs.Ledger.{Ledger}
use Rattle.turn_account.specs.Ended.{HasEnded, HaveEnded}
use Rattle.account_core.specs.Own.{own}
use Rattle.account_core.specs.Prefixes.{IsPrefix}
use Rattle.account_core.proofs.Beginnings.{begins_further}

-- one more seat has ended
pub one_ended : (account : Ledger) (first : ℕ) (lasts : List Ledger) (last : Ledger) → HaveEnded account first lasts
    → HasEnded account (first + length lasts) last → HaveEnded account first (lasts ++ last ∷ [])
one_ended account first [] last have has = (subst (λ (n : ℕ). HasEnded account n last) (omega arith) has, tt)
one_ended account first (other ∷ lasts) last have has =
    (have.0, one_ended account (first + 1) lasts last have.1 (subst (λ (n : ℕ). HasEnded account n last) (omega arith) has))

-- the account goes on without an entry of theirs
pub ended_longer : (account : Ledger) (history : List EntryData) (first : ℕ) (lasts : List Ledger) → IsPrefix account.history history
    → ((number : ℕ) → first ≤ number → number < first + length lasts → own number account.history ≡ own number history) → HaveEnded account first lasts
    → HaveEnded (record account { history = history }) first lasts
ended_longer account history first [] longer same have = tt
ended_longer account history first (last ∷ lasts) longer same have = (
  record {
    opening = have.0.opening;
    until = have.0.until;
    limit = have.0.limit;
    seen = begins_further last.history account.history history have.0.seen longer;
    own = have.0.own ∙ same first (omega arith) (omega arith);
  },
  ended_longer account history (first + 1) lasts longer (λ n above below. same n (omega (arith, above)) (omega (arith, below))) have.1,
)

-- ---- numbers without entries

some_own : (here : Bool) (entry : EntryData) (more : List EntryData) → here ≡ true → (if here then entry ∷ more else more) ≡ [] → ⊥
some_own true entry more is none = cc none
some_own false entry more is none = cc is

none_later : (here : Bool) (entry : EntryData) (more : List EntryData) → (if here then entry ∷ more else more) ≡ [] → more ≡ []
none_later true entry more none = absurd (cc none)
none_later false entry more none = none

-- where no number from this on has an entry, each entry is of a lower one
pub all_below : (history : List EntryData) (seats : ℕ) → ((number : ℕ) → seats ≤ number → own number history ≡ []) → All (λ entry. entry.seat < seats) history
all_below [] seats none k d within = absurd (omega (arith, within))
all_below (entry ∷ history) seats none zero d within =
    dite (dec_le seats entry.seat)
    (λ (above : seats ≤ entry.seat). absurd (some_own (entry.seat == entry.seat) entry (own entry.seat history) (eq-eqb entry.seat entry.seat refl) (none entry.seat above)))
    (λ (below : seats ≤ entry.seat → ⊥). omega (arith, below))
all_below (entry ∷ history) seats none (suc k) d within =
    all_below history seats (λ n above. none_later (entry.seat == n) entry (own n history) (none n above)) k d (omega (arith, within))
