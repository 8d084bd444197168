-- What a call is owed that is a seat's alone is never refused.
use Rattle.std.proofs.Common.{◌≡◌, ℕ, sym, subst}
use Rattle.account_core.proofs.Owning.{owed_alike}
use Rattle.account_core.specs.Own.{of_call}
use Rattle.account_core.specs.Refusals.{IsAlone, IsRefusedAt, Knowing}
use Rattle.held_calls.specs.Owed.{NeverRefusesOwed}

pub never_refused : (Was : ℕ → Knowing) (call : ℕ) → ((place : ℕ) → IsAlone (Was place) call) → NeverRefusesOwed (λ place. IsRefusedAt (Was place)) call
never_refused Was call alone place mine asked why is is_owed refused =
    let same = subst (λ (c : ℕ). of_call c refused.account.history ≡ of_call c mine) (sym is) (alone place mine _ refused.was) in
    refused.room (owed_alike mine refused.account.history asked is_owed (sym same)) is_owed
