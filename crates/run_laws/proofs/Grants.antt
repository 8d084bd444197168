-- A call that was granted anything has a Reserve in the history, by the plan that is known of it.
use Rattle.std.proofs.Common.{◌≡◌, ◌==◌, ℕ, Bool, true, false, Option, Some, None, List, [], ◌∷◌, refl, subst}
use Rattle.std.specs.Prelude.{if◌then◌else◌, unwrap_or}
use Rattle.std.proofs.lemmas.Bool.{eqb-true}
use Rattle.std.proofs.lemmas.List.Elements.{All-head, All-tail}
use Rattle.std.specs.List.{All}
use Rattle.account_core.specs.Asked.{Asked, Credits, Reserves, Settles, Returns, call_of}
use Rattle.account_core.specs.Entries.{EntryData}
use Rattle.account_core.specs.Known.{CallFacts, EntryDeed, Ends, Forfeits, Grants, Reports, Rests, deed, deed_of, known, known_after}
use Rattle.account_core.specs.declared.entry.Reply.{Reply}
use Rattle.account_core.specs.declared.entry.Reply.TheVariants as reply
use Rattle.price_core.specs.Rates.{Rates}

-- of a Reserve this holds of its call and its plan
abbrev pub IfReserves : (ℕ → Rates → Type 0) → Asked → Type 0
IfReserves R (Credits amount until) = Unit {0}
IfReserves R (Reserves call plan wanted least at) = R call plan
IfReserves R (Settles call number info) = Unit {0}
IfReserves R (Returns call) = Unit {0}

-- of a grant this holds of its plan
abbrev IfGrants : (Rates → Type 0) → EntryDeed → Type 0
IfGrants Q (Grants plan units) = Q plan
IfGrants Q (Reports info) = Unit {0}
IfGrants Q Forfeits = Unit {0}
IfGrants Q (Ends paid) = Unit {0}
IfGrants Q Rests = Unit {0}

-- only a Reserve grants
granted_by : (R : ℕ → Rates → Type 0) (asked : Asked) (answer : Reply) → IfReserves R asked → IfGrants (R (call_of asked)) (deed_of asked answer)
granted_by R (Credits amount until) answer holds = tt
granted_by R (Reserves call plan wanted least at) (reply.Granted units last available) holds = holds
granted_by R (Reserves call plan wanted least at) (reply.Denied available) holds = tt
granted_by R (Reserves call plan wanted least at) (reply.Credited available) holds = tt
granted_by R (Reserves call plan wanted least at) (reply.CreditOver available) holds = tt
granted_by R (Reserves call plan wanted least at) (reply.Settled paid available) holds = tt
granted_by R (Reserves call plan wanted least at) (reply.Forfeit paid available) holds = tt
granted_by R (Reserves call plan wanted least at) (reply.Returned paid available) holds = tt
granted_by R (Settles call number info) (reply.Settled paid available) holds = tt
granted_by R (Settles call number info) (reply.Forfeit paid available) holds = tt
granted_by R (Settles call number info) (reply.Credited available) holds = tt
granted_by R (Settles call number info) (reply.CreditOver available) holds = tt
granted_by R (Settles call number info) (reply.Granted units last available) holds = tt
granted_by R (Settles call number info) (reply.Denied available) holds = tt
granted_by R (Settles call number info) (reply.Returned paid available) holds = tt
granted_by R (Returns call) (reply.Returned paid available) holds = tt
granted_by R (Returns call) (reply.Settled paid available) holds = tt
granted_by R (Returns call) (reply.Forfeit paid available) holds = tt
granted_by R (Returns call) (reply.Credited available) holds = tt
granted_by R (Returns call) (reply.CreditOver available) holds = tt
granted_by R (Returns call) (reply.Granted units last available) holds = tt
granted_by R (Returns call) (reply.Denied available) holds = tt

of_call : (R : ℕ → Rates → Type 0) (call : ℕ) (entry : EntryData) (same : Bool) → (call_of entry.asked == call) ≡ same → IfReserves R entry.asked
    → IfGrants (R call) (if same then deed_of entry.asked entry.reply else Rests)
of_call R call entry true same holds =
    let Its : ℕ → Type 0 = λ c. IfGrants (R c) (deed_of entry.asked entry.reply) in
    subst Its (eqb-true (call_of entry.asked) call same) (granted_by R entry.asked entry.reply holds)
of_call R call entry false same holds = tt

-- a call's plan is one that it was granted
module _ (Q : Rates → Type 0) (before : CallFacts) (plan : Rates) (earlier : (its : Rates) → before.plan ≡ Some its → Q its) where
  first_of : (offered : Rates) (was : Option Rates) → before.plan ≡ was → Q offered → Some (unwrap_or was offered) ≡ Some plan → Q plan
  first_of offered None none holds is = let same : offered ≡ plan = cc in subst Q same holds
  first_of offered (Some its) had holds is = let same : its ≡ plan = cc in subst Q same (earlier its had)

  plan_has : (d : EntryDeed) → IfGrants Q d → (known_after before d).plan ≡ Some plan → Q plan
  plan_has (Grants offered units) holds is = first_of offered before.plan refl holds is
  plan_has (Reports info) holds is = earlier plan is
  plan_has Forfeits holds is = earlier plan is
  plan_has (Ends paid) holds is = earlier plan is
  plan_has Rests holds is = earlier plan is

-- what holds of each Reserve in a history holds of each call that was granted anything there, and of its plan
pub granted_has : (R : ℕ → Rates → Type 0) (call : ℕ) (plan : Rates) (h : List EntryData) → All (λ entry. IfReserves R entry.asked) h → (known call h).plan ≡ Some plan → R call plan
unfolding deed
granted_has R call plan [] all is = cc
granted_has R call plan (entry ∷ h) all is =
    let P : EntryData → Type 0 = λ e. IfReserves R e.asked in
    plan_has (R call) (known call h) plan (λ its had. granted_has R call its h (All-tail P entry h all) had)
    (if call_of entry.asked == call then deed_of entry.asked entry.reply else Rests)
    (of_call R call entry (call_of entry.asked == call) refl (All-head P entry h all)) is
