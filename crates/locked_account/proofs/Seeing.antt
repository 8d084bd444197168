-- Where any account may be there, no call is a seat's alone.
use Rattle.std.proofs.Common.{◌≡◌, ℕ, Bool, true, false, None, [], ◌∷◌, refl}
use Rattle.std.specs.Prelude.{◌==◌, if◌then◌else◌}
use Rattle.std.proofs.lemmas.Bool.{eq-eqb}
use Rattle.account_core.specs.Asked.{Returns}
use Rattle.account_core.specs.Entries.{EntryData}
use Rattle.account_core.specs.Ledger.{entry_by}
use Rattle.account_core.specs.declared.entry.Reply.TheVariants as reply
use Rattle.account_core.specs.declared.fault.AccountFault.TheVariants as fault
use Rattle.account_core.specs.Refusals.{IsAlone, Refusal}

abbrev return_of : ℕ → EntryData
return_of call = entry_by 0 (Returns call) (reply.Returned 0 0)

abbrev some_refusal : ℕ → Refusal
some_refusal call = record {
  account = record { opening = 0; until = None; limit = 0; history = return_of call ∷ [] };
  asked = Returns call;
  why = fault.NotOpen;
}

not_none : {X : Type 0} (here : Bool) (x : X) → here ≡ true → (if here then x ∷ [] else []) ≡ [] → ⊥
not_none true x is none = cc none
not_none false x is none = cc is

pub none_alone : (call : ℕ) → IsAlone (λ _ _. Unit {0}) call → ⊥
none_alone call alone =
    not_none (call == call) (return_of call) (eq-eqb call call refl) (alone [] (some_refusal call) tt)
