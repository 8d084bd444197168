-- A line about refusals that gets a kind more.
use Rattle.std.proofs.Common.{◌≡◌, ℕ, true, false, List, [], ◌∷◌, ◌++◌, length, refl, sym, ◌∙◌, append_assoc, arith, codes}
use Rattle.std.specs.Prelude.{◌==◌}
use Rattle.std.specs.Fmt.{decimal}
use Rattle.std.proofs.lemmas.Bool.Decides.{nat_tests}
use Rattle.account_core.specs.Faults.{account_fault_name}
use Rattle.account_core.specs.declared.fault.AccountFault.{AccountFault}
use Rattle.run_outputs.specs.RefusedLines.{with_kind}

some_count : (count : ℕ) → (count ≡ 0 → ⊥) → (count == 0) ≡ false
some_count count some = grind (arith, nat_tests)

empty_line : (line : List ℕ) → (length line == 0) ≡ true → line ≡ []
empty_line [] is = refl
empty_line (byte ∷ line) is = let none : length (byte ∷ line) ≡ 0 = grind (arith, nat_tests) in absurd (omega (arith, none))

pub first_kind : (line : List ℕ) (count : ℕ) (why : AccountFault) (new : List ℕ) → (count ≡ 0 → ⊥) → (length line == 0) ≡ true
    → new ≡ line ++ (codes "prepaid: refused: " ++ (decimal count ++ (codes " " ++ account_fault_name why))) → new ≡ with_kind line count why
first_kind line count why new some none is = rw (some_count count some, none) (is ∙ rw (empty_line line none) refl)

pub other_kind : (line : List ℕ) (count : ℕ) (why : AccountFault) (new : List ℕ) → (count ≡ 0 → ⊥) → (length line == 0) ≡ false
    → new ≡ line ++ (codes ", " ++ (decimal count ++ (codes " " ++ account_fault_name why))) → new ≡ with_kind line count why
other_kind line count why new some any is = rw (some_count count some, any) (is ∙ sym (append_assoc line (codes ", ") (decimal count ++ (codes " " ++ account_fault_name why))))
