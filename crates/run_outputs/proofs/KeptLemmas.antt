-- What is looked up in a map by number with one value more.
use Rattle.std.proofs.Common.{◌≡◌, ◌==◌, ℕ, Bool, true, false, Option, Some, None, List, refl, sym, ap, ◌∙◌}
use Rattle.std.specs.BTreeMap.{insert_entry, is_at}
use Rattle.std.specs.Map.{lookup}
use Rattle.std.specs.Option.{option_or}
use Rattle.std.specs.Ordering.{nat_cmp}
use Rattle.std.specs.Prelude.{if◌then◌else◌}
use Rattle.account_core.proofs.RisingLemmas.{looked_up_at}
use Rattle.run_outputs.proofs.CallLemmas.{or_none, same_call}

first_of : {V : Type 0} (now : Bool) (was : Option V) (value : V) → (now ≡ true → was ≡ None)
    → (if now then Some value else was) ≡ option_or was (if now then Some value else None)
first_of true was value none = rw (none refl) refl
first_of false was value none = sym (or_none was)

module _ {V : Type 0} (old : List (ℕ × V)) (number : ℕ) (value : V) (other : ℕ) where
  same_look : (other == number) ≡ true → lookup (is_at (nat_cmp other)) old ≡ lookup (is_at (nat_cmp number)) old
  same_look same = ap (λ n. lookup (is_at (nat_cmp n)) old) (same_call other number same)

  -- a number that had none gets this value
  pub kept_first : (new : List (ℕ × V)) → lookup (is_at (nat_cmp number)) old ≡ None → new ≡ insert_entry nat_cmp old number value
      → lookup (is_at (nat_cmp other)) new ≡ option_or (lookup (is_at (nat_cmp other)) old) (if other == number then Some value else None)
  kept_first new none is =
      rw (is, looked_up_at number value other old)
      (first_of (other == number) (lookup (is_at (nat_cmp other)) old) value (λ same. same_look same ∙ none))
