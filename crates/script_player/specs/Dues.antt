-- When the timers of the gsmSSFs are due.
use Rattle.std.specs.Prelude.{◌≡◌, ◌==◌, ◌≤◌, ℕ, Bool, true, false, Option, Some, None, List, IfSome}
use Rattle.std.specs.BTreeMap.{is_at}
use Rattle.std.specs.BTreeSet.{BTreeSet, contains}
use Rattle.std.specs.List.{list_any}
use Rattle.std.specs.Map.{lookup}
use Rattle.std.specs.Ordering.{nat_cmp, ordering_then}
use Rattle.std.specs.declared.cmp.Ordering.{Ordering}
use Rattle.ssf_core.specs.Calls.{View}
use Rattle.script_player.specs.Inputs.{IsNextTimer}

-- the gsmSSF of a call, where it has one
abbrev pub ssf_of : List (ℕ × View) → ℕ → Option View
ssf_of ssfs call = lookup (is_at (nat_cmp call)) ssfs

-- the gsmSSF of a call has a timer that runs, and the next one is due at this moment
pub record HasTimer (ssfs : List (ℕ × View)) (call at : ℕ) : Type 0 where
  pub view : View
  pub is : ssf_of ssfs call ≡ Some view
  pub next : IsNextTimer view (Some at)

-- the gsmSSF of a call has a timer that is due by a moment
abbrev pub IsDueBy : List (ℕ × View) → ℕ → ℕ → Type 0
IsDueBy ssfs now call = (at : ℕ) × (HasTimer ssfs call at × (at ≤ now))

-- the first moment at which a timer of a gsmSSF is due, or none where no timer runs
abbrev pub IsFirstDue : List (ℕ × View) → Option ℕ → Type 0
IsFirstDue ssfs None = (call at : ℕ) → HasTimer ssfs call at → ⊥
IsFirstDue ssfs (Some at) = ((call : ℕ) × HasTimer ssfs call at) × ((call other : ℕ) → HasTimer ssfs call other → at ≤ other)

-- whether a call is among these
abbrev pub is_among : List ℕ → ℕ → Bool
is_among calls call = list_any (is_at (nat_cmp call)) calls

-- these are the calls whose gsmSSFs have a timer that is due by a moment
pub record AreDueBy (ssfs : List (ℕ × View)) (now : ℕ) (calls : List ℕ) : Type 0 where
  pub due : (call : ℕ) → is_among calls call ≡ true → IsDueBy ssfs now call
  pub all : (call : ℕ) → IsDueBy ssfs now call → is_among calls call ≡ true

-- pairs are ordered by the first, and then by the second
abbrev pub pair_cmp : ℕ × ℕ → ℕ × ℕ → Ordering
pair_cmp one other = ordering_then (nat_cmp one.0 other.0) (nat_cmp one.1 other.1)

-- a moment is put down with each call whose gsmSSF has its next timer due then, and no other
pub record AreDues (ssfs : List (ℕ × View)) (dues : BTreeSet (ℕ × ℕ)) : Type 0 where
  pub held : (at call : ℕ) → contains pair_cmp dues (at, call) ≡ true → HasTimer ssfs call at
  pub each : (at call : ℕ) → HasTimer ssfs call at → contains pair_cmp dues (at, call) ≡ true

-- a moment is put down with a call, if there is one
abbrev pub IsPutDown : BTreeSet (ℕ × ℕ) → ℕ → Option ℕ → Type 0
IsPutDown dues call moment = IfSome moment (λ at. contains pair_cmp dues (at, call) ≡ true)

-- of a call, one moment is put down in the place of another; the others' stay
pub record Replaces (before after : BTreeSet (ℕ × ℕ)) (call : ℕ) (old new : Option ℕ) : Type 0 where
  pub others : (at other : ℕ) → (call == other) ≡ false → contains pair_cmp after (at, other) ≡ contains pair_cmp before (at, other)
  pub added : (at : ℕ) → new ≡ Some at → contains pair_cmp after (at, call) ≡ true
  pub only : (at : ℕ) → contains pair_cmp after (at, call) ≡ true → (new ≡ Some at → ⊥) → (contains pair_cmp before (at, call) ≡ true) × (old ≡ Some at → ⊥)
