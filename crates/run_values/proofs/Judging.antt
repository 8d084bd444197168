-- Items that are judged one after another, and what an index of them finds.
use Rattle.std.proofs.Common.{◌≡◌, ◌≤◌, ◌<◌, ℕ, ◌+◌, Bool, true, false, List, [], ◌∷◌, ◌++◌, length, Option, Some, None, refl}
use Rattle.std.specs.Prelude.{is_some, take, drop, cond}
use Rattle.std.proofs.Math.ListN.{get_or}
use Rattle.std.proofs.lemmas.List.{drop_more, take_more, drop_all}
use Rattle.std.specs.Map.{lookup}
use Rattle.std.specs.Option.{option_or}
use Rattle.std.specs.Prelude.{Result, Ok, Err, IfErr}
use Rattle.std.specs.Result.{IsErrAnd}
use Rattle.run_values.specs.Setups.{first_listing_fault}
use Rattle.run_values.specs.declared.setup_fault.SetupFault.{SetupFault}

-- ---- one item after another

module _ {X : Type 0} (judge : List X → X → Option SetupFault) where
  first_listing_fault-cons : (earlier : List X) (item : X) (items : List X)
      → first_listing_fault judge earlier (item ∷ items) ≡ option_or (judge earlier item) (first_listing_fault judge (earlier ++ item ∷ []) items)
  unfolding first_listing_fault
  first_listing_fault-cons earlier item items = refl

  first_listing_fault-nil : (earlier : List X) → first_listing_fault judge earlier [] ≡ None
  unfolding first_listing_fault
  first_listing_fault-nil earlier = refl

  -- an item without a fault is passed
  pub passes : (xs : List X) (i : ℕ) (d : X) → i < length xs → judge (take i xs) (get_or xs i d) ≡ None
      → first_listing_fault judge (take i xs) (drop i xs) ≡ first_listing_fault judge (take (i + 1) xs) (drop (i + 1) xs)
  passes xs i d within fine = rw (drop_more xs i d within, take_more xs i d within, first_listing_fault-cons (take i xs) (get_or xs i d) (drop (i + 1) xs), fine) refl

  -- an item with one ends the list
  pub stops : (xs : List X) (i : ℕ) (d : X) (why : SetupFault) → i < length xs → judge (take i xs) (get_or xs i d) ≡ Some why
      → first_listing_fault judge (take i xs) (drop i xs) ≡ Some why
  stops xs i d why within wrong = rw (drop_more xs i d within, first_listing_fault-cons (take i xs) (get_or xs i d) (drop (i + 1) xs), wrong) refl

  -- past the last there is none
  pub ends : (xs : List X) (i : ℕ) → length xs ≤ i → first_listing_fault judge (take i xs) (drop i xs) ≡ None
  ends xs i past = rw (drop_all i xs past) (first_listing_fault-nil (take i xs))

-- ---- look-ups

pub lookup-append : {K V : Type 0} (test : K → Bool) (es : List (K × V)) (e : K × V)
    → lookup test (es ++ e ∷ []) ≡ option_or (lookup test es) (cond (test e.0) (Some e.1) None)
lookup-append test [] e = refl
lookup-append test (first ∷ es) e = by_first (test first.0) (lookup-append test es e)
  where
    by_first : (b : Bool) → lookup test (es ++ e ∷ []) ≡ option_or (lookup test es) (cond (test e.0) (Some e.1) None)
        → cond b (Some first.1) (lookup test (es ++ e ∷ [])) ≡ option_or (cond b (Some first.1) (lookup test es)) (cond (test e.0) (Some e.1) None)
    by_first true more = refl
    by_first false more = more

-- two tests that agree find the same
pub lookup-alike : {K V : Type 0} (test other : K → Bool) → ((k : K) → test k ≡ other k) → (es : List (K × V)) → lookup test es ≡ lookup other es
lookup-alike test other same [] = refl
lookup-alike test other same (e ∷ es) = rw (same e.0, lookup-alike test other same es) refl

-- an absent key of one pair more
pub one_more : {V : Type 0} (found : Option V) (b : Bool) (v : V) → (b ≡ true → is_some found ≡ false) → cond b (Some v) found ≡ option_or found (cond b (Some v) None)
one_more None true v new = refl
one_more None false v new = refl
one_more (Some w) true v new = cc (new refl)
one_more (Some w) false v new = refl

-- a fault that is passed on
pub err_has : {V E : Type 0} (answer : Result V E) (why : E) (P : E → Type 0) → IsErrAnd answer (λ met. met ≡ why) → P why → IfErr answer P
err_has (Ok v) why P met holds = absurd met
err_has (Err met-why) why P met holds = rw met holds
