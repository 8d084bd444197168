-- The places that an entry takes, and those that are owed after it.
use Rattle.std.proofs.Common.{ℕ, ◌+◌, ◌≤◌, Bool, true, false, Option, Some, None, arith}
use Rattle.std.specs.Prelude.{◌&&◌, if◌then◌else◌, is_some, not}
use Rattle.price_core.specs.Rates.{Rates}
use Rattle.account_core.specs.Asked.{Reserves}
use Rattle.account_core.specs.Places.{places_needed, places_owed}

pub owes_grant : (plan : Option Rates) (returned awaits : Bool) (call : ℕ) (rates : Rates) (wanted least at : ℕ)
    → 1 + places_owed (not returned) true ≤ places_owed (is_some plan && not returned) awaits + places_needed (is_some plan && not returned) awaits (Reserves call rates wanted least at)
owes_grant None true awaits call rates wanted least at = omega arith
owes_grant None false awaits call rates wanted least at = omega arith
owes_grant (Some plan) true awaits call rates wanted least at = omega arith
owes_grant (Some plan) false true call rates wanted least at = omega arith
owes_grant (Some plan) false false call rates wanted least at = omega arith

pub owes_denied : (open_yet awaits : Bool) (call : ℕ) (rates : Rates) (wanted least at : ℕ) → 1 ≤ places_needed open_yet awaits (Reserves call rates wanted least at)
owes_denied true true call rates wanted least at = omega arith
owes_denied true false call rates wanted least at = omega arith
owes_denied false awaits call rates wanted least at = omega arith

pub owes_report : (open_yet awaits : Bool) → 1 + places_owed open_yet false ≤ places_owed open_yet awaits + (if open_yet && awaits then 0 else 1)
owes_report true true = omega arith
owes_report true false = omega arith
owes_report false awaits = omega arith

pub owes_end : (plan : Option Rates) (returned awaits : Bool)
    → 1 + places_owed (is_some plan && false) false ≤ places_owed (is_some plan && not returned) awaits + (if is_some plan && not returned then 0 else 1)
owes_end None returned awaits = omega arith
owes_end (Some plan) true awaits = omega arith
owes_end (Some plan) false true = omega arith
owes_end (Some plan) false false = omega arith
