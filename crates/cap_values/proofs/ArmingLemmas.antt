-- Armings, taken one by one.
use Rattle.std.proofs.Common.{◌≡◌, ◌<◌, ◌≤◌, ◌+◌, ℕ, List, [], ◌∷◌, Option, Some, None, Ok, Err, length, get_or, drop, sym, ap, ◌∙◌, refl, arith}
use Rattle.std.proofs.Math.Seq.{drop-length}
use Rattle.std.specs.Option.{option_or}
use Rattle.std.proofs.lemmas.List.{drop_more}
use Rattle.cap_values.specs.Armings.{mode_asked_at, first_fault, fault_or, arming_fault, mode_for, point_of}
use Rattle.cap_values.specs.Arms.{arm_at, arms_of}
use Rattle.cap_values.specs.declared.arming.Arming.{Arming}
use Rattle.cap_values.specs.declared.arming.Point.{Point}
use Rattle.cap_values.specs.declared.arming.Point.TheVariants.{RouteSelectFailure, CalledPartyBusy, NoAnswer, Answer, Disconnect, Abandon}
use Rattle.cap_values.specs.declared.arms.Arms.{Arms}
use Rattle.cap_values.specs.declared.fault.ValueFault.{ValueFault}
use Rattle.cap_values.specs.declared.leg.Leg.TheVariants.{One, Two}
use Rattle.cap_values.specs.declared.mode.Mode.{Mode}

-- an arming with a point leaves the fault to those after it
pub taken_fault : (armings : List Arming) (i : ℕ) (d : Arming) (p : Point) → i < length armings → point_of (get_or armings i d) ≡ Ok p
    → first_fault armings ≡ first_fault (drop i armings) → first_fault armings ≡ first_fault (drop (i + 1) armings)
taken_fault armings i d p lt named so_far =
    so_far ∙ ap first_fault (drop_more armings i d lt) ∙ ap (λ q. fault_or q (first_fault (drop (i + 1) armings))) named

-- an arming with a fault decides
pub refused_fault : (armings : List Arming) (i : ℕ) (d : Arming) (fault : ValueFault) → i < length armings → point_of (get_or armings i d) ≡ Err fault
    → first_fault armings ≡ first_fault (drop i armings) → Some fault ≡ first_fault armings
refused_fault armings i d fault lt named so_far =
    sym (so_far ∙ ap first_fault (drop_more armings i d lt) ∙ ap (λ q. fault_or q (first_fault (drop (i + 1) armings))) named)

-- where armings were given, the first fault among them counts
pub given_fault : (armings : List Arming) → 0 < length armings → arming_fault armings ≡ first_fault armings
given_fault [] given = absurd (omega arith)
given_fault (arming ∷ armings) given = refl

option_or-assoc : (x y z : Option Mode) → option_or (option_or x y) z ≡ option_or x (option_or y z)
option_or-assoc None y z = refl
option_or-assoc (Some m) y z = refl

-- an arming that was taken has its mode at its point
pub taken_modes : (armings : List Arming) (i : ℕ) (d : Arming) (p : Point) (arms arms' : Arms) → i < length armings → point_of (get_or armings i d) ≡ Ok p
    → ((q : Point) → arm_at arms' q ≡ option_or (mode_asked_at q (Ok p) (get_or armings i d).mode) (arm_at arms q))
    → ((q : Point) → mode_for q armings ≡ option_or (mode_for q (drop i armings)) (arm_at arms q))
    → (q : Point) → mode_for q armings ≡ option_or (mode_for q (drop (i + 1) armings)) (arm_at arms' q)
taken_modes armings i d p arms arms' lt named armed so_far q =
    let later = mode_for q (drop (i + 1) armings) in
    let mode = (get_or armings i d).mode in
    so_far q
    ∙ ap (λ l. option_or (mode_for q l) (arm_at arms q)) (drop_more armings i d lt)
    ∙ ap (λ n. option_or (option_or later (mode_asked_at q n mode)) (arm_at arms q)) named
    ∙ option_or-assoc later (mode_asked_at q (Ok p) mode) (arm_at arms q)
    ∙ ap (option_or later) (sym (armed q))

-- once all armings are taken, none is left
none_left : (armings : List Arming) (i : ℕ) → i ≤ length armings → length armings ≤ i → drop i armings ≡ []
none_left armings i up down = let e : i ≡ length armings = omega arith in ap (λ n. drop n armings) e ∙ drop-length armings

-- armings that were all taken have no fault
pub all_taken : (armings : List Arming) (i : ℕ) → i ≤ length armings → length armings ≤ i
    → first_fault armings ≡ first_fault (drop i armings) → None ≡ first_fault armings
all_taken armings i up down so_far = sym (so_far ∙ ap first_fault (none_left armings i up down))

same_arms : (a b c d e f g a' b' c' d' e' f' g' : Option Mode) → a ≡ a' → b ≡ b' → c ≡ c' → d ≡ d' → e ≡ e' → f ≡ f' → g ≡ g'
    → (let x : Arms = record { route_select_failure = a; called_party_busy = b; no_answer = c; answer = d; disconnect_one = e; disconnect_two = f; abandon = g } in
    let y : Arms = record { route_select_failure = a'; called_party_busy = b'; no_answer = c'; answer = d'; disconnect_one = e'; disconnect_two = f'; abandon = g' } in
    x ≡ y)
same_arms a b c d e f g a' b' c' d' e' f' g' pa pb pc pd pe pf pg = cc

-- arms that have each point's mode after all armings are what the armings come to
pub all_modes : (armings : List Arming) (i : ℕ) (arms : Arms) → i ≤ length armings → length armings ≤ i
    → ((q : Point) → mode_for q armings ≡ option_or (mode_for q (drop i armings)) (arm_at arms q)) → arms ≡ arms_of armings
all_modes armings i arms up down so_far =
    let at : (q : Point) → arm_at arms q ≡ mode_for q armings =
    λ q. sym (so_far q ∙ ap (λ l. option_or (mode_for q l) (arm_at arms q)) (none_left armings i up down)) in
    same_arms _ _ _ _ _ _ _ _ _ _ _ _ _ _
    (at RouteSelectFailure) (at CalledPartyBusy) (at NoAnswer) (at Answer) (at (Disconnect One)) (at (Disconnect Two)) (at Abandon)

option_or-none : (x : Option Mode) → x ≡ option_or x None
option_or-none None = refl
option_or-none (Some m) = refl

-- before any arming is taken
pub none_taken : (armings : List Arming) (arms : Arms) → ((q : Point) → arm_at arms q ≡ None) → (q : Point) → mode_for q armings ≡ option_or (mode_for q armings) (arm_at arms q)
none_taken armings arms kept q = option_or-none (mode_for q armings) ∙ ap (option_or (mode_for q armings)) (sym (kept q))

-- arms that keep every point
pub all_kept : (q : Point) → arm_at (record { route_select_failure = None; called_party_busy = None; no_answer = None; answer = None; disconnect_one = None; disconnect_two = None; abandon = None }) q ≡ None
all_kept RouteSelectFailure = refl
all_kept CalledPartyBusy = refl
all_kept NoAnswer = refl
all_kept Answer = refl
all_kept (Disconnect One) = refl
all_kept (Disconnect Two) = refl
all_kept Abandon = refl
