-- Operations that say the same are the same.
use Rattle.std.proofs.Common.{◌≡◌, ◌∙◌, ◌≤◌, ℕ, Bool, true, Option, List, [], ◌∷◌, refl, ap, subst}
use Rattle.std.proofs.Math.Bool.{Bool-set}
use Rattle.std.proofs.Math.Bridge.{le_prop}
use Rattle.std.specs.Option.{ForSome}
use Rattle.cap_values.specs.Causes.{is_cause}
use Rattle.cap_values.specs.Orders.{order_of, orders_of}
use Rattle.cap_values.specs.declared.cause.Cause.{Cause}
use Rattle.cap_values.specs.declared.charge.Charge.{Charge}
use Rattle.cap_values.specs.declared.operation.ScfOp.{ScfOp}
use Rattle.cap_values.specs.declared.operation.ScfOp.TheVariants.{RequestReport, ApplyCharging, Continue, ReleaseCall}
use Rattle.price_core.specs.declared.times.TheConstants.{DAY}

abbrev IsSwitch : Option ℕ → Type 0
IsSwitch switch = ForSome switch (λ seconds. (1 ≤ seconds) × (seconds ≤ 86400))

abbrev charge_of : (period : ℕ) (switch : Option ℕ) (release : Bool) → 1 ≤ period → period ≤ DAY → IsSwitch switch → Charge
charge_of period switch release a b c = record { period = period; switch = switch; release = release; period_positive = a; period_within_day = b; switch_in_range = c }

one_switch : (switch : Option ℕ) (c d : IsSwitch switch) → c ≡ d
one_switch switch c d = λ i x is. (le_prop (c x is).0 (d x is).0 i, le_prop (c x is).1 (d x is).1 i)

one_charge : (p : ℕ) (s : Option ℕ) (r : Bool) (a : 1 ≤ p) (b : p ≤ DAY) (c : IsSwitch s) (x : 1 ≤ p) (y : p ≤ DAY) (z : IsSwitch s) → charge_of p s r a b c ≡ charge_of p s r x y z
one_charge p s r a b c x y z =
    ap (λ (h : 1 ≤ p). charge_of p s r h b c) (le_prop a x) ∙ ap (λ (h : p ≤ DAY). charge_of p s r x h c) (le_prop b y) ∙ ap (λ (h : IsSwitch s). charge_of p s r x y h) (one_switch s c z)

same_charge : (one other : Charge) → one.period ≡ other.period → one.switch ≡ other.switch → one.release ≡ other.release → one ≡ other
same_charge one other period switch release =
    let P : ℕ → Type 0 = λ q. (x : 1 ≤ q) (y : q ≤ DAY) (z : IsSwitch one.switch) → one ≡ charge_of q one.switch one.release x y z in
    let first : P other.period = subst P period (λ x y z. one_charge one.period one.switch one.release one.period_positive one.period_within_day one.switch_in_range x y z) in
    let Q : Option ℕ → Type 0 = λ t. (z : IsSwitch t) → one ≡ charge_of other.period t one.release other.period_positive other.period_within_day z in
    let second : Q other.switch = subst Q switch (λ z. first other.period_positive other.period_within_day z) in
    second other.switch_in_range ∙ ap (λ (w : Bool). charge_of other.period other.switch w other.period_positive other.period_within_day other.switch_in_range) release

abbrev cause_of : (value : ℕ) → is_cause value ≡ true → Cause
cause_of value a = record { value = value; in_range = a }

same_cause : (one other : Cause) → one.value ≡ other.value → one ≡ other
same_cause one other value =
    let P : ℕ → Type 0 = λ v. (x : is_cause v ≡ true) → one ≡ cause_of v x in
    let first : P other.value = subst P value (λ x. ap (cause_of one.value) (Bool-set (is_cause one.value) true one.in_range x)) in
    first other.in_range

same_operation : (one other : ScfOp) → order_of one ≡ order_of other → one ≡ other
same_operation (RequestReport arms) (RequestReport others) same = ap RequestReport (cc same)
same_operation (RequestReport arms) (ApplyCharging charge) same = absurd (cc)
same_operation (RequestReport arms) Continue same = absurd (cc)
same_operation (RequestReport arms) (ReleaseCall cause) same = absurd (cc)
same_operation (ApplyCharging charge) (RequestReport arms) same = absurd (cc)
same_operation (ApplyCharging charge) (ApplyCharging other) same =
    let period : charge.period ≡ other.period = cc same in
    let switch : charge.switch ≡ other.switch = cc same in
    let release : charge.release ≡ other.release = cc same in
    ap ApplyCharging (same_charge charge other period switch release)
same_operation (ApplyCharging charge) Continue same = absurd (cc)
same_operation (ApplyCharging charge) (ReleaseCall cause) same = absurd (cc)
same_operation Continue (RequestReport arms) same = absurd (cc)
same_operation Continue (ApplyCharging charge) same = absurd (cc)
same_operation Continue Continue same = refl
same_operation Continue (ReleaseCall cause) same = absurd (cc)
same_operation (ReleaseCall cause) (RequestReport arms) same = absurd (cc)
same_operation (ReleaseCall cause) (ApplyCharging charge) same = absurd (cc)
same_operation (ReleaseCall cause) Continue same = absurd (cc)
same_operation (ReleaseCall cause) (ReleaseCall other) same = let value : cause.value ≡ other.value = cc same in ap ReleaseCall (same_cause cause other value)

pub same_operations : (ops others : List ScfOp) → orders_of ops ≡ orders_of others → ops ≡ others
same_operations [] [] same = refl
same_operations [] (other ∷ others) same = absurd (cc)
same_operations (op ∷ ops) [] same = absurd (cc)
same_operations (op ∷ ops) (other ∷ others) same =
    ap (λ (o : ScfOp). o ∷ ops) (same_operation op other (cc same)) ∙ ap (λ l. other ∷ l) (same_operations ops others (cc same))
