-- What holds where a reader's bytes are known.
use Rattle.std.proofs.Common.{◌≡◌, Option, Some, None, refl}
use Rattle.std.specs.Prelude.{IfSome}

pub if_known : {X : Type 0} (known : Option X) (P : X → Type 0) → ((x : X) → known ≡ Some x → P x) → IfSome known P
if_known None P holds = tt
if_known (Some x) P holds = holds x refl

pub at_known : {X : Type 0} (known : Option X) (P : X → Type 0) (x : X) → known ≡ Some x → IfSome known P → P x
at_known known P x is holds = rw is at holds

pub both_known : {X : Type 0} (known : Option X) (P Q : X → Type 0) → IfSome known P → IfSome known Q → IfSome known (λ x. P x × Q x)
both_known None P Q one other = tt
both_known (Some x) P Q one other = (one, other)
