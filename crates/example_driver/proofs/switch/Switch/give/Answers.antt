use Rattle.std.proofs.Common.{◌≤◌, ◌++◌, ◌∷◌, [], ℕ, Bool, List, true, false}
use Rattle.std.proofs.lemmas.List.Elements.{All-push}
use Rattle.std.specs.Prelude.{All, if◌then◌else◌}
use Rattle.std.specs.Result.{is_ok}
use Rattle.price_core.specs.declared.times.TheConstants.{HORIZON}
use Rattle.run_values.specs.declared.post.Body.{Body}
use Rattle.example_driver.proofs.switch.Switch.give.Goals as goal

abbrev AreInRange : List (ℕ × Body) → Type 0
AreInRange items = All (λ item. item.0 ≤ HORIZON) items

-- whether or not there was room for it
pushed : (room : Bool) (items : List (ℕ × Body)) (item : ℕ × Body) → AreInRange items → item.0 ≤ HORIZON → AreInRange (if room then items ++ item ∷ [] else items)
pushed true items item are is = All-push (λ (other : ℕ × Body). other.0 ≤ HORIZON) items item are is
pushed false items item are is = are

pub invariant_of-self : goal.invariant_of-self
invariant_of-self c = record { moments = rw c.push.ensures.items (pushed (is_ok c.push.result) c.args.self.now.given.items _ c.args.self.now.moments c.requires) }
