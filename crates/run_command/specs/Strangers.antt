-- The calls of numbers that no subscriber has.
use Rattle.std.specs.Prelude.{◌≡◌, ℕ, List, [], ◌∷◌, Ok, if◌then◌else◌, is_some}
use Rattle.std.specs.List.{flat_map}
use Rattle.run_outputs.specs.Parts.{account_of_digits}
use Rattle.run_texts.specs.Happenings.{Happens, Meets, Recharges, RowData, Starts}
use Rattle.run_texts.specs.Inputs.{RunInput, input_of}

-- the call that starts so, where no subscriber has its calling number
abbrev pub stranger_of : List (List ℕ × ℕ) → Happens → List ℕ
stranger_of subscribers (Starts call calling called) = if is_some (account_of_digits calling subscribers) then [] else call ∷ []
stranger_of subscribers (Meets call event) = []
stranger_of subscribers (Recharges account amount until) = []

-- the calls in a script whose calling number no subscriber has, in the order in which they start
abbrev pub strangers_in : List (List ℕ × ℕ) → List RowData → List ℕ
strangers_in subscribers script = flat_map (λ event. stranger_of subscribers event.what) script

-- these are the calls of an input whose calling number no subscriber has, in the order in which they start
pub record AreStrangersOf (input calls : List ℕ) : Type 0 where
  pub said : RunInput
  pub read : input_of input ≡ Ok said
  pub are : calls ≡ strangers_in said.setup.subscribers said.script
