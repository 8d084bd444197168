-- A text of which all was written, and an output of which nothing is said.
use Rattle.std.proofs.Common.{◌≡◌, ℕ, Bool, true, false, List, [], ◌++◌, Option, refl}
use Rattle.std.specs.Prelude.{codes}
use Rattle.std.specs.Io.KnownBytes.{Appends}
use Rattle.std.proofs.KnownBytes.{Keeps-refl}
use Rattle.table_core.proofs.FrontLemmas.{none_written}
use Rattle.table_core.specs.Fronts.{AppendsFront, Writes}
use Rattle.table_commands.specs.Outputs.{IsOutputLine, IsSaidOfOutput}

-- a text of which all was written
pub wholly : (old new : Option (List ℕ)) (text : List ℕ) (all : Bool) → all ≡ true → Writes old new text all → Appends old new text
wholly old new text true is wrote = wrote
wholly old new text false is wrote = cc

nothing_said : (known : Option (List ℕ)) → IsSaidOfOutput true known known
nothing_said known =
    let line : List ℕ = codes "the output: " ++ ([] ++ codes "\n") in (line, (record { why = []; says = refl }, (0, none_written known line)))

-- nothing was said, since the line has no room
pub none_said : (explaining : Bool) (known : Option (List ℕ)) → IsSaidOfOutput explaining known known
none_said true known = nothing_said known
none_said false known = Keeps-refl known

-- a front of a line was said, where that is asked for
pub line_said : (explaining : Bool) (old new : Option (List ℕ)) (line : List ℕ)
    → explaining ≡ true → IsOutputLine line → AppendsFront old new line
    → IsSaidOfOutput explaining old new
line_said explaining old new line asked is wrote = rw asked (line, (is, wrote))

-- nothing is said where that isn't asked for
pub unasked : (explaining : Bool) (known : Option (List ℕ))
    → explaining ≡ false → IsSaidOfOutput explaining known known
unasked explaining known off = rw off (Keeps-refl known)
