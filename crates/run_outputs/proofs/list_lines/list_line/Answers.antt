use Rattle.std.proofs.Common.{◌≡◌, ◌++◌, ℕ, List, [], Option, Some, None, arith, rules}
use Rattle.std.proofs.lemmas.List.{append_assoc}
use Rattle.std.specs.Fmt.{AppendsText}
use Rattle.std.specs.Prelude.{IsSome, unwrap_or}
use Rattle.run_outputs.proofs.list_lines.list_line.Goals as goal

appended : (old new : List ℕ) (output : Option (List ℕ)) → IsSome output → AppendsText old new output → new ≡ old ++ unwrap_or output []
appended old new (Some text) is appends = appends
appended old new None is appends = absurd (cc is)

pub returns : goal.returns
returns g c =
    let items = c.in-Some.ensures.cases.0 in
    let is : IsSome (g.T.Display.output c.in-Some.first.now) = rw items at (c.requires 0 c.in-Some.first.now (omega (arith, c.in-Some.ensures.cases.1))) in
    let first = appended _ _ _ is c.in_ok-write.ensures.bytes in
    search (first, rules, append_assoc)
