use Rattle.std.proofs.Common.{[], inl, inr}
use Rattle.run_outputs.proofs.part.kept_books.Goals as goal

pub returns-in_ok-add-in-Lines : goal.returns-in_ok-add-in-Lines
returns-in_ok-add-in-Lines c =
    let lines = rw c.as_slice.ensures.value at (c.in_ok-add-in-Lines.ensures [] c.new-lines.ensures) in
    elim c.in-Lines.is [
      | inl is ↦ rw is lines
      | inr (clock, is) ↦ rw is lines
    ]
