use Rattle.run_outputs.proofs.refused_lines.add_kinds.Goals as goal

pub returns : goal.returns
returns c =
    rw (
      c.in_ok-add_kind-5.ensures,
      c.in_ok-add_kind-4.ensures,
      c.in_ok-add_kind-3.ensures,
      c.in_ok-add_kind-2.ensures,
      c.in_ok-add_kind.ensures,
      c.requires,
    )
    at c.add_kind-6.ensures
