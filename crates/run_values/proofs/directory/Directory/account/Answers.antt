use Rattle.std.proofs.Common.{◌≡◌, ◌∙◌, sym, true}
use Rattle.std.proofs.lemmas.Map.Views.{All-values-insert_entry}
use Rattle.std.specs.Ordering.{nat_cmp}
use Rattle.run_values.specs.Openings.{opening_is_in_range}
use Rattle.run_values.proofs.directory.Directory.account.Goals as goal

pub invariant_of-self-2 : goal.invariant_of-self-2
invariant_of-self-2 c =
    rw c.in_ok-insert.ensures.entries
    (All-values-insert_entry nat_cmp c.args.number c.args.opening (λ opening. opening_is_in_range opening ≡ true) c.self.inside.accounts.entries c.self.invariant (sym c.is_in_range.ensures ∙ c.if-not-is_in_range.false))
