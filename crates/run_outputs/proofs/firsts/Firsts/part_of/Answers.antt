use Rattle.std.proofs.Common.{rules, of_calls, ap, sym, ◌∙◌, ℕ, List}
use Rattle.std.proofs.lemmas.Fn.{always_returns_same}
use Rattle.std.specs.List.Sorted.{IsPartitionedBy}
use Rattle.std.specs.Prelude.{nat_le}
use Rattle.run_outputs.proofs.Beginnings.{parted, point}
use Rattle.run_outputs.specs.Parts.{part_of_account}
use Rattle.run_outputs.proofs.firsts.Firsts.part_of.Goals as goal

pub returns-clause-part : goal.returns-clause-part
returns-clause-part c =
    let account = c.args.account in
    let rising : IsPartitionedBy (λ first. nat_le first account) c.deref.result.now = rw (c.deref.ensures.value) (parted c.self.inside.numbers.items account c.self.invariant) in
    let at = c.partition_point.ensures.partitioned (λ first. nat_le first account) (always_returns_same _ _ _ (λ a r f k. search (rules, of_calls))) rising in
    sym (point (λ first. nat_le first account) c.deref.result.now c.partition_point.result c.partition_point.ensures.bound at)
    ∙ ap (λ (firsts : List ℕ). part_of_account firsts account) (c.deref.ensures.value ∙ c.self.view_is)
