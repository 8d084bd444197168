use Rattle.std.proofs.Common.{refl, sym, ◌∙◌}
use Rattle.locked_account.proofs.Merging.{merged, merged_each, merged_others}
use Rattle.locked_account.proofs.closing.are_merged.Goals as goal

pub returns-then-have_own : goal.returns-then-have_own
returns-then-have_own c = (
  λ is. merged c.args.history.now c.args.seats.now c.requires (c.if-have_own.ensures.0 refl) (c.are_of_seats.ensures.0 is),
  λ is. c.are_of_seats.ensures.1 (merged_others c.args.history.now c.args.seats.now is),
)

pub returns-else-have_own : goal.returns-else-have_own
returns-else-have_own c = (
  λ is. absurd (cc (sym is ∙ c.if-have_own.false)),
  λ is. c.have_own.ensures.1 (merged_each c.args.history.now c.args.seats.now is c.requires),
)
