use Rattle.std.proofs.Common.{◌-◌, length, sym, arith}
use Rattle.std.proofs.lemmas.Bool.Decides.{nat_tests}
use Rattle.std.proofs.lemmas.Option.{get_or_from_slice_get}
use Rattle.account_core.proofs.RisingLemmas.{above_last}
use Rattle.account_core.proofs.rising_map.is_above.Goals as goal

pub returns-in-Some : goal.returns-in-Some
returns-in-Some g c less = above_last c.args.number c.args.list.now c.in-Some.last.now c.requires
    (λ d. get_or_from_slice_get c.args.list.now (length c.args.list.now - 1) c.in-Some.last.now d (sym c.in-Some.ensures.value))
    (grind (arith, nat_tests))
