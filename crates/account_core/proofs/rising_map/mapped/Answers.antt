use Rattle.std.proofs.Common.{◌+◌, ◌++◌, ◌∷◌, ap, drop, sym, ◌∙◌}
use Rattle.std.specs.BTreeMap.{insert_entry}
use Rattle.std.specs.Ordering.{nat_cmp}
use Rattle.std.proofs.lemmas.List.{append-nil, drop_all, drop_more}
use Rattle.account_core.proofs.RisingLemmas.{mapped_more}
use Rattle.account_core.proofs.rising_map.mapped.Goals as goal

pub loop-listed-preserved : goal.loop-listed-preserved
loop-listed-preserved g c =
    let items = c.args.list.now in
    let i = c.loop-listed.listed-index in
    let item = c.loop-listed-item.result in
    let next = drop_more items i item c.loop-listed-test.true ∙ ap (λ e. e ∷ drop (i + 1) items) (sym c.loop-listed-item.is) in
    rw c.in_ok-insert.ensures.entries
    (mapped_more c.loop-listed.map.entries item (drop (i + 1) items) items c.requires
    (ap (λ rest. c.loop-listed.map.entries ++ rest) (sym next) ∙ c.loop-listed.invariant))

pub returns : goal.returns
returns g c =
    let whole = rw (drop_all c.loop-listed.listed-index c.args.list.now c.loop-listed-test.false, append-nil) at c.loop-listed.invariant in
    c.in_ok-insert-2.ensures.entries ∙ ap (λ entries. insert_entry nat_cmp entries c.args.number c.args.value) whole
