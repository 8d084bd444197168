use Rattle.std.proofs.Common.{◌∷◌, Some, sym, ap, ◌∙◌}
use Rattle.atomic_table.specs.Table.{rest}
use Rattle.turn_account.proofs.turn.ask_in_turn.Goals as goal

pub slot_mut-requires : goal.slot_mut-requires
slot_mut-requires c =
    let hands = c.requires.hands in
    (c.requires.table, (Some c.args.chair.now.me.0.seen, hands ∙ ap (λ l. (0, Some c.args.chair.now.me.0.seen) ∷ rest l) (sym hands)))
