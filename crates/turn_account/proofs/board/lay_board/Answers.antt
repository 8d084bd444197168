use Rattle.std.proofs.Common.{◌≡◌, ◌<◌, ◌^◌, ◌∷◌, ◌++◌, [], List, Option, Some, ap, rules, subst, sym, ◌∙◌}
use Rattle.atomic_table.specs.Table.{opening}
use Rattle.account_core.specs.Ledger.{Ledger}
use Rattle.turn_account.specs.Turns.{Kept}
use Rattle.turn_account.specs.Views.{first_view}
use Rattle.turn_account.specs.declared.board.Start.{Start}
use Rattle.turn_account.proofs.Seating.{starts}
use Rattle.turn_account.proofs.board.lay_board.Goals as goal

pub new-requires : goal.new-requires
new-requires c =
    let start : Start = c.args.start in
    let account : Ledger = record { opening = start.opening; until = start.until; limit = start.limit; history = [] } in
    let same : c.new-account.result ≡ account = c.new-account.ensures in
    let items : c.push_reserved.new.self.items ≡ Some account ∷ [] =
    c.push_reserved.ensures.items ∙ (ap (λ xs. xs ++ Some c.new-account.result ∷ []) c.in_ok-slots.ensures.items ∙ ap (λ a. Some a ∷ []) same) in
    let K : List (Option Ledger) → Type 0 = λ xs. Kept start (opening (0 ∷ 0 ∷ 0 ∷ []) xs (first_view start.opening start.until start.limit)) in
    let bounded : start.limit < 2 ^ 32 = search rules in
    subst K (sym items) (starts start bounded c.requires.some_seats c.requires.few_seats)
