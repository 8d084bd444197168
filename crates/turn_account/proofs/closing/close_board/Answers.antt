use Rattle.std.proofs.Common.{◌≡◌, List, ap, length, map, sym, ◌∙◌, subst, true, refl}
use Rattle.std.specs.Prelude.{◌<◌, ◌≤◌, All}
use Rattle.account_core.specs.Ledger.{Ledger}
use Rattle.account_core.specs.Closed.{Closed, IsBookOf}
use Rattle.turn_account.specs.Ended.{HaveEnded}
use Rattle.account_core.specs.Prefixes.{IsPrefix}
use Rattle.account_core.specs.Seats.{are_numbered}
use Rattle.turn_account.specs.Seen.{IsOpenedAs}
use Rattle.turn_account.specs.TurnViews.{TurnSeatView, own_of}
use Rattle.turn_account.specs.Views.{unopened}
use Rattle.turn_account.proofs.Ending.{each_closed, merged_closed}
use Rattle.turn_account.proofs.closing.close_board.Goals as goal

pub gather-chair-requires-clause-some_seats : goal.gather-chair-requires-clause-some_seats
gather-chair-requires-clause-some_seats c =
    let many : length c.args.seats.items ≡ c.args.count = ap length (sym c.as_slice.ensures.value) ∙ (c.as_slice.ensures.len ∙ (sym c.len.ensures ∙ c.if-len-count.false)) in
    subst (λ n. 1 ≤ n) (sym many) c.requires.board.some_seats

pub clear_board-requires-clause-last : goal.clear_board-requires-clause-last
clear_board-requires-clause-last c =
    let many : length c.args.seats.items ≡ c.args.count = ap length (sym c.as_slice.ensures.value) ∙ (c.as_slice.ensures.len ∙ (sym c.len.ensures ∙ c.if-len-count.false)) in
    c.gather-chair.ensures.last ∙ (many ∙ sym c.requires.board.seats)

pub returns-clause-book : goal.returns-clause-book
returns-clause-book c =
    let seats : List TurnSeatView = c.args.seats.items in
    let account : Ledger = c.clear_board.result in
    let numbered : are_numbered 0 (map (λ (s : TurnSeatView). s.number) seats) ≡ true = rw c.as_slice.ensures.value at (sym c.if-not-are_numbered.ensures) in
    let have : HaveEnded account 0 (map (λ (s : TurnSeatView). s.view) seats) = subst (HaveEnded account 0) c.gather-chair.ensures.taken c.clear_board.ensures.each in
    let others : All (λ entry. entry.seat < length (map (λ (s : TurnSeatView). s.view) seats)) account.history =
    subst (λ (lasts : List Ledger). All (λ entry. entry.seat < length lasts) account.history) c.gather-chair.ensures.taken c.clear_board.ensures.no_others in
    subst (IsBookOf _ (map own_of seats)) (sym c.new.ensures) (record {
      account = refl;
      opening = c.clear_board.ensures.opening;
      until = c.clear_board.ensures.until;
      limit = c.clear_board.ensures.limit;
      legal = c.clear_board.ensures.legal;
      merged = merged_closed account seats numbered have others (record { table = c.args.board.shared.table_id; number = 0; view = unopened });
    })

pub returns-clause-seen : goal.returns-clause-seen
returns-clause-seen c =
    let seats : List TurnSeatView = c.args.seats.items in
    let account : Ledger = c.clear_board.result in
    let have : HaveEnded account 0 (map (λ (s : TurnSeatView). s.view) seats) = subst (HaveEnded account 0) c.gather-chair.ensures.taken c.clear_board.ensures.each in
    subst (λ (book : Closed). All (λ (s : TurnSeatView). IsPrefix s.view.history book.history) seats) (sym c.new.ensures)
    (each_closed (λ (last : Ledger). IsPrefix last.history account.history) account (λ number last has. has.seen) 0 seats have)

pub returns-clause-opened : goal.returns-clause-opened
returns-clause-opened c =
    let seats : List TurnSeatView = c.args.seats.items in
    let account : Ledger = c.clear_board.result in
    let have : HaveEnded account 0 (map (λ (s : TurnSeatView). s.view) seats) = subst (HaveEnded account 0) c.gather-chair.ensures.taken c.clear_board.ensures.each in
    subst (λ (book : Closed). All (λ (s : TurnSeatView). IsOpenedAs s.view book) seats) (sym c.new.ensures)
    (each_closed (λ (last : Ledger). IsOpenedAs last (record { account = c.args.number; opening = account.opening; until = account.until; limit = account.limit; history = account.history })) account
    (λ number last has. record { opening = sym has.opening; until = sym has.until; limit = sym has.limit }) 0 seats have)
