use Rattle.std.proofs.Common.{[]}
use Rattle.std.specs.BTreeMap.{is_at}
use Rattle.std.specs.Ordering.{nat_cmp}
use Rattle.book_texts.proofs.CheckLemmas.{checks_inserted, found, not_found}
use Rattle.account_core.proofs.RisingLemmas.{absent, below_other, inserted_last, rising_more}
use Rattle.book_texts.specs.Books.{Booked}
use Rattle.book_texts.proofs.account_checks.AccountChecks.open.Goals as goal

pub returns-then-is_above : goal.returns-then-is_above
returns-then-is_above c = λ books have.
    let account = c.args.account in
    let checks = c.in-Rising.list.items in
    let check = c.new-check.result in
    let (are, rising) = rw c.in-Rising.is at have in
    let below = rw (c.as_slice.ensures.value, c.from-account.ensures) at (c.is_above.ensures c.if-is_above.true) in
    let none = not_found _ _ (found (is_at (nat_cmp account)) books checks are) (absent account checks (below_other account checks below)) in
    let booked : Booked = record { opening = c.args.opening; until = c.args.until; history = [] } in
    rw (none, c.in_ok-push-in-Rising.ensures.items, c.from-account.ensures)
    (rw (← inserted_last account check checks below) (checks_inserted nat_cmp account booked check c.new-check.ensures books checks are), rising_more account check checks rising below)
