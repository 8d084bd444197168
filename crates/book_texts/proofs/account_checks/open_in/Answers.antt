use Rattle.std.proofs.Common.{[], refl, sym, ◌∙◌}
use Rattle.std.specs.BTreeMap.{is_at}
use Rattle.std.specs.Ordering.{nat_cmp}
use Rattle.book_texts.proofs.CheckLemmas.{checks_inserted, found, is_known, is_new}
use Rattle.book_texts.proofs.account_checks.open_in.Goals as goal

pub returns-then-contains_key : goal.returns-then-contains_key
returns-then-contains_key c = λ books opening until are heard.
    let (booked, is) = is_known _ _ (found (is_at (nat_cmp c.args.account)) books c.args.map.now.entries are) (sym c.contains_key.ensures ∙ c.if-contains_key.true) in
    rw is (refl, are)

pub returns : goal.returns
returns c = λ books opening until are heard.
    let none = is_new _ _ (found (is_at (nat_cmp c.args.account)) books c.args.map.now.entries are) (sym c.contains_key.ensures ∙ c.if-contains_key.false) in
    rw (none, c.in_ok-insert.ensures.entries)
    (checks_inserted nat_cmp c.args.account (record { opening = opening; until = until; history = [] }) c.args.check heard books c.args.map.now.entries are)
