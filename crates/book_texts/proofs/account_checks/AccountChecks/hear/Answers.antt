use Rattle.std.proofs.Common.{refl, reverse, sym}
use Rattle.std.specs.BTreeMap.{is_at}
use Rattle.std.specs.Ordering.{nat_cmp}
use Rattle.account_core.specs.Entries.{entry_data}
use Rattle.account_core.proofs.RisingLemmas.{absent, present, rising_set, set_there}
use Rattle.book_texts.proofs.CheckLemmas.{check_after, found, heard_of, is_found, not_found}
use Rattle.book_texts.proofs.account_checks.AccountChecks.hear.Goals as goal

pub returns-in_default-clause-comes : goal.returns-in_default-clause-comes
returns-in_default-clause-comes c = λ books have.
    let (are, rising) = rw c.in-Rising.is at have in
    let others = rw (c.as_slice.ensures.value, c.from-account.ensures) at c.in_default.ensures.absent in
    rw (not_found _ _ (found (is_at (nat_cmp c.args.account)) books c.in-Rising.list.items are) (absent c.args.account c.in-Rising.list.items others)) (refl, (are, rising))

pub returns-in_default-clause-heard : goal.returns-in_default-clause-heard
returns-in_default-clause-heard c = λ books have.
    let (are, rising) = rw c.in-Rising.is at have in
    let others = rw (c.as_slice.ensures.value, c.from-account.ensures) at c.in_default.ensures.absent in
    not_found _ _ (found (is_at (nat_cmp c.args.account)) books c.in-Rising.list.items are) (absent c.args.account c.in-Rising.list.items others)

pub hear-requires : goal.hear-requires
hear-requires c =
    let (books, have) = c.requires in
    let (are, rising) = rw c.in-Rising.is at have in
    let item = c.index_mut.result.now in
    let there = rw (c.as_slice.ensures.value, c.from-account.ensures) at c.in-Some.ensures.found in
    let (booked, is, heard) = is_found _ _ item.1 (found (is_at (nat_cmp c.args.account)) books c.in-Rising.list.items are)
    (present c.args.account c.in-Rising.list.items c.in-Some.place item rising there c.index_mut.ensures.value) in
    (booked.opening, booked.until, reverse booked.history, heard)

pub returns-in_ok-hear-in-Rising-clause-comes : goal.returns-in_ok-hear-in-Rising-clause-comes
returns-in_ok-hear-in-Rising-clause-comes c = λ books have.
    let (are, rising) = rw c.in-Rising.is at have in
    let item = c.index_mut.result.now in
    let there = rw (c.as_slice.ensures.value, c.from-account.ensures) at c.in-Some.ensures.found in
    let (booked, is, set) = check_after c.args.account (entry_data c.args.entry) books c.in-Rising.list.items are item.1 c.hear.new.self
    (present c.args.account c.in-Rising.list.items c.in-Some.place item rising there c.index_mut.ensures.value) c.in_ok-hear-in-Rising.ensures.heard in
    rw is (
      rw (set_there c.args.account c.in-Rising.list.items c.in-Some.place item c.hear.new.self rising there c.index_mut.ensures.value) at set,
      rising_set c.in-Rising.list.items c.in-Some.place item c.hear.new.self rising there.0 c.index_mut.ensures.value,
    )

pub returns-in_ok-hear-in-Rising-clause-heard : goal.returns-in_ok-hear-in-Rising-clause-heard
returns-in_ok-hear-in-Rising-clause-heard c = λ books have.
    let (are, rising) = rw c.in-Rising.is at have in
    let item = c.index_mut.result.now in
    let there = rw (c.as_slice.ensures.value, c.from-account.ensures) at c.in-Some.ensures.found in
    heard_of c.args.account (entry_data c.args.entry) books c.in-Rising.list.items are item.1
    (present c.args.account c.in-Rising.list.items c.in-Some.place item rising there c.index_mut.ensures.value)
    c.in_ok-hear-in-Rising.field-0 c.in_ok-hear-in-Rising.ensures.right c.in_ok-hear-in-Rising.ensures.wrong

pub returns-in_default-get_mut-clause-comes : goal.returns-in_default-get_mut-clause-comes
returns-in_default-get_mut-clause-comes c = λ books have.
    let (are, whole) = rw c.in-Mixed.is at have in
    let none = rw c.from-account.ensures at (sym c.in_default-get_mut.ensures.value) in
    rw (not_found _ _ (found (is_at (nat_cmp c.args.account)) books c.in-Mixed.map.entries are) none, c.get_mut.follows.holds-at-none) (refl, (are, whole))

pub returns-in_default-get_mut-clause-heard : goal.returns-in_default-get_mut-clause-heard
returns-in_default-get_mut-clause-heard c = λ books have.
    let (are, whole) = rw c.in-Mixed.is at have in
    not_found _ _ (found (is_at (nat_cmp c.args.account)) books c.in-Mixed.map.entries are) (rw c.from-account.ensures at (sym c.in_default-get_mut.ensures.value))

pub hear-requires-in-Mixed : goal.hear-requires-in-Mixed
hear-requires-in-Mixed c =
    let (books, have) = c.requires in
    let (are, whole) = rw c.in-Mixed.is at have in
    let (booked, is, heard) = is_found _ _ c.in-Some-get_mut.check.now (found (is_at (nat_cmp c.args.account)) books c.in-Mixed.map.entries are)
    (rw c.from-account.ensures at (sym c.in-Some-get_mut.ensures.value)) in
    (booked.opening, booked.until, reverse booked.history, heard)

pub returns-in_ok-hear-in-Mixed-clause-comes : goal.returns-in_ok-hear-in-Mixed-clause-comes
returns-in_ok-hear-in-Mixed-clause-comes c = λ books have.
    let (are, whole) = rw c.in-Mixed.is at have in
    let (booked, is, set) = check_after c.args.account (entry_data c.args.entry) books c.in-Mixed.map.entries are c.in-Some-get_mut.check.now c.hear-in-Mixed.new.self
    (rw c.from-account.ensures at (sym c.in-Some-get_mut.ensures.value)) c.in_ok-hear-in-Mixed.ensures.heard in
    rw (is, (c.get_mut.follows.holds c.hear-in-Mixed.new.self).0, c.from-account.ensures) (set, whole)

pub returns-in_ok-hear-in-Mixed-clause-heard : goal.returns-in_ok-hear-in-Mixed-clause-heard
returns-in_ok-hear-in-Mixed-clause-heard c = λ books have.
    let (are, whole) = rw c.in-Mixed.is at have in
    heard_of c.args.account (entry_data c.args.entry) books c.in-Mixed.map.entries are c.in-Some-get_mut.check.now
    (rw c.from-account.ensures at (sym c.in-Some-get_mut.ensures.value))
    c.in_ok-hear-in-Mixed.field-0 c.in_ok-hear-in-Mixed.ensures.right c.in_ok-hear-in-Mixed.ensures.wrong
