use Rattle.std.proofs.Common.{List, map, take, sym, append_assoc, append-nil, arith}
use Rattle.std.specs.List.{All}
use Rattle.std.proofs.lemmas.List.{take_all}
use Rattle.std.proofs.lemmas.Grind.{common_steps}
use Rattle.std.proofs.lemmas.List.Elements.{All-map, All-nil, All-same}
use Rattle.account_core.specs.Entries.{entry_data}
use Rattle.account_core.specs.declared.entry.Entry.{Entry}
use Rattle.book_texts.proofs.TextLemmas.{all_so_far}
use Rattle.book_texts.specs.Typed.{IsTypedEntry}
use Rattle.book_texts.proofs.table.write_book.Goals as goal

pub loop-entry-init : goal.loop-entry-init
loop-entry-init c = (
  rw (c.in_ok-writeln.ensures.bytes, c.in_ok-write_money.ensures, c.in_ok-write.ensures.bytes, c.account-account.ensures, c.opening.ensures, c.until.ensures)
      (simp (append_assoc, append-nil)),
  All-nil (λ entry. IsTypedEntry (entry_data entry)),
)

pub loop-entry-preserved : goal.loop-entry-preserved
loop-entry-preserved c = (
  grind (arith, common_steps),
  let P : Entry → Type 0 = λ entry. IsTypedEntry (entry_data entry) in
      all_so_far P c.history-entry-items.result.now c.loop-entry.entry-index c.entry-item.result c.loop-entry-test.true c.entry-item.is c.loop-entry.invariant.1
      c.in_ok-write_entry.ensures.typed,
)

pub returns-clause-typed : goal.returns-clause-typed
returns-clause-typed c = record {
  account = omega (arith, c.account-account.ensures, c.account-account.type_inv);
  history = let P : Entry → Type 0 = λ entry. IsTypedEntry (entry_data entry) in
      let entries : List Entry = c.history-entry-items.result.now in
      let typed : All P entries = All-same P entries (take c.loop-entry.entry-index entries) (sym (take_all c.loop-entry.entry-index entries c.loop-entry-test.false)) c.loop-entry.invariant.1 in
      All-same IsTypedEntry c.args.book.now.history (map entry_data entries) (sym c.history-entry-items.ensures.value) (All-map IsTypedEntry entry_data entries typed);
  within_limit = c.history-entry-items.ensures.within_limit;
}
