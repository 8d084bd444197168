use Rattle.std.proofs.Common.{[], ◌∷◌, map, reverse, take}
use Rattle.std.proofs.lemmas.List.{map-append, reverse-append}
use Rattle.book_texts.proofs.TextLemmas.{next_item}
use Rattle.account_core.specs.Entries.{entry_data}
use Rattle.run_outputs.proofs.marks.marks_in.Goals as goal

pub loop-entry-preserved : goal.loop-entry-preserved
loop-entry-preserved c =
    let entries = c.args.history.now in
    let i = c.loop-entry.entry-index in
    let entry = c.entry-item.result in
    let done = take i entries in
    λ call. rw (next_item entries i entry c.loop-entry-test.true c.entry-item.is, map-append entry_data done (entry ∷ []), reverse-append (map entry_data done) (entry_data entry ∷ []))
    (c.in_ok-hear.ensures (reverse (map entry_data done)) c.loop-entry.invariant call)
