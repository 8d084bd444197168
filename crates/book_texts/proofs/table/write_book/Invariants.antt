use Rattle.std.proofs.Common.{◌≡◌, ◌++◌, map, string_bytes, take}
use Rattle.std.specs.List.{All, flat_map}
use Rattle.account_core.specs.Entries.{entry_data}
use Rattle.book_texts.specs.BookTexts.{entry_row, opening_row}
use Rattle.book_texts.specs.Typed.{IsTypedEntry}
use Rattle.book_texts.proofs.table.write_book.Given as goal

abbrev pub invariant-loop-entry : goal.invariant-loop-entry
invariant-loop-entry l =
    (string_bytes l.text
    ≡ string_bytes l.fn.text ++ (opening_row l.version l.book ++ flat_map (entry_row l.version l.book.account) (map entry_data (take l.entry-index l.entry-items))))
    × All (λ entry. IsTypedEntry (entry_data entry)) (take l.entry-index l.entry-items)
