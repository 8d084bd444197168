use Rattle.std.proofs.Common.{◌≡◌, inl, inr, ap}
use Rattle.std.specs.Prelude.{◌⊎◌}
use Rattle.book_texts.specs.BookTexts.{book_header}
use Rattle.book_texts.specs.declared.version.Version.{Version}
use Rattle.book_texts.specs.declared.version.Version.TheVariants as version
use Rattle.book_texts.proofs.table.write_header.Goals as goal

-- the first three versions have the same header
same_header : (some : Version)
    → (some ≡ version.One) ⊎ ((some ≡ version.Two) ⊎ (some ≡ version.Three))
    → book_header some ≡ book_header version.Three
same_header some (inl is) = ap book_header is
same_header some (inr (inl is)) = ap book_header is
same_header some (inr (inr is)) = ap book_header is

pub returns-in-One : goal.returns-in-One
returns-in-One c = rw (same_header c.args.version c.in-One.is) c.writeln.ensures.bytes

pub returns-in-Four : goal.returns-in-Four
returns-in-Four c = rw c.in-Four.is c.writeln-in-Four.ensures.bytes
