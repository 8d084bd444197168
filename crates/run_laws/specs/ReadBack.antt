-- What is printed is read back.
use Rattle.std.specs.Prelude.{◌≡◌, true, Ok, ⊤}
use Rattle.account_core.specs.Asked.{Asked, Reserves}
use Rattle.account_core.specs.Laws.{IsReplyInRange}
use Rattle.account_core.specs.declared.entry.Reply.{Reply}
use Rattle.book_texts.specs.Columns.{Answer, Operation, reply_fields, operation_of}
use Rattle.book_texts.specs.Fits.{FitsAsked}
use Rattle.book_texts.specs.Operations.{asked_in, is_asked_blank}
use Rattle.book_texts.specs.Replies.{is_reply_blank, reply_in}
use Rattle.book_texts.specs.Words.{op_word_in, reply_word_in}
use Rattle.book_texts.specs.declared.version.Version.{Version}
use Rattle.book_texts.specs.declared.version.Version.TheVariants as version
use Rattle.book_texts.specs.declared.words.OpWord.{OpWord}
use Rattle.book_texts.specs.declared.words.ReplyWord.{ReplyWord}

-- columns are read as an operation: their word is known, their numbers are its own, and the others are empty
pub record IsReadAsOp (asked : Asked) (columns : Operation) : Type 0 where
  pub word : OpWord
  pub known : op_word_in columns ≡ Ok word
  pub read : asked_in word columns ≡ Ok asked
  pub blank : is_asked_blank word columns ≡ true

-- the same of a reply
pub record IsReadAsReply (reply : Reply) (columns : Answer) : Type 0 where
  pub word : ReplyWord
  pub known : reply_word_in columns ≡ Ok word
  pub read : reply_in word columns ≡ Ok reply
  pub blank : is_reply_blank word columns ≡ true

-- a version in which an operation is printed whole: each in the fourth, and in the third each that has no billing steps
abbrev pub PrintsWhole : Version → Asked → Type 0
PrintsWhole version.Four asked = ⊤
PrintsWhole version.Three (Reserves call plan wanted least at) = (plan.first ≡ 0) × (plan.step ≡ 1)
PrintsWhole version.Three asked = ⊤
PrintsWhole version asked = ⊥

-- the columns that are printed of an operation, in such a version, are read as it
abbrev pub OperationsAreRead : Type 0
OperationsAreRead = (version : Version) (asked : Asked) → FitsAsked asked → PrintsWhole version asked → IsReadAsOp asked (operation_of version asked)

-- the columns that are printed of a reply are read as it
abbrev pub RepliesAreRead : Type 0
RepliesAreRead = (reply : Reply) → IsReplyInRange reply → IsReadAsReply reply (reply_fields reply)
