-- What the columns of a reply say, by its word.
use Rattle.std.specs.Prelude.{◌&&◌, ℕ, Bool, true, false, Result, Ok}
use Rattle.account_core.specs.declared.entry.Reply.{Reply}
use Rattle.account_core.specs.declared.entry.Reply.TheVariants as reply
use Rattle.table_core.specs.Judging.{and_then}
use Rattle.table_core.specs.declared.fault.RowKind.{RowKind}
use Rattle.book_texts.specs.Column.{money_of, units_of}
use Rattle.book_texts.specs.Columns.{Answer}
use Rattle.book_texts.specs.declared.words.ReplyWord.{ReplyWord}
use Rattle.book_texts.specs.declared.words.ReplyWord.TheVariants as word
use Rattle.table_core.specs.Fields.{is_empty_field}

-- `granted`: y1 the time
abbrev pub granted_in : Answer → Bool → ℕ → Result Reply RowKind
granted_in a last available = and_then (units_of a.y1) (λ units. Ok (reply.Granted units last available))

-- the reply of the word, which shows this credit; y1 is what was paid
abbrev pub shown_in : ReplyWord → Answer → ℕ → Result Reply RowKind
shown_in word.Credited a available = Ok (reply.Credited available)
shown_in word.CreditOver a available = Ok (reply.CreditOver available)
shown_in word.GrantedMore a available = granted_in a false available
shown_in word.GrantedLast a available = granted_in a true available
shown_in word.Denied a available = Ok (reply.Denied available)
shown_in word.Settled a available = and_then (money_of a.y1) (λ paid. Ok (reply.Settled paid available))
shown_in word.Forfeit a available = and_then (money_of a.y1) (λ paid. Ok (reply.Forfeit paid available))
shown_in word.Returned a available = and_then (money_of a.y1) (λ paid. Ok (reply.Returned paid available))

-- the reply of the word: y3 is the credit that it shows
abbrev pub reply_in : ReplyWord → Answer → Result Reply RowKind
reply_in word a = and_then (money_of a.y3) (shown_in word a)

-- the columns that the reply doesn't use are empty
abbrev pub is_reply_blank : ReplyWord → Answer → Bool
is_reply_blank word.Credited a = is_empty_field a.y1 && is_empty_field a.y2
is_reply_blank word.CreditOver a = is_empty_field a.y1 && is_empty_field a.y2
is_reply_blank word.GrantedMore a = true
is_reply_blank word.GrantedLast a = true
is_reply_blank word.Denied a = is_empty_field a.y1 && is_empty_field a.y2
is_reply_blank word.Settled a = is_empty_field a.y2
is_reply_blank word.Forfeit a = is_empty_field a.y2
is_reply_blank word.Returned a = is_empty_field a.y2
