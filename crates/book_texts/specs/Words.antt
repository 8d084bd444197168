-- The words of operations and of replies.
use Rattle.std.specs.Prelude.{ℕ, List, Result, Ok, Err, codes, if◌then◌else◌}
use Rattle.std.specs.Str.{bytes_eq}
use Rattle.table_core.specs.declared.fault.RowKind.{RowKind}
use Rattle.table_core.specs.declared.fault.RowKind.TheVariants as kind
use Rattle.book_texts.specs.Columns.{Answer, Operation}
use Rattle.book_texts.specs.declared.words.OpWord.{OpWord}
use Rattle.book_texts.specs.declared.words.OpWord.TheVariants as op
use Rattle.book_texts.specs.declared.words.ReplyWord.{ReplyWord}
use Rattle.book_texts.specs.declared.words.ReplyWord.TheVariants as reply

-- the kind of a settle's report: `n` without a switch, `s` after one
abbrev pub report_word_in : List ℕ → Result OpWord RowKind
report_word_in text =
    if bytes_eq text (codes "n") then Ok op.SettleNoSwitch else if bytes_eq text (codes "s") then Ok op.SettleSwitch else Err kind.What

-- the word of an operation
abbrev pub op_word_in : Operation → Result OpWord RowKind
op_word_in o =
    if bytes_eq o.op (codes "credit") then Ok op.Credit else
    if bytes_eq o.op (codes "reserve") then Ok op.Reserve else
    if bytes_eq o.op (codes "settle") then report_word_in o.x2 else
    if bytes_eq o.op (codes "return") then Ok op.Return else Err kind.What

-- the second word of a grant
abbrev pub granted_word_in : List ℕ → Result ReplyWord RowKind
granted_word_in text =
    if bytes_eq text (codes "more") then Ok reply.GrantedMore else if bytes_eq text (codes "last") then Ok reply.GrantedLast else Err kind.What

-- the word of a reply
abbrev pub reply_word_in : Answer → Result ReplyWord RowKind
reply_word_in a =
    if bytes_eq a.reply (codes "granted") then granted_word_in a.y2 else
    if bytes_eq a.reply (codes "settled") then Ok reply.Settled else
    if bytes_eq a.reply (codes "returned") then Ok reply.Returned else
    if bytes_eq a.reply (codes "credited") then Ok reply.Credited else
    if bytes_eq a.reply (codes "over") then Ok reply.CreditOver else
    if bytes_eq a.reply (codes "denied") then Ok reply.Denied else
    if bytes_eq a.reply (codes "forfeit") then Ok reply.Forfeit else Err kind.What
