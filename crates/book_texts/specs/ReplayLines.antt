-- The lines that `replay` prints.
use Rattle.std.specs.Prelude.{List, ◌++◌, Result, codes, ℕ}
use Rattle.account_core.specs.declared.entry.Reply.{Reply}
use Rattle.account_core.specs.declared.fault.AccountFault.{AccountFault}
use Rattle.book_texts.specs.Responses.{response_text}

-- the line of an answer: its reply, or the fault in its place
abbrev pub response_line : Result Reply AccountFault → List ℕ
response_line response = response_text response ++ codes "\n"
