use Rattle.std.proofs.Common.{◌≡◌, string_bytes, take}
use Rattle.std.specs.Prelude.{is_none}
use Rattle.std.specs.List.{flat_map, list_all}
use Rattle.book_texts.specs.Audits.{verdict_lines}
use Rattle.book_texts.specs.Checks.{verdicts_of}
use Rattle.book_texts.proofs.audit.write_audit.Given as goal

-- the verdicts so far are printed
abbrev pub invariant-loop-account : goal.invariant-loop-account
invariant-loop-account l =
    (string_bytes l.lines ≡ flat_map (verdict_lines l.shown) (verdicts_of (take l.account-index l.account-items) l.checked.wrongs))
    × (l.passes ≡ list_all (λ verdict. is_none verdict.1) (verdicts_of (take l.account-index l.account-items) l.checked.wrongs))
