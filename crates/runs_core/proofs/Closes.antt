-- A Close is the last mail.
use Rattle.std.proofs.Common.{◌≡◌, true, false, List, [], ◌∷◌, ◌++◌, refl}
use Rattle.runs_core.specs.Logs.{ends_at_close, has_close, is_empty_log}
use Rattle.runs_core.specs.declared.mailboxes.Mail.{Mail}
use Rattle.runs_core.specs.declared.mailboxes.Mail.TheVariants.{Work, Close}

ends_with : {T : Type 0} (mail : Mail T) → ends_at_close (mail ∷ []) ≡ true
ends_with (Work content) = refl
ends_with Close = refl

-- after mails without a Close any mail may come
pub still_ends : {T : Type 0} (mails : List (Mail T)) (mail : Mail T) → has_close mails ≡ false → ends_at_close (mails ++ mail ∷ []) ≡ true
still_ends [] mail none = ends_with mail
still_ends (Work content ∷ mails) mail none = still_ends mails mail none
still_ends (Close ∷ mails) mail none = absurd (cc)

pub closed_by : {T : Type 0} (mails : List (Mail T)) (mail : Mail T) → has_close mails ≡ false → has_close (mails ++ mail ∷ []) ≡ has_close (mail ∷ [])
closed_by [] mail none = refl
closed_by (Work content ∷ mails) mail none = closed_by mails mail none
closed_by (Close ∷ mails) mail none = absurd (cc)

not_empty : {T : Type 0} (mails : List (Mail T)) (mail : Mail T) (later : List (Mail T)) → is_empty_log (mails ++ mail ∷ later) ≡ false
not_empty [] mail later = refl
not_empty (first ∷ mails) mail later = refl

-- mails that are followed by another have no Close
pub none_before : {T : Type 0} (mails : List (Mail T)) (mail : Mail T) (later : List (Mail T)) → ends_at_close (mails ++ mail ∷ later) ≡ true → has_close mails ≡ false
none_before [] mail later ends = refl
none_before (Work content ∷ mails) mail later ends = none_before mails mail later ends
none_before (Close ∷ mails) mail later ends = let more = not_empty mails mail later in absurd (cc)

-- after a Close nothing waits
pub nothing_waits : {T : Type 0} (mails waiting : List (Mail T)) → ends_at_close (mails ++ waiting) ≡ true → has_close mails ≡ true → waiting ≡ []
nothing_waits mails [] ends closed = refl
nothing_waits mails (mail ∷ later) ends closed = let none = none_before mails mail later ends in absurd (cc)
