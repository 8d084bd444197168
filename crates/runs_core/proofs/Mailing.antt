-- What is in the mails of a worker.
use Rattle.std.proofs.Common.{◌≡◌, true, List, [], ◌∷◌, ◌++◌, refl, ap, sym, ◌∙◌}
use Rattle.std.specs.Global.{Vec}
use Rattle.std.specs.Prelude.{Err, MatchResult, Ok, Result}
use Rattle.std.proofs.lemmas.List.{append-nil, append_assoc}
use Rattle.runs_core.specs.Logs.{has_close}
use Rattle.runs_core.specs.declared.ends.Gone.{Gone}
use Rattle.runs_core.specs.declared.mailboxes.Mail.{Mail}
use Rattle.runs_core.specs.declared.mailboxes.Mail.TheVariants.{Work, Close}
use Rattle.runs_core.specs.Mails.{items_in}

pub items_in-append : {X : Type 0} (mails later : List (Mail (Vec X))) → items_in (mails ++ later) ≡ items_in mails ++ items_in later
items_in-append [] later = refl
items_in-append (Work list ∷ mails) later = ap (λ items. list.items ++ items) (items_in-append mails later) ∙ sym (append_assoc list.items (items_in mails) (items_in later))
items_in-append (Close ∷ mails) later = items_in-append mails later

-- one list more
pub items_more : {X : Type 0} (mails now : List (Mail (Vec X))) (list : Vec X) → now ≡ mails ++ Work list ∷ [] → items_in now ≡ items_in mails ++ list.items
items_more mails now list grown = ap items_in grown ∙ items_in-append mails (Work list ∷ []) ∙ ap (λ items. items_in mails ++ items) (append-nil list.items)

-- a last mail has nothing in it
pub items_closed : {X : Type 0} (mails now : List (Mail (Vec X))) → now ≡ mails ++ Close ∷ [] → items_in now ≡ items_in mails
items_closed mails now grown = ap items_in grown ∙ items_in-append mails (Close ∷ []) ∙ append-nil (items_in mails)

pub closes : {X : Type 0} (mails : List (Mail (Vec X))) → has_close (mails ++ Close ∷ []) ≡ true
closes [] = refl
closes (Work list ∷ mails) = closes mails
closes (Close ∷ mails) = refl

-- whether it was sent or not
pub same_items : {X : Type 0} (result : Result (Unit {0}) Gone) (old now : List (Mail (Vec X)))
    → MatchResult result (λ _. now ≡ old ++ Close ∷ []) (λ gone. now ≡ old) → items_in now ≡ items_in old
same_items (Ok done) old now grown = items_closed old now grown
same_items (Err gone) old now kept = ap items_in kept

-- with the last mail taken, all that was sent is what was taken before it, and the last mail
pub whole_sent : {X : Type 0} (before now all : List (Mail (Vec X))) → now ≡ before ++ Close ∷ [] → (has_close now ≡ true → now ≡ all) → all ≡ before ++ Close ∷ []
whole_sent before now all last whole = sym (whole (rw (last) (closes before))) ∙ last
