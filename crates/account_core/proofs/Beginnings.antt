-- Histories that begin others.
use Rattle.std.proofs.Common.{◌≡◌, ◌≢◌, ◌≤◌, ◌+◌, ℕ, Bool, true, false, List, [], ◌∷◌, ◌++◌, length, append-nil, append_assoc, length-append, refl, sym, ap, ◌∙◌, arith, subst, eq-eqb, ne_eqb, Option}
use Rattle.std.specs.Prelude.{◌==◌, if◌then◌else◌, reverse}
use Rattle.std.proofs.lemmas.List.{reverse-append, nil_from_length}
use Rattle.account_core.specs.Answers.{IsLegal, IsLegalPast}
use Rattle.std.proofs.lemmas.List.Elements.{filter-append}
use Rattle.account_core.proofs.LawLemmas.{prefix_legal}
use Rattle.account_core.specs.Entries.{EntryData}
use Rattle.account_core.specs.Own.{own}
use Rattle.account_core.specs.Prefixes.{IsPrefix}

pub begins_itself : (history : List EntryData) → IsPrefix history history
begins_itself history = record { rest = []; is = sym (append-nil history) }

pub begins_any : (history : List EntryData) → IsPrefix [] history
begins_any history = record { rest = history; is = refl }

pub begins_longer : (history : List EntryData) (entry : EntryData) → IsPrefix history (history ++ entry ∷ [])
begins_longer history entry = record { rest = entry ∷ []; is = refl }

pub begins_further : (first second third : List EntryData) → IsPrefix first second → IsPrefix second third → IsPrefix first third
begins_further first second third begins goes_on = record {
  rest = begins.rest ++ goes_on.rest;
  is = goes_on.is ∙ (ap (λ (h : List EntryData). h ++ goes_on.rest) begins.is ∙ append_assoc first begins.rest goes_on.rest);
}

pub begins_within : (earlier later : List EntryData) → IsPrefix earlier later → length earlier ≤ length later
begins_within earlier later begins = omega (arith, ap length begins.is, length-append earlier begins.rest)

both_begin : (first second more further : List EntryData) → first ++ more ≡ second ++ further → length first ≤ length second → IsPrefix first second
both_begin [] second more further same within = begins_any second
both_begin (entry ∷ first) [] more further same within = absurd (omega (arith, within))
both_begin (entry ∷ first) (other ∷ second) more further same within =
    let alike : first ++ more ≡ second ++ further = cc same in
    let head : other ≡ entry = cc same in
    let begins = both_begin first second more further alike (omega (arith, within)) in
    record { rest = begins.rest; is = λ i. head i ∷ begins.is i }

-- of two histories that begin a third, the shorter begins the longer
pub shorter_begins : (first second third : List EntryData) → IsPrefix first third → IsPrefix second third → length first ≤ length second → IsPrefix first second
shorter_begins first second third begins too within = both_begin first second begins.rest too.rest (sym begins.is ∙ too.is) within

-- what begins a legal history is legal
pub legal_begins : (opening : ℕ) (until : Option ℕ) (earlier later : List EntryData) → IsPrefix earlier later → IsLegal opening until later → IsLegal opening until earlier
legal_begins opening until earlier later begins legal =
    let L : List EntryData → Type 0 = IsLegalPast opening until in
    prefix_legal opening until (reverse begins.rest) (reverse earlier) (subst L (ap reverse begins.is ∙ reverse-append earlier begins.rest) legal)

-- ---- own entries

pub own_begins : (seat : ℕ) (earlier later : List EntryData) → IsPrefix earlier later → IsPrefix (own seat earlier) (own seat later)
own_begins seat earlier later begins = record {
  rest = own seat begins.rest;
  is = ap (own seat) begins.is ∙ filter-append (λ entry. entry.seat == seat) earlier begins.rest;
}

-- a history between two with the same own entries has those too
pub own_between : (seat : ℕ) (first second third : List EntryData) → IsPrefix first second → IsPrefix second third → own seat first ≡ own seat third
    → own seat second ≡ own seat first
own_between seat first second third begins goes_on same =
    let here = own_begins seat first second begins in
    let there = own_begins seat second third goes_on in
    let more : length (own seat second) ≡ length (own seat first) + length here.rest = ap length here.is ∙ length-append (own seat first) here.rest in
    let further : length (own seat third) ≡ length (own seat second) + length there.rest = ap length there.is ∙ length-append (own seat second) there.rest in
    let none : length here.rest ≡ 0 = omega (arith, more, further, ap length same) in
    here.is ∙ (ap (λ (h : List EntryData). own seat first ++ h) (nil_from_length here.rest none) ∙ append-nil (own seat first))

own_if : (here : Bool) (history : List EntryData) (entry : EntryData) → here ≡ false → history ++ (if here then entry ∷ [] else []) ≡ history
own_if true history entry not_here = absurd (cc not_here)
own_if false history entry not_here = append-nil history

-- another seat's entry changes nothing of one's own
pub own_other : (seat : ℕ) (history : List EntryData) (entry : EntryData) → entry.seat ≢ seat → own seat (history ++ entry ∷ []) ≡ own seat history
own_other seat history entry other =
    filter-append (λ e. e.seat == seat) history (entry ∷ []) ∙ own_if (entry.seat == seat) (own seat history) entry (ne_eqb entry.seat seat other)

own_kept : (here : Bool) (history : List EntryData) (entry : EntryData) → here ≡ true → history ++ (if here then entry ∷ [] else []) ≡ history ++ entry ∷ []
own_kept true history entry is_here = refl
own_kept false history entry is_here = absurd (cc is_here)

pub own_entry : (seat : ℕ) (history : List EntryData) (entry : EntryData) → entry.seat ≡ seat → own seat (history ++ entry ∷ []) ≡ own seat history ++ entry ∷ []
own_entry seat history entry its =
    filter-append (λ e. e.seat == seat) history (entry ∷ []) ∙ own_kept (entry.seat == seat) (own seat history) entry (eq-eqb entry.seat seat its)
