-- What a history says of a call it says by the call's entries alone.
use Rattle.std.proofs.Common.{◌≡◌, ℕ, Bool, true, false, List, [], ◌∷◌, ◌++◌, append-nil, refl, sym, ap, ◌∙◌}
use Rattle.std.specs.Prelude.{◌==◌, if◌then◌else◌, filter, reverse}
use Rattle.std.proofs.lemmas.List.{reverse-append}
use Rattle.std.proofs.lemmas.List.Elements.{filter-append}
use Rattle.account_core.proofs.Moves.{known_apart}
use Rattle.account_core.specs.Asked.{Asked, Credits, Reserves, Returns, Settles, call_of}
use Rattle.account_core.specs.Entries.{EntryData}
use Rattle.account_core.specs.Known.{deed, deed_of, is_open, known, known_after}
use Rattle.account_core.specs.Places.{IsOwed}
use Rattle.account_core.specs.Own.{asks_of_call, of_call}
use Rattle.account_core.proofs.Knowing.{known_resting}

-- ---- reversed

filtered_if : {X : Type 0} (kept : Bool) (x : X) (ys : List X) → reverse (if kept then x ∷ ys else ys) ≡ reverse ys ++ (if kept then x ∷ [] else [])
filtered_if true x ys = reverse-append (x ∷ []) ys
filtered_if false x ys = sym (append-nil (reverse ys))

pub filter_reverse : {X : Type 0} (p : X → Bool) (xs : List X) → filter p (reverse xs) ≡ reverse (filter p xs)
filter_reverse p [] = refl
filter_reverse p (x ∷ xs) =
    ap (filter p) (reverse-append (x ∷ []) xs) ∙ (filter-append p (reverse xs) (x ∷ []) ∙ (ap (λ ys. ys ++ filter p (x ∷ [])) (filter_reverse p xs)
    ∙ sym (filtered_if (p x) x (filter p xs))))

-- ---- the entries of a call

rests_apart : (h : List EntryData) (entry : EntryData) (call : ℕ) (asked : Asked) → entry.asked ≡ asked → asks_of_call call asked ≡ false → known call (entry ∷ h) ≡ known call h
rests_apart h entry call (Credits amount moment) same apart =
    known_resting h entry call (ap (λ a. deed_of a entry.reply) same)
rests_apart h entry call (Reserves other plan wanted least at) same apart = known_apart h entry call (ap (λ a. call_of a == call) same ∙ apart)
rests_apart h entry call (Settles other number info) same apart = known_apart h entry call (ap (λ a. call_of a == call) same ∙ apart)
rests_apart h entry call (Returns other) same apart = known_apart h entry call (ap (λ a. call_of a == call) same ∙ apart)

known_if : (here : Bool) (h : List EntryData) (entry : EntryData) (call : ℕ) → asks_of_call call entry.asked ≡ here → known call h ≡ known call (of_call call h)
    → known call (entry ∷ h) ≡ known call (if here then entry ∷ of_call call h else of_call call h)
known_if true h entry call is same = ap (λ k. known_after k (deed call entry)) same
known_if false h entry call is same = rests_apart h entry call entry.asked refl is ∙ same

pub known_of_call : (call : ℕ) (h : List EntryData) → known call h ≡ known call (of_call call h)
known_of_call call [] = refl
known_of_call call (entry ∷ h) = known_if (asks_of_call call entry.asked) h entry call refl (known_of_call call h)

pub known_alike : (call : ℕ) (history mine : List EntryData) → of_call call history ≡ of_call call mine → known call (reverse history) ≡ known call (reverse mine)
known_alike call history mine same =
    known_of_call call (reverse history) ∙ (ap (known call) (filter_reverse (λ entry. asks_of_call call entry.asked) history ∙ (ap reverse same
    ∙ sym (filter_reverse (λ entry. asks_of_call call entry.asked) mine))) ∙ sym (known_of_call call (reverse mine)))

-- what a call is owed by one history it is owed by another with the same entries of the call
pub owed_alike : (history mine : List EntryData) (asked : Asked) → IsOwed (reverse history) asked
    → of_call (call_of asked) history ≡ of_call (call_of asked) mine → IsOwed (reverse mine) asked
owed_alike history mine (Credits amount moment) is_owed same = is_owed
owed_alike history mine (Reserves call plan wanted least at) is_owed same = is_owed
owed_alike history mine (Settles call number info) is_owed same =
    let alike = known_alike call history mine same in
    (ap is_open (sym alike) ∙ is_owed.0, ap (λ k. k.awaits) (sym alike) ∙ is_owed.1)
owed_alike history mine (Returns call) is_owed same = ap is_open (sym (known_alike call history mine same)) ∙ is_owed
