-- One more book among the texts so far.
use Rattle.std.proofs.Common.{◌≡◌, ℕ, ◌+◌, ◌<◌, List, [], ◌∷◌, ◌++◌, length, get_or, map, take, refl, sym, ap, ◌∙◌, append_assoc, subst}
use Rattle.std.proofs.lemmas.List.{append-nil, take_more}
use Rattle.std.proofs.lemmas.List.Concat.{flat_map-append}
use Rattle.std.proofs.lemmas.List.Elements.{All-more}
use Rattle.std.specs.List.{All, flat_map, list_any}
use Rattle.account_core.specs.Entries.{asked_of, entry_data}
use Rattle.account_core.specs.declared.entry.Entry.{Entry}
use Rattle.book_texts.specs.BookTexts.{asks_steps, history_has_steps}

-- the next item of a list
pub next_item : {X : Type 0} (items : List X) (i : ℕ) (item : X) → i < length items → item ≡ get_or items i item
    → take (i + 1) items ≡ take i items ++ item ∷ []
next_item items i item within is = take_more items i item within ∙ ap (λ x. take i items ++ x ∷ []) (sym is)

-- the text of one more item
pub one_more : {X : Type 0} (text_of : X → List ℕ) (front text : List ℕ) (items : List X) (i : ℕ) (item : X)
    → i < length items → item ≡ get_or items i item → text ≡ front ++ flat_map text_of (take i items)
    → text ++ text_of item ≡ front ++ flat_map text_of (take (i + 1) items)
one_more text_of front text items i item within is so_far =
    rw (so_far, next_item items i item within is, flat_map-append text_of (take i items) (item ∷ []), append-nil (text_of item))
    (append_assoc front (flat_map text_of (take i items)) (text_of item))

-- ---- what holds of each item so far

pub all_so_far : {X : Type 0} (P : X → Type 0) (items : List X) (i : ℕ) (item : X) → i < length items → item ≡ get_or items i item
    → All P (take i items) → P item → All P (take (i + 1) items)
all_so_far P items i item within is so_far here = All-more P items i item within so_far (subst P is here)

-- an entry of the code bills in steps where what it says does
pub steps_of_entries : (entries : List Entry) → list_any (λ entry. asks_steps (asked_of entry.op)) entries ≡ history_has_steps (map entry_data entries)
steps_of_entries [] = refl
steps_of_entries (entry ∷ entries) = rw (steps_of_entries entries) refl
