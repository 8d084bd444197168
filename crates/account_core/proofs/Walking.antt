-- Walks through a legal history.
use Rattle.std.proofs.Common.{◌≡◌, ℕ, ◌+◌, ◌≤◌, ◌<◌, Option, List, [], ◌∷◌, ◌++◌, get_or, length, take, sym, ap, ◌∙◌, subst, add-one}
use Rattle.std.specs.Prelude.{map, reverse}
use Rattle.std.proofs.Math.Seq.{take-suc}
use Rattle.account_core.specs.Answers.{IsAnswered, IsLegalPast}
use Rattle.account_core.specs.Entries.{EntryData, entry_data}
use Rattle.account_core.specs.Known.{EntryDeed, CallFacts, known}
use Rattle.account_core.specs.Sound.{GrantsWithinDay, LegalPastsAreSound, SoundPastsAnswer}
use Rattle.account_core.specs.declared.entry.Entry.{Entry}
use Rattle.account_core.proofs.Entering.{past_pushed}
use Rattle.account_core.proofs.Moves.{its_call, its_deed}
use Rattle.account_core.proofs.SoundPasts.{answered_deed}

-- the first i entries, newest first
abbrev pub past_to : List Entry → ℕ → List EntryData
past_to xs i = reverse (map entry_data (take i xs))

pub past_more : (xs : List Entry) (i : ℕ) (e : Entry) → i < length xs → e ≡ get_or xs i e → past_to xs (i + 1) ≡ entry_data e ∷ past_to xs i
past_more xs i e within is =
    let taken : take (i + 1) xs ≡ take i xs ++ e ∷ [] = rw add-one (take-suc xs i e within ∙ ap (λ x. take i xs ++ x ∷ []) (sym is)) in
    ap (λ ys. reverse (map entry_data ys)) taken ∙ past_pushed (take i xs) e

pub room_walk : LegalPastsAreSound → SoundPastsAnswer → (opening : ℕ) (until : Option ℕ) (h : List EntryData) → opening ≤ 1000000000000000 → IsLegalPast opening until h
    → (entry : EntryData) → IsAnswered opening until h entry → (call : CallFacts) (c : ℕ) → call ≡ known c h → its_call entry ≡ c → GrantsWithinDay call (its_deed entry)
room_walk sounds fits opening until h small legal entry answered call c is here =
    let fitting = fits opening until h (sounds opening until h small legal) entry.asked answered.admissible in
    let D : EntryDeed → Type 0 = λ d. GrantsWithinDay (known (its_call entry) h) d in
    let K : CallFacts → Type 0 = λ k. GrantsWithinDay k (its_deed entry) in
    subst K (ap (λ n. known n h) here ∙ sym is) (subst D (sym (answered_deed opening until h entry answered)) fitting.room)
