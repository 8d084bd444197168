-- The number that a settle carries plays no part in what an account knows, nor in what it replies.
use Rattle.std.proofs.Common.{◌≡◌, ◌∙◌, ◌+◌, ℕ, Bool, Option, List, [], ◌∷◌, ◌++◌, map, refl, sym, ap, subst}
use Rattle.std.specs.Prelude.{◌==◌, ◌-◌, ◌&&◌, if◌then◌else◌, is_some, not, reverse, sum_by}
use Rattle.std.proofs.lemmas.List.{map-append, reverse-append}
use Rattle.std.proofs.lemmas.List.Sums.{sum_by-cons}
use Rattle.account_core.specs.Answers.{IsLegal, IsLegalPast, answer, inadmissible, showing, bare_reply}
use Rattle.account_core.specs.Asked.{Asked, Credits, Reserves, Settles, Returns, call_of}
use Rattle.account_core.specs.Available.{available, begins_call, calls, credited, credits, is_grant, taken_by_all}
use Rattle.account_core.specs.Entries.{EntryData}
use Rattle.account_core.specs.Expiry.{last_moment, last_moment_after}
use Rattle.account_core.specs.Known.{CallFacts, EntryDeed, Rests, deed, deed_of, known, known_after, taken_of}
use Rattle.account_core.specs.declared.entry.Reply.{Reply}
use Rattle.account_core.specs.declared.entry.Reply.TheVariants as reply
use Rattle.part_laws.specs.Numbers.{unnumbered, without_number, without_numbers}

-- ---- of one entry

pub call_same : (asked : Asked) → call_of (unnumbered asked) ≡ call_of asked
call_same (Credits amount until) = refl
call_same (Reserves call plan wanted least at) = refl
call_same (Settles call number info) = refl
call_same (Returns call) = refl

deed_of_same : (asked : Asked) (response : Reply) → deed_of (unnumbered asked) response ≡ deed_of asked response
deed_of_same (Credits amount until) response = refl
deed_of_same (Reserves call plan wanted least at) response = refl
deed_of_same (Settles call number info) (reply.Settled paid available) = refl
deed_of_same (Settles call number info) (reply.Forfeit paid available) = refl
deed_of_same (Settles call number info) response = refl
deed_of_same (Returns call) response = refl

deed_same : (call : ℕ) (entry : EntryData) → deed call (without_number entry) ≡ deed call entry
unfolding deed
deed_same call entry =
    ap (λ c. if c == call then deed_of (unnumbered entry.asked) entry.reply else Rests) (call_same entry.asked)
    ∙ ap (λ (d : EntryDeed). if call_of entry.asked == call then d else Rests) (deed_of_same entry.asked entry.reply)

credited_same : (asked : Asked) (response : Reply) → credited (unnumbered asked) response ≡ credited asked response
credited_same (Credits amount until) response = refl
credited_same (Reserves call plan wanted least at) response = refl
credited_same (Settles call number info) response = refl
credited_same (Returns call) response = refl

last_same : (before : Option ℕ) (asked : Asked) (response : Reply) → last_moment_after before (unnumbered asked) response ≡ last_moment_after before asked response
last_same before (Credits amount until) response = refl
last_same before (Reserves call plan wanted least at) response = refl
last_same before (Settles call number info) response = refl
last_same before (Returns call) response = refl

-- ---- of a history

pub known_same : (call : ℕ) (h : List EntryData) → known call (without_numbers h) ≡ known call h
known_same call [] = refl
known_same call (entry ∷ h) =
    ap (λ k. known_after k (deed call (without_number entry))) (known_same call h) ∙ ap (known_after (known call h)) (deed_same call entry)

credits_same : (h : List EntryData) → credits (without_numbers h) ≡ credits h
credits_same [] = refl
credits_same (entry ∷ h) =
    ap (λ n. n + credited (unnumbered entry.asked) entry.reply) (credits_same h) ∙ ap (λ n. credits h + n) (credited_same entry.asked entry.reply)

last_moment_same : (until : Option ℕ) (h : List EntryData) → last_moment until (without_numbers h) ≡ last_moment until h
last_moment_same until [] = refl
last_moment_same until (entry ∷ h) =
    ap (λ (m : Option ℕ). last_moment_after m (unnumbered entry.asked) entry.reply) (last_moment_same until h) ∙ last_same (last_moment until h) entry.asked entry.reply

begins_same : (entry : EntryData) (h : List EntryData) → begins_call (without_number entry) (without_numbers h) ≡ begins_call entry h
begins_same entry h =
    ap (λ (d : EntryDeed). is_grant d && not (is_some (known (call_of (unnumbered entry.asked)) (without_numbers h)).plan)) (deed_of_same entry.asked entry.reply)
    ∙ ap (λ c. is_grant (deed_of entry.asked entry.reply) && not (is_some (known c (without_numbers h)).plan)) (call_same entry.asked)
    ∙ ap (λ (k : CallFacts). is_grant (deed_of entry.asked entry.reply) && not (is_some k.plan)) (known_same (call_of entry.asked) h)

calls_same : (h : List EntryData) → calls (without_numbers h) ≡ calls h
calls_same [] = refl
calls_same (entry ∷ h) =
    ap (λ (b : Bool). if b then call_of (unnumbered entry.asked) ∷ calls (without_numbers h) else calls (without_numbers h)) (begins_same entry h)
    ∙ ap (λ c. if begins_call entry h then c ∷ calls (without_numbers h) else calls (without_numbers h)) (call_same entry.asked)
    ∙ ap (λ (l : List ℕ). if begins_call entry h then call_of entry.asked ∷ l else l) (calls_same h)

sum_same : (h : List EntryData) (numbers : List ℕ) → sum_by (λ call. taken_of (known call (without_numbers h))) numbers ≡ sum_by (λ call. taken_of (known call h)) numbers
sum_same h [] = refl
sum_same h (call ∷ numbers) =
    let f : ℕ → ℕ = λ c. taken_of (known c (without_numbers h)) in
    let g : ℕ → ℕ = λ c. taken_of (known c h) in
    sum_by-cons f call numbers ∙ ap (λ (k : CallFacts). taken_of k + sum_by f numbers) (known_same call h) ∙ ap (λ n. taken_of (known call h) + n) (sum_same h numbers)
    ∙ sym (sum_by-cons g call numbers)

taken_same : (h : List EntryData) → taken_by_all (without_numbers h) ≡ taken_by_all h
unfolding taken_by_all
taken_same h = ap (sum_by (λ call. taken_of (known call (without_numbers h)))) (calls_same h) ∙ sum_same h (calls h)

pub available_same : (opening : ℕ) (h : List EntryData) → available opening (without_numbers h) ≡ available opening h
unfolding available
available_same opening h =
    ap (λ n. opening + n - taken_by_all (without_numbers h)) (credits_same h) ∙ ap (λ n. opening + credits h - n) (taken_same h)

-- ---- of an ask

verdict_same : (opening : ℕ) (until : Option ℕ) (h : List EntryData) (asked : Asked) → bare_reply opening until (without_numbers h) (unnumbered asked) ≡ bare_reply opening until h asked
verdict_same opening until h (Credits amount moment) = rw (credits_same h) refl
verdict_same opening until h (Reserves call plan wanted least at) = rw (available_same opening h, known_same call h, last_moment_same until h) refl
verdict_same opening until h (Settles call number info) = rw (known_same call h) refl
verdict_same opening until h (Returns call) = rw (known_same call h) refl

abbrev asks : Asked → Reply → EntryData
asks asked response = record { seat = 0; asked = asked; reply = response }

pub answer_same : (opening : ℕ) (until : Option ℕ) (h : List EntryData) (asked : Asked) → answer opening until (without_numbers h) (unnumbered asked) ≡ answer opening until h asked
unfolding answer available
answer_same opening until h asked =
    ap (λ (v : Reply). showing (available opening (asks (unnumbered asked) v ∷ without_numbers h)) v) (verdict_same opening until h asked)
    ∙ ap (λ n. showing n (bare_reply opening until h asked)) (available_same opening (asks asked (bare_reply opening until h asked) ∷ h))

admissible_same : (h : List EntryData) (asked : Asked) → inadmissible (without_numbers h) (unnumbered asked) ≡ inadmissible h asked
admissible_same h (Credits amount moment) = refl
admissible_same h (Reserves call plan wanted least at) = rw (known_same call h) refl
admissible_same h (Settles call number info) = rw (known_same call h) refl
admissible_same h (Returns call) = rw (known_same call h) refl

-- ---- a legal history stays legal

legal_past : (opening : ℕ) (until : Option ℕ) (h : List EntryData) → IsLegalPast opening until h → IsLegalPast opening until (without_numbers h)
legal_past opening until [] legal = tt
legal_past opening until (entry ∷ h) legal = (
  legal_past opening until h legal.0,
  record {
    admissible = admissible_same h entry.asked ∙ legal.1.admissible;
    answered = legal.1.answered ∙ sym (answer_same opening until h entry.asked);
  },
)

pub reverse_map : {X Y : Type 0} (f : X → Y) (xs : List X) → map f (reverse xs) ≡ reverse (map f xs)
reverse_map f [] = refl
reverse_map f (x ∷ xs) = ap (map f) (reverse-append (x ∷ []) xs) ∙ map-append f (reverse xs) (x ∷ []) ∙ ap (λ l. l ++ f x ∷ []) (reverse_map f xs) ∙ sym (reverse-append (f x ∷ []) (map f xs))

pub legal_same : (opening : ℕ) (until : Option ℕ) (history : List EntryData) → IsLegal opening until history → IsLegal opening until (without_numbers history)
legal_same opening until history legal =
    let L : List EntryData → Type 0 = IsLegalPast opening until in subst L (reverse_map without_number history) (legal_past opening until (reverse history) legal)
