-- A history whose seats' lists were compared with it merges them.
use Rattle.std.proofs.Common.{◌≡◌, ◌≤◌, ℕ, ◌+◌, ◌++◌, ◌<◌, Bool, true, false, List, [], ◌∷◌, length, map, take, drop, refl, sym, ap, ◌∙◌, arith, subst}
use Rattle.std.specs.Prelude.{◌==◌, if◌then◌else◌, All, slice_index_or}
use Rattle.std.proofs.lemmas.Bool.{eq-eqb}
use Rattle.std.proofs.lemmas.Grind.{common_steps}
use Rattle.std.proofs.lemmas.List.{drop_more, get_or-map, get_or_at, length-append, length-map, length-take-le, map-append, take-append-drop, take-map}
use Rattle.std.proofs.lemmas.List.Elements.{All-map, filter-append}
use Rattle.account_core.specs.Entries.{EntryData, entry_data}
use Rattle.account_core.specs.declared.entry.Entry.{Entry}
use Rattle.account_core.specs.Own.{IsMerged, own}
use Rattle.account_core.specs.Seats.{are_numbered}
use Rattle.account_core.proofs.Numbering.{numbered_at}
use Rattle.locked_account.specs.Seats.{SeatView}

nobody : SeatView
nobody = record { account = 0; number = 0; mine = [] }

pub merged : (history : List Entry) (seats : List SeatView) → are_numbered 0 (map (λ seat. seat.number) seats) ≡ true
    → All (λ seat. own seat.number (map entry_data history) ≡ seat.mine) seats → All (λ entry. entry.seat < length seats) history
    → IsMerged (map entry_data history) (map (λ seat. seat.mine) seats)
merged history seats numbered each others =
    let count : length (map (λ (seat : SeatView). seat.mine) seats) ≡ length seats = length-map seats (λ (seat : SeatView). seat.mine) in
    let O : ℕ → Type 0 = λ n. All (λ entry. entry.seat < n) (map entry_data history) in
    record {
      each = λ seat within.
          let here : seat < length seats = omega (arith, count, within) in
          let number : (slice_index_or seats seat nobody).number ≡ seat = omega (arith, numbered_at (λ (place : SeatView). place.number) 0 seats seat nobody numbered here) in
          ap (λ n. own n (map entry_data history)) (sym number) ∙ (each seat nobody here
          ∙ sym (get_or-map (λ (place : SeatView). place.mine) seats seat nobody [] here));
      no_others = subst O (sym count) (All-map (λ entry. entry.seat < length seats) entry_data history others);
    }

module _ (history : List Entry) (seats : List SeatView) (is : IsMerged (map entry_data history) (map (λ seat. seat.mine) seats)) where
  pub merged_each : are_numbered 0 (map (λ seat. seat.number) seats) ≡ true → All (λ seat. own seat.number (map entry_data history) ≡ seat.mine) seats
  merged_each numbered k d within =
      let there : k < length (map (λ (seat : SeatView). seat.mine) seats) = omega (arith, length-map seats (λ (seat : SeatView). seat.mine), within) in
      let number : (slice_index_or seats k d).number ≡ k = omega (arith, numbered_at (λ (place : SeatView). place.number) 0 seats k d numbered within) in
      ap (λ n. own n (map entry_data history)) number ∙ (is.each k there ∙ get_or-map (λ (place : SeatView). place.mine) seats k d [] within)

  pub merged_others : All (λ entry. entry.seat < length seats) history
  merged_others k d within =
      let there : k < length (map entry_data history) = omega (arith, length-map history entry_data, within) in
      let less = is.no_others k (entry_data d) there in
      omega (arith, less, ap (λ (entry : EntryData). entry.seat) (get_or-map entry_data history k d (entry_data d) within), length-map seats (λ (seat : SeatView). seat.mine))

first_of : {X : Type 0} (here : Bool) (x : X) (xs : List X) → here ≡ true → (if here then x ∷ xs else xs) ≡ x ∷ xs
first_of true x xs is = refl
first_of false x xs is = absurd (cc is)

-- where a seat's list is its entries in a history, it goes on with the next of them
module _ (seat : ℕ) (before after : List EntryData) (entry : EntryData) (mine : List EntryData) (at : ℕ) (its : entry.seat ≡ seat) (begins : own seat before ≡ take at mine) (within : at ≤ length mine)
    (all : own seat (before ++ entry ∷ after) ≡ mine) where
  goes_on : mine ≡ take at mine ++ entry ∷ own seat after
  goes_on =
      sym all ∙ (filter-append (λ e. e.seat == seat) before (entry ∷ after)
      ∙ (ap (λ h. h ++ own seat (entry ∷ after)) begins ∙ ap (λ h. take at mine ++ h) (first_of (entry.seat == seat) entry (own seat after) (eq-eqb entry.seat seat its))))

  more_own : at < length mine
  more_own = omega (arith, ap length goes_on, length-append (take at mine) (entry ∷ own seat after), length-take-le at mine within)

  goes_next : (d : EntryData) → slice_index_or mine at d ≡ entry
  goes_next d = ap (λ h. slice_index_or h at d) goes_on ∙ get_or_at (take at mine) entry (own seat after) d at (length-take-le at mine within)

-- a history by one of its entries
parted : (history : List Entry) (k : ℕ) (d : Entry) → k < length history
    → map entry_data history ≡ map entry_data (take k history) ++ entry_data (slice_index_or history k d) ∷ map entry_data (drop (k + 1) history)
parted history k d within =
    ap (map entry_data) (sym (take-append-drop k history) ∙ ap (λ h. take k history ++ h) (drop_more history k d within))
    ∙ map-append entry_data (take k history) (slice_index_or history k d ∷ drop (k + 1) history)

-- the same of lists of the code: the entry at a place of the history is the next of the list
pub next_own : (seat : ℕ) (history mine : List Entry) (k at : ℕ) (entry : Entry) → entry ≡ slice_index_or history k entry → k < length history → entry.seat ≡ seat → at ≤ length mine
    → own seat (map entry_data (take k history)) ≡ map entry_data (take at mine) → own seat (map entry_data history) ≡ map entry_data mine
    → (at < length mine) × ((d : Entry) → entry_data (slice_index_or mine at d) ≡ entry_data entry)
next_own seat history mine k at entry is within its short begins all =
    let M : List EntryData = map entry_data mine in
    let before = map entry_data (take k history) in
    let after = map entry_data (drop (k + 1) history) in
    let long : at ≤ length M = omega (arith, short, length-map mine entry_data) in
    let taken : own seat before ≡ take at M = begins ∙ sym (take-map entry_data at mine) in
    let parts : map entry_data history ≡ before ++ entry_data entry ∷ after = parted history k entry within ∙ ap (λ e. before ++ entry_data e ∷ after) (sym is) in
    let whole : own seat (before ++ entry_data entry ∷ after) ≡ M = ap (own seat) (sym parts) ∙ all in
    let less : at < length M = more_own seat before after (entry_data entry) M at its taken long whole in
    let there : at < length mine = omega (arith, less, length-map mine entry_data) in
    (there, λ d. sym (get_or-map entry_data mine at d (entry_data entry) there) ∙ goes_next seat before after (entry_data entry) M at its taken long whole (entry_data entry))

-- one entry more is the next of both
pub one_more_own : (seat : ℕ) (history mine : List Entry) (k at : ℕ) (entry next : Entry) → entry ≡ slice_index_or history k entry → k < length history → entry.seat ≡ seat
    → next ≡ slice_index_or mine at next → at < length mine → entry_data next ≡ entry_data entry → own seat (map entry_data (take k history)) ≡ map entry_data (take at mine)
    → own seat (map entry_data (take (k + 1) history)) ≡ map entry_data (take (at + 1) mine)
one_more_own seat history mine k at entry next is within its next_is short same begins = grind (arith, common_steps)
