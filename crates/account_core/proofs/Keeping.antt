-- An account keeps what its type says: a teller of its history, and room for the places that are owed.
use Rattle.std.proofs.Common.{◌≡◌, ℕ, ◌+◌, ◌≤◌, Option, List, [], ◌∷◌, ◌++◌, length, refl, sym, ap, ◌∙◌, arith, subst}
use Rattle.std.specs.Prelude.{map, reverse}
use Rattle.std.specs.Vec.{vec_capacity}
use Rattle.std.specs.declared.vec.Vec.{Vec}
use Rattle.std.specs.declared.alloc.Global.{Global}
use Rattle.std.proofs.lemmas.List.{length-map, map-append}
use Rattle.account_core.specs.Admitting.{IsAdmitted}
use Rattle.account_core.specs.Answers.{IsAnswered}
use Rattle.account_core.specs.Asked.{Asked}
use Rattle.account_core.specs.Entries.{EntryData, asked_of, entry_data}
use Rattle.account_core.specs.Kept.{known_of}
use Rattle.account_core.specs.Ledger.{Ledger, answer_of, entry_by}
use Rattle.account_core.specs.Places.{needed, needed_by, owed}
use Rattle.account_core.specs.Tellers.{Admits, IsKeptTeller, IsTellerOf, entered}
use Rattle.account_core.specs.declared.admitted.Admitted.{Admitted}
use Rattle.account_core.specs.declared.account.Account.TheInside.{Inside}
use Rattle.account_core.specs.declared.entry.Entry.{Entry}
use Rattle.account_core.specs.declared.teller.Teller.{Teller}
use Rattle.account_core.proofs.Asking.{needed_asked}
use Rattle.account_core.proofs.Entering.{answered_by, nothing_owed_yet, places_after}

-- what an account shows
abbrev pub shown : Inside → Ledger
shown a = record { opening = a.opening; until = a.until; limit = a.teller.limit; history = map entry_data a.entries.items }

pub kept_new : (opening : ℕ) (until : Option ℕ) (limit : ℕ) (entries : Vec Entry Global) (teller : Teller) → entries.items ≡ []
    → IsTellerOf (record { opening = opening; until = until; limit = limit; history = [] }) teller
    → IsKeptTeller (record { opening = opening; until = until; limit = teller.limit; history = map entry_data entries.items }) teller (vec_capacity entries)
kept_new opening until limit entries teller none is =
    let P : List Entry → Type 0 = λ items. IsTellerOf (record { opening = opening; until = until; limit = teller.limit; history = map entry_data items }) teller in
    let L : ℕ → Type 0 = λ n. IsTellerOf (record { opening = opening; until = until; limit = n; history = [] }) teller in
    record { teller_is = subst P (sym none) (subst L (sym is.limit_is) is); room = omega (arith, is.counted, is.owed_are, nothing_owed_yet) }

module _ (a : Inside) (ledger : Ledger) (view_is : shown a ≡ ledger) (kept : IsKeptTeller (shown a) a.teller (vec_capacity a.entries)) where
  module _ (admitted : Admitted) (is_admitted : IsAdmitted ledger admitted) where
    pub admits : Admits (shown a) a.teller admitted
    admits =
        let P : Ledger → Type 0 = λ l. IsAdmitted l admitted in
        record { teller_is = kept.teller_is; admitted_is = subst P (sym view_is) is_admitted }

    abbrev pub asked : Asked
    asked = asked_of admitted.op

    pub places_enough : (entry : EntryData) (seat places : ℕ) → entry ≡ entry_by seat asked (answer_of (shown a) asked) → places ≡ a.teller.owed + needed_by (known_of admitted.call) asked
        → length (entered (shown a) entry).history + owed (reverse (entered (shown a) entry).history) ≤ length a.entries.items + places
    places_enough entry seat places entry_is places_are =
        let L : EntryData → Type 0 = λ e. IsAnswered a.opening a.until (reverse (shown a).history) e in
        let A : EntryData → Type 0 = λ e. needed (reverse (shown a).history) e.asked ≡ needed (reverse (shown a).history) asked in
        let answered = subst L (sym entry_is) (answered_by (shown a) asked (answer_of (shown a) asked) seat admits.admitted_is.allowed refl) in
        omega (
          arith,
          places_after (shown a) entry answered,
          places_are,
          kept.teller_is.owed_are,
          length-map a.entries.items entry_data,
          needed_asked (reverse (shown a).history) asked (known_of admitted.call) admits.admitted_is.known_is,
          subst A (sym entry_is) refl,
        )

  pub kept_entered : (entry : Entry) (items : List Entry) (new : Teller) (capacity : ℕ) → items ≡ a.entries.items ++ entry ∷ [] → IsTellerOf (entered (shown a) (entry_data entry)) new
      → new.entries + new.owed ≤ capacity → IsKeptTeller (record { opening = a.opening; until = a.until; limit = new.limit; history = map entry_data items }) new capacity
  kept_entered entry items new capacity items_are is room =
      let P : List EntryData → Type 0 = λ history. IsTellerOf (record { opening = a.opening; until = a.until; limit = new.limit; history = history }) new in
      let L : ℕ → Type 0 = λ n. IsTellerOf (record { opening = a.opening; until = a.until; limit = n; history = map entry_data a.entries.items ++ entry_data entry ∷ [] }) new in
      record {
        teller_is = subst P (sym (ap (map entry_data) items_are ∙ map-append entry_data a.entries.items (entry ∷ []))) (subst L (sym is.limit_is) is);
        room = room;
      }
