-- The rows that are due are played, one after the other.
use Rattle.std.proofs.Common.{◌≡◌, ◌+◌, ◌<◌, ◌≤◌, ℕ, zero, suc, Option, List, [], ◌∷◌, ◌++◌, length, drop, slice_index_or, refl, sym, ap, ◌∙◌, append_assoc, append-nil, add-one, drop-cons, arith, subst}
use Rattle.std.proofs.lemmas.List.Elements.{All-append, All-cons, All-nil}
use Rattle.std.specs.Option.{ForSome}
use Rattle.std.specs.Prelude.{All}
use Rattle.std.proofs.lemmas.List.{drop_all}
use Rattle.run_texts.specs.declared.script.Happening.{Happening}
use Rattle.run_texts.specs.declared.script.Happening.TheVariants as happening
use Rattle.run_texts.specs.declared.script.ScriptRow.{ScriptRow}
use Rattle.script_player.specs.Chains.{Chain}
use Rattle.script_player.specs.Networks.{Shown}
use Rattle.script_player.specs.Rows.{next_row}
use Rattle.script_player.specs.Steps.{HappensAt, PlaysRow}
use Rattle.script_player.specs.Unplaced.{GivesWithFault, PlaysDueWithout, PlaysRowWithFault, fault_of_row, unplaced_in, where_refused}
use Rattle.script_player.specs.declared.network.Input.TheVariants as input
use Rattle.ssf_core.specs.declared.fault.SsfFault.{SsfFault}
use Rattle.ssf_core.specs.declared.item.BcsmEvent.{BcsmEvent}

-- the event of a row is met
pub row_met : (before after : Shown) (row : ScriptRow) (call : ℕ) (event : BcsmEvent) (fault : Option SsfFault) → row.what ≡ happening.Meets call event
    → GivesWithFault row.at call (input.Meet event) before after fault → PlaysRowWithFault before row after fault
row_met before after row call event fault is gives =
    let P : Happening → Type 0 = λ what. (plays : HappensAt row.at what before after) × (fault ≡ fault_of_row row.at what before after plays) in
    let own : P row.what = subst P (sym is) (gives.gives, gives.refused) in
    record { plays = own.0; refused = own.1 }

-- one row more is played, behind the others
more_row : (rows : List ScriptRow) (row : ScriptRow) (before between after : Shown) (chain : Chain PlaysRow before rows between) (plays : PlaysRow between row after)
    → (longer : Chain PlaysRow before (rows ++ row ∷ []) after)
    × (unplaced_in before after (rows ++ row ∷ []) longer ≡ unplaced_in before between rows chain ++ where_refused row (fault_of_row row.at row.what between after plays))
more_row [] row before between after chain plays =
    let own : List ScriptRow = where_refused row (fault_of_row row.at row.what between after plays) in
    let P : Shown → Type 0 = λ s. (longer : Chain PlaysRow s (row ∷ []) after) × (unplaced_in s after (row ∷ []) longer ≡ own) in
    subst P chain ((after, (plays, refl)), append-nil own)
more_row (first ∷ rows) row before between after chain plays =
    let more = more_row rows row chain.0 between after chain.1.1 plays in
    let here : List ScriptRow = where_refused first (fault_of_row first.at first.what before chain.0 chain.1.0) in (
      (chain.0, (chain.1.0, more.0)),
      ap (λ (l : List ScriptRow). here ++ l) more.1
          ∙ sym (append_assoc here (unplaced_in chain.0 between rows chain.1.1) (where_refused row (fault_of_row row.at row.what between after plays))),
    )

-- some rows that were due were played, in order; those of them whose event had no place come behind the earlier ones
pub record HavePlayed (now : ℕ) (before after : Shown) (waiting left earlier all : List ScriptRow) : Type 0 where
  pub played : List ScriptRow
  pub split : waiting ≡ played ++ left
  pub due : All (λ row. row.at ≤ now) played
  pub plays : Chain PlaysRow before played after
  pub unplaced : all ≡ earlier ++ unplaced_in before after played plays

pub played_none : (now : ℕ) (before : Shown) (waiting earlier : List ScriptRow) → HavePlayed now before before waiting waiting earlier earlier
played_none now before waiting earlier =
    record { played = []; split = refl; due = All-nil (λ (row : ScriptRow). row.at ≤ now); plays = refl; unplaced = sym (append-nil earlier) }

pub played_more : (now taken : ℕ) (before between after : Shown) (waiting rows earlier was all : List ScriptRow) (row : ScriptRow) (fault : Option SsfFault) → taken < length rows
    → row ≡ slice_index_or rows taken row → HavePlayed now before between waiting (drop taken rows) earlier was → row.at ≤ now → PlaysRowWithFault between row after fault
    → all ≡ was ++ where_refused row fault → HavePlayed now before after waiting (drop (taken + 1) rows) earlier all
played_more now taken before between after waiting rows earlier was all row fault within is have order plays grown =
    let more = more_row have.played row before between after have.plays plays.plays in
    let Due : ScriptRow → Type 0 = λ row. row.at ≤ now in
    let step : drop taken rows ≡ row ∷ drop (taken + 1) rows = rw (add-one, drop-cons rows taken row within, ← is) refl in
    record {
      played = have.played ++ row ∷ [];
      split = have.split ∙ ap (λ (rest : List ScriptRow). have.played ++ rest) step ∙ sym (append_assoc have.played (row ∷ []) (drop (taken + 1) rows));
      due = All-append Due have.played (row ∷ []) have.due (All-cons Due row [] order (All-nil Due));
      plays = more.0;
      unplaced =
          grown ∙ ap (λ (f : Option SsfFault). was ++ where_refused row f) plays.refused
          ∙ ap (λ (l : List ScriptRow). l ++ where_refused row (fault_of_row row.at row.what between after plays.plays)) have.unplaced
          ∙ append_assoc earlier (unplaced_in before between have.played have.plays) (where_refused row (fault_of_row row.at row.what between after plays.plays))
          ∙ ap (λ (l : List ScriptRow). earlier ++ l) (sym more.1);
    }

pub plays_due : (now : ℕ) (before after : Shown) (waiting left earlier all : List ScriptRow) → HavePlayed now before after waiting left earlier all → ForSome (next_row left) (λ at. now < at)
    → PlaysDueWithout now before after waiting left earlier all
plays_due now before after waiting left earlier all have later = record {
  plays = record { played = have.played; split = have.split; due = have.due; later = later; plays = have.plays };
  unplaced = have.unplaced;
}

-- a row that is read twice is one row
pub same_row : (rows : List ScriptRow) (place : ℕ) (one other : ScriptRow) → place < length rows → one ≡ slice_index_or rows place one → other ≡ slice_index_or rows place other → one ≡ other
same_row [] place one other within first second = absurd (omega arith)
same_row (row ∷ rows) zero one other within first second = first ∙ sym second
same_row (row ∷ rows) (suc place) one other within first second = same_row rows place one other (omega arith) first second

pub same_moment : (rows : List ScriptRow) (place now : ℕ) (one other : ScriptRow) → place < length rows → one ≡ slice_index_or rows place one → other ≡ slice_index_or rows place other
    → (slice_index_or rows place one).at ≤ now
    → other.at ≤ now
same_moment rows place now one other within first second order =
    let P : ScriptRow → Type 0 = λ row. row.at ≤ now in
    subst P (sym first ∙ same_row rows place one other within first second) order

-- the row that is next comes later
pub later_next : (rows : List ScriptRow) (taken now : ℕ) (row : ScriptRow) → taken < length rows → row ≡ slice_index_or rows taken row → now < row.at
    → ForSome (next_row (drop taken rows)) (λ at. now < at)
later_next rows taken now row within is order =
    let step : drop taken rows ≡ row ∷ drop (taken + 1) rows = rw (add-one, drop-cons rows taken row within, ← is) refl in
    let P : List ScriptRow → Type 0 = λ l. ForSome (next_row l) (λ at. now < at) in
    subst P (sym step) (λ at some. let same : row.at ≡ at = cc some in omega (arith, order, same))

-- and no row is next where all are taken
pub none_next : (rows : List ScriptRow) (taken now : ℕ) → length rows ≤ taken → ForSome (next_row (drop taken rows)) (λ at. now < at)
none_next rows taken now within =
    let P : List ScriptRow → Type 0 = λ l. ForSome (next_row l) (λ at. now < at) in
    subst P (sym (drop_all taken rows within)) (λ at none. absurd (cc none))

pub later_moment : (rows : List ScriptRow) (place now : ℕ) (row : ScriptRow) → row ≡ slice_index_or rows place row → now < (slice_index_or rows place row).at → now < row.at
later_moment rows place now row is order = subst (λ (r : ScriptRow). now < r.at) (sym is) order
