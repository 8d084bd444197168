-- The events of some rows.
use Rattle.std.proofs.Common.{◌≡◌, ◌++◌, ◌∙◌, ℕ, Bool, true, false, List, [], ◌∷◌, refl, sym, ap}
use Rattle.std.specs.List.{filter}
use Rattle.std.specs.Prelude.{if◌then◌else◌}
use Rattle.std.proofs.lemmas.List.Elements.{filter-append}
use Rattle.part_laws.specs.Chosen.{Choice}
use Rattle.part_laws.specs.Rows.{chosen_rows, is_chosen_happening}
use Rattle.run_outputs.specs.Unplaced.{event_in_row, events_in_rows}
use Rattle.run_outputs.specs.declared.unplaced.UnplacedEvent.{UnplacedEvent}
use Rattle.run_texts.specs.declared.script.Happening.{Happening}
use Rattle.run_texts.specs.declared.script.Happening.TheVariants.{Start, Meets, Recharge}
use Rattle.run_texts.specs.declared.script.ScriptRow.{ScriptRow}

module _ (choice : Choice) where
  abbrev picks : UnplacedEvent → Bool
  picks event = choice.calls event.call

  own_event : (at : ℕ) (what : Happening) → is_chosen_happening choice what ≡ true → filter picks (event_in_row at what) ≡ event_in_row at what
  own_event at (Start call calling called) own = refl
  own_event at (Meets call event) own = rw own refl
  own_event at (Recharge account amount until) own = refl

  no_event : (at : ℕ) (what : Happening) → is_chosen_happening choice what ≡ false → filter picks (event_in_row at what) ≡ []
  no_event at (Start call calling called) not = refl
  no_event at (Meets call event) not = rw not refl
  no_event at (Recharge account amount until) not = refl

  pub chosen_events : (rows : List ScriptRow) → events_in_rows (chosen_rows choice rows) ≡ filter picks (events_in_rows rows)
  chosen_events [] = refl
  chosen_events (row ∷ rows) = by_own (is_chosen_happening choice row.what) refl (chosen_events rows)
    where
      by_own : (b : Bool) → is_chosen_happening choice row.what ≡ b → events_in_rows (chosen_rows choice rows) ≡ filter picks (events_in_rows rows)
          → events_in_rows (if b then row ∷ chosen_rows choice rows else chosen_rows choice rows) ≡ filter picks (event_in_row row.at row.what ++ events_in_rows rows)
      by_own true own rest =
          ap (λ l. event_in_row row.at row.what ++ l) rest ∙ ap (λ l. l ++ filter picks (events_in_rows rows)) (sym (own_event row.at row.what own))
          ∙ sym (filter-append picks (event_in_row row.at row.what) (events_in_rows rows))
      by_own false not rest =
          rest ∙ ap (λ l. l ++ filter picks (events_in_rows rows)) (sym (no_event row.at row.what not)) ∙ sym (filter-append picks (event_in_row row.at row.what) (events_in_rows rows))
