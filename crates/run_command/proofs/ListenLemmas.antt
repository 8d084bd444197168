-- What a listener has heard and kept over the rounds of a run.
use Rattle.std.proofs.Common.{◌≡◌, ℕ, true, false, List, [], ◌∷◌, ◌++◌, refl, sym, ◌∙◌, ap, append_assoc}
use Rattle.std.proofs.lemmas.List.{append-nil}
use Rattle.run_outputs.specs.Records.{Run}
use Rattle.run_command.proofs.PlayLemmas.{Rounds}
use Rattle.run_outputs.specs.Texts.{IsTextOf}
use Rattle.run_command.specs.Listening.{Listens}
use Rattle.run_outputs.specs.Refused.{refusals_counted_in}
use Rattle.run_command.specs.declared.listening.Listener.{Listener}
use Rattle.run_values.specs.Options.{is_trace}
use Rattle.run_values.specs.declared.options.RunOutput.{RunOutput}
use Rattle.run_values.specs.declared.options.RunOutput.TheVariants as output
use Rattle.run_texts.specs.Tables.{trace_text}
use Rattle.run_values.specs.declared.post.Answer.{Answer}
use Rattle.runs_core.specs.Hearing.{HearsRounds, all_heard}
use Rattle.script_player.specs.Runs.{Hears}

module _ {W : Type 0} where
  -- from round to round
  abbrev ListenedRounds : List Answer → Listener W → List (List Answer) → Listener W → Type 0
  ListenedRounds before_this old heard new =
      HearsRounds (λ (l : Listener W). l.player.network.given) (λ (l : Listener W). l.player.ended) Listens before_this old heard new

  -- its player has heard the same
  pub player_hears : (before_this : List Answer) (old : Listener W) (heard : List (List Answer)) (new : Listener W) → ListenedRounds before_this old heard new
      → Rounds (λ before answers after. before.ended ≡ false → Hears before answers after) before_this old.player heard new.player
  player_hears before_this old [] new rounds = absurd rounds
  player_hears before_this old (answers ∷ []) new rounds = (record { each = rounds.0.each; hears_them = rounds.0.hears_them.plays }, rounds.1)
  player_hears before_this old (answers ∷ next ∷ heard) new rounds =
      (rounds.0.player, record { each = rounds.1.each; hears_them = rounds.1.hears_them.plays }, rounds.2, player_hears (before_this ++ answers) rounds.0 (next ∷ heard) new rounds.3)

  -- a listener that keeps answers has kept all that it has heard
  pub keeps_heard : (before_this : List Answer) (old : Listener W) (heard : List (List Answer)) (new : Listener W) → old.keeps ≡ true → ListenedRounds before_this old heard new
      → new.heard.items ≡ old.heard.items ++ all_heard heard
  keeps_heard before_this old [] new keeps rounds = absurd rounds
  keeps_heard before_this old (answers ∷ []) new keeps rounds =
      rounds.0.hears_them.kept keeps ∙ ap (λ more. old.heard.items ++ more) (sym (append-nil answers))
  keeps_heard before_this old (answers ∷ next ∷ heard) new keeps rounds =
      let more = all_heard (next ∷ heard) in
      keeps_heard (before_this ++ answers) rounds.0 (next ∷ heard) new (rounds.1.hears_them.keeps ∙ keeps) rounds.3
      ∙ ap (λ kept. kept ++ more) (rounds.1.hears_them.kept keeps) ∙ append_assoc old.heard.items answers more

  -- and it has counted the refusals in all of it
  pub counts_heard : (before_this : List Answer) (old : Listener W) (heard : List (List Answer)) (new : Listener W) (so_far : List Answer) → old.refusals ≡ refusals_counted_in so_far
      → ListenedRounds before_this old heard new → new.refusals ≡ refusals_counted_in (so_far ++ all_heard heard)
  counts_heard before_this old [] new so_far are rounds = absurd rounds
  counts_heard before_this old (answers ∷ []) new so_far are rounds =
      rounds.0.hears_them.counted so_far are ∙ ap (λ more. refusals_counted_in (so_far ++ more)) (sym (append-nil answers))
  counts_heard before_this old (answers ∷ next ∷ heard) new so_far are rounds =
      counts_heard (before_this ++ answers) rounds.0 (next ∷ heard) new (so_far ++ answers) (rounds.1.hears_them.counted so_far are) rounds.3
      ∙ ap (λ l. refusals_counted_in l) (append_assoc so_far answers (all_heard (next ∷ heard)))

-- a text of what was kept is one of what was heard, where it is a trace
pub text_of_heard : (of : RunOutput) (run : Run) (kept heard : List Answer) (text : List ℕ) → (is_trace of ≡ true → kept ≡ heard) → IsTextOf of run kept text → IsTextOf of run heard text
text_of_heard output.Lines run kept heard text same is = is
text_of_heard output.Book run kept heard text same is = is
text_of_heard (output.Calls clock) run kept heard text same is = is
text_of_heard (output.Trace clock) run kept heard text same is = is ∙ ap (λ answers. trace_text clock run.given answers) (same refl)
