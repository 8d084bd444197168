-- A player that counts the refusals in the answers that it hears, and may keep the answers.
use Rattle.std.specs.Prelude.{◌≡◌, ◌++◌, true, false, List}
use Rattle.run_outputs.specs.Refused.{refusals_counted_in}
use Rattle.run_command.specs.declared.listening.Listener.{Listener}
use Rattle.run_values.specs.declared.post.Answer.{Answer}
use Rattle.script_player.specs.Runs.{Hears}

-- a listener hears answers as its player does, keeps them where it keeps any, and counts their refusals
pub record Listens {W : Type 0} (before : Listener W) (answers : List Answer) (after : Listener W) : Type 0 where
  pub plays : before.player.ended ≡ false → Hears before.player answers after.player
  pub keeps : after.keeps ≡ before.keeps
  pub kept : before.keeps ≡ true → after.heard.items ≡ before.heard.items ++ answers
  pub counted : (heard : List Answer) → before.refusals ≡ refusals_counted_in heard → after.refusals ≡ refusals_counted_in (heard ++ answers)
