use Rattle.std.proofs.Common.{refl, sym, ◌∙◌}
use Rattle.table_commands.proofs.RunLemmas.{asked_by, asked_in_parts}
use Rattle.table_commands.proofs.run_words.run_ask.Goals as goal

pub returns-in_err-workers : goal.returns-in_err-workers
returns-in_err-workers c = c.from_residual.ensures ∙ asked_by _ (sym c.in_err-workers.was ∙ c.workers.ensures) refl refl refl refl refl refl refl

pub returns-in_err-wanted : goal.returns-in_err-wanted
returns-in_err-wanted c = c.from_residual-in_err-wanted.ensures ∙ asked_by _ (sym c.in_ok-workers.was ∙ c.workers.ensures) (sym c.in_err-wanted.was ∙ c.setting.ensures) refl refl refl refl refl refl

pub returns-in_err-least : goal.returns-in_err-least
returns-in_err-least c = c.from_residual-in_err-least.ensures ∙ asked_by _ (sym c.in_ok-workers.was ∙ c.workers.ensures) (sym c.in_ok-wanted.was ∙ c.setting.ensures) (sym c.in_err-least.was ∙ c.setting-2.ensures) refl refl refl refl refl

pub returns-in_err-tssf : goal.returns-in_err-tssf
returns-in_err-tssf c = c.from_residual-in_err-tssf.ensures ∙ asked_by _ (sym c.in_ok-workers.was ∙ c.workers.ensures) (sym c.in_ok-wanted.was ∙ c.setting.ensures) (sym c.in_ok-least.was ∙ c.setting-2.ensures) (sym c.in_err-tssf.was ∙ c.setting-3.ensures) refl refl refl refl

pub returns-in_err-tccd : goal.returns-in_err-tccd
returns-in_err-tccd c = c.from_residual-in_err-tccd.ensures ∙ asked_by _ (sym c.in_ok-workers.was ∙ c.workers.ensures) (sym c.in_ok-wanted.was ∙ c.setting.ensures) (sym c.in_ok-least.was ∙ c.setting-2.ensures) (sym c.in_ok-tssf.was ∙ c.setting-3.ensures) (sym c.in_err-tccd.was ∙ c.setting-4.ensures) refl refl refl

pub returns-in_err-delay : goal.returns-in_err-delay
returns-in_err-delay c = c.from_residual-in_err-delay.ensures ∙ asked_by _ (sym c.in_ok-workers.was ∙ c.workers.ensures) (sym c.in_ok-wanted.was ∙ c.setting.ensures) (sym c.in_ok-least.was ∙ c.setting-2.ensures) (sym c.in_ok-tssf.was ∙ c.setting-3.ensures) (sym c.in_ok-tccd.was ∙ c.setting-4.ensures) (sym c.in_err-delay.was ∙ c.setting-5.ensures) refl refl

pub returns-in_err-default_handling : goal.returns-in_err-default_handling
returns-in_err-default_handling c = c.from_residual-in_err-default_handling.ensures ∙ asked_by _ (sym c.in_ok-workers.was ∙ c.workers.ensures) (sym c.in_ok-wanted.was ∙ c.setting.ensures) (sym c.in_ok-least.was ∙ c.setting-2.ensures) (sym c.in_ok-tssf.was ∙ c.setting-3.ensures) (sym c.in_ok-tccd.was ∙ c.setting-4.ensures) (sym c.in_ok-delay.was ∙ c.setting-5.ensures) (sym c.in_err-default_handling.was ∙ c.handling.ensures) refl

pub returns-in_err-output : goal.returns-in_err-output
returns-in_err-output c = c.from_residual-in_err-output.ensures ∙ asked_by _ (sym c.in_ok-workers.was ∙ c.workers.ensures) (sym c.in_ok-wanted.was ∙ c.setting.ensures) (sym c.in_ok-least.was ∙ c.setting-2.ensures) (sym c.in_ok-tssf.was ∙ c.setting-3.ensures) (sym c.in_ok-tccd.was ∙ c.setting-4.ensures) (sym c.in_ok-delay.was ∙ c.setting-5.ensures) (sym c.in_ok-default_handling.was ∙ c.handling.ensures) (sym c.in_err-output.was ∙ c.output.ensures)

pub returns-in_err-parts : goal.returns-in_err-parts
returns-in_err-parts c = c.from_residual-in_err-parts.ensures ∙ asked_in_parts _ (sym c.in_ok-workers.was ∙ c.workers.ensures) (sym c.in_ok-wanted.was ∙ c.setting.ensures) (sym c.in_ok-least.was ∙ c.setting-2.ensures) (sym c.in_ok-tssf.was ∙ c.setting-3.ensures) (sym c.in_ok-tccd.was ∙ c.setting-4.ensures) (sym c.in_ok-delay.was ∙ c.setting-5.ensures) (sym c.in_ok-default_handling.was ∙ c.handling.ensures) (sym c.in_ok-output.was ∙ c.output.ensures) (sym c.in_err-parts.was ∙ c.parts.ensures)

pub returns : goal.returns
returns c = asked_in_parts _ (sym c.in_ok-workers.was ∙ c.workers.ensures) (sym c.in_ok-wanted.was ∙ c.setting.ensures) (sym c.in_ok-least.was ∙ c.setting-2.ensures) (sym c.in_ok-tssf.was ∙ c.setting-3.ensures) (sym c.in_ok-tccd.was ∙ c.setting-4.ensures) (sym c.in_ok-delay.was ∙ c.setting-5.ensures) (sym c.in_ok-default_handling.was ∙ c.handling.ensures) (sym c.in_ok-output.was ∙ c.output.ensures) (sym c.in_ok-parts.was ∙ c.parts.ensures)
