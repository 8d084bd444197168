use Rattle.std.proofs.Common.{refl, ap, true, ◌≡◌}
use Rattle.std.proofs.lemmas.List.Elements.{All-map}
use Rattle.run_values.specs.Openings.{HasAccounts}
use Rattle.run_texts.specs.Happenings.{RowData, is_in_time}
use Rattle.run_texts.specs.Inputs.{input_in}
use Rattle.run_texts.specs.Views.{row_data, with_digits}
use Rattle.run_command.proofs.setting_up.set_up.Goals as goal

pub returns-clause-start : goal.returns-clause-start
returns-clause-start c =
    let texts = c.in_ok-texts.texts in
    let setup = c.in_ok-setup.setup in
    let opened : HasAccounts setup.accounts = record { ordered = c.accounts.ensures.ordered; range = c.accounts.ensures.range } in
    let accounts : HasAccounts texts.directory.accounts = rw c.in_ok-setup.ensures.accounts at opened in
    record {
      said = input_in texts;
      read = c.in_ok-texts.ensures.means;
      of_input = record {
        accounts = c.in_ok-setup.ensures.accounts;
        subscribers = ap with_digits c.in_ok-setup.ensures.subscribers;
        tariff = c.in_ok-setup.ensures.tariff;
        wanted = rw c.in_ok-setup.ensures.service refl;
        least = rw c.in_ok-setup.ensures.service refl;
        limit = c.in_ok-setup.ensures.limit;
      };
      range = record {
        accounts = accounts;
        few = c.in_ok-texts.ensures.within.accounts;
        recharges = All-map (λ (row : RowData). is_in_time row.what ≡ true) row_data texts.script.items c.in_ok-texts.ensures.in_time;
      };
      says = refl;
    }
