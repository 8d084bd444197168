use Rattle.std.proofs.Common.{◌≡◌, ◌++◌, rules, string_bytes}
use Rattle.std.proofs.lemmas.Result.{IfOk-weaker}
use Rattle.table_commands.specs.Slips.{ExplainsRow, slip_row}
use Rattle.table_commands.proofs.explanations.explaining.push_explanation.Goals as goal

pub returns : goal.returns
returns c =
    let line = string_bytes c.push_line.new.text in
    let text = string_bytes c.push_str.new.self in
    let more = c.as_str.result.now in
    IfOk-weaker c.push_str.result (λ _. text ≡ line ++ more) (λ _. ExplainsRow c.args.before.now c.args.table.now (slip_row c.args.slip) text)
    (λ _ is. record { line = line; is_line = rw (← c.row.ensures) c.in_ok-push_line.ensures; more = more; text_is = is }) (search rules)
