use Rattle.std.proofs.Common.{◌≡◌, Some, refl, sym, subst, ◌∙◌}
use Rattle.clap.specs.Words.{found_of, rows_of, subcommand_rows_of}
use Rattle.table_commands.proofs.ArgumentLemmas.{subcommand_is}
use Rattle.table_commands.specs.Arguments.{IsRequestOf, wish_in}
use Rattle.table_commands.proofs.arguments.asked.Goals as goal

pub returns-in-Some : goal.returns-in-Some
returns-in-Some c =
    let named : subcommand_rows_of c.args.matches.now ≡ Some (c.in-Some.name.now, rows_of (found_of c.in-Some.options.now)) =
    subcommand_is _ _ _ c.subcommand.result c.subcommand.ensures.name c.subcommand.ensures.rows ∙ rw c.in-Some.is refl in
    subst (λ w. IsRequestOf (wish_in w) c.request_of.result) (sym named) c.request_of.ensures
