-- From what clap says of a subcommand to what its matches are.
use Rattle.std.proofs.Common.{◌≡◌, List, Option, Some, None, refl}
use Rattle.std.specs.Prelude.{Box, option_map}
use Rattle.std.specs.Box.{box_value}
use Rattle.clap.specs.Words.{Row, Text, found_of, rows_of, subcommand_rows}
use Rattle.clap.specs.declared.parser.matches.ArgMatches.TheViews.{out-SubCommand}
use Rattle.clap.specs.declared.parser.matches.SubCommand.{SubCommand}

-- a command has the name and the rows that `subcommand` gives
module _ {A Z : Type 0} (name : A → Text) (rows : A → List Row) where
  pub subcommand_is : (met : Option (Box SubCommand Z)) (got : Option A)
      → option_map name got ≡ option_map (λ b. (out-SubCommand (box_value b)).name.now) met
      → option_map rows got ≡ option_map (λ p. p.1) (subcommand_rows met)
      → subcommand_rows met ≡ option_map (λ g. (name g, rows g)) got
  subcommand_is None None names are = refl
  subcommand_is None (Some g) names are = cc
  subcommand_is (Some b) None names are = cc
  subcommand_is (Some b) (Some g) names are =
      let name_is : name g ≡ (out-SubCommand (box_value b)).name.now = cc in
      let rows_are : rows g ≡ rows_of (found_of (out-SubCommand (box_value b)).matches) = cc in
      rw (name_is, rows_are) refl
