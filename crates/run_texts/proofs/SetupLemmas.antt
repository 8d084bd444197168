-- A setup, row after row.
use Rattle.std.proofs.Common.{◌≡◌, ◌≤◌, ◌+◌, ◌∷◌, ◌++◌, [], List, Result, Ok, Err, arith, length, length-append, refl}
use Rattle.std.specs.Prelude.{OnOk}
use Rattle.table_core.specs.Rows.{Fields}
use Rattle.table_core.specs.Taking.{TakesNextRow}
use Rattle.table_core.specs.declared.taking.TakeFault.{TakeFault}
use Rattle.table_core.specs.declared.taking.TakeFault.TheVariants as out
use Rattle.run_texts.specs.ListedRows.{IsListingOf, ListsRow}
use Rattle.run_texts.specs.Setups.{TableSetup, setup_row_at}
use Rattle.run_texts.specs.Views.{setup_in}
use Rattle.run_values.specs.Setups.{Listing}
use Rattle.run_values.specs.declared.setup.TheConstants.{MAX_ACCOUNTS}

-- what a row lists comes to what was listed before it
pub row_listed : (before after : Listing) (rows : List Fields) (fields : Fields) (named : TableSetup) (listed : Result (Unit {0}) TakeFault) → IsListingOf rows named before
    → ListsRow listed (setup_in after) (setup_row_at (setup_in before) fields) → OnOk listed (length after.accounts ≤ MAX_ACCOUNTS)
    → OnOk listed (length after.accounts + length after.subscribers ≡ length before.accounts + length before.subscribers + 1)
    → TakesNextRow (λ named. IsListingOf (rows ++ fields ∷ []) named after) listed (setup_row_at named fields)
row_listed before after rows fields named (Ok done) is means few count = (
  setup_in after,
  rw is.is means,
  record { is = refl; few = few; count = omega (arith, length-append rows (fields ∷ []), count, is.count) },
)
row_listed before after rows fields named (Err (out.Row kind)) is means few count = rw is.is means
row_listed before after rows fields named (Err out.OutOfMemory) is means few count = tt

-- before the first row
pub nothing_named : (directory : Listing) → directory ≡ record { accounts = []; subscribers = [] } → IsListingOf [] (record { accounts = []; subscribers = [] }) directory
nothing_named directory none = rw none (record { is = refl; few = omega arith; count = refl })
