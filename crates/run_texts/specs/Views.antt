-- What the values of the code say.
use Rattle.std.specs.Prelude.{◌&&◌, ℕ, Bool, true, List, [], ◌∷◌, map, nat_le}
use Rattle.cap_values.specs.NumberDigits.{digits_of_number}
use Rattle.cap_values.specs.declared.number.Number.{Number}
use Rattle.run_texts.specs.Happenings.{RowData, Happens, Meets, Recharges, Starts}
use Rattle.run_texts.specs.Sections.{Texts}
use Rattle.run_texts.specs.Setups.{TableSetup}
use Rattle.run_texts.specs.declared.input.Sections.{Sections}
use Rattle.run_texts.specs.declared.script.Happening.{Happening}
use Rattle.run_texts.specs.declared.script.Happening.TheVariants as happening
use Rattle.run_texts.specs.declared.script.ScriptRow.{ScriptRow}
use Rattle.run_values.specs.Setups.{Listing}

-- the texts of an input
abbrev pub texts_of_sections : Sections → Texts
texts_of_sections sections = record { tariff = sections.tariff.now; setup = sections.setup.now; script = sections.script.now }

-- the digits of the subscribers, each with its account
abbrev pub with_digits : List (Number × ℕ) → List (List ℕ × ℕ)
with_digits subscribers = map (λ subscriber. (digits_of_number subscriber.0, subscriber.1)) subscribers

-- what a directory says of a setup
abbrev pub setup_in : Listing → TableSetup
setup_in listing = record { accounts = listing.accounts; subscribers = with_digits listing.subscribers }

-- what happens, as plain data
abbrev pub happens_of : Happening → Happens
happens_of (happening.Start call calling called) = Starts call (digits_of_number calling) (digits_of_number called)
happens_of (happening.Meets call event) = Meets call event
happens_of (happening.Recharge account amount until) = Recharges account amount until

-- what a row of a script says
abbrev pub row_data : ScriptRow → RowData
row_data row = record { at = row.at; what = happens_of row.what }

-- no moment lies below the one before it, nor the first one below the start
abbrev pub rows_are_in_order : ℕ → List ScriptRow → Bool
rows_are_in_order start [] = true
rows_are_in_order start (row ∷ rows) = nat_le start row.at && rows_are_in_order row.at rows
