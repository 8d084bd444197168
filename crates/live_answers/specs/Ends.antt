-- What the service prints at the end of its input.
use Rattle.std.specs.Prelude.{◌≡◌, ◌++◌, ℕ, Bool, true, false, List, [], Option, Some, None, ⊤, codes}
use Rattle.book_texts.specs.BookTexts.{book_text, version_of}
use Rattle.book_texts.specs.RunTexts.{IsRunText}
use Rattle.run_outputs.specs.Records.{Run}
use Rattle.run_outputs.specs.Tables.{IsCallText}
use Rattle.live_answers.specs.declared.stage.LiveFault.{LiveFault}
use Rattle.live_answers.specs.declared.stage.LiveFault.TheVariants as fault
use Rattle.tariff_core.specs.declared.clock.Clock.TheVariants as clock
use Rattle.table_core.specs.Fronts.{AppendsFront}
use Rattle.run_values.specs.declared.live.LiveOutput.{LiveOutput}
use Rattle.run_values.specs.declared.live.LiveOutput.TheVariants as output
use Rattle.tariff_core.specs.Bands.{have_steps}
use Rattle.run_values.specs.declared.run_fault.RunFault.TheVariants as run
use Rattle.live_answers.specs.declared.error.ServeError.{ServeError}
use Rattle.live_answers.specs.declared.error.ServeError.TheVariants as error

-- a line `%%` and a table, or nothing where there is none
abbrev pub end_with : Option (List ℕ) → List ℕ
end_with None = []
end_with (Some table) = codes "%%\n" ++ table

-- the end of what is printed of a run: nothing, or behind a line `%%` the lines of its accounts and calls, the table of its books or that of its calls, as `run` prints them
abbrev pub IsEndOf : LiveOutput → Run → List ℕ → Type 0
IsEndOf output.Nothing ran text = text ≡ []
IsEndOf output.Lines ran text = (lines : List ℕ) × IsRunText ran.books lines × (text ≡ codes "%%\n" ++ lines)
IsEndOf output.Book ran text = text ≡ codes "%%\n" ++ book_text (version_of (have_steps ran.setup.tariff) ran.books) ran.books
IsEndOf output.Calls ran text = (calls : List ℕ) × IsCallText clock.Digits ran calls × (text ≡ codes "%%\n" ++ calls)

-- whether the output of a run failed
abbrev pub is_cut_off : Option LiveFault → Bool
is_cut_off (Some fault.Output) = true
is_cut_off why = false

-- the output failed within a text
abbrev pub IsCutAt : Option (List ℕ) → Option (List ℕ) → List ℕ → ServeError → Type 0
IsCutAt old new text why = (why ≡ error.Live fault.Output) × AppendsFront old new text

-- the end wasn't printed whole: the output failed within it, or memory ran out
abbrev pub IsCutEnd : LiveOutput → Run → Option (List ℕ) → Option (List ℕ) → ServeError → Type 0
IsCutEnd output ran old new (error.Live fault.Output) = (text : List ℕ) × IsEndOf output ran text × AppendsFront old new text
IsCutEnd output ran old new (error.Run run.OutOfMemory) = ⊤
IsCutEnd output ran old new why = ⊥
