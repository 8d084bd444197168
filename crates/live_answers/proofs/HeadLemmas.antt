-- The head of an input is read section by section.
use Rattle.std.proofs.Common.{◌≡◌, ℕ, List, Option, Some, Result, Ok, Err, refl, inl, inr}
use Rattle.std.specs.Prelude.{IfSome}
use Rattle.run_texts.specs.FirstSections.{Divides, first_section}
use Rattle.run_texts.specs.InputFaults.{RefusesInput}
use Rattle.run_texts.specs.Inputs.{tariff_in}
use Rattle.run_texts.specs.Views.{setup_in}
use Rattle.run_texts.specs.declared.input_fault.InputFault.{InputFault}
use Rattle.run_texts.specs.declared.input_fault.InputFault.TheVariants as input
use Rattle.table_core.specs.Judging.{and_then}
use Rattle.live_answers.specs.Heads.{HasHead, ReadsHead, RefusesService, SaysHead, TakesHeader, setup_said}
use Rattle.live_answers.specs.Inputs.{as_serve_fault, live_input_of}
use Rattle.live_answers.specs.declared.head.Head.{Head}
use Rattle.live_answers.specs.declared.error.ServeError.{ServeError}
use Rattle.live_answers.specs.declared.error.ServeError.TheVariants as error

-- a section that is refused
refused_answered : {X Y : Type 0} (why : InputFault) (meaning : Result X InputFault) (next : X → Result Y ServeError) → RefusesInput why meaning
    → RefusesService (error.Input why) (and_then (as_serve_fault meaning) next)
refused_answered input.Parts meaning next is = rw is refl
refused_answered input.TooLong meaning next is = rw is refl
refused_answered (input.Tariff row) meaning next is = rw is refl
refused_answered (input.Setup row) meaning next is = rw is refl
refused_answered (input.Script row) meaning next is = rw is refl
refused_answered input.Device meaning next is = tt
refused_answered input.OutOfMemory meaning next is = tt

-- what both sections say
pub said_by : (text first second : List ℕ) (mid left : Option (List ℕ)) (result : Result Head InputFault) → Divides text mid (Ok first) → IfSome mid (λ rest. Divides rest left (Ok second))
    → SaysHead first second result → ReadsHead text left result
said_by text first second mid left result one two says =
    let (rest, mid_is, is) = one in
    let (behind, left_is, is_too) = rw mid_is at two in
    by_result rest behind is left_is is_too result says
  where
    by_result : (rest behind : List ℕ) → first_section text ≡ Ok (record { section = first; rest = rest }) → left ≡ Some behind
        → first_section rest ≡ Ok (record { section = second; rest = behind }) → (result : Result Head InputFault) → SaysHead first second result → ReadsHead text left result
    by_result rest behind is left_is is_too (Ok head) says = record {
      one = record { section = first; rest = rest };
      two = record { section = second; rest = behind };
      is_one = is;
      is_two = is_too;
      left_is = left_is;
      says = says;
    }
    by_result rest behind is left_is is_too (Err why) (inl no_tariff) = rw (is, is_too) (refused_answered why (tariff_in first) _ no_tariff)
    by_result rest behind is left_is is_too (Err why) (inr (bands, tariff_is, no_setup)) = rw (is, is_too, tariff_is) (refused_answered why (setup_said second) _ no_setup)

-- what is in front of the rows
pub with_header : (text : List ℕ) (left new : Option (List ℕ)) (head : Head) → HasHead text left head → IfSome left (λ behind. TakesHeader behind new (Ok tt))
    → (rows : List ℕ) × (new ≡ Some rows) × (live_input_of text ≡ Ok (record { tariff = head.tariff; setup = setup_in head.directory; rows = rows }))
with_header text left new head has takes =
    let (rows, new_is, behind_is) = rw has.left_is at takes in
    (rows, new_is, rw (has.is_one, has.is_two, has.says.0, has.says.1, behind_is) refl)
