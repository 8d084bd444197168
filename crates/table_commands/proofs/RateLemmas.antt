-- How a rating that has met a fault was reported.
use Rattle.std.proofs.Common.{◌≡◌, ◌++◌, ℕ, Bool, List, Option, [], Some, Err, codes, inl, inr, refl}
use Rattle.std.specs.Io.KnownBytes.{Keeps}
use Rattle.table_core.specs.Fronts.{AppendsFront}
use Rattle.rating.specs.Asks.{RateWish}
use Rattle.rating.specs.Ends.{StopsBy}
use Rattle.rating.specs.Texts.{rate_input_of}
use Rattle.rating.specs.declared.fault.RateFault.{RateFault}
use Rattle.rating.specs.declared.fault.RateFault.TheVariants as rate
use Rattle.run_texts.specs.declared.input_fault.InputFault.TheVariants as input
use Rattle.table_commands.specs.Ratings.{ExplainsHeaderAlone, IsRatedByWish, IsSaidOfRating}
use Rattle.table_commands.specs.Faults.{line_of_fault, of_rate, status_of}
use Rattle.table_commands.specs.Writers.{IsSaid, Written}
use Rattle.table_commands.specs.declared.fault.Fault.{Fault}

unexplained : (explaining : Bool) (wish : RateWish) (text : List ℕ) (status : ℕ) (old new : Written) (why : RateFault) (fault : Fault)
    → (rate_input_of wish.names text ≡ Err why) × Keeps old.output new.output → of_rate why ≡ Some fault → ExplainsHeaderAlone explaining why []
    → (status ≡ status_of fault) × AppendsFront old.faults new.faults (line_of_fault fault ++ codes "\n") → IsRatedByWish explaining wish text status old new
unexplained explaining wish text status old new why fault refused is nothing said = inr (inl (record {
  why = why;
  refused = refused.0;
  fault = fault;
  fault_is = is;
  more = [];
  only = nothing;
  reported = record { status_is = said.0; line = said.1; output = refused.1 };
}))

-- what is said of a rating that stopped, where nothing is said of its header
pub plainly_said : (explaining : Bool) (why : RateFault) (status : ℕ) (old new : Option (List ℕ)) → IsSaid explaining (of_rate why) status old new → IsSaidOfRating explaining why status old new
plainly_said explaining (rate.Header wrong) status old new said = record { status_is = said.0; more = []; only = λ unasked. refl; line = said.1 }
plainly_said explaining rate.Output status old new said = said
plainly_said explaining (rate.Input why) status old new said = said

pub not_rated : (explaining : Bool) (wish : RateWish) (text : List ℕ) (status : ℕ) (old new : Written) (why : RateFault) → StopsBy wish.differing (rate_input_of wish.names text) old.output new.output why
    → IsSaidOfRating explaining why status old.faults new.faults → IsRatedByWish explaining wish text status old new
not_rated explaining wish text status old new rate.Output stops said = inr (inr (record { status_is = said.0; front = inr stops; line = inl said.1 }))
not_rated explaining wish text status old new (rate.Input input.Device) stops said = inr (inr (record { status_is = said.0; front = stops; line = inr (inl said.1) }))
not_rated explaining wish text status old new (rate.Input input.OutOfMemory) stops said = inr (inr (record { status_is = said.0; front = stops; line = inr (inr said.1) }))
not_rated explaining wish text status old new (rate.Header wrong) stops said = inr (inl (record {
  why = rate.Header wrong;
  refused = stops.0;
  fault = _;
  fault_is = refl;
  more = said.more;
  only = said.only;
  reported = record { status_is = said.status_is; line = said.line; output = stops.1 };
}))
not_rated explaining wish text status old new (rate.Input input.Parts) stops said = unexplained explaining wish text status old new (rate.Input input.Parts) _ stops refl refl said
not_rated explaining wish text status old new (rate.Input input.TooLong) stops said = unexplained explaining wish text status old new (rate.Input input.TooLong) _ stops refl refl said
not_rated explaining wish text status old new (rate.Input (input.Tariff row)) stops said = unexplained explaining wish text status old new (rate.Input (input.Tariff row)) _ stops refl refl said
not_rated explaining wish text status old new (rate.Input (input.Setup row)) stops said = unexplained explaining wish text status old new (rate.Input (input.Setup row)) _ stops refl refl said
not_rated explaining wish text status old new (rate.Input (input.Script row)) stops said = unexplained explaining wish text status old new (rate.Input (input.Script row)) _ stops refl refl said
