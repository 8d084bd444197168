-- What a run makes of an input is what it makes of its bytes.
use Rattle.std.proofs.Common.{◌≡◌, ℕ, Bool, true, false, List, Option, Some, None, Result, Ok, Err, inl, inr, refl, subst, sym}
use Rattle.std.specs.Prelude.{◌⊎◌, IfErr, IfOk, IfSome, MatchResult, option_map, if◌then◌else◌}
use Rattle.std.specs.declared.io.ErrorKind.{ErrorKind}
use Rattle.run_values.specs.declared.run_fault.RunFault.TheVariants as run
use Rattle.table_commands.specs.Explanations.{IsSaidOfAnswer, IsSaidOfFault}
use Rattle.table_commands.specs.Faults.{GivesOne, RefusesCommand, UnlessMayAlwaysCome}
use Rattle.table_commands.specs.Input.{is_out_of_memory, sized}
use Rattle.table_commands.specs.Printouts.{Printout}
use Rattle.table_commands.specs.declared.fault.Fault.{Fault}
use Rattle.table_commands.specs.declared.fault.Fault.TheVariants as fault
use Rattle.prepaid.specs.Explanations.{IsSaidBehind}
use Rattle.prepaid.specs.Faults.{of_files}
use Rattle.prepaid.proofs.AnswerLemmas.{none_said}

-- what is meant by an input, where its bytes mean this
abbrev Means : (List ℕ → Result Printout Fault → Type 0) → List ℕ → Result Printout Fault → Type 0
Means IsMeant input answer = MatchResult (sized input) (λ text. IsMeant text answer) (λ why. answer ≡ Err why)

either_meant : {P Q : Type 0} → (P → Q) → Q ⊎ P → Q
either_meant so (inl is) = is
either_meant so (inr is) = so is

-- a fact about a fault: it is so, or it follows from one that is so unless the fault may always come
meant : {P Q : Type 0} (why : Fault) → (P → Q) → Q ⊎ UnlessMayAlwaysCome why P → UnlessMayAlwaysCome why Q
meant fault.Arguments so is = either_meant so is
meant fault.Config so is = either_meant so is
meant fault.TooLong so is = either_meant so is
meant fault.Parts so is = either_meant so is
meant (fault.Tariff row) so is = either_meant so is
meant (fault.Table name row) so is = either_meant so is
meant (fault.Log why) so is = either_meant so is
meant (fault.LogRow row kind) so is = either_meant so is
meant fault.Into so is = either_meant so is
meant fault.Device so is = tt
meant (fault.Run run.OutOfMemory) so is = tt
meant (fault.Run run.Workers) so is = either_meant so is
meant (fault.Run run.GateClosed) so is = either_meant so is
meant (fault.Run run.Mismatch) so is = either_meant so is
meant (fault.Run run.Channel) so is = either_meant so is
meant (fault.Run run.Thread) so is = either_meant so is

-- an answer that is meant is given
pub gives_meant : {Y : Type 0} (IsMeant : Result Y Fault → Type 0) (why : Fault) → IsMeant (Err why) → GivesOne IsMeant (Err why)
gives_meant IsMeant why is = meant why (λ all. all) (inl is)

-- a fault that the reading of an input gave is meant by it
read_meant : (IsMeant : Result Printout Fault → Type 0) (read : Result (List ℕ) Fault) (why : Fault) → (read ≡ Err why → IsMeant (Err why)) → RefusesCommand why read → GivesOne IsMeant (Err why)
read_meant IsMeant read why so is = meant why so (inr is)

-- ---- an input that was read

pub read_gives : (IsMeant : List ℕ → Result Printout Fault → Type 0) (known : Option (List ℕ)) (bytes : List ℕ) (answer : Result Printout Fault)
    → IfSome known (λ text. sized text ≡ Ok bytes) → GivesOne (IsMeant bytes) answer → IfSome known (λ text. GivesOne (Means IsMeant text) answer)
read_gives IsMeant None bytes answer read gives = tt
read_gives IsMeant (Some text) bytes answer read gives =
    subst (λ (r : Result (List ℕ) Fault). GivesOne (λ given. MatchResult r (λ t. IsMeant t given) (λ why. given ≡ Err why)) answer) (sym read) gives

said_over : {W X : Type 0} (text_of : W → List ℕ) (known : Option (List ℕ)) (bytes : List ℕ) (more : Option W) (answer : Result X Fault)
    → IfSome known (λ text. bytes ≡ text) → IfErr answer (λ why. IfSome more (λ said. IsSaidOfFault true bytes why (text_of said)))
    → IfSome known (λ text. IfErr answer (λ why. IfSome (option_map text_of more) (λ said. IsSaidOfFault true text why said)))
said_over text_of None bytes more answer same said = tt
said_over text_of (Some text) bytes more (Ok x) same said = tt
said_over text_of (Some text) bytes None (Err why) same said = tt
said_over text_of (Some text) bytes (Some m) (Err why) same said = subst (λ (t : List ℕ). IsSaidOfFault true t why (text_of m)) same said

pub read_said : {W X : Type 0} (explaining : Bool) (text_of : W → List ℕ) (known : Option (List ℕ)) (bytes : List ℕ) (more : Option W) (answer : Result X Fault)
    → (explaining ≡ false → more ≡ None) → IfSome known (λ text. bytes ≡ text) → IfErr answer (λ why. IfSome more (λ said. IsSaidOfFault true bytes why (text_of said)))
    → IsSaidOfAnswer explaining true known answer (option_map text_of more)
read_said explaining text_of known bytes more answer only same said =
    record { only = λ off. none_said text_of more (only off); said = said_over text_of known bytes more answer same said }

pub read_behind : {W X : Type 0} (text_of : W → List ℕ) (events : X → List ℕ) (known : Option (List ℕ)) (bytes : List ℕ) (more : Option W) (answer : Result X Fault)
    → IfSome known (λ text. bytes ≡ text) → IfOk answer (λ x. IfSome more (λ said. IsSaidBehind bytes (events x) (text_of said)))
    → IfSome known (λ text. IfOk answer (λ x. IfSome more (λ said. IsSaidBehind text (events x) (text_of said))))
read_behind text_of events None bytes more answer same said = tt
read_behind text_of events (Some text) bytes more (Err why) same said = tt
read_behind text_of events (Some text) bytes None (Ok x) same said = tt
read_behind text_of events (Some text) bytes (Some m) (Ok x) same said = subst (λ (t : List ℕ). IsSaidBehind t (events x) (text_of m)) same said

-- ---- and one that wasn't

pub unread_gives : (IsMeant : List ℕ → Result Printout Fault → Type 0) (known : Option (List ℕ)) (why : Fault) → IfSome known (λ text. RefusesCommand why (sized text))
    → IfSome known (λ text. GivesOne (Means IsMeant text) (Err why))
unread_gives IsMeant None why read = tt
unread_gives IsMeant (Some text) why read = read_meant (Means IsMeant text) (sized text) why (λ failed. rw failed refl) read

long_said : {W : Type 0} (text_of : W → List ℕ) (known : Option (List ℕ)) (more : Option W) (why : Fault) → IfSome more (λ said. why ≡ fault.TooLong)
    → IfSome known (λ text. IfSome (option_map text_of more) (λ said. IsSaidOfFault true text why said))
long_said text_of None more why long = tt
long_said text_of (Some text) None why long = tt
long_said text_of (Some text) (Some m) why long = rw long tt

pub unread_said : {W X : Type 0} (explaining : Bool) (text_of : W → List ℕ) (known : Option (List ℕ)) (more : Option W) (answer : Result X Fault) (why : Fault)
    → answer ≡ Err why → (explaining ≡ false → more ≡ None) → IfSome more (λ said. why ≡ fault.TooLong) → IsSaidOfAnswer explaining true known answer (option_map text_of more)
unread_said explaining text_of known more answer why is only long =
    rw is (record { only = λ off. none_said text_of more (only off); said = long_said text_of known more why long })

-- ---- files that couldn't be written

unwritten_by : (IsMeant : Result Printout Fault → Type 0) (out : Bool) → IsMeant (Err fault.Into) → GivesOne IsMeant (Err (if out then fault.Run run.OutOfMemory else fault.Into))
unwritten_by IsMeant true is = tt
unwritten_by IsMeant false is = is

pub unwritten : (IsMeant : Result Printout Fault → Type 0) (why : ErrorKind) → IsMeant (Err fault.Into) → GivesOne IsMeant (Err (of_files why))
unwritten IsMeant why is = unwritten_by IsMeant (is_out_of_memory why) is

-- and nothing that the input shows is said of them
unsaid_by : {W : Type 0} (text_of : W → List ℕ) (input : List ℕ) (out : Bool) (more : Option W)
    → IfSome more (λ said. IsSaidOfFault true input (if out then fault.Run run.OutOfMemory else fault.Into) (text_of said))
unsaid_by text_of input true None = tt
unsaid_by text_of input true (Some m) = tt
unsaid_by text_of input false None = tt
unsaid_by text_of input false (Some m) = tt

pub unwritten_said : {W : Type 0} (text_of : W → List ℕ) (input : List ℕ) (why : ErrorKind) (more : Option W) → IfSome more (λ said. IsSaidOfFault true input (of_files why) (text_of said))
unwritten_said text_of input why more = unsaid_by text_of input (is_out_of_memory why) more
