-- Workers are started and waited for, one after the other.
use Rattle.std.proofs.Common.{◌≡◌, ◌≢◌, ◌<◌, ℕ, ◌+◌, List, [], ◌∷◌, ◌++◌, length, map, refl, ap, sym, subst, ◌∙◌, arith, zero, suc, Option, Some, None}
use Rattle.std.specs.Option.{option_or}
use Rattle.std.specs.Prelude.{Err, IfSome, Ok, Result, slice_index_or}
use Rattle.std.specs.Map.{keys_of}
use Rattle.std.proofs.lemmas.List.{append-nil, append_assoc}
use Rattle.run_values.specs.Setups.{Setup}
use Rattle.run_values.specs.declared.directory.OpeningCredit.{OpeningCredit}
use Rattle.account_core.specs.Refusals.{Knowing}
use Rattle.account_core.specs.Seats.{Reads}
use Rattle.account_core.specs.Terms.{Terms}
use Rattle.runs_core.specs.Handled.{answer_view}
use Rattle.runs_core.specs.Workers.{number_by}
use Rattle.runs_core.specs.Sending.{AreLeftBy, ArePromised, IsLeftBy, IsPromised, heard_by, promises_of, sent_by}
use Rattle.runs_core.specs.Teams.{IsLeft, terms_of, terms_with}
use Rattle.runs_core.specs.declared.worker_link.WorkerLink.{WorkerLink}
use Rattle.runs_core.specs.declared.promise.WorkerPromise.{WorkerPromise}
use Rattle.run_values.specs.declared.run_fault.RunFault.{RunFault}
use Rattle.run_values.specs.declared.run_fault.RunFault.TheVariants as out

pub promised_more : {S G T : Type 0} (setup : Setup) (accounts : List S) (number : ℕ) (promises : List (WorkerPromise S G T)) (promise : WorkerPromise S G T)
    → ArePromised setup accounts number promises → IsPromised setup accounts (number + length promises) promise → ArePromised setup accounts number (promises ++ promise ∷ [])
promised_more setup accounts number [] promise before one =
    let here : number + 0 ≡ number = omega (arith) in
    (subst (λ n. IsPromised setup accounts n promise) here one, tt)
promised_more setup accounts number (first ∷ promises) promise before one =
    let here : number + suc (length promises) ≡ number + 1 + length promises = omega (arith) in
    (before.0, promised_more setup accounts (number + 1) promises promise before.1 (subst (λ n. IsPromised setup accounts n promise) here one))

left_more : {K S G T : Type 0} (read : Reads K T) (key : S → K) (Was : T → Knowing) (links : List (WorkerLink S G T)) (teams : List (List T)) (link : WorkerLink S G T) (team : List T)
    → AreLeftBy read key Was links teams → IsLeftBy read key Was link team → AreLeftBy read key Was (links ++ link ∷ []) (teams ++ team ∷ [])
left_more read key Was [] [] link team before is = (is, tt)
left_more read key Was [] (t ∷ teams) link team before is = absurd before
left_more read key Was (l ∷ links) [] link team before is = absurd before
left_more read key Was (l ∷ links) (t ∷ teams) link team before is = (before.0, left_more read key Was links teams link team before.1 is)

-- the workers before a place have left, or some have failed
pub record IsFinishing {K S G T : Type 0} (read : Reads K T) (key : S → K) (Was : T → Knowing) (may_shut : Type 0) (links rest : List (WorkerLink S G T)) (old teams : List (List T)) (fault : Option RunFault) : Type 0 where
  pub done : List (WorkerLink S G T)
  pub split : done ++ rest ≡ links
  pub left_by : fault ≡ None → (later : List (List T)) × (teams ≡ old ++ later) × AreLeftBy read key Was done later
  pub shut : fault ≡ Some out.GateClosed → may_shut
  pub workers : fault ≢ Some out.Workers

pub none_finished : {K S G T : Type 0} (read : Reads K T) (key : S → K) (Was : T → Knowing) (may_shut : Type 0) (links rest : List (WorkerLink S G T)) (teams : List (List T)) → rest ≡ links
    → IsFinishing read key Was may_shut links rest teams teams None
none_finished read key Was may_shut links rest teams whole = record {
  done = [];
  split = whole;
  left_by = λ _. ([], sym (append-nil teams), tt);
  shut = λ never. absurd (cc);
  workers = λ never. absurd (cc);
}

-- one more has left
pub one_finished : {K S G T : Type 0} (read : Reads K T) (key : S → K) (Was : T → Knowing) (may_shut : Type 0) (links rest : List (WorkerLink S G T)) (old teams more : List (List T)) (fault : Option RunFault) (link : WorkerLink S G T) (team : List T)
    → IsFinishing read key Was may_shut links (link ∷ rest) old teams fault → more ≡ teams ++ team ∷ [] → IsLeftBy read key Was link team
    → IsFinishing read key Was may_shut links rest old more fault
one_finished read key Was may_shut links rest old teams more fault link team before grown is = record {
  done = before.done ++ link ∷ [];
  split = append_assoc before.done (link ∷ []) rest ∙ before.split;
  left_by = λ none. let (later, are, by) = before.left_by none in
      (later ++ team ∷ [], grown ∙ ap (λ all. all ++ team ∷ []) are ∙ append_assoc old later (team ∷ []), left_more read key Was before.done later link team by is);
  shut = before.shut;
  workers = before.workers;
}

-- one more has failed
pub one_failed : {K S G T : Type 0} (read : Reads K T) (key : S → K) (Was : T → Knowing) (may_shut : Type 0) (links rest : List (WorkerLink S G T)) (old teams more : List (List T)) (fault : Option RunFault) (link : WorkerLink S G T) (why : RunFault)
    → IsFinishing read key Was may_shut links (link ∷ rest) old teams fault → (why ≡ out.GateClosed → may_shut) → why ≢ out.Workers
    → IsFinishing read key Was may_shut links rest old more (option_or fault (Some why))
one_failed read key Was may_shut links rest old teams more None link why before shut named = record {
  done = before.done ++ link ∷ [];
  split = append_assoc before.done (link ∷ []) rest ∙ before.split;
  left_by = λ none. absurd (cc);
  shut = λ closed. let is : why ≡ out.GateClosed = cc in shut is;
  workers = λ closed. let is : why ≡ out.Workers = cc in named is;
}
one_failed read key Was may_shut links rest old teams more (Some first) link why before shut named = record {
  done = before.done ++ link ∷ [];
  split = append_assoc before.done (link ∷ []) rest ∙ before.split;
  left_by = λ none. absurd (cc);
  shut = before.shut;
  workers = before.workers;
}

-- a first worker of a round that has ended well has not failed
pub none_failed : {X : Type 0} (failed : Option RunFault) (result : Result X RunFault) (x : X) → IfSome failed (λ why. result ≡ Err why) → result ≡ Ok x → failed ≡ None
none_failed None result x answer ok = refl
none_failed (Some why) result x answer ok = let never : Ok x ≡ Err why = sym ok ∙ answer in absurd (cc)

-- all have left
pub all_finished : {K S G T : Type 0} (read : Reads K T) (key : S → K) (Was : T → Knowing) (may_shut : Type 0) (links rest : List (WorkerLink S G T)) (old teams : List (List T)) (fault : Option RunFault)
    → length rest ≡ 0 → (finishing : IsFinishing read key Was may_shut links rest old teams fault) → finishing.done ≡ links
all_finished read key Was may_shut links [] old teams fault none finishing = sym (append-nil finishing.done) ∙ finishing.split
all_finished read key Was may_shut links (link ∷ rest) old teams fault none finishing = absurd (cc)

left_as : {K S G T : Type 0} (read : Reads K T) (key : S → K) (Was : T → Knowing) (setup : Setup) (accounts : List S) (number : ℕ) (link : WorkerLink S G T) (team : List T)
    → IsPromised setup accounts number link.child.promise → IsLeftBy read key Was link team → IsLeft read Was (map key accounts) setup number (sent_by link) (map answer_view (heard_by link)) team
left_as {S = S} read key Was setup accounts number link team promised is =
    let Its : List S → Setup → ℕ → Type 0 = λ a s n. IsLeft read Was (map key a) s n (sent_by link) (map answer_view (heard_by link)) team in
    subst (λ n. Its accounts setup n) promised.number_is
    (subst (λ s. Its accounts s link.child.promise.number) promised.setup_is (subst (λ a. Its a link.child.promise.setup.now link.child.promise.number) promised.accounts_are is))

-- what the workers of one run have left, by their numbers
pub left_at : {K S G T : Type 0} (read : Reads K T) (key : S → K) (Was : T → Knowing) (setup : Setup) (accounts : List S) (number k : ℕ) (links : List (WorkerLink S G T)) (teams : List (List T))
    → ArePromised setup accounts number (promises_of links) → AreLeftBy read key Was links teams → k < length links
    → IsLeft read Was (map key accounts) setup (number + k) (slice_index_or (map sent_by links) k []) (map answer_view (slice_index_or (map heard_by links) k [])) (slice_index_or teams k [])
left_at read key Was setup accounts number k [] teams promised by below = absurd (omega (arith, below))
left_at read key Was setup accounts number k (link ∷ links) [] promised by below = absurd by
left_at read key Was setup accounts number zero (link ∷ links) (team ∷ teams) promised by below =
    let here : number ≡ number + 0 = omega arith in
    subst (λ n. IsLeft read Was (map key accounts) setup n (sent_by link) (map answer_view (heard_by link)) team) here
    (left_as read key Was setup accounts number link team promised.0 by.0)
left_at read key Was setup accounts number (suc k) (link ∷ links) (team ∷ teams) promised by below =
    let later : number + 1 + k ≡ number + suc k = omega arith in
    subst (λ n. IsLeft read Was (map key accounts) setup n (slice_index_or (map sent_by links) k []) (map answer_view (slice_index_or (map heard_by links) k [])) (slice_index_or teams k [])) later
    (left_at read key Was setup accounts (number + 1) k links teams promised.1 by.1 (omega (arith, below)))

pub left_many : {K S G T : Type 0} (read : Reads K T) (key : S → K) (Was : T → Knowing) (links : List (WorkerLink S G T)) (teams : List (List T)) → AreLeftBy read key Was links teams → length teams ≡ length links
left_many read key Was [] [] by = refl
left_many read key Was [] (team ∷ teams) by = absurd by
left_many read key Was (link ∷ links) [] by = absurd by
left_many read key Was (link ∷ links) (team ∷ teams) by = ap suc (left_many read key Was links teams by.1)

-- the numbers of accounts that were opened are those of the setup
pub numbers_of : {S : Type 0} (terms : S → Terms) (limit workers : ℕ) (setup : List (ℕ × OpeningCredit)) (accounts : List S) → map terms accounts ≡ terms_of limit workers setup
    → map (number_by terms) accounts ≡ keys_of setup
numbers_of terms limit workers [] [] same = refl
numbers_of terms limit workers [] (account ∷ accounts) same = absurd (cc)
numbers_of terms limit workers (first ∷ setup) [] same = absurd (cc)
numbers_of terms limit workers (first ∷ setup) (account ∷ accounts) same =
    let its : terms account ≡ terms_with limit workers first = cc in
    let number : (terms account).number ≡ first.0 = ap (λ (t : Terms). t.number) its in
    let rest : map terms accounts ≡ terms_of limit workers setup = cc in
    rw (number) (ap (λ numbers. first.0 ∷ numbers) (numbers_of terms limit workers setup accounts rest))
