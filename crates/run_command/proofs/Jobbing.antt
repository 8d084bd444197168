-- Parts that were played one by one are all played.
use Rattle.std.proofs.Common.{◌≡◌, ◌≤◌, ◌<◌, ◌∙◌, ℕ, true, List, [], ◌∷◌, ◌++◌, Ok, length, map, sym, ap, subst, arith, append_assoc, append-nil, All}
use Rattle.std.proofs.Math.ListN.{drop, get_or, take}
use Rattle.std.proofs.Math.Seq.{take-append_seam}
use Rattle.std.proofs.lemmas.List.{get_or-map, length-map, map-append}
use Rattle.std.proofs.lemmas.List.Elements.{All-head, All-map, All-tail}
use Rattle.std.specs.Prelude.{Err, IfErr, IfOk, Result}
use Rattle.run_command.specs.Answers.{MayFail}
use Rattle.run_command.specs.InParts.{ArePlayed, IsKeptPart}
use Rattle.run_command.specs.Jobs.{HasPlayedPart, IsInOrder}
use Rattle.run_command.specs.declared.error.RunError.{RunError}
use Rattle.run_outputs.specs.declared.part.Part.{Part}
use Rattle.run_command.specs.declared.jobs.Job.{Job}
use Rattle.run_values.specs.declared.options.RunAsk.{RunAsk}
use Rattle.run_texts.specs.Views.{rows_are_in_order}
use Rattle.run_texts.specs.declared.script.ScriptRow.{ScriptRow}
use Rattle.run_values.specs.Setups.{Setup}
use Rattle.price_core.specs.declared.times.TheConstants.{MAX_MOMENT}

-- what came of a part that was kept
abbrev pub kept_as : Part → Result Part RunError
kept_as part = Ok part

module _ {V : Type 0} (inside : V → List ScriptRow) (script_of : Job → V) (same : (job : Job) → inside (script_of job) ≡ job.script.items) (ask : RunAsk) (setup : Setup) (firsts : List ℕ)
    (scripts : List V) (before : List Job) (scripts_are : map script_of before ≡ scripts) where
  its_rows : (part : ℕ) (d : Job) → part < length before → get_or (map inside scripts) part [] ≡ (get_or before part d).script.items
  its_rows part d within =
      let there : part < length (map script_of before) = let many = length-map before script_of in omega (arith, within, many) in
      ap (λ (s : List V). get_or (map inside s) part []) (sym scripts_are)
      ∙ get_or-map inside (map script_of before) part (script_of d) [] there
      ∙ ap inside (get_or-map script_of before part d (script_of d) within) ∙ same (get_or before part d)

  its_part : (after : List Job) (parts : List Part) (part : ℕ) (d : Part) (t : Job) → length after ≡ length before → map (λ job. job.played) after ≡ map kept_as parts → part < length parts
      → ((k : ℕ) (e : Job) → k < length before → HasPlayedPart ask setup firsts k (get_or before k e) (get_or after k e))
      → IsKeptPart ask setup firsts part (get_or (map inside scripts) part []) (get_or parts part d)
  its_part after parts part d t as_many kept within each =
      let played : List (Result Part RunError) = map (λ job. job.played) after in
      let many = length-map after (λ job. job.played) in
      let all : length played ≡ length parts = ap length kept ∙ length-map parts kept_as in
      let there : part < length after = omega (arith, within, many, all) in
      let here : part < length before = omega (arith, there, as_many) in
      let is : (get_or after part t).played ≡ Ok (get_or parts part d) =
      sym (get_or-map (λ job. job.played) after part t (Ok d) there) ∙ ap (λ (l : List (Result Part RunError)). get_or l part (Ok d)) kept ∙ get_or-map kept_as parts part d (Ok d) within in
      let Is : Result Part RunError → Type 0 = λ r. IfOk r (IsKeptPart ask setup firsts part (get_or before part t).script.items) in
      subst (λ rows. IsKeptPart ask setup firsts part rows (get_or parts part d)) (sym (its_rows part t here)) (subst Is is (each part t here).kept)

  from_any : (after : List Job) (parts : List Part) (part : ℕ) (d : Part) → part < length parts → length after ≡ length before → map (λ job. job.played) after ≡ map kept_as parts
      → ((k : ℕ) (e : Job) → k < length before → HasPlayedPart ask setup firsts k (get_or before k e) (get_or after k e))
      → IsKeptPart ask setup firsts part (get_or (map inside scripts) part []) (get_or parts part d)
  from_any [] parts part d within as_many kept each =
      let all : 0 ≡ length parts = ap length kept ∙ length-map parts kept_as in
      absurd (omega (arith, all, within))
  from_any (job ∷ after) parts part d within as_many kept each = its_part (job ∷ after) parts part d job as_many kept within each

  pub all_played : (after : List Job) (parts : List Part) → length after ≡ length before → map (λ job. job.played) after ≡ map kept_as parts
      → ((k : ℕ) (e : Job) → k < length before → HasPlayedPart ask setup firsts k (get_or before k e) (get_or after k e))
      → ArePlayed ask setup firsts (map inside scripts) parts
  all_played after parts as_many kept each =
      let many = length-map after (λ job. job.played) in
      let all : length (map (λ (job : Job). job.played) after) ≡ length parts = ap length kept ∙ length-map parts kept_as in
      let own = length-map before script_of in
      let others : length (map inside (map script_of before)) ≡ length (map inside scripts) = ap (λ (s : List V). length (map inside s)) scripts_are in
      let with_rows = length-map (map script_of before) inside in
      record {
        count = omega (arith, as_many, many, all, own, others, with_rows);
        each = λ part d within. from_any after parts part d within as_many kept each;
      }

-- the rows of each job are in range and in order, where those of each script are
pub all_in_order : {V : Type 0} (inside : V → List ScriptRow) (script_of : Job → V) → ((job : Job) → inside (script_of job) ≡ job.script.items) → (jobs : List Job) (scripts : List V)
    → map script_of jobs ≡ scripts → All (λ rows. All (λ row. row.at ≤ MAX_MOMENT) (inside rows)) scripts → All (λ rows. rows_are_in_order 0 (inside rows) ≡ true) scripts → All IsInOrder jobs
all_in_order inside script_of same jobs scripts are in_range in_order = λ k d within.
    let there : k < length (map script_of jobs) = let many = length-map jobs script_of in omega (arith, within, many) in
    let In_range : List ScriptRow → Type 0 = λ rows. All (λ row. row.at ≤ MAX_MOMENT) rows in
    let In_order : List ScriptRow → Type 0 = λ rows. rows_are_in_order 0 rows ≡ true in
    let own : All (λ rows. In_range (inside rows)) (map script_of jobs) = subst (λ (s : List _). All (λ rows. In_range (inside rows)) s) (sym are) in_range in
    let ordered : All (λ rows. In_order (inside rows)) (map script_of jobs) = subst (λ (s : List _). All (λ rows. In_order (inside rows)) s) (sym are) in_order in
    let is = ap inside (get_or-map script_of jobs k d (script_of d) within) ∙ same (get_or jobs k d) in
    record { in_range = subst In_range is (own k (script_of d) there); in_order = subst In_order is (ordered k (script_of d) there) }

-- what was lent whole is written back whole
pub written : {X : Type 0} (len : ℕ) (old new : List X) → len ≡ length old → length new ≡ length old → take len (new ++ drop (length new) old) ≡ new
written len old new is as_many =
    ap (λ n. take n (new ++ drop (length new) old)) (is ∙ sym as_many) ∙ take-append_seam new (drop (length new) old)

-- what a list is taken to, where one more is taken behind it
pub taken_to : {X Y : Type 0} (f : X → Y) (done : List X) (next : X) (rest : List Y) → map f (done ++ next ∷ []) ++ rest ≡ map f done ++ f next ∷ rest
taken_to f done next rest = ap (λ l. l ++ rest) (map-append f done (next ∷ [])) ∙ append_assoc (map f done) (f next ∷ []) rest

-- where no job is left, all parts are kept
pub all_kept : (jobs rest : List Job) (parts : List Part) → length rest ≡ 0 → map kept_as parts ++ map (λ job. job.played) rest ≡ map (λ job. job.played) jobs → map (λ job. job.played) jobs ≡ map kept_as parts
all_kept jobs [] parts none all = sym all ∙ append-nil (map kept_as parts)
all_kept jobs (job ∷ rest) parts none all = absurd (omega (arith, none))

-- what holds of all that came of jobs holds of what came of the first that wasn't kept
of_next : (P : Result Part RunError → Type 0) (parts : List Part) (next : Result Part RunError) (rest : List (Result Part RunError)) → All P (map kept_as parts ++ next ∷ rest) → P next
of_next P [] next rest all = All-head P next rest all
of_next P (part ∷ parts) next rest all = of_next P parts next rest (All-tail P (kept_as part) (map kept_as parts ++ next ∷ rest) all)

-- its fault is one that the run may have, where each job may fail by such faults alone
pub next_fault : (workers : ℕ) (jobs : List Job) (parts : List Part) (next : Result Part RunError) (rest : List (Result Part RunError)) (why : RunError) → next ≡ Err why
    → map kept_as parts ++ next ∷ rest ≡ map (λ job. job.played) jobs → All (λ job. IfErr job.played (MayFail workers)) jobs → MayFail workers why
next_fault workers jobs parts next rest why failed split each =
    let May : Result Part RunError → Type 0 = λ r. IfErr r (MayFail workers) in
    subst May failed (of_next May parts next rest (subst (λ l. All May l) (sym split) (All-map May (λ (job : Job). job.played) jobs each)))
