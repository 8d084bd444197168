-- The workers of a run go on from round to round.
use Rattle.std.proofs.Common.{◌≡◌, ◌<◌, ◌+◌, ◌++◌, ℕ, Bool, true, false, List, [], ◌∷◌, length, map, refl, ap, sym, subst, ◌∙◌, arith, suc, zero}
use Rattle.std.specs.Prelude.{All, replicate, slice_index_or}
use Rattle.std.proofs.lemmas.List.{length-map, map-append}
use Rattle.std.proofs.lemmas.List.Elements.{All-head, All-tail}
use Rattle.run_values.specs.Setups.{Setup}
use Rattle.run_values.specs.declared.post.Answer.{Answer}
use Rattle.run_values.specs.declared.post.Body.{Body}
use Rattle.run_values.specs.declared.post.Post.{Post}
use Rattle.account_core.specs.Refusals.{Knowing}
use Rattle.account_core.specs.Seats.{Reads}
use Rattle.runs_core.specs.Handled.{answer_view}
use Rattle.runs_core.specs.Workers.{accounts_of, seats_of, setup_of}
use Rattle.runs_core.specs.declared.worker.Worker.{Worker}
use Rattle.runs_core.proofs.Finishing.{left_at, left_many}
use Rattle.runs_core.proofs.WorkerLemmas.{answered_more, left_by}
use Rattle.runs_core.proofs.HearingLemmas.{AreRounds, all_heard-more, answers_more, round_last, round_more}
use Rattle.runs_core.proofs.HandOuts.{handled_more, none_handled}
use Rattle.runs_core.specs.Crews.{HasPlayed, HasServed, IsServedRound, count_of}
use Rattle.runs_core.specs.Goings.{HasAnswered}
use Rattle.runs_core.specs.Hearing.{HasLeft, all_heard}
use Rattle.runs_core.specs.Sending.{AreLeftBy, ArePromised, heard_by, promises_of, sent_by}
use Rattle.runs_core.specs.Teams.{IsLeft}
use Rattle.runs_core.specs.declared.crew.Crew.{Crew}
use Rattle.runs_core.specs.declared.worker_link.WorkerLink.{WorkerLink}

-- links of the same promises are as many
pub same_count : {S G T : Type 0} (old now : List (WorkerLink S G T)) → promises_of now ≡ promises_of old → length now ≡ length old
same_count old now same = sym (length-map now (λ link. link.child.promise)) ∙ ap length same ∙ length-map old (λ link. link.child.promise)

-- a round more
pub served_more : {K S G T : Type 0} (account_number : S → ℕ) (key : S → K) (read : Reads K T) (Was : T → Knowing) (setup : Setup) (accounts : List S) (given added now : List (ℕ × Body)) (answers more : List Answer) (old new : Crew S G T)
    → now ≡ given ++ added → HasServed account_number key read Was setup accounts given answers old → IsServedRound account_number key read Was (length given) added more old new
    → HasServed account_number key read Was setup accounts now (answers ++ more) new
served_more account_number key read Was setup accounts given added now answers more old new grown before is =
    let handled = handled_more (count_of old) given added (before.own ∷ map sent_by old.links.items) (is.own ∷ is.others) before.shares is.are_shares in
    let heard = answers_more (count_of old) given added answers more (before.mine ∷ map heard_by old.links.items) (is.mine ∷ is.replies) before.are_answers is.are_answers in
    record {
      own = before.own ++ is.own;
      shares = rw (is.count, grown, is.sent) handled;
      mine = before.mine ++ is.mine;
      first = rw (map-append answer_view before.mine is.mine)
          (answered_more account_number key read Was setup accounts 0 before.own is.own (map answer_view before.mine) (map answer_view is.mine) old.worker new.worker before.first is.goes_on);
      are_answers = rw (is.count, grown, is.heard) heard;
    }

silent_all : {L : Type 0} (sent_by : L → List Post) (links : List L) → All (λ link. sent_by link ≡ []) links → map sent_by links ≡ replicate (length links) []
silent_all sent_by [] none = refl
silent_all sent_by (link ∷ links) none =
    rw (All-head (λ l. sent_by l ≡ []) link links none) (ap (λ rest. [] ∷ rest) (silent_all sent_by links (All-tail (λ l. sent_by l ≡ []) link links none)))

silent_at : {L : Type 0} (heard_by : L → List Answer) (links : List L) (worker : ℕ) → All (λ link. heard_by link ≡ []) links → slice_index_or (map heard_by links) worker [] ≡ []
silent_at heard_by [] worker none = refl
silent_at heard_by (link ∷ links) zero none = All-head (λ l. heard_by l ≡ []) link links none
silent_at heard_by (link ∷ links) (suc worker) none = silent_at heard_by links worker (All-tail (λ l. heard_by l ≡ []) link links none)

none_at_first : {L : Type 0} (heard_by : L → List Answer) (links : List L) (worker : ℕ) → All (λ link. heard_by link ≡ []) links → slice_index_or ([] ∷ map heard_by links) worker [] ≡ []
none_at_first heard_by links zero none = refl
none_at_first heard_by links (suc worker) none = silent_at heard_by links worker none

-- before the first round
pub none_served : {K S G T : Type 0} (account_number : S → ℕ) (key : S → K) (read : Reads K T) (Was : T → Knowing) (setup : Setup) (accounts : List S) (crew : Crew S G T)
    → HasAnswered account_number key read Was setup accounts 0 [] [] crew.worker → All (λ link. sent_by link ≡ []) crew.links.items → All (λ link. heard_by link ≡ []) crew.links.items
    → HasServed account_number key read Was setup accounts [] [] crew
none_served account_number key read Was setup accounts crew first silent unheard =
    let many : length crew.links.items + 1 ≡ suc (length crew.links.items) = omega (arith) in
    record {
      own = [];
      shares = none_handled (count_of crew) ([] ∷ map sent_by crew.links.items) (ap (λ ps. [] ∷ ps) (silent_all sent_by crew.links.items silent) ∙ ap (λ n. replicate n []) (sym many));
      mine = [];
      first = first;
      are_answers = record {
        numbers = refl;
        count = ap suc (length-map crew.links.items heard_by) ∙ sym many;
        each = λ worker below. none_at_first heard_by crew.links.items worker unheard;
      };
    }

-- by the setup and the accounts that the first worker has
pub played_by : {D K S G T : Type 0} (given : D → List (ℕ × Body)) (ended : D → Bool) (hears : D → List Answer → D → Type 0) (account_number : S → ℕ) (key : S → K) (read : Reads K T) (Was : T → Knowing) (setup : Setup) (accounts : List S) (worker : Worker S T) (old new : D) (crew : Crew S G T)
    → HasAnswered account_number key read Was setup accounts 0 [] [] worker
    → HasPlayed given ended hears account_number key read Was (setup_of worker) (accounts_of worker) old new crew → HasPlayed given ended hears account_number key read Was setup accounts old new crew
played_by given ended hears account_number key read Was setup accounts worker old new crew first has =
    subst (λ s. HasPlayed given ended hears account_number key read Was s accounts old new crew) first.setup_is
    (subst (λ a. HasPlayed given ended hears account_number key read Was (setup_of worker) a old new crew) first.accounts_are has)

pub none_served_by : {K S G T : Type 0} (account_number : S → ℕ) (key : S → K) (read : Reads K T) (Was : T → Knowing) (setup : Setup) (accounts : List S) (crew : Crew S G T)
    → HasAnswered account_number key read Was setup accounts 0 [] [] crew.worker → All (λ link. sent_by link ≡ []) crew.links.items → All (λ link. heard_by link ≡ []) crew.links.items
    → HasServed account_number key read Was (setup_of crew.worker) (accounts_of crew.worker) [] [] crew
none_served_by account_number key read Was setup accounts crew first silent unheard =
    subst (λ s. HasServed account_number key read Was s (accounts_of crew.worker) [] [] crew) (sym first.setup_is)
    (subst (λ a. HasServed account_number key read Was setup a [] [] crew) (sym first.accounts_are) (none_served account_number key read Was setup accounts crew first silent unheard))

-- ---- what the driver has heard

-- rounds so far: of all that the driver was given it has heard the answers, but for those of the last round
pub record IsPlaying {D K S G T : Type 0} (given : D → List (ℕ × Body)) (ended : D → Bool) (hears : D → List Answer → D → Type 0) (account_number : S → ℕ) (key : S → K) (read : Reads K T) (Was : T → Knowing) (setup : Setup) (accounts : List S) (old now : D) (answers : List Answer) (crew : Crew S G T) : Type 0 where
  pub heard : List (List Answer)
  pub rounds : AreRounds given ended hears [] old heard now
  pub served : HasServed account_number key read Was setup accounts (given now) (all_heard heard ++ answers) crew

pub none_played : {D K S G T : Type 0} (given : D → List (ℕ × Body)) (ended : D → Bool) (hears : D → List Answer → D → Type 0) (account_number : S → ℕ) (key : S → K) (read : Reads K T) (Was : T → Knowing) (setup : Setup) (accounts : List S) (driver : D) (answers : List Answer) (crew : Crew S G T)
    → given driver ≡ [] → answers ≡ [] → HasServed account_number key read Was setup accounts [] [] crew
    → IsPlaying given ended hears account_number key read Was setup accounts driver driver answers crew
none_played given ended hears account_number key read Was setup accounts driver answers crew nothing none served =
    record { heard = []; rounds = refl; served = rw (nothing, none) served }

-- a round more is played
pub played_more : {D K S G T : Type 0} (given : D → List (ℕ × Body)) (ended : D → Bool) (hears : D → List Answer → D → Type 0) (account_number : S → ℕ) (key : S → K) (read : Reads K T) (Was : T → Knowing) (setup : Setup) (accounts : List S)
    (old between now : D) (answers more : List Answer) (crew next : Crew S G T) (added : List (ℕ × Body))
    → IsPlaying given ended hears account_number key read Was setup accounts old between answers crew → given now ≡ given between ++ added → hears between answers now → ended now ≡ false
    → IsServedRound account_number key read Was (length (given between)) added more crew next
    → IsPlaying given ended hears account_number key read Was setup accounts old now more next
played_more given ended hears account_number key read Was setup accounts old between now answers more crew next added before grown heard goes_on round = record {
  heard = before.heard ++ answers ∷ [];
  rounds = round_more given ended hears [] old before.heard between answers now before.rounds (record { each = before.served.are_answers.numbers; hears_them = heard }) goes_on;
  served = rw (all_heard-more before.heard answers)
      (served_more account_number key read Was setup accounts (given between) added (given now) (all_heard before.heard ++ answers) more crew next grown before.served round);
}

-- the last round is played
pub played_out : {D K S G T : Type 0} (given : D → List (ℕ × Body)) (ended : D → Bool) (hears : D → List Answer → D → Type 0) (account_number : S → ℕ) (key : S → K) (read : Reads K T) (Was : T → Knowing) (setup : Setup) (accounts : List S)
    (old between now : D) (answers : List Answer) (crew next : Crew S G T)
    → IsPlaying given ended hears account_number key read Was setup accounts old between answers crew → given now ≡ given between → hears between answers now → ended now ≡ true → next ≡ crew
    → HasPlayed given ended hears account_number key read Was setup accounts old now next
played_out given ended hears account_number key read Was setup accounts old between now answers crew next before same heard ends stays = record {
  heard = before.heard ++ answers ∷ [];
  rounds = round_last given ended hears [] old before.heard between answers now before.rounds (record { each = before.served.are_answers.numbers; hears_them = heard }) ends;
  served = rw (all_heard-more before.heard answers, same, stays) before.served;
}

-- ---- what all workers leave

first_or_other : {K S G T : Type 0} (account_number : S → ℕ) (key : S → K) (read : Reads K T) (Was : T → Knowing) (setup : Setup) (accounts : List S) (given : List (ℕ × Body)) (answers : List Answer) (crew : Crew S G T) (first : List T) (teams : List (List T)) (worker : ℕ)
    → (served : HasServed account_number key read Was setup accounts given answers crew) → first ≡ seats_of crew.worker → ArePromised setup accounts 1 (promises_of crew.links.items)
    → AreLeftBy read key Was crew.links.items teams → worker < count_of crew
    → IsLeft read Was (map key accounts) setup worker (slice_index_or (served.own ∷ map sent_by crew.links.items) worker []) (map answer_view (slice_index_or (served.mine ∷ map heard_by crew.links.items) worker []))
    (slice_index_or (first ∷ teams) worker [])
first_or_other account_number key read Was setup accounts given answers crew first teams zero served seats promised by below =
    subst (IsLeft read Was (map key accounts) setup 0 served.own (map answer_view served.mine)) (sym seats)
    (left_by account_number key read Was setup accounts 0 served.own (map answer_view served.mine) crew.worker served.first)
first_or_other account_number key read Was setup accounts given answers crew first teams (suc worker) served seats promised by below =
    let here : 1 + worker ≡ suc worker = omega arith in
    subst (λ n. IsLeft read Was (map key accounts) setup n (slice_index_or (map sent_by crew.links.items) worker []) (map answer_view (slice_index_or (map heard_by crew.links.items) worker [])) (slice_index_or teams worker [])) here
    (left_at read key Was setup accounts 1 worker crew.links.items teams promised by (omega (arith, below)))

pub has_left : {D K S G T : Type 0} (given : D → List (ℕ × Body)) (ended : D → Bool) (hears : D → List Answer → D → Type 0) (account_number : S → ℕ) (key : S → K) (read : Reads K T) (Was : T → Knowing) (setup : Setup) (accounts : List S)
    (old new : D) (crew : Crew S G T) (first : List T) (teams : List (List T)) (workers : ℕ)
    → HasPlayed given ended hears account_number key read Was setup accounts old new crew → first ≡ seats_of crew.worker → ArePromised setup accounts 1 (promises_of crew.links.items)
    → AreLeftBy read key Was crew.links.items teams → count_of crew ≡ workers
    → HasLeft given ended hears read Was (map key accounts) setup workers old new (first ∷ teams)
has_left given ended hears account_number key read Was setup accounts old new crew first teams workers played seats promised by many =
    let has = played.served in
    record {
      handled = has.own ∷ map sent_by crew.links.items;
      shares = rw (← many) has.shares;
      heard = played.heard;
      rounds = played.rounds;
      lists = has.mine ∷ map heard_by crew.links.items;
      are_answers = rw (← many) has.are_answers;
      count = omega (arith, many, left_many read key Was crew.links.items teams by);
      left = λ worker below.
          first_or_other account_number key read Was setup accounts (given new) (all_heard played.heard) crew first teams worker has seats promised by (omega (arith, below, many));
    }
