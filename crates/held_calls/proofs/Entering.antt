-- The recharges of a worker are entered, each once, or refused.
use Rattle.std.proofs.Common.{◌≡◌, ◌<◌, ◌++◌, ◌∙◌, ℕ, zero, suc, true, false, Option, Some, None, Ok, Err, List, [], ◌∷◌, length, map, refl, sym, ap, subst, arith, append-nil, get_or}
use Rattle.std.specs.Prelude.{◌==◌, slice_index_or}
use Rattle.std.specs.Map.{keys_of}
use Rattle.std.proofs.lemmas.Bool.Decides.{nat_tests}
use Rattle.std.proofs.lemmas.List.{append_assoc}
use Rattle.std.proofs.lemmas.Bool.{false_from_ne_true}
use Rattle.account_core.specs.Asked.{Credits}
use Rattle.account_core.specs.Entries.{EntryData}
use Rattle.account_core.specs.declared.fault.AccountFault.{AccountFault}
use Rattle.cap_values.specs.declared.message.SsfMsg.{SsfMsg}
use Rattle.dialogue_core.specs.Phases.{Says, Asks}
use Rattle.dialogue_core.specs.Rules.{Step, on_begin}
use Rattle.runs_core.proofs.OwnCalls.{TakesTo, begun_about, takes_answer}
use Rattle.held_calls.proofs.Talked.{begun_says, talk_credits}
use Rattle.held_calls.proofs.Chaining.{first_sound, once_sound}
use Rattle.held_calls.proofs.Growing.{place_within, read_grown}
use Rattle.runs_core.proofs.Handling.{Means, at_place, means_on, same_number}
use Rattle.held_calls.proofs.Sound.{own_of}
use Rattle.runs_core.specs.Chains.{at_first}
use Rattle.held_calls.specs.Chains.{AreHandled}
use Rattle.runs_core.specs.Handled.{Holding, IsDone, IsTalked, AnswerView}
use Rattle.held_calls.specs.Workers.{RechargesAreEntered, accepted_of, credited_by}
use Rattle.run_values.specs.Openings.{no_credit}
use Rattle.runs_core.specs.Served.{credited_in, credits_of}
use Rattle.run_values.specs.Setups.{Setup, place_of}
use Rattle.dialogue_core.specs.Talks.{Got}
use Rattle.runs_core.specs.Talks.{entries_of, entry_of, last_fault}
use Rattle.runs_core.specs.Verdicts.{Verdict, Strays, Rejects, Recharges, Begins, GoesOn, recharged, verdict_on}
use Rattle.held_calls.specs.Sound.{IsSoundHolding}
use Rattle.run_values.specs.declared.directory.OpeningCredit.{OpeningCredit}
use Rattle.run_values.specs.declared.post.Body.{Body}
use Rattle.run_values.specs.declared.post.Body.TheVariants.{Ssf, Recharge}
use Rattle.run_values.specs.declared.post.Post.{Post}

-- ---- a message of a call adds no Credit

none_more : (setup : Setup) (numbers : List ℕ) (call at place : ℕ) (first : Says × _) (old new : Holding) (t : AnswerView) → place < length old.lists
    → ((seat : ℕ) (gots : List Got) → credits_of (entries_of seat first gots) ≡ []) → IsTalked numbers call at first old new t
    → credits_of (slice_index_or new.lists place []) ≡ credits_of (slice_index_or old.lists place []) ++ []
none_more setup numbers call at place first old new t within none is =
    rw is.lists (read_grown (λ (e : EntryData). credited_in e.asked) old.lists at place (entries_of (slice_index_or numbers at 0) first is.gots) [] (λ here. omega (arith, here, within)) (λ here. none (slice_index_or numbers at 0) is.gots) (λ elsewhere. refl))

message_adds : (setup : Setup) (numbers : List ℕ) (posts : List Post) (place number at call : ℕ) (message : SsfMsg) (v : Verdict) (old new : Holding) (t : AnswerView) → place < length old.lists
    → IsSoundHolding (keys_of setup.accounts) posts old → Means setup old.talks number at (Ssf call message) v → IsDone setup numbers at v old new t
    → credits_of (slice_index_or new.lists place []) ≡ credits_of (slice_index_or old.lists place []) ++ []
message_adds setup numbers posts place number at call message Strays old new t within sound m done = rw (done.lists, append-nil (credits_of (slice_index_or old.lists place []))) refl
message_adds setup numbers posts place number at call message Rejects old new t within sound m done = rw (done.lists, append-nil (credits_of (slice_index_or old.lists place []))) refl
message_adds setup numbers posts place number at call message (Recharges other amount until) old new t within sound m done = let is = m.is in absurd (cc)
message_adds setup numbers posts place number at call message (Begins its there called) old new t within sound m done =
    let wanted : ℕ = setup.service.wanted in
    let least : ℕ = setup.service.least in
    none_more setup numbers its there place (on_begin its at wanted least done.route) old new t within
    (λ seat gots. talk_credits seat its (on_begin its at wanted least done.route) gots (begun_about its at wanted least done.route) (begun_says its at wanted least done.route)) done.talked
message_adds setup numbers posts place number at call message (GoesOn its there said phase) old new t within sound m done =
    let own = own_of (length (keys_of setup.accounts)) posts its m.standing (old.talks its) m.stands (sound.talks its) in
    let takes : TakesTo its number m.message (Ok (said, phase)) =
    let P : Step → Type 0 = λ step. TakesTo its number m.message step in
    subst P m.takes (takes_answer its number at m.standing.phase m.message own.is.about) in
    none_more setup numbers its there place (said, phase) old new t within (λ seat gots. talk_credits seat its (said, phase) gots takes.0 takes.1) done

no_money : (account call : ℕ) (message : SsfMsg) (refusal : Option AccountFault) → credited_by account (Ssf call message) refusal ≡ []
no_money account call message None = refl
no_money account call message (Some fault) = refl

-- ---- a recharge is one Credit of its account, or refused

-- a recharge of another account brings this one nothing
others_money : (account other amount : ℕ) (until : Option ℕ) (refusal : Option AccountFault) → (other == account) ≡ false → credited_by account (Recharge other amount until) refusal ≡ []
others_money account other amount until None is = rw is refl
others_money account other amount until (Some fault) is = refl

-- two accounts at one place are one
same_place : (setup : Setup) (account other place : ℕ) → place_of account setup ≡ Some place → place_of other setup ≡ Some place → (other == account) ≡ true
same_place setup account other place its others =
    let first = same_number (get_or setup.accounts place (0, no_credit)).0 account (at_place setup account place its).1 in
    let second = same_number (get_or setup.accounts place (0, no_credit)).0 other (at_place setup other place others).1 in
    let one : other ≡ account = sym second ∙ first in
    grind (arith, nat_tests, one)

one_place : (setup : Setup) (account other there place : ℕ) → place_of account setup ≡ Some place → place_of other setup ≡ Some there → (other == account) ≡ true → there ≡ place
one_place setup account other there place its others same =
    let P : ℕ → Type 0 = λ n. place_of n setup ≡ Some there in let here = subst P (same_number other account same) others in cc

its_money : (account other amount : ℕ) (until : Option ℕ) (seat : ℕ) (refusal : Option AccountFault) (got : Got) → (other == account) ≡ true → refusal ≡ last_fault (got ∷ [])
    → credits_of (entry_of seat (Asks (Credits amount until)) got) ≡ credited_by account (Recharge other amount until) refusal
its_money account other amount until seat refusal (Ok reply) is refused = rw (refused, is) refl
its_money account other amount until seat refusal (Err fault) is refused = rw refused refl

recharge_adds : (setup : Setup) (numbers : List ℕ) (account other place amount at : ℕ) (until : Option ℕ) (found : Option ℕ) (refusal : Option AccountFault) (old new : Holding) (t : AnswerView)
    → place < length old.lists → place_of account setup ≡ Some place → place_of other setup ≡ found → t.refused ≡ refusal → IsDone setup numbers at (recharged amount until found) old new t
    → credits_of (slice_index_or new.lists place []) ≡ credits_of (slice_index_or old.lists place []) ++ credited_by account (Recharge other amount until) refusal
recharge_adds setup numbers account other place amount at until None refusal old new t within its found refused done =
    let not : (other == account) ≡ true → ⊥ = λ same. let one = same_number other account same in let P : ℕ → Type 0 = λ n. place_of n setup ≡ None in let none = subst P one found in absurd (cc) in
    rw (done.lists, others_money account other amount until refusal (false_from_ne_true (other == account) not)) (sym (append-nil (credits_of (slice_index_or old.lists place []))))
recharge_adds setup numbers account other place amount at until (Some there) refusal old new t within its found refused done =
    rw done.lists
    (read_grown (λ (e : EntryData). credited_in e.asked) old.lists there place (entry_of (slice_index_or numbers there 0) (Asks (Credits amount until)) done.got)
    (credited_by account (Recharge other amount until) refusal) (λ here. omega (arith, here, within))
    (λ here. its_money account other amount until (slice_index_or numbers there 0) refusal done.got (same_place setup account other place its (found ∙ ap Some here)) (sym refused ∙ done.refused))
    (λ elsewhere. others_money account other amount until refusal (false_from_ne_true (other == account) (λ same. elsewhere (one_place setup account other there place its found same)))))

-- ---- a post, and all posts

adds : (setup : Setup) (numbers : List ℕ) (posts : List Post) (account place number at : ℕ) (body : Body) (refusal : Option AccountFault) (old new : Holding) (t : AnswerView) → place < length old.lists
    → place_of account setup ≡ Some place → IsSoundHolding (keys_of setup.accounts) posts old → t.refused ≡ refusal → IsDone setup numbers at (verdict_on setup old.talks number at body) old new t
    → credits_of (slice_index_or new.lists place []) ≡ credits_of (slice_index_or old.lists place []) ++ credited_by account body refusal
adds setup numbers posts account place number at (Ssf call message) refusal old new t within its sound refused done =
    rw (no_money account call message refusal)
    (message_adds setup numbers posts place number at call message (verdict_on setup old.talks number at (Ssf call message)) old new t within sound (means_on setup old.talks number at (Ssf call message)) done)
adds setup numbers posts account place number at (Recharge other amount until) refusal old new t within its sound refused done =
    recharge_adds setup numbers account other place amount at until (place_of other setup) refusal old new t within its refl refused done

adds_after : (setup : Setup) (numbers : List ℕ) (account place : ℕ) (done posts : List Post) (refusals : List (Option AccountFault)) (old new : Holding) → place_of account setup ≡ Some place
    → IsSoundHolding (keys_of setup.accounts) done old → AreHandled setup numbers posts refusals old new
    → credits_of (slice_index_or new.lists place []) ≡ credits_of (slice_index_or old.lists place []) ++ accepted_of account posts refusals
adds_after setup numbers account place done [] [] old new its sound are =
    ap (λ (h : Holding). credits_of (slice_index_or h.lists place [])) (sym are) ∙ sym (append-nil (credits_of (slice_index_or old.lists place [])))
adds_after setup numbers account place done [] (refusal ∷ refusals) old new its sound are = absurd are
adds_after setup numbers account place done (post ∷ posts) [] old new its sound are = absurd are
adds_after setup numbers account place done (post ∷ posts) (refusal ∷ refusals) old new its sound are =
    let within = place_within setup done old place sound (at_place setup account place its).0 in
    let once = adds setup numbers done account place post.number post.at post.body refusal old are.0 are.1.answer within its sound are.1.refused are.1.handled.done in
    adds_after setup numbers account place (done ++ post ∷ []) posts refusals are.0 new its (once_sound setup numbers done post refusal old are.0 sound are.1) are.2
    ∙ ap (λ l. l ++ accepted_of account posts refusals) once
    ∙ append_assoc (credits_of (slice_index_or old.lists place [])) (credited_by account post.body refusal) (accepted_of account posts refusals)

-- no account has an entry at first
pub none_at_first : (accounts : List (ℕ × OpeningCredit)) (place : ℕ) → slice_index_or {A = List EntryData} (map (λ account. []) accounts) place [] ≡ []
none_at_first [] place = refl
none_at_first (account ∷ accounts) zero = refl
none_at_first (account ∷ accounts) (suc place) = none_at_first accounts place

pub recharges_are_entered : RechargesAreEntered
recharges_are_entered setup number account place posts refusals lists is its =
    adds_after setup _ account place [] posts refusals (at_first setup) (record { lists = lists; talks = is.talks }) its (first_sound setup) is.chain
    ∙ ap (λ mine. credits_of mine ++ accepted_of account posts refusals) (none_at_first setup.accounts place)
