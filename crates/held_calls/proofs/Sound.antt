-- What a worker holds stays in order.
use Rattle.std.proofs.Common.{◌≡◌, ◌<◌, ◌++◌, ◌∙◌, ℕ, true, Option, Some, None, Ok, Err, List, [], ◌∷◌, length, refl, sym, subst, arith, inl, get_or}
use Rattle.std.specs.Prelude.{◌==◌, Contains, IfSome, slice_index_or}
use Rattle.std.specs.Map.{keys_of}
use Rattle.std.proofs.lemmas.Bool.Decides.{nat_tests}
use Rattle.std.proofs.lemmas.List.{flat_map_more, get_or-map, length-map}
use Rattle.std.proofs.lemmas.List.Elements.{All-nil, Contains-push}
use Rattle.account_core.specs.Asked.{Credits}
use Rattle.dialogue_core.specs.Phases.{Phase, Says, Asks}
use Rattle.dialogue_core.specs.Rules.{Step, on_begin}
use Rattle.runs_core.proofs.OwnCalls.{SaysOf, TakesTo, begun_about, settled_by, takes_answer}
use Rattle.held_calls.proofs.Talked.{begun_says, begun_settles, talk_credits, talk_held, talk_settles}
use Rattle.held_calls.proofs.Parts.{IsEntered, all_served_grown, all_served_more, begun_more, part_through}
use Rattle.runs_core.specs.Handled.{AnswerView, Holding, IsDone, IsTalked, Stay}
use Rattle.runs_core.specs.Served.{IsPart, Money, Report, begun_by, begun_of, recharged_in, reported_in, settles_of}
use Rattle.run_values.specs.Openings.{no_credit}
use Rattle.run_values.specs.Setups.{Setup}
use Rattle.dialogue_core.specs.Talks.{Got}
use Rattle.runs_core.specs.Talks.{entries_of, entry_of}
use Rattle.runs_core.specs.Verdicts.{DialogueAt, Verdict, Strays, Rejects, Recharges, Begins, GoesOn, verdict}
use Rattle.runs_core.specs.Workers.{IsAbout}
use Rattle.held_calls.specs.Sound.{IsOwn, IsSoundHolding}
use Rattle.run_values.specs.declared.directory.OpeningCredit.{OpeningCredit}
use Rattle.run_values.specs.declared.post.Body.{Body}
use Rattle.run_values.specs.declared.post.Post.{Post}
use Rattle.runs_core.proofs.Handling.{IsOfAccount, Means, at_place, ended_about, means_on, now_each, same_number, standing_so, stay_each}

pub own_of : (count : ℕ) (posts : List Post) (call : ℕ) (standing : DialogueAt) (found : Option DialogueAt) → found ≡ Some standing → IfSome found (λ s. IsOwn count posts call s)
    → IsOwn count posts call standing
own_of count posts call = standing_so (λ s. IsOwn count posts call s)

pub many_keys : (setup : Setup) → length (keys_of setup.accounts) ≡ length setup.accounts
many_keys setup = length-map setup.accounts (λ (e : ℕ × OpeningCredit). e.0)

pub is_itself : (n : ℕ) → (n == n) ≡ true
is_itself n = grind (arith, nat_tests)

own_more : (count : ℕ) (posts : List Post) (post : Post) (call : ℕ) (found : Option DialogueAt) → IfSome found (λ s. IsOwn count posts call s) → IfSome found (λ s. IsOwn count (posts ++ post ∷ []) call s)
own_more count posts post call None own = tt
own_more count posts post call (Some standing) own = record { is = own.is; begun = begun_more posts post call own.begun }

all_own_more : (count : ℕ) (posts : List Post) (post : Post) (talks : ℕ → Option DialogueAt) → ((call : ℕ) → IfSome (talks call) (λ s. IsOwn count posts call s))
    → (call : ℕ) → IfSome (talks call) (λ s. IsOwn count (posts ++ post ∷ []) call s)
all_own_more count posts post talks own call = own_more count posts post call (talks call) (own call)

unasked_sound : (accounts : List ℕ) (posts : List Post) (post : Post) (old new : Holding) → IsSoundHolding accounts posts old → new.lists ≡ old.lists → Stay old.talks new.talks
    → IsSoundHolding accounts (posts ++ post ∷ []) new
unasked_sound accounts posts post old new sound lists talks = record {
  served = rw lists (all_served_more accounts posts post old.lists sound.served);
  talks = stay_each (λ call s. IsOwn (length accounts) (posts ++ post ∷ []) call s) old.talks new.talks talks (all_own_more (length accounts) posts post old.talks sound.talks);
}

talked_sound : (accounts numbers : List ℕ) (call place : ℕ) (first : Says × Phase) (posts : List Post) (post : Post) (old new : Holding) (t : AnswerView) → IsSoundHolding accounts posts old
    → place < length accounts → Contains (begun_of (posts ++ post ∷ [])) call → IsAbout call first.1 → SaysOf call first.0
    → IsPart (settled_by first.0) (reported_in post.number post.body) → IsTalked numbers call place first old new t → IsSoundHolding accounts (posts ++ post ∷ []) new
talked_sound accounts numbers call place first posts post old new t sound within has about says settles is =
    let seat : ℕ = slice_index_or numbers place 0 in
    let entered : IsEntered (get_or accounts place 0) posts post (entries_of seat first is.gots) = record {
      settles = part_through (settles_of (entries_of seat first is.gots)) (settled_by first.0) (reported_in post.number post.body) (talk_settles seat call first is.gots about) settles;
      credits =
          let P : List Money → Type 0 = λ l. IsPart l (recharged_in (get_or accounts place 0) post.body) in subst P (sym (talk_credits seat call first is.gots about says)) tt;
      calls = talk_held seat call (begun_of (posts ++ post ∷ [])) first is.gots about says has;
    } in
    record {
      served = rw is.lists (all_served_grown accounts posts post old.lists place (entries_of seat first is.gots) sound.served within entered);
      talks = now_each (λ c s. IsOwn (length accounts) (posts ++ post ∷ []) c s) call (record { phase = is.phase; place = place }) old.talks new.talks is.talks
          (record { is = record { placed = within; about = ended_about numbers call place first old new t about is }; begun = has })
          (all_own_more (length accounts) posts post old.talks sound.talks);
    }

credit_entered : (account : ℕ) (posts : List Post) (post : Post) (seat amount : ℕ) (until : Option ℕ) (got : Got) → recharged_in account post.body ≡ (amount, until) ∷ []
    → IsEntered account posts post (entry_of seat (Asks (Credits amount until)) got)
credit_entered account posts post seat amount until (Ok reply) is = record {
  settles = tt;
  credits = let P : List Money → Type 0 = λ l. IsPart ((amount, until) ∷ []) l in subst P (sym is) (inl (refl, tt));
  calls = All-nil (λ call. Contains (begun_of (posts ++ post ∷ [])) call);
}
credit_entered account posts post seat amount until (Err fault) is =
    record { settles = tt; credits = tt; calls = All-nil (λ call. Contains (begun_of (posts ++ post ∷ [])) call) }

of_account : (setup : Setup) (body : Body) (place amount : ℕ) (until : Option ℕ) → IsOfAccount setup body place amount until → recharged_in (get_or (keys_of setup.accounts) place 0) body ≡ (amount, until) ∷ []
of_account setup body place amount until m =
    let found = at_place setup m.account place m.at in
    let key : get_or (keys_of setup.accounts) place 0 ≡ m.account =
    get_or-map (λ (e : ℕ × OpeningCredit). e.0) setup.accounts place (0, no_credit) 0 found.0 ∙ same_number (get_or setup.accounts place (0, no_credit)).0 m.account found.1 in
    rw (key, m.is, is_itself m.account) refl

sound_by : (setup : Setup) (numbers : List ℕ) (posts : List Post) (post : Post) (v : Verdict) (old new : Holding) (t : AnswerView) → IsSoundHolding (keys_of setup.accounts) posts old
    → Means setup old.talks post.number post.at post.body v → IsDone setup numbers post.at v old new t → IsSoundHolding (keys_of setup.accounts) (posts ++ post ∷ []) new
sound_by setup numbers posts post Strays old new t sound m done = unasked_sound (keys_of setup.accounts) posts post old new sound done.lists done.talks
sound_by setup numbers posts post Rejects old new t sound m done = unasked_sound (keys_of setup.accounts) posts post old new sound done.lists done.talks
sound_by setup numbers posts post (Recharges place amount until) old new t sound m done =
    let within : place < length (keys_of setup.accounts) = rw (many_keys setup) (at_place setup m.account place m.at).0 in
    let seat : ℕ = slice_index_or numbers place 0 in
    record {
      served =
          rw done.lists
          (all_served_grown (keys_of setup.accounts) posts post old.lists place (entry_of seat (Asks (Credits amount until)) done.got) sound.served within
          (credit_entered (get_or (keys_of setup.accounts) place 0) posts post seat amount until done.got (of_account setup post.body place amount until m)));
      talks = stay_each (λ c s. IsOwn (length (keys_of setup.accounts)) (posts ++ post ∷ []) c s) old.talks new.talks done.talks
          (all_own_more (length (keys_of setup.accounts)) posts post old.talks sound.talks);
    }
sound_by setup numbers posts post (Begins call place called) old new t sound m done =
    let within : place < length (keys_of setup.accounts) = rw (many_keys setup) m.within in
    let has : Contains (begun_of (posts ++ post ∷ [])) call =
    let P : List ℕ → Type 0 = λ calls. Contains calls call in
    subst P (flat_map_more (λ (p : Post). begun_by p.body) [] posts post) (rw m.begins (Contains-push (begun_of posts) call)) in
    let settles : IsPart (settled_by (on_begin call post.at setup.service.wanted setup.service.least done.route).0) (reported_in post.number post.body) =
    let P : List Report → Type 0 = λ l. IsPart l (reported_in post.number post.body) in
    subst P (sym (begun_settles call post.at setup.service.wanted setup.service.least done.route)) tt in
    talked_sound (keys_of setup.accounts) numbers call place (on_begin call post.at setup.service.wanted setup.service.least done.route) posts post old new t sound within has
    (begun_about call post.at setup.service.wanted setup.service.least done.route) (begun_says call post.at setup.service.wanted setup.service.least done.route) settles done.talked
sound_by setup numbers posts post (GoesOn call place said phase) old new t sound m done =
    let own = own_of (length (keys_of setup.accounts)) posts call m.standing (old.talks call) m.stands (sound.talks call) in
    let within : place < length (keys_of setup.accounts) = rw (← m.same) own.is.placed in
    let takes : TakesTo call post.number m.message (Ok (said, phase)) =
    let P : Step → Type 0 = λ step. TakesTo call post.number m.message step in
    subst P m.takes (takes_answer call post.number post.at m.standing.phase m.message own.is.about) in
    talked_sound (keys_of setup.accounts) numbers call place (said, phase) posts post old new t sound within (begun_more posts post call own.begun) takes.0 takes.1 (rw m.is takes.2) done

-- what a worker holds stays in order
pub sound_after : (setup : Setup) (numbers : List ℕ) (posts : List Post) (post : Post) (old new : Holding) (t : AnswerView) → IsSoundHolding (keys_of setup.accounts) posts old
    → IsDone setup numbers post.at (verdict setup old.talks post) old new t → IsSoundHolding (keys_of setup.accounts) (posts ++ post ∷ []) new
sound_after setup numbers posts post old new t sound done =
    sound_by setup numbers posts post (verdict setup old.talks post) old new t sound (means_on setup old.talks post.number post.at post.body) done
