-- What a worker does for some accounts and their calls, with all posts and with those of these alone.
use Rattle.std.proofs.Common.{◌≡◌, ◌∙◌, ℕ, zero, suc, Bool, true, false, true≢false, Option, Some, None, List, [], ◌∷◌, refl, sym, ap, subst, arith}
use Rattle.std.specs.Prelude.{◌==◌, filter, if◌then◌else◌, option_and_then, slice_index_or}
use Rattle.std.specs.Option.{ForSome}
use Rattle.std.proofs.lemmas.Bool.Decides.{nat_tests}
use Rattle.account_core.specs.Entries.{EntryData}
use Rattle.part_laws.proofs.Plain.{AllShown, done_shown}
use Rattle.part_laws.specs.Chosen.{Choice, IsByAccount, is_chosen}
use Rattle.run_values.specs.Openings.{no_credit}
use Rattle.run_values.specs.Setups.{Setup, account_of, place_of}
use Rattle.run_values.specs.declared.post.Body.{Body}
use Rattle.run_values.specs.declared.post.Body.TheVariants.{Ssf, Recharge}
use Rattle.run_values.specs.declared.post.Post.{Post}
use Rattle.runs_core.proofs.Handling.{Means, at_place, means_on}
use Rattle.runs_core.specs.Chains.{AreAnswered}
use Rattle.runs_core.specs.Handled.{AnswerView, Holding, IsDone, IsRightlyHandled, IsTalked, StandsNow, Stay, grown}
use Rattle.runs_core.specs.Talks.{Showing}
use Rattle.runs_core.specs.Verdicts.{Begins, DialogueAt, GoesOn, Recharges, Rejects, Strays, Verdict, spoken, verdict, verdict_on}

-- ---- the lists of some places

-- the lists at these places, and none at the others
abbrev pub masked : (ℕ → Bool) → List (List EntryData) → List (List EntryData)
masked picks [] = []
masked picks (mine ∷ lists) = (if picks zero then mine else []) ∷ masked (λ place. picks (suc place)) lists

masked_in : (picks : ℕ → Bool) (lists : List (List EntryData)) (place : ℕ) (entries : List EntryData) → picks place ≡ true
    → masked picks (grown lists place entries) ≡ grown (masked picks lists) place entries
masked_in picks [] place entries is = refl
masked_in picks (mine ∷ lists) zero entries is = rw is refl
masked_in picks (mine ∷ lists) (suc place) entries is =
    ap (λ l. (if picks zero then mine else []) ∷ l) (masked_in (λ p. picks (suc p)) lists place entries is)

masked_out : (picks : ℕ → Bool) (lists : List (List EntryData)) (place : ℕ) (entries : List EntryData) → picks place ≡ false
    → masked picks (grown lists place entries) ≡ masked picks lists
masked_out picks [] place entries is = refl
masked_out picks (mine ∷ lists) zero entries is = rw is refl
masked_out picks (mine ∷ lists) (suc place) entries is =
    ap (λ l. (if picks zero then mine else []) ∷ l) (masked_out (λ p. picks (suc p)) lists place entries is)

module _ (setup : Setup) (choice : Choice) where
  -- whether the account at a place is of these
  abbrev pub picks : ℕ → Bool
  picks place = choice.accounts (slice_index_or setup.accounts place (0, no_credit)).0

  -- each dialogue of these calls, and no other, is with one of these accounts
  abbrev pub AreAtHome : (ℕ → Option DialogueAt) → Type 0
  AreAtHome talks = (call : ℕ) (standing : DialogueAt) → talks call ≡ Some standing → choice.calls call ≡ picks standing.place

  -- a worker holds what another one does of these accounts and calls
  pub record HoldsPart (whole part : Holding) : Type 0 where
    pub lists : part.lists ≡ masked picks whole.lists
    pub talks : (call : ℕ) → choice.calls call ≡ true → part.talks call ≡ whole.talks call

  -- ---- the place of a post is of these where the post is

  picked_place : (account place : ℕ) → place_of account setup ≡ Some place → choice.accounts account ≡ picks place
  picked_place account place at =
      let same : account ≡ (slice_index_or setup.accounts place (0, no_credit)).0 =
      grind (arith, nat_tests, (at_place setup account place at).1) in
      ap choice.accounts same

  picked_home : (call : ℕ) (account : Option ℕ) (place : ℕ) → ForSome account (λ a. choice.calls call ≡ choice.accounts a) → option_and_then (λ a. place_of a setup) account ≡ Some place
      → choice.calls call ≡ picks place
  picked_home call None place by at = absurd (cc)
  picked_home call (Some account) place by at = by account refl ∙ picked_place account place at

  -- of a verdict: the place that it is about is of these where the post is
  abbrev Touches : Bool → Verdict → Type 0
  Touches own Strays = Unit {0}
  Touches own Rejects = Unit {0}
  Touches own (Recharges place amount until) = own ≡ picks place
  Touches own (Begins call place called) = (own ≡ choice.calls call) × (own ≡ picks place)
  Touches own (GoesOn call place said phase) = (own ≡ choice.calls call) × (own ≡ picks place)

  touches : (talks : ℕ → Option DialogueAt) (number at : ℕ) (body : Body) (v : Verdict) → AreAtHome talks → IsByAccount setup choice body → Means setup talks number at body v
      → Touches (is_chosen choice body) v
  touches talks number at body Strays home by means = tt
  touches talks number at body Rejects home by means = tt
  touches talks number at body (Recharges place amount until) home by means = ap (is_chosen choice) means.is ∙ picked_place means.account place means.at
  touches talks number at body (Begins call place called) home by means =
      let B : Body → Type 0 = IsByAccount setup choice in
      let own = ap (is_chosen choice) means.is in
      (own, own ∙ picked_home call (account_of means.calling setup.subscribers) place (subst B means.is by) means.home)
  touches talks number at body (GoesOn call place said phase) home by means =
      let own = ap (is_chosen choice) means.is in (own, own ∙ home call means.standing means.stands ∙ ap picks means.same)

  -- ---- dialogues stay at home

  abbrev at_phase : DialogueAt → Option DialogueAt → Bool → Option DialogueAt
  at_phase standing old here = if here then Some standing else old

  stays_home : (old new : ℕ → Option DialogueAt) → Stay old new → AreAtHome old → AreAtHome new
  stays_home old new stay home call standing is = home call standing (sym (stay call) ∙ is)

  now_home : (call : ℕ) (standing : DialogueAt) (old new : ℕ → Option DialogueAt) → StandsNow call standing old new → choice.calls call ≡ picks standing.place → AreAtHome old → AreAtHome new
  now_home call standing old new now same home other found is = by_call (other == call) refl (sym (now other) ∙ is)
    where
      by_call : (b : Bool) → (other == call) ≡ b → at_phase standing (old other) b ≡ Some found → choice.calls other ≡ picks found.place
      by_call true here is =
          let its : other ≡ call = grind (arith, nat_tests, here) in
          let it : standing ≡ found = cc is in
          ap choice.calls its ∙ same ∙ ap (λ (s : DialogueAt). picks s.place) it
      by_call false here is = home other found is

  done_home : (numbers : List ℕ) (at : ℕ) (v : Verdict) (own : Bool) (old new : Holding) (answer : AnswerView) → Touches own v → AreAtHome old.talks → IsDone setup numbers at v old new answer → AreAtHome new.talks
  done_home numbers at Strays own old new answer touch home done = stays_home old.talks new.talks done.talks home
  done_home numbers at Rejects own old new answer touch home done = stays_home old.talks new.talks done.talks home
  done_home numbers at (Recharges place amount until) own old new answer touch home done = stays_home old.talks new.talks done.talks home
  done_home numbers at (Begins call place called) own old new answer touch home done =
      now_home call (record { phase = done.talked.phase; place = place }) old.talks new.talks done.talked.talks (sym touch.0 ∙ touch.1) home
  done_home numbers at (GoesOn call place said phase) own old new answer touch home done =
      now_home call (record { phase = done.phase; place = place }) old.talks new.talks done.talks (sym touch.0 ∙ touch.1) home

  -- ---- a post of other accounts

  differs : (call other : ℕ) → choice.calls call ≡ false → choice.calls other ≡ true → (other == call) ≡ false
  differs call other apart own = by_call (other == call) refl
    where
      by_call : (b : Bool) → (other == call) ≡ b → b ≡ false
      by_call true here =
          let its : other ≡ call = grind (arith, nat_tests, here) in
          absurd (true≢false (sym own ∙ ap choice.calls its ∙ apart))
      by_call false here = refl

  stays_part : (whole new part : Holding) → new.lists ≡ whole.lists → Stay whole.talks new.talks → HoldsPart whole part → HoldsPart new part
  stays_part whole new part same stay holds = record {
    lists = holds.lists ∙ ap (masked picks) (sym same);
    talks = λ call own. holds.talks call own ∙ sym (stay call);
  }

  grows_apart : (whole new part : Holding) (place : ℕ) (entries : List EntryData) → new.lists ≡ grown whole.lists place entries → false ≡ picks place → HoldsPart whole part
      → part.lists ≡ masked picks new.lists
  grows_apart whole new part place entries same apart holds =
      holds.lists ∙ sym (masked_out picks whole.lists place entries (sym apart)) ∙ ap (masked picks) (sym same)

  talked_apart : (whole new part : Holding) (call : ℕ) (standing : DialogueAt) → StandsNow call standing whole.talks new.talks → false ≡ choice.calls call → HoldsPart whole part
      → (other : ℕ) → choice.calls other ≡ true → part.talks other ≡ new.talks other
  talked_apart whole new part call standing now apart holds other own =
      holds.talks other own ∙ ap (at_phase standing (whole.talks other)) (sym (differs call other (sym apart) own)) ∙ sym (now other)

  done_apart : (numbers : List ℕ) (at : ℕ) (v : Verdict) (whole new part : Holding) (answer : AnswerView) → Touches false v → HoldsPart whole part → IsDone setup numbers at v whole new answer → HoldsPart new part
  done_apart numbers at Strays whole new part answer touch holds done = stays_part whole new part done.lists done.talks holds
  done_apart numbers at Rejects whole new part answer touch holds done = stays_part whole new part done.lists done.talks holds
  done_apart numbers at (Recharges place amount until) whole new part answer touch holds done = record {
    lists = grows_apart whole new part place _ done.lists touch holds;
    talks = λ call own. holds.talks call own ∙ sym (done.talks call);
  }
  done_apart numbers at (Begins call place called) whole new part answer touch holds done = record {
    lists = grows_apart whole new part place _ done.talked.lists touch.1 holds;
    talks = talked_apart whole new part call _ done.talked.talks touch.0 holds;
  }
  done_apart numbers at (GoesOn call place said phase) whole new part answer touch holds done = record {
    lists = grows_apart whole new part place _ done.lists touch.1 holds;
    talks = talked_apart whole new part call _ done.talks touch.0 holds;
  }

  -- ---- a post of these accounts

  -- a post is done by the part as by the whole
  pub record DoesToo (numbers : List ℕ) (at : ℕ) (v : Verdict) (new part : Holding) (answer : AnswerView) : Type 0 where
    pub next : Holding
    pub done : IsDone setup numbers at v part next answer
    pub holds : HoldsPart new next

  abbrev holding_of : List (List EntryData) → (ℕ → Option DialogueAt) → Holding
  holding_of lists talks = record { lists = lists; talks = talks }

  stays_too : (whole new part : Holding) → Stay whole.talks new.talks → HoldsPart whole part → HoldsPart new (holding_of (masked picks new.lists) part.talks)
  stays_too whole new part stay holds = record { lists = refl; talks = λ call own. holds.talks call own ∙ sym (stay call) }

  now_too : (whole new part : Holding) (call : ℕ) (standing : DialogueAt) → StandsNow call standing whole.talks new.talks → HoldsPart whole part
      → HoldsPart new (holding_of (masked picks new.lists) (λ other. at_phase standing (part.talks other) (other == call)))
  now_too whole new part call standing now holds = record {
    lists = refl;
    talks = λ other own. ap (λ (found : Option DialogueAt). at_phase standing found (other == call)) (holds.talks other own) ∙ sym (now other);
  }

  lists_too : (whole new part : Holding) (place : ℕ) (entries : List EntryData) → new.lists ≡ grown whole.lists place entries → true ≡ picks place → HoldsPart whole part
      → masked picks new.lists ≡ grown part.lists place entries
  lists_too whole new part place entries same own holds =
      ap (masked picks) same ∙ masked_in picks whole.lists place entries (sym own) ∙ ap (λ l. grown l place entries) (sym holds.lists)

  is_talked_too : (numbers : List ℕ) (call place : ℕ) (first : _) (whole new part : Holding) (answer : AnswerView) (is : IsTalked numbers call place first whole new answer) → true ≡ picks place
      → HoldsPart whole part
      → IsTalked numbers call place first part (holding_of (masked picks new.lists) (λ other. at_phase (record { phase = is.phase; place = place }) (part.talks other) (other == call))) answer
  is_talked_too numbers call place first whole new part answer is own holds = record {
    gots = is.gots;
    asked = is.asked;
    last = is.last;
    phase = is.phase;
    talk = is.talk;
    rests = is.rests;
    orders = is.orders;
    stray = is.stray;
    refused = is.refused;
    lists = lists_too whole new part place _ is.lists own holds;
    talks = λ other. refl;
  }

  done_too : (numbers : List ℕ) (at : ℕ) (v : Verdict) (whole new part : Holding) (answer : AnswerView) → Touches true v → HoldsPart whole part → IsDone setup numbers at v whole new answer
      → DoesToo numbers at v new part answer
  done_too numbers at Strays whole new part answer touch holds done = record {
    next = holding_of (masked picks new.lists) part.talks;
    done = record {
      orders_are = done.orders_are;
      stray_is = done.stray_is;
      refused = done.refused;
      lists = ap (masked picks) done.lists ∙ sym holds.lists;
      talks = λ call. refl;
    };
    holds = stays_too whole new part done.talks holds;
  }
  done_too numbers at Rejects whole new part answer touch holds done = record {
    next = holding_of (masked picks new.lists) part.talks;
    done = record {
      orders_are = done.orders_are;
      stray_is = done.stray_is;
      refused = done.refused;
      lists = ap (masked picks) done.lists ∙ sym holds.lists;
      talks = λ call. refl;
    };
    holds = stays_too whole new part done.talks holds;
  }
  done_too numbers at (Recharges place amount until) whole new part answer touch holds done = record {
    next = holding_of (masked picks new.lists) part.talks;
    done = record {
      got = done.got;
      orders = done.orders;
      stray = done.stray;
      refused = done.refused;
      lists = lists_too whole new part place _ done.lists touch holds;
      talks = λ call. refl;
    };
    holds = stays_too whole new part done.talks holds;
  }
  done_too numbers at (Begins call place called) whole new part answer touch holds done = record {
    next = _;
    done = record { route = done.route; routed = done.routed; talked = is_talked_too numbers call place _ whole new part answer done.talked touch.1 holds };
    holds = now_too whole new part call _ done.talked.talks holds;
  }
  done_too numbers at (GoesOn call place said phase) whole new part answer touch holds done = record {
    next = _;
    done = is_talked_too numbers call place (said, phase) whole new part answer done touch.1 holds;
    holds = now_too whole new part call _ done.talks holds;
  }

  verdict_too : (whole part : Holding) (number at : ℕ) (body : Body) → is_chosen choice body ≡ true → HoldsPart whole part → verdict_on setup part.talks number at body ≡ verdict_on setup whole.talks number at body
  verdict_too whole part number at (Ssf call message) own holds = ap (spoken setup number at call message) (holds.talks call own)
  verdict_too whole part number at (Recharge account amount until) own holds = refl

  -- ---- posts

  -- those of these accounts and calls
  abbrev pub chosen_posts : List Post → List Post
  chosen_posts posts = filter (λ post. is_chosen choice post.body) posts

  -- what is said to them
  abbrev pub chosen_answers : List Post → List AnswerView → List AnswerView
  chosen_answers [] answers = []
  chosen_answers (post ∷ posts) [] = []
  chosen_answers (post ∷ posts) (answer ∷ answers) = if is_chosen choice post.body then answer ∷ chosen_answers posts answers else chosen_answers posts answers

  -- each call goes with its account
  abbrev pub GoByAccount : List Post → Type 0
  GoByAccount [] = Unit {0}
  GoByAccount (post ∷ posts) = IsByAccount setup choice post.body × GoByAccount posts

  -- these posts alone lead to what all posts lead to, of these accounts and calls
  pub record LeadsToo (numbers : List ℕ) (posts : List Post) (answers : List AnswerView) (new part : Holding) : Type 0 where
    pub last : Holding
    pub holds : HoldsPart new last
    pub chain : AreAnswered AllShown setup numbers posts answers part last

  pub chain_part : (Shows : ℕ → Showing) (numbers : List ℕ) (posts : List Post) (answers : List AnswerView) (whole new part : Holding) → AreAtHome whole.talks → GoByAccount posts
      → HoldsPart whole part → AreAnswered Shows setup numbers posts answers whole new → LeadsToo numbers (chosen_posts posts) (chosen_answers posts answers) new part
  chain_part Shows numbers [] [] whole new part home by holds are =
      record { last = part; holds = subst (λ (h : Holding). HoldsPart h part) are holds; chain = refl }
  chain_part Shows numbers [] (answer ∷ answers) whole new part home by holds are = absurd are
  chain_part Shows numbers (post ∷ posts) [] whole new part home by holds are = absurd are
  chain_part Shows numbers (post ∷ posts) (answer ∷ answers) whole new part home by holds are =
      by_own (λ next go. chain_part Shows numbers posts answers are.0 new next home_then by.1 go are.2) (is_chosen choice post.body) refl
    where
      touch : Touches (is_chosen choice post.body) (verdict setup whole.talks post)
      touch = touches whole.talks post.number post.at post.body (verdict setup whole.talks post) home by.0 (means_on setup whole.talks post.number post.at post.body)

      home_then : AreAtHome are.0.talks
      home_then = done_home numbers post.at (verdict setup whole.talks post) (is_chosen choice post.body) whole are.0 answer touch home are.1.handled.done

      by_own : ((next : Holding) → HoldsPart are.0 next → LeadsToo numbers (chosen_posts posts) (chosen_answers posts answers) new next) → (own : Bool) → is_chosen choice post.body ≡ own
          → LeadsToo numbers (if own then post ∷ chosen_posts posts else chosen_posts posts) (if own then answer ∷ chosen_answers posts answers else chosen_answers posts answers) new part
      by_own later true own =
          let T : Bool → Type 0 = λ b. Touches b (verdict setup whole.talks post) in
          let step = done_too numbers post.at (verdict setup whole.talks post) whole are.0 part answer (subst T own touch) holds are.1.handled.done in
          let D : Verdict → Type 0 = λ w. IsDone setup numbers post.at w part step.next answer in
          let done = subst D (sym (verdict_too whole part post.number post.at post.body own holds)) step.done in
          let handled : IsRightlyHandled AllShown setup numbers post part step.next answer = record {
            handled = record { number = are.1.handled.number; done = done };
            right = done_shown setup numbers post.at (verdict setup part.talks post) part step.next answer done;
          } in
          let rest = later step.next step.holds in
          record { last = rest.last; holds = rest.holds; chain = (step.next, handled, rest.chain) }
      by_own later false own =
          let T : Bool → Type 0 = λ b. Touches b (verdict setup whole.talks post) in
          let holds_then = done_apart numbers post.at (verdict setup whole.talks post) whole are.0 part answer (subst T own touch) holds are.1.handled.done in
          later part holds_then
