-- A talk asks for its call alone, and settles at most the report with which it begins.
use Rattle.std.proofs.Common.{◌≡◌, ◌++◌, ◌∙◌, ℕ, Option, Some, None, Ok, Err, List, [], ◌∷◌, refl, sym, ap, subst, inl, All, append-nil}
use Rattle.std.specs.Prelude.{Contains}
use Rattle.std.proofs.lemmas.Grind.{flat_map-append}
use Rattle.std.proofs.lemmas.List.Elements.{All-append, All-cons, All-nil}
use Rattle.account_core.specs.Asked.{Credits, Reserves, Returns, Settles}
use Rattle.account_core.specs.Entries.{EntryData}
use Rattle.dialogue_core.specs.Phases.{Phase, Says, Asks, Sends, Finished}
use Rattle.dialogue_core.specs.Rules.{on_begin}
use Rattle.price_core.specs.declared.route.Route.{Route}
use Rattle.runs_core.specs.Served.{IsPart, Report, credited_in, credits_of, held_in, held_calls_of, settled_in, settles_of}
use Rattle.dialogue_core.specs.Talks.{Got, talked}
use Rattle.runs_core.specs.Talks.{entries_of, entry_of}
use Rattle.runs_core.specs.Workers.{IsAbout}
use Rattle.runs_core.proofs.OwnCalls.{SaysOf, kept_got, settled_by, talked_about}

pub says_of_call : (call : ℕ) (first : Says × Phase) (gots : List Got) → IsAbout call first.1 → SaysOf call first.0 → SaysOf call (talked first gots).0
says_of_call call first [] about says = says
says_of_call call first (got ∷ earlier) about says = (kept_got call (talked first earlier).1 got (talked_about call first earlier about)).1

entry_held : (seat call : ℕ) (calls : List ℕ) (said : Says) (got : Got) → SaysOf call said → Contains calls call → All (λ c. Contains calls c) (held_calls_of (entry_of seat said got))
entry_held seat call calls (Asks (Credits amount until)) got says has = absurd says
entry_held seat call calls (Asks (Reserves other plan wanted least moment)) (Ok reply) says has = All-cons (λ c. Contains calls c) other [] (let P : ℕ → Type 0 = λ c. Contains calls c in subst P (sym says) has) (All-nil (λ c. Contains calls c))
entry_held seat call calls (Asks (Reserves other plan wanted least moment)) (Err fault) says has = All-nil (λ c. Contains calls c)
entry_held seat call calls (Asks (Settles other number info)) (Ok reply) says has = All-nil (λ c. Contains calls c)
entry_held seat call calls (Asks (Settles other number info)) (Err fault) says has = All-nil (λ c. Contains calls c)
entry_held seat call calls (Asks (Returns other)) (Ok reply) says has = All-cons (λ c. Contains calls c) other [] (let P : ℕ → Type 0 = λ c. Contains calls c in subst P (sym says) has) (All-nil (λ c. Contains calls c))
entry_held seat call calls (Asks (Returns other)) (Err fault) says has = All-nil (λ c. Contains calls c)
entry_held seat call calls (Sends orders) got says has = All-nil (λ c. Contains calls c)
entry_held seat call calls Finished got says has = All-nil (λ c. Contains calls c)

-- the Reserves and the Returns of a talk are of its call
pub talk_held : (seat call : ℕ) (calls : List ℕ) (first : Says × Phase) (gots : List Got) → IsAbout call first.1 → SaysOf call first.0 → Contains calls call
    → All (λ c. Contains calls c) (held_calls_of (entries_of seat first gots))
talk_held seat call calls first [] about says has = All-nil (λ c. Contains calls c)
talk_held seat call calls first (got ∷ earlier) about says has =
    rw (flat_map-append (λ (e : EntryData). held_in e.asked) (entries_of seat first earlier) (entry_of seat (talked first earlier).0 got))
    (All-append (λ c. Contains calls c) (held_calls_of (entries_of seat first earlier)) (held_calls_of (entry_of seat (talked first earlier).0 got)) (talk_held seat call calls first earlier about says has)
    (entry_held seat call calls (talked first earlier).0 got (says_of_call call first earlier about says) has))

no_credit : (seat call : ℕ) (said : Says) (got : Got) → SaysOf call said → credits_of (entry_of seat said got) ≡ []
no_credit seat call (Asks (Credits amount until)) got says = absurd says
no_credit seat call (Asks (Reserves other plan wanted least moment)) (Ok reply) says = refl
no_credit seat call (Asks (Reserves other plan wanted least moment)) (Err fault) says = refl
no_credit seat call (Asks (Settles other number info)) (Ok reply) says = refl
no_credit seat call (Asks (Settles other number info)) (Err fault) says = refl
no_credit seat call (Asks (Returns other)) (Ok reply) says = refl
no_credit seat call (Asks (Returns other)) (Err fault) says = refl
no_credit seat call (Sends orders) got says = refl
no_credit seat call Finished got says = refl

-- a talk has no Credit
pub talk_credits : (seat call : ℕ) (first : Says × Phase) (gots : List Got) → IsAbout call first.1 → SaysOf call first.0 → credits_of (entries_of seat first gots) ≡ []
talk_credits seat call first [] about says = refl
talk_credits seat call first (got ∷ earlier) about says =
    flat_map-append (λ (e : EntryData). credited_in e.asked) (entries_of seat first earlier) (entry_of seat (talked first earlier).0 got)
    ∙ ap (λ l. l ++ credits_of (entry_of seat (talked first earlier).0 got)) (talk_credits seat call first earlier about says)
    ∙ no_credit seat call (talked first earlier).0 got (says_of_call call first earlier about says)

entry_settles : (seat : ℕ) (said : Says) (got : Got) → IsPart (settles_of (entry_of seat said got)) (settled_by said)
entry_settles seat (Asks (Credits amount until)) (Ok reply) = tt
entry_settles seat (Asks (Reserves other plan wanted least moment)) (Ok reply) = tt
entry_settles seat (Asks (Settles other number info)) (Ok reply) = inl (refl, tt)
entry_settles seat (Asks (Returns other)) (Ok reply) = tt
entry_settles seat (Asks asked) (Err fault) = tt
entry_settles seat (Sends orders) got = tt
entry_settles seat Finished got = tt

pub part_of_none : {X : Type 0} (part : List X) → IsPart part [] → part ≡ []
part_of_none [] is = refl
part_of_none (x ∷ part) is = absurd is

pub no_settle : (seat : ℕ) (said : Says) (got : Got) → settled_by said ≡ [] → settles_of (entry_of seat said got) ≡ []
no_settle seat said got none = part_of_none (settles_of (entry_of seat said got)) (let P : List Report → Type 0 = λ l. IsPart (settles_of (entry_of seat said got)) l in subst P none (entry_settles seat said got))

-- a talk settles at most the report with which it begins
pub talk_settles : (seat call : ℕ) (first : Says × Phase) (gots : List Got) → IsAbout call first.1 → IsPart (settles_of (entries_of seat first gots)) (settled_by first.0)
talk_settles seat call first [] about = tt
talk_settles seat call first (got ∷ []) about = entry_settles seat first.0 got
talk_settles seat call first (got ∷ (last ∷ earlier)) about =
    let before = entries_of seat first (last ∷ earlier) in
    let none : settled_by (talked first (last ∷ earlier)).0 ≡ [] = (kept_got call (talked first earlier).1 last (talked_about call first earlier about)).2 in
    let same : settles_of (before ++ entry_of seat (talked first (last ∷ earlier)).0 got) ≡ settles_of before =
    flat_map-append (λ (e : EntryData). settled_in e.asked) before (entry_of seat (talked first (last ∷ earlier)).0 got)
    ∙ ap (λ l. settles_of before ++ l) (no_settle seat (talked first (last ∷ earlier)).0 got none) ∙ append-nil (settles_of before) in
    let P : List Report → Type 0 = λ l. IsPart l (settled_by first.0) in
    subst P (sym same) (talk_settles seat call first (last ∷ earlier) about)

pub begun_says : (call now wanted least : ℕ) (route : Option Route) → SaysOf call (on_begin call now wanted least route).0
begun_says call now wanted least None = tt
begun_says call now wanted least (Some route) = refl

pub begun_settles : (call now wanted least : ℕ) (route : Option Route) → settled_by (on_begin call now wanted least route).0 ≡ []
begun_settles call now wanted least None = refl
begun_settles call now wanted least (Some route) = refl
