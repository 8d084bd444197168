-- Parts of lists, and what the entries of seats have to do with posts as both grow.
use Rattle.std.proofs.Common.{◌<◌, ◌++◌, ◌∙◌, ℕ, zero, suc, List, [], ◌∷◌, length, subst, arith, inl, inr, All, get_or}
use Rattle.std.specs.Prelude.{Contains, flat_map}
use Rattle.std.proofs.lemmas.Grind.{flat_map-append}
use Rattle.std.proofs.lemmas.List.{flat_map_more}
use Rattle.std.proofs.lemmas.List.Elements.{All-append, All-weaker, Contains-append_left}
use Rattle.account_core.specs.Entries.{EntryData}
use Rattle.runs_core.specs.Handled.{grown}
use Rattle.runs_core.specs.Served.{AreServed, IsPart, IsServed, begun_by, begun_of, credited_in, credits_of, held_in, held_calls_of, recharged_in, recharges_of, reported_in, reports_of, settled_in, settles_of}
use Rattle.run_values.specs.declared.post.Post.{Post}

-- ---- parts

pub part_more : {X : Type 0} (part whole more : List X) → IsPart part whole → IsPart part (whole ++ more)
part_more [] whole more is = tt
part_more (x ∷ part) [] more is = absurd is
part_more (x ∷ part) (y ∷ whole) more is =
    elim is [ inl here ↦ inl (here.0, part_more part whole more here.1) | inr later ↦ inr (part_more (x ∷ part) whole more later) ]

part_after : {X : Type 0} (part before whole : List X) → IsPart part whole → IsPart part (before ++ whole)
part_after part [] whole is = is
part_after [] (y ∷ before) whole is = tt
part_after (x ∷ part) (y ∷ before) whole is = inr (part_after (x ∷ part) before whole is)

pub part_both : {X : Type 0} (part whole more_part more : List X) → IsPart part whole → IsPart more_part more → IsPart (part ++ more_part) (whole ++ more)
part_both [] whole more_part more is later = part_after more_part whole more later
part_both (x ∷ part) [] more_part more is later = absurd is
part_both (x ∷ part) (y ∷ whole) more_part more is later =
    elim is [ inl here ↦ inl (here.0, part_both part whole more_part more here.1 later) | inr after ↦ inr (part_both (x ∷ part) whole more_part more after later) ]

pub part_through : {X : Type 0} (part between whole : List X) → IsPart part between → IsPart between whole → IsPart part whole
part_through [] between whole is later = tt
part_through (x ∷ part) [] whole is later = absurd is
part_through (x ∷ part) (y ∷ between) [] is later = absurd later
part_through (x ∷ part) (y ∷ between) (z ∷ whole) is later = elim later [
  | inl here ↦ elim is [
    | inl first ↦ inl (first.0 ∙ here.0, part_through part between whole first.1 here.1)
    | inr rest ↦ inr (part_through (x ∷ part) between whole rest here.1)
  ]
  | inr after ↦ inr (part_through (x ∷ part) (y ∷ between) whole is after)
]

-- ---- one more post

part_of_posts : {A : Type 0} (f : Post → List A) (part : List A) (posts : List Post) (post : Post) → IsPart part (flat_map f posts ++ f post) → IsPart part (flat_map f (posts ++ post ∷ []))
part_of_posts f part posts post is = let P : List _ → Type 0 = λ whole. IsPart part whole in subst P (flat_map_more f [] posts post) is

pub begun_more : (posts : List Post) (post : Post) (call : ℕ) → Contains (begun_of posts) call → Contains (begun_of (posts ++ post ∷ [])) call
begun_more posts post call has =
    let P : List ℕ → Type 0 = λ calls. Contains calls call in
    subst P (flat_map_more (λ (p : Post). begun_by p.body) [] posts post) (Contains-append_left (begun_of posts) (begun_by post.body) call has)

pub served_more : (account : ℕ) (posts : List Post) (post : Post) (mine : List EntryData) → IsServed account posts mine → IsServed account (posts ++ post ∷ []) mine
served_more account posts post mine is = record {
  settles =
      part_of_posts (λ (p : Post). reported_in p.number p.body) (settles_of mine) posts post (part_more (settles_of mine) (reports_of posts) (reported_in post.number post.body) is.settles);
  credits =
      part_of_posts (λ (p : Post). recharged_in account p.body) (credits_of mine) posts post
      (part_more (credits_of mine) (recharges_of account posts) (recharged_in account post.body) is.credits);
  calls = All-weaker (λ call. Contains (begun_of posts) call) (λ call. Contains (begun_of (posts ++ post ∷ [])) call) (λ call. begun_more posts post call) (held_calls_of mine) is.calls;
}

pub all_served_more : (accounts : List ℕ) (posts : List Post) (post : Post) (lists : List (List EntryData)) → AreServed accounts posts lists → AreServed accounts (posts ++ post ∷ []) lists
all_served_more [] posts post [] are = tt
all_served_more [] posts post (mine ∷ lists) are = are
all_served_more (account ∷ accounts) posts post [] are = are
all_served_more (account ∷ accounts) posts post (mine ∷ lists) are =
    (served_more account posts post mine are.0, all_served_more accounts posts post lists are.1)

-- ---- entries for one more post

-- the entries that a seat of an account makes for a post
pub record IsEntered (account : ℕ) (posts : List Post) (post : Post) (entries : List EntryData) : Type 0 where
  pub settles : IsPart (settles_of entries) (reported_in post.number post.body)
  pub credits : IsPart (credits_of entries) (recharged_in account post.body)
  pub calls : All (λ call. Contains (begun_of (posts ++ post ∷ [])) call) (held_calls_of entries)

served_grown : (account : ℕ) (posts : List Post) (post : Post) (mine entries : List EntryData) → IsServed account posts mine → IsEntered account posts post entries
    → IsServed account (posts ++ post ∷ []) (mine ++ entries)
served_grown account posts post mine entries is entered = record {
  settles =
      rw (flat_map-append (λ (e : EntryData). settled_in e.asked) mine entries)
      (part_of_posts (λ (p : Post). reported_in p.number p.body) (settles_of mine ++ settles_of entries) posts post
      (part_both (settles_of mine) (reports_of posts) (settles_of entries) (reported_in post.number post.body) is.settles entered.settles));
  credits =
      rw (flat_map-append (λ (e : EntryData). credited_in e.asked) mine entries)
      (part_of_posts (λ (p : Post). recharged_in account p.body) (credits_of mine ++ credits_of entries) posts post
      (part_both (credits_of mine) (recharges_of account posts) (credits_of entries) (recharged_in account post.body) is.credits entered.credits));
  calls =
      rw (flat_map-append (λ (e : EntryData). held_in e.asked) mine entries)
      (All-append (λ call. Contains (begun_of (posts ++ post ∷ [])) call) (held_calls_of mine) (held_calls_of entries) (All-weaker (λ call. Contains (begun_of posts) call) (λ call. Contains (begun_of (posts ++ post ∷ [])) call) (λ call. begun_more posts post call) (held_calls_of mine) is.calls) entered.calls);
}

pub all_served_grown : (accounts : List ℕ) (posts : List Post) (post : Post) (lists : List (List EntryData)) (place : ℕ) (entries : List EntryData) → AreServed accounts posts lists
    → place < length accounts → IsEntered (get_or accounts place 0) posts post entries → AreServed accounts (posts ++ post ∷ []) (grown lists place entries)
all_served_grown [] posts post lists place entries are within entered = absurd (omega (arith, within))
all_served_grown (account ∷ accounts) posts post [] place entries are within entered = are
all_served_grown (account ∷ accounts) posts post (mine ∷ lists) zero entries are within entered =
    (served_grown account posts post mine entries are.0 entered, all_served_more accounts posts post lists are.1)
all_served_grown (account ∷ accounts) posts post (mine ∷ lists) (suc place) entries are within entered =
    (served_more account posts post mine are.0, all_served_grown accounts posts post lists place entries are.1 (omega (arith, within)) entered)
