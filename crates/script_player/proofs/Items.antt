-- The items of a call, and the posts that its gsmSSF's messages make.
use Rattle.std.proofs.Common.{◌≡◌, ◌==◌, ◌+◌, ◌<◌, ◌≤◌, ℕ, true, false, List, [], ◌∷◌, ◌++◌, length, drop, slice_index_or, refl, arith, sym, ◌∙◌, append_assoc, append-nil, add-one, drop-cons}
use Rattle.std.proofs.lemmas.List.Elements.{All-append, All-cons, All-head, All-nil, All-tail, filter-append}
use Rattle.std.proofs.lemmas.Bool.Decides.{nat_tests}
use Rattle.std.specs.Prelude.{All}
use Rattle.ssf_core.specs.declared.item.Item.{Item}
use Rattle.ssf_core.specs.declared.item.Item.TheVariants as sent
use Rattle.ssf_core.specs.declared.item.Out.{Out}
use Rattle.run_values.specs.declared.post.Body.{Body}
use Rattle.run_values.specs.declared.post.Body.TheVariants as body
use Rattle.script_player.specs.Posts.{is_of_call, is_recharge, items_of, post_of, posts_of, recharges_in}

pub posts_of-append : (call : ℕ) (first second : List Out) → posts_of call (first ++ second) ≡ posts_of call first ++ posts_of call second
posts_of-append call [] second = refl
posts_of-append call (out ∷ first) second = rw (posts_of-append call first second) (sym (append_assoc (post_of call out.at out.item) (posts_of call first) (posts_of call second)))

-- one more is posted
pub posts_of-drop : (call k : ℕ) (outs : List Out) (out : Out) → k < length outs → out ≡ slice_index_or outs k out
    → posts_of call (drop k outs) ≡ post_of call out.at out.item ++ posts_of call (drop (k + 1) outs)
posts_of-drop call k outs out within is = rw (add-one, drop-cons outs k out within, ← is) refl

-- ---- the items of a call among posts

pub same_true : (call : ℕ) → (call == call) ≡ true
same_true call = grind (arith, nat_tests)

own_post : (call at : ℕ) (item : Item) → items_of call (post_of call at item) ≡ post_of call at item
own_post call at (sent.Msg msg) = rw (same_true call) refl
own_post call at sent.Proceed = refl
own_post call at (sent.Clear cause) = refl

pub own_posts : (call : ℕ) (outs : List Out) → items_of call (posts_of call outs) ≡ posts_of call outs
own_posts call [] = refl
own_posts call (out ∷ outs) =
    filter-append (λ (item : ℕ × Body). is_of_call call item.1) (post_of call out.at out.item) (posts_of call outs) ∙ rw (own_post call out.at out.item, own_posts call outs) refl

other_post : (call other at : ℕ) (item : Item) → (call == other) ≡ false → items_of other (post_of call at item) ≡ []
other_post call other at (sent.Msg msg) apart = rw apart refl
other_post call other at sent.Proceed apart = refl
other_post call other at (sent.Clear cause) apart = refl

pub other_posts : (call other : ℕ) (outs : List Out) → (call == other) ≡ false → items_of other (posts_of call outs) ≡ []
other_posts call other [] apart = refl
other_posts call other (out ∷ outs) apart =
    filter-append (λ (item : ℕ × Body). is_of_call other item.1) (post_of call out.at out.item) (posts_of call outs)
    ∙ rw (other_post call other out.at out.item apart, other_posts call other outs apart) refl

-- the items of a call where others' come
pub items_of-other : (call other : ℕ) (given : List (ℕ × Body)) (outs : List Out) → (call == other) ≡ false → items_of other (given ++ posts_of call outs) ≡ items_of other given
items_of-other call other given outs apart =
    filter-append (λ (item : ℕ × Body). is_of_call other item.1) given (posts_of call outs) ∙ rw (other_posts call other outs apart) (append-nil (items_of other given))

pub items_of-own : (call : ℕ) (given : List (ℕ × Body)) (outs : List Out) → items_of call (given ++ posts_of call outs) ≡ items_of call given ++ posts_of call outs
items_of-own call given outs = filter-append (λ (item : ℕ × Body). is_of_call call item.1) given (posts_of call outs) ∙ rw (own_posts call outs) refl

no_recharge : (call at : ℕ) (item : Item) → recharges_in (post_of call at item) ≡ []
no_recharge call at (sent.Msg msg) = refl
no_recharge call at sent.Proceed = refl
no_recharge call at (sent.Clear cause) = refl

no_recharges : (call : ℕ) (outs : List Out) → recharges_in (posts_of call outs) ≡ []
no_recharges call [] = refl
no_recharges call (out ∷ outs) =
    filter-append (λ (item : ℕ × Body). is_recharge item.1) (post_of call out.at out.item) (posts_of call outs) ∙ rw (no_recharge call out.at out.item, no_recharges call outs) refl

-- posts are no recharges
pub recharges_in-posts : (call : ℕ) (given : List (ℕ × Body)) (outs : List Out) → recharges_in (given ++ posts_of call outs) ≡ recharges_in given
recharges_in-posts call given outs =
    filter-append (λ (item : ℕ × Body). is_recharge item.1) given (posts_of call outs) ∙ rw (no_recharges call outs) (append-nil (recharges_in given))

-- ---- moments

abbrev pub InRange : List (ℕ × Body) → Type 0
InRange items = All (λ (item : ℕ × Body). item.0 ≤ 2000000000000) items

post_in_range : (call at : ℕ) (item : Item) → at ≤ 2000000000000 → InRange (post_of call at item)
post_in_range call at (sent.Msg msg) order = All-cons (λ (item : ℕ × Body). item.0 ≤ 2000000000000) (at, body.Ssf call msg) [] order (All-nil (λ (item : ℕ × Body). item.0 ≤ 2000000000000))
post_in_range call at sent.Proceed order = All-nil (λ (item : ℕ × Body). item.0 ≤ 2000000000000)
post_in_range call at (sent.Clear cause) order = All-nil (λ (item : ℕ × Body). item.0 ≤ 2000000000000)

pub posts_in_range : (call : ℕ) (outs : List Out) → All (λ (out : Out). out.at ≤ 2000000000000) outs → InRange (posts_of call outs)
posts_in_range call [] all = All-nil (λ (item : ℕ × Body). item.0 ≤ 2000000000000)
posts_in_range call (out ∷ outs) all =
    All-append (λ (item : ℕ × Body). item.0 ≤ 2000000000000) (post_of call out.at out.item) (posts_of call outs)
    (post_in_range call out.at out.item (All-head (λ (other : Out). other.at ≤ 2000000000000) out outs all))
    (posts_in_range call outs (All-tail (λ (other : Out). other.at ≤ 2000000000000) out outs all))
