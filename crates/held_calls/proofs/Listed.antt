-- What holds of each item of a list.
use Rattle.std.proofs.Common.{◌≡◌, Bool, true, false, List, [], ◌∷◌, ◌++◌, map, refl, sym, subst, inl, inr, All}
use Rattle.std.specs.Prelude.{filter, if◌then◌else◌}
use Rattle.std.specs.List.{flat_map}
use Rattle.std.proofs.lemmas.List.Elements.{All-append, All-cons, All-head, All-nil, All-tail}
use Rattle.runs_core.specs.Served.{IsPart}

-- of what a function gives for each item
pub all_unmapped : {X Y : Type 0} (P : Y → Type 0) (f : X → Y) (xs : List X) → All P (map f xs) → All (λ x. P (f x)) xs
all_unmapped P f [] all = All-nil (λ x. P (f x))
all_unmapped P f (x ∷ xs) all =
    All-cons (λ x. P (f x)) x xs (All-head P (f x) (map f xs) all) (all_unmapped P f xs (All-tail P (f x) (map f xs) all))

-- of the first part, and of the rest
pub all_first : {X : Type 0} (P : X → Type 0) (xs ys : List X) → All P (xs ++ ys) → All P xs
all_first P [] ys all = All-nil P
all_first P (x ∷ xs) ys all = All-cons P x xs (All-head P x (xs ++ ys) all) (all_first P xs ys (All-tail P x (xs ++ ys) all))

pub all_later : {X : Type 0} (P : X → Type 0) (xs ys : List X) → All P (xs ++ ys) → All P ys
all_later P [] ys all = all
all_later P (x ∷ xs) ys all = all_later P xs ys (All-tail P x (xs ++ ys) all)

-- of the items of each piece
pub all_pieces : {X Y : Type 0} (P : Y → Type 0) (f : X → List Y) (xs : List X) → All P (flat_map f xs) → All (λ x. All P (f x)) xs
all_pieces P f [] all = All-nil (λ x. All P (f x))
all_pieces P f (x ∷ xs) all =
    All-cons (λ x. All P (f x)) x xs (all_first P (f x) (flat_map f xs) all) (all_pieces P f xs (all_later P (f x) (flat_map f xs) all))

pub all_joined : {X Y : Type 0} (P : Y → Type 0) (f : X → List Y) (xs : List X) → All (λ x. All P (f x)) xs → All P (flat_map f xs)
all_joined P f [] all = All-nil P
all_joined P f (x ∷ xs) all =
    All-append P (f x) (flat_map f xs) (All-head (λ x. All P (f x)) x xs all) (all_joined P f xs (All-tail (λ x. All P (f x)) x xs all))

-- of some items, in their order
pub all_part : {X : Type 0} (P : X → Type 0) (part whole : List X) → IsPart part whole → All P whole → All P part
all_part P [] whole is all = All-nil P
all_part P (x ∷ part) [] is all = absurd is
all_part P (x ∷ part) (y ∷ whole) is all = elim is [
  | inl here ↦ All-cons P x part (subst P (sym here.0) (All-head P y whole all)) (all_part P part whole here.1 (All-tail P y whole all))
  | inr later ↦ all_part P (x ∷ part) whole later (All-tail P y whole all)
]

-- of the items that pass a test
passing : {X : Type 0} (test : X → Bool) (P : X → Type 0) (passes : Bool) (x : X) (kept : List X) → test x ≡ passes
    → All P (if passes then x ∷ kept else kept) → (test x ≡ true → P x) × All P kept
passing test P true x kept is all = (λ _. All-head P x kept all, All-tail P x kept all)
passing test P false x kept is all = (λ passed. cc, all)

pub all_passing : {X : Type 0} (test : X → Bool) (P : X → Type 0) (xs : List X) → All P (filter test xs) → All (λ x. test x ≡ true → P x) xs
all_passing test P [] all = All-nil (λ x. test x ≡ true → P x)
all_passing test P (x ∷ xs) all =
    let (here, later) = passing test P (test x) x (filter test xs) refl all in
    All-cons (λ x. test x ≡ true → P x) x xs here (all_passing test P xs later)
