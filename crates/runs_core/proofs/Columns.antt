-- Items are laid out on piles, time after time: what was laid out first is the first column.
use Rattle.std.proofs.Common.{◌≡◌, ◌<◌, ◌+◌, ◌∙◌, ℕ, zero, suc, List, [], ◌∷◌, length, map, refl, ap, sym, subst, arith}
use Rattle.std.specs.Prelude.{replicate, slice_index_or}
use Rattle.std.proofs.lemmas.List.{get_or_append_left, get_or_push, length-append, length-replicate, map-append}
use Rattle.runs_core.proofs.LayingOut.{laid_out_length}
use Rattle.runs_core.specs.LaidOut.{laid_out}

-- piles onto which several lists are laid out, one after the other
abbrev pub laid : {X : Type 0} → List (List X) → List (List X) → List (List X)
laid piles [] = piles
laid piles (items ∷ later) = laid (laid_out piles items) later

-- what is at a height of each pile
abbrev pub column : {X : Type 0} → X → ℕ → List (List X) → List X
column d height piles = map (λ pile. slice_index_or pile height d) piles

-- lists of one length
abbrev pub AreEven : {X : Type 0} → ℕ → List (List X) → Type 0
AreEven many [] = Unit {0}
AreEven many (one ∷ lists) = (length one ≡ many) × AreEven many lists

-- these lists are the columns from a height on
abbrev AreColumns : {X : Type 0} → X → List (List X) → ℕ → List (List X) → Type 0
AreColumns d piles height [] = Unit {0}
AreColumns d piles height (items ∷ later) = (column d height piles ≡ items) × AreColumns d piles (height + 1) later

column_last : {X : Type 0} (d : X) (height : ℕ) (piles : List (List X)) (items : List X) → AreEven height piles → length items ≡ length piles → column d height (laid_out piles items) ≡ items
column_last d height [] [] even many = refl
column_last d height [] (item ∷ items) even many = absurd (omega (arith, many))
column_last d height (pile ∷ piles) [] even many = absurd (omega (arith, many))
column_last d height (pile ∷ piles) (item ∷ items) even many =
    rw (get_or_push pile item d height even.0, column_last d height piles items even.1 (omega (arith, many))) refl

column_before : {X : Type 0} (d : X) (height lower : ℕ) (piles : List (List X)) (items : List X) → lower < height → AreEven height piles → column d lower (laid_out piles items) ≡ column d lower piles
column_before d height lower [] items below even = refl
column_before d height lower (pile ∷ piles) [] below even = refl
column_before d height lower (pile ∷ piles) (item ∷ items) below even =
    rw (get_or_append_left pile (item ∷ []) d lower (omega (arith, below, even.0)), column_before d height lower piles items below even.1) refl

even_more : {X : Type 0} (height : ℕ) (piles : List (List X)) (items : List X) → AreEven height piles → length items ≡ length piles → AreEven (height + 1) (laid_out piles items)
even_more height [] items even many = tt
even_more height (pile ∷ piles) [] even many = absurd (omega (arith, many))
even_more height (pile ∷ piles) (item ∷ items) even many =
    (length-append pile (item ∷ []) ∙ ap (λ n. n + 1) even.0, even_more height piles items even.1 (omega (arith, many)))

column_stays : {X : Type 0} (d : X) (height lower : ℕ) (piles later : List (List X)) → lower < height → AreEven height piles → AreEven (length piles) later
    → column d lower (laid piles later) ≡ column d lower piles
column_stays d height lower piles [] below even long = refl
column_stays d height lower piles (items ∷ later) below even long =
    let same : length (laid_out piles items) ≡ length piles = laid_out_length piles items in
    column_stays d (height + 1) lower (laid_out piles items) later (omega (arith, below)) (even_more height piles items even long.0)
    (let P : ℕ → Type 0 = λ n. AreEven n later in subst P (sym same) long.1)
    ∙ column_before d height lower piles items below even

-- what is laid out on even piles is their columns
columns_of : {X : Type 0} (d : X) (height : ℕ) (piles later : List (List X)) → AreEven height piles → AreEven (length piles) later → AreColumns d (laid piles later) height later
columns_of d height piles [] even long = tt
columns_of d height piles (items ∷ later) even long =
    let same : length (laid_out piles items) ≡ length piles = laid_out_length piles items in
    let more = even_more height piles items even long.0 in
    let still = let P : ℕ → Type 0 = λ n. AreEven n later in subst P (sym same) long.1 in
    (column_stays d (height + 1) height (laid_out piles items) later (omega arith) more still ∙ column_last d height piles items even long.0, columns_of d (height + 1) (laid_out piles items) later more still)

column_at : {X : Type 0} (d : X) (piles : List (List X)) (height k : ℕ) (later : List (List X)) → AreColumns d piles height later → k < length later → column d (height + k) piles ≡ slice_index_or later k []
column_at d piles height k [] are below = absurd (omega (arith, below))
column_at d piles height zero (items ∷ later) are below = let here : height + 0 ≡ height = omega arith in ap (λ (n : ℕ). column d n piles) here ∙ are.0
column_at d piles height (suc k) (items ∷ later) are below =
    let here : height + suc k ≡ height + 1 + k = omega arith in ap (λ (n : ℕ). column d n piles) here ∙ column_at d piles (height + 1) k later are.1 (omega (arith, below))

none_even : (X : Type 0) (many : ℕ) → AreEven {X = X} 0 (replicate many [])
none_even X zero = tt
none_even X (suc many) = (refl, none_even X many)

as_long : {X : Type 0} (piles others : List (List X)) (later : List (List X)) → length others ≡ length piles → AreEven (length piles) later → AreEven (length others) later
as_long piles others later same long = let P : ℕ → Type 0 = λ n. AreEven n later in subst P (sym same) long

-- onto piles without items
none_long : {X : Type 0} (many : ℕ) (later : List (List X)) → AreEven many later → AreEven (length (replicate {A = List X} many [])) later
none_long {X = X} many later long = let P : ℕ → Type 0 = λ n. AreEven n later in let same : length (replicate {A = List X} many []) ≡ many = length-replicate many [] in subst P (sym same) long

pub column_of : {X : Type 0} (d : X) (many k : ℕ) (later : List (List X)) → AreEven many later → k < length later → column d k (laid (replicate many []) later) ≡ slice_index_or later k []
column_of {X = X} d many k later long below =
    let here : 0 + k ≡ k = omega arith in
    ap (λ (n : ℕ). column d n (laid (replicate many []) later)) (sym here)
    ∙ column_at d (laid (replicate many []) later) 0 k later (columns_of d 0 (replicate many []) later (none_even X many) (none_long many later long)) below

laid_high : {X : Type 0} (height : ℕ) (piles later : List (List X)) → AreEven height piles → AreEven (length piles) later → AreEven (height + length later) (laid piles later)
laid_high height piles [] even long = let here : height ≡ height + 0 = omega arith in let P : ℕ → Type 0 = λ n. AreEven n piles in subst P here even
laid_high height piles (items ∷ later) even long =
    let here : height + 1 + length later ≡ height + suc (length later) = omega arith in
    let P : ℕ → Type 0 = λ n. AreEven n (laid (laid_out piles items) later) in
    subst P here (laid_high (height + 1) (laid_out piles items) later (even_more height piles items even long.0) (as_long piles (laid_out piles items) later (laid_out_length piles items) long.1))

-- each pile has one item of each list
pub laid_even : {X : Type 0} (many : ℕ) (later : List (List X)) → AreEven many later → AreEven (length later) (laid (replicate many []) later)
laid_even {X = X} many later long =
    let here : 0 + length later ≡ length later = omega arith in
    let P : ℕ → Type 0 = λ n. AreEven n (laid (replicate many []) later) in
    subst P here (laid_high 0 (replicate many []) later (none_even X many) (none_long many later long))

laid_length : {X : Type 0} (piles later : List (List X)) → length (laid piles later) ≡ length piles
laid_length piles [] = refl
laid_length piles (items ∷ later) = laid_length (laid_out piles items) later ∙ laid_out_length piles items

pub laid_many : {X : Type 0} (many : ℕ) (later : List (List X)) → length (laid (replicate many []) later) ≡ many
laid_many many later = laid_length (replicate many []) later ∙ length-replicate many []

pub even_at : {X : Type 0} (many : ℕ) (lists : List (List X)) (k : ℕ) → AreEven many lists → k < length lists → length (slice_index_or lists k []) ≡ many
even_at many [] k even below = absurd (omega (arith, below))
even_at many (one ∷ lists) zero even below = even.0
even_at many (one ∷ lists) (suc k) even below = even_at many lists k even.1 (omega (arith, below))

pub map_laid_out : {X Y : Type 0} (f : X → Y) (piles : List (List X)) (items : List X) → map (map f) (laid_out piles items) ≡ laid_out (map (map f) piles) (map f items)
map_laid_out f [] items = refl
map_laid_out f (pile ∷ piles) [] = refl
map_laid_out f (pile ∷ piles) (item ∷ items) = rw (map-append f pile (item ∷ []), map_laid_out f piles items) refl

pub map_twice : {X Y Z : Type 0} (f : X → Y) (g : Y → Z) (xs : List X) → map (λ x. g (f x)) xs ≡ map g (map f xs)
map_twice f g [] = refl
map_twice f g (x ∷ xs) = ap (λ ys. g (f x) ∷ ys) (map_twice f g xs)
