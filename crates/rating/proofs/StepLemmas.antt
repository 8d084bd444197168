-- What `csv`'s machine does at a byte, by its defaults.
use Rattle.std.proofs.Common.{◌≡◌, ◌==◌, ℕ, Bool, true, false, refl, inl, inr, arith}
use Rattle.std.specs.Prelude.{◌||◌, ◌⊎◌, ⊤, if◌then◌else◌}
use Rattle.std.proofs.lemmas.Bool.Decides.{nat_tests}
use Rattle.csv.specs.Machine.{after_end, in_field, start_field, start_record, step}
use Rattle.csv.specs.Reading.{default_config}
use Rattle.csv.specs.declared.parser.Action.{Action}
use Rattle.csv.specs.declared.parser.Action.TheVariants as act
use Rattle.csv.specs.declared.parser.State.{State}
use Rattle.csv.specs.declared.parser.State.TheVariants as st
use Rattle.csv.specs.declared.parser.Terminator.TheVariants as term
use Rattle.rating.specs.Cuts.{IsBetween}

-- a state within a row
abbrev pub IsInRow : State → Type 0
IsInRow st.StartField = ⊤
IsInRow st.InField = ⊤
IsInRow st.InQuoted = ⊤
IsInRow st.AfterQuote = ⊤
IsInRow _ = ⊥

-- one of those in which a line end ends the row
abbrev pub IsOpen : State → Type 0
IsOpen st.StartField = ⊤
IsOpen st.InField = ⊤
IsOpen st.AfterQuote = ⊤
IsOpen _ = ⊥

-- a state of a text without comments
abbrev pub IsState : State → Type 0
IsState s = IsInRow s ⊎ IsBetween s

-- what a byte does: where it ends a row, it ends one in each free state
abbrev pub GoesBy : State → ℕ → State → Action → Type 0
GoesBy s c to act.EndRecord = IsBetween to × ((free : State) → IsOpen free → step default_config free c ≡ (to, act.EndRecord))
GoesBy s c to act.Copy = IsInRow to
GoesBy s c to act.EndField = IsInRow to
GoesBy s c to act.Skip = IsInRow to ⊎ (IsBetween s × IsBetween to)

abbrev pub Goes : State → ℕ → State × Action → Type 0
Goes s c next = GoesBy s c next.0 next.1

either : (P : State × Action → Type 0) (b : Bool) (x y : State × Action) → (b ≡ true → P x) → (b ≡ false → P y) → P (if b then x else y)
either P true x y p q = p refl
either P false x y p q = q refl

after_end-between : (c : ℕ) (b : Bool) → IsBetween (if b then st.AfterCr else st.StartRecord)
after_end-between c true = inr refl
after_end-between c false = inl refl

pub no_quote : (c : ℕ) → ((c == 13) || (c == 10)) ≡ true → (c == 34) ≡ false
no_quote c is = grind (arith, nat_tests)

pub no_comma : (c : ℕ) → ((c == 13) || (c == 10)) ≡ true → (c == 44) ≡ false
no_comma c is = grind (arith, nat_tests)

open_ends : (c : ℕ) → ((c == 13) || (c == 10)) ≡ true → (free : State) → IsOpen free → step default_config free c ≡ (after_end term.CRLF c, act.EndRecord)
open_ends c is st.StartField free = rw (no_quote c is, no_comma c is, is) refl
open_ends c is st.InField free = rw (no_comma c is, is) refl
open_ends c is st.AfterQuote free = rw (no_quote c is, no_comma c is, is) refl
open_ends c is st.InQuoted free = absurd free
open_ends c is st.StartRecord free = absurd free
open_ends c is st.AfterCr free = absurd free
open_ends c is st.InEscape free = absurd free
open_ends c is st.InComment free = absurd free

in_field-goes : (s : State) (c : ℕ) → Goes s c (in_field default_config c)
in_field-goes s c =
    either (Goes s c) (c == 44) (st.StartField, act.EndField) _ (λ _. tt)
    (λ _. either (Goes s c) ((c == 13) || (c == 10)) (after_end term.CRLF c, act.EndRecord) (st.InField, act.Copy)
    (λ is. (after_end-between c (c == 13), open_ends c is)) (λ _. tt))

start_field-goes : (s : State) (c : ℕ) → Goes s c (start_field default_config c)
start_field-goes s c = either (Goes s c) (c == 34) (st.InQuoted, act.Skip) (in_field default_config c) (λ _. inl tt) (λ _. in_field-goes s c)

start_record-goes : (s : State) (c : ℕ) → IsBetween s → Goes s c (start_record default_config c)
start_record-goes s c between =
    either (Goes s c) ((c == 13) || (c == 10)) (st.StartRecord, act.Skip) (start_field default_config c) (λ _. inr (between, inl refl)) (λ _. start_field-goes s c)

row_goes : (s : State) (c : ℕ) → IsInRow s → Goes s c (step default_config s c)
row_goes st.StartField c in_row = start_field-goes st.StartField c
row_goes st.InField c in_row = in_field-goes st.InField c
row_goes st.InQuoted c in_row = either (Goes st.InQuoted c) (c == 34) (st.AfterQuote, act.Skip) (st.InQuoted, act.Copy) (λ _. inl tt) (λ _. tt)
row_goes st.AfterQuote c in_row =
    either (Goes st.AfterQuote c) (c == 34) (st.InQuoted, act.Copy) (in_field default_config c) (λ _. tt) (λ _. in_field-goes st.AfterQuote c)
row_goes st.StartRecord c in_row = absurd in_row
row_goes st.AfterCr c in_row = absurd in_row
row_goes st.InEscape c in_row = absurd in_row
row_goes st.InComment c in_row = absurd in_row

after_cr_by : (c : ℕ) (one two : Bool) → (c == 13) ≡ one → (c == 10) ≡ two → step default_config st.AfterCr c ≡ step default_config st.StartRecord c
after_cr_by c true true one two = rw (one, two) refl
after_cr_by c false true one two = rw (one, two) refl
after_cr_by c one false is two = rw two refl

-- behind a CR the machine does what it does at the start of a row
pub after_cr : (c : ℕ) → step default_config st.AfterCr c ≡ step default_config st.StartRecord c
after_cr c = after_cr_by c (c == 13) (c == 10) refl refl

between_goes : (s : State) (c : ℕ) → IsBetween s → Goes s c (step default_config s c)
between_goes st.StartRecord c between = start_record-goes st.StartRecord c between
between_goes st.AfterCr c between = rw (after_cr c) (start_record-goes st.AfterCr c between)
between_goes st.StartField c (inl is) = absurd (cc)
between_goes st.StartField c (inr is) = absurd (cc)
between_goes st.InField c (inl is) = absurd (cc)
between_goes st.InField c (inr is) = absurd (cc)
between_goes st.InQuoted c (inl is) = absurd (cc)
between_goes st.InQuoted c (inr is) = absurd (cc)
between_goes st.AfterQuote c (inl is) = absurd (cc)
between_goes st.AfterQuote c (inr is) = absurd (cc)
between_goes st.InEscape c (inl is) = absurd (cc)
between_goes st.InEscape c (inr is) = absurd (cc)
between_goes st.InComment c (inl is) = absurd (cc)
between_goes st.InComment c (inr is) = absurd (cc)

pub step_goes : (s : State) (c : ℕ) → IsState s → Goes s c (step default_config s c)
step_goes s c (inl row) = row_goes s c row
step_goes s c (inr between) = between_goes s c between

-- ---- a byte that is no quote

-- a state in a row in which only a quote does more
abbrev pub IsPlain : State → Type 0
IsPlain st.StartField = ⊤
IsPlain st.InField = ⊤
IsPlain _ = ⊥

abbrev pub IsCalm : State → Type 0
IsCalm s = IsPlain s ⊎ IsBetween s

abbrev pub StaysBy : State → State → Action → Type 0
StaysBy s to act.EndRecord = IsBetween to
StaysBy s to act.Copy = IsPlain to
StaysBy s to act.EndField = IsPlain to
StaysBy s to act.Skip = IsBetween s × IsBetween to

abbrev pub Stays : State → State × Action → Type 0
Stays s next = StaysBy s next.0 next.1

in_field-stays : (s : State) (c : ℕ) → Stays s (in_field default_config c)
in_field-stays s c =
    either (Stays s) (c == 44) (st.StartField, act.EndField) _ (λ _. tt)
    (λ _. either (Stays s) ((c == 13) || (c == 10)) (after_end term.CRLF c, act.EndRecord) (st.InField, act.Copy) (λ _. after_end-between c (c == 13)) (λ _. tt))

start_field-stays : (s : State) (c : ℕ) → (c == 34) ≡ false → Stays s (start_field default_config c)
start_field-stays s c plain = rw plain (in_field-stays s c)

start_record-stays : (s : State) (c : ℕ) → (c == 34) ≡ false → IsBetween s → Stays s (start_record default_config c)
start_record-stays s c plain between =
    either (Stays s) ((c == 13) || (c == 10)) (st.StartRecord, act.Skip) (start_field default_config c) (λ _. (between, inl refl)) (λ _. start_field-stays s c plain)

between_stays : (s : State) (c : ℕ) → (c == 34) ≡ false → IsBetween s → Stays s (step default_config s c)
between_stays s c plain (inl is) = rw is (start_record-stays st.StartRecord c plain (inl refl))
between_stays s c plain (inr is) = rw (is, after_cr c) (start_record-stays st.AfterCr c plain (inr refl))

plain_stays : (s : State) (c : ℕ) → (c == 34) ≡ false → IsPlain s → Stays s (step default_config s c)
plain_stays st.StartField c plain at = start_field-stays st.StartField c plain
plain_stays st.InField c plain at = in_field-stays st.InField c
plain_stays st.InQuoted c plain at = absurd at
plain_stays st.AfterQuote c plain at = absurd at
plain_stays st.StartRecord c plain at = absurd at
plain_stays st.AfterCr c plain at = absurd at
plain_stays st.InEscape c plain at = absurd at
plain_stays st.InComment c plain at = absurd at

pub step_stays : (s : State) (c : ℕ) → (c == 34) ≡ false → IsCalm s → Stays s (step default_config s c)
step_stays s c plain (inl at) = plain_stays s c plain at
step_stays s c plain (inr between) = between_stays s c plain between
