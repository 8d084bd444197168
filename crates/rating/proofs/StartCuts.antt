-- A byte order mark at the start is isnt part of a row.
use Rattle.std.proofs.Common.{◌≡◌, ◌==◌, ℕ, suc, ◌+◌, ◌∙◌, Bool, true, false, List, [], ◌∷◌, length, map, Some, refl, sym, ap, inl, arith}
use Rattle.std.specs.Prelude.{if◌then◌else◌, ◌&&◌}
use Rattle.std.proofs.lemmas.Bool.Decides.{nat_tests}
use Rattle.csv.specs.Machine.{step}
use Rattle.csv.specs.Reading.{default_config, is_bom, records_from, strip_bom}
use Rattle.csv.specs.declared.parser.Action.{Action}
use Rattle.csv.specs.declared.parser.Action.TheVariants as act
use Rattle.csv.specs.declared.parser.State.{State}
use Rattle.csv.specs.declared.parser.State.TheVariants as st
use Rattle.table_core.specs.Rows.{rows_of}
use Rattle.rating.proofs.RecordCuts.{rows_cut}
use Rattle.rating.specs.Cuts.{cut_from, cut_second, cut_start, cut_third, passed_on, room_after}
use Rattle.rating.specs.Lines.{front}

is_byte : (c value : ℕ) → (c == value) ≡ true → c ≡ value
is_byte c value is = grind (arith, nat_tests)

bom_by : (b : Bool) (rest text : List ℕ) → b ≡ false → (if b then rest else text) ≡ text
bom_by true rest text isnt = cc
bom_by false rest text isnt = refl

other_first : (a : ℕ) (text : List ℕ) → (a == 0xEF) ≡ false → strip_bom (a ∷ text) ≡ a ∷ text
unfolding strip_bom
other_first a [] isnt = refl
other_first a (b ∷ []) isnt = refl
other_first a (b ∷ c ∷ text) isnt = bom_by (is_bom a b c) text (a ∷ b ∷ c ∷ text) (rw isnt refl)

no_second : (a b c : Bool) → b ≡ false → (a && b && c) ≡ false
no_second true b c isnt = rw isnt refl
no_second false b c isnt = refl

other_second : (a b : ℕ) (text : List ℕ) → (b == 0xBB) ≡ false → strip_bom (a ∷ b ∷ text) ≡ a ∷ b ∷ text
unfolding strip_bom
other_second a b [] isnt = refl
other_second a b (c ∷ text) isnt = bom_by (is_bom a b c) text (a ∷ b ∷ c ∷ text) (no_second (a == 0xEF) (b == 0xBB) (c == 0xBF) isnt)

no_third : (a b c : Bool) → c ≡ false → (a && b && c) ≡ false
no_third true true c isnt = rw isnt refl
no_third true false c isnt = refl
no_third false b c isnt = refl

other_third : (a b c : ℕ) (text : List ℕ) → (c == 0xBF) ≡ false → strip_bom (a ∷ b ∷ c ∷ text) ≡ a ∷ b ∷ c ∷ text
unfolding strip_bom
other_third a b c text isnt = bom_by (is_bom a b c) text (a ∷ b ∷ c ∷ text) (no_third (a == 0xEF) (b == 0xBB) (c == 0xBF) isnt)

-- the first bytes of a row pass
first_passes : (most a : ℕ) (rest : List ℕ) → a ≡ 0xEF → cut_from (suc most) st.StartRecord (Some (suc most)) (a ∷ rest) ≡ a ∷ cut_from (suc most) st.InField (Some most) rest
unfolding cut_from
first_passes most a rest is = rw is refl

second_passes : (most room b : ℕ) (rest : List ℕ) → b ≡ 0xBB → cut_from most st.InField (Some (suc room)) (b ∷ rest) ≡ b ∷ cut_from most st.InField (Some room) rest
unfolding cut_from
second_passes most room b rest is = rw is refl

pub passes : (a : Action) (s : State) (room c : ℕ) → passed_on a s (Some (suc room)) c ≡ c ∷ []
passes act.EndRecord s room c = refl
passes act.Copy s room c = refl
passes act.EndField s room c = refl
passes act.Skip s room c = refl

pub first_is : (most : ℕ) (s : State) (room c : ℕ) (rest : List ℕ)
    → cut_from most s (Some (suc room)) (c ∷ rest) ≡ c ∷ cut_from most (step default_config s c).0 (room_after most (step default_config s c).1 (Some (suc room))) rest
unfolding cut_from
first_is most s room c rest = rw (passes (step default_config s c).1 s room c) refl

module _ (less : ℕ) where
  abbrev most : ℕ
  most = suc (suc (suc less))

  all_three : (a b c : ℕ) (text : List ℕ) → a ≡ 0xEF → b ≡ 0xBB → c ≡ 0xBF
      → strip_bom (a ∷ b ∷ c ∷ cut_from most st.StartRecord (Some most) text) ≡ cut_from most st.StartRecord (Some most) (strip_bom (a ∷ b ∷ c ∷ text))
  unfolding strip_bom
  all_three a b c text one two three = rw (one, two, three) refl

  first_alone : (a : ℕ) → a ≡ 0xEF → strip_bom (a ∷ cut_second most (Some (suc (suc less))) []) ≡ cut_from most st.StartRecord (Some most) (strip_bom (a ∷ []))
  unfolding strip_bom cut_second cut_from
  first_alone a one = rw one refl

  two_alone : (a b : ℕ) → a ≡ 0xEF → b ≡ 0xBB → strip_bom (a ∷ b ∷ cut_third most (Some (suc less)) []) ≡ cut_from most st.StartRecord (Some most) (strip_bom (a ∷ b ∷ []))
  unfolding strip_bom cut_third cut_from
  two_alone a b one two = rw (one, two) refl

  third_by : (a b c : ℕ) (text : List ℕ) (is : Bool) → a ≡ 0xEF → b ≡ 0xBB → (c == 0xBF) ≡ is
      → strip_bom (a ∷ b ∷ cut_third most (Some (suc less)) (c ∷ text)) ≡ cut_from most st.StartRecord (Some most) (strip_bom (a ∷ b ∷ c ∷ text))
  unfolding cut_third
  third_by a b c text true one two is = rw is (all_three a b c text one two (is_byte c 0xBF is))
  third_by a b c text false one two is =
      let cut = first_is most st.InField less c text in
      rw is (ap (λ l. strip_bom (a ∷ b ∷ l)) cut ∙ other_third a b c _ is
      ∙ sym (ap (λ l. cut_from most st.StartRecord (Some most) l) (other_third a b c text is)
      ∙ first_passes (suc (suc less)) a (b ∷ c ∷ text) one ∙ ap (λ l. a ∷ l) (second_passes most (suc less) b (c ∷ text) two ∙ ap (λ l. b ∷ l) cut)))

  second_by : (a b : ℕ) (text : List ℕ) (is : Bool) → a ≡ 0xEF → (b == 0xBB) ≡ is
      → strip_bom (a ∷ cut_second most (Some (suc (suc less))) (b ∷ text)) ≡ cut_from most st.StartRecord (Some most) (strip_bom (a ∷ b ∷ text))
  unfolding cut_second
  second_by a b [] true one is = rw is (two_alone a b one (is_byte b 0xBB is))
  second_by a b (c ∷ text) true one is = rw is (third_by a b c text (c == 0xBF) one (is_byte b 0xBB is) refl)
  second_by a b text false one is =
      let cut = first_is most st.InField (suc less) b text in
      rw is (ap (λ l. strip_bom (a ∷ l)) cut ∙ other_second a b _ is
      ∙ sym (ap (λ l. cut_from most st.StartRecord (Some most) l) (other_second a b text is)
      ∙ first_passes (suc (suc less)) a (b ∷ text) one ∙ ap (λ l. a ∷ l) cut))

  start_by : (a : ℕ) (text : List ℕ) (is : Bool) → (a == 0xEF) ≡ is
      → strip_bom (cut_start most (a ∷ text)) ≡ cut_from most st.StartRecord (Some most) (strip_bom (a ∷ text))
  unfolding cut_start
  start_by a [] true is = rw is (first_alone a (is_byte a 0xEF is))
  start_by a (b ∷ text) true is = rw is (second_by a b text (b == 0xBB) (is_byte a 0xEF is) refl)
  start_by a text false is =
      let cut = first_is most st.StartRecord (suc (suc less)) a text in
      rw is (ap (λ l. strip_bom l) cut ∙ other_first a _ is ∙ sym (ap (λ l. cut_from most st.StartRecord (Some most) l) (other_first a text is) ∙ cut))

  start_cut : (text : List ℕ) → strip_bom (cut_start most text) ≡ cut_from most st.StartRecord (Some most) (strip_bom text)
  unfolding strip_bom cut_start cut_from
  start_cut [] = refl
  start_cut (a ∷ text) = start_by a text (a == 0xEF) refl

  -- what `csv` reads of a table whose long rows are cut: the first bytes of each row
  pub table_cut : (text : List ℕ) → rows_of (cut_start most text) ≡ map (front most) (rows_of text)
  unfolding rows_of
  table_cut text =
      ap (λ l. records_from default_config (length l + 1) st.StartRecord l) (start_cut text)
      ∙ rows_cut most (length (strip_bom text) + 1) (length (cut_from most st.StartRecord (Some most) (strip_bom text)) + 1) st.StartRecord (strip_bom text)
      (omega arith) (inl refl) (omega arith) (omega arith)
