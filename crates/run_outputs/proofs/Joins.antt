-- What is kept of parts is joined, one after another.
use Rattle.std.proofs.Common.{◌≡◌, ◌+◌, ◌∙◌, ℕ, List, [], ◌∷◌, ◌++◌, map, refl, sym, ap, subst, arith, append_assoc, All}
use Rattle.std.proofs.lemmas.Grind.{flat_map-append}
use Rattle.std.proofs.lemmas.List.{append-nil, map-append}
use Rattle.std.proofs.lemmas.List.Sums.{sum_by-append}
use Rattle.std.specs.List.{flat_map, sum_by}
use Rattle.book_texts.specs.RunTexts.{AreLinesOf, LinesSaid}
use Rattle.book_texts.specs.Typed.{IsTyped}
use Rattle.run_values.specs.declared.options.RunOutput.{RunOutput}
use Rattle.run_values.specs.declared.options.RunOutput.TheVariants as output
use Rattle.run_outputs.specs.Kept.{AreKept, IsPartsText, KeepsBooks, KeepsPart, PartSaid, PrintsParts, joined_parts, with_part}
use Rattle.run_outputs.specs.Texts.{RunSaid}
use Rattle.run_outputs.specs.declared.part.Part.{Part}
use Rattle.run_outputs.specs.Refused.{added_up, refusals_counted, with_refusals}
use Rattle.run_outputs.specs.Unplaced.{AreByCall}
use Rattle.run_outputs.specs.declared.refusals.Refusals.{Refusals}
use Rattle.run_outputs.specs.declared.unplaced.UnplacedEvent.{UnplacedEvent}
use Rattle.account_core.specs.Closed.{Closed}
use Rattle.tariff_core.specs.Bands.{Band}

-- ---- refusals are added up

counted_both : (count more : ℕ) → refusals_counted (refusals_counted count + more) ≡ refusals_counted (count + more)
counted_both count more = omega arith

one_field : (f : Refusals → ℕ) (all : List Refusals) (one : Refusals) → refusals_counted (refusals_counted (sum_by f all) + f one) ≡ refusals_counted (sum_by f (all ++ one ∷ []))
one_field f all one =
    let sum : sum_by f (all ++ one ∷ []) ≡ sum_by f all + sum_by f (one ∷ []) = sum_by-append f all (one ∷ []) in
    let alone : sum_by f (one ∷ []) ≡ f one = omega arith in
    counted_both (sum_by f all) (f one) ∙ ap refusals_counted (sym (sum ∙ ap (λ n. sum_by f all + n) alone))

added_more : (all : List Refusals) (one : Refusals) → with_refusals (added_up all) one ≡ added_up (all ++ one ∷ [])
added_more all one = rw (
  one_field (λ r. r.gate_closed) all one,
  one_field (λ r. r.out_of_range) all one,
  one_field (λ r. r.not_open) all one,
  one_field (λ r. r.call_used) all one,
  one_field (λ r. r.history_full) all one,
  one_field (λ r. r.out_of_memory) all one,
) refl

-- ---- the parts are joined

added_part : (front : List PartSaid) (last : PartSaid) → with_part (joined_parts front) last ≡ joined_parts (front ++ last ∷ [])
added_part front last =
    let books : flat_map (λ (p : PartSaid). p.books) (front ++ last ∷ []) ≡ flat_map (λ (p : PartSaid). p.books) front ++ last.books =
    flat_map-append (λ (p : PartSaid). p.books) front (last ∷ []) ∙ ap (λ l. flat_map (λ (p : PartSaid). p.books) front ++ l) (append-nil last.books) in
    let calls : flat_map (λ (p : PartSaid). p.calls) (front ++ last ∷ []) ≡ flat_map (λ (p : PartSaid). p.calls) front ++ last.calls =
    flat_map-append (λ (p : PartSaid). p.calls) front (last ∷ []) ∙ ap (λ l. flat_map (λ (p : PartSaid). p.calls) front ++ l) (append-nil last.calls) in
    let refusals : with_refusals (added_up (map (λ (p : PartSaid). p.refusals) front)) last.refusals ≡ added_up (map (λ (p : PartSaid). p.refusals) (front ++ last ∷ [])) =
    added_more (map (λ (p : PartSaid). p.refusals) front) last.refusals ∙ ap added_up (sym (map-append (λ (p : PartSaid). p.refusals) front (last ∷ []))) in
    let unplaced : flat_map (λ (p : PartSaid). p.unplaced) (front ++ last ∷ []) ≡ flat_map (λ (p : PartSaid). p.unplaced) front ++ last.unplaced =
    flat_map-append (λ (p : PartSaid). p.unplaced) front (last ∷ []) ∙ ap (λ l. flat_map (λ (p : PartSaid). p.unplaced) front ++ l) (append-nil last.unplaced) in
    rw (books, calls, refusals, unplaced) refl

-- what is kept of parts, of which this is the last
record IsLast (output : RunOutput) (said : List PartSaid) (done : List Part) (part : Part) : Type 0 where
  front : List PartSaid
  last : PartSaid
  is : said ≡ front ++ last ∷ []
  kept : AreKept output front done
  keeps : KeepsPart output last part

last_kept : (output : RunOutput) (said : List PartSaid) (done : List Part) (part : Part) → AreKept output said (done ++ part ∷ []) → IsLast output said done part
last_kept output [] [] part are = absurd are
last_kept output [] (first ∷ done) part are = absurd are
last_kept output (said ∷ []) [] part are = record { front = []; last = said; is = refl; kept = tt; keeps = are.0 }
last_kept output (said ∷ next ∷ rest) [] part are = absurd are.1
last_kept output (said ∷ rest) (first ∷ done) part are =
    let later = last_kept output rest done part are.1 in
    record { front = said ∷ later.front; last = later.last; is = ap (λ (l : List PartSaid). said ∷ l) later.is; kept = (are.0, later.kept); keeps = later.keeps }

-- the parts before these are joined
pub record AreJoined (parts rest : List Part) (whole : Part) : Type 0 where
  pub done : List Part
  pub split : done ++ rest ≡ parts
  pub keeps : (output : RunOutput) (said : List PartSaid) → AreKept output said done → KeepsPart output (joined_parts said) whole

pub joined_next : (parts : List Part) (part : Part) (rest : List Part) (whole new : Part)
    → ((output : RunOutput) (said later : PartSaid) → KeepsPart output said whole → KeepsPart output later part → KeepsPart output (with_part said later) new)
    → AreJoined parts (part ∷ rest) whole → AreJoined parts rest new
joined_next parts part rest whole new adds are = record {
  done = are.done ++ part ∷ [];
  split = append_assoc are.done (part ∷ []) rest ∙ are.split;
  keeps = λ output said kept.
      let last = last_kept output said are.done part kept in
      let Is : PartSaid → Type 0 = λ s. KeepsPart output s new in
      subst (λ (l : List PartSaid). Is (joined_parts l)) (sym last.is) (subst Is (added_part last.front last.last) (adds output (joined_parts last.front) last.last (are.keeps output last.front last.kept) last.keeps));
}

none_kept : (output : RunOutput) (whole : Part) → KeepsPart output (joined_parts []) whole → (said : List PartSaid) → AreKept output said [] → KeepsPart output (joined_parts said) whole
none_kept output whole is [] kept = is
none_kept output whole is (said ∷ rest) kept = absurd kept

-- nothing is joined yet
pub none_joined : (parts rest : List Part) (whole : Part) → rest ≡ parts → ((output : RunOutput) → KeepsPart output (joined_parts []) whole) → AreJoined parts rest whole
none_joined parts rest whole all none = record { done = []; split = all; keeps = λ output said kept. none_kept output whole (none output) said kept }

-- all are joined
pub all_joined : (parts rest : List Part) (whole : Part) → rest ≡ [] → AreJoined parts rest whole → (output : RunOutput) (said : List PartSaid) → AreKept output said parts → KeepsPart output (joined_parts said) whole
all_joined parts rest whole none are output said kept =
    let all : are.done ≡ parts = sym (append-nil are.done) ∙ ap (λ (l : List Part). are.done ++ l) (sym none) ∙ are.split in
    are.keeps output said (subst (λ (p : List Part). AreKept output said p) (sym all) kept)

-- what is kept where nothing is
pub keeps_nothing : (output : RunOutput) (lines : LinesSaid) (books : List Closed) → AreLinesOf [] lines → books ≡ [] → KeepsBooks output [] lines books
keeps_nothing output.Lines lines books are none = are
keeps_nothing output.Book lines books are none = none
keeps_nothing (output.Calls clock) lines books are none = tt
keeps_nothing (output.Trace clock) lines books are none = are

-- the books that are kept are typed, so they are
typed_kept : (kept : RunOutput) (said : PartSaid) (part : Part) → kept ≡ output.Book → KeepsPart kept said part → All IsTyped part.books.items → All IsTyped said.books
typed_kept kept said part is keeps typed =
    let own : KeepsPart output.Book said part = subst (λ (o : RunOutput). KeepsPart o said part) is keeps in
    subst (λ (l : List Closed). All IsTyped l) own.books typed

-- what is printed of all that is kept
pub prints_parts : (asked : RunOutput) (tariff : List Band) (parts : List Part) (whole : Part) (ran : RunSaid)
    → ((output : RunOutput) (said : List PartSaid) → AreKept output said parts → KeepsPart output (joined_parts said) whole)
    → ((said : PartSaid) → KeepsPart asked said whole → IsPartsText asked tariff said.books said.calls ran.text) → ran.refusals ≡ whole.refusals
    → AreByCall whole.unplaced.items ran.unplaced → (asked ≡ output.Book → All IsTyped whole.books.items) → (said : List PartSaid) → AreKept asked said parts
    → PrintsParts asked tariff (joined_parts said) ran
prints_parts asked tariff parts whole ran joins printed refusals merged typed said kept =
    let keeps = joins asked said kept in
    record {
      printed = printed (joined_parts said) keeps;
      refused = refusals ∙ keeps.refusals;
      unplaced = subst (λ (l : List UnplacedEvent). AreByCall l ran.unplaced) keeps.unplaced merged;
      typed = λ is. typed_kept asked (joined_parts said) whole is keeps (typed is);
    }
