-- Parts that are played one after another, and what they come to together.
use Rattle.std.proofs.Common.{◌≡◌, ◌<◌, ◌+◌, ◌∙◌, ℕ, zero, suc, List, [], ◌∷◌, length, map, refl, sym, true, ap, subst, arith}
use Rattle.std.proofs.Math.ListN.{get_or}
use Rattle.run_command.specs.InParts.{ArePlayed, IsInParts, IsKeptPart, IsPlayedPart}
use Rattle.run_outputs.specs.Kept.{AreKept, KeepsOwn, PartSaid, PrintsParts, joined_parts, own_books}
use Rattle.run_command.specs.Played.{IsPlayedRun}
use Rattle.run_outputs.specs.Texts.{RunSaid, run_of}
use Rattle.run_outputs.specs.Unplaced.{events_in_rows}
use Rattle.run_outputs.specs.declared.part.Part.{Part}
use Rattle.run_outputs.specs.declared.played.Played.{Played}
use Rattle.run_values.specs.declared.options.RunAsk.{RunAsk}
use Rattle.run_outputs.specs.Parts.{AreParts, part_count, part_rows, payer_of}
use Rattle.run_texts.specs.Views.{row_data, with_digits}
use Rattle.run_texts.specs.declared.script.ScriptRow.{ScriptRow}
use Rattle.run_values.specs.Setups.{Setup}
use Rattle.runs_core.specs.Teams.{are_workers}

-- what is kept of a part that was played
pub kept_part : (ask : RunAsk) (setup : Setup) (firsts : List ℕ) (number : ℕ) (rows : List ScriptRow) (played : Played) (kept : Part) → are_workers ask.workers ≡ true
    → IsPlayedRun ask setup rows played → KeepsOwn ask.output setup firsts number played kept → IsKeptPart ask setup firsts number rows kept
kept_part ask setup firsts number rows played kept workers is own = record {
  said = record {
    books = own_books firsts number played.books.items;
    calls = kept.calls.items;
    refusals = played.refusals;
    unplaced = events_in_rows played.unplaced.items;
  };
  is = record {
    workers = workers;
    given = (run_of setup played).given;
    heard = is.heard;
    given_by = is.given_by;
    books = played.books.items;
    run = is.run;
    own = refl;
    calls = own.calls;
    refused = is.counted;
    unplaced = ap events_in_rows (sym is.unplaced);
  };
  keeps = record { books = own.books; calls = refl; refusals = own.refusals; unplaced = own.unplaced };
}

-- ---- what all parts come to

module _ (ask : RunAsk) (setup : Setup) (firsts : List ℕ) (rows : ℕ → List ScriptRow) where
  abbrev IsOne : ℕ → Part → Type 0
  IsOne number part = IsKeptPart ask setup firsts number (rows number) part

  abbrev IsSaid : ℕ → PartSaid → Type 0
  IsSaid number said = IsPlayedPart ask setup firsts number (rows number) said

  -- what the parts from a number on come to, and what is kept of them
  record AreSaid (from : ℕ) (parts : List Part) : Type 0 where
    said : List PartSaid
    count : length said ≡ length parts
    kept : AreKept ask.output said parts
    each : (part : ℕ) (d : PartSaid) → part < length said → IsSaid (from + part) (get_or said part d)

  each_said : (from : ℕ) (first : PartSaid) (rest : List PartSaid) → IsSaid from first → ((part : ℕ) (d : PartSaid) → part < length rest → IsSaid (suc from + part) (get_or rest part d))
      → (part : ℕ) (d : PartSaid) → part < length (first ∷ rest) → IsSaid (from + part) (get_or (first ∷ rest) part d)
  each_said from first rest is others zero d within = subst (λ n. IsSaid n first) (let same : from ≡ from + 0 = omega arith in same) is
  each_said from first rest is others (suc part) d within =
      subst (λ n. IsSaid n (get_or rest part d)) (let same : suc from + part ≡ from + suc part = omega arith in same) (others part d (omega (arith, within)))

  all_said : (from : ℕ) (parts : List Part) → ((part : ℕ) (d : Part) → part < length parts → IsOne (from + part) (get_or parts part d)) → AreSaid from parts
  all_said from [] each = record { said = []; count = refl; kept = tt; each = λ part d within. absurd (omega (arith, within)) }
  all_said from (part ∷ parts) each =
      let first : IsOne from part = subst (λ n. IsOne n part) (let same : from + 0 ≡ from = omega arith in same) (each 0 part (omega arith)) in
      let rest : AreSaid (suc from) parts = all_said (suc from) parts (λ k d within. subst (λ n. IsOne n (get_or parts k d)) (let same : from + suc k ≡ suc from + k = omega arith in same) (each (suc k) d (omega (arith, within)))) in
      record { said = first.said ∷ rest.said; count = ap suc rest.count; kept = (first.keeps, rest.kept); each = each_said from first.said rest.said first.is rest.each }

pub in_parts : (asked : ℕ) (ask : RunAsk) (setup : Setup) (rows : List ScriptRow) (firsts : List ℕ) (scripts : List (List ScriptRow)) (parts : List Part) (ran : RunSaid)
    → 1 + length firsts ≡ part_count asked (length setup.accounts)
    → AreParts firsts (payer_of (with_digits setup.subscribers) (map row_data rows)) rows scripts → ArePlayed ask setup firsts scripts parts
    → ((said : List PartSaid) → AreKept ask.output said parts → PrintsParts ask.output setup.tariff (joined_parts said) ran) → IsInParts asked ask setup rows ran.text ran.refusals ran.unplaced
in_parts asked ask setup rows firsts scripts parts ran count divided played prints =
    let payer = payer_of (with_digits setup.subscribers) (map row_data rows) in
    let own : (part : ℕ) → part < length parts → get_or scripts part [] ≡ part_rows firsts payer rows part =
    λ part within. divided.each part (let all = played.count in let many = divided.count in omega (arith, all, many, within)) in
    let said = all_said ask setup firsts (part_rows firsts payer rows) 0 parts
    (λ part d within. let same : part ≡ 0 + part = omega arith in subst (λ n. IsKeptPart ask setup firsts n (part_rows firsts payer rows n) (get_or parts part d)) same
    (subst (λ r. IsKeptPart ask setup firsts part r (get_or parts part d)) (own part within) (played.each part d within))) in
    let printed = prints said.said said.kept in
    record {
      firsts = firsts;
      count = count;
      parts = said.said;
      all = said.count ∙ played.count ∙ divided.count;
      each = λ part d within. let same : 0 + part ≡ part = omega arith in subst (λ n. IsPlayedPart ask setup firsts n (part_rows firsts payer rows n) (get_or said.said part d)) same (said.each part d within);
      printed = printed.printed;
      typed = printed.typed;
      refused = printed.refused;
      unplaced = printed.unplaced;
    }
