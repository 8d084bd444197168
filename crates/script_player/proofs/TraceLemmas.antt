-- A gsmSSF goes on along its trace, and what it sends lies by its latest moment.
use Rattle.std.proofs.Common.{◌≡◌, ◌<◌, ◌≤◌, ℕ, Option, Some, List, [], ◌∷◌, ◌++◌, inl, inr, refl, arith, sym, append-nil}
use Rattle.std.proofs.lemmas.List.Elements.{All-append, All-cons, All-nil, All-same, All-tail, All-weaker}
use Rattle.std.proofs.lemmas.Bool.{cases_lt}
use Rattle.std.specs.Prelude.{All}
use Rattle.ssf_core.specs.Calls.{Stands, View}
use Rattle.ssf_core.specs.Happenings.{Happening, sent_at, sent_in}
use Rattle.ssf_core.specs.Quantities.{last_happening_moment}
use Rattle.ssf_core.specs.Traces.{IsTrace}
use Rattle.ssf_core.specs.declared.config.SsfConfig.{SsfConfig}
use Rattle.ssf_core.specs.declared.fault.SsfFault.{SsfFault}
use Rattle.ssf_core.specs.declared.fault.SsfFault.TheVariants as fault
use Rattle.ssf_core.specs.declared.item.Item.{Item}
use Rattle.ssf_core.specs.declared.item.Out.{Out}
use Rattle.script_player.specs.Networks.{SsfGoesOn, SendsFrom}

-- what is sent lies by a moment
abbrev pub AreBy : ℕ → List Out → Type 0
AreBy moment outs = All (λ (out : Out). out.at ≤ moment) outs

by_later : (early late : ℕ) (outs : List Out) → early ≤ late → AreBy early outs → AreBy late outs
by_later early late outs order by = All-weaker (λ (out : Out). out.at ≤ early) (λ (out : Out). out.at ≤ late) (λ out is. omega arith) outs by

sent_at-by : (moment : ℕ) (items : List Item) → AreBy moment (sent_at moment items)
sent_at-by moment [] = All-nil (λ (out : Out). out.at ≤ moment)
sent_at-by moment (item ∷ items) =
    All-cons (λ (out : Out). out.at ≤ moment) (record { at = moment; item = item }) (sent_at moment items) (omega arith) (sent_at-by moment items)

-- all that was sent along a trace lies by its latest moment
sent_in-by : (config : SsfConfig) (trace : List Happening) → IsTrace config trace → AreBy (last_happening_moment trace) (sent_in trace)
sent_in-by config [] is = All-nil (λ (out : Out). out.at ≤ 0)
sent_in-by config (e ∷ trace) is =
    All-append (λ (out : Out). out.at ≤ e.at) (sent_in trace) (sent_at e.at e.sent) (by_later (last_happening_moment trace) e.at (sent_in trace) is.1.in_order (sent_in-by config trace is.0))
    (sent_at-by e.at e.sent)

-- the end of a list has what holds of it all
after_front : (moment : ℕ) (front rest : List Out) → AreBy moment (front ++ rest) → AreBy moment rest
after_front moment [] rest by = by
after_front moment (out ∷ front) rest by = after_front moment front rest (All-tail (λ (other : Out). other.at ≤ moment) out (front ++ rest) by)

-- it stands for a longer trace, by a moment that it takes
sends_from : (after : View) (trace further : List Happening) (sent : List Out) → after.last ≤ 2000000000000 → Stands after further → sent_in further ≡ sent_in trace ++ sent → SendsFrom after trace sent
sends_from after trace further sent order stands sends = record {
  further = further;
  stands = stands;
  sends = sends;
  in_range =
      after_front 2000000000000 (sent_in trace) sent
      (All-same (λ (out : Out). out.at ≤ 2000000000000) (sent_in trace ++ sent) (sent_in further) (sym sends)
      (by_later (last_happening_moment further) 2000000000000 (sent_in further) (let behind : last_happening_moment further ≤ after.last = stands.behind in omega arith)
      (sent_in-by after.config further stands.is_trace)));
}

-- nothing happens to it
stays : (before : View) → SsfGoesOn before before []
stays before = record {
  same_config = refl;
  from = λ trace stands. record { further = trace; stands = stands; sends = sym (append-nil (sent_in trace)); in_range = All-nil (λ (out : Out). out.at ≤ 2000000000000) };
}

stays_where : (before after : View) (sent : List Out) → after ≡ before → sent ≡ [] → SsfGoesOn before after sent
stays_where before after sent same none = rw (same, none) (stays before)

-- what a refusal for an earlier moment leaves
abbrev pub Backwards : View → View → ℕ → Option SsfFault → List Out → Type 0
Backwards before after now why sent = now < before.last → (after ≡ before) × (why ≡ Some fault.TimeBackwards) × (sent ≡ [])

goes_at : (before after : View) (now : ℕ) (sent : List Out) → now ≤ 2000000000000 → (after.last ≡ now) × (after.config ≡ before.config)
    → ((t : List Happening) → Stands before t → (further : List Happening) × (Stands after further × (sent_in further ≡ sent_in t ++ sent))) → SsfGoesOn before after sent
goes_at before after now sent order moment traced = record {
  same_config = moment.1;
  from = λ trace stands. let went = traced trace stands in
      sends_from after trace went.0 sent (omega (arith, moment.0)) went.1.0 went.1.1;
}

-- an input comes, or time passes
pub goes_by : (before after : View) (now : ℕ) (sent : List Out) (why : Option SsfFault) → now ≤ 2000000000000 → Backwards before after now why sent
    → (before.last ≤ now → (after.last ≡ now) × (after.config ≡ before.config))
    → (before.last ≤ now → (t : List Happening) → Stands before t → (further : List Happening) × (Stands after further × (sent_in further ≡ sent_in t ++ sent))) → SsfGoesOn before after sent
goes_by before after now sent why order backwards moment traced =
    elim (cases_lt now before.last) [
      | inl early ↦ stays_where before after sent (backwards early).0 (backwards early).2
      | inr late ↦ goes_at before after now sent order (moment late) (traced late)
    ]
