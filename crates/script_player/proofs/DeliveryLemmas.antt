-- The operations that are due are delivered, one after the other.
use Rattle.std.proofs.Common.{◌≡◌, ◌<◌, ◌≤◌, ℕ, Some, None, List, [], ◌∷◌, ◌++◌, refl, sym, ap, ◌∙◌, append_assoc, subst}
use Rattle.std.proofs.lemmas.List.Elements.{All-append, All-cons, All-nil}
use Rattle.std.specs.Option.{ForSome}
use Rattle.std.specs.Prelude.{All}
use Rattle.script_player.specs.Chains.{Chain}
use Rattle.ssf_core.specs.Deliveries.{TakesDue, next_delivery}
use Rattle.script_player.specs.Networks.{Grows, Shown}
use Rattle.script_player.specs.Steps.{Delivers, DeliversDue}
use Rattle.ssf_core.specs.declared.deliveries.Delivery.{Delivery}
use Rattle.script_player.proofs.ChainLemmas.{chain_more}
use Rattle.script_player.proofs.CallItems.{grows_not, grows_on}

-- some deliveries that were due were delivered, in order
pub record HaveDelivered (now : ℕ) (before after : Shown) (waiting left : List Delivery) : Type 0 where
  pub grows : Grows before after
  pub delivered : List Delivery
  pub split : waiting ≡ delivered ++ left
  pub due : All (λ delivery. delivery.at ≤ now) delivered
  pub delivers : Chain (Delivers now) before delivered after

pub delivered_none : (now : ℕ) (before : Shown) (waiting : List Delivery) → HaveDelivered now before before waiting waiting
delivered_none now before waiting = record { grows = grows_not before; delivered = []; split = refl; due = All-nil (λ (delivery : Delivery). delivery.at ≤ now); delivers = refl }

pub delivered_more : (now : ℕ) (before between after : Shown) (waiting was left : List Delivery) (delivery : Delivery) → HaveDelivered now before between waiting was
    → TakesDue now was (Some delivery) left → Grows between after → Delivers now between delivery after → HaveDelivered now before after waiting left
delivered_more now before between after waiting was left delivery have takes grows delivers =
    let Due : Delivery → Type 0 = λ delivery. delivery.at ≤ now in
    record {
      grows = grows_on before between after have.grows grows;
      delivered = have.delivered ++ delivery ∷ [];
      split = have.split ∙ ap (λ (rest : List Delivery). have.delivered ++ rest) takes.1 ∙ sym (append_assoc have.delivered (delivery ∷ []) left);
      due = All-append Due have.delivered (delivery ∷ []) have.due (All-cons Due delivery [] takes.0 (All-nil Due));
      delivers = chain_more (Delivers now) before between after have.delivered delivery have.delivers delivers;
    }

pub delivers_due : (now : ℕ) (before after : Shown) (waiting was left : List Delivery) → HaveDelivered now before after waiting was → TakesDue now was None left
    → DeliversDue now before after waiting left
delivers_due now before after waiting was left have takes =
    let L : List Delivery → Type 0 = λ ds. ForSome (next_delivery ds) (λ at. now < at) in
    record {
      delivered = have.delivered;
      split = have.split ∙ ap (λ (rest : List Delivery). have.delivered ++ rest) (sym takes.0);
      due = have.due;
      later = subst L (sym takes.0) takes.1;
      delivers = have.delivers;
    }
