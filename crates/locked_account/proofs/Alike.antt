-- What comparing two entries of the code says of what they ask and were answered.
use Rattle.std.proofs.Common.{◌≡◌, true, ap, refl, rules, arith}
use Rattle.std.proofs.lemmas.Bool.{and_from, and_parts, eq-eqb, eqb-true}
use Rattle.price_core.specs.RatesOf.{rates_of}
use Rattle.price_core.specs.contracts.plan.PlanPartialEq.TheImpl as plans
use Rattle.price_core.specs.declared.plan.Plan.{Plan}
use Rattle.account_core.specs.Entries.{EntryData, asked_of, entry_data}
use Rattle.account_core.specs.contracts.entry.EntryPartialEq.TheImpl as entries
use Rattle.account_core.specs.contracts.entry.OpPartialEq.TheImpl as operations
use Rattle.account_core.specs.contracts.entry.ReplyPartialEq.TheImpl as replies
use Rattle.account_core.specs.declared.entry.Entry.{Entry}
use Rattle.account_core.specs.declared.entry.Op.{Op}
use Rattle.account_core.specs.declared.entry.Op.TheVariants.{Credit, Reserve, Return, Settle}
use Rattle.account_core.specs.declared.entry.Reply.{Reply}

same_plan : (plan other : Plan) → plans.ghosts.eq plan other ≡ true → rates_of plan ≡ rates_of other
same_plan plan other same = search rules

equal_plan : (plan other : Plan) → rates_of plan ≡ rates_of other → plans.ghosts.eq plan other ≡ true
equal_plan plan other same = search rules

same_op : (op other : Op) → operations.ghosts.eq op other ≡ true → asked_of op ≡ asked_of other
same_op (Credit amount until) (Credit amount' until') same = search rules
same_op (Reserve call plan wanted least at) (Reserve call' plan' wanted' least' at') same = grind (arith, same_plan plan plan')
same_op (Settle call number info) (Settle call' number' info') same = search rules
same_op (Return call) (Return call') same = search rules
same_op op other same = cc

equal_op : (op other : Op) → asked_of op ≡ asked_of other → operations.ghosts.eq op other ≡ true
equal_op (Credit amount until) (Credit amount' until') same = search rules
equal_op (Reserve call plan wanted least at) (Reserve call' plan' wanted' least' at') same = grind (arith, equal_plan plan plan')
equal_op (Settle call number info) (Settle call' number' info') same = search rules
equal_op (Return call) (Return call') same = search rules
equal_op op other same = cc

same_reply : (reply other : Reply) → replies.ghosts.eq reply other ≡ true → reply ≡ other
same_reply reply other same = search rules

equal_reply : (reply other : Reply) → reply ≡ other → replies.ghosts.eq reply other ≡ true
equal_reply reply other same = search rules

pub same_entry : (entry other : Entry) → entries.ghosts.eq entry other ≡ true → entry_data entry ≡ entry_data other
same_entry entry other same =
    let (seat, rest) = and_parts _ _ same in
    let (op, reply) = and_parts _ _ rest in
    rw (eqb-true entry.seat other.seat seat, same_op entry.op other.op op, same_reply entry.reply other.reply reply) refl

pub equal_entry : (entry other : Entry) → entry_data entry ≡ entry_data other → entries.ghosts.eq entry other ≡ true
equal_entry entry other same =
    and_from _ _ (eq-eqb entry.seat other.seat (ap (λ (e : EntryData). e.seat) same))
    (and_from _ _ (equal_op entry.op other.op (ap (λ (e : EntryData). e.asked) same)) (equal_reply entry.reply other.reply (ap (λ (e : EntryData). e.reply) same)))
