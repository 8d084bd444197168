-- How many answers of a run say that an account refused what it was asked.
use Rattle.std.specs.Prelude.{◌==◌, ◌+◌, ◌-◌, ◌^◌, ℕ, Bool, false, List, Option, Some, None, filter, length, min, sum_by}
use Rattle.account_core.specs.declared.fault.AccountFault.{AccountFault}
use Rattle.account_core.specs.declared.fault.AccountFault.TheVariants as fault
use Rattle.run_outputs.specs.declared.refusals.Refusals.{Refusals}
use Rattle.run_values.specs.declared.post.Answer.{Answer}

-- the place of a fault in the order in which an account judges them
abbrev pub rank_of : AccountFault → ℕ
rank_of fault.GateClosed = 0
rank_of fault.OutOfRange = 1
rank_of fault.NotOpen = 2
rank_of fault.CallUsed = 3
rank_of fault.HistoryFull = 4
rank_of fault.OutOfMemory = 5

-- whether a refusal is by this fault
abbrev pub is_by : AccountFault → Option AccountFault → Bool
is_by why None = false
is_by why (Some other) = rank_of why == rank_of other

-- how many answers say that an account refused by this fault
abbrev pub how_many : AccountFault → List Answer → ℕ
how_many why answers = length (filter (λ answer. is_by why answer.refused) answers)

-- a count, which stops at the greatest number of 64 bits
abbrev pub refusals_counted : ℕ → ℕ
refusals_counted count = min count (2 ^ 64 - 1)

-- the refusals of these answers
abbrev pub refusals_counted_in : List Answer → Refusals
refusals_counted_in answers = record {
  gate_closed = refusals_counted (how_many fault.GateClosed answers);
  out_of_range = refusals_counted (how_many fault.OutOfRange answers);
  not_open = refusals_counted (how_many fault.NotOpen answers);
  call_used = refusals_counted (how_many fault.CallUsed answers);
  history_full = refusals_counted (how_many fault.HistoryFull answers);
  out_of_memory = refusals_counted (how_many fault.OutOfMemory answers);
}

-- no refusal
abbrev pub none_refused : Refusals
none_refused = record { gate_closed = 0; out_of_range = 0; not_open = 0; call_used = 0; history_full = 0; out_of_memory = 0 }

-- one refusal more, by this fault
abbrev pub one_refusal_more : Refusals → AccountFault → Refusals
one_refusal_more refusals fault.GateClosed = record refusals { gate_closed = refusals_counted (refusals.gate_closed + 1) }
one_refusal_more refusals fault.OutOfRange = record refusals { out_of_range = refusals_counted (refusals.out_of_range + 1) }
one_refusal_more refusals fault.NotOpen = record refusals { not_open = refusals_counted (refusals.not_open + 1) }
one_refusal_more refusals fault.CallUsed = record refusals { call_used = refusals_counted (refusals.call_used + 1) }
one_refusal_more refusals fault.HistoryFull = record refusals { history_full = refusals_counted (refusals.history_full + 1) }
one_refusal_more refusals fault.OutOfMemory = record refusals { out_of_memory = refusals_counted (refusals.out_of_memory + 1) }

-- as many refusals as these two are together
abbrev pub with_refusals : Refusals → Refusals → Refusals
with_refusals one other = record {
  gate_closed = refusals_counted (one.gate_closed + other.gate_closed);
  out_of_range = refusals_counted (one.out_of_range + other.out_of_range);
  not_open = refusals_counted (one.not_open + other.not_open);
  call_used = refusals_counted (one.call_used + other.call_used);
  history_full = refusals_counted (one.history_full + other.history_full);
  out_of_memory = refusals_counted (one.out_of_memory + other.out_of_memory);
}

-- as many as all of these are
abbrev pub added_up : List Refusals → Refusals
added_up all = record {
  gate_closed = refusals_counted (sum_by (λ one. one.gate_closed) all);
  out_of_range = refusals_counted (sum_by (λ one. one.out_of_range) all);
  not_open = refusals_counted (sum_by (λ one. one.not_open) all);
  call_used = refusals_counted (sum_by (λ one. one.call_used) all);
  history_full = refusals_counted (sum_by (λ one. one.history_full) all);
  out_of_memory = refusals_counted (sum_by (λ one. one.out_of_memory) all);
}
