-- Processes stay the numbers below n, in events, in the order and in the schedule.
use Rattle.std.proofs.Common.{ℕ, ◌+◌, ◌<◌, true, false, List, length, cond, int_eq, arith}
use Rattle.std.specs.Prelude.{ℤ, Option, Some, None, nat_lt, not, slice_index}
use Rattle.std.specs.List.{All, range_with_len, filter}
use Rattle.std.proofs.lemmas.List.Elements.{All-append, All-filter, All-map, All-push}
use Rattle.std.proofs.lemmas.List.FromFn.{length-range_with_len, get_or-range_with_len}
use Rattle.ll_cell.specs.Cell.{Cell, is_linked, block_of}
use Rattle.ob_interface.specs.Call.{ObjectCall, Reply}
use Rattle.wf_history.specs.History.{Event, Begin, Applied, End}
use Rattle.wf_table.specs.declared.process.Label.{Label}
use Rattle.wf_table.specs.declared.process.Label.TheVariants.{Next, Commit, Give}
use Rattle.wf_table.specs.declared.process.Sizes.{Sizes}
use Rattle.wf_table.specs.Meaning.{Meaning}
use Rattle.wf_table.specs.StepTable.{Process, call_at, own_block, toggle_in}
use Rattle.wf_table.specs.Object.{Records, noted, event_at, applied_ids, begun_of}
use Rattle.wf_table.specs.Below.{IdBelow, EventBelow, IsBelow}
use Rattle.wf_table.proofs.Counted.{turns_below}

-- an event, where there is one
abbrev pub SeenBelow : ℕ → Option (Event ObjectCall Reply) → Type 0
SeenBelow n None = Unit {0}
SeenBelow n (Some event) = EventBelow n event

numbers_below : (n : ℕ) → All (λ (q : ℕ). q < n) (range_with_len 0 n)
numbers_below n k d lt = let within : k < n = omega (arith, lt, length-range_with_len 0 n) in omega (arith, get_or-range_with_len 0 n k d within, within)

ids_below : (z : Sizes) (old new : List ℤ) (begun : List ℕ) → All (IdBelow z.processes) (applied_ids z old new begun)
ids_below z old new begun =
    All-map (IdBelow z.processes) (λ (q : ℕ). record { process = q; number = slice_index begun q }) (filter (λ (q : ℕ). not (int_eq (toggle_in z old q) (toggle_in z new q))) (range_with_len 0 z.processes))
    (All-filter (λ (q : ℕ). not (int_eq (toggle_in z old q) (toggle_in z new q))) (λ (q : ℕ). q < z.processes) (range_with_len 0 z.processes) (numbers_below z.processes))

pub seen_below : {Run : Type 0} (l : Label) (m : Meaning Run) (z : Sizes) (c : Cell) (ps : List (Process Run)) (p : ℕ) (q : Process Run) → p < z.processes → SeenBelow z.processes (event_at l m z c ps p q)
seen_below Next m z c ps p q lt = elim (nat_lt q.begun (length q.calls)) as (λ b. SeenBelow z.processes (cond b (Some (Begin (record { process = p; number = q.begun + 1 }) (call_at q q.begun))) None)) [ true ↦ lt | false ↦ tt ]
seen_below Commit m z c ps p q lt = elim (is_linked c p) as (λ b. SeenBelow z.processes (cond b (Some (Applied (applied_ids z (block_of c c.root) (own_block c p) (begun_of ps)))) None)) [ true ↦ ids_below z (block_of c c.root) (own_block c p) (begun_of ps) | false ↦ tt ]
seen_below Give m z c ps p q lt = lt
seen_below l m z c ps p q lt = tt

pub keeps_below : (n p : ℕ) (l : Label) (block : ℕ) (event : Option (Event ObjectCall Reply)) (r : Records) → p < n → SeenBelow n event → IsBelow n r → IsBelow n (noted r p l block event)
keeps_below n p l block None r lt seen h = record { history = h.history; order = h.order; schedule = turns_below n r.schedule p lt h.schedule }
keeps_below n p l block (Some (Begin id call)) r lt seen h = record { history = All-push (EventBelow n) r.history (Begin id call) h.history seen; order = h.order; schedule = turns_below n r.schedule p lt h.schedule }
keeps_below n p l block (Some (Applied ids)) r lt seen h = record { history = All-push (EventBelow n) r.history (Applied ids) h.history seen; order = All-append (IdBelow n) r.order ids h.order seen; schedule = turns_below n r.schedule p lt h.schedule }
keeps_below n p l block (Some (End id reply)) r lt seen h = record { history = All-push (EventBelow n) r.history (End id reply) h.history seen; order = h.order; schedule = turns_below n r.schedule p lt h.schedule }
