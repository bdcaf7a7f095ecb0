-- Own calls: the calls that a process has begun are the first ones of its script.
use Rattle.std.proofs.Common.{◌≡◌, ◌≢◌, ℕ, ◌+◌, ◌<◌, Bool, true, false, List, [], ◌∷◌, ◌++◌, length, take, refl, sym, ap, ◌∙◌, arith, cond}
use Rattle.std.specs.Prelude.{Option, Some, None, nat_lt}
use Rattle.std.proofs.lemmas.Bool.{eq-eqb}
use Rattle.std.proofs.lemmas.Bool.Decides.{nat_tests}
use Rattle.std.proofs.lemmas.List.{append-nil, take_more}
use Rattle.ll_cell.specs.Cell.{Cell, is_linked, block_of}
use Rattle.ob_interface.specs.Call.{ObjectCall, Reply}
use Rattle.wf_history.specs.History.{Event, Begin, Applied, End, own_call, own_calls}
use Rattle.wf_history.proofs.Turns.{own_calls-push}
use Rattle.wf_table.specs.declared.process.Label.{Label}
use Rattle.wf_table.specs.declared.process.Label.TheVariants.{Next, Post, Try, Commit, Read, Give}
use Rattle.wf_table.specs.declared.process.Sizes.{Sizes}
use Rattle.wf_table.specs.Meaning.{Meaning}
use Rattle.wf_table.specs.StepTable.{Process, row, call_at, open_call, own_block, to}
use Rattle.wf_table.specs.Object.{event_at, history_after, applied_ids, begun_of}
use Rattle.wf_table.specs.Scripts.{BeginsScript}
use Rattle.wf_table.proofs.KeepsTurns.{IsOwn, AllOwn}
use Rattle.wf_table.proofs.Moves.{same_begun, same_calls}

abbrev Events : Type 0
Events = List (Event ObjectCall Reply)

other_call : (p k : ℕ) (event : Event ObjectCall Reply) → k ≢ p → IsOwn p event → own_call k event ≡ []
other_call p k (Begin id call) d own = grind (arith, nat_tests, own, d)
other_call p k (Applied ids) d own = refl
other_call p k (End id reply) d own = refl

pub others_begin : {Run : Type 0} (history : Events) (p k : ℕ) (event : Option (Event ObjectCall Reply)) (o : Process Run) → k ≢ p → AllOwn p event → BeginsScript history k o → BeginsScript (history_after history event) k o
others_begin history p k None o d own h = h
others_begin history p k (Some event) o d own h = record { calls = own_calls-push k history event ∙ ap (λ (cs : List ObjectCall). own_calls k history ++ cs) (other_call p k event d own) ∙ append-nil (own_calls k history) ∙ h.calls }

own_begin : (p n : ℕ) (call : ObjectCall) → own_call {Reply = Reply} p (Begin (record { process = p; number = n }) call) ≡ call ∷ []
own_begin p n call = let same = eq-eqb p p refl in rw same refl

module _ {Run : Type 0} where
  -- an event that begins no call, and the process's calls stay
  calls_stay : (history : Events) (p : ℕ) (event : Event ObjectCall Reply) (q after : Process Run) → own_call p event ≡ [] → after.begun ≡ q.begun → after.calls ≡ q.calls → BeginsScript history p q → BeginsScript (history ++ event ∷ []) p after
  calls_stay history p event q after none begun calls h =
      record { calls = own_calls-push p history event ∙ ap (λ (cs : List ObjectCall). own_calls p history ++ cs) none ∙ append-nil (own_calls p history) ∙ h.calls ∙ ap (λ (k : ℕ). take k q.calls) (sym begun) ∙ ap (take after.begun) (sym calls) }

  abbrev begins : ℕ → Process Run → Event ObjectCall Reply
  begins p q = Begin (record { process = p; number = q.begun + 1 }) (call_at q q.begun)

  begins_next : (m : Meaning Run) (p : ℕ) (q : Process Run) (history : Events) (b : Bool) → nat_lt q.begun (length q.calls) ≡ b → BeginsScript history p q → BeginsScript (history_after history (cond b (Some (begins p q)) None)) p (cond b (record q { label = Post; begun = q.begun + 1; registers = record q.registers { i = 0 }; list = m.lay (call_at q q.begun) }) q)
  begins_next m p q history true e h =
      let left : q.begun < length q.calls = grind (arith, nat_tests, e) in
      record { calls = own_calls-push p history (begins p q) ∙ ap (λ (cs : List ObjectCall). own_calls p history ++ cs) (own_begin p (q.begun + 1) (call_at q q.begun)) ∙ ap (λ (cs : List ObjectCall). cs ++ call_at q q.begun ∷ []) h.calls ∙ sym (take_more q.calls q.begun (record { export = 0; arguments = [] }) left) }
  begins_next m p q history false e h = h

  pub own_scripts : (l : Label) (m : Meaning Run) (z : Sizes) (c : Cell) (ps : List (Process Run)) (p : ℕ) (q : Process Run) (history : Events) → BeginsScript history p q → BeginsScript (history_after history (event_at l m z c ps p q)) p (row l m z c p q).process
  own_scripts Next m z c ps p q history h = begins_next m p q history (nat_lt q.begun (length q.calls)) refl h
  own_scripts Commit m z c ps p q history h =
      let event = Applied (applied_ids z (block_of c c.root) (own_block c p) (begun_of ps)) in
      elim (is_linked c p) as (λ b. BeginsScript (history_after history (cond b (Some event) None)) p (cond b (to Read q) (to Try q))) [
        | true ↦ calls_stay history p event q (to Read q) refl refl refl h
        | false ↦ record { calls = h.calls }
      ]
  own_scripts Give m z c ps p q history h = calls_stay history p (End (record { process = p; number = q.begun }) (m.reply (open_call q) q.replies)) q (to Next q) refl refl refl h
  own_scripts l m z c ps p q history h = record { calls = h.calls ∙ ap (λ (k : ℕ). take k q.calls) (sym (same_begun l m z c p q refl)) ∙ ap (take (row l m z c p q).process.begun) (sym (same_calls l m z c p q)) }
