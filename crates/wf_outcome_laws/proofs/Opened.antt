-- Steps of one process that make its next call: where it stands meanwhile, and behind them.
use Rattle.std.proofs.Common.{◌≡◌, ◌≢◌, ℕ, ◌+◌, Bool, true, false, cond, [], ◌∷◌, ◌++◌, set, refl, sym, ap, ◌∙◌, subst, inl}
use Rattle.std.specs.Prelude.{Option, Some, None, slice_get}
use Rattle.ll_cell.specs.Cell.{own_of}
use Rattle.ob_interface.specs.Call.{ObjectCall, Reply}
use Rattle.wf_history.specs.declared.event.CallId.{CallId}
use Rattle.wf_history.specs.History.{Begin, End}
use Rattle.wf_table.specs.declared.process.Label.{Label}
use Rattle.wf_table.specs.declared.process.Label.TheVariants.{Next, Post, Give}
use Rattle.wf_table.specs.declared.process.Sizes.{Sizes}
use Rattle.wf_table.specs.Labels.{at_next}
use Rattle.wf_table.specs.Meaning.{Meaning}
use Rattle.wf_table.specs.Object.{State, event_at, noted, step_by, step_of}
use Rattle.wf_table.specs.StepTable.{Process, call_at, cell_after, open_call, row}
use Rattle.wf_table.proofs.Moves.{same_begun, same_calls}
use Rattle.wf_table.specs.Spent.{has_more}
use Rattle.wf_table.proofs.BoundPlaces.{put_at}
use Rattle.wf_outcome_laws.proofs.Lists.{set_other}
use Rattle.wf_outcome_laws.proofs.Showing.{EndShape, Shape, shape_ends, shape_on, still_open}

not_next : (l : Label) → at_next l ≡ false → l ≢ Next
not_next l out e = let t = ap at_next e in absurd (cc)

module _ {Run : Type 0} (m : Meaning Run) (z : Sizes) where
  -- the state behind a step of a process, by the row of a label
  abbrev by_row : Label → State Run → ℕ → Process Run → State Run
  by_row l s p q = record {
    cell = cell_after s.cell p (row l m z s.cell p q).change;
    processes = set s.processes p (row l m z s.cell p q).process;
    records = noted s.records p l (own_of s.cell p) (event_at l m z s.cell s.processes p q);
  }

  -- behind a step at NEXT, where a call is left or not
  abbrev by_next : Bool → State Run → ℕ → Process Run → State Run
  by_next b s p q = record {
    cell = s.cell;
    processes = set s.processes p (cond b (record q { label = Post; begun = q.begun + 1; registers = record q.registers { i = 0 }; list = m.lay (call_at q q.begun) }) q);
    records = noted s.records p Next (own_of s.cell p) (cond b (Some (Begin (record { process = p; number = q.begun + 1 }) (call_at q q.begun))) None);
  }

  module _ (p : ℕ) (s : State Run) (first : Process Run) where
    -- the call that the process makes next
    abbrev pub next_id : CallId
    next_id = record { process = p; number = first.begun + 1 }

    abbrev pub next_call : ObjectCall
    next_call = call_at first first.begun

    -- it has begun, and has not ended
    pub record Opened (t : State Run) : Type 0 where
      pub process : Process Run
      pub at : slice_get t.processes p ≡ Some process
      pub is_open : at_next process.label ≡ false
      pub begun : process.begun ≡ first.begun + 1
      pub calls : process.calls ≡ first.calls
      pub others : (k : ℕ) → k ≢ p → slice_get t.processes k ≡ slice_get s.processes k
      pub shape : Shape s.records.history (Begin next_id next_call) process.label t.records.history

    -- it has ended
    pub record Closed (t : State Run) : Type 0 where
      pub process : Process Run
      pub at : slice_get t.processes p ≡ Some process
      pub label : process.label ≡ Next
      pub begun : process.begun ≡ first.begun + 1
      pub calls : process.calls ≡ first.calls
      pub others : (k : ℕ) → k ≢ p → slice_get t.processes k ≡ slice_get s.processes k
      pub reply : Reply
      pub shape : EndShape s.records.history (Begin next_id next_call) (End next_id reply) t.records.history

    pub opens : slice_get s.processes p ≡ Some first → first.label ≡ Next → has_more first ≡ true → Opened (step_of m z s p)
    opens at is more =
        let begun : Process Run = record first { label = Post; begun = first.begun + 1; registers = record first.registers { i = 0 }; list = m.lay next_call } in
        let there : Opened (by_next true s p first) = record {
          process = begun;
          at = put_at s.processes p begun first at;
          is_open = refl;
          begun = refl;
          calls = refl;
          others = λ k apart. set_other s.processes p k begun apart;
          shape = inl refl;
        } in
        let by_more : Opened (by_row Next s p first) = subst (λ b. Opened (by_next b s p first)) (sym more) there in
        subst (λ (o : Option (Process Run)). Opened (step_by m z s p o)) (sym at) (subst (λ (l : Label). Opened (by_row l s p first)) (sym is) by_more)

    pub stays_open : (t : State Run) (o : Opened t) → o.process.label ≢ Give → Opened (step_of m z t p)
    stays_open t o going =
        let q = o.process in
        let after = (row q.label m z t.cell p q).process in
        let out = not_next q.label o.is_open in
        let there : Opened (by_row q.label t p q) = record {
          process = after;
          at = put_at t.processes p after q o.at;
          is_open = still_open q.label m z t.cell p q out going refl;
          begun = same_begun q.label m z t.cell p q o.is_open ∙ o.begun;
          calls = same_calls q.label m z t.cell p q ∙ o.calls;
          others = λ k apart. set_other t.processes p k after apart ∙ o.others k apart;
          shape = shape_on s.records.history (Begin next_id next_call) q.label m z t.cell t.processes p q t.records.history out going refl o.shape;
        } in
        subst (λ (x : Option (Process Run)). Opened (step_by m z t p x)) (sym o.at) there

    pub closes : (t : State Run) (o : Opened t) → o.process.label ≡ Give → Closed (step_of m z t p)
    closes t o gives =
        let q = o.process in
        let after : Process Run = record q { label = Next } in
        let reply = m.reply (open_call q) q.replies in
        let there : Closed (by_row Give t p q) = record {
          process = after;
          at = put_at t.processes p after q o.at;
          label = refl;
          begun = o.begun;
          calls = o.calls;
          others = λ k apart. set_other t.processes p k after apart ∙ o.others k apart;
          reply = reply;
          shape = subst (λ (number : ℕ). EndShape s.records.history (Begin next_id next_call) (End next_id reply) (t.records.history ++ End (record { process = p; number = number }) reply ∷ [])) (sym o.begun)
              (shape_ends s.records.history (Begin next_id next_call) (End next_id reply) q.label t.records.history o.shape);
        } in
        subst (λ (x : Option (Process Run)). Closed (step_by m z t p x)) (sym o.at) (subst (λ (l : Label). Closed (by_row l t p q)) (sym gives) there)
