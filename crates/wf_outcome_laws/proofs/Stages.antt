-- Between the calls of a merge: where the processes stand, and what one more call that its process makes alone leaves of that.
use Rattle.std.proofs.Common.{◌≡◌, ℕ, suc, ◌+◌, ◌*◌, ◌<◌, ◌≤◌, true, List, [], ◌∷◌, ◌++◌, length, get_or, replicate, refl, sym, ap, ◌∙◌, arith, subst, inl, inr, length-set, get_or-set_same, get_or-set_other}
use Rattle.std.specs.Prelude.{ℤ, Some, slice_get, Contains, take}
use Rattle.std.proofs.Math.Logic.{∥∥₁_elim}
use Rattle.std.proofs.lemmas.Bool.{cases_eq}
use Rattle.std.proofs.lemmas.Bool.Decides.{nat_tests}
use Rattle.std.proofs.lemmas.List.Elements.{Contains-append_left, Contains-append_right}
use Rattle.std.proofs.lemmas.Option.{same_Some, slice_get_within, get_or_from_slice_get}
use Rattle.ll_cell.specs.Cell.{block_of}
use Rattle.ob_interface.specs.Call.{ObjectCall, Reply}
use Rattle.ob_text_words.specs.declared.item.Item.TheVariants as Items
use Rattle.wf_history.specs.declared.event.CallId.{CallId}
use Rattle.wf_history.specs.History.{Begin, Applied, End}
use Rattle.wf_history.specs.Legal.{HasBegun}
use Rattle.wf_history.proofs.Positions.{same_call}
use Rattle.wf_outcomes.specs.Merges.{Configuration, IsStep}
use Rattle.wf_table.specs.declared.process.Label.TheVariants.{Next}
use Rattle.wf_table.specs.Law.{Effects}
use Rattle.wf_table.specs.Meaning.{Meaning}
use Rattle.wf_table.specs.Object.{State, script_of}
use Rattle.wf_table.specs.Runs.{Act, IsRun, turns}
use Rattle.wf_table.specs.Start.{sizes_of}
use Rattle.wf_table.specs.StepTable.{Process}
use Rattle.wf_table.specs.Bound.{bound}
use Rattle.wf_table.specs.Ends.{AllEndWithin}
use Rattle.wf_table.specs.Spent.{has_more}
use Rattle.wf_object.specs.InARow.{after_steps}
use Rattle.wf_play.specs.ItemSteps.{StandsFor}
use Rattle.wf_outcome_laws.proofs.Blocks.{comes_to_end}
use Rattle.wf_outcome_laws.proofs.Items.{item_stands}
use Rattle.wf_outcome_laws.proofs.EveryRun.{Laws}
use Rattle.wf_outcome_laws.proofs.Lists.{is_first}
use Rattle.wf_outcome_laws.proofs.Opened.{Closed, next_call, next_id}
use Rattle.wf_outcome_laws.proofs.Ordered.{begun_before, call_more, made_in}
use Rattle.wf_outcome_laws.proofs.Showing.{EndShape}
use Rattle.wf_outcome_laws.proofs.Spending.{run_more, steps_script}

module _ {Run : Type 0} (m : Meaning Run) (lawful : List ℤ → Type 0) (fits : ObjectCall → Type 0) (ready : Run → Type 0) (Effect : Effects) (n limit : ℕ) (opening : List ℤ) (scripts : List (List ObjectCall)) where
  -- a process stands between two calls, and has made so many as the configuration says
  pub record Rests (c : Configuration (List ℤ)) (p : ℕ) (q : Process Run) : Type 0 where
    pub label : q.label ≡ Next
    pub begun : q.begun ≡ get_or c.counts p 0
    pub calls : q.calls ≡ get_or scripts p []

  -- all do, and each call that has begun is in the order
  pub record Stage (c : Configuration (List ℤ)) (s : State Run) : Type 0 where
    pub there : (p : ℕ) → p < length c.counts → (q : Process Run) × (slice_get s.processes p ≡ Some q)
    pub rests : (p : ℕ) (q : Process Run) → slice_get s.processes p ≡ Some q → Rests c p q
    pub known : (id : CallId) (call : ObjectCall) → HasBegun s.records.history id call → Contains s.records.order id × (id.number ≤ get_or c.counts id.process 0)
    pub ends : AllEndWithin m Effect (script_of s) opening limit

  -- one more call was made alone
  pub record MadeAlone (d : Configuration (List ℤ)) (id : CallId) (call : ObjectCall) (acts : List Act) (s : State Run) : Type 0 where
    pub count : ℕ
    pub stands : StandsFor m (sizes_of m n) (Items.ToAnswer id.process) count s
    pub few : count ≤ bound (sizes_of m n) + 2 * n * limit
    pub run : IsRun m lawful fits ready n opening (acts ++ turns (replicate count id.process)) (after_steps m (sizes_of m n) id.process count s)
    pub stage : Stage d (after_steps m (sizes_of m n) id.process count s)
    pub reply : Reply
    pub history : (after_steps m (sizes_of m n) id.process count s).records.history ≡ s.records.history ++ Begin id call ∷ Applied (id ∷ []) ∷ End id reply ∷ []
    pub order : (after_steps m (sizes_of m n) id.process count s).records.order ≡ s.records.order ++ id ∷ []

  module _ (c d : Configuration (List ℤ)) (id : CallId) (reply : Reply) (step : IsStep Effect scripts c id reply d) where
    made_own : get_or d.counts id.process 0 ≡ id.number
    made_own = ap (λ (l : List ℕ). get_or l id.process 0) step.counts ∙ get_or-set_same c.counts id.process id.number 0 step.process

    made_other : (p : ℕ) → (p ≡ id.process → ⊥) → get_or d.counts p 0 ≡ get_or c.counts p 0
    made_other p other = ap (λ (l : List ℕ). get_or l p 0) step.counts ∙ get_or-set_other c.counts id.process p id.number 0 other

    made_more : (p : ℕ) → get_or c.counts p 0 ≤ get_or d.counts p 0
    made_more p = elim (cases_eq p id.process) [
      | inl own ↦ (let number = step.number in let now = made_own in subst (λ (k : ℕ). get_or c.counts k 0 ≤ get_or d.counts k 0) (sym own) (omega (arith, now, number)))
      | inr other ↦ (let same = made_other p other in omega (arith, same))
    ]

    as_many : length d.counts ≡ length c.counts
    as_many = ap (λ (l : List ℕ). length l) step.counts ∙ length-set c.counts id.process id.number

    module _ (laws : Laws m lawful fits ready Effect) (acts : List Act) (s : State Run) (r : IsRun m lawful fits ready n opening acts s) (g : Stage c s) where
      -- the call is not yet in the order
      still_new : ¬ Contains s.records.order id
      still_new h =
          ∥∥₁_elim (laws.legal n opening acts s r) (λ a b. absurd a)
          (λ l. let found = made_in (HasBegun s.records.history) Effect opening (take m.variables (block_of s.cell s.cell.root)) s.records.order l.replies id l.made h in
          let few = (g.known id found.0 found.1).1 in
          let number = step.number in
          omega (arith, few, number))

      module _ (first : Process Run) (at : slice_get s.processes id.process ≡ Some first) (t : State Run) (closed : Closed m (sizes_of m n) id.process s first t) (one : first.begun + 1 ≡ id.number) (calls : first.calls ≡ get_or scripts id.process [])
          (seen : t.records.history ≡ s.records.history ++ Begin id step.call ∷ Applied (id ∷ []) ∷ End id closed.reply ∷ []) (order : t.records.order ≡ s.records.order ++ id ∷ []) where
        there_on : (p : ℕ) → p < length d.counts → (q : Process Run) × (slice_get t.processes p ≡ Some q)
        there_on p less = elim (cases_eq p id.process) [
          | inl own ↦ (closed.process, ap (slice_get t.processes) own ∙ closed.at)
          | inr other ↦ (let old = g.there p (omega (arith, less, as_many)) in (old.0, closed.others p other ∙ old.1))
        ]

        rests_on : (p : ℕ) (q : Process Run) → slice_get t.processes p ≡ Some q → Rests d p q
        rests_on p q here = elim (cases_eq p id.process) [
          | inl own ↦ (let same : q ≡ closed.process = same_Some q closed.process (sym here ∙ ap (slice_get t.processes) own ∙ closed.at) in
              record {
                label = ap (λ (x : Process Run). x.label) same ∙ closed.label;
                begun = ap (λ (x : Process Run). x.begun) same ∙ closed.begun ∙ one ∙ sym made_own ∙ ap (λ (k : ℕ). get_or d.counts k 0) (sym own);
                calls = ap (λ (x : Process Run). x.calls) same ∙ closed.calls ∙ calls ∙ ap (λ (k : ℕ). get_or scripts k []) (sym own);
              })
          | inr other ↦ (let old = g.rests p q (sym (closed.others p other) ∙ here) in record { label = old.label; begun = old.begun ∙ sym (made_other p other); calls = old.calls })
        ]

        known_on : (x : CallId) (call : ObjectCall) → HasBegun t.records.history x call → Contains t.records.order x × (x.number ≤ get_or d.counts x.process 0)
        known_on x call h =
            elim (begun_before id step.call closed.reply s.records.history t.records.history seen x call h) [
              | inl earlier ↦ (let old = g.known x call earlier in
                  let few = old.1 in
                  let grows = made_more x.process in
                  (subst (λ (xs : List CallId). Contains xs x) (sym order) (Contains-append_left s.records.order (id ∷ []) x old.0), omega (arith, few, grows)))
              | inr it ↦ subst (λ (i : CallId). Contains t.records.order i × (i.number ≤ get_or d.counts i.process 0)) it
                  (let now = made_own in
                  (subst (λ (xs : List CallId). Contains xs id) (sym order) (Contains-append_right s.records.order (id ∷ []) id (is_first id [])), omega (arith, now)))
            ]

      pub makes_one : MadeAlone d id step.call acts s
      makes_one =
          let z = sizes_of m n in
          let p = id.process in
          let found = g.there p step.process in
          let first = found.0 in
          let at = found.1 in
          let rest = g.rests p first at in
          let listed : slice_get first.calls first.begun ≡ Some step.call = ap (λ (cs : List ObjectCall). slice_get cs first.begun) rest.calls ∙ ap (slice_get (get_or scripts p [])) rest.begun ∙ step.listed in
          let less = slice_get_within first.calls first.begun step.call listed in
          let more : has_more first ≡ true = grind (arith, nat_tests, less) in
          let one : first.begun + 1 ≡ id.number = ap (λ (k : ℕ). k + 1) rest.begun ∙ sym step.number in
          let id_is : next_id m z p s first ≡ id = same_call (next_id m z p s first) id refl one in
          let call_is : next_call m z p s first ≡ step.call = get_or_from_slice_get first.calls first.begun step.call (record { export = 0; arguments = [] }) listed in
          let end = comes_to_end m lawful fits ready Effect n limit opening acts s p first at rest.label more laws.limited laws.below r g.ends in
          let count = suc end.0 in
          let t = after_steps m z p count s in
          let closed : Closed m z p s first t = end.2 in
          let longer : IsRun m lawful fits ready n opening (acts ++ turns (replicate count p)) t = run_more m lawful fits ready n opening acts s p count r in
          let shape : EndShape s.records.history (Begin id step.call) (End id closed.reply) t.records.history =
          subst (λ (x : ObjectCall). EndShape s.records.history (Begin id x) (End id closed.reply) t.records.history) call_is
          (subst (λ (i : CallId). EndShape s.records.history (Begin i (next_call m z p s first)) (End i closed.reply) t.records.history) id_is closed.shape) in
          let both = call_more Effect opening (take m.variables (block_of t.cell t.cell.root)) s.records.history t.records.history s.records.order t.records.order id step.call closed.reply
          (λ x call h. (g.known x call h).0) still_new (laws.sound n opening acts s r).marks.order (laws.sound n opening (acts ++ turns (replicate count p)) t longer).marks.order (laws.legal n opening (acts ++ turns (replicate count p)) t longer) shape in
          record {
            count = count;
            stands = item_stands m lawful fits ready Effect n limit opening acts s p first at rest.label more end.0 end.1;
            few = end.3;
            run = longer;
            stage = record {
              there = there_on first at t closed one rest.calls both.0 both.1;
              rests = rests_on first at t closed one rest.calls both.0 both.1;
              known = known_on first at t closed one rest.calls both.0 both.1;
              ends = subst (λ (f : ℕ → List ObjectCall). AllEndWithin m Effect f opening limit) (λ i x. sym (steps_script m z p count s x) i) g.ends;
            };
            reply = closed.reply;
            history = both.0;
            order = both.1;
          }
