-- Every run keeps what stands: from the start, over steps and submissions. While a process does not flip, the root keeps its reply.
use Rattle.std.proofs.Common.{◌≡◌, ℕ, ◌≤◌, Bool, List, [], ◌∷◌, ◌++◌, length, set, take, refl, sym, ap, ◌∙◌, arith, inl, inr, subst}
use Rattle.std.specs.Prelude.{ℤ, Option, Some, None, slice_get}
use Rattle.std.specs.List.{Contains}
use Rattle.std.proofs.lemmas.Bool.{cases_eq}
use Rattle.std.proofs.lemmas.List.{length-take-le}
use Rattle.std.proofs.lemmas.Option.{slice_get_within}
use Rattle.ll_cell.specs.Cell.{Cell, own_of, is_linked}
use Rattle.ob_interface.specs.Call.{ObjectCall}
use Rattle.wf_history.specs.declared.event.CallId.{CallId}
use Rattle.wf_table.specs.declared.process.Label.{Label}
use Rattle.wf_table.specs.declared.process.Sizes.{Sizes}
use Rattle.wf_table.specs.Meaning.{Meaning}
use Rattle.wf_table.specs.Law.{Effects, IsLawful}
use Rattle.wf_table.specs.StepTable.{Process, own_block, body_turn}
use Rattle.wf_table.specs.Object.{State, Records, step_by, submit_by}
use Rattle.wf_table.specs.Runs.{Act, Steps, Submits, ActsFit, act_of, run, IsRun}
use Rattle.wf_table.specs.Each.{Each}
use Rattle.wf_table.specs.Labels.{copying, taking}
use Rattle.wf_table.specs.Sound.{IsSound}
use Rattle.wf_table.specs.Start.{IsIdle, sizes_of, records_at_start}
use Rattle.wf_table.proofs.Frame.{each_after}
use Rattle.wf_table.proofs.TableRuns.{run_sound}
use Rattle.wf_table.specs.Helping.{has_copied}
use Rattle.wf_table.specs.HelpAndOrder.{phase, flips_at, announced_call, IsFounded, IsCommitted}
use Rattle.wf_table.proofs.HelpAndOrderRuns.{founded, act_committed, run_committed}
use Rattle.wf_table.proofs.HelpAndOrderSteps.{flips_other, flips_own, flips_is}
use Rattle.wf_table.specs.Stands.{since, Stands, word_in, Carries, AllCarry, IsStanding}
use Rattle.wf_table.proofs.Since.{in_order}
use Rattle.wf_table.proofs.Carried.{rests, others_carry}
use Rattle.wf_table.proofs.Keeps.{keeps_standing}

module _ {Run : Type 0} where
  -- an object that begins
  pub start_standing : (ready : Run → Type 0) (z : Sizes) (c : Cell) (ps : List (Process Run)) → Each (λ _ q. IsIdle ready z q) ps → IsFounded z c ps (records_at_start z.processes) → IsStanding z c ps (records_at_start z.processes)
  start_standing ready z c ps idle base =
      let r = records_at_start z.processes in
      record {
        replies = record { stands = λ b k i inside lt place s. absurd (omega (arith, (in_order z c.root r base.marks b (announced_call ps k) s).1)) };
        carried = λ k o e. rests z (Stands ps r) (word_in c) c.root (own_of c k) k (is_linked c k) o (ap copying (idle k o e).label) (ap taking (idle k o e).label) (ap (λ (l : Label). has_copied (phase l)) (idle k o e).label);
      }

  longer : (z : Sizes) (S : ℕ → ℕ → Type 0) (w : ℕ → ℕ → ℤ) (root own p : ℕ) (linked : Bool) (q : Process Run) (calls : List ObjectCall) → Carries z S w root own p linked q → Carries z S w root own p linked (record q { calls = calls })
  longer z S w root own p linked q calls h = record { source = h.source; carried = h.carried; unwritten = h.unwritten; copied = h.copied; source_stands = h.source_stands; taken = h.taken }

  -- one more call at the end of a script
  pub submit_standing : (z : Sizes) (s : State Run) (p : ℕ) (q : Process Run) (call : ObjectCall) → slice_get s.processes p ≡ Some q → IsStanding z s.cell s.processes s.records → IsStanding z s.cell (set s.processes p (record q { calls = q.calls ++ call ∷ [] })) s.records
  submit_standing z s p q call at h =
      let c = s.cell in
      let ps = s.processes in
      let r = s.records in
      let next : Process Run = record q { calls = q.calls ++ call ∷ [] } in
      let ps' = set ps p next in
      let same_flips : (k : ℕ) → flips_at ps' k ≡ flips_at ps k = λ k. elim (cases_eq k p) [
        | inl e ↦ subst (λ (n : ℕ). flips_at ps' n ≡ flips_at ps n) (sym e) (flips_own ps p next (slice_get_within ps p q at) ∙ sym (flips_is ps p q at))
        | inr d ↦ flips_other ps p k next d
      ] in
      let id : (k : ℕ) → announced_call ps' k ≡ announced_call ps k = λ k. ap (λ (n : ℕ). record { process = k; number = n }) (same_flips k) in
      let down : (k b : ℕ) → Stands ps' r k b → Stands ps r k b = λ k b. subst (λ (i : CallId). Contains (since r b) i) (id k) in
      let up : (k b : ℕ) → Stands ps r k b → Stands ps' r k b = λ k b. subst (λ (i : CallId). Contains (since r b) i) (sym (id k)) in
      let keeps : (k : ℕ) (o : Process Run) → AllCarry z c ps r k o → AllCarry z c ps' r k o = λ k o old. others_carry z (Stands ps r) (Stands ps' r) (word_in c) (word_in c) c.root (own_of c k) k o (is_linked c k) down (λ a b x _ s. up a x s) (up k) (λ i. refl) (λ i. refl) old in
      record {
        replies = record { stands = λ b k i inside lt place s. h.replies.stands b k i inside lt place (down k b s) };
        carried = each_after (AllCarry z c ps r) (AllCarry z c ps' r) ps p next h.carried
            (longer z (Stands ps' r) (word_in c) c.root (own_of c p) p (is_linked c p) q (q.calls ++ call ∷ []) (keeps p q (h.carried p q at)))
            (λ k o d old. keeps k o old);
      }

-- what stands in a state
abbrev pub AllStand : {Run : Type 0} → Sizes → State Run → Type 0
AllStand z s = IsStanding z s.cell s.processes s.records

module _ {Run : Type 0} (m : Meaning Run) (lawful : List ℤ → Type 0) (fits : ObjectCall → Type 0) (ready : Run → Type 0) (Effect : Effects) (law : IsLawful m lawful fits ready Effect) where
  -- a body's step leaves as many variables
  pub few_words : (z : Sizes) (opening : List ℤ) (s : State Run) (p : ℕ) (q : Process Run) → slice_get s.processes p ≡ Some q → IsSound m lawful fits ready z opening s → length (body_turn m z s.cell p q).block ≤ z.variables
  few_words z opening s p q at sound =
      let c = s.cell in
      let own_in = sound.shaped.own_in p (omega (arith, slice_get_within s.processes p q at, sound.count, sound.shaped.owns)) in
      let long = sound.shaped.block (own_of c p) (omega (arith, own_in, sound.shaped.blocks)) in
      let variables : length (take z.variables (own_block c p)) ≡ z.variables = length-take-le z.variables (own_block c p) (omega (arith, long)) in
      omega (arith, variables, law.length_step q.run (take z.variables (own_block c p)) (sound.runs_ready p q at) (variables ∙ sound.variables))

  pub step_standing : (z : Sizes) (opening : List ℤ) (s : State Run) (p : ℕ) (o : Option (Process Run)) → slice_get s.processes p ≡ o → IsSound m lawful fits ready z opening s → IsSound m lawful fits ready z opening (step_by m z s p o) → IsCommitted z s → AllStand z s → AllStand z (step_by m z s p o)
  step_standing z opening s p None at sound after committed h = h
  step_standing z opening s p (Some q) at sound after committed h =
      keeps_standing m z s.cell s.processes s.records p q (few_words z opening s p q at sound) at after.marks (founded m lawful fits ready z opening s sound) committed.helpful committed.ordered h

  submitted : (z : Sizes) (s : State Run) (p : ℕ) (call : ObjectCall) (o : Option (Process Run)) → slice_get s.processes p ≡ o → AllStand z s → AllStand z (submit_by s p call o)
  submitted z s p call None at h = h
  submitted z s p call (Some q) at h = submit_standing z s p q call at h

  pub act_standing : (z : Sizes) (opening : List ℤ) (s : State Run) (act : Act) → IsSound m lawful fits ready z opening s → IsSound m lawful fits ready z opening (act_of m z s act) → IsCommitted z s → AllStand z s → AllStand z (act_of m z s act)
  act_standing z opening s (Steps p) sound after committed h = step_standing z opening s p (slice_get s.processes p) refl sound after committed h
  act_standing z opening s (Submits p call) sound after committed h = submitted z s p call (slice_get s.processes p) refl h

  -- over every list of acts from a state whose runs are sound
  acts_standing : (z : Sizes) (opening : List ℤ) (acts : List Act) (s : State Run) → ((more : List Act) → ActsFit fits more → IsSound m lawful fits ready z opening (run m z more s)) → ActsFit fits acts → IsCommitted z s → AllStand z s → AllStand z (run m z acts s)
  acts_standing z opening [] s sound fit committed h = h
  acts_standing z opening (act ∷ acts) s sound fit committed h =
      let now = sound [] tt in
      acts_standing z opening acts (act_of m z s act) (λ more fits_more. sound (act ∷ more) (fit.0, fits_more)) fit.1
      (act_committed m lawful fits ready Effect law z opening s act now committed)
      (act_standing z opening s act now (sound (act ∷ []) (fit.0, tt)) committed h)

  -- every state of a run
  pub run_standing : (n : ℕ) (opening : List ℤ) (acts : List Act) (s : State Run) → IsRun m lawful fits ready n opening acts s → AllStand (sizes_of m n) s
  run_standing n opening acts s h =
      let z = sizes_of m n in
      let leads : (more : List Act) → ActsFit fits more → IsRun m lawful fits ready n opening more (run m z more h.start) =
      λ more fit. record { some = h.some; few = h.few; opens = h.opens; fit = fit; start = h.start; begins = h.begins; leads = refl } in
      let sound : (more : List Act) → ActsFit fits more → IsSound m lawful fits ready z opening (run m z more h.start) =
      λ more fit. run_sound m lawful fits ready Effect law n opening more (run m z more h.start) (leads more fit) in
      let base = founded m lawful fits ready z opening h.start (sound [] tt) in
      let first : AllStand z h.start = subst (λ (r : Records). IsStanding z h.start.cell h.start.processes r) (sym h.begins.records)
      (start_standing ready z h.start.cell h.start.processes h.begins.idle (subst (λ (r : Records). IsFounded z h.start.cell h.start.processes r) h.begins.records base)) in
      subst (λ (k : State Run). AllStand z k) h.leads
      (acts_standing z opening acts h.start sound h.fit (run_committed m lawful fits ready Effect law n opening [] h.start (leads [] tt)) first)
