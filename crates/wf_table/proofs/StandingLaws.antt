-- What the invariants say of replies: until a process's next FLIP each block that has been the root since its call was applied
-- holds the reply that the root held then.
use Rattle.std.proofs.Common.{◌≡◌, ℕ, ◌+◌, ◌-◌, ◌<◌, ◌≤◌, Bool, false, List, [], ◌∷◌, ◌++◌, length, set, refl, sym, ap, ◌∙◌, arith, cond, inl, inr, subst}
use Rattle.std.specs.Prelude.{ℤ, Option, Some, None, slice_get}
use Rattle.std.specs.List.{Contains}
use Rattle.std.proofs.lemmas.Bool.{cases_eq}
use Rattle.std.proofs.lemmas.List.Elements.{Contains-append_left}
use Rattle.std.proofs.lemmas.Option.{slice_get_within}
use Rattle.ll_cell.specs.Cell.{Cell, is_linked, exchanged}
use Rattle.ob_interface.specs.Call.{ObjectCall, Reply}
use Rattle.wf_history.specs.declared.event.CallId.{CallId}
use Rattle.wf_history.specs.History.{Event, Begin, Applied, End}
use Rattle.wf_table.specs.declared.process.Label.{Label}
use Rattle.wf_table.specs.declared.process.Label.TheVariants.{Flip, Commit}
use Rattle.wf_table.specs.declared.process.Sizes.{Sizes}
use Rattle.wf_table.specs.Meaning.{Meaning}
use Rattle.wf_table.specs.Law.{Effects, IsLawful}
use Rattle.wf_table.specs.StepTable.{Process, cell_after, row}
use Rattle.wf_table.specs.Object.{State, Records, event_at, order_after, step_by, submit_by}
use Rattle.wf_table.specs.Runs.{Act, Steps, Submits, ActsFit, act_of, run, IsRun}
use Rattle.wf_table.specs.Labels.{unannounced}
use Rattle.wf_table.specs.Toggles.{flips}
use Rattle.wf_table.specs.Sound.{IsSound}
use Rattle.wf_table.specs.Start.{sizes_of}
use Rattle.wf_table.proofs.TableRuns.{run_sound}
use Rattle.wf_table.specs.Helping.{has_copied}
use Rattle.wf_table.specs.HelpAndOrder.{phase, flips_at, announced_call, IsFounded}
use Rattle.wf_table.proofs.KeepsHelp.{Kind, Flips, Exchanges, Neither, kind}
use Rattle.wf_table.proofs.HelpAndOrderRuns.{founded}
use Rattle.wf_table.proofs.HelpAndOrderSteps.{row_exchanges, same_rooted, same_flips, flips_other, flips_own, flips_is}
use Rattle.wf_table.specs.Stands.{Stands, word_in, InPart, IsStanding}
use Rattle.wf_table.proofs.Since.{from_order}
use Rattle.wf_table.proofs.StandingPlaces.{other_word}
use Rattle.wf_table.proofs.StandingRuns.{AllStand, run_standing}

order_grows : (order : List CallId) (event : Option (Event ObjectCall Reply)) (id : CallId) → Contains order id → Contains (order_after order event) id
order_grows order None id h = h
order_grows order (Some (Begin i call)) id h = h
order_grows order (Some (Applied ids)) id h = Contains-append_left order ids id h
order_grows order (Some (End i reply)) id h = h

-- a step that puts another root in place leaves the replies that stand
module _ {Run : Type 0} (m : Meaning Run) (z : Sizes) (c : Cell) (ps : List (Process Run)) (r : Records) (p : ℕ) (q : Process Run) (at : slice_get ps p ≡ Some q) (base : IsFounded z c ps r) (h : IsStanding z c ps r) (k i : ℕ) (lt : k < z.processes) (place : InPart z k i) (s : Stands ps r k c.root) where
  abbrev Same : Label → Type 0
  Same l = word_in (cell_after c p (row l m z c p q).change) (cell_after c p (row l m z c p q).change).root i ≡ word_in c c.root i

  root_stays : (l : Label) → (l ≡ Commit → is_linked c p ≡ false) → Same l
  root_stays l none =
      let change = (row l m z c p q).change in
      let owns : p < length c.own = omega (arith, slice_get_within ps p q at, base.count, base.shaped.owns) in
      ap (λ (b : ℕ). word_in (cell_after c p change) b i) (same_rooted c p change (row_exchanges l m z c p q none))
      ∙ other_word c p change c.root i (λ e. base.numbered.root_apart p owns (sym e))

  by_kind : (l : Label) → Kind l (is_linked c p) → q.label ≡ l → Same l
  by_kind l (Flips e) is = root_stays l (λ f. absurd (let both : Flip ≡ Commit = sym e ∙ f in cc))
  by_kind l (Exchanges e linked) is =
      subst Same (sym e)
      (subst (λ (b : Bool). word_in (cond b (exchanged c p) c) (cond b (exchanged c p) c).root i ≡ word_in c c.root i) (sym linked)
      ((h.carried p q at).copied (ap (λ (k : Label). has_copied (phase k)) (is ∙ e)) linked k i lt place s))
  by_kind l (Neither other none) is = root_stays l none

  reply_stays : Same q.label
  reply_stays = by_kind q.label (kind q.label (is_linked c p)) refl

-- no step takes an announcement back
row_flips : {Run : Type 0} (l : Label) (m : Meaning Run) (z : Sizes) (c : Cell) (p : ℕ) (q : Process Run) → q.label ≡ l → flips q ≤ flips (row l m z c p q).process
row_flips Flip m z c p q is = let few : flips q ≡ q.begun - 1 = ap (λ (l : Label). cond (unannounced l) (q.begun - 1) q.begun) is in omega (arith, few)
row_flips l m z c p q is = let same : flips (row l m z c p q).process ≡ flips q = same_flips l m z c p q (λ e. absurd (cc)) is in omega (arith, same)

-- a script grows
submitted_flips : {Run : Type 0} (ps : List (Process Run)) (p k : ℕ) (q : Process Run) (calls : List ObjectCall) → slice_get ps p ≡ Some q → flips_at (set ps p (record q { calls = calls })) k ≡ flips_at ps k
submitted_flips ps p k q calls at = elim (cases_eq k p) [
  | inl e ↦ subst (λ (n : ℕ). flips_at (set ps p (record q { calls = calls })) n ≡ flips_at ps n) (sym e) (flips_own ps p (record q { calls = calls }) (slice_get_within ps p q at) ∙ sym (flips_is ps p q at))
  | inr d ↦ flips_other ps p k (record q { calls = calls }) d
]

module _ {Run : Type 0} (m : Meaning Run) (z : Sizes) where
  step_flips : (s : State Run) (p k : ℕ) (o : Option (Process Run)) → slice_get s.processes p ≡ o → flips_at s.processes k ≤ flips_at (step_by m z s p o).processes k
  step_flips s p k None at = omega arith
  step_flips s p k (Some q) at =
      let after = (row q.label m z s.cell p q).process in
      elim (cases_eq k p) [
        | inl e ↦ subst (λ (n : ℕ). flips_at s.processes n ≤ flips_at (set s.processes p after) n) (sym e)
            (omega (arith, flips_is s.processes p q at, flips_own s.processes p after (slice_get_within s.processes p q at), row_flips q.label m z s.cell p q refl))
        | inr d ↦ (let same = flips_other s.processes p k after d in omega (arith, same))
      ]

  submit_flips : (s : State Run) (p k : ℕ) (call : ObjectCall) (o : Option (Process Run)) → slice_get s.processes p ≡ o → flips_at s.processes k ≤ flips_at (submit_by s p call o).processes k
  submit_flips s p k call None at = omega arith
  submit_flips s p k call (Some q) at = (let same = submitted_flips s.processes p k q (q.calls ++ call ∷ []) at in omega (arith, same))

  act_flips : (s : State Run) (act : Act) (k : ℕ) → flips_at s.processes k ≤ flips_at (act_of m z s act).processes k
  act_flips s (Steps p) k = step_flips s p k (slice_get s.processes p) refl
  act_flips s (Submits p call) k = submit_flips s p k call (slice_get s.processes p) refl

  acts_flips : (acts : List Act) (s : State Run) (k : ℕ) → flips_at s.processes k ≤ flips_at (run m z acts s).processes k
  acts_flips [] s k = omega arith
  acts_flips (act ∷ acts) s k = omega (arith, act_flips s act k, acts_flips acts (act_of m z s act) k)

  -- no step takes a call out of the order
  step_order : (s : State Run) (p : ℕ) (o : Option (Process Run)) (id : CallId) → Contains s.records.order id → Contains (step_by m z s p o).records.order id
  step_order s p None id h = h
  step_order s p (Some q) id h = order_grows s.records.order (event_at q.label m z s.cell s.processes p q) id h

  submit_order : (s : State Run) (p : ℕ) (call : ObjectCall) (o : Option (Process Run)) (id : CallId) → Contains s.records.order id → Contains (submit_by s p call o).records.order id
  submit_order s p call None id h = h
  submit_order s p call (Some q) id h = h

  act_order : (s : State Run) (act : Act) (id : CallId) → Contains s.records.order id → Contains (act_of m z s act).records.order id
  act_order s (Steps p) id h = step_order s p (slice_get s.processes p) id h
  act_order s (Submits p call) id h = submit_order s p call (slice_get s.processes p) id h

-- a run from a state that a run leads to
run_append : {Run : Type 0} (m : Meaning Run) (z : Sizes) (acts more : List Act) (s : State Run) → run m z (acts ++ more) s ≡ run m z more (run m z acts s)
run_append m z [] more s = refl
run_append m z (act ∷ acts) more s = run_append m z acts more (act_of m z s act)

fit_append : (fits : ObjectCall → Type 0) (acts more : List Act) → ActsFit fits acts → ActsFit fits more → ActsFit fits (acts ++ more)
fit_append fits [] more h k = k
fit_append fits (act ∷ acts) more h k = (h.0, fit_append fits acts more h.1 k)

module _ {Run : Type 0} (m : Meaning Run) (lawful : List ℤ → Type 0) (fits : ObjectCall → Type 0) (ready : Run → Type 0) where
  -- the reply that the root holds stays
  step_reply : (z : Sizes) (opening : List ℤ) (s : State Run) (p k i : ℕ) (o : Option (Process Run)) → slice_get s.processes p ≡ o → IsSound m lawful fits ready z opening s → AllStand z s → k < z.processes → InPart z k i → Contains s.records.order (announced_call s.processes k) → word_in (step_by m z s p o).cell (step_by m z s p o).cell.root i ≡ word_in s.cell s.cell.root i
  step_reply z opening s p k i None at sound h lt place applied = refl
  step_reply z opening s p k i (Some q) at sound h lt place applied =
      reply_stays m z s.cell s.processes s.records p q at (founded m lawful fits ready z opening s sound) h k i lt place
      (from_order z s.cell.root s.records sound.marks (announced_call s.processes k) applied)

  submit_reply : (s : State Run) (p i : ℕ) (call : ObjectCall) (o : Option (Process Run)) → word_in (submit_by s p call o).cell (submit_by s p call o).cell.root i ≡ word_in s.cell s.cell.root i
  submit_reply s p i call None = refl
  submit_reply s p i call (Some q) = refl

  act_reply : (z : Sizes) (opening : List ℤ) (s : State Run) (act : Act) (k i : ℕ) → IsSound m lawful fits ready z opening s → AllStand z s → k < z.processes → InPart z k i → Contains s.records.order (announced_call s.processes k) → word_in (act_of m z s act).cell (act_of m z s act).cell.root i ≡ word_in s.cell s.cell.root i
  act_reply z opening s (Steps p) k i sound h lt place applied = step_reply z opening s p k i (slice_get s.processes p) refl sound h lt place applied
  act_reply z opening s (Submits p call) k i sound h lt place applied = submit_reply s p i call (slice_get s.processes p)

  module _ (Effect : Effects) (law : IsLawful m lawful fits ready Effect) where
    run_on : (n : ℕ) (opening : List ℤ) (acts more : List Act) (s : State Run) → IsRun m lawful fits ready n opening acts s → ActsFit fits more → IsRun m lawful fits ready n opening (acts ++ more) (run m (sizes_of m n) more s)
    run_on n opening acts more s h fit = record { some = h.some; few = h.few; opens = h.opens; fit = fit_append fits acts more h.fit fit; start = h.start; begins = h.begins; leads = run_append m (sizes_of m n) acts more h.start ∙ ap (run m (sizes_of m n) more) h.leads }

    -- over every list of acts in which process k does not flip
    pub acts_reply : (n : ℕ) (opening : List ℤ) (acts more : List Act) (s : State Run) (k i : ℕ) → IsRun m lawful fits ready n opening acts s → ActsFit fits more → k < n → InPart (sizes_of m n) k i → Contains s.records.order (announced_call s.processes k) → flips_at (run m (sizes_of m n) more s).processes k ≡ flips_at s.processes k → word_in (run m (sizes_of m n) more s).cell (run m (sizes_of m n) more s).cell.root i ≡ word_in s.cell s.cell.root i
    acts_reply n opening acts [] s k i leads fit lt place applied same = refl
    acts_reply n opening acts (act ∷ more) s k i leads fit lt place applied same =
        let z = sizes_of m n in
        let next = act_of m z s act in
        let one : flips_at next.processes k ≡ flips_at s.processes k = omega (arith, same, act_flips m z s act k, acts_flips m z more next k) in
        let id : announced_call next.processes k ≡ announced_call s.processes k = ap (λ (a : ℕ). record { process = k; number = a }) one in
        acts_reply n opening (acts ++ act ∷ []) more next k i (run_on n opening acts (act ∷ []) s leads (fit.0, tt)) fit.1 lt place
        (subst (λ (a : CallId). Contains next.records.order a) (sym id) (act_order m z s act (announced_call s.processes k) applied))
        (same ∙ sym one)
        ∙ act_reply z opening s act k i (run_sound m lawful fits ready Effect law n opening acts s leads) (run_standing m lawful fits ready Effect law n opening acts s leads) lt place applied

    -- and each block that has been the root since the call was applied holds it
    pub standing_reply : (n : ℕ) (opening : List ℤ) (acts more : List Act) (s : State Run) (k b i : ℕ) → IsRun m lawful fits ready n opening acts s → ActsFit fits more → k < n → b < n + 1 → InPart (sizes_of m n) k i → Contains s.records.order (announced_call s.processes k) → flips_at (run m (sizes_of m n) more s).processes k ≡ flips_at s.processes k → Stands (run m (sizes_of m n) more s).processes (run m (sizes_of m n) more s).records k b → word_in (run m (sizes_of m n) more s).cell b i ≡ word_in s.cell s.cell.root i
    standing_reply n opening acts more s k b i leads fit lt inside place applied same stands =
        (run_standing m lawful fits ready Effect law n opening (acts ++ more) (run m (sizes_of m n) more s) (run_on n opening acts more s leads fit)).replies.stands b k i inside lt place stands
        ∙ acts_reply n opening acts more s k i leads fit lt place applied same
