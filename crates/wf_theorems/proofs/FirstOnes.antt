-- In every run the calls of a process in the order are the first ones of its script.
use Rattle.std.proofs.Common.{◌≡◌, ℕ, zero, suc, ◌+◌, ◌-◌, ◌<◌, ◌≤◌, Bool, true, false, List, [], ◌∷◌, ◌++◌, length, get_or, map, refl, sym, ap, ◌∙◌, arith, cond, eqb, subst, inl, inr}
use Rattle.std.specs.Prelude.{ℤ, Some, slice_get}
use Rattle.std.specs.List.{AllByRecursion}
use Rattle.std.proofs.lemmas.Bool.{cases_lt, eq-eqb, eqb-true}
use Rattle.std.proofs.lemmas.List.{length-map, length-take-le}
use Rattle.std.proofs.lemmas.Option.{same_Some}
use Rattle.ob_interface.specs.Call.{ObjectCall}
use Rattle.wf_history.specs.declared.event.CallId.{CallId}
use Rattle.wf_history.specs.History.{own_calls}
use Rattle.wf_history.specs.Legal.{OneAtATime, none, more, HasBegun}
use Rattle.wf_table.specs.declared.process.Label.{Label}
use Rattle.wf_table.specs.declared.process.Label.TheVariants.{Post, Flip}
use Rattle.wf_table.specs.Below.{IdBelow}
use Rattle.wf_table.specs.Labels.{unannounced}
use Rattle.wf_table.specs.Law.{Effects, IsLawful}
use Rattle.wf_table.specs.Meaning.{Meaning}
use Rattle.wf_table.specs.Object.{State, script_by, script_of}
use Rattle.wf_table.specs.Runs.{Act, IsRun}
use Rattle.wf_table.specs.Start.{sizes_of}
use Rattle.wf_table.specs.Toggles.{flips}
use Rattle.wf_table.proofs.TableRuns.{run_sound}
use Rattle.wf_table.specs.HelpAndOrder.{phase, flips_at}
use Rattle.wf_table.specs.Helping.{Settled}
use Rattle.wf_table.specs.Order.{own_numbers, applied_count}
use Rattle.wf_table.proofs.Numbers.{in_order}
use Rattle.wf_table.proofs.HelpAndOrderRuns.{run_committed}
use Rattle.wf_table.proofs.HelpAndOrderSteps.{member, flips_is}
use Rattle.wf_table.proofs.HelpRuns.{run_helped}
use Rattle.wf_theorems.specs.FirstCalls.{AreFirstCalls, first_ids, own_ids, submitted}
use Rattle.wf_theorems.proofs.Scripts.{begun_of_script}
use Rattle.wf_theorems.proofs.Submitted.{run_script}

-- a process's calls in a list, by their numbers
by_first : (b : Bool) (p : ℕ) (id : CallId) (ids : List CallId) (numbers : List ℕ) → (b ≡ true → id.process ≡ p) → ids ≡ map (λ (k : ℕ). record { process = p; number = k }) numbers → cond b (id ∷ ids) ids ≡ map (λ (k : ℕ). record { process = p; number = k }) (cond b (id.number ∷ numbers) numbers)
by_first true p id ids numbers own rest =
    ap (λ (k : ℕ). record { process = k; number = id.number } ∷ ids) (own refl) ∙ ap (λ (l : List CallId). record { process = p; number = id.number } ∷ l) rest
by_first false p id ids numbers own rest = rest

ids_by_numbers : (p : ℕ) (ids : List CallId) → own_ids p ids ≡ map (λ (k : ℕ). record { process = p; number = k }) (own_numbers p ids)
ids_by_numbers p [] = refl
ids_by_numbers p (id ∷ ids) = by_first (eqb id.process p) p id (own_ids p ids) (own_numbers p ids) (eqb-true id.process p) (ids_by_numbers p ids)

-- where there is one process, they are all
pub all_own : (ids : List CallId) → AllByRecursion (IdBelow 1) ids → own_ids 0 ids ≡ ids
all_own [] h = refl
all_own (id ∷ ids) h = ap (λ (b : Bool). cond b (id ∷ own_ids 0 ids) (own_ids 0 ids)) (eq-eqb id.process 0 (omega (arith, h.0))) ∙ ap (λ (l : List CallId). id ∷ l) (all_own ids h.1)

-- what is made one at a time is made
made_has : {State Call Answer : Type 0} (Made : CallId → Call → Type 0) (Effect : Call → State → State → Answer → Type 0) (a b : State) (ids : List CallId) (answers : List Answer) → OneAtATime Made Effect a ids answers b → (k : ℕ) (d : CallId) → k < length ids → (call : Call) × Made (get_or ids k d) call
made_has Made Effect a b [] answers none k d lt = absurd (omega (arith, lt))
made_has Made Effect a b (x ∷ ids) answers (more {call = call} made does rest) zero d lt = (call, made)
made_has Made Effect a b (x ∷ ids) answers (more {between = s} {answers = vs} made does rest) (suc k) d lt = made_has Made Effect s b ids vs rest k d (omega (arith, lt))

-- a call that is not yet announced is not pending
settled : (l : Label) → unannounced l ≡ true → phase l ≡ Settled
settled Post e = refl
settled Flip e = refl
settled l e = absurd (cc)

flips_most : (b : Bool) (begun : ℕ) → cond b (begun - 1) begun ≤ begun
flips_most true begun = omega arith
flips_most false begun = omega arith

begun_most : (b : Bool) (begun applied : ℕ) → (b ≡ true → cond b (begun - 1) begun ≤ applied) → cond b (begun - 1) begun ≤ applied + 1 → begun ≤ applied + 1
begun_most true begun applied not_pending one = omega (arith, not_pending refl)
begun_most false begun applied not_pending one = omega (arith, one)

module _ {Run : Type 0} (m : Meaning Run) (lawful : List ℤ → Type 0) (fits : ObjectCall → Type 0) (ready : Run → Type 0) (Effect : Effects) (law : IsLawful m lawful fits ready Effect) (n : ℕ) (opening : List ℤ) (acts : List Act) (s : State Run) (leads : IsRun m lawful fits ready n opening acts s) where
  pub script_is : (p : ℕ) → p < n → script_of s p ≡ submitted p acts
  script_is p lt =
      let first = member leads.start.processes p (omega (arith, lt, leads.begins.count)) in
      ap (λ (t : State Run). script_of t p) (sym leads.leads)
      ∙ run_script m (sizes_of m n) acts leads.start p first.0 first.1
      ∙ ap (λ (calls : List ObjectCall). calls ++ submitted p acts) (leads.begins.idle p first.0 first.1).calls

  pub first_calls : (p : ℕ) → p < n → AreFirstCalls p (submitted p acts) s.records.history (own_ids p s.records.order)
  first_calls p lt =
      let sound = run_sound m lawful fits ready Effect law n opening acts s leads in
      let committed = run_committed m lawful fits ready Effect law n opening acts s leads in
      let helped = run_helped m lawful fits ready Effect law n opening acts s leads in
      let order = s.records.order in
      let history = s.records.history in
      let applied = applied_count order p in
      let turns = committed.ordered.in_turn p in
      let here = member s.processes p (omega (arith, lt, sound.count)) in
      let q = here.0 in
      let at = here.1 in
      let counted = committed.helpful.counted in
      let flipped : flips_at s.processes p ≡ flips q = flips_is s.processes p q at in
      let script : script_of s p ≡ q.calls = ap script_by at in
      let is : script_of s p ≡ submitted p acts = script_is p lt in
      let named = ids_by_numbers p order in
      let count : length (own_ids p order) ≡ applied = ap length named ∙ length-map (own_numbers p order) (λ (k : ℕ). record { process = p; number = k }) in
      let begun_few : q.begun ≤ length q.calls = (sound.in_range p q at).begun in
      let flips_few : flips q ≤ q.begun = flips_most (unannounced q.label) q.begun in
      let own : length (own_calls p history) ≡ q.begun = ap length (sound.own_calls p q at).calls ∙ length-take-le q.begun q.calls begun_few in
      let one : flips q ≤ applied + 1 = omega (arith, counted.one_open p lt, flipped) in
      let none_pending : unannounced q.label ≡ true → flips q ≤ applied = λ early.
      elim (cases_lt applied (flips_at s.processes p)) [
        | inl pending ↦ absurd ((committed.helpful.helping p q at).settled (settled q.label early) pending)
        | inr le ↦ omega (arith, le, flipped)
      ] in
      record {
        in_turn = named ∙ ap (map (λ (k : ℕ). record { process = p; number = k })) turns ∙ ap (first_ids p) (sym count);
        few = omega (arith, count, counted.begun p lt, flipped, flips_few, begun_few, ap length script, ap length is);
        began = λ place call within named_call.
            let id : CallId = record { process = p; number = place + 1 } in
            let there = in_order order p (place + 1) turns (omega arith) (omega (arith, within, count)) in
            let found = made_has (HasBegun history) _ opening helped.root.last order helped.root.words helped.root.made.made there.0 id there.1 in
            let begun : HasBegun history id found.0 = subst (λ (i : CallId). HasBegun history i found.0) there.2 found.1 in
            let of = (begun_of_script m lawful fits ready (sizes_of m n) opening [] s sound id found.0 begun).1 in
            let same_place : place + 1 - 1 ≡ place = omega arith in
            let named_here : slice_get (script_of s p) (place + 1 - 1) ≡ Some call = ap (slice_get (script_of s p)) same_place ∙ ap (λ (calls : List ObjectCall). slice_get calls place) is ∙ named_call in
            subst (HasBegun history id) (same_Some found.0 call (sym of ∙ named_here)) begun;
        most = omega (arith, own, count, begun_most (unannounced q.label) q.begun applied none_pending one);
      }
