-- A present body, over a counted run: the counted steps of the call that the list holds, made on the saved variables, lead to
-- the run and to the variables of the own block.
use Rattle.std.proofs.Common.{◌≡◌, ◌≢◌, ℕ, suc, ◌+◌, ◌<◌, true, false, List, [], ◌∷◌, ◌++◌, length, set, get_or, take, map, refl, sym, ap, ◌∙◌, arith, cond, subst, inl, inr, get_or-set_same, get_or-set_other}
use Rattle.std.specs.Prelude.{ℤ, Option, Some, None, slice_get, ◌⊎◌}
use Rattle.std.proofs.lemmas.Bool.Decides.{nat_tests}
use Rattle.std.proofs.lemmas.List.{length-take-le}
use Rattle.std.proofs.lemmas.Option.{slice_get_within}
use Rattle.ll_cell.specs.Cell.{Cell, IsNumbered, own_of, is_linked, block_of, refilled, exchanged}
use Rattle.ob_interface.specs.Call.{ObjectCall}
use Rattle.wf_table.specs.declared.engine_turn.EngineTurn.{EngineTurn}
use Rattle.wf_table.specs.declared.engine_turn.EngineTurn.TheVariants.{On, Returned, Trapped, Stuck}
use Rattle.wf_table.specs.declared.process.Label.{Label}
use Rattle.wf_table.specs.declared.process.Label.TheVariants.{Enter, Body}
use Rattle.wf_table.specs.declared.process.Sizes.{Sizes}
use Rattle.wf_table.specs.Meaning.{Turned, Meaning, steps, body}
use Rattle.wf_table.specs.Law.{Effects, IsLawful}
use Rattle.wf_table.specs.StepTable.{Process, Change, Refill, Exchanges, cell_after, row, own_block, block_words, body_turn, after_body, to}
use Rattle.wf_table.specs.Object.{State, step_by, submit_by}
use Rattle.wf_table.specs.Runs.{Act, Steps, Submits, act_of}
use Rattle.wf_table.specs.Each.{Each}
use Rattle.wf_table.specs.Sound.{IsSound}
use Rattle.wf_table.proofs.Frame.{each_after}
use Rattle.wf_table.specs.Toggles.{flips}
use Rattle.wf_table.proofs.HelpAndOrderSteps.{same_own}
use Rattle.wf_table.specs.Spent.{has_more, one_more, body_steps_after}
use Rattle.wf_table.specs.Labels.{at_body}
use Rattle.wf_table.specs.Counted.{Counts, uncounted, counts_after, counts_of, count_by, count_act}
use Rattle.wf_table.specs.Helps.{Witness, Packs, IsHelped}
use Rattle.wf_table.proofs.Blocks.{take_refilled}
use Rattle.wf_table.proofs.HelpBodies.{steps_more, not_stuck}

-- a step of another process leaves the own block
other_own : (c : Cell) (p k : ℕ) (change : Change) → p < length c.own → k < length c.own → k ≢ p → IsNumbered c.root c.own → own_block (cell_after c p change) k ≡ own_block c k
other_own c p k Exchanges lt within apart numbers = elim (is_linked c p) as (λ b. own_block (cond b (exchanged c p) c) k ≡ own_block c k) [
  | true ↦ ap (λ (b : ℕ). block_of c b) (get_or-set_other c.own p k c.root 0 apart)
  | false ↦ refl
]
other_own c p k change lt within apart numbers = same_own c p k change lt within apart numbers refl

head_more : (counted : List ℕ) → 0 < length counted → get_or (one_more counted) 0 0 ≡ get_or counted 0 0 + 1
head_more [] some = absurd (omega (arith, some))
head_more (k ∷ ks) some = refl

length_more : (counted : List ℕ) → length (one_more counted) ≡ length counted
length_more [] = refl
length_more (k ∷ ks) = refl

module _ {Run : Type 0} (m : Meaning Run) (z : Sizes) where
  -- the process stands at q, and has so many steps in the bodies of its call
  pub record Ran (own : List ℤ) (q : Process Run) (counted : List ℕ) : Type 0 where
    pub some : 0 < length counted
    pub on : (steps m (get_or counted 0 0) (m.start q.list) q.save).turn ≡ On
    pub run : (steps m (get_or counted 0 0) (m.start q.list) q.save).run ≡ q.run
    pub variables : (steps m (get_or counted 0 0) (m.start q.list) q.save).block ≡ take z.variables own

  abbrev pub AllRan : Cell → List Counts → ℕ → Process Run → Type 0
  AllRan c counts p q = at_body q.label ≡ true → Ran (own_block c p) q (counts_of counts p).body_steps

  -- its next step is the engine's
  pub next_step : (own : List ℤ) (q : Process Run) (counted : List ℕ) → Ran own q counted → steps m (get_or counted 0 0 + 1) (m.start q.list) q.save ≡ m.step q.run (take z.variables own)
  next_step own q counted h =
      let k = get_or counted 0 0 in
      let one : k + 1 ≡ suc k = omega arith in
      ap (λ (n : ℕ). steps m n (m.start q.list) q.save) one
      ∙ steps_more m k (m.start q.list) q.save h.on
      ∙ ap (λ (r : Run). m.step r (steps m k (m.start q.list) q.save).block) h.run
      ∙ ap (λ (b : List ℤ). m.step q.run b) h.variables

  goes_on : (own after : List ℤ) (q : Process Run) (counted : List ℕ) → (m.step q.run (take z.variables own)).turn ≡ On → take z.variables after ≡ (m.step q.run (take z.variables own)).block → Ran own q counted → Ran after (record q { run = (m.step q.run (take z.variables own)).run }) (one_more counted)
  goes_on own after q counted on written h =
      let next : steps m (get_or (one_more counted) 0 0) (m.start q.list) q.save ≡ m.step q.run (take z.variables own) = ap (λ (n : ℕ). steps m n (m.start q.list) q.save) (head_more counted h.some) ∙ next_step own q counted h in
      record {
        some = omega (arith, h.some, length_more counted);
        on = ap (λ (t : Turned Run). t.turn) next ∙ on;
        run = ap (λ (t : Turned Run). t.run) next;
        variables = ap (λ (t : Turned Run). t.block) next ∙ sym written;
      }

  -- no row but ENTER and BODY leads to BODY
  only_body : (l : Label) (c : Cell) (p : ℕ) (q : Process Run) → at_body (row l m z c p (to l q)).process.label ≡ true → (l ≡ Enter) ⊎ (l ≡ Body)
  only_body Enter c p q e = inl refl
  only_body Body c p q e = inr refl
  only_body l c p q e = absurd (grind (arith, nat_tests, e))

  by_turn : (t : EngineTurn) (own after : List ℤ) (q : Process Run) (counted : List ℕ) → (m.step q.run (take z.variables own)).turn ≡ t → t ≢ Stuck → take z.variables after ≡ (m.step q.run (take z.variables own)).block → at_body (after_body z t (record q { run = (m.step q.run (take z.variables own)).run })).label ≡ true → Ran own q counted → Ran after (after_body z t (record q { run = (m.step q.run (take z.variables own)).run })) (one_more counted)
  by_turn On own after q counted is free written e h = goes_on own after q counted is written h
  by_turn Returned own after q counted is free written e h = absurd (cc)
  by_turn (Trapped k) own after q counted is free written e h = absurd (grind (arith, nat_tests, e))
  by_turn Stuck own after q counted is free written e h = absurd (free refl)

module _ {Run : Type 0} (m : Meaning Run) (lawful : List ℤ → Type 0) (fits : ObjectCall → Type 0) (ready : Run → Type 0) (Effect : Effects) (law : IsLawful m lawful fits ready Effect) (z : Sizes) (opening : List ℤ) where
  -- the body of the served call, so far
  pub served_body : (q : Process Run) (w : Witness) (k : ℕ) → q.save ≡ w.last → q.list ≡ m.lay w.call → steps m k (m.start q.list) q.save ≡ body m k w.last w.call
  served_body q w k saved laid = ap (λ (l : List ℤ). steps m k (m.start l) q.save) laid ∙ ap (λ (b : List ℤ). body m k b w.call) saved

  module _ (s : State Run) (sound : IsSound m lawful fits ready z opening s) (helped : IsHelped m lawful fits z opening s) where
    own_enters : (p : ℕ) (q : Process Run) (counted : List ℕ) → slice_get s.processes p ≡ Some q → q.label ≡ Enter → Ran m z (own_block s.cell p) (record q { label = Body; run = m.start q.list }) (0 ∷ counted)
    own_enters p q counted at is =
        let old = subst (λ (k : Label). Packs m lawful fits z opening s.records.history s.records.order (map flips s.processes) (is_linked s.cell p) (block_of s.cell s.cell.root) (own_block s.cell p) k q) is (helped.packed p q at) in
        let mine = (old refl).1 in
        record { some = omega arith; on = refl; run = refl; variables = mine.works.saved ∙ sym (mine.variables refl) }

    own_goes : (p : ℕ) (q : Process Run) (counted : List ℕ) → slice_get s.processes p ≡ Some q → q.label ≡ Body → at_body (row Body m z s.cell p q).process.label ≡ true → Ran m z (own_block s.cell p) q counted → Ran m z (own_block (cell_after s.cell p (row Body m z s.cell p q).change) p) (row Body m z s.cell p q).process (one_more counted)
    own_goes p q counted at is e h =
        let own = own_block s.cell p in
        let turned = body_turn m z s.cell p q in
        let old = subst (λ (k : Label). Packs m lawful fits z opening s.records.history s.records.order (map flips s.processes) (is_linked s.cell p) (block_of s.cell s.cell.root) own k q) is (helped.packed p q at) in
        let w = (old refl).0 in
        let mine = (old refl).1 in
        let owns : p < length s.cell.own = omega (arith, slice_get_within s.processes p q at, sound.count, sound.shaped.owns) in
        let inside : own_of s.cell p < length s.cell.blocks = omega (arith, sound.shaped.own_in p owns, sound.shaped.blocks) in
        let long : length own ≡ block_words z = sound.shaped.block (own_of s.cell p) inside in
        let variables : length (take z.variables own) ≡ z.variables = length-take-le z.variables own (omega (arith, long)) in
        let few : length turned.block ≡ z.variables = law.length_step q.run (take z.variables own) (sound.runs_ready p q at) (variables ∙ sound.variables) ∙ variables in
        let own_is : own_block (cell_after s.cell p (Refill turned.block)) p ≡ refilled own turned.block = get_or-set_same s.cell.blocks (own_of s.cell p) (refilled own turned.block) [] inside in
        let written : take z.variables (own_block (cell_after s.cell p (Refill turned.block)) p) ≡ turned.block = ap (take z.variables) own_is ∙ subst (λ (n : ℕ). take n (refilled own turned.block) ≡ turned.block) few (take_refilled own turned.block (omega (arith, few, long))) in
        let free : turned.turn ≢ Stuck = λ stuck. not_stuck m lawful fits ready Effect law w.call w.last (get_or counted 0 0 + 1) mine.listed.made.lawful_last (mine.passed refl).fit
        (ap (λ (t : Turned Run). t.turn) (sym (served_body q w (get_or counted 0 0 + 1) mine.works.saved (mine.passed refl).laid) ∙ next_step m z own q counted h) ∙ stuck) in
        by_turn m z turned.turn own (own_block (cell_after s.cell p (Refill turned.block)) p) q counted refl free written e h

    own_ran : (p : ℕ) (q : Process Run) (l : Label) (counted : List ℕ) → slice_get s.processes p ≡ Some q → q.label ≡ l → (l ≡ Enter) ⊎ (l ≡ Body) → at_body (row l m z s.cell p q).process.label ≡ true → (at_body q.label ≡ true → Ran m z (own_block s.cell p) q counted) → Ran m z (own_block (cell_after s.cell p (row l m z s.cell p q).change) p) (row l m z s.cell p q).process (body_steps_after l (has_more q) counted)
    own_ran p q l counted at is (inl enter) e h =
        subst (λ (k : Label). Ran m z (own_block (cell_after s.cell p (row k m z s.cell p q).change) p) (row k m z s.cell p q).process (body_steps_after k (has_more q) counted)) (sym enter)
        (own_enters p q counted at (is ∙ enter))
    own_ran p q l counted at is (inr present) e h =
        subst (λ (k : Label). at_body (row k m z s.cell p q).process.label ≡ true → Ran m z (own_block (cell_after s.cell p (row k m z s.cell p q).change) p) (row k m z s.cell p q).process (body_steps_after k (has_more q) counted)) (sym present)
        (λ on. own_goes p q counted at (is ∙ present) on (h (ap at_body (is ∙ present)))) e

    step_ran : (counts : List Counts) (p : ℕ) (o : Option (Process Run)) → slice_get s.processes p ≡ o → length counts ≡ length s.processes → Each (AllRan m z s.cell counts) s.processes → Each (AllRan m z (step_by m z s p o).cell (count_by counts_after uncounted counts p o)) (step_by m z s p o).processes
    step_ran counts p None at same h = h
    step_ran counts p (Some q) at same h =
        let change = (row q.label m z s.cell p q).change in
        let after = (row q.label m z s.cell p q).process in
        let cell = cell_after s.cell p change in
        let new = counts_after q.label (has_more q) (counts_of counts p) in
        let placed : counts_of (set counts p new) p ≡ new = get_or-set_same counts p new uncounted (omega (arith, same, slice_get_within s.processes p q at)) in
        let owns : p < length s.cell.own = omega (arith, slice_get_within s.processes p q at, sound.count, sound.shaped.owns) in
        each_after (λ k o. (k < length s.cell.own) × AllRan m z s.cell counts k o) (AllRan m z cell (set counts p new)) s.processes p after
        (λ k o e. (omega (arith, slice_get_within s.processes k o e, sound.count, sound.shaped.owns), h k o e))
        (λ e. subst (λ (x : Counts). Ran m z (own_block cell p) after x.body_steps) (sym placed) (own_ran p q q.label (counts_of counts p).body_steps at refl (only_body m z q.label s.cell p q e) e (h p q at)))
        (λ k o apart old on.
        subst (λ (own : List ℤ). Ran m z own o (counts_of (set counts p new) k).body_steps) (sym (other_own s.cell p k change owns old.0 apart sound.numbered))
        (subst (λ (x : Counts). Ran m z (own_block s.cell k) o x.body_steps) (sym (get_or-set_other counts p k new uncounted apart)) (old.1 on)))

    -- what was submitted is not read
    submit_ran : (counts : List Counts) (p : ℕ) (call : ObjectCall) (o : Option (Process Run)) → slice_get s.processes p ≡ o → Each (AllRan m z s.cell counts) s.processes → Each (AllRan m z (submit_by s p call o).cell counts) (submit_by s p call o).processes
    submit_ran counts p call None at h = h
    submit_ran counts p call (Some q) at h =
        each_after (AllRan m z s.cell counts) (AllRan m z s.cell counts) s.processes p (record q { calls = q.calls ++ call ∷ [] }) h
        (λ on. (let old = h p q at on in record { some = old.some; on = old.on; run = old.run; variables = old.variables }))
        (λ k o apart old. old)

    pub act_ran : (counts : List Counts) (act : Act) → length counts ≡ length s.processes → Each (AllRan m z s.cell counts) s.processes → Each (AllRan m z (act_of m z s act).cell (count_act counts_after uncounted s counts act)) (act_of m z s act).processes
    act_ran counts (Steps p) same h = step_ran counts p (slice_get s.processes p) refl same h
    act_ran counts (Submits p call) same h = submit_ran counts p call (slice_get s.processes p) refl h
