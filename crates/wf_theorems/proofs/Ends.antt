-- Where each call, on each block that is reached without it, ends within a limit, no body of a run takes a step behind it.
use Rattle.std.proofs.Common.{◌≡◌, ℕ, ◌<◌, true, List, [], ◌∷◌, length, get_or, map, refl, sym, ap, ◌∙◌, subst}
use Rattle.std.specs.Prelude.{ℤ, Some, slice_get}
use Rattle.std.proofs.Math.Bool.{Bool-set}
use Rattle.std.proofs.Math.Logic.{∥∥₁_elim, ∥∥₁_prop}
use Rattle.std.proofs.lemmas.Bool.{false≢true}
use Rattle.std.proofs.lemmas.List.{length-replicate}
use Rattle.ll_cell.specs.Cell.{is_linked, block_of}
use Rattle.ob_interface.specs.Call.{ObjectCall, Reply}
use Rattle.wf_history.specs.declared.event.CallId.{CallId}
use Rattle.wf_history.specs.Legal.{OneAtATime, none, more, HasBegun}
use Rattle.wf_table.specs.declared.process.Label.{Label}
use Rattle.wf_table.specs.declared.process.Label.TheVariants.{Body}
use Rattle.wf_table.specs.declared.process.Sizes.{Sizes}
use Rattle.wf_table.specs.Meaning.{Turned, Meaning, is_over, body}
use Rattle.wf_table.specs.Law.{Effects, IsLawful}
use Rattle.wf_table.specs.StepTable.{Process, own_block}
use Rattle.wf_table.specs.Object.{State, script_of}
use Rattle.wf_table.specs.Runs.{Act, ActsFit, run, IsRun}
use Rattle.wf_table.specs.Each.{Each}
use Rattle.wf_table.specs.Start.{sizes_of}
use Rattle.wf_table.specs.Toggles.{flips}
use Rattle.wf_table.specs.Sound.{IsSound}
use Rattle.wf_table.proofs.TableRuns.{run_sound}
use Rattle.wf_table.specs.Labels.{at_body}
use Rattle.wf_table.specs.Counted.{Counted, EachCounts, uncounted, counts_after, counts_of, counted_from, counted_act}
use Rattle.wf_table.specs.Ends.{AllEndWithin, EndsWithin, IsCallOf}
use Rattle.wf_table.specs.Limit.{StaysBelow}
use Rattle.wf_table.proofs.BodyEnds.{body_goes_on}
use Rattle.wf_table.proofs.EachCounts.{act_counts}
use Rattle.wf_table.specs.HelpAlone.{Alone}
use Rattle.wf_table.specs.Helps.{calls_of, served, Packs, IsHelped}
use Rattle.wf_table.proofs.Alones.{alone_lawful}
use Rattle.wf_table.proofs.Effects.{alone_effect, begun_fits}
use Rattle.wf_table.proofs.HelpRuns.{run_helped}
use Rattle.wf_theorems.proofs.Present.{Ran, AllRan, served_body, act_ran}
use Rattle.wf_theorems.proofs.Scripts.{begun_of_script}

is_body : (l : Label) → at_body l ≡ true → l ≡ Body
is_body Body e = refl
is_body l e = absurd (false≢true e)

module _ {Run : Type 0} (m : Meaning Run) (lawful : List ℤ → Type 0) (fits : ObjectCall → Type 0) (ready : Run → Type 0) (Effect : Effects) (law : IsLawful m lawful fits ready Effect) where
  -- calls that are made alone, one at a time, have their effects one at a time
  made_effects : (Made Known : CallId → ObjectCall → Type 0) → ((id : CallId) (call : ObjectCall) → Made id call → Known id call × fits call) → (a b : List ℤ) (ids : List CallId) (words : List (List ℤ)) → ∥ lawful a ∥₁ → OneAtATime Made (Alone m) a ids words b → ∥ ((replies : List Reply) × OneAtATime Known Effect a ids replies b) ∥₁
  made_effects Made Known known a b [] words ok none = ∣ ([], none) ∣₁
  made_effects Made Known known a b (x ∷ ids) words ok (more {between = between} {call = call} {answer = w} {answers = ws} made alone rest) =
      let is = known x call made in
      ∥∥₁_elim (alone_effect m lawful fits ready Effect law call a between w ok is.1 alone) ∥∥₁_prop (λ effect.
      ∥∥₁_elim (made_effects Made Known known between b ids ws (alone_lawful m lawful fits ready Effect law call a between w ok is.1 alone) rest) ∥∥₁_prop (λ others.
      ∣ (m.reply call w ∷ others.0, more is.0 effect others.1) ∣₁))

  module _ (z : Sizes) (opening : List ℤ) (limit : ℕ) where
    -- a present body is of a call, on a block that is reached without it
    present_below : (scripts : ℕ → List ObjectCall) → AllEndWithin m Effect scripts opening limit → (s : State Run) → IsSound m lawful fits ready z opening s → IsHelped m lawful fits z opening s → ((id : CallId) (call : ObjectCall) → HasBegun s.records.history id call → IsCallOf scripts id call × fits call) → (p : ℕ) (q : Process Run) (counted : List ℕ) → slice_get s.processes p ≡ Some q → q.label ≡ Body → Ran m z (own_block s.cell p) q counted → get_or counted 0 0 < limit
    present_below scripts all s sound helped known p q counted at is ran =
        let old = subst (λ (l : Label). Packs m lawful fits z opening s.records.history s.records.order (map flips s.processes) (is_linked s.cell p) (block_of s.cell s.cell.root) (own_block s.cell p) l q) is (helped.packed p q at) in
        let w = (old refl).0 in
        let mine = (old refl).1 in
        let passed = mine.passed refl in
        let id = served w q.registers.j in
        let ends : EndsWithin m limit w.last w.call = ∥∥₁_elim
        (made_effects (HasBegun s.records.history) (IsCallOf scripts) known opening w.last (calls_of w) w.words ∣ sound.opens ∣₁ mine.listed.made.made)
        (Bool-set (is_over (body m limit w.last w.call).turn) true)
        (λ made. all.ends id w.call w.last (known id w.call passed.begun).0 (record { others = calls_of w; once = mine.listed.made.once; without = passed.absent; replies = made.0; made = made.1 })) in
        body_goes_on m limit (get_or counted 0 0) w.last w.call ends
        (ap (λ (t : Turned Run). t.turn) (sym (served_body m lawful fits ready Effect law z opening q w (get_or counted 0 0) mine.works.saved passed.laid)) ∙ ran.on)

    -- over every list of acts from a state whose runs are sound and helped
    run_below : (acts : List Act) (s : Counted Run) → ((more : List Act) → ActsFit fits more → IsSound m lawful fits ready z opening (run m z more s.state) × IsHelped m lawful fits z opening (run m z more s.state)) → ActsFit fits acts → AllEndWithin m Effect (script_of (run m z acts s.state)) opening limit → length s.counts ≡ length s.state.processes → Each (AllRan m z s.state.cell s.counts) s.state.processes → StaysBelow limit m z acts s
    run_below [] s facts fit all same h = tt
    run_below (act ∷ acts) s facts fit all same h =
        let now = facts [] tt in
        let known : (id : CallId) (call : ObjectCall) → HasBegun s.state.records.history id call → IsCallOf (script_of (run m z (act ∷ acts) s.state)) id call × fits call = λ id call begun.
        (begun_of_script m lawful fits ready z opening (act ∷ acts) s.state now.0 id call begun, begun_fits m lawful fits ready z opening s.state now.0 id call begun) in
        let any : EachCounts (λ _ _. Unit {0}) uncounted s.counts s.state.processes = record { count = same; each = λ p q at. tt } in
        let next = act_counts m z counts_after uncounted (λ _ _. Unit {0}) s.state s.counts act (λ p q at x. tt) (λ x q calls y. tt) any in (
          λ p q at on. present_below (script_of (run m z (act ∷ acts) s.state)) all s.state now.0 now.1 known p q (counts_of s.counts p).body_steps at (is_body q.label on) (h p q at on),
          run_below acts (counted_act m z s act) (λ more fits_more. facts (act ∷ more) (fit.0, fits_more)) fit.1 all next.count
              (act_ran m lawful fits ready Effect law z opening s.state now.0 now.1 s.counts act same h),
        )

  pub run_ends : (n limit : ℕ) (opening : List ℤ) (acts : List Act) (s : State Run) → (r : IsRun m lawful fits ready n opening acts s) → AllEndWithin m Effect (script_of s) opening limit → StaysBelow limit m (sizes_of m n) acts (counted_from r.start)
  run_ends n limit opening acts s r all =
      let z = sizes_of m n in
      let runs : (more : List Act) → ActsFit fits more → IsRun m lawful fits ready n opening more (run m z more r.start) = λ more fit. record { some = r.some; few = r.few; opens = r.opens; fit = fit; start = r.start; begins = r.begins; leads = refl } in
      run_below z opening limit acts (counted_from r.start)
      (λ more fit. (run_sound m lawful fits ready Effect law n opening more (run m z more r.start) (runs more fit), run_helped m lawful fits ready Effect law n opening more (run m z more r.start) (runs more fit)))
      r.fit (subst (λ (k : State Run). AllEndWithin m Effect (script_of k) opening limit) (sym r.leads) all)
      (length-replicate (length r.start.processes) uncounted)
      (λ p q at on. absurd (false≢true (sym (ap (λ (l : Label). at_body l) (r.begins.idle p q at).label) ∙ on)))
