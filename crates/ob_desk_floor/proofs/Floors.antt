-- A floor before any turn, and after one more.
use Rattle.std.proofs.Common.{◌≡◌, ◌≢◌, ℕ, ◌+◌, ◌<◌, ◌≤◌, ◌^◌, true, false, Bool, List, [], ◌∷◌, ◌++◌, length, set, map, replicate, refl, sym, ap, ◌∙◌, subst, arith, length-set, append-nil}
use Rattle.std.specs.Prelude.{ℤ, slice_index, nat_eq}
use Rattle.std.specs.List.{All}
use Rattle.std.proofs.lemmas.Bool.Decides.{nat_tests}
use Rattle.std.proofs.lemmas.List.{get_or-set_same, get_or-set_other, get_or-replicate, length-replicate}
use Rattle.ob_interface.specs.Call.{ObjectCall}
use Rattle.ob_interface.specs.View.{call_of}
use Rattle.wf_object.specs.View.{Object}
use Rattle.wf_table.specs.declared.process.Sizes.{Sizes}
use Rattle.wf_table.specs.declared.schedule.Turns.{Turns}
use Rattle.wf_table.specs.Meaning.{Meaning}
use Rattle.wf_table.specs.Object.{State, step_of}
use Rattle.wf_table.specs.Runs.{Act, IsRun, performed, run, submissions}
use Rattle.wf_table.specs.Schedule.{AreTurns, steps_of}
use Rattle.wf_table.specs.Start.{IsStart, sizes_of}
use Rattle.ob_desk_floor.specs.Floor.{Floor, IsFloor, HasNoTurns, floor_after, turns_in, with_submissions}
use Rattle.ob_desk_floor.specs.Submission.{submission_of}
use Rattle.ob_desk_floor.specs.declared.submission.Submission.{Submission}
use Rattle.ob_desk_floor.proofs.Submissions.{scripts_fit, submitted_records}
use Rattle.ob_desk_floor.proofs.Turns.{as_often, few_turns, once_more, times}

module _ {E Run : Type 0} (m : Meaning Run) (lawful : List ℤ → Type 0) (fits : ObjectCall → Type 0) (ready : Run → Type 0) where
  -- the run goes on by a step, and the count of its process by one
  pub floor_turned : (f : Floor E Run) (p : ℕ) → p < f.machine.sizes.processes → IsFloor m lawful fits ready f →
      IsRun m lawful fits ready f.machine.sizes.processes f.machine.opening (performed f.scripts (step_of m (sizes_of m f.machine.sizes.processes) f.machine.state p).records.schedule) (step_of m (sizes_of m f.machine.sizes.processes) f.machine.state p) →
      steps_of (step_of m f.machine.sizes f.machine.state p).records.schedule ≡ steps_of f.machine.state.records.schedule ++ p ∷ [] →
      IsFloor m lawful fits ready (floor_after m f p)
  floor_turned f p below h goes more = record {
    sizes = h.sizes;
    runs = subst (λ (z : Sizes). IsRun m lawful fits ready f.machine.sizes.processes f.machine.opening (performed f.scripts (step_of m z f.machine.state p).records.schedule) (step_of m z f.machine.state p)) (sym h.sizes) goes;
    each = length-set f.counts p (slice_index f.counts p + 1) ∙ h.each;
    counts = λ k within. counted k within more (nat_eq p k) refl;
  }
    where
      counted : (k : ℕ) → k < f.machine.sizes.processes → {steps : List ℕ} → steps ≡ steps_of f.machine.state.records.schedule ++ p ∷ [] → (b : Bool) → nat_eq p k ≡ b → slice_index (set f.counts p (slice_index f.counts p + 1)) k ≡ times k steps
      counted k within {steps} is true e =
          let same : p ≡ k = grind (arith, nat_tests, e) in
          let here : p < length f.counts = omega (arith, h.each, below) in
          subst (λ (j : ℕ). slice_index (set f.counts p (slice_index f.counts p + 1)) j ≡ times j steps) same
          (get_or-set_same f.counts p (slice_index f.counts p + 1) 0 here ∙ ap (λ (j : ℕ). j + 1) (h.counts p below) ∙ sym (once_more p (steps_of f.machine.state.records.schedule)) ∙ ap (times p) (sym is))
      counted k within {steps} is false e =
          let apart : k ≢ p = grind (arith, nat_tests, e) in
          get_or-set_other f.counts p k (slice_index f.counts p + 1) 0 apart ∙ h.counts k within ∙ sym (as_often k p (steps_of f.machine.state.records.schedule) e) ∙ ap (times k) (sym is)

  pub count_fits : (f : Floor E Run) (p : ℕ) → p < f.machine.sizes.processes → IsFloor m lawful fits ready f → All (AreTurns f.machine.sizes.processes) f.machine.state.records.schedule → length f.machine.state.records.schedule < 2 ^ 64 → slice_index f.counts p + 1 < 2 ^ 128
  count_fits f p below h turns few = rw (h.counts p below) (few_turns f.machine.sizes.processes f.machine.state.records.schedule p turns few)

  -- all calls submitted, and no step yet
  pub floor_begun : (o : Object E Run) (carried : Bool) (n : ℕ) (opening : List ℤ) (cs : List Submission) (counts : List ℕ) (start : State Run) → 0 < n → n ≤ 16 → lawful opening → All (λ c. fits (call_of c.call)) cs →
      o.sizes ≡ sizes_of m n → o.opening ≡ opening → IsStart ready (sizes_of m n) opening start → o.state ≡ run m (sizes_of m n) (submissions (map submission_of cs)) start → counts ≡ replicate n 0 →
      IsFloor m lawful fits ready (record { machine = o; carried = carried; scripts = map submission_of cs; counts = counts }) × HasNoTurns {E = E} {Run = Run} (record { machine = o; carried = carried; scripts = map submission_of cs; counts = counts })
  floor_begun o carried n opening cs counts start some few opens fit sizes opened begins leads zeros =
      let scripts = map submission_of cs in
      let same : o.sizes.processes ≡ n = ap (λ (z : Sizes). z.processes) sizes in
      let none : o.state.records.schedule ≡ [] = ap (λ (s : State Run). s.records.schedule) leads ∙ ap (λ (r : _). r.schedule) (submitted_records m (sizes_of m n) scripts start ∙ begins.records) in
      let runs : IsRun m lawful fits ready n opening (performed scripts o.state.records.schedule) o.state = record {
        some = some;
        few = few;
        opens = opens;
        fit = scripts_fit fits cs (steps_of o.state.records.schedule) fit;
        start = start;
        begins = begins;
        leads = ap (λ (ts : List Turns). run m (sizes_of m n) (performed scripts ts) start) none ∙ ap (λ (acts : List Act). run m (sizes_of m n) acts start) (append-nil (submissions scripts)) ∙ sym leads;
      } in (
        record {
          sizes = sizes ∙ ap (sizes_of m) (sym same);
          runs = subst (λ (block : List ℤ). IsRun m lawful fits ready o.sizes.processes block (performed scripts o.state.records.schedule) o.state) (sym opened) (subst (λ (k : ℕ). IsRun m lawful fits ready k opening (performed scripts o.state.records.schedule) o.state) (sym same) runs);
          each = ap length zeros ∙ length-replicate n 0 ∙ sym same;
          counts = λ p below. ap (λ (ks : List ℕ). slice_index ks p) zeros ∙ get_or-replicate n p 0 0 (omega (arith, below, same)) ∙ ap (λ (ts : List Turns). turns_in p ts) (sym none);
        },
        record { schedule = none; counts = zeros ∙ ap (λ (k : ℕ). replicate k 0) (sym same) },
      )

module _ {E Run : Type 0} (meaning : E → Meaning Run) (lawful : E → List ℤ → Type 0) (fits : E → ObjectCall → Type 0) (ready : E → Run → Type 0) where
  -- the machine of an engine, with all calls submitted
  pub floor_opened : (engine : E) (n : ℕ) (opening : List ℤ) (carried : Bool) (cs given : List Submission) (a b : Object E Run) (counts : List ℕ) → 0 < n → n ≤ 16 → lawful engine opening → All (λ c. fits engine (call_of c.call)) cs →
      a.engine ≡ engine → a.sizes ≡ sizes_of (meaning engine) n → a.opening ≡ opening → IsStart (ready engine) (sizes_of (meaning engine) n) opening a.state →
      b ≡ with_submissions (meaning a.engine) (map submission_of given) a → given ≡ cs → counts ≡ replicate n 0 →
      IsFloor (meaning engine) (lawful engine) (fits engine) (ready engine) (record { machine = b; carried = carried; scripts = map submission_of cs; counts = counts }) × HasNoTurns {E = E} {Run = Run} (record { machine = b; carried = carried; scripts = map submission_of cs; counts = counts })
  floor_opened engine n opening carried cs given a b counts some few opens fit engine_is sizes_are opening_is begins done given_are zeros =
      let led : b.state ≡ run (meaning engine) (sizes_of (meaning engine) n) (submissions (map submission_of cs)) a.state =
      ap (λ (o : Object E Run). o.state) done
      ∙ ap (λ (xs : List Submission). run (meaning a.engine) a.sizes (submissions (map submission_of xs)) a.state) given_are
      ∙ ap (λ (x : E). run (meaning x) a.sizes (submissions (map submission_of cs)) a.state) engine_is
      ∙ ap (λ (z : Sizes). run (meaning engine) z (submissions (map submission_of cs)) a.state) sizes_are in
      floor_begun (meaning engine) (lawful engine) (fits engine) (ready engine) b carried n opening cs counts a.state some few opens fit (ap (λ (o : Object E Run). o.sizes) done ∙ sizes_are) (ap (λ (o : Object E Run). o.opening) done ∙ opening_is) begins led zeros
