-- What a step of one process leaves of another's own block and served call.
use Rattle.std.proofs.Common.{◌≡◌, ◌≢◌, ℕ, ◌<◌, ◌≤◌, Bool, true, List, ◌++◌, get_or, refl, sym, ◌∙◌, arith, length-append}
use Rattle.std.specs.Prelude.{ℤ}
use Rattle.ob_interface.specs.Call.{ObjectCall, Reply}
use Rattle.wf_history.specs.declared.event.CallId.{CallId}
use Rattle.wf_history.specs.History.{Event}
use Rattle.wf_table.specs.declared.process.Label.{Label}
use Rattle.wf_table.specs.declared.process.Sizes.{Sizes}
use Rattle.wf_table.specs.Meaning.{Meaning}
use Rattle.wf_table.specs.StepTable.{Process, toggle_in}
use Rattle.wf_table.specs.Helping.{has_copied, looked_at}
use Rattle.wf_table.specs.HelpAndOrder.{phase}
use Rattle.wf_table.specs.Helps.{calls_of, served, Packs}
use Rattle.wf_table.specs.Labels.{holding}
use Rattle.wf_table.proofs.HelpOrders.{upto-append, begun_more, made_longer}
use Rattle.wf_table.proofs.HelpIds.{made_below-same}

module _ {Run : Type 0} (m : Meaning Run) (lawful : List ℤ → Type 0) (fits : ObjectCall → Type 0) (z : Sizes) (opening : List ℤ) where
  -- it reads the order, the root's toggles and the announced calls of those that were helped, while its process is linked
  pub others_packed : (history more : List (Event ObjectCall Reply)) (order order' : List CallId) (flips flips' : List ℕ) (linked linked' : Bool) (root root' own : List ℤ) (l : Label) (q : Process Run) → (linked' ≡ true → linked ≡ true) → (linked' ≡ true → order' ≡ order) → (linked' ≡ true → (k : ℕ) → k < z.processes → toggle_in z root' k ≡ toggle_in z root k) → (linked' ≡ true → (k : ℕ) → k < z.processes → toggle_in z own k ≢ toggle_in z root k → get_or flips' k 0 ≡ get_or flips k 0) → (linked' ≡ true → holding l ≡ true → get_or flips' q.registers.j 0 ≡ get_or flips q.registers.j 0) → (has_copied (phase l) ≡ true → looked_at (phase l) q.registers.j ≤ z.processes) → Packs m lawful fits z opening history order flips linked root own l q → Packs m lawful fits z opening (history ++ more) order' flips' linked' root' own l q
  others_packed history more order order' flips flips' linked linked' root root' own l q held orders roots numbers serves within old copied =
      let w = (old copied).0 in
      let h = (old copied).1 in
      let looked = looked_at (phase l) q.registers.j in (
        w,
        record {
          listed = record {
            within = omega (arith, h.listed.within, length-append history more);
            copied = h.listed.copied ∙ sym (upto-append w.length history more h.listed.within);
            below = h.listed.below;
            made = made_longer m lawful opening history more (calls_of w) w.words w.last h.listed.made;
          };
          current = λ on. (let now = h.current (held on) in record {
            before = now.before ∙ sym (orders on);
            helped = now.helped ∙ made_below-same z root own root' own flips flips' looked (λ k lt. sym (roots on k (omega (arith, lt, within copied)))) (λ k lt. refl) (λ k lt d. sym (numbers on k (omega (arith, lt, within copied)) (λ e. d (sym e))));
          });
          parts = h.parts;
          variables = h.variables;
          passed = λ holds. (let old = h.passed holds in record {
            begun = begun_more history more (served w q.registers.j) w.call old.begun;
            fit = old.fit;
            absent = old.absent;
            laid = old.laid;
            announced = λ on. old.announced (held on) ∙ sym (serves on holds);
          });
          works = h.works;
        },
      )
