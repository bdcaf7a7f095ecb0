-- What a process keeps of standing replies while another one steps.
use Rattle.std.proofs.Common.{◌≡◌, ◌≢◌, ℕ, ◌+◌, ◌<◌, ◌≤◌, Bool, true, false, refl, sym, ap, ◌∙◌, arith}
use Rattle.std.specs.Prelude.{ℤ}
use Rattle.std.proofs.lemmas.Bool.{false≢true}
use Rattle.ll_cell.specs.Cell.{word_at}
use Rattle.wf_table.specs.declared.process.Label.{Label}
use Rattle.wf_table.specs.declared.process.Label.TheVariants.{Store, Take, Give}
use Rattle.wf_table.specs.declared.process.Sizes.{Sizes}
use Rattle.wf_table.specs.StepTable.{Process, part}
use Rattle.wf_table.specs.Labels.{copying, at_store, taking}
use Rattle.wf_table.specs.Helping.{Serving, has_copied}
use Rattle.wf_table.specs.HelpAndOrder.{phase}
use Rattle.wf_table.specs.Stands.{InPart, words_taken, Carries}
use Rattle.wf_table.proofs.StandingPlaces.{place_in}

pub store_copies : (l : Label) → at_store l ≡ true → copying l ≡ true
store_copies Store e = refl
store_copies l e = absurd (false≢true e)

pub taken_taking : (z : Sizes) (l : Label) (i x : ℕ) → x < words_taken z l i → taking l ≡ true
taken_taking z Take i x lt = refl
taken_taking z Give i x lt = refl
taken_taking z l i x lt = absurd (omega (arith, lt))

module _ {Run : Type 0} (z : Sizes) (S : ℕ → ℕ → Type 0) (w : ℕ → ℕ → ℤ) (root own p : ℕ) (linked : Bool) (y : Process Run) where
  -- behind a copy
  pub behind : copying y.label ≡ false → taking y.label ≡ false → (phase y.label ≡ Serving → ¬ S y.registers.j own) → (has_copied (phase y.label) ≡ true → linked ≡ true → (k i : ℕ) → k < z.processes → InPart z k i → S k root → w own i ≡ w root i) → Carries z S w root own p linked y
  behind copies takes unwritten copied = record {
    source = λ e. absurd (false≢true (sym copies ∙ e));
    carried = λ e. absurd (false≢true (sym copies ∙ store_copies y.label e));
    unwritten = unwritten;
    copied = copied;
    source_stands = λ e. absurd (false≢true (sym takes ∙ e));
    taken = λ x lt. absurd (false≢true (sym takes ∙ taken_taking z y.label y.registers.i x lt));
  }

  -- out of all that
  pub rests : copying y.label ≡ false → taking y.label ≡ false → has_copied (phase y.label) ≡ false → Carries z S w root own p linked y
  rests copies takes out = behind copies takes (λ e. absurd (false≢true (sym out ∙ ap has_copied e))) (λ e. absurd (false≢true (sym out ∙ e)))

  -- while it is copied
  pub copies_on : phase y.label ≢ Serving → has_copied (phase y.label) ≡ false → taking y.label ≡ false → ((k : ℕ) → S k own → S k y.registers.r) → (at_store y.label ≡ true → (k : ℕ) → k < z.processes → InPart z k y.registers.i → S k own → y.registers.acc ≡ w root y.registers.i) → Carries z S w root own p linked y
  copies_on other out takes source carried = record {
    source = λ _. source;
    carried = carried;
    unwritten = λ e. absurd (other e);
    copied = λ e. absurd (false≢true (sym out ∙ e));
    source_stands = λ e. absurd (false≢true (sym takes ∙ e));
    taken = λ x lt. absurd (false≢true (sym takes ∙ taken_taking z y.label y.registers.i x lt));
  }

  -- while the reply is taken
  pub takes_on : copying y.label ≡ false → has_copied (phase y.label) ≡ false → S p y.registers.r → ((x : ℕ) → x < words_taken z y.label y.registers.i → word_at y.replies x ≡ w root (part z p + x)) → Carries z S w root own p linked y
  takes_on copies out stands taken = record {
    source = λ e. absurd (false≢true (sym copies ∙ e));
    carried = λ e. absurd (false≢true (sym copies ∙ store_copies y.label e));
    unwritten = λ e. absurd (false≢true (sym out ∙ ap has_copied e));
    copied = λ e. absurd (false≢true (sym out ∙ e));
    source_stands = λ _. stands;
    taken = taken;
  }

-- another process's step
module _ {Run : Type 0} (z : Sizes) (S S' : ℕ → ℕ → Type 0) (w w' : ℕ → ℕ → ℤ) (root own p : ℕ) (q : Process Run) where
  -- that exchanges nothing: no reply stands that did not, and whose reply stands somewhere still stands wherever it did
  pub others_carry : (linked : Bool) → ((k b : ℕ) → S' k b → S k b) → ((k a b : ℕ) → S' k a → S k b → S' k b) → ((b : ℕ) → S p b → S' p b) → ((i : ℕ) → w' own i ≡ w own i) → ((i : ℕ) → w' root i ≡ w root i) → Carries z S w root own p linked q → Carries z S' w' root own p linked q
  others_carry linked down up mine owns roots h = record {
    source = λ e k s. up k own q.registers.r s (h.source e k (down k own s));
    carried = λ e k lt place s. h.carried e k lt place (down k own s) ∙ sym (roots q.registers.i);
    unwritten = λ e s. h.unwritten e (down q.registers.j own s);
    copied = λ e l k i lt place s. owns i ∙ h.copied e l k i lt place (down k root s) ∙ sym (roots i);
    source_stands = λ e. mine q.registers.r (h.source_stands e);
    taken = λ x lt. h.taken x lt ∙ sym (roots (part z p + x));
  }

  -- that exchanges: what stood still stands, in no block more but the new root; and the new root holds what stood in the old one
  pub exchanged_carries : (linked : Bool) (new : ℕ) → p < z.processes → own ≢ new → words_taken z q.label q.registers.i ≤ z.replies + 1 → ((k b : ℕ) → S k b → S' k b) → ((k b : ℕ) → b ≢ new → S' k b → S k b) → ((k b : ℕ) → S k b → S k root) → ((k i : ℕ) → k < z.processes → InPart z k i → S k root → w' new i ≡ w root i) → Carries z S w root own p linked q → Carries z S' w' new own p false q
  exchanged_carries linked new within apart few up down newest holds h = record {
    source = λ e k s. up k q.registers.r (h.source e k (down k own apart s));
    carried = λ e k lt place s. (let old = down k own apart s in h.carried e k lt place old ∙ sym (holds k q.registers.i lt place (newest k own old)));
    unwritten = λ e s. h.unwritten e (down q.registers.j own apart s);
    copied = λ e l. absurd (false≢true l);
    source_stands = λ e. up p q.registers.r (h.source_stands e);
    taken = λ x lt. h.taken x lt ∙ sym (holds p (part z p + x) within (place_in z p x (omega (arith, lt, few))) (newest p q.registers.r (h.source_stands (taken_taking z q.label q.registers.i x lt))));
  }
