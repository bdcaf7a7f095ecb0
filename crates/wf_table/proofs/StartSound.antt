-- What an object has when it begins.
use Rattle.std.proofs.Common.{◌≡◌, ℕ, zero, suc, ◌+◌, ◌<◌, ◌≤◌, false, List, [], length, get_or, take, replicate, refl, sym, ap, arith, ◌∙◌, inl}
use Rattle.std.specs.Prelude.{ℤ, pos}
use Rattle.std.proofs.lemmas.Bool.{false≢true}
use Rattle.std.proofs.Math.Nat.{mul-le-mul_right}
use Rattle.std.proofs.lemmas.List.{length-replicate, get_or-replicate}
use Rattle.std.proofs.lemmas.List.Elements.{All-nil}
use Rattle.std.proofs.lemmas.List.FromFn.{length-range_with_len, get_or-range_with_len}
use Rattle.ll_cell.specs.Cell.{Cell, fresh, refill_own, link, word_at}
use Rattle.ll_cell.proofs.Numbered.{at_first}
use Rattle.ob_interface.specs.Call.{ObjectCall}
use Rattle.wf_table.specs.declared.process.Label.{Label}
use Rattle.wf_table.specs.declared.process.Sizes.{Sizes}
use Rattle.wf_table.specs.Meaning.{Meaning}
use Rattle.wf_table.specs.Law.{Effects, IsLawful}
use Rattle.wf_table.specs.StepTable.{Process, block_words, toggle_place, announced_toggle, Refill, Links, Exchanges}
use Rattle.wf_table.specs.Ranges.{IsSized, IsShaped, IsInRange}
use Rattle.wf_table.specs.Labels.{in_try, in_round, copying, at_store, at_post}
use Rattle.wf_table.specs.Each.{Each}
use Rattle.wf_table.specs.Toggles.{AreBits, CountsFlips}
use Rattle.wf_table.specs.Announcements.{LaysCall, words_laid}
use Rattle.wf_table.specs.Scripts.{CallsFit}
use Rattle.wf_table.specs.Marks.{IsMarked, applied_in}
use Rattle.wf_table.specs.Schedule.{AreTurns}
use Rattle.wf_table.specs.Below.{IdBelow, EventBelow}
use Rattle.wf_table.specs.Sound.{IsSound}
use Rattle.wf_table.specs.Start.{IsIdle, cell_at_start, records_at_start}
use Rattle.wf_table.proofs.KeepsAnnouncements.{still_announced}
use Rattle.wf_table.proofs.KeepsBits.{change_keeps}
use Rattle.wf_table.proofs.KeepsNumbers.{keeps_numbers}
use Rattle.wf_table.proofs.KeepsRanges.{keeps_shape}

same_rows : (n words b : ℕ) → b < length (replicate n (replicate words (pos 0))) → length (get_or (replicate n (replicate words (pos 0))) b []) ≡ words
same_rows n words b lt = ap length (get_or-replicate n b (replicate words (pos 0)) [] (omega (arith, lt, length-replicate n (replicate words (pos 0))))) ∙ length-replicate words (pos 0)

zeros : {X : Type 0} (x : X) (n k : ℕ) → get_or (replicate n x) k x ≡ x
zeros x zero k = refl
zeros x (suc n) zero = refl
zeros x (suc n) (suc k) = zeros x n k

pub zero_rows : (n words b k : ℕ) → word_at (get_or (replicate n (replicate words (pos 0))) b []) k ≡ pos 0
zero_rows zero words b k = refl
zero_rows (suc n) words zero k = zeros (pos 0) words k
zero_rows (suc n) words (suc b) k = zero_rows n words b k

module _ (z : Sizes) where
  abbrev first : Cell
  first = fresh z.processes (block_words z) (z.arguments + 1)

  shaped : IsShaped z first
  shaped = record {
    owns = length-range_with_len 1 z.processes;
    links = length-replicate z.processes false;
    blocks = length-replicate (z.processes + 1) (replicate (block_words z) (pos 0));
    announcements = length-replicate z.processes (replicate (z.arguments + 1) (pos 0));
    block = same_rows (z.processes + 1) (block_words z);
    announcement = same_rows z.processes (z.arguments + 1);
    root_in = omega arith;
    own_in = λ p lt. omega (arith, lt, length-range_with_len 1 z.processes, get_or-range_with_len 1 z.processes p 0 (omega (arith, lt, length-range_with_len 1 z.processes)));
  }

  bits : AreBits z first
  bits = record { bit = λ b q wb wq. inl (zero_rows (z.processes + 1) (block_words z) b (toggle_place z q)) }

  marked : (root : ℕ) → IsMarked z root (records_at_start z.processes)
  marked root = record {
    count_flips = length-replicate z.processes 0;
    count_roots = length-replicate (z.processes + 1) 0;
    flips = λ p lt. omega (arith, zeros {X = ℕ} 0 z.processes p);
    roots = λ b lt. omega (arith, zeros {X = ℕ} 0 (z.processes + 1) b);
    newest = omega (arith, zeros {X = ℕ} 0 (z.processes + 1) root);
    order = refl;
    since = ap (λ (k : ℕ). applied_in (take k [])) (zeros {X = ℕ} 0 (z.processes + 1) root);
  }

module _ {Run : Type 0} (m : Meaning Run) (fits : ObjectCall → Type 0) (ready : Run → Type 0) (z : Sizes) (q : Process Run) (h : IsIdle ready z q) where
  idle_in : IsSized z → IsInRange z q
  idle_in sized =
      let at = h.label in
      let g = h.registers in
      record {
        list = ap length h.list ∙ length-replicate z.arguments (pos 0);
        replies = ap length h.replies ∙ length-replicate (z.replies + 1) (pos 0);
        save = ap length h.save ∙ length-replicate z.variables (pos 0);
        r = rw g (omega arith);
        round = rw g (omega arith);
        begun = rw h.begun (omega arith);
        opened = λ e. absurd (false≢true (sym e ∙ rw at refl));
        tried = λ e. absurd (false≢true (sym (ap in_try at) ∙ e));
        index = rw at tt;
      }

  idle_fits : CallsFit fits q
  idle_fits = record { fit = λ k lt. absurd (omega (arith, lt, ap length h.calls)) }

  idle_lays : (c : Cell) (p : ℕ) → LaysCall m z c p q
  idle_lays c p = record {
    listed = λ e. absurd (false≢true (sym (ap at_post h.label) ∙ e));
    said = λ k lt. absurd (omega (arith, lt, ap (λ (l : Label). words_laid z l q.registers.i) h.label));
  }

  idle_flips : (c : Cell) (p : ℕ) → announced_toggle z c p ≡ pos 0 → CountsFlips z c p q
  idle_flips c p e = record { parity = e ∙ sym (rw (h.label, h.begun) refl) }

pub start_sound : {Run : Type 0} (m : Meaning Run) (lawful : List ℤ → Type 0) (fits : ObjectCall → Type 0) (ready : Run → Type 0) (z : Sizes) (block : List ℤ) (ps : List (Process Run)) → lawful block → IsSized z → length block ≡ z.variables → z.variables ≡ m.variables → z.replies ≡ m.replies → z.arguments ≡ m.arguments → length ps ≡ z.processes → Each (λ _ q. IsIdle ready z q) ps → IsSound m lawful fits ready z block (record { cell = cell_at_start z block; processes = ps; records = records_at_start z.processes })
start_sound m lawful fits ready z block ps opens sized long v r a count idle =
    let own : 0 < length (first z).own = omega (arith, sized.some, length-range_with_len 1 z.processes) in
    let refilled = refill_own (first z) 0 block in
    let linked = link refilled 0 in
    record {
      opens = opens;
      sized = sized;
      variables = v;
      replies = r;
      arguments = a;
      count = count;
      shaped = keeps_shape z linked 0 Exchanges sized.some (keeps_shape z refilled 0 Links sized.some (keeps_shape z (first z) 0 (Refill block) sized.some (shaped z)));
      numbered = keeps_numbers linked 0 Exchanges own (at_first z.processes);
      in_range = λ p q e. idle_in m fits ready z q (idle p q e) sized;
      below = record { history = All-nil (EventBelow z.processes); order = All-nil (IdBelow z.processes); schedule = All-nil (AreTurns z.processes) };
      runs_ready = λ p q e. (idle p q e).run;
      own_calls = λ p q e. record { calls = let none = (idle p q e).begun in rw none refl };
      calls_fit = λ p q e. idle_fits m fits ready z q (idle p q e);
      bits = change_keeps z linked 0 Exchanges tt (change_keeps z refilled 0 Links tt (change_keeps z (first z) 0 (Refill block) (omega (arith, long)) (bits z)));
      stores_bit = λ p q e. record { bit = λ s. absurd (false≢true (sym (ap at_store ((idle p q e).label)) ∙ s)) };
      flip_parity = λ p q e. idle_flips m fits ready z q (idle p q e) (cell_at_start z block) p (ap (λ (ws : List ℤ). word_at ws z.arguments) (still_announced linked 0 p Exchanges refl) ∙ zero_rows z.processes (z.arguments + 1) p z.arguments);
      laid_words = λ p q e. idle_lays m fits ready z q (idle p q e) (cell_at_start z block) p;
      own_events = λ p q e. record { turns = let at = (idle p q e).label in let none = (idle p q e).begun in rw (at, none) refl };
      in_turn = λ p. refl;
      marks = marked z _;
      links = λ p q e. record { held = λ i l. absurd (false≢true (sym (ap in_round ((idle p q e).label)) ∙ i)) };
      fronts = λ p q e. record { front = λ i. absurd (false≢true (sym (ap copying ((idle p q e).label)) ∙ i)); loaded = λ i. absurd (false≢true (sym (ap at_store ((idle p q e).label)) ∙ i)) };
    }

-- a lawful engine has few enough words
pub few_words : {Run : Type 0} (m : Meaning Run) (lawful : List ℤ → Type 0) (fits : ObjectCall → Type 0) (ready : Run → Type 0) (Effect : Effects) → IsLawful m lawful fits ready Effect → (z : Sizes) → z.processes ≤ 16 → 0 < z.processes → z.variables ≡ m.variables → z.replies ≡ m.replies → z.arguments ≡ m.arguments → IsSized z
few_words m lawful fits ready Effect law z few some v r a = record {
  processes = few;
  some = some;
  argument = omega (arith, a, law.has_argument);
  block = omega (arith, v, r, law.few_variables, law.few_replies, mul-le-mul_right {m = z.processes} {n = 16} (z.replies + 2) few);
  announcement = omega (arith, a, law.few_arguments);
}
