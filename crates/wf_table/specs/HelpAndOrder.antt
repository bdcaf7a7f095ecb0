-- What every reached object keeps of help, of its order, and of exchanges behind a FLIP.
use Rattle.std.specs.Prelude.{◌≡◌, ℕ, ◌-◌, ◌<◌, ◌≤◌, Bool, ℤ, List, [], length, map, drop, slice_index, if◌then◌else◌}
use Rattle.std.specs.List.{range_with_len}
use Rattle.ll_cell.specs.Cell.{Cell, IsNumbered, is_linked, block_of}
use Rattle.wf_history.specs.declared.event.CallId.{CallId}
use Rattle.wf_table.specs.declared.process.Label.{Label}
use Rattle.wf_table.specs.declared.process.Label.TheVariants.{Next, Post, Flip, Try, Link, Load, Store, Check1, Mine, Seen, Fetch, Check2, Save, Enter, Body, Undo, Keep, Commit, Read, Take, Give}
use Rattle.wf_table.specs.declared.process.Sizes.{Sizes}
use Rattle.wf_table.specs.StepTable.{Process, own_block, toggle_in, announced_toggle}
use Rattle.wf_table.specs.Object.{Records, State}
use Rattle.wf_table.specs.Ranges.{IsShaped, IsInRange}
use Rattle.wf_table.specs.Each.{Each}
use Rattle.wf_table.specs.Copies.{AllCopyRoot}
use Rattle.wf_table.specs.Toggles.{AreBits, CountsFlips, flips}
use Rattle.wf_table.specs.Marks.{IsMarked}
use Rattle.wf_table.specs.Order.{own_numbers, applied_count, exchanges_in, NoneEmpty, IsTimed}
use Rattle.wf_table.specs.Fetched.{AllFetch}
use Rattle.wf_table.specs.Helping.{Standing, IsPending, Phase, Settled, Trying, Asking, Looking, Serving, IsHelping, IsCounted}

-- where each label stands in a call
abbrev pub phase : Label → Phase
phase Next = Settled
phase Post = Settled
phase Flip = Settled
phase Try = Trying
phase Link = Trying
phase Load = Trying
phase Store = Trying
phase Check1 = Trying
phase Mine = Asking
phase Seen = Looking
phase Fetch = Serving
phase Check2 = Serving
phase Save = Serving
phase Enter = Serving
phase Body = Serving
phase Undo = Serving
phase Keep = Serving
phase Commit = Looking
phase Read = Settled
phase Take = Settled
phase Give = Settled

-- how many rounds of the call are lost: who is not linked has lost the round that it is in
abbrev pub lost_rounds : Label → Bool → ℕ → ℕ
lost_rounds Next linked round = 0
lost_rounds Post linked round = 0
lost_rounds Flip linked round = 0
lost_rounds Try linked round = round
lost_rounds Link linked round = round - 1
lost_rounds Read linked round = 0
lost_rounds Take linked round = 0
lost_rounds Give linked round = 0
lost_rounds _ linked round = if linked then round - 1 else round

-- the toggles in the own block of a process
abbrev pub own_toggles : Sizes → Cell → ℕ → ℕ → ℤ
own_toggles z c p k = toggle_in z (own_block c p) k

module _ {Run : Type 0} where
  -- how many calls of the process in this place are announced
  abbrev pub flips_at : List (Process Run) → ℕ → ℕ
  flips_at ps p = slice_index (map flips ps) p

  -- the call of the process in this place that was announced last
  abbrev pub announced_call : List (Process Run) → ℕ → CallId
  announced_call ps p = record { process = p; number = flips_at ps p }

  -- what the second commit reads of an object
  abbrev pub standing : Sizes → Cell → List (Process Run) → Records → Standing
  standing z c ps r = record {
    flips = λ k. flips_at ps k;
    applied = λ k. applied_count r.order k;
    root = λ k. toggle_in z (block_of c c.root) k;
    announced = λ k. announced_toggle z c k;
    flip_mark = λ k. slice_index r.flip_marks k;
    root_mark = slice_index r.root_marks c.root;
  }

  -- of process p, which stands at q
  abbrev pub AllHelp : Sizes → Cell → List (Process Run) → Records → ℕ → Process Run → Type 0
  AllHelp z c ps r p q = IsHelping z.processes (standing z c ps r) p (is_linked c p) (own_toggles z c p) (phase q.label) q.registers.j (lost_rounds q.label (is_linked c p) q.registers.round)

  -- what the second commit stands on
  pub record IsFounded (z : Sizes) (c : Cell) (ps : List (Process Run)) (r : Records) : Type 0 where
    pub count : length ps ≡ z.processes
    pub shaped : IsShaped z c
    pub numbered : IsNumbered c.root c.own
    pub in_range : Each (λ _ q. IsInRange z q) ps
    pub bits : AreBits z c
    pub flip_parity : Each (λ p q. CountsFlips z c p q) ps
    pub marks : IsMarked z c.root r
    pub fronts : Each (AllCopyRoot c) ps

  -- one induction: the counts of calls, and what each process has done
  pub record IsHelpful (z : Sizes) (c : Cell) (ps : List (Process Run)) (r : Records) : Type 0 where
    pub counted : IsCounted z.processes (standing z c ps r)
    pub helping : Each (AllHelp z c ps r) ps

  -- the order, and the exchanges
  pub record IsOrdered (z : Sizes) (c : Cell) (ps : List (Process Run)) (r : Records) : Type 0 where
    -- applied counts: the calls of a process in the order are its first ones, in turn
    pub in_turn : (k : ℕ) → own_numbers k r.order ≡ range_with_len 1 (applied_count r.order k)
    pub of_object : (k : ℕ) → z.processes ≤ k → own_numbers k r.order ≡ []
    -- no empty exchange
    pub none_empty : NoneEmpty r.history
    -- the root's mark is behind every exchange
    pub none_later : exchanges_in (drop (slice_index r.root_marks c.root) r.history) ≡ 0
    -- at most one passed: while a call is pending, one exchange at most came after its FLIP
    pub one_passed : (k : ℕ) → k < z.processes → IsPending (standing z c ps r) k → exchanges_in (drop (slice_index r.flip_marks k) r.history) ≤ 1

  -- what every reached object keeps of its commits
  pub record IsCommitted (z : Sizes) (s : State Run) : Type 0 where
    pub helpful : IsHelpful z s.cell s.processes s.records
    pub ordered : IsOrdered z s.cell s.processes s.records
    pub timed : IsTimed s.records.history s.records.order
    pub fetched : Each (AllFetch s.cell) s.processes
