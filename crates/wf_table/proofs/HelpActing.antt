-- What a step leaves of the own block and the served call of the process that takes it: every row.
use Rattle.std.proofs.Common.{◌≡◌, ℕ, ◌+◌, ◌<◌, ◌≤◌, Bool, true, false, List, length, set, take, refl, sym, ap, ◌∙◌, arith, cond, inl, inr, subst, int_eq}
use Rattle.std.specs.Prelude.{ℤ, Some, slice_get, nat_eq, nat_lt}
use Rattle.std.proofs.lemmas.Bool.{cases_eq, eq-eqb, false≢true}
use Rattle.std.proofs.lemmas.List.{length-take-le}
use Rattle.std.proofs.lemmas.Option.{slice_get_within}
use Rattle.ll_cell.specs.Cell.{own_of, is_linked, block_of, word_at, announcement_of}
use Rattle.ob_interface.specs.Call.{ObjectCall}
use Rattle.wf_table.specs.declared.process.Label.{Label}
use Rattle.wf_table.specs.declared.process.Label.TheVariants.{Next, Post, Flip, Try, Link, Load, Store, Check1, Mine, Seen, Fetch, Check2, Save, Enter, Body, Undo, Keep, Commit, Read, Take, Give}
use Rattle.wf_table.specs.declared.process.Sizes.{Sizes}
use Rattle.wf_table.specs.Meaning.{Meaning}
use Rattle.wf_table.specs.Law.{Effects, IsLawful}
use Rattle.wf_table.specs.Labels.{copying}
use Rattle.wf_table.specs.Ranges.{index_in}
use Rattle.wf_table.specs.StepTable.{Process, cell_after, row, body_turn, own_block, toggle_in, announced_toggle, block_words, kept_word, part}
use Rattle.wf_table.specs.Object.{State}
use Rattle.wf_table.specs.Sound.{IsSound}
use Rattle.wf_table.specs.Helping.{has_copied, looked_at, IsHelping}
use Rattle.wf_table.specs.HelpAndOrder.{phase, lost_rounds, standing, own_toggles, IsCommitted}
use Rattle.wf_table.specs.Helps.{IsHelped}
use Rattle.wf_table.proofs.Words.{same_words}
use Rattle.wf_table.proofs.Passed.{passed}
use Rattle.wf_table.proofs.HelpRows.{Now, Then, own_written, own_refilled, at_check1, at_mine, at_seen, at_fetch, at_check2, at_save, at_enter, at_body, at_undo, at_keep}

module _ {Run : Type 0} (m : Meaning Run) (lawful : List ℤ → Type 0) (fits : ObjectCall → Type 0) (ready : Run → Type 0) (Effect : Effects) (law : IsLawful m lawful fits ready Effect) (z : Sizes) (opening : List ℤ) (s : State Run) (sound : IsSound m lawful fits ready z opening s) (committed : IsCommitted z s) (h : IsHelped m lawful fits z opening s) (p : ℕ) (q : Process Run) (at : slice_get s.processes p ≡ Some q) where
  abbrev Then_at : List ℤ → Process Run → Type 0
  Then_at own x = Then m lawful fits ready Effect law z opening sound.variables sound.replies s.cell s.processes s.records p q own x

  abbrev Now_at : Label → Process Run → Type 0
  Now_at l x = Now m lawful fits ready Effect law z opening sound.variables sound.replies s.cell s.processes s.records p q (own_block s.cell p) l x

  within : p < length s.cell.own
  within = omega (arith, slice_get_within s.processes p q at, sound.count, sound.shaped.owns)

  block_within : own_of s.cell p < length s.cell.blocks
  block_within = omega (arith, sound.shaped.own_in p within, sound.shaped.blocks)

  long : length (own_block s.cell p) ≡ block_words z
  long = sound.shaped.block (own_of s.cell p) block_within

  index : (l : Label) → q.label ≡ l → index_in z l q.registers
  index l is = subst (λ (k : Label). index_in z k q.registers) is (sound.in_range p q at).index

  old : (l : Label) → q.label ≡ l → Now_at l q
  old l is = subst (λ (k : Label). Now_at k q) is (h.packed p q at)

  -- a whole copy
  whole : q.label ≡ Check1 → is_linked s.cell p ≡ true → own_block s.cell p ≡ block_of s.cell s.cell.root
  whole is linked =
      let root : length (block_of s.cell s.cell.root) ≡ block_words z = sound.shaped.block s.cell.root (omega (arith, sound.shaped.root_in, sound.shaped.blocks)) in
      same_words (own_block s.cell p) (block_of s.cell s.cell.root) (long ∙ sym root) (λ k lt. (sound.fronts p q at).front (ap copying is) linked k (omega (arith, lt, long, index Check1 is)))

  -- a process that has not been looked at has the toggle of the root in the own block
  unseen : (l : Label) → q.label ≡ l → has_copied (phase l) ≡ true → looked_at (phase l) q.registers.j ≤ q.registers.j → q.registers.j < z.processes → is_linked s.cell p ≡ true → toggle_in z (own_block s.cell p) q.registers.j ≡ toggle_in z (block_of s.cell s.cell.root) q.registers.j
  unseen l is copied looked lt linked =
      let helping = subst (λ (k : Label). IsHelping z.processes (standing z s.cell s.processes s.records) p (is_linked s.cell p) (own_toggles z s.cell p) (phase k) q.registers.j (lost_rounds k (is_linked s.cell p) q.registers.round)) is (committed.helpful.helping p q at) in
      elim (helping.own_toggles copied linked q.registers.j lt) [
        | inl same ↦ same
        | inr made ↦ absurd (omega (arith, made.0, looked))
      ]

  few : length (body_turn m z s.cell p q).block ≡ z.variables
  few =
      let variables : length (take z.variables (own_block s.cell p)) ≡ z.variables = length-take-le z.variables (own_block s.cell p) (omega (arith, long)) in
      law.length_step q.run (take z.variables (own_block s.cell p)) (sound.runs_ready p q at) (variables ∙ sound.variables) ∙ variables

  nothing : (own : List ℤ) (x : Process Run) → has_copied (phase x.label) ≡ false → Then_at own x
  nothing own x none e = absurd (false≢true (sym none ∙ e))

  uncopied_or : (b : Bool) (x y : Process Run) → has_copied (phase x.label) ≡ false → has_copied (phase y.label) ≡ false → has_copied (phase (cond b x y).label) ≡ false
  uncopied_or true x y e f = e
  uncopied_or false x y e f = f

  pub acts : (l : Label) → q.label ≡ l → Then_at (own_block (cell_after s.cell p (row l m z s.cell p q).change) p) (row l m z s.cell p q).process
  acts Next is = nothing _ _ (uncopied_or (nat_lt q.begun (length q.calls)) _ _ refl (ap (λ (l : Label). has_copied (phase l)) is))
  acts Post is = nothing _ _ (elim (nat_eq (q.registers.i + 1) z.arguments) as (λ b. has_copied (phase (cond b Flip q.label)) ≡ false) [ true ↦ refl | false ↦ ap (λ (l : Label). has_copied (phase l)) is ])
  acts Flip is = nothing _ _ refl
  acts Try is = nothing _ _ (uncopied_or (nat_eq q.registers.round 2) _ _ refl refl)
  acts Link is = nothing _ _ refl
  acts Load is = nothing _ _ refl
  acts Store is = nothing _ _ (elim (nat_eq (q.registers.i + 1) (block_words z)) as (λ b. has_copied (phase (cond b Check1 Load)) ≡ false) [ true ↦ refl | false ↦ refl ])
  acts Check1 is = at_check1 m lawful fits ready Effect law z opening sound.variables sound.replies s.cell s.processes s.records p q (is_linked s.cell p) refl (whole is) (sym sound.marks.order) h.root (λ k lt. committed.helpful.counted.root k lt)
  acts Mine is = at_mine m lawful fits ready Effect law z opening sound.variables sound.replies s.cell s.processes s.records p q (int_eq (toggle_in z (own_block s.cell p) p) (announced_toggle z s.cell p)) (old Mine is)
  acts Seen is =
      at_seen m lawful fits ready Effect law z opening sound.variables sound.replies s.cell s.processes s.records p q (nat_eq q.registers.j z.processes) (int_eq (announced_toggle z s.cell q.registers.j) (toggle_in z (own_block s.cell p) q.registers.j)) q.label is
      (λ none linked. unseen Seen is refl (omega arith) (elim (cases_eq q.registers.j z.processes) [ inl e ↦ (let no = eq-eqb q.registers.j z.processes e in absurd (false≢true (sym none ∙ no))) | inr d ↦ omega (arith, d, index Seen is) ]) linked)
      (old Seen is)
  acts Fetch is = at_fetch m lawful fits ready Effect law z opening sound.variables sound.replies s.cell s.processes s.records p q (nat_eq (q.registers.i + 1) z.arguments) q.label (set q.list q.registers.i (word_at (announcement_of s.cell q.registers.j) q.registers.i)) is (old Fetch is)
  acts Check2 is = at_check2 m lawful fits ready Effect law z opening sound.variables sound.replies s.cell s.processes s.records p q (is_linked s.cell p) refl (sound.in_range p q at).save (sym sound.marks.order) (λ linked. passed m lawful fits ready Effect law z opening s sound committed p q at is linked (h.fetched p q at)) (old Check2 is)
  acts Save is =
      let places = index Save is in
      at_save m lawful fits ready Effect law z opening sound.variables sound.replies s.cell s.processes s.records p q (nat_eq (q.registers.i + 1) z.variables) q.label (set q.save q.registers.i (word_at (own_block s.cell p) q.registers.i)) refl is (sound.in_range p q at).save places.0 (omega (arith, places.1)) refl (old Save is)
  acts Enter is = (let place : q.registers.j < z.processes = index Enter is in at_enter m lawful fits ready Effect law z opening sound.variables sound.replies s.cell s.processes s.records p q (omega (arith, place)) (old Enter is))
  acts Body is =
      subst (λ (own : List ℤ). Then_at own (row Body m z s.cell p q).process) (sym (own_refilled s.cell p block_within (body_turn m z s.cell p q).block))
      (at_body m lawful fits ready Effect law z opening sound.variables sound.replies s.cell s.processes s.records p q (body_turn m z s.cell p q).turn refl is long (index Body is) few (old Body is))
  acts Undo is =
      let places = index Undo is in
      subst (λ (own : List ℤ). Then_at own (row Undo m z s.cell p q).process) (sym (own_written s.cell p block_within q.registers.i (word_at q.save q.registers.i)))
      (at_undo m lawful fits ready Effect law z opening sound.variables sound.replies s.cell s.processes s.records p q (nat_eq (q.registers.i + 1) z.variables) refl long places.1 places.0 (old Undo is))
  acts Keep is =
      let places = index Keep is in
      subst (λ (own : List ℤ). Then_at own (row Keep m z s.cell p q).process) (sym (own_written s.cell p block_within (part z q.registers.j + q.registers.i) (kept_word m z s.cell p q)))
      (at_keep m lawful fits ready Effect law z opening sound.variables sound.replies s.cell s.processes s.records p q (nat_eq (q.registers.i + 1) (z.replies + 2)) refl long places.1 places.0 (unseen Keep is refl (omega arith) places.1) (old Keep is))
  acts Commit is = nothing _ _ (uncopied_or (is_linked s.cell p) _ _ refl refl)
  acts Read is = nothing _ _ refl
  acts Take is = nothing _ _ (elim (nat_eq (q.registers.i + 1) (z.replies + 1)) as (λ b. has_copied (phase (cond b Give q.label)) ≡ false) [ true ↦ refl | false ↦ ap (λ (l : Label). has_copied (phase l)) is ])
  acts Give is = nothing _ _ refl
