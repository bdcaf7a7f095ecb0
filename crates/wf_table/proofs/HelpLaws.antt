-- What the invariants say of the calls that a process serves.
use Rattle.std.proofs.Common.{◌≡◌, ℕ, true, List, map, refl, sym, ap, arith, subst}
use Rattle.std.specs.Prelude.{ℤ, Some, slice_get}
use Rattle.std.specs.List.{Contains}
use Rattle.ll_cell.specs.Cell.{is_linked, block_of}
use Rattle.ob_interface.specs.Call.{ObjectCall}
use Rattle.wf_history.specs.Legal.{OneAtATime, HasBegun}
use Rattle.wf_table.specs.declared.process.Label.{Label}
use Rattle.wf_table.specs.declared.process.Label.TheVariants.{Check2, Enter}
use Rattle.wf_table.specs.declared.process.Sizes.{Sizes}
use Rattle.wf_table.specs.Meaning.{Meaning}
use Rattle.wf_table.specs.Law.{Effects, IsLawful}
use Rattle.wf_table.specs.StepTable.{Process, own_block}
use Rattle.wf_table.specs.Object.{State}
use Rattle.wf_table.specs.Toggles.{flips}
use Rattle.wf_table.specs.Sound.{IsSound}
use Rattle.wf_table.specs.HelpAndOrder.{phase, IsCommitted}
use Rattle.wf_table.proofs.HelpAndOrderSteps.{member}
use Rattle.wf_table.specs.HelpAlone.{Alone}
use Rattle.wf_table.specs.Helps.{calls_of, served, Packs, IsHelped}
use Rattle.wf_table.specs.HelpedCalls.{ServesOpen, MakesAnother}
use Rattle.wf_table.proofs.Passed.{served_within, wanted_pending, number_is, call_absent, list_laid}

module _ {Run : Type 0} (m : Meaning Run) (lawful : List ℤ → Type 0) (fits : ObjectCall → Type 0) (z : Sizes) (opening : List ℤ) (s : State Run) (h : IsHelped m lawful fits z opening s) (p : ℕ) (q : Process Run) (at : slice_get s.processes p ≡ Some q) where
  -- ENTER
  pub makes_another : q.label ≡ Enter → MakesAnother m z s opening p q
  makes_another is =
      let old = subst (λ (l : Label). Packs m lawful fits z opening s.records.history s.records.order (map flips s.processes) (is_linked s.cell p) (block_of s.cell s.cell.root) (own_block s.cell p) l q) is (h.packed p q at) in
      let w = (old refl).0 in
      let mine = (old refl).1 in
      record {
        made_before = calls_of w;
        words = w.words;
        once = mine.listed.made.once;
        made = subst (λ (b : List ℤ). OneAtATime (HasBegun s.records.history) (Alone m) opening (calls_of w) w.words b) (sym (mine.variables refl)) mine.listed.made.made;
        id = served w q.registers.j;
        call = w.call;
        begun = (mine.passed refl).begun;
        laid = (mine.passed refl).laid;
        absent = (mine.passed refl).absent;
      }

  -- CHECK2
  pub serves_open : (ready : Run → Type 0) (Effect : Effects) (law : IsLawful m lawful fits ready Effect) → IsSound m lawful fits ready z opening s → IsCommitted z s → q.label ≡ Check2 → is_linked s.cell p ≡ true → ServesOpen m z s p q
  serves_open ready Effect law sound committed is linked =
      let pending = wanted_pending m lawful fits ready Effect law z opening s sound committed p q at is linked (h.fetched p q at) in
      let lt = served_within m lawful fits ready Effect law z opening s sound committed p q at is linked (h.fetched p q at) in
      let found = member s.processes q.registers.j (omega (arith, lt, sound.count)) in
      let number = number_is m lawful fits ready Effect law z opening s sound committed q.registers.j found.0 found.1 pending in
      record {
        served = found.0;
        stands = found.1;
        trying = λ e. (committed.helpful.helping q.registers.j found.0 found.1).settled e pending;
        laid = list_laid m lawful fits ready Effect law z opening s sound committed p q at is linked (h.fetched p q at) found.0 found.1;
        absent = subst (λ (n : ℕ). ¬ Contains s.records.order (record { process = q.registers.j; number = n })) number (call_absent m lawful fits ready Effect law z opening s sound committed q.registers.j found.0 found.1 pending);
        wanted = (committed.helpful.helping p q at).wanted_help (ap phase is) linked;
      }
