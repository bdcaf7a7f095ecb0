-- Words of variables that are brought over or saved in a row.
use Rattle.std.specs.Prelude.{ℕ, ◌+◌, ◌-◌, nat_eq, if◌then◌else◌}
use Rattle.ll_cell.specs.Cell.{Cell, block_of, copied, word_at}
use Rattle.wf_table.specs.declared.process.Label.TheVariants.{Enter}
use Rattle.wf_table.specs.declared.process.Sizes.{Sizes}
use Rattle.wf_table.specs.StepTable.{Process, own_block}

module _ {Run : Type 0} where
  -- a process at LOAD, behind LOAD and STORE of so many words: at LOAD of the next one, with the last one at hand
  abbrev pub behind_loads : Cell → ℕ → Process Run → Process Run
  behind_loads c k q = record q { registers = record q.registers { i = q.registers.i + k; acc = word_at (block_of c q.registers.r) (q.registers.i + (k - 1)) } }

  -- process p at SAVE, behind so many words of its own block: at SAVE of the next one, or at ENTER where it was the last
  abbrev pub behind_saves : Sizes → Cell → (p : ℕ) → ℕ → Process Run → Process Run
  behind_saves z c p k q = record q {
    label = if nat_eq (q.registers.i + k) z.variables then Enter else q.label;
    registers = record q.registers { i = q.registers.i + k };
    save = copied q.registers.i k (own_block c p) q.save;
  }
