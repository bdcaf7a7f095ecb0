-- What steps of one body in a row come to.
use Rattle.std.specs.Prelude.{ℕ, take}
use Rattle.ll_cell.specs.Cell.{Cell, refill_own}
use Rattle.wf_table.specs.declared.process.Sizes.{Sizes}
use Rattle.wf_table.specs.Meaning.{Meaning, Turned, steps}
use Rattle.wf_table.specs.StepTable.{Process, after_body, own_block}

module _ {Run : Type 0} (m : Meaning Run) (z : Sizes) (c : Cell) (p : ℕ) (q : Process Run) where
  -- where the body of process p, which stands at q, stands behind so many steps on the variables of p's own block
  abbrev pub body_behind : ℕ → Turned Run
  body_behind k = steps m k q.run (take z.variables (own_block c p))

  -- the process then
  abbrev pub process_behind : ℕ → Process Run
  process_behind k = after_body z (body_behind k).turn (record q { run = (body_behind k).run })

  -- and the cell
  abbrev pub cell_behind : ℕ → Cell
  cell_behind k = refill_own c p (body_behind k).block
