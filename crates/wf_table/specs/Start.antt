-- Where an object begins.
use Rattle.std.specs.Prelude.{◌≡◌, ℕ, ◌+◌, ℤ, pos, List, [], replicate, length}
use Rattle.ll_cell.specs.Cell.{Cell, fresh, refill_own, link, exchange}
use Rattle.wf_table.specs.declared.process.Label.TheVariants.{Next}
use Rattle.wf_table.specs.declared.process.Sizes.{Sizes}
use Rattle.wf_table.specs.Meaning.{Meaning}
use Rattle.wf_table.specs.StepTable.{Process, block_words}
use Rattle.wf_table.specs.Object.{State, Records}
use Rattle.wf_table.specs.Each.{Each}

-- the block enters by process 0's own block and one exchange
abbrev pub cell_at_start : Sizes → List ℤ → Cell
cell_at_start z block = exchange (link (refill_own (fresh z.processes (block_words z) (z.arguments + 1)) 0 block) 0) 0

abbrev pub records_at_start : ℕ → Records
records_at_start n = record { history = []; order = []; schedule = []; flip_marks = replicate n 0; root_marks = replicate (n + 1) 0 }

pub record IsIdle {Run : Type 0} (ready : Run → Type 0) (z : Sizes) (q : Process Run) : Type 0 where
  pub label : q.label ≡ Next
  pub calls : q.calls ≡ []
  pub begun : q.begun ≡ 0
  pub registers : q.registers ≡ record { r = 0; acc = pos 0; i = 0; j = 0; round = 0; status = pos 0 }
  pub list : q.list ≡ replicate z.arguments (pos 0)
  pub replies : q.replies ≡ replicate (z.replies + 1) (pos 0)
  pub save : q.save ≡ replicate z.variables (pos 0)
  pub run : ready q.run

pub record IsStart {Run : Type 0} (ready : Run → Type 0) (z : Sizes) (block : List ℤ) (s : State Run) : Type 0 where
  pub cell : s.cell ≡ cell_at_start z block
  pub count : length s.processes ≡ z.processes
  pub idle : Each (λ _ q. IsIdle ready z q) s.processes
  pub records : s.records ≡ records_at_start z.processes

abbrev pub sizes_of : {Run : Type 0} → Meaning Run → ℕ → Sizes
sizes_of m n = record { processes = n; variables = m.variables; replies = m.replies; arguments = m.arguments }
