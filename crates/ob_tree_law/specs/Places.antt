-- Where the work of the tree engine stands in the code, and when engine and machine are alike.
use Rattle.std.specs.Prelude.{◌≡◌, ℕ, ◌+◌, List, [], ◌∷◌, slice_get, Some, None}
use Rattle.ob_typing.specs.Program.{Program, While, Repeat}
use Rattle.ob_code_scheme.specs.Types.{Scope}
use Rattle.ob_code_words.specs.declared.instr.Instr.{Instr}
use Rattle.ob_code_words.specs.declared.instr.Instr.TheVariants as Instrs
use Rattle.ob_code_machine.specs.declared.saved.Saved.{Saved}
use Rattle.ob_code_machine.specs.Machine.{Configuration, Outcome, Unfinished, Returned, Trapped, Stuck, act, computed}
use Rattle.ob_code_scheme.specs.Scheme.{size, operations_size, designator_size, selectors_size, actuals_size, statement_size, statements_size, branches_size, over_size, entry_of, code_at, operations_at, designator_at, selectors_at, actuals_at, statement_at, statements_at, branches_at, over_code, HasAt}
use Rattle.ob_code_scheme.specs.Running.{Stand}
use Rattle.ob_tree_law.specs.Work.{Task, Value, Operators, Address, Selecting, Handing, Doing, All, Choosing, Instruction, AndThen, OrElse, Alternative, Over, Looping, Again, Until, Taking, Calling, Leaving, TreeState, Answer, On, Finished, Failed, Lost}

-- the machine does no more with it than its effect
abbrev pub IsPlain : Instr → Type 0
IsPlain i = (reserve : ℕ) (c : Configuration) → act reserve i c ≡ computed reserve i c

-- what a procedure that ends goes back to: nothing where no call is saved
abbrev pub GoesBack : (ℕ → List Saved → Type 0) → List Saved → Type 0
GoesBack then_reads [] = Unit {0}
GoesBack then_reads (s ∷ saved) = then_reads s.pc saved

-- for one code, of a module with the scope `globals`, where the procedures begin at these places
module _ (code : List Instr) (globals : Scope) (entry : ℕ → ℕ) where
  abbrev Fetch : ℕ → Instr → Type 0
  Fetch place i = slice_get code place ≡ Some i

  abbrev Has : ℕ → List Instr → Type 0
  Has = HasAt code

  -- a task stands at a place, and the work behind it where its code ends
  abbrev pub TaskReads : Task → (ℕ → List Saved → Type 0) → ℕ → List Saved → Type 0
  TaskReads (Value own e) behind pc saved = Has pc (code_at globals own pc e) × behind (pc + size own e) saved
  TaskReads (Operators own rest) behind pc saved =
      Has pc (operations_at globals own pc rest) × behind (pc + operations_size own rest) saved
  TaskReads (Address own d) behind pc saved =
      Has pc (designator_at globals own pc d) × behind (pc + designator_size own d) saved
  TaskReads (Selecting own type selectors) behind pc saved =
      Has pc (selectors_at globals own pc type selectors) × behind (pc + selectors_size own selectors) saved
  TaskReads (Handing own actuals) behind pc saved =
      Has pc (actuals_at globals own pc actuals) × behind (pc + actuals_size own actuals) saved
  TaskReads (Doing own s) behind pc saved =
      Has pc (statement_at globals own entry pc s) × behind (pc + statement_size own s) saved
  TaskReads (All own ss) behind pc saved =
      Has pc (statements_at globals own entry pc ss) × behind (pc + statements_size own ss) saved
  TaskReads (Choosing own branches) behind pc saved =
      Has pc (branches_at globals own entry pc branches) × behind (pc + branches_size own branches) saved
  TaskReads (Instruction i) behind pc saved = Fetch pc i × IsPlain i × behind (pc + 1) saved
  -- the jump leads behind the right side
  TaskReads (AndThen own right) behind pc saved =
      Fetch pc (Instrs.AndJump (pc + 1 + size own right)) × Has (pc + 1) (code_at globals own (pc + 1) right)
      × behind (pc + 1 + size own right) saved
  TaskReads (OrElse own right) behind pc saved =
      Fetch pc (Instrs.OrJump (pc + 1 + size own right)) × Has (pc + 1) (code_at globals own (pc + 1) right)
      × behind (pc + 1 + size own right) saved
  -- JF leads to the other alternatives, and the jump before them, where there are any, to their end
  TaskReads (Alternative own ss rest) behind pc saved =
      (end : ℕ)
      × Fetch pc (Instrs.JumpIfFalse (pc + 1 + statements_size own ss + over_size rest))
      × Has (pc + 1) (statements_at globals own entry (pc + 1) ss)
      × Has (pc + 1 + statements_size own ss) (over_code rest end)
      × Has (pc + 1 + statements_size own ss + over_size rest) (branches_at globals own entry (pc + 1 + statements_size own ss + over_size rest) rest)
      × (pc + 1 + statements_size own ss + over_size rest + branches_size own rest ≡ end)
      × behind end saved
  TaskReads Over behind pc saved = (end : ℕ) × Fetch pc (Instrs.Jump end) × behind end saved
  -- JF leads behind the whole loop, which begins at place a, and the jump at its end leads there
  TaskReads (Looping own condition body) behind pc saved =
      (a : ℕ)
      × Fetch pc (Instrs.JumpIfFalse (a + statement_size own (While condition body)))
      × Fetch (pc + 1) Instrs.Turn
      × Has (pc + 1 + 1) (statements_at globals own entry (pc + 1 + 1) body)
      × Fetch (pc + 1 + 1 + statements_size own body) (Instrs.Jump a)
      × Has a (statement_at globals own entry a (While condition body))
      × behind (a + statement_size own (While condition body)) saved
  TaskReads (Again own condition body) behind pc saved =
      (a : ℕ)
      × Fetch pc (Instrs.Jump a)
      × Has a (statement_at globals own entry a (While condition body))
      × behind (a + statement_size own (While condition body)) saved
  -- JF leads to the beginning of the loop, and the loop ends behind it
  TaskReads (Until own body condition) behind pc saved =
      (a : ℕ)
      × Fetch pc (Instrs.JumpIfFalse a)
      × Has a (statement_at globals own entry a (Repeat body condition))
      × (pc + 1 ≡ a + statement_size own (Repeat body condition))
      × behind (pc + 1) saved
  TaskReads Taking behind pc saved = Fetch pc Instrs.Turn × behind (pc + 1) saved
  TaskReads (Calling number parameters) behind pc saved =
      Fetch pc (Instrs.Call (entry number) parameters) × behind (pc + 1) saved
  -- the work behind it stands behind the last call
  TaskReads Leaving behind pc saved = Fetch pc Instrs.Return × GoesBack behind saved

  -- work stands at a place, with these calls saved; where no work is left, no instruction is there
  abbrev pub Reads : List Task → ℕ → List Saved → Type 0
  Reads [] pc saved = slice_get code pc ≡ None
  Reads (t ∷ rest) pc saved = TaskReads t (Reads rest) pc saved

-- ---- engine and machine

abbrev pub frames_of : List Saved → List ℕ
frames_of [] = []
frames_of (s ∷ saved) = s.fp ∷ frames_of saved

-- the engine where the machine is, with this work
abbrev pub tree_at : List Task → Configuration → TreeState
tree_at work c = record {
  block = c.block;
  body = record { work = work; stack = c.body.stack; fp = c.body.fp; saved = frames_of c.body.saved; turns = c.body.turns };
}

-- what the engine and the machine come to is the same; and where they go on, the engine is where the machine is
abbrev pub Alike : (List Task → ℕ → List Saved → Type 0) → Answer → Outcome → Type 0
Alike reads (On t) (Unfinished c) = (work : List Task) × (t ≡ tree_at work c) × reads work c.body.pc c.body.saved
Alike reads (Finished block stack) (Returned block' stack') = (block ≡ block') × (stack ≡ stack')
Alike reads (Failed k) (Trapped k') = k ≡ k'
Alike reads Lost Stuck = Unit {0}
Alike reads _ _ = ⊥

-- of the code of a program: each procedure stands at its entry, and nothing where another one would
pub record IsPlaced (program : Program) (code : List Instr) : Type 0 where
  pub stand : Stand program code
  pub none : (i : ℕ) → slice_get program.procedures i ≡ None → slice_get code (entry_of program.procedures i) ≡ None
