-- One step of the tree engine and one instruction of the code do the same.
use Rattle.std.proofs.Common.{◌≡◌, ℕ, zero, suc, ◌+◌, ◌-◌, Bool, true, false, ℤ, pos, List, [], ◌∷◌, length, take, Option, Some, None, refl, subst, sym, arith}
use Rattle.std.specs.Prelude.{slice_get, nat_le, nat_lt, if◌then◌else◌}
use Rattle.std.specs.Ordering.{int_eq}
use Rattle.ob_typing.specs.Program.{Branches, no_branch, otherwise, branch, Procedure, Program, While, Repeat}
use Rattle.ob_code_scheme.specs.Types.{Scope, variables_scope}
use Rattle.ob_code_words.specs.declared.instr.Instr.{Instr}
use Rattle.ob_code_words.specs.declared.instr.Instr.TheVariants as Instrs
use Rattle.ob_code_words.specs.Words.{Made, Gives, Traps, Sticks}
use Rattle.ob_code_words.specs.Effect.{popped, effect}
use Rattle.ob_code_machine.specs.declared.argument.Argument.{Argument}
use Rattle.ob_code_machine.specs.Body.{enter}
use Rattle.ob_code_machine.specs.declared.saved.Saved.{Saved}
use Rattle.ob_code_machine.specs.Machine.{Configuration, Outcome, Unfinished, Returned, Trapped, Stuck, made_then, goes_on, taking_turn, entering, called, back_to, act, act_at, turn, carried, exec}
use Rattle.ob_code_scheme.specs.Scheme.{over_size, size, statement_size, statements_size, branches_size, over_code, entry_of, HasAt}
use Rattle.ob_tree_law.proofs.Opened.{open_procedure}
use Rattle.ob_tree_law.specs.Work.{Task, Value, Doing, All, Choosing, Instruction, AndThen, OrElse, Alternative, Over, Looping, Again, Until, Taking, Calling, Leaving, over_tasks, parts, opened, TreeState, Answer, On, Finished, Failed, Lost, made_on, taking, procedure_tasks, tree_start, beginning_with, leaving_to, does, does_first, step, carried_on, steps}
use Rattle.ob_tree_law.specs.Places.{GoesBack, Reads, frames_of, tree_at, Alike, IsPlaced}
use Rattle.ob_tree_law.proofs.Opening.{opened_kept}
use Rattle.ob_tree_law.proofs.Ready.{IsReady, opened_ready}

frames_long : (saved : List Saved) → length (frames_of saved) ≡ length saved
frames_long [] = refl
frames_long (s ∷ saved) = let h = frames_long saved in omega (arith, h)

module _ (program : Program) (code : List Instr) (reserve : ℕ) (placed : IsPlaced program code) where
  abbrev globals : Scope
  globals = variables_scope program.variables

  abbrev entry : ℕ → ℕ
  entry = entry_of program.procedures

  abbrev Stands : List Task → ℕ → List Saved → Type 0
  Stands = Reads code globals entry

  abbrev Same : Answer → Outcome → Type 0
  Same = Alike Stands

  abbrev Fetch : ℕ → Instr → Type 0
  Fetch place i = slice_get code place ≡ Some i

  moved : (work : List Task) (saved : List Saved) (m n : ℕ) → m ≡ n → Stands work m saved → Stands work n saved
  moved work saved m n e r = subst (λ (pc : ℕ). Stands work pc saved) e r

  -- both go on
  goes : (work : List Task) (c : Configuration) → Stands work c.body.pc c.body.saved → Same (On (tree_at work c)) (Unfinished c)
  goes work c r = (work, refl, r)

  -- ---- the same test, and the same made

  same_if : (b : Bool) (x y : Answer) (x' y' : Outcome) → Same x x' → Same y y' → Same (if b then x else y) (if b then x' else y')
  same_if true x y x' y' h k = h
  same_if false x y x' y' h k = k

  same_made : {A : Type 0} (m : Made A) (go : A → Answer) (go' : A → Outcome) → ((a : A) → Same (go a) (go' a)) → Same (made_on m go) (made_then m go')
  same_made (Gives a) go go' h = h a
  same_made (Traps k) go go' h = refl
  same_made Sticks go go' h = tt

  same_turn : (turns : ℕ) (go : ℕ → Answer) (go' : ℕ → Outcome) → ((left : ℕ) → Same (go left) (go' left)) → Same (taking turns go) (taking_turn turns go')
  same_turn zero go go' h = refl
  same_turn (suc left) go go' h = h left

  -- behind an alternative
  over_stands : (own : Scope) (others : Branches) (rest : List Task) (pc end : ℕ) (saved : List Saved) → HasAt code pc (over_code others end) →
      pc + over_size others + branches_size own others ≡ end → Stands rest end saved → Stands (over_tasks others rest) pc saved
  over_stands own no_branch rest pc end saved h at r = moved rest saved end pc (omega (arith, at)) r
  over_stands own (otherwise ss) rest pc end saved h at r = (end, h.0, r)
  over_stands own (branch condition ss others) rest pc end saved h at r = (end, h.0, r)

  -- ---- the work of a procedure at its entry

  procedure_stands : (number : ℕ) (rest : List Task) (saved : List Saved) (p : Option Procedure) → slice_get program.procedures number ≡ p →
      GoesBack (Stands rest) saved → Stands (procedure_tasks p rest) (entry number) saved
  procedure_stands number rest saved None h back = placed.none number h
  procedure_stands number rest saved (Some p) h back =
      let s = open_procedure code globals entry (entry number) p (placed.stand number p h) in
      (s.0, λ reserve c. refl, (s.1, (s.2, back)))

  -- ---- RET

  leaves : (c : Configuration) (work0 rest : List Task) (stack : List ℤ) (saved : List Saved) → GoesBack (Stands rest) saved →
      Same (leaving_to (frames_of saved) rest stack (tree_at work0 c)) (back_to saved stack c)
  leaves c work0 rest stack [] back = (refl, refl)
  leaves c work0 rest stack (s ∷ saved) back =
      goes rest (record c { body = record c.body { pc = s.pc; stack = stack; fp = s.fp; saved = saved } }) back

  -- ---- one step

  module _ (before : List Task) (c : Configuration) where
    abbrev here : ℕ
    here = c.body.pc

    abbrev saved : List Saved
    saved = c.body.saved

    abbrev tree : TreeState
    tree = tree_at before c

    -- the machine at another place, with another stack
    abbrev at : ℕ → List ℤ → Configuration
    at place stack = record c { body = record c.body { pc = place; stack = stack } }

    -- what is alike with an instruction that stands here
    fetched : (i : Instr) (o : Answer) → Fetch here i → Same o (act reserve i c) → Same o (turn code reserve c)
    fetched i o h k = subst (λ (x : Option Instr). Same o (act_at reserve x c)) (sym h) k

    does_alike : (t : Task) (rest : List Task) → parts globals t ≡ None → Stands (t ∷ rest) here saved →
        Same (does program reserve t rest tree) (turn code reserve c)
    does_alike (Instruction i) rest ready r =
        fetched i (does program reserve (Instruction i) rest tree) r.0
        (subst (Same (does program reserve (Instruction i) rest tree)) (sym (r.1 reserve c))
        (same_made (effect reserve c.body.fp i c.block c.body.stack) _ (goes_on c)
        (λ made. goes rest (record { block = made.0; body = record c.body { pc = here + 1; stack = made.1 } }) r.2)))
    does_alike (AndThen own right) rest ready r =
        fetched (Instrs.AndJump (here + 1 + size own right)) (does program reserve (AndThen own right) rest tree) r.0
        (same_made (popped c.body.stack) _ _
        (λ x. same_if (int_eq x.0 (pos 0)) _ _ _ _ (goes rest (at (here + 1 + size own right) c.body.stack) r.2) (goes (Value own right ∷ rest) (at (here + 1) x.1) (r.1, r.2))))
    does_alike (OrElse own right) rest ready r =
        fetched (Instrs.OrJump (here + 1 + size own right)) (does program reserve (OrElse own right) rest tree) r.0
        (same_made (popped c.body.stack) _ _
        (λ x. same_if (int_eq x.0 (pos 1)) _ _ _ _ (goes rest (at (here + 1 + size own right) c.body.stack) r.2) (goes (Value own right ∷ rest) (at (here + 1) x.1) (r.1, r.2))))
    does_alike (Alternative own ss others) rest ready r =
        let over = here + 1 + statements_size own ss in
        let next = over + over_size others in
        let behind : next + branches_size own others ≡ r.0 = r.5 in
        fetched (Instrs.JumpIfFalse next) (does program reserve (Alternative own ss others) rest tree) r.1
        (same_made (popped c.body.stack) _ _
        (λ x. same_if (int_eq x.0 (pos 0)) _ _ _ _
        (goes (Choosing own others ∷ rest) (at next x.1) (r.4, moved rest saved r.0 (next + branches_size own others) (sym behind) r.6))
        (goes (All own ss ∷ over_tasks others rest) (at (here + 1) x.1) (r.2, over_stands own others rest over r.0 saved r.3 behind r.6))))
    does_alike Over rest ready r = fetched (Instrs.Jump r.0) (does program reserve Over rest tree) r.1 (goes rest (at r.0 c.body.stack) r.2)
    does_alike (Looping own condition body) rest ready r =
        let end = r.0 + statement_size own (While condition body) in
        fetched (Instrs.JumpIfFalse end) (does program reserve (Looping own condition body) rest tree) r.1
        (same_made (popped c.body.stack) _ _
        (λ x. same_if (int_eq x.0 (pos 0)) _ _ _ _ (goes rest (at end x.1) r.6)
        (goes (Taking ∷ All own body ∷ Again own condition body ∷ rest) (at (here + 1) x.1) (r.2, (r.3, (r.0, r.4, r.5, r.6))))))
    does_alike (Again own condition body) rest ready r =
        fetched (Instrs.Jump r.0) (does program reserve (Again own condition body) rest tree) r.1
        (goes (Doing own (While condition body) ∷ rest) (at r.0 c.body.stack) (r.2, r.3))
    does_alike (Until own body condition) rest ready r =
        fetched (Instrs.JumpIfFalse r.0) (does program reserve (Until own body condition) rest tree) r.1
        (same_made (popped c.body.stack) _ _
        (λ x. same_if (int_eq x.0 (pos 0)) _ _ _ _
        (goes (Doing own (Repeat body condition) ∷ rest) (at r.0 x.1) (r.2, moved rest saved (here + 1) (r.0 + statement_size own (Repeat body condition)) r.3 r.4))
        (goes rest (at (here + 1) x.1) r.4)))
    does_alike Taking rest ready r =
        fetched Instrs.Turn (does program reserve Taking rest tree) r.0
        (same_turn c.body.turns _ _ (λ left. goes rest (record c { body = record c.body { pc = here + 1; turns = left } }) r.1))
    does_alike (Calling number parameters) rest ready r =
        let work = procedure_tasks (slice_get program.procedures number) rest in
        let back : Saved = record { pc = here + 1; fp = c.body.fp } in
        fetched (Instrs.Call (entry number) parameters) (does program reserve (Calling number parameters) rest tree) r.0
        (subst
        (λ (n : ℕ). Same (if nat_le 63 n then Failed 4 else taking c.body.turns (beginning_with work parameters tree)) (called (entry number) parameters c))
        (sym (frames_long saved))
        (same_if (nat_le 63 (length saved)) _ _ _ _ refl
        (same_turn c.body.turns (beginning_with work parameters tree) (entering (entry number) parameters c)
        (λ left. same_if (nat_le parameters (length c.body.stack)) _ _ _ _
        (goes work
        (record c { body = record { pc = entry number; stack = c.body.stack; fp = length c.body.stack - parameters; saved = back ∷ saved; turns = left } })
        (procedure_stands number rest (back ∷ saved) (slice_get program.procedures number) refl r.1))
        tt))))
    does_alike Leaving rest ready r =
        fetched Instrs.Return (does program reserve Leaving rest tree) r.0
        (same_if (nat_lt (length c.body.stack) c.body.fp) _ _ _ _ tt (leaves c before rest (take c.body.fp c.body.stack) saved r.1))
    does_alike _ rest ready r = absurd (cc)

    first_alike : (work : List Task) → IsReady globals work → Stands work here saved → Same (does_first program reserve work tree) (turn code reserve c)
    first_alike [] ready r = subst (λ (x : Option Instr). Same Lost (act_at reserve x c)) (sym r) tt
    first_alike (t ∷ rest) ready r = does_alike t rest ready r

  -- from work that stands where the machine is
  pub step_alike : (work : List Task) (c : Configuration) → Stands work c.body.pc c.body.saved →
      Same (step program reserve (tree_at work c)) (turn code reserve c)
  step_alike work c r =
      first_alike work c (opened globals work) (opened_ready globals work) (opened_kept code globals entry c.body.saved c.body.pc work r)

  -- ---- any number of steps

  same_carried : (go : TreeState → Answer) (go' : Configuration → Outcome) (o : Answer) (o' : Outcome) → Same o o' →
      ((work : List Task) (c : Configuration) → Stands work c.body.pc c.body.saved → Same (go (tree_at work c)) (go' c)) →
      Same (carried_on o go) (carried o' go')
  same_carried go go' (On t) (Unfinished c) h k = subst (λ (s : TreeState). Same (go s) (go' c)) (sym h.1) (k h.0 c h.2)
  same_carried go go' (Finished block stack) (Returned block' stack') h k = h
  same_carried go go' (Failed number) (Trapped number') h k = h
  same_carried go go' Lost Stuck h k = tt
  same_carried go go' _ _ h k = absurd h

  pub steps_alike : (count : ℕ) (work : List Task) (c : Configuration) → Stands work c.body.pc c.body.saved →
      Same (steps program reserve count (tree_at work c)) (exec code reserve count c)
  steps_alike zero work c r = goes work c r
  steps_alike (suc count) work c r =
      same_carried (steps program reserve count) (exec code reserve count) (step program reserve (tree_at work c)) (turn code reserve c)
      (step_alike work c r) (λ work c r. steps_alike count work c r)

  -- ---- a call from outside

  pub start_stands : (number : ℕ) → Stands (procedure_tasks (slice_get program.procedures number) []) (entry number) []
  start_stands number = procedure_stands number [] [] (slice_get program.procedures number) refl tt

  -- from the start of a call on engine and code do the same, on each block
  pub call_alike : (number variables : ℕ) (arguments : List Argument) (budget : ℕ) (block : List ℤ) (count : ℕ) →
      Same (steps program reserve count (tree_start program.procedures number variables arguments budget block))
      (exec code reserve count (record { block = block; body = enter (entry number) variables arguments budget }))
  call_alike number variables arguments budget block count =
      steps_alike count (procedure_tasks (slice_get program.procedures number) []) (record { block = block; body = enter (entry number) variables arguments budget })
      (start_stands number)
