-- What the tree engine has of the code: it shows the same after every number of steps, and so it does what the procedure means.
use Rattle.std.specs.Prelude.{◌≡◌, ℕ, suc, ◌*◌, ◌≤◌, true, ℤ, List, length, slice_get, Some}
use Rattle.ob_interface.specs.declared.scalar.Scalar.{Scalar}
use Rattle.ob_interface.specs.Call.{Reply, Answers, Trapped as TrapReply}
use Rattle.ob_typing.specs.Program.{Procedure, Program}
use Rattle.ob_meaning.specs.ByPositionStore.{Activation}
use Rattle.ob_meaning.specs.ByPositionObject.{Effect, effect_of_procedure}
use Rattle.ob_code_scheme.specs.Types.{variables_scope, IsStateOf}
use Rattle.ob_code_scheme.specs.Temporaries.{stack_words}
use Rattle.ob_code_scheme.specs.WellFormed.{IsWellFormed}
use Rattle.ob_code_scheme.specs.Layout.{encoded, variable_words}
use Rattle.ob_code_machine.specs.Machine.{Outcome, Unfinished, Returned, Trapped, Stuck, exec}
use Rattle.ob_code_machine.specs.declared.argument.Argument.{Argument}
use Rattle.ob_code_machine.specs.Body.{enter}
use Rattle.ob_code_scheme.specs.Scheme.{entry_of, code_of}
use Rattle.ob_code_scheme.specs.Correct.{arguments_of, ArgumentsFit, ReplyFits, words_of}
use Rattle.ob_tree_law.specs.Work.{TreeState, Answer, On, Finished, Failed, Lost, tree_start, steps, opened_by}
use Rattle.ob_tree_law.specs.Reserve.{work_reserve}

-- ---- the same is shown

-- all but the place and the work
pub data Shown : Type 0 where
  Going : (block stack : List ℤ) (fp turns : ℕ) → Shown
  Ended : (block stack : List ℤ) → Shown
  Stopped : (number : ℕ) → Shown
  Halted : Shown

abbrev pub shown_by_tree : Answer → Shown
shown_by_tree (On t) = Going t.block t.body.stack t.body.fp t.body.turns
shown_by_tree (Finished block stack) = Ended block stack
shown_by_tree (Failed k) = Stopped k
shown_by_tree Lost = Halted

abbrev pub shown_by_code : Outcome → Shown
shown_by_code (Unfinished c) = Going c.block c.body.stack c.body.fp c.body.turns
shown_by_code (Returned block stack) = Ended block stack
shown_by_code (Trapped k) = Stopped k
shown_by_code Stuck = Halted

-- for each program, well formed or not, whatever the length of its code; each procedure, block and stack
abbrev pub TreeIsLikeCode : Type 0
TreeIsLikeCode =
    (program : Program) (reserve number variables : ℕ) (arguments : List Argument) (budget : ℕ) (block : List ℤ) (count : ℕ) →
    shown_by_tree (steps program reserve count (tree_start program.procedures number variables arguments budget block))
    ≡ shown_by_code (exec (code_of program).instructions reserve count (record { block = block; body = enter (entry_of program.procedures number) variables arguments budget }))

-- ---- the reserve of the work list

-- it is never passed, after no number of steps and at no moment of opening
abbrev pub WorkKeepsWithin : Type 0
WorkKeepsWithin =
    (program : Program) (reserve number variables : ℕ) (arguments : List Argument) (budget : ℕ) (block : List ℤ) (count : ℕ) (t : TreeState) →
    steps program reserve count (tree_start program.procedures number variables arguments budget block) ≡ On t →
    (n : ℕ) → length (opened_by (variables_scope program.variables) n t.body.work) ≤ work_reserve program

-- ---- the engine is correct

-- nothing more can be done
abbrev pub IsOver : Answer → Type 0
IsOver (On t) = ⊥
IsOver (Finished block stack) = Unit {0}
IsOver (Failed k) = Unit {0}
IsOver Lost = Unit {0}

-- how the engine ends where a call leaves this state and has this reply: with the words of the state as block and those of the values
-- as results, or with the trap
abbrev pub end_with : Activation → Reply → Answer
end_with state (Answers values) = Finished (encoded state) (words_of values)
end_with state (TrapReply k) = Failed k

abbrev pub end_of : Effect → Answer
end_of effect = end_with effect.state effect.reply

-- of a call of a procedure from outside, on a state, with a budget of turns: how the engine ends is how the source does
module _ (program : Program) (reserve number : ℕ) (p : Procedure) (state : Activation) (arguments : List Scalar) (budget : ℕ) where
  -- what so many steps come to
  abbrev pub after_steps : ℕ → Answer
  after_steps count =
      steps program reserve count (tree_start program.procedures number (variable_words program.variables) (arguments_of p.parameters arguments) budget (encoded state))

  -- what the call comes to in the source
  abbrev pub meant : Effect
  meant = effect_of_procedure program (Some p) arguments budget state

  pub record TreeBehaves : Type 0 where
    -- where the engine is over, it has ended as the source does; so it is never lost
    pub ends_so : (count : ℕ) → IsOver (after_steps count) → after_steps count ≡ end_of meant
    -- and it ends: each turn, and the call itself, pays for as many steps as the code would have instructions
    pub ends : (count : ℕ) → suc budget * length (code_of program).instructions ≤ count → IsOver (after_steps count)
    pub state_fits : IsStateOf program.variables meant.state
    pub reply_fits : ReplyFits p.parameters meant.reply
    -- the stack never passes the words reserved for it
    pub within : (count : ℕ) (t : TreeState) → after_steps count ≡ On t → length t.body.stack ≤ reserve
    -- nor the work list its tasks
    pub work_within : (count : ℕ) (t : TreeState) → after_steps count ≡ On t → (n : ℕ) → length (opened_by (variables_scope program.variables) n t.body.work) ≤ work_reserve program

-- so it is of each export of a well-formed program, whatever the length of its code, and each fitting call from a state of the module's
-- variables
abbrev pub TreeIsCorrect : Type 0
TreeIsCorrect =
    (program : Program) → IsWellFormed program →
    (i : ℕ) (p : Procedure) → slice_get program.procedures i ≡ Some p → p.is_exported ≡ true →
    (state : Activation) (arguments : List Scalar) (budget : ℕ) → IsStateOf program.variables state → ArgumentsFit p.parameters arguments →
    TreeBehaves program (stack_words program.procedures) i p state arguments budget
