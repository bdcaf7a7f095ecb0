-- The engine over a program's tree: calls and replies are words as with the engine over its code, and a body's steps are tasks.
use Rattle.std.specs.Prelude.{◌≡◌, ℕ, ◌+◌, Bool, true, false, nat_le, ℤ, pos, List, [], ◌∷◌, length, slice_get, slice_index_or, Option, Some, None, if◌then◌else◌}
use Rattle.ob_typing.specs.Program.{Procedure, Program}
use Rattle.ob_code_machine.specs.declared.argument.Argument.{Argument}
use Rattle.ob_code_machine.specs.Body.{result_count}
use Rattle.ob_code_scheme.specs.Types.{variables_scope}
use Rattle.ob_code_scheme.specs.Temporaries.{stack_words}
use Rattle.ob_code_scheme.specs.Layout.{variable_words}
use Rattle.ob_code_scheme.specs.Scheme.{entry_of, code_of}
use Rattle.ob_code_machine.specs.declared.saved.Saved.{Saved}
use Rattle.wf_table.specs.declared.engine_turn.EngineTurn.TheVariants.{On, Returned, Trapped, Stuck}
use Rattle.wf_table.specs.Meaning.{Turned, Meaning}
use Rattle.ob_code_correct.specs.CodeMeaning.{Entrance, entrance_at, arguments_in, first_word, other_words}
use Rattle.ob_code_correct.specs.Compiled.{engine_of, entrances_from}
use Rattle.ob_tree_law.specs.Work.{Task, TreeBody, TreeState, Answer, settled, tree_enter, parts, step}
use Rattle.ob_tree_law.specs.Work as Work
use Rattle.ob_tree_law.specs.Places.{Reads, frames_of}
use Rattle.ob_tree_law.specs.Reserve.{activation_most, work_reserve, KeepsWithin}

-- ---- runs

-- the tasks that a work list needs room for: a task gives way to at most three more than itself, of which all are counted but for a
-- moment
abbrev pub work_room : Program → ℕ
work_room program = work_reserve program + 3

-- the words that its stack has room for, the tasks that its work list has room for, whether it is over, and what it holds
pub record TreeRun : Type 0 where
  pub reserve : ℕ
  pub room : ℕ
  pub is_over : Bool
  pub body : TreeBody

-- a body that holds nothing
abbrev pub tree_empty : TreeBody
tree_empty = record { work = []; stack = []; fp = 0; saved = []; turns = 0 }

-- with the room that a program needs
module _ (program : Program) where
  abbrev pub over_run : TreeRun
  over_run = record { reserve = stack_words program.procedures; room = work_room program; is_over = true; body = tree_empty }

  abbrev pub going_run : TreeBody → TreeRun
  going_run body = record { reserve = stack_words program.procedures; room = work_room program; is_over = false; body = body }

  -- what comes of a step: work is opened behind it; a trap leaves all but that the body is over, and where nothing can be done nothing
  -- changes
  abbrev pub tree_shown : TreeRun → List ℤ → Answer → Turned TreeRun
  tree_shown run block (Work.On t) =
      record { turn = On; run = record run { body = settled (variables_scope program.variables) t.body }; block = t.block }
  tree_shown run block (Work.Finished left stack) =
      record { turn = Returned; run = record run { is_over = true; body = record run.body { stack = stack } }; block = left }
  tree_shown run block (Work.Failed k) = record { turn = Trapped k; run = record run { is_over = true }; block = block }
  tree_shown run block Work.Lost = record { turn = Stuck; run = run; block = block }

  -- one step; a body that is over is stuck
  abbrev pub tree_step : TreeRun → List ℤ → Turned TreeRun
  tree_step run block =
      tree_shown run block (if run.is_over then Work.Lost else step program run.reserve (record { block = block; body = run.body }))

  -- with a budget of turns for each body
  module _ (budget : ℕ) where
    -- the start of a procedure; where there is no such procedure, or no room for results and arguments, the body is over at once
    abbrev pub tree_entered : (number : ℕ) → Option Procedure → List Argument → TreeRun
    tree_entered number None arguments = over_run
    tree_entered number (Some p) arguments =
        if nat_le (result_count arguments + length arguments) (stack_words program.procedures)
        then going_run (tree_enter program.procedures number (variable_words program.variables) arguments budget)
        else over_run

    -- the body at the start of an export; over at once where there is no such export
    abbrev pub tree_started : Option Entrance → List ℤ → TreeRun
    tree_started None words = over_run
    tree_started (Some x) words = tree_entered x.procedure (slice_get program.procedures x.procedure) (arguments_in x.parameters words)

    abbrev pub tree_engine : Meaning TreeRun
    tree_engine = record {
      variables = (engine_of program budget).variables;
      replies = (engine_of program budget).replies;
      arguments = (engine_of program budget).arguments;
      lay = (engine_of program budget).lay;
      start = λ words. tree_started (entrance_at (entrances_from 0 program.procedures) (first_word words)) (other_words words);
      step = tree_step;
      result = λ run i. slice_index_or run.body.stack i (pos 0);
      reply = (engine_of program budget).reply;
    }

  -- no silent task is in front
  abbrev pub IsOpened : List Task → Type 0
  IsOpened [] = Unit {0}
  IsOpened (t ∷ rest) = parts (variables_scope program.variables) t ≡ None

  -- the work stands at some place of the code, and the calls that are saved go back to others
  pub record StandsInCode (body : TreeBody) : Type 0 where
    pub pc : ℕ
    pub saved : List Saved
    pub frames : body.saved ≡ frames_of saved
    pub stands : Reads (code_of program).instructions (variables_scope program.variables) (entry_of program.procedures) body.work pc saved

  -- a run with the program's room, of which its work list needs no more, and with opened work that stands in the code
  pub record IsTreeReady (run : TreeRun) : Type 0 where
    pub reserve : run.reserve ≡ stack_words program.procedures
    pub room : run.room ≡ work_room program
    pub within : KeepsWithin (activation_most program.procedures) run.body
    pub opened : IsOpened run.body.work
    pub stands : StandsInCode run.body
