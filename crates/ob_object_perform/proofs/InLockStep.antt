-- The engine over a program's tree is in lock-step with the engine over the code of the scheme, of whatever length.
use Rattle.std.proofs.Common.{◌≡◌, ℕ, ◌+◌, Bool, true, false, ℤ, List, [], length, Option, Some, None, refl, sym, ap, subst}
use Rattle.std.specs.Prelude.{pos, slice_get, slice_index_or, nat_le, if◌then◌else◌}
use Rattle.ob_code_correct.specs.CodeMeaning.{Entrance, arguments_in, entrance_at, first_word, other_words, started, turned}
use Rattle.ob_code_correct.specs.Compiled.{engine_of, entrances_from, parts_of}
use Rattle.ob_code_machine.specs.Body.{Run, empty, enter, entered, result_count, shown, step_of}
use Rattle.ob_code_machine.specs.Machine as Machine
use Rattle.ob_code_machine.specs.Machine.{BodyState, Outcome, Unfinished, turn}
use Rattle.ob_code_machine.specs.declared.argument.Argument.{Argument}
use Rattle.ob_code_words.specs.declared.instr.Instr.{Instr}
use Rattle.ob_code_machine.specs.declared.saved.Saved.{Saved}
use Rattle.ob_code_correct.proofs.Entries.{entry_is, no_entry}
use Rattle.ob_code_scheme.specs.Layout.{variable_words}
use Rattle.ob_code_scheme.specs.Scheme.{code_of, entry_of}
use Rattle.ob_code_scheme.specs.Temporaries.{stack_words}
use Rattle.ob_code_scheme.specs.Types.{Scope, variables_scope}
use Rattle.ob_tree_law.specs.TreeEngine.{TreeRun, going_run, over_run, tree_engine, tree_entered, tree_shown, tree_started, tree_step}
use Rattle.ob_tree_law.proofs.Alike.{start_stands, step_alike}
use Rattle.ob_tree_law.proofs.Opening.{opened_kept}
use Rattle.ob_tree_law.proofs.Standing.{is_placed}
use Rattle.ob_tree_law.specs.Places.{Alike, Reads, tree_at}
use Rattle.ob_tree_law.specs.Work as Work
use Rattle.ob_tree_law.specs.Work.{Answer, Task, TreeBody, TreeState, opened, procedure_tasks, settled, step, tree_enter}
use Rattle.ob_typing.specs.Program.{Procedure, Program}
use Rattle.wf_play.specs.LockStep.{AreInLockStep}
use Rattle.wf_table.specs.Meaning.{Turned}
use Rattle.wf_table.specs.declared.engine_turn.EngineTurn.TheVariants as Turn

module _ (program : Program) (budget : ℕ) where
  abbrev globals : Scope
  globals = variables_scope program.variables

  abbrev code : List Instr
  code = (code_of program).instructions

  abbrev reserve : ℕ
  reserve = stack_words program.procedures

  abbrev Stands : List Task → ℕ → List Saved → Type 0
  Stands = Reads code globals (entry_of program.procedures)

  -- a body over the code that goes on
  abbrev running : BodyState → Run
  running b = record { reserve = reserve; is_over = false; body = b }

  -- the body over the tree with this work, where that over the code is
  abbrev working : List Task → BodyState → TreeRun
  working work b = going_run program (tree_at work (record { block = []; body = b })).body

  -- a body over the code is as good as one over the tree: both go on, and the work of the one stands where the other is; or both are
  -- over, with the same words of results
  pub data SameBody : Run → TreeRun → Type 0 where
    going : (work : List Task) (b : BodyState) → Stands work b.pc b.saved → SameBody (running b) (working work b)
    over : (words room tasks : ℕ) (b : BodyState) (t : TreeBody) → t.stack ≡ b.stack →
        SameBody (record { reserve = words; is_over = true; body = b }) (record { reserve = room; room = tasks; is_over = true; body = t })

  -- one step of each
  record StepsAlike (t : Turned TreeRun) (s : Turned Run) : Type 0 where
    turn : t.turn ≡ s.turn
    block : t.block ≡ s.block
    run : SameBody s.run t.run

  one_step : (work : List Task) (b : BodyState) (block : List ℤ) (a : Answer) (o : Outcome) → Stands work b.pc b.saved → Alike Stands a o →
      StepsAlike (tree_shown program (working work b) block a) (turned (shown (running b) block o))
  one_step work b block (Work.On t) (Unfinished c) stands h =
      record {
        turn = refl;
        block = ap (λ (s : TreeState). s.block) h.1;
        run = subst (λ (s : TreeState). SameBody (running c.body) (going_run program (settled globals s.body))) (sym h.1)
            (going (opened globals h.0) c.body (opened_kept code globals (entry_of program.procedures) c.body.saved c.body.pc h.0 h.2));
      }
  one_step work b block (Work.Finished left stack) (Machine.Returned left' stack') stands h =
      record {
        turn = refl;
        block = h.0;
        run = over reserve (working work b).reserve (working work b).room (record b { stack = stack' }) (record (working work b).body { stack = stack }) h.1;
      }
  one_step work b block (Work.Failed k) (Machine.Trapped k') stands h =
      record {
        turn = ap Turn.Trapped h;
        block = refl;
        run = over reserve (working work b).reserve (working work b).room b (working work b).body refl;
      }
  one_step work b block Work.Lost Machine.Stuck stands h = record { turn = refl; block = refl; run = going work b stands }
  one_step work b block _ _ stands h = absurd h

  step_same : (r : Run) (t : TreeRun) (block : List ℤ) → SameBody r t → StepsAlike (tree_step program t block) (turned (step_of code r block))
  step_same r t block (going work b stands) =
      let c : Machine.Configuration = record { block = block; body = b } in
      one_step work b block (step program reserve (tree_at work c)) (turn code reserve c) stands (step_alike program code reserve (is_placed program) work c stands)
  step_same r t block (over words room tasks b body same) = record { turn = refl; block = refl; run = over words room tasks b body same }

  result_same : (r : Run) (t : TreeRun) (i : ℕ) → SameBody r t → slice_index_or t.body.stack i (pos 0) ≡ slice_index_or r.body.stack i (pos 0)
  result_same r t i (going work b stands) = refl
  result_same r t i (over words room tasks b body same) = ap (λ (stack : List ℤ). slice_index_or stack i (pos 0)) same

  -- ---- starts

  over_same : SameBody (record { reserve = reserve; is_over = true; body = empty }) (over_run program)
  over_same = over reserve (over_run program).reserve (over_run program).room empty (over_run program).body refl

  room_same : (number : ℕ) (arguments : List Argument) (b : Bool) →
      SameBody (if b then running (enter (entry_of program.procedures number) (variable_words program.variables) arguments budget) else record { reserve = reserve; is_over = true; body = empty })
      (if b then going_run program (tree_enter program.procedures number (variable_words program.variables) arguments budget) else over_run program)
  room_same number arguments true =
      going (procedure_tasks (slice_get program.procedures number) []) (enter (entry_of program.procedures number) (variable_words program.variables) arguments budget)
      (start_stands program code reserve (is_placed program) number)
  room_same number arguments false = over_same

  entered_same : (number : ℕ) (arguments : List Argument) (p : Option Procedure) → slice_get program.procedures number ≡ p →
      SameBody (entered reserve (variable_words program.variables) (slice_get (code_of program).entries number) arguments budget) (tree_entered program budget number p arguments)
  entered_same number arguments None is =
      subst (λ (e : Option ℕ). SameBody (entered reserve (variable_words program.variables) e arguments budget) (tree_entered program budget number None arguments))
      (sym (no_entry 0 program.procedures number is)) over_same
  entered_same number arguments (Some p) is =
      subst (λ (e : Option ℕ). SameBody (entered reserve (variable_words program.variables) e arguments budget) (tree_entered program budget number (Some p) arguments))
      (sym (entry_is program number p is)) (room_same number arguments (nat_le (result_count arguments + length arguments) reserve))

  started_same : (x : Option Entrance) (words : List ℤ) → SameBody (started (parts_of program budget) x words) (tree_started program budget x words)
  started_same None words = over_same
  started_same (Some x) words = entered_same x.procedure (arguments_in x.parameters words) (slice_get program.procedures x.procedure) refl

  pub in_lock_step : AreInLockStep (engine_of program budget) (tree_engine program budget) SameBody
  in_lock_step = record {
    variables = refl;
    replies = refl;
    arguments = refl;
    lay = λ c. refl;
    reply = λ c words. refl;
    start = λ words. started_same (entrance_at (entrances_from 0 program.procedures) (first_word words)) (other_words words);
    turn = λ r t b same. (step_same r t b same).turn;
    block = λ r t b same. (step_same r t b same).block;
    run = λ r t b same. (step_same r t b same).run;
    result = λ r t i same. result_same r t i same;
  }
