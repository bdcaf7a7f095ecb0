-- After every number of steps the engine over the tree shows what the engine over the code shows.
use Rattle.std.proofs.Common.{◌≡◌, ℕ, zero, suc, ◌+◌, Bool, true, false, ℤ, List, [], ◌∷◌, length, Option, Some, None, refl, sym, ap, subst}
use Rattle.std.specs.Prelude.{slice_get, nat_le, if◌then◌else◌}
use Rattle.ob_typing.specs.Program.{Procedure, Program}
use Rattle.ob_code_scheme.specs.Types.{Scope, variables_scope}
use Rattle.ob_code_scheme.specs.Temporaries.{stack_words}
use Rattle.ob_code_scheme.specs.Layout.{variable_words}
use Rattle.ob_interface.specs.Call.{ObjectCall}
use Rattle.ob_code_words.specs.declared.instr.Instr.{Instr}
use Rattle.ob_code_machine.specs.declared.saved.Saved.{Saved}
use Rattle.ob_code_machine.specs.Machine.{BodyState, Configuration, Outcome, Unfinished, turn}
use Rattle.ob_code_machine.specs.Machine as Machine
use Rattle.ob_code_machine.specs.declared.argument.Argument.{Argument}
use Rattle.ob_code_machine.specs.Body.{Run, enter, empty, entered, shown, result_count as results_of}
use Rattle.ob_code_scheme.specs.Scheme.{entry_of, code_of}
use Rattle.ob_code_correct.proofs.Entries.{entry_is, no_entry}
use Rattle.wf_table.specs.declared.engine_turn.EngineTurn.TheVariants.{Trapped}
use Rattle.wf_table.specs.Meaning.{Turned, after_turn, steps, body}
use Rattle.ob_code_correct.specs.CodeMeaning.{Entrance, entrance_at, arguments_in, first_word, other_words, started, turned}
use Rattle.ob_code_correct.specs.Compiled.{entrances_from, parts_of, engine_of}
use Rattle.ob_tree_law.specs.Work.{Task, TreeBody, TreeState, Answer, opened, settled, procedure_tasks, tree_enter, step}
use Rattle.ob_tree_law.specs.Work as Work
use Rattle.ob_tree_law.specs.Places.{Reads, tree_at, Alike}
use Rattle.ob_tree_law.proofs.Opening.{opened_kept}
use Rattle.ob_tree_law.proofs.Alike.{step_alike, start_stands}
use Rattle.ob_tree_law.proofs.Standing.{is_placed}
use Rattle.ob_tree_law.specs.TreeLaw.{Shows, BodiesShowTheSame}
use Rattle.ob_tree_law.specs.TreeEngine.{TreeRun, over_run, going_run, tree_entered, tree_started, tree_shown, tree_engine}

module _ (program : Program) (budget : ℕ) where
  abbrev globals : Scope
  globals = variables_scope program.variables

  abbrev code : List Instr
  code = (code_of program).instructions

  abbrev reserve : ℕ
  reserve = stack_words program.procedures

  abbrev Stands : List Task → ℕ → List Saved → Type 0
  Stands = Reads code globals (entry_of program.procedures)

  -- where the machine goes on
  abbrev running : BodyState → Run
  running b = record { reserve = reserve; is_over = false; body = b }

  abbrev by_code : ℕ → Run → List ℤ → Turned Run
  by_code = steps (engine_of program budget)

  abbrev by_tree : ℕ → TreeRun → List ℤ → Turned TreeRun
  by_tree = steps (tree_engine program budget)

  -- one step, and what comes behind it
  one_shows : (work : List Task) (b : BodyState) (block : List ℤ) (k : ℕ) (a : Answer) (o : Outcome) → Alike Stands a o →
      ((next : List Task) (c : Configuration) → Stands next c.body.pc c.body.saved → Shows (by_tree k (going_run program (tree_at next c).body) c.block) (by_code k (running c.body) c.block)) →
      let run = going_run program (tree_at work (record { block = block; body = b })).body in
      let t = tree_shown program run block a in
      let s = turned (shown (running b) block o) in
      Shows (after_turn t.turn t (by_tree k t.run t.block)) (after_turn s.turn s (by_code k s.run s.block))
  one_shows work b block k (Work.On t) (Unfinished c) h next =
      subst (λ (s : TreeState). Shows (by_tree k (going_run program (settled globals s.body)) s.block) (by_code k (running c.body) c.block)) (sym h.1)
      (next (opened globals h.0) c (opened_kept code globals (entry_of program.procedures) c.body.saved c.body.pc h.0 h.2))
  one_shows work b block k (Work.Finished left stack) (Machine.Returned left' stack') h next = record { turn = refl; block = h.0; stack = h.1 }
  one_shows work b block k (Work.Failed n) (Machine.Trapped n') h next = record { turn = ap (λ (m : ℕ). Trapped m) h; block = refl; stack = refl }
  one_shows work b block k Work.Lost Machine.Stuck h next = record { turn = refl; block = refl; stack = refl }
  one_shows work b block k _ _ h next = absurd h

  steps_show : (k : ℕ) (work : List Task) (c : Configuration) → Stands work c.body.pc c.body.saved →
      Shows (by_tree k (going_run program (tree_at work c).body) c.block) (by_code k (running c.body) c.block)
  steps_show zero work c r = record { turn = refl; block = refl; stack = refl }
  steps_show (suc k) work c r =
      one_shows work c.body c.block k (step program reserve (tree_at work c)) (turn code reserve c)
      (step_alike program code reserve (is_placed program) work c r) (λ next d s. steps_show k next d s)

  -- bodies that are over at once
  over_shows : (k : ℕ) (block : List ℤ) → Shows (by_tree k (over_run program) block) (by_code k (record { reserve = reserve; is_over = true; body = empty }) block)
  over_shows zero block = record { turn = refl; block = refl; stack = refl }
  over_shows (suc k) block = record { turn = refl; block = refl; stack = refl }

  -- a procedure's start, where there is room or not
  room_shows : (k : ℕ) (block : List ℤ) (number : ℕ) (arguments : List Argument) (b : Bool) →
      Shows (by_tree k (if b then going_run program (tree_enter program.procedures number (variable_words program.variables) arguments budget) else over_run program) block)
      (by_code k (if b then running (enter (entry_of program.procedures number) (variable_words program.variables) arguments budget) else record { reserve = reserve; is_over = true; body = empty }) block)
  room_shows k block number arguments true =
      steps_show k (procedure_tasks (slice_get program.procedures number) [])
      (record { block = block; body = enter (entry_of program.procedures number) (variable_words program.variables) arguments budget })
      (start_stands program code reserve (is_placed program) number)
  room_shows k block number arguments false = over_shows k block

  entered_shows : (k : ℕ) (block : List ℤ) (number : ℕ) (arguments : List Argument) (p : Option Procedure) → slice_get program.procedures number ≡ p →
      Shows (by_tree k (tree_entered program budget number p arguments) block)
      (by_code k (entered reserve (variable_words program.variables) (slice_get (code_of program).entries number) arguments budget) block)
  entered_shows k block number arguments None is =
      subst (λ (e : Option ℕ). Shows (by_tree k (tree_entered program budget number None arguments) block) (by_code k (entered reserve (variable_words program.variables) e arguments budget) block))
      (sym (no_entry 0 program.procedures number is)) (over_shows k block)
  entered_shows k block number arguments (Some p) is =
      subst (λ (e : Option ℕ). Shows (by_tree k (tree_entered program budget number (Some p) arguments) block) (by_code k (entered reserve (variable_words program.variables) e arguments budget) block))
      (sym (entry_is program number p is)) (room_shows k block number arguments (nat_le (results_of arguments + length arguments) reserve))

  started_shows : (k : ℕ) (block : List ℤ) (x : Option Entrance) (words : List ℤ) →
      Shows (by_tree k (tree_started program budget x words) block) (by_code k (started (parts_of program budget) x words) block)
  started_shows k block None words = over_shows k block
  started_shows k block (Some x) words =
      entered_shows k block x.procedure (arguments_in x.parameters words) (slice_get program.procedures x.procedure) refl

  -- from the words of any call on any block
  pub body_shows : (k : ℕ) (block : List ℤ) (call : ObjectCall) → Shows (body (tree_engine program budget) k block call) (body (engine_of program budget) k block call)
  body_shows k block call =
      let words = (engine_of program budget).lay call in
      started_shows k block (entrance_at (entrances_from 0 program.procedures) (first_word words)) (other_words words)

pub bodies_show_the_same : BodiesShowTheSame
bodies_show_the_same program budget count block call = body_shows program budget count block call
