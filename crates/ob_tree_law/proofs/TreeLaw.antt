-- The engine over the tree meets the law where the engine over the code does, with the same effect.
use Rattle.std.proofs.Common.{◌≡◌, ℕ, ◌+◌, Bool, true, false, ℤ, pos, List, [], ◌∷◌, length, map, Option, Some, None, refl, sym, ap, ◌∙◌, subst, arith}
use Rattle.std.specs.Prelude.{slice_get, slice_index_or, nat_le, if◌then◌else◌}
use Rattle.std.specs.List.{range_with_len}
use Rattle.std.proofs.lemmas.Option.{slice_get_past}
use Rattle.ob_interface.specs.declared.scalar.Scalar.{Scalar}
use Rattle.ob_typing.specs.Program.{Procedure, Program}
use Rattle.ob_code_scheme.specs.Types.{Scope, variables_scope}
use Rattle.ob_code_scheme.specs.Temporaries.{stack_words}
use Rattle.ob_code_scheme.specs.Layout.{variable_words}
use Rattle.ob_code_scheme.specs.Scheme.{entry_of, code_of}
use Rattle.ob_interface.specs.Call.{ObjectCall, Answers, Trapped as TrapReply}
use Rattle.ob_code_machine.specs.declared.argument.Argument.{Argument}
use Rattle.ob_code_machine.specs.Machine.{Configuration, Outcome, Unfinished, turn}
use Rattle.ob_code_machine.specs.Machine as Machine
use Rattle.ob_code_machine.specs.Body.{Run, result_count as results_of}
use Rattle.wf_table.specs.declared.engine_turn.EngineTurn.TheVariants.{Returned, Trapped, Stuck}
use Rattle.wf_table.specs.Meaning.{Turned, Meaning, is_over, body, kept}
use Rattle.wf_table.specs.Law.{Effects, IsLawful, HasReturned, HasTrapped, Reaches, ReachesTrap}
use Rattle.ob_code_correct.specs.CodeMeaning.{Entrance, entrance_at, arguments_in, first_word, other_words}
use Rattle.ob_code_correct.specs.Compiled.{entrances_from, engine_of}
use Rattle.ob_tree_law.specs.Work.{Task, TreeBody, TreeState, Answer, tree_enter, procedure_tasks, work_nodes, opened, settled, step}
use Rattle.ob_tree_law.specs.Work as Work
use Rattle.ob_tree_law.specs.Places.{Reads, tree_at, Alike}
use Rattle.ob_tree_law.specs.Reserve.{activation_most, AnswerKeepsWithin}
use Rattle.ob_tree_law.proofs.Alike.{step_alike, start_stands}
use Rattle.ob_tree_law.proofs.Opening.{opened_kept}
use Rattle.ob_tree_law.proofs.Standing.{is_placed}
use Rattle.ob_tree_law.proofs.Ready.{IsReady, opened_ready}
use Rattle.ob_tree_law.proofs.Within.{opened_by_low, start_low, step_keeps}
use Rattle.ob_tree_law.specs.TreeLaw.{Shows}
use Rattle.ob_tree_law.specs.TreeEngine.{TreeRun, over_run, going_run, tree_entered, tree_started, tree_shown, tree_step, tree_engine, IsOpened, StandsInCode, IsTreeReady}
use Rattle.ob_tree_law.proofs.Block.{tree_step_long}
use Rattle.ob_tree_law.proofs.OneWord.{tree_touches}
use Rattle.ob_tree_law.proofs.Simulated.{body_shows}

module _ (program : Program) (budget : ℕ) where
  abbrev globals : Scope
  globals = variables_scope program.variables

  abbrev most : ℕ
  most = activation_most program.procedures

  abbrev m : Meaning Run
  m = engine_of program budget

  abbrev tree : Meaning TreeRun
  tree = tree_engine program budget

  abbrev Ready : TreeRun → Type 0
  Ready = IsTreeReady program

  -- ---- runs stay ready

  over_ready : Ready (over_run program)
  over_ready = record { reserve = refl; room = refl; within = record { low = tt; depth = omega arith }; opened = tt; stands = record { pc = length (code_of program).instructions; saved = []; frames = refl; stands = slice_get_past (code_of program).instructions _ (omega arith) } }

  start_opened : (p : Option Procedure) → IsOpened program (procedure_tasks p [])
  start_opened None = tt
  start_opened (Some p) = refl

  now_opened : (work : List Task) → IsReady globals work → IsOpened program work
  now_opened [] h = tt
  now_opened (t ∷ rest) h = h

  room_ready : (number : ℕ) (arguments : List Argument) (b : Bool) →
      Ready (if b then going_run program (tree_enter program.procedures number (variable_words program.variables) arguments budget) else over_run program)
  room_ready number arguments true =
      record {
        reserve = refl;
        room = refl;
        within = record { low = start_low program 0 number (slice_get program.procedures number) refl; depth = omega arith };
        opened = start_opened (slice_get program.procedures number);
        stands = record { pc = entry_of program.procedures number; saved = []; frames = refl; stands = start_stands program (code_of program).instructions 0 (is_placed program) number };
      }
  room_ready number arguments false = over_ready

  entered_ready : (number : ℕ) (p : Option Procedure) (arguments : List Argument) → Ready (tree_entered program budget number p arguments)
  entered_ready number None arguments = over_ready
  entered_ready number (Some p) arguments = room_ready number arguments (nat_le (results_of arguments + length arguments) (stack_words program.procedures))

  started_ready : (x : Option Entrance) (words : List ℤ) → Ready (tree_started program budget x words)
  started_ready None words = over_ready
  started_ready (Some x) words = entered_ready x.procedure (slice_get program.procedures x.procedure) (arguments_in x.parameters words)

  -- work that goes on stands in the code
  abbrev pub AnswerStands : Answer → Type 0
  AnswerStands (Work.On t) = StandsInCode program t.body
  AnswerStands (Work.Finished left stack) = Unit {0}
  AnswerStands (Work.Failed k) = Unit {0}
  AnswerStands Work.Lost = Unit {0}

  alike_stands : (a : Answer) (o : Outcome) → Alike (Reads (code_of program).instructions globals (entry_of program.procedures)) a o → AnswerStands a
  alike_stands (Work.On t) (Unfinished c) h =
      subst (λ (s : TreeState). StandsInCode program s.body) (sym h.1) (record { pc = c.body.pc; saved = c.body.saved; frames = refl; stands = h.2 })
  alike_stands (Work.Finished left stack) (Machine.Returned left' stack') h = tt
  alike_stands (Work.Failed k) (Machine.Trapped k') h = tt
  alike_stands Work.Lost Machine.Stuck h = tt
  alike_stands _ _ h = absurd h

  pub step_stands : (reserve : ℕ) (block : List ℤ) (body : TreeBody) → StandsInCode program body → AnswerStands (step program reserve (record { block = block; body = body }))
  step_stands reserve block body s =
      let c : Configuration = record { block = block; body = record { pc = s.pc; stack = body.stack; fp = body.fp; saved = s.saved; turns = body.turns } } in
      let here : tree_at body.work c ≡ record { block = block; body = body } =
      ap (λ (saved : List ℕ). record { block = block; body = record { work = body.work; stack = body.stack; fp = body.fp; saved = saved; turns = body.turns } }) (sym s.frames) in
      subst (λ (t : TreeState). AnswerStands (step program reserve t)) here
      (alike_stands (step program reserve (tree_at body.work c)) (turn (code_of program).instructions reserve c)
      (step_alike program (code_of program).instructions reserve (is_placed program) body.work c s.stands))

  opened_stands : (body : TreeBody) → StandsInCode program body → StandsInCode program (settled globals body)
  opened_stands body s = record {
    pc = s.pc;
    saved = s.saved;
    frames = s.frames;
    stands = opened_kept (code_of program).instructions globals (entry_of program.procedures) s.saved s.pc body.work s.stands;
  }

  shown_ready : (run : TreeRun) (block : List ℤ) (a : Answer) → Ready run → AnswerKeepsWithin most a → AnswerStands a → Ready (tree_shown program run block a).run
  shown_ready run block (Work.On t) ready keeps stands =
      record {
        reserve = ready.reserve;
        room = ready.room;
        within = record { low = opened_by_low globals most (work_nodes t.body.work) (length t.body.saved) t.body.work keeps.low; depth = keeps.depth };
        opened = now_opened (opened globals t.body.work) (opened_ready globals t.body.work);
        stands = opened_stands t.body stands;
      }
  shown_ready run block (Work.Finished left stack) ready keeps stands =
      record {
        reserve = ready.reserve;
        room = ready.room;
        within = record { low = ready.within.low; depth = ready.within.depth };
        opened = ready.opened;
        stands = record { pc = ready.stands.pc; saved = ready.stands.saved; frames = ready.stands.frames; stands = ready.stands.stands };
      }
  shown_ready run block (Work.Failed k) ready keeps stands =
      record { reserve = ready.reserve; room = ready.room; within = ready.within; opened = ready.opened; stands = ready.stands }
  shown_ready run block Work.Lost ready keeps stands = ready

  either_keeps : (b : Bool) (a : Answer) → AnswerKeepsWithin most a → AnswerKeepsWithin most (if b then Work.Lost else a)
  either_keeps true a h = tt
  either_keeps false a h = h

  either_stands : (b : Bool) (a : Answer) → AnswerStands a → AnswerStands (if b then Work.Lost else a)
  either_stands true a h = tt
  either_stands false a h = h

  step_ready : (run : TreeRun) (block : List ℤ) → Ready run → Ready (tree_step program run block).run
  step_ready run block ready =
      let a = step program run.reserve (record { block = block; body = run.body }) in
      shown_ready run block (if run.is_over then Work.Lost else a) ready
      (either_keeps run.is_over a (step_keeps program run.reserve (record { block = block; body = run.body }) ready.within))
      (either_stands run.is_over a (step_stands run.reserve block run.body ready.stands))

  -- ---- Stuck changes nothing

  stuck_shown : (run : TreeRun) (block : List ℤ) (a : Answer) → (tree_shown program run block a).turn ≡ Stuck →
      ((tree_shown program run block a).run ≡ run) × ((tree_shown program run block a).block ≡ block)
  stuck_shown run block (Work.On t) h = absurd (cc)
  stuck_shown run block (Work.Finished left stack) h = absurd (cc)
  stuck_shown run block (Work.Failed k) h = absurd (cc)
  stuck_shown run block Work.Lost h = (refl, refl)

  stuck_step : (run : TreeRun) (block : List ℤ) → (tree_step program run block).turn ≡ Stuck →
      ((tree_step program run block).run ≡ run) × ((tree_step program run block).block ≡ block)
  stuck_step run block h = stuck_shown run block (if run.is_over then Work.Lost else step program run.reserve (record { block = block; body = run.body })) h

  -- ---- what is reached

  abbrev by_tree : ℕ → List ℤ → ObjectCall → Turned TreeRun
  by_tree n b c = body tree n b c

  abbrev by_code : ℕ → List ℤ → ObjectCall → Turned Run
  by_code n b c = body m n b c

  same : (n : ℕ) (b : List ℤ) (c : ObjectCall) → Shows (by_tree n b c) (by_code n b c)
  same n b c = body_shows program budget n b c

  -- the words that are kept go by the stack
  abbrev kept_of : List ℤ → List ℤ
  kept_of stack = pos 0 ∷ map (λ i. slice_index_or stack i (pos 0)) (range_with_len 0 m.replies)

  kept_same : (t : Turned TreeRun) (o : Turned Run) → Shows t o → kept tree t.run ≡ kept m o.run
  kept_same t o s = ap kept_of s.stack

  module _ (lawful : List ℤ → Type 0) (fits : ObjectCall → Type 0) (ready : Run → Type 0) (Effect : Effects) (law : IsLawful m lawful fits ready Effect) where
    tree_returned : (b : List ℤ) (c : ObjectCall) (n : ℕ) → lawful b → fits c → (by_tree n b c).turn ≡ Returned → HasReturned tree Effect b c (by_tree n b c)
    tree_returned b c n l f h =
        let s = same n b c in
        let r = law.returned b c n l f (sym s.turn ∙ h) in
        record {
          values = r.values;
          effect = subst (λ (x : List ℤ). ∥ Effect c b x (Answers r.values) ∥₁) (sym s.block) r.effect;
          reply = ap (λ (ws : List ℤ). m.reply c ws) (kept_same (by_tree n b c) (by_code n b c) s) ∙ r.reply;
          rest = λ i le below. ap (λ (ws : List ℤ). slice_index_or ws i (pos 0)) s.stack ∙ r.rest i le below;
        }

    tree_trapped : (b : List ℤ) (c : ObjectCall) (n k : ℕ) → lawful b → fits c → (by_tree n b c).turn ≡ Trapped k → HasTrapped tree Effect b c k
    tree_trapped b c n k l f h =
        let s = same n b c in
        let r = law.trapped b c n k l f (sym s.turn ∙ h) in
        record { number = r.number; effect = r.effect; reply = r.reply }

    tree_returns : (b : List ℤ) (c : ObjectCall) (b' : List ℤ) (values : List Scalar) → lawful b → fits c → Effect c b b' (Answers values) → Reaches tree b c b' values
    tree_returns b c b' values l f e =
        let r = law.returns b c b' values l f e in
        let s = same r.count b c in
        record {
          count = r.count;
          turn = s.turn ∙ r.turn;
          block_is = s.block ∙ r.block_is;
          reply = ap (λ (ws : List ℤ). m.reply c ws) (kept_same (by_tree r.count b c) (by_code r.count b c) s) ∙ r.reply;
        }

    tree_traps : (b : List ℤ) (c : ObjectCall) (b' : List ℤ) (k : ℕ) → lawful b → fits c → Effect c b b' (TrapReply k) → ReachesTrap tree b c b' k
    tree_traps b c b' k l f e =
        let r = law.traps b c b' k l f e in
        record { count = r.count; turn = (same r.count b c).turn ∙ r.turn; block_is = r.block_is; reply = r.reply }

    pub tree_lawful : IsLawful tree lawful fits Ready Effect
    tree_lawful = record {
      has_argument = law.has_argument;
      few_variables = law.few_variables;
      few_replies = law.few_replies;
      few_arguments = law.few_arguments;
      length_lay = law.length_lay;
      length_step = λ run b ready long. tree_step_long program run b;
      length_lawful = law.length_lawful;
      few_values = law.few_values;
      start_ready = λ words long. started_ready (entrance_at (entrances_from 0 program.procedures) (first_word words)) (other_words words);
      step_ready = λ run b ready long. step_ready run b ready;
      stuck_run = λ run b ready long stuck. (stuck_step run b stuck).0;
      stuck_block = λ run b ready long stuck. (stuck_step run b stuck).1;
      one_word = λ run b ready long. tree_touches program budget run b;
      effect_lawful = law.effect_lawful;
      returned = tree_returned;
      trapped = tree_trapped;
      never_stuck = λ b c n l f h. law.never_stuck b c n l f (sym (same n b c).turn ∙ h);
      returns = tree_returns;
      traps = tree_traps;
    }

  -- and it ends where the code does
  pub tree_ends : (n : ℕ) (b : List ℤ) (c : ObjectCall) → is_over (by_code n b c).turn ≡ true → is_over (by_tree n b c).turn ≡ true
  tree_ends n b c h = ap is_over (same n b c).turn ∙ h
