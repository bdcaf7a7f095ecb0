use Rattle.std.proofs.Common.{◌≡◌, false, ap, sym, ◌∙◌, subst}
use Rattle.ob_checked.specs.View.{program_of}
use Rattle.ob_code_scheme.specs.Types.{Scope, variables_scope}
use Rattle.wf_table.specs.declared.engine_turn.EngineTurn.{EngineTurn}
use Rattle.wf_table.specs.Meaning.{Turned}
use Rattle.ob_tree_law.specs.Work.{opened, settled}
use Rattle.ob_tree_tasks.specs.Opening.{CanBeOpened}
use Rattle.ob_tree_tasks.specs.WorkTasks.{WorkTasks}
use Rattle.ob_tree_law.specs.TreeEngine.{TreeRun}
use Rattle.ob_tree.proofs.Stepped.{has_room, can_open, shown_on, shown_off, step_shown}
use Rattle.ob_tree.proofs.body_run.TreeRun.step.Goals as goal

pub act_first-requires-clause-room : goal.act_first-requires-clause-room
act_first-requires-clause-room c = has_room (program_of c.args.program.now) c.args.self.now c.requires.ready.ready

pub settle-requires : goal.settle-requires
settle-requires c =
    let program = program_of c.args.program.now in
    let run = c.args.self.now in
    let opens = can_open program run c.requires.ready.ready c.requires.ready.well c.args.block.now c.act_first.result c.act_first.new.self c.act_first.new.block c.act_first.ensures c.in-On.is in
    subst (λ (g : Scope). CanBeOpened g c.self-2.inside.work) (sym c.requires.globals)
    (subst (λ (r : TreeRun). CanBeOpened (variables_scope program.variables) (record { room = r.room; tasks = r.body.work })) (sym c.self-2.view_is) opens)

pub returns-in-On : goal.returns-in-On
returns-in-On c =
    let program = program_of c.args.program.now in
    let run = c.args.self.now in
    let inside = c.self-2.inside in
    let over = subst (λ (r : TreeRun). r.is_over ≡ false) c.self.view_is c.if-self.false in
    let shown : TreeRun → Turned TreeRun = λ r. record { turn = c.act_first.result; run = r; block = c.act_first.new.block } in
    let with_work : WorkTasks → TreeRun = λ w. record {
      reserve = inside.stack.reserve;
      room = w.room;
      is_over = inside.is_over;
      body = record { work = w.tasks; stack = inside.stack.words; fp = inside.fp; saved = inside.frames; turns = inside.turns };
    } in
    let on : EngineTurn → Turned TreeRun = λ t. record { turn = t; run = with_work c.settle.new.work; block = c.act_first.new.block } in
    let opened_by : Scope → WorkTasks = λ g. record { room = inside.work.room; tasks = opened g inside.work.tasks } in
    ap on (sym c.in-On.is)
    ∙ ap (λ (w : WorkTasks). shown (with_work w)) c.settle.ensures
    ∙ ap (λ (g : Scope). shown (with_work (opened_by g))) c.requires.globals
    ∙ ap (λ (r : TreeRun). shown (record r { body = settled (variables_scope program.variables) r.body })) c.self-2.view_is
    ∙ shown_on program run c.args.block.now _ c.act_first.result c.act_first.new.self c.act_first.new.block c.act_first.ensures c.in-On.is
    ∙ step_shown program run c.requires.ready.ready c.args.block.now over

pub returns-in_default : goal.returns-in_default
returns-in_default c =
    let program = program_of c.args.program.now in
    let run = c.args.self.now in
    let over = subst (λ (r : TreeRun). r.is_over ≡ false) c.self.view_is c.if-self.false in
    shown_off program run c.args.block.now _ c.act_first.result c.act_first.new.self c.act_first.new.block c.act_first.ensures c.in_default.not-On
    ∙ step_shown program run c.requires.ready.ready c.args.block.now over
