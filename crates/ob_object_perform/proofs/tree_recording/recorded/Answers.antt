use Rattle.std.proofs.Common.{List, sym, ap, ◌∙◌, subst}
use Rattle.std.specs.Prelude.{None, ℤ, option_map, take}
use Rattle.ll_cell.specs.Cell.{block_of}
use Rattle.ob_checked.specs.CheckedModule.{program_in}
use Rattle.ob_code_correct.specs.Compiled.{Fits}
use Rattle.ob_code_correct.specs.Parts.{IsEffectOf, IsLawfulFor}
use Rattle.ob_layout.specs.Layout.{parts_of}
use Rattle.ob_text_record.specs.Record.{Record}
use Rattle.ob_object_run.proofs.Chain.{legal_for, meant_for, never_none}
use Rattle.ob_store.specs.View.{state_of}
use Rattle.ob_tree.specs.View.{tree_parts_in}
use Rattle.ob_tree_law.specs.TreeEngine.{IsTreeReady, tree_engine}
use Rattle.wf_table.proofs.Effects.{begun_fits}
use Rattle.wf_history.specs.declared.event.CallId.{CallId}
use Rattle.wf_history.specs.Legal.{IsLegal}
use Rattle.ob_object_perform.proofs.tree_recording.recorded.Goals as goal

pub unreachable-requires : goal.unreachable-requires
unreachable-requires c =
    let a = c.args.machine in
    let program = program_in a.engine.checked.now in
    let q = tree_parts_in a.engine in
    let fit = begun_fits (tree_engine program a.engine.budget) (IsLawfulFor q) (Fits program) (IsTreeReady program) a.sizes a.opening a.state c.keeps.ensures.sound in
    let words = c.variables.ensures in
    never_none q a.opening c.variables.result.now a.state.records.history fit c.order.result.now (parts_of c.args.layout.now).variables c.requires
    (subst (λ (ws : List ℤ). ∥ IsLegal (IsEffectOf q) a.opening a.state.records.history c.order.result.now ws ∥₁) (sym words) c.order.ensures.legal)
    (sym c.in_ok-state.ensures ∙ ap (option_map state_of) c.in_default.is)

pub returns-clause-begun : goal.returns-clause-begun
returns-clause-begun c =
    let a = c.args.machine in
    let program = program_in a.engine.checked.now in
    rw c.into_parts-history.ensures.history
    (begun_fits (tree_engine program a.engine.budget) (IsLawfulFor (tree_parts_in a.engine)) (Fits program) (IsTreeReady program) a.sizes a.opening a.state c.keeps.ensures.sound)

pub returns-clause-whole : goal.returns-clause-whole
returns-clause-whole c = rw c.into_parts-history.ensures.history c.keeps.ensures.sound.in_turn

pub returns-clause-meant : goal.returns-clause-meant
returns-clause-meant c =
    let a = c.args.machine in
    let program = program_in a.engine.checked.now in
    let q = tree_parts_in a.engine in
    let variables = (parts_of c.args.layout.now).variables in
    let fit = begun_fits (tree_engine program a.engine.budget) (IsLawfulFor q) (Fits program) (IsTreeReady program) a.sizes a.opening a.state c.keeps.ensures.sound in
    let words = c.variables.ensures in
    let by_order = subst (λ (order : List CallId). ∥ IsLegal (IsEffectOf q) a.opening a.state.records.history order (take a.sizes.variables (block_of a.state.cell a.state.cell.root)) ∥₁) c.order.ensures.calls c.order.ensures.legal in
    let by_words = subst (λ (ws : List ℤ). ∥ IsLegal (IsEffectOf q) a.opening a.state.records.history a.state.records.order ws ∥₁) (sym words) by_order in
    let read = sym c.in_ok-state.ensures ∙ ap (option_map state_of) c.in-Some.is in
    let r : Record = record { processes = c.args.processes; budget = c.budget-budget.result; history = a.state.records.history; order = a.state.records.order; schedule = a.state.records.schedule; state = state_of c.in-Some.state; carried = None } in
    rw (c.into_parts-history.ensures.history, c.into_parts-history.ensures.order, c.into_parts-history.ensures.schedule)
    (meant_for c.orders_are_carried.ensures.by_name variables q a.opening r fit (legal_for variables q a.opening c.variables.result.now r fit read by_words))
