use Rattle.std.proofs.Common.{List, sym, ap, ◌∙◌, subst}
use Rattle.std.specs.Prelude.{None, ℤ, option_map, take}
use Rattle.ll_cell.specs.Cell.{block_of}
use Rattle.ob_code_correct.specs.CodeMeaning.{code_meaning}
use Rattle.ob_code_correct.specs.Compiled.{HasReserve, IsFitting}
use Rattle.ob_code_correct.specs.Parts.{IsEffectOf, IsLawfulFor}
use Rattle.ob_layout.specs.Layout.{parts_of}
use Rattle.ob_text_record.specs.Record.{Record}
use Rattle.ob_object_run.proofs.Chain.{legal_for, meant_for, never_none}
use Rattle.ob_store.specs.View.{state_of}
use Rattle.wf_table.proofs.Effects.{begun_fits}
use Rattle.wf_history.specs.declared.event.CallId.{CallId}
use Rattle.wf_history.specs.Legal.{IsLegal}
use Rattle.ob_object_run.proofs.recording.recorded.Goals as goal

pub unreachable-requires : goal.unreachable-requires
unreachable-requires c =
    let a = c.args.machine in
    let q = a.engine.parts in
    let fit = begun_fits (code_meaning q) (IsLawfulFor q) (IsFitting q.exports) (HasReserve q) a.sizes a.opening a.state c.keeps.ensures.sound in
    let words = c.variables.ensures in
    never_none q a.opening c.variables.result.now a.state.records.history fit c.order.result.now (parts_of c.args.layout.now).variables c.requires
    (subst (λ (ws : List ℤ). ∥ IsLegal (IsEffectOf q) a.opening a.state.records.history c.order.result.now ws ∥₁) (sym words) c.order.ensures.legal)
    (sym c.in_ok-state.ensures ∙ ap (option_map state_of) c.in_default.is)

pub returns-clause-begun : goal.returns-clause-begun
returns-clause-begun c =
    let a = c.args.machine in
    let q = a.engine.parts in
    rw c.into_parts-history.ensures.history
    (begun_fits (code_meaning q) (IsLawfulFor q) (IsFitting q.exports) (HasReserve q) a.sizes a.opening a.state c.keeps.ensures.sound)

pub returns-clause-turns : goal.returns-clause-turns
returns-clause-turns c =
    rw c.into_parts-history.ensures.schedule (λ k d below. (c.keeps.ensures.sound.below.schedule k d below).process)

pub returns-clause-legal : goal.returns-clause-legal
returns-clause-legal c =
    let a = c.args.machine in
    let q = a.engine.parts in
    let fit = begun_fits (code_meaning q) (IsLawfulFor q) (IsFitting q.exports) (HasReserve q) a.sizes a.opening a.state c.keeps.ensures.sound in
    let words = c.variables.ensures in
    let by_order = subst (λ (order : List CallId). ∥ IsLegal (IsEffectOf q) a.opening a.state.records.history order (take a.sizes.variables (block_of a.state.cell a.state.cell.root)) ∥₁) c.order.ensures.calls c.order.ensures.legal in
    let by_words = subst (λ (ws : List ℤ). ∥ IsLegal (IsEffectOf q) a.opening a.state.records.history a.state.records.order ws ∥₁) (sym words) by_order in
    let read = sym c.in_ok-state.ensures ∙ ap (option_map state_of) c.in-Some.is in
    rw (c.into_parts-history.ensures.history, c.into_parts-history.ensures.order)
    (legal_for (parts_of c.args.layout.now).variables q a.opening c.variables.result.now
    (record { processes = c.args.processes; budget = q.budget; history = a.state.records.history; order = a.state.records.order; schedule = a.state.records.schedule; state = state_of c.in-Some.state; carried = None })
    fit read by_words)

pub returns-clause-meant : goal.returns-clause-meant
returns-clause-meant c =
    let a = c.args.machine in
    let shown = c.into_parts-history.result in
    let r : Record = record { processes = c.args.processes; budget = c.budget-budget.result; history = shown.1; order = shown.2.items; schedule = shown.3.items; state = state_of c.in-Some.state; carried = None } in
    meant_for c.orders_are_carried.ensures.by_name (parts_of c.args.layout.now).variables a.engine.parts a.opening r (returns-clause-begun c) (returns-clause-legal c)
