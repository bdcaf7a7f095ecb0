use Rattle.std.proofs.Common.{◌∙◌, ap, length, map, string_bytes, sym}
use Rattle.std.specs.Prelude.{option_map}
use Rattle.ob_checked.specs.CheckedModule.{program_in}
use Rattle.ob_explained.specs.Sources.{source_of}
use Rattle.ob_grammar.specs.View.{module_of}
use Rattle.ob_mean.specs.View.{call_of}
use Rattle.ob_object_compile.specs.View.{object_in}
use Rattle.ob_store.specs.View.{state_of}
use Rattle.ob_trap_places.specs.Reaching.{site_of}
use Rattle.ob_explained_traps.proofs.TrapsOfCalls.{asked_long, callers_long, lines_of_calls, sites_long}
use Rattle.ob_explained_traps.proofs.script_traps.told_of_calls.Goals as goal

pub traps_told-requires : goal.traps_told-requires
traps_told-requires c =
    let calls = c.args.calls.now in
    let long = sites_long (option_map site_of) c.deref-4.result.now (program_in c.checked-checked.result.now) c.budget-budget.result (state_of c.in_ok-opening.opening)
    (map call_of c.deref.result.now) (length calls) (ap (map (option_map site_of)) c.deref-4.ensures.value ∙ c.in_ok-sites.ensures)
    (asked_long (map call_of c.deref.result.now) calls (ap (map call_of) c.deref.ensures.value ∙ c.in_ok-asked.ensures)) in (
      callers_long c.deref-2.result.now calls (c.deref-2.ensures.value ∙ c.in_ok-callers.ensures) ∙ sym long,
      ap length (c.deref-3.ensures.value ∙ c.in_ok-lines.ensures) ∙ c.requires ∙ sym long,
    )

pub returns : goal.returns
returns c =
    lines_of_calls (source_of c.args.object) (source_of c.args.script) (object_in c.args.compiled.now) c.args.calls.now
    (module_of c.tree.result.now) (program_in c.checked-checked.result.now) c.budget-budget.result (state_of c.in_ok-opening.opening) c.deref-2.result.now c.deref-3.result.now
    (map call_of c.deref.result.now) (map (option_map site_of) c.deref-4.result.now) (string_bytes c.in_ok-traps_told.field-0)
    (c.tree.ensures.tree ∙ c.checked-checked.ensures.tree) c.checked-checked.ensures.program c.budget-budget.ensures (c.in_ok-opening.ensures ∙ c.opening.ensures)
    (c.deref-2.ensures.value ∙ c.in_ok-callers.ensures) (ap (map call_of) c.deref.ensures.value ∙ c.in_ok-asked.ensures)
    (c.deref-3.ensures.value ∙ c.in_ok-lines.ensures) (ap (map (option_map site_of)) c.deref-4.ensures.value ∙ c.in_ok-sites.ensures)
    c.in_ok-traps_told.ensures
