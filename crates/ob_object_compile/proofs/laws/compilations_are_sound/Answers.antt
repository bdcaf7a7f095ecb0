use Rattle.std.proofs.Common.{◌∙◌, ap, sym}
use Rattle.ob_code_correct.specs.CodeMeaning.{EngineParts}
use Rattle.ob_code_correct.specs.Compiled.{parts_of}
use Rattle.ob_object_compile.proofs.Openings.{begins_typed, module_resolved}
use Rattle.ob_object_compile.proofs.laws.compilations_are_sound.Goals as goal

pub returns-clause-coded : goal.returns-clause-coded
returns-clause-coded c = λ a o is. record {
  layout_is = is.layout_is;
  well = c.modules_are_well_formed.ensures a.text o.program is.is_module;
  resolved = c.well_typed_is_resolved.ensures is.is_module.tree o.program is.is_module.typed;
  engine_is = is.engine_is ∙ ap (parts_of o.program) (sym (ap (λ (q : EngineParts). q.budget) is.engine_is));
  begins = begins_typed o.program (module_resolved a.text o.program is.is_module) (c.modules_are_well_formed.ensures a.text o.program is.is_module)
      c.openings_are_states.ensures a.beginning o.opening is.opens;
}

pub returns-clause-trees : goal.returns-clause-trees
returns-clause-trees c = λ a o is. record {
  layout_is = is.layout_is;
  well = c.modules_are_well_formed.ensures a.text o.program is.is_module;
  resolved = c.well_typed_is_resolved.ensures is.is_module.tree o.program is.is_module.typed;
  engine_is = is.engine_is ∙ ap (parts_of o.program) (sym (ap (λ (q : EngineParts). q.budget) is.engine_is));
  begins = begins_typed o.program (module_resolved a.text o.program is.is_module) (c.modules_are_well_formed.ensures a.text o.program is.is_module)
      c.openings_are_states.ensures a.beginning o.opening is.opens;
}
