use Rattle.std.proofs.Common.{ap, ◌∙◌}
use Rattle.std.specs.Prelude.{slice_get}
use Rattle.ob_tree.proofs.Known.{exports_are}
use Rattle.ob_tree.proofs.engine.TreeEngine.export_at.Goals as goal

pub returns : goal.returns
returns c = c.entrance_at.ensures ∙ ap (λ xs. slice_get xs c.args.number) (c.as_slice.ensures.value ∙ exports_are _ _ c.args.self.now.listed)
