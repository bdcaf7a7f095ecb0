-- The words of an object's opening are lawful for its engine.
use Rattle.std.proofs.Common.{◌≡◌, ◌∙◌, ap}
use Rattle.ob_code_engine.specs.CodeEngine.{CompiledParts}
use Rattle.ob_code_scheme.specs.Layout.{encoded}
use Rattle.ob_desk_serve.proofs.Closed.{lawful_opening}
use Rattle.ob_object_compile.specs.View.{object_in}
use Rattle.ob_code_refusals.proofs.machine_runs.opened.Goals as goal

pub new-requires : goal.new-requires
new-requires c =
    let o = object_in c.args.object.now in
    let code : c.in_ok-engine.engine.parts ≡ o.engine = ap (λ (x : CompiledParts). x.parts) c.in_ok-engine.ensures ∙ c.engine.ensures in
    lawful_opening o c.in_ok-engine.engine.parts c.as_slice.result.now c.requires code (c.as_slice.ensures.value ∙ c.in_ok-words.ensures ∙ ap encoded c.opening.ensures)
