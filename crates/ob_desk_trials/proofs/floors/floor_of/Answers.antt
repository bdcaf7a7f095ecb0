use Rattle.std.proofs.Common.{◌≡◌, ◌∙◌, ap}
use Rattle.ob_code_engine.specs.CodeEngine.{CompiledParts}
use Rattle.ob_code_scheme.specs.Layout.{encoded}
use Rattle.ob_desk_serve.proofs.Closed.{lawful_opening}
use Rattle.ob_object_compile.specs.View.{object_in}
use Rattle.ob_desk_trials.proofs.floors.floor_of.Goals as goal

pub new-requires-2-clause-opening : goal.new-requires-2-clause-opening
new-requires-2-clause-opening c =
    let o = object_in c.in_ok-object.object in
    let code : c.in_ok-engine.engine.parts ≡ o.engine = ap (λ (x : CompiledParts). x.parts) c.in_ok-engine.ensures ∙ c.engine.ensures in
    lawful_opening o c.in_ok-engine.engine.parts c.in_ok-words.words.items c.in_ok-object.ensures.sound code
    (c.in_ok-words.ensures ∙ ap encoded c.opening.ensures)
