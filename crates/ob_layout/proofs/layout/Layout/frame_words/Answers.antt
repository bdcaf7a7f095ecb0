use Rattle.std.proofs.Common.{◌≤◌, length, refl, subst, ap, sym, ◌∙◌}
use Rattle.std.specs.Prelude.{slice_get}
use Rattle.std.proofs.lemmas.Option.{slice_get_read}
use Rattle.ob_code_scheme.specs.Types.{extent}
use Rattle.ob_layout.specs.Shapes.{types_of}
use Rattle.ob_layout.specs.View.{shapes_of}
use Rattle.ob_layout.proofs.Counted.{scope_there, scope_past}
use Rattle.ob_layout.proofs.layout.Layout.frame_words.Goals as goal

pub returns-in-Some : goal.returns-in-Some
returns-in-Some c =
    let ts = types_of (shapes_of c.args.self.now.shapes) in
    let found = ap (λ fs. slice_get fs c.args.procedure) (sym c.deref.ensures.value) ∙ slice_get_read c.deref.result.now _ c.args.procedure c.in-Some.frame.now refl c.in-Some.ensures.lookup.3.0 c.in-Some.ensures.lookup.1 in
    c.words.ensures ∙ (c.args.self.now.framed c.args.procedure c.in-Some.frame.now found).words
    ∙ sym (ap extent (scope_there ts c.args.self.now.frames.items c.args.procedure c.in-Some.frame.now found))

pub returns-in-None : goal.returns-in-None
returns-in-None c =
    let ts = types_of (shapes_of c.args.self.now.shapes) in
    sym (ap extent (scope_past ts c.args.self.now.frames.items c.args.procedure (subst (λ fs. length fs ≤ c.args.procedure) c.deref.ensures.value c.in-None.ensures.lookup.3)))
