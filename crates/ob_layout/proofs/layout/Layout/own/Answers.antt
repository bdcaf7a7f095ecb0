use Rattle.std.proofs.Common.{◌≡◌, ◌≤◌, Some, length, refl, subst, ap, sym, ◌∙◌}
use Rattle.std.specs.Prelude.{slice_get}
use Rattle.std.proofs.lemmas.Option.{slice_get_read}
use Rattle.ob_code_scheme.specs.Types.{space_at, word_in}
use Rattle.ob_layout.specs.Shapes.{types_of}
use Rattle.ob_layout.specs.View.{shapes_of}
use Rattle.ob_layout.proofs.Counted.{own_space, own_word, scope_there, scope_past}
use Rattle.ob_layout.proofs.layout.Layout.own.Goals.{After-space_or_end}
use Rattle.ob_layout.proofs.layout.Layout.own.Goals as goal

found : (c : After-space_or_end) → slice_get c.args.self.now.frames.items c.args.procedure ≡ Some c.in-Some.frame.now
found c = ap (λ fs. slice_get fs c.args.procedure) (sym c.deref.ensures.value) ∙ slice_get_read _ _ _ _ refl c.in-Some.ensures.lookup.3.0 c.in-Some.ensures.lookup.1

pub returns-in-Some-clause-space : goal.returns-in-Some-clause-space
returns-in-Some-clause-space c =
    let ts = types_of (shapes_of c.args.self.now.shapes) in
    own_space ts c.in-Some.frame.now c.args.position c.space_or_end.result c.space_or_end.ensures.space c.space_or_end.ensures.end
    ∙ sym (ap (λ x. space_at x c.args.position) (scope_there ts c.args.self.now.frames.items c.args.procedure c.in-Some.frame.now (found c)))

pub returns-in-Some-clause-word : goal.returns-in-Some-clause-word
returns-in-Some-clause-word c =
    let ts = types_of (shapes_of c.args.self.now.shapes) in
    own_word ts c.in-Some.frame.now c.args.position c.space_or_end.result c.space_or_end.ensures.space c.space_or_end.ensures.end
    (c.args.self.now.framed c.args.procedure c.in-Some.frame.now (found c))
    ∙ sym (ap (λ x. word_in x c.args.position) (scope_there ts c.args.self.now.frames.items c.args.procedure c.in-Some.frame.now (found c)))

pub returns-in-None-clause-space : goal.returns-in-None-clause-space
returns-in-None-clause-space c =
    let ts = types_of (shapes_of c.args.self.now.shapes) in
    sym (ap (λ x. space_at x c.args.position) (scope_past ts c.args.self.now.frames.items c.args.procedure (subst (λ fs. length fs ≤ c.args.procedure) c.deref.ensures.value c.in-None.ensures.lookup.3)))

pub returns-in-None-clause-word : goal.returns-in-None-clause-word
returns-in-None-clause-word c =
    let ts = types_of (shapes_of c.args.self.now.shapes) in
    sym (ap (λ x. word_in x c.args.position) (scope_past ts c.args.self.now.frames.items c.args.procedure (subst (λ fs. length fs ≤ c.args.procedure) c.deref.ensures.value c.in-None.ensures.lookup.3)))
