use Rattle.std.proofs.Common.{◌≡◌, ◌∷◌, [], ◌∙◌, ap, refl, rules, subst, sym}
use Rattle.std.proofs.lemmas.List.{nil_from_length}
use Rattle.ob_code_scheme.specs.Types.{inner}
use Rattle.ob_layout.specs.Places.{HasPart}
use Rattle.ob_layout.specs.Shapes.{type_in}
use Rattle.ob_layout.specs.View.{shapes_of}
use Rattle.ob_layout.proofs.PartWords.{Summed, summed}
use Rattle.ob_layout.proofs.shapes.Shapes.+part_word.Goals as goal

pub returns-in_default-clause-there : goal.returns-in_default-clause-there
returns-in_default-clause-there t c =
    let none : c.args.path.now ≡ [] = nil_from_length _ c.in_default.ensures.cases in
    ((λ h. subst (λ p. HasPart (type_in (shapes_of c.args.self.now) c.args.data_type) p) (sym none) (type_in (shapes_of c.args.self.now) c.args.data_type, refl)), (λ h. refl))

sum : (t : _) (c : goal.After-part_offset t) → Summed (shapes_of c.args.self.now) c.args.self.now.shapes c.args.data_type c.part_type.result c.in-Some.first.now c.in-Some.rest.now c.part_type.ensures c.part_offset.result c.in-Some-part_word.within
sum t c =
    let there = c.in-Some-part_word.ensures in
    summed (shapes_of c.args.self.now) c.args.self.now.shapes c.args.data_type c.part_type.result c.in-Some.first.now c.in-Some.rest.now c.part_type.ensures
    (c.if-not-has_part.ensures.0 refl) (there.there.0 refl) c.part_offset.result c.in-Some-part_word.within c.part_offset.ensures there.word

pub overflow_add-result : goal.overflow_add-result
overflow_add-result t c = let few = (sum t c).few in search rules

pub returns-in-Some-part_word-clause-word : goal.returns-in-Some-part_word-clause-word
returns-in-Some-part_word-clause-word t c =
    let more : c.args.path.now ≡ c.in-Some.first.now ∷ c.in-Some.rest.now = search rules in
    (sum t c).sum ∙ ap (λ p. inner (type_in (shapes_of c.args.self.now) c.args.data_type) p) (sym more)
