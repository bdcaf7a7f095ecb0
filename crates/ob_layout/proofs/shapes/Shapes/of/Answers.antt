use Rattle.std.proofs.Common.{◌≡◌, ◌+◌, ◌++◌, ◌∷◌, [], length, drop, ap, ◌∙◌, arith}
use Rattle.std.specs.Prelude.{slice_get}
use Rattle.std.proofs.lemmas.List.{length-append}
use Rattle.ob_checked.specs.Types as Given
use Rattle.ob_checked.specs.View.{table_of}
use Rattle.ob_layout.specs.Shapes.{types_of}
use Rattle.ob_layout.specs.View.{shapes_of}
use Rattle.ob_layout.proofs.Laid.{next_there, next_small, next_stands, none_stands}
use Rattle.ob_layout.proofs.ShapeTypes.{length_of_types, types_of-push}
use Rattle.ob_layout.proofs.shapes.Shapes.of.Goals.{In_ok-add}
use Rattle.ob_layout.proofs.shapes.Shapes.of.Goals as goal

pub shape_of-requires-in-Some-clause-small : goal.shape_of-requires-in-Some-clause-small
shape_of-requires-in-Some-clause-small c =
    let ss = shapes_of c.loop-structured.shapes in
    next_small (table_of c.args.types.now) c.structured.ensures.table (types_of ss) (length ss) (length_of_types ss) c.loop-structured.invariant
    c.in-Some.structured.now (c.in-Some.ensures.entry ∙ ap (slice_get (table_of c.args.types.now)) c.count.ensures)

more : (c : In_ok-add) → length (shapes_of c.add.new.self) ≡ length (shapes_of c.loop-structured.shapes) + 1
more c = omega (arith, ap length c.in_ok-add.ensures, length-append (shapes_of c.loop-structured.shapes) (c.in_ok-shape.shape ∷ []))

pub loop-structured-smaller : goal.loop-structured-smaller
loop-structured-smaller c =
    let ss = shapes_of c.loop-structured.shapes in
    let there = next_there (table_of c.args.types.now) c.structured.ensures.table (types_of ss) (length ss) (length_of_types ss) c.loop-structured.invariant
    c.in-Some.structured.now (c.in-Some.ensures.entry ∙ ap (slice_get (table_of c.args.types.now)) c.count.ensures) in
    let here = more c in
    omega (arith, there, here)

pub loop-structured-preserved : goal.loop-structured-preserved
loop-structured-preserved c =
    let es = table_of c.args.types.now in
    let ss = shapes_of c.loop-structured.shapes in
    let stands = ap types_of c.in_ok-add.ensures ∙ types_of-push ss c.in_ok-shape.shape ∙ ap (λ t. types_of ss ++ t ∷ []) c.in_ok-shape.ensures.same in
    ap (λ n. Given.types_behind (types_of (shapes_of c.add.new.self)) (drop n es)) (more c)
    ∙ next_stands es c.structured.ensures.table (types_of ss) (length ss) (length_of_types ss) c.loop-structured.invariant
    c.in-Some.structured.now (c.in-Some.ensures.entry ∙ ap (slice_get es) c.count.ensures) _ stands

pub returns : goal.returns
returns c =
    let es = table_of c.args.types.now in
    let ss = shapes_of c.loop-structured.shapes in
    none_stands es c.structured.ensures.table (types_of ss) (length ss) (length_of_types ss) c.loop-structured.invariant
    (c.in_default.ensures.entry ∙ ap (slice_get es) c.count.ensures)
