use Rattle.std.proofs.Common.{◌≡◌, ◌<◌, Bool, true, false, not, arith, length, sym, ◌∙◌, refl}
use Rattle.std.proofs.lemmas.Option.{slice_get_read}
use Rattle.ob_checked.specs.View.{table_of}
use Rattle.ob_checked.specs.Types.{types_of}
use Rattle.ob_scopes.proofs.SameTypes.{same_length, field_same, other_name, other_type, field_depth, same_number_type}
use Rattle.ob_scopes.proofs.same_types.+same_type.Goals as goal

not_so : (b : Bool) → true ≡ not b → b ≡ false
not_so true h = cc
not_so false h = refl

not_not : (b : Bool) → false ≡ not b → b ≡ true
not_not true h = refl
not_not false h = cc

pub same_fields-returns-then-ne : goal.same_fields-returns-then-ne
same_fields-returns-then-ne t c =
    let types = types_of (table_of c.args.types.now) in
    let left = c.args.left.now in
    let right = c.args.right.now in
    let i = c.loop-position.position in
    let within : i < length right = omega (arith, c.loop-position-test.true, c.if-left-right.false) in
    let here = slice_get_read left (length left) i c.index-left-position.result refl c.loop-position-test.true c.index-left-position.is in
    let there = slice_get_read right (length right) i c.index-right-position.result refl within c.index-right-position.is in
    other_name types left right i _ _ here there (not_so _ c.if-ne.ensures) ∙ sym c.loop-position.invariant

pub same_fields-same_type-requires : goal.same_fields-same_type-requires
same_fields-same_type-requires t c =
    let left = c.args.left.now in
    let i = c.loop-position.position in
    let here = slice_get_read left (length left) i c.index-left-position.result refl c.loop-position-test.true c.index-left-position.is in
    let h = field_depth (types_of (table_of c.args.types.now)) left i c.index-left-position.result here in
    (omega (arith, h, c.decreases), tt)

pub same_fields-returns-then-not-same_type : goal.same_fields-returns-then-not-same_type
same_fields-returns-then-not-same_type t c =
    let types = types_of (table_of c.args.types.now) in
    let left = c.args.left.now in
    let right = c.args.right.now in
    let i = c.loop-position.position in
    let within : i < length right = omega (arith, c.loop-position-test.true, c.if-left-right.false) in
    let here = slice_get_read left (length left) i c.index-left-position.result refl c.loop-position-test.true c.index-left-position.is in
    let there = slice_get_read right (length right) i c.index-right-position.result refl within c.index-right-position.is in
    other_type types left right i _ _ here there c.if-not-same_type.ensures ∙ sym c.loop-position.invariant

pub same_fields-returns-then-left-right : goal.same_fields-returns-then-left-right
same_fields-returns-then-left-right t c =
    same_length (types_of (table_of c.args.types.now)) c.args.left.now c.args.right.now c.if-left-right.true

pub same_fields-loop-position-preserved : goal.same_fields-loop-position-preserved
same_fields-loop-position-preserved t c =
    let types = types_of (table_of c.args.types.now) in
    let left = c.args.left.now in
    let right = c.args.right.now in
    let i = c.loop-position.position in
    let within : i < length right = omega (arith, c.loop-position-test.true, c.if-left-right.false) in
    let here = slice_get_read left (length left) i c.index-left-position.result refl c.loop-position-test.true c.index-left-position.is in
    let there = slice_get_read right (length right) i c.index-right-position.result refl within c.index-right-position.is in
    c.loop-position.invariant ∙ field_same types left right i _ _ here there (not_not _ c.if-ne.ensures) c.if-not-same_type.ensures

pub same_type-returns-then-same_number : goal.same_type-returns-then-same_number
same_type-returns-then-same_number t c =
    same_number_type (table_of c.args.types.now) c.args.left c.args.right (c.same_number.ensures c.if-same_number.true)
