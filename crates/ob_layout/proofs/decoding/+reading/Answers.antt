use Rattle.std.proofs.Common.{◌≡◌, ◌+◌, ◌-◌, ℤ, List, None, drop, ap, sym, ◌∙◌, rules, arith}
use Rattle.ob_code_scheme.specs.Layout as Words
use Rattle.ob_meaning.specs.ByPositionValue as Values
use Rattle.ob_layout.specs.declared.shapes.Field.{Field}
use Rattle.ob_store.specs.declared.value.Value.{Value}
use Rattle.ob_layout.specs.Reading.{value_read, whole_of}
use Rattle.ob_layout.specs.Shapes.{type_in, types_of, fields_by}
use Rattle.ob_layout.specs.View.{shapes_of}
use Rattle.ob_layout.proofs.Decoded.{rank_at, most, element_falls, fields_fall, no_type, array_type, record_type, as_bind, prefixed, parts_end, parts_stop, parts_more, fields_stop, fields_more, fields_end}
use Rattle.ob_layout.proofs.decoding.+reading.Goals as goal

pub read_elements-returns-in_default : goal.read_elements-returns-in_default
read_elements-returns-in_default t c =
    let none : c.in_ok-part.field-0 ≡ None = search rules in
    parts_stop c.args.words.now (Words.value_in (type_in (shapes_of c.args.shapes.now) c.args.element)) c.loop-made.parts.items (c.args.length - c.loop-made.made) c.loop-made.at _
    c.loop-made.invariant (c.args.length - (c.loop-made.made + 1)) (omega (arith, c.loop-made-test.true))
    (ap (value_read c.args.words.now) (sym none) ∙ c.in_ok-part.ensures)

pub read_elements-loop-made-preserved : goal.read_elements-loop-made-preserved
read_elements-loop-made-preserved t c =
    let read = Words.value_in (type_in (shapes_of c.args.shapes.now) c.args.element) in
    ap (λ (vs : List Value). prefixed vs (Words.parts_in read (c.args.length - (c.loop-made.made + 1)) (drop c.in-Some.behind c.args.words.now))) c.in_ok-push.ensures.items
    ∙ parts_more c.args.words.now read c.loop-made.parts.items (c.args.length - c.loop-made.made) c.loop-made.at _
    c.loop-made.invariant (c.args.length - (c.loop-made.made + 1)) (omega (arith, c.loop-made-test.true)) c.in-Some.part c.in-Some.behind
    (ap (value_read c.args.words.now) (sym c.in-Some.is) ∙ c.in_ok-part.ensures)

pub read_elements-returns : goal.read_elements-returns
read_elements-returns t c =
    parts_end c.args.words.now (Words.value_in (type_in (shapes_of c.args.shapes.now) c.args.element)) c.loop-made.parts.items (c.args.length - c.loop-made.made) c.loop-made.at _
    c.loop-made.invariant (omega (arith, c.loop-made-test.false))

pub read_fields-read_value-requires : goal.read_fields-read_value-requires
read_fields-read_value-requires t c =
    let falls = rank_at c.args.fields.now c.loop-field.field-index c.field-item.result c.loop-field-test.true c.field-item.is in
    (omega (arith, falls), tt)

pub read_fields-returns-in_default : goal.read_fields-returns-in_default
read_fields-returns-in_default t c =
    let none : c.in_ok-part.field-0 ≡ None = search rules in
    fields_stop c.args.words.now (types_of (shapes_of c.args.shapes.now)) c.loop-field.parts.items c.args.fields.now c.loop-field.field-index c.loop-field.at _
    c.loop-field.invariant c.field-item.result c.loop-field-test.true c.field-item.is
    (ap (value_read c.args.words.now) (sym none) ∙ c.in_ok-part.ensures)

pub read_fields-loop-field-preserved : goal.read_fields-loop-field-preserved
read_fields-loop-field-preserved t c =
    let ts = types_of (shapes_of c.args.shapes.now) in
    ap (λ (vs : List Value). prefixed vs (Words.fields_in (fields_by ts (drop (c.loop-field.field-index + 1) c.args.fields.now)) (drop c.in-Some.behind c.args.words.now))) c.in_ok-push.ensures.items
    ∙ fields_more c.args.words.now ts c.loop-field.parts.items c.args.fields.now c.loop-field.field-index c.loop-field.at _
    c.loop-field.invariant c.field-item.result c.loop-field-test.true c.field-item.is c.in-Some.part c.in-Some.behind
    (ap (value_read c.args.words.now) (sym c.in-Some.is) ∙ c.in_ok-part.ensures)

pub read_fields-returns : goal.read_fields-returns
read_fields-returns t c =
    fields_end c.args.words.now (types_of (shapes_of c.args.shapes.now)) c.loop-field.parts.items c.args.fields.now c.loop-field.field-index c.loop-field.at _
    c.loop-field-test.false c.loop-field.invariant

pub read_value-read_elements-requires : goal.read_value-read_elements-requires
read_value-read_elements-requires t c =
    let falls = element_falls (shapes_of c.args.shapes.now) c.in-Some.ensures.shapes c.args.data_type c.in-Structured.number c.in-Structured.is
    c.in-Some.shape.now c.in-Some.ensures.shape c.in-Elements.length c.in-Elements.element c.in-Elements.is in
    (omega (arith, falls), tt)

pub read_value-read_fields-requires : goal.read_value-read_fields-requires
read_value-read_fields-requires t c =
    let falls = fields_fall (shapes_of c.args.shapes.now) c.in-Some.ensures.shapes c.args.data_type c.in-Structured.number c.in-Structured.is
    c.in-Some.shape.now c.in-Some.ensures.shape c.in-Fields.fields c.in-Fields.is in
    let same = ap most c.as_slice.ensures.value in
    (omega (arith, falls, same), tt)

pub read_value-returns-in-None : goal.read_value-returns-in-None
read_value-returns-in-None t c =
    c.single_in-in-None.ensures
    ∙ sym (ap (λ u. Words.value_in u (drop c.args.from c.args.words.now))
    (no_type (shapes_of c.args.shapes.now) c.in-None.ensures.shapes c.args.data_type c.in-Structured.number c.in-Structured.is c.in-None.ensures.shape))

pub read_value-returns-in_ok-read-in-Elements : goal.read_value-returns-in_ok-read-in-Elements
read_value-returns-in_ok-read-in-Elements t c =
    c.whole.ensures c.args.words.now ∙ ap whole_of c.in_ok-read-in-Elements.ensures
    ∙ as_bind (λ (r : Values.Values × List ℤ). (Values.Parts r.0, r.1)) _
    ∙ sym (ap (λ u. Words.value_in u (drop c.args.from c.args.words.now))
    (array_type (shapes_of c.args.shapes.now) c.in-Some.ensures.shapes c.args.data_type c.in-Structured.number c.in-Structured.is
    c.in-Some.shape.now c.in-Some.ensures.shape c.in-Elements.length c.in-Elements.element c.in-Elements.is))

pub read_value-returns-in_ok-read-in-Fields : goal.read_value-returns-in_ok-read-in-Fields
read_value-returns-in_ok-read-in-Fields t c =
    c.whole-in-Fields.ensures c.args.words.now ∙ ap whole_of c.in_ok-read-in-Fields.ensures
    ∙ ap (λ (fs : List Field). whole_of (Words.fields_in (fields_by (types_of (shapes_of c.args.shapes.now)) fs) (drop c.args.from c.args.words.now))) c.as_slice.ensures.value
    ∙ as_bind (λ (r : Values.Values × List ℤ). (Values.Parts r.0, r.1)) _
    ∙ sym (ap (λ u. Words.value_in u (drop c.args.from c.args.words.now))
    (record_type (shapes_of c.args.shapes.now) c.in-Some.ensures.shapes c.args.data_type c.in-Structured.number c.in-Structured.is
    c.in-Some.shape.now c.in-Some.ensures.shape c.in-Fields.fields c.in-Fields.is))
