use Rattle.std.proofs.Common.{◌≡◌, ap, sym, refl, ◌∙◌, arith, length}
use Rattle.std.proofs.lemmas.List.{take_all}
use Rattle.std.proofs.lemmas.Option.{slice_get_read}
use Rattle.ob_store.specs.View.{values_in}
use Rattle.ob_checked.specs.Types.{structure_by, types_of, fields_in, fields_by, is_within}
use Rattle.ob_checked.specs.View.{table_of}
use Rattle.ob_meaning.specs.ByPositionValue as Values
use Rattle.ob_mean.proofs.InitialValues.{most, rank_at, element_falls, fields_fall, fields_more, none_begun, elements_begun, record_begun}
use Rattle.ob_mean.proofs.begun.+initial_over.Goals as goal

pub initial_over-returns-in-None : goal.initial_over-returns-in-None
initial_over-returns-in-None t c =
    sym (none_begun (table_of c.args.types.now) c.in-None.ensures.table c.args.data_type c.in-Structured.number c.in-Structured.is c.in-None.ensures.entry)

pub initial_over-elements_over-requires : goal.initial_over-elements_over-requires
initial_over-elements_over-requires t c =
    let falls = element_falls (table_of c.args.types.now) c.in-Some.ensures.table c.args.data_type c.in-Structured.number c.in-Structured.is c.in-Some.structured.now c.in-Some.ensures.entry _ _ c.in-Array.is in
    (omega (arith, falls), tt)

pub elements_over-returns : goal.elements_over-returns
elements_over-returns t c = c.in_ok-all.ensures ∙ ap (Values.copies c.args.count) c.in_ok-one.ensures

pub initial_over-fields_over-requires : goal.initial_over-fields_over-requires
initial_over-fields_over-requires t c =
    let n = c.in-Structured.number in
    let falls = fields_fall (table_of c.args.types.now) c.in-Some.ensures.table c.args.data_type n c.in-Structured.is c.in-Some.structured.now c.in-Some.ensures.entry (fields_in c.in-Record.fields) (ap (is_within n) c.in-Record.is) in
    let all : most c.as_slice.result.now ≡ most (fields_in c.in-Record.fields) = ap most c.as_slice.ensures in
    (omega (arith, falls, all), tt)

pub initial_over-returns-in_ok-elements_over-in-Array : goal.initial_over-returns-in_ok-elements_over-in-Array
initial_over-returns-in_ok-elements_over-in-Array t c =
    elements_begun (table_of c.args.types.now) c.in-Some.ensures.table c.args.data_type c.in-Structured.number c.in-Structured.is
    c.in-Some.structured.now c.in-Some.ensures.entry c.in_ok-elements_over-in-Array.field-0 _ _ c.in-Array.is c.in_ok-elements_over-in-Array.ensures

pub initial_over-returns-in_ok-fields_over-in-Record : goal.initial_over-returns-in_ok-fields_over-in-Record
initial_over-returns-in_ok-fields_over-in-Record t c =
    let es = table_of c.args.types.now in
    let e = c.in-Some.structured.now in
    record_begun es c.in-Some.ensures.table c.args.data_type c.in-Structured.number c.in-Structured.is
    e c.in-Some.ensures.entry c.in_ok-fields_over-in-Record.field-0 (fields_in c.in-Record.fields)
    (ap (structure_by (types_of es) e.place) c.in-Record.is)
    (c.in_ok-fields_over-in-Record.ensures ∙ ap (λ fs. Values.initial_fields (fields_by (types_of es) fs)) c.as_slice.ensures)

pub fields_over-initial_over-requires : goal.fields_over-initial_over-requires
fields_over-initial_over-requires t c =
    let fields = c.args.fields.now in
    let i = c.loop-field.field-index in
    let falls = rank_at fields i c.field-item.result (sym (slice_get_read fields (length fields) i c.field-item.result refl c.loop-field-test.true c.field-item.is)) in
    (omega (arith, falls), tt)

pub fields_over-loop-field-preserved : goal.fields_over-loop-field-preserved
fields_over-loop-field-preserved t c =
    let fields = c.args.fields.now in
    let i = c.loop-field.field-index in
    ap values_in c.in_ok-push.ensures.items
    ∙ fields_more (types_of (table_of c.args.types.now)) fields _ _ i c.field-item.result
    (sym (slice_get_read fields (length fields) i c.field-item.result refl c.loop-field-test.true c.field-item.is)) c.loop-field.invariant c.in_ok-part.ensures

-- the invariant at the end is of all fields
pub fields_over-returns : goal.fields_over-returns
fields_over-returns t c =
    let fields = c.args.fields.now in
    c.loop-field.invariant ∙ ap (λ fs. Values.initial_fields (fields_by (types_of (table_of c.args.types.now)) fs)) (take_all c.loop-field.field-index fields (omega arith))
