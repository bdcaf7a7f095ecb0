use Rattle.std.proofs.Common.{List, drop, sym, ap, ◌∙◌, arith}
use Rattle.std.specs.Prelude.{slice_get}
use Rattle.ob_checked.specs.View.{table_of}
use Rattle.ob_checked.specs.declared.program.Procedure.{Procedure}
use Rattle.ob_layout.specs.Layout.{parts_of, frame_in}
use Rattle.ob_code_scheme.specs.Types.{extent}
use Rattle.ob_tree.proofs.Numbered.{words_few, pushed, none_pushed}
use Rattle.ob_tree.proofs.procedure_work.push_procedure.Goals as goal

pub returns-in_default : goal.returns-in_default
returns-in_default c =
    none_pushed (table_of c.args.program.now.types) c.args.program.now.procedures.items c.args.number c.args.work.now c.clear.new.self
    (sym (c.in_default.ensures ∙ ap (λ (ps : List Procedure). slice_get ps c.args.number) c.as_slice.ensures.value)) c.clear.ensures

pub overflow_cast-words : goal.overflow_cast-words
overflow_cast-words c =
    let p = c.in-Some.procedure.now in
    let there = sym (c.in-Some.ensures ∙ ap (λ (ps : List Procedure). slice_get ps c.args.number) c.as_slice.ensures.value) in
    let counted = c.words_from-words.ensures ∙ ap (λ n. extent (drop n (frame_in c.args.layout.now c.args.number))) (c.len.ensures ∙ p.parameters.ok.0) in
    let few = words_few (table_of c.args.program.now.types) (parts_of c.args.layout.now).frames c.args.program.now.procedures.items c.args.number p c.requires.frames there c.requires.small c.words_from-words.result counted in
    omega (arith, few)

pub returns : goal.returns
returns c =
    let p = c.in-Some.procedure.now in
    let there = sym (c.in-Some.ensures ∙ ap (λ (ps : List Procedure). slice_get ps c.args.number) c.as_slice.ensures.value) in
    let counted = c.words_from-words.ensures ∙ ap (λ n. extent (drop n (frame_in c.args.layout.now c.args.number))) (c.len.ensures ∙ p.parameters.ok.0) in
    pushed (table_of c.args.program.now.types) (parts_of c.args.layout.now).frames c.args.program.now.procedures.items c.args.number p c.requires.frames there
    _ _ _ _ _ _ counted c.as_slice-2.ensures.value c.push.ensures c.push-2.ensures c.push-3.ensures
