-- Lists of arguments are the same where they are equal, and where both are empty.
use Rattle.std.proofs.Common.{sym, ◌∙◌, length}
use Rattle.std.proofs.lemmas.Bool.{eqb-true}
use Rattle.std.proofs.lemmas.List.{nil_from_length}
use Rattle.std.proofs.lemmas.Slice.Eq.{slice_eq-Decides}
use Rattle.wf_history.proofs.Same.{scalar_eq, scalar_decides}
use Rattle.wf_outcomes.proofs.remembered_calls.has_same_arguments.Goals as goal

pub returns-then-is_empty : goal.returns-then-is_empty
returns-then-is_empty c = λ t.
    let none = eqb-true (length c.args.call.now.args.items) 0 (sym c.is_empty.ensures ∙ c.if-is_empty.true) in
    let other = eqb-true (length c.args.other.now.args.items) 0 (sym c.is_empty-then-is_empty.ensures ∙ t) in
    nil_from_length c.args.call.now.args.items none ∙ sym (nil_from_length c.args.other.now.args.items other)

pub returns : goal.returns
returns c = λ t.
    let eq = slice_eq-Decides {E = scalar_eq} scalar_decides c.as_slice.result.now c.as_slice-2.result.now c.eq.result c.eq.ensures in
    sym (c.as_slice.ensures ∙ c.lent.ensures) ∙ eq.0 t ∙ (c.as_slice-2.ensures ∙ c.lent-2.ensures)
