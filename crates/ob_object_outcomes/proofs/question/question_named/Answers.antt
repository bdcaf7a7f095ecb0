-- By the export that has the name.
use Rattle.std.proofs.Common.{sym, ap, ◌∙◌, map, option_map}
use Rattle.ob_interface.specs.View.{signature_of}
use Rattle.ob_object_outcomes.proofs.Questions.{no_export, other_export, the_export}
use Rattle.ob_object_outcomes.proofs.question.question_named.Goals as goal

pub returns-in_default : goal.returns-in_default
returns-in_default c = no_export (map signature_of c.args.exports.now) c.args.name.now (ap (option_map (λ e. (e.0, signature_of e.1.now))) (sym c.in_default.is) ∙ c.export_named.ensures)

pub returns-then-is_one_truth : goal.returns-then-is_one_truth
returns-then-is_one_truth c =
    the_export (map signature_of c.args.exports.now) c.args.name.now c.in-Some.number (signature_of c.in-Some.export.now) (ap (option_map (λ e. (e.0, signature_of e.1.now))) (sym c.in-Some.is) ∙ c.export_named.ensures)
    (sym c.deref.ensures.value ∙ c.is_one_truth.ensures.0 c.if-is_one_truth.true)

pub returns : goal.returns
returns c =
    other_export (map signature_of c.args.exports.now) c.args.name.now c.in-Some.number (signature_of c.in-Some.export.now) (ap (option_map (λ e. (e.0, signature_of e.1.now))) (sym c.in-Some.is) ∙ c.export_named.ensures)
    (λ one. let t = c.is_one_truth.ensures.1 (c.deref.ensures.value ∙ one) in let f = c.if-is_one_truth.false in absurd (cc))
