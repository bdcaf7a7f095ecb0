-- Lists of values are the same where they are equal.
use Rattle.std.proofs.Common.{◌≡◌, ap, sym, ◌∙◌}
use Rattle.ob_interface.specs.Call.{Answers}
use Rattle.ob_interface.specs.View.{reply_of}
use Rattle.wf_history.specs.View.{seen_reply}
use Rattle.wf_lookup.proofs.compared_replies.is_same_reply.Goals as goal

pub returns-in-Done-Done : goal.returns-in-Done-Done
returns-in-Done-Done c =
    let eq = c.are_equal.ensures in
    let one = ap reply_of c.in-Done-Done.is-0 ∙ ap Answers (sym c.as_slice.ensures) in
    let two = ap seen_reply c.in-Done-Done.is-1 ∙ ap Answers (sym (c.as_slice-in-Done-Done.ensures ∙ c.lent.ensures)) in
    (λ t. one ∙ ap Answers (eq.0 t) ∙ sym two, λ same. let both = sym one ∙ same ∙ two in let lists : c.as_slice.result.now ≡ c.as_slice-in-Done-Done.result.now = cc in eq.1 lists)
