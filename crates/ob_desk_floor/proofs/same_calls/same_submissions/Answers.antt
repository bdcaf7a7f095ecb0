use Rattle.std.proofs.Common.{◌∙◌, List, get_or, ap, sym, refl, arith, ℕ}
use Rattle.std.proofs.lemmas.List.{get_or-map}
use Rattle.ob_desk_floor.specs.Submission.{submission_of}
use Rattle.ob_interface.specs.Call.{ObjectCall}
use Rattle.ob_desk_floor.proofs.same_calls.same_submissions.Goals as goal

pub returns-then-not-same_submission-clause-no : goal.returns-then-not-same_submission-clause-no
returns-then-not-same_submission-clause-no c =
    let i = c.loop-i.i in
    let x = c.index-submissions-i.result in
    let y = c.index-others-i.result in
    λ _ same. c.if-not-same_submission.ensures.no refl
    (ap submission_of c.index-submissions-i.is
    ∙ sym (get_or-map submission_of c.args.submissions.now i x (submission_of x) c.loop-i-test.true)
    ∙ ap (λ (l : List (ℕ × ObjectCall)). get_or l i (submission_of x)) same
    ∙ get_or-map submission_of c.args.others.now i y (submission_of x) (omega arith)
    ∙ ap submission_of (sym c.index-others-i.is))
