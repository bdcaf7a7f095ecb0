use Rattle.std.proofs.Common.{ℕ, IfOk, Option, subst}
use Rattle.ob_answer_files.specs.Reads.{OfWhole}
use Rattle.ob_answer_searches.specs.HistoryPictureAnswers.{IsHistoryPictureAnswer}
use Rattle.ob_answer_searches.proofs.history_drawing.answer_draw_history.Goals as goal

pub returns : goal.returns
returns g c =
    subst (λ (budget : Option ℕ). IfOk c.answer_drawn.result
    (OfWhole c.args.module.now (λ whole. IsHistoryPictureAnswer c.args.drawing.calls whole c.args.history.now budget c.args.drawing.most)))
    c.in_ok-search.ensures.budget
    (subst (λ (most : ℕ). IfOk c.answer_drawn.result
    (OfWhole c.args.module.now (λ whole. IsHistoryPictureAnswer c.args.drawing.calls whole c.args.history.now c.in_ok-search.search.budget most)))
    c.in_ok-search.ensures.most c.answer_drawn.ensures)
