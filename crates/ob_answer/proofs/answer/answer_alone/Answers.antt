use Rattle.std.proofs.Common.{ℕ, Bor, List, map, refl}
use Rattle.ob_answer.proofs.AnswersToWords.{stopped}
use Rattle.ob_answer.proofs.answer.answer_alone.Goals as goal

pub returns-in_ok-answer_stop-in-Err : goal.returns-in_ok-answer_stop-in-Err
returns-in_ok-answer_stop-in-Err g c =
    let words : List (List ℕ) = map (λ (word : Bor (List ℕ)). word.now) c.args.words.now in
    record {
      asked = stopped g.F.Files.reads words c.args.files.now c.args.files.now c.in_ok-answer_stop-in-Err.field-0 c.asked_command.result c.in-Err.stop
          c.in-Err.is c.asked_command.ensures.reading c.asked_command.ensures.mistake c.in_ok-answer_stop-in-Err.ensures refl;
    }
