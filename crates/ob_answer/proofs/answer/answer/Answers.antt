use Rattle.std.proofs.Common.{ℕ, Bor, List, map}
use Rattle.std.proofs.lemmas.Result.{IfOk-weaker}
use Rattle.ob_answer.proofs.AnswersToWords.{served_told}
use Rattle.ob_answer.proofs.answer.answer.Goals as goal

pub returns-in-Serves : goal.returns-in-Serves
returns-in-Serves g c =
    let words : List (List ℕ) = map (λ (word : Bor (List ℕ)). word.now) c.args.words.now in
    let alone = rw c.in-Serves.is at c.in_ok-answer.ensures.asked in
    record {
      asked = IfOk-weaker c.obey_serve.result _ _ (λ a h. served_told g.F.Files.reads words c.args.files.now c.obey_serve.new.files a c.in-Serves.calls
          c.answer_alone.new.files alone.0 alone.1 h) c.obey_serve.ensures;
    }
