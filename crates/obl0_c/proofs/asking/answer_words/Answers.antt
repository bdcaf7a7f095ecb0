use Rattle.std.proofs.Common.{ℕ, Bor, List, map, refl}
use Rattle.std.proofs.lemmas.Result.{IfOk-weaker}
use Rattle.obl0_c.specs.Asked.{answered, serves}
use Rattle.obl0_c.proofs.asking.answer_words.Goals as goal

pub returns-in-Answered : goal.returns-in-Answered
returns-in-Answered c =
    let alone = rw c.in-Answered.is at c.in_ok-answer.ensures.asked in
    answered (record { alloc = c.args.alloc; texts = c.args.files }) c.answer_alone.new.files refl alone

pub returns-in-Serves : goal.returns-in-Serves
returns-in-Serves c =
    let alone = rw c.in-Serves.is at c.in_ok-answer.ensures.asked in
    IfOk-weaker c.mistake.result _ _ (λ a h. serves c.in-Serves.field-0 alone.0 h) c.mistake.ensures
