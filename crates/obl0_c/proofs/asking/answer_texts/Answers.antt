use Rattle.std.proofs.Common.{◌∙◌, ℕ, Bor, List, ap, map}
use Rattle.obl0_c.proofs.Answered.{texts_answered}
use Rattle.obl0_c.proofs.asking.answer_texts.Goals as goal

pub returns-in-Some : goal.returns-in-Some
returns-in-Some c =
    let now = λ (text : Bor (List ℕ)). text.now in
    let words = rw c.in-Some.is at c.in_ok-words.ensures in
    texts_answered (map now c.args.texts.now) (map now c.as_slice.result.now) (map now c.args.files.now) c.answer_words.result
    (ap (λ (ws : List (Bor (List ℕ))). map now ws) c.as_slice.ensures.value ∙ words) c.answer_words.ensures
