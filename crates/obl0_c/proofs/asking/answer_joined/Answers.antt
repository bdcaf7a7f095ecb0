use Rattle.std.proofs.Common.{ℕ, Bor, List, map, subst, sym}
use Rattle.ob_answer_files.specs.Texts.{AreTexts}
use Rattle.obl0_c.proofs.Answered.{joined_answered}
use Rattle.obl0_c.proofs.asking.answer_joined.Goals as goal

pub returns : goal.returns
returns c =
    let now = λ (text : Bor (List ℕ)). text.now in
    let words = c.args.words.bytes.now in
    let word_lengths = c.args.words.lengths.now in
    let files = c.args.files.bytes.now in
    let file_lengths = c.args.files.lengths.now in
    let word_texts = rw c.in-Some.is at c.in_ok-words.ensures in
    let file_texts = rw c.in-Some-2.is at c.in_ok-files.ensures in
    joined_answered words word_lengths files file_lengths (map now c.as_slice.result.now) (map now c.as_slice-2.result.now) c.answer_texts.result
    (subst (λ (l : List (Bor (List ℕ))). AreTexts words word_lengths (map now l)) (sym c.as_slice.ensures.value) word_texts)
    (subst (λ (l : List (Bor (List ℕ))). AreTexts files file_lengths (map now l)) (sym c.as_slice-2.ensures.value) file_texts)
    c.answer_texts.ensures
