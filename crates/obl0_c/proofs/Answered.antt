-- From what comes of words to what is answered to them.
use Rattle.std.proofs.Common.{◌≡◌, ℕ, List, Option, None, Some, Result, Ok, Err, IfOk, subst, sym}
use Rattle.ob_answer_files.specs.Printed.{IsRefused}
use Rattle.ob_answer_files.specs.declared.answered.Answer.{Answer}
use Rattle.ob_answer_files.specs.Texts.{AreTexts, AreTextsIn}
use Rattle.obl0_c.specs.Asked.{AreUtf8, AreWordsIn, IsJoinedAnswer, IsTextsAnswer, IsWordsAnswer, apart, asked, files_cut, no_texts, words_cut}

-- the answer to words is that to the texts that they are
pub texts_answered : {E : Type 0} (texts words : List (List ℕ)) (files : List (List ℕ)) (made : Result Answer E) → words ≡ texts
    → IfOk made (IsWordsAnswer words files) → IfOk made (IsTextsAnswer texts files)
texts_answered texts words files (Ok a) is h = asked (subst (λ (ws : List (List ℕ)). IsWordsAnswer ws files a) is h)
texts_answered texts words files (Err e) is h = tt

module _ {E : Type 0} (words word_lengths files file_lengths : List ℕ) where
  pub joined_answered : (word_texts file_texts : List (List ℕ)) (made : Result Answer E) → AreTexts words word_lengths word_texts
      → AreTexts files file_lengths file_texts → IfOk made (IsTextsAnswer word_texts file_texts)
      → IfOk made (IsJoinedAnswer words word_lengths files file_lengths)
  joined_answered word_texts file_texts (Ok a) word_is file_is h = apart word_texts file_texts word_is file_is h
  joined_answered word_texts file_texts (Err e) word_is file_is h = tt

  pub words_refused : (made : Result Answer E) → ((texts : List (List ℕ)) → AreTexts words word_lengths texts → ⊥)
      → IfOk made (λ a. IsRefused a 2 no_texts) → IfOk made (IsJoinedAnswer words word_lengths files file_lengths)
  words_refused (Ok a) none h = words_cut none h
  words_refused (Err e) none h = tt

  pub files_refused : (made : Result Answer E) → ((texts : List (List ℕ)) → AreTexts files file_lengths texts → ⊥)
      → IfOk made (λ a. IsRefused a 2 no_texts) → IfOk made (IsJoinedAnswer words word_lengths files file_lengths)
  files_refused (Ok a) none h = files_cut none h
  files_refused (Err e) none h = tt
