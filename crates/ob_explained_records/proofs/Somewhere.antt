-- A remark at a line's first word stands at a word of the line.
use Rattle.std.proofs.Common.{ℕ, List, Option, Some, None, Result, Ok, Err, IfOk, IfSome}
use Rattle.ob_explain_sentences.specs.declared.remark.Remark.{Remark}
use Rattle.ob_explained.specs.Marks.{MarksWord}

pub at_first : {E : Type 0} (text : List ℕ) (number : ℕ) (r : Result (Option Remark) E) → IfOk r (λ o. IfSome o (λ x. MarksWord text number 0 x.place))
    → IfOk r (λ o. IfSome o (λ x. (word : ℕ) × MarksWord text number word x.place))
at_first text number (Ok (Some x)) h = (0, h)
at_first text number (Ok None) h = tt
at_first text number (Err e) h = tt
