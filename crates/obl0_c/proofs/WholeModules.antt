-- From the beginning of a module's text to the whole of it.
use Rattle.std.proofs.Common.{◌≡◌, ◌∙◌, ℕ, ◌<◌, List, Result, Ok, Err, IfOk, ap, arith, length, subst, sym, take}
use Rattle.std.proofs.lemmas.List.{length-take-le}
use Rattle.ob_answer_explained.specs.CommandTexts.{of_text}
use Rattle.ob_answer_files.specs.Reads.{IsBeginning, OfWhole}
use Rattle.ob_answer_files.specs.declared.answered.Answer.{Answer}
use Rattle.ob_object_compile.specs.Asked.{Asked, by_body}
use Rattle.obl0_c.specs.Asked.{IsObjectOf}

pub of_beginning : {E : Type 0} (IsMade : List ℕ → Answer → Type 0) (part whole : List ℕ) (made : Result Answer E) → IfOk made (OfWhole part IsMade)
    → IsBeginning part whole → IfOk made (IsMade whole)
of_beginning IsMade part whole (Ok a) h is = h whole is
of_beginning IsMade part whole (Err e) h is = tt

pub object_is : (asked : Asked) (module_bytes : List ℕ) (processes budget : ℕ) → IsObjectOf module_bytes processes budget asked
    → of_text asked module_bytes ≡ by_body module_bytes processes budget
object_is asked module_bytes processes budget h = ap (λ (a : Asked). of_text a module_bytes) h.is

-- an answer that is made of an object of the beginning of a module's text is that of an object of the whole
pub object_made : {E : Type 0} (IsMade : Asked → Answer → Type 0) (asked : Asked) (module_bytes : List ℕ) (processes budget : ℕ) (made : Result Answer E)
    → IsObjectOf module_bytes processes budget asked → IfOk made (OfWhole asked.text (λ whole. IsMade (of_text asked whole)))
    → IfOk made (IsMade (by_body module_bytes processes budget))
object_made IsMade asked module_bytes processes budget (Ok a) is h =
    subst (λ (it : Asked). IsMade it a) (object_is asked module_bytes processes budget is) (h module_bytes is.beginning)
object_made IsMade asked module_bytes processes budget (Err e) is h = tt

-- of a longer text as many bytes are taken as are asked for
pub taken : (n : ℕ) (text : List ℕ) → n < length text → n ≡ length (take n text)
taken n text more = sym (length-take-le n text (omega (arith, more)))
