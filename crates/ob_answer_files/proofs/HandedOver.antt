-- From what was made to what is handed over.
use Rattle.std.proofs.Common.{ℕ, List, Result, Ok, Err, IfOk, subst, sym}
use Rattle.ob_answer_files.specs.declared.answered.Answer.{Answer}
use Rattle.ob_answer_files.specs.Handed.{IsHanded, IsHandedWhole, IsMadeHanded, IsMadeHandedWhole, handed, lacking}
use Rattle.ob_interface.specs.declared.no_memory.NoMemory.{NoMemory}

pub hand_over : (Is : Answer → Type 0) (made : Result Answer NoMemory) (status output len : ℕ) (before after : List ℕ) → IfOk made Is
    → IsMadeHanded made status output len before after → IsHanded Is status output len before after
hand_over Is (Ok answer) status output len before after is (handed a same t) = handed a (subst Is (sym same) is) t
hand_over Is (Ok answer) status output len before after is (lacking t) = lacking t
hand_over Is (Err e) status output len before after is t = lacking t

pub handed_whole : (Is : Answer → Type 0) (made : Result Answer NoMemory) (status len : ℕ) (before after : List ℕ) → IfOk made Is
    → IsMadeHandedWhole made status len before after → IsHandedWhole Is status len before after
handed_whole Is made status len before after is h = (h.0, hand_over Is made status h.0 len before after is h.1)
