-- The words at which remarks on calls stand.
use Rattle.std.proofs.Common.{◌⊎◌, inl, inr, ℕ, List, Option, Result, IfOk, IfSome, arith}
use Rattle.std.proofs.lemmas.Option.{IfSome_then}
use Rattle.std.proofs.lemmas.Result.{IfOk-weaker}
use Rattle.ob_explain_sentences.specs.declared.remark.Remark as Declared
use Rattle.ob_explained.specs.Marks.{IsMark, IsToldMark, MarksBehindProcess, MarksWord}
use Rattle.ob_text_scripts.specs.declared.script.ScriptFault.{ScriptFault}
use Rattle.ob_text_scripts.specs.declared.script.ScriptFault.TheVariants as Script

weaker : {E : Type 0} (r : Result (Option Declared.Remark) E) (P Q : Declared.Remark → Type 0) → ((x : Declared.Remark) → P x → Q x)
    → IfOk r (λ o. IfSome o P) → IfOk r (λ o. IfSome o Q)
weaker r P Q f h = IfOk-weaker r (λ o. IfSome o P) (λ o. IfSome o Q) (λ o s. IfSome_then o s f) h

behind_process : (script : List ℕ) (line place : ℕ) → MarksBehindProcess script line place ⊎ MarksWord script line 1 place → MarksBehindProcess script line place
behind_process script line place (inl told) = told
behind_process script line place (inr name) = (1, omega arith, name)

-- the marks of a remark on a call in a line, of which a word behind the process is told, or else what the fault marks
abbrev pub CallMarked : {E : Type 0} (script : List ℕ) (fault : ScriptFault) (line : ℕ) → Result (Option Declared.Remark) E → Type 0
CallMarked script fault line r = IfOk r (λ o. IfSome o (λ x. MarksBehindProcess script line x.place ⊎ IsMark script fault x.place))

abbrev pub ToldMarked : {E : Type 0} (script : List ℕ) (fault : ScriptFault) → Result (Option Declared.Remark) E → Type 0
ToldMarked script fault r = IfOk r (λ o. IfSome o (λ x. IsToldMark script fault x.place))

-- a word behind the process, where the fault marks the procedure's name
pub behind : {E : Type 0} (script : List ℕ) (line : ℕ) (r : Result (Option Declared.Remark) E)
    → IfOk r (λ o. IfSome o (λ x. MarksBehindProcess script line x.place ⊎ MarksWord script line 1 x.place))
    → IfOk r (λ o. IfSome o (λ x. MarksBehindProcess script line x.place))
behind script line r h =
    weaker r (λ x. MarksBehindProcess script line x.place ⊎ MarksWord script line 1 x.place) (λ x. MarksBehindProcess script line x.place)
    (λ x. behind_process script line x.place) h

-- what the fault marks by itself
pub by_itself : {E : Type 0} (script : List ℕ) (fault : ScriptFault) (line : ℕ) (r : Result (Option Declared.Remark) E)
    → IfOk r (λ o. IfSome o (λ x. IsMark script fault x.place)) → CallMarked script fault line r
by_itself script fault line r h =
    weaker r (λ x. IsMark script fault x.place) (λ x. MarksBehindProcess script line x.place ⊎ IsMark script fault x.place) (λ x. inr) h

told : (script : List ℕ) (fault : ScriptFault) (place : ℕ) → IsMark script fault place → IsToldMark script fault place
told script (Script.Form number) place m = m
told script (Script.Procedure number) place m = (1, omega arith, m)
told script (Script.Arguments number) place m = (1, omega arith, m)
told script (Script.Process number) place m = m
told script Script.NoMemory place m = m

pub as_told : {E : Type 0} (script : List ℕ) (fault : ScriptFault) (r : Result (Option Declared.Remark) E)
    → IfOk r (λ o. IfSome o (λ x. IsMark script fault x.place)) → ToldMarked script fault r
as_told script fault r h = weaker r (λ x. IsMark script fault x.place) (λ x. IsToldMark script fault x.place) (λ x m. told script fault x.place m) h
