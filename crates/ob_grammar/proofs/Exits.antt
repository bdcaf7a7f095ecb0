-- The exit of a `?`: what holds of the callee's fault holds of the answer.
use Rattle.std.proofs.Common.{◌≡◌, Result, Err, sym, subst}
use Rattle.std.specs.Result.{IsErrAnd, IfErr}
use Rattle.std.proofs.lemmas.Result.{err_from_is_err_and}

pub exits : {X E : Type 0} (P : Result X E → Type 0) (r : Result X E) (e : E) → IsErrAnd r (λ d. d ≡ e) → P (Err e) → P r
exits {E = E} P r e h bad =
    let m = err_from_is_err_and r h in
    let Q : E → Type 0 = λ d. P (Err d) in
    subst P (sym m.1) (subst Q (sym m.2) bad)

pub passed_on : {X E : Type 0} (P : E → Type 0) (r : Result X E) (e : E) → IsErrAnd r (λ d. d ≡ e) → P e → IfErr r P
passed_on P r e h bad = exits (λ v. IfErr v P) r e h bad
