-- Steps of verdicts.
use Rattle.std.proofs.Common.{◌≡◌, refl, sym, subst}
use Rattle.ob_typing.specs.declared.rule.BrokenRule.{BrokenRule}
use Rattle.ob_typing.specs.Verdict.{Verdict, ◌>>=◌, Right, Wrong}

-- a step that is right goes on, and one that is wrong ends
pub right : {A B : Type 0} {v : Verdict A} {a : A} {r : Verdict B} (go : A → Verdict B) → v ≡ Right a → go a ≡ r → ◌>>=◌ v go ≡ r
right {r = r} go h k = subst (λ w. ◌>>=◌ w go ≡ r) (sym h) k

pub wrong : {A B : Type 0} {v : Verdict A} {fault : BrokenRule} (go : A → Verdict B) → v ≡ Wrong fault → ◌>>=◌ v go ≡ Wrong fault
wrong {fault = fault} go h = subst (λ w. ◌>>=◌ w go ≡ Wrong fault) (sym h) refl

pub one : {A : Type 0} {a b : A} → Right a ≡ Right b → a ≡ b
one h = cc

pub never_both : {A : Type 0} {a : A} {fault : BrokenRule} → Right a ≡ Wrong fault → ⊥
never_both h = cc

pub one_fault : {A : Type 0} {f g : BrokenRule} → (let v : Verdict A = Wrong f in v ≡ Wrong g) → f ≡ g
one_fault h = cc
