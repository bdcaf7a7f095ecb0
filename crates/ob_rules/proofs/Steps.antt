-- Steps of a verdict: one that is right goes on, and a fault of one is a fault of the whole.
use Rattle.std.proofs.Common.{◌≡◌, refl, sym, subst, ◌∙◌, ap, Result, Ok, Err}
use Rattle.std.specs.Result.{OnOk, IfOk}
use Rattle.ob_typing.specs.declared.rule.BrokenRule.{BrokenRule}
use Rattle.ob_typing.specs.Verdict.{Verdict, Right, Wrong, Foreign, ◌>>=◌}
use Rattle.ob_scopes.specs.declared.fault.CheckFault.{CheckFault}
use Rattle.ob_scopes.specs.declared.fault.CheckFault.TheVariants.{Broken, NoMemory}
use Rattle.ob_rules.specs.Checking.{Fails}

pub fails_as : {A : Type 0} (f : CheckFault) (v w : Verdict A) → v ≡ w → Fails f w → Fails f v
fails_as {A = A} f v w e h = let P : Verdict A → Type 0 = λ u. Fails f u in subst P (sym e) h

pub fails_wrong : {A : Type 0} (b : BrokenRule) (v : Verdict A) → v ≡ Wrong b → Fails (Broken b) v
fails_wrong b v e = fails_as (Broken b) v (Wrong b) e refl

pub fails_when : {A : Type 0} (f : CheckFault) (b : BrokenRule) → f ≡ Broken b → (v : Verdict A) → v ≡ Wrong b → Fails f v
fails_when f b is v e = subst (λ g. Fails g v) (sym is) (fails_wrong b v e)

pub fails_foreign : {A : Type 0} (f : CheckFault) (v : Verdict A) → v ≡ Foreign → Fails f v
fails_foreign NoMemory v e = tt
fails_foreign (Broken b) v e = fails_as (Broken b) v Foreign e tt

pub fails_on : {A B : Type 0} (f : CheckFault) (v : Verdict A) (go : A → Verdict B) → Fails f v → Fails f (◌>>=◌ v go)
fails_on NoMemory v go h = tt
fails_on (Broken b) (Right a) go h = absurd h
fails_on (Broken b) (Wrong c) go h = h
fails_on (Broken b) Foreign go h = tt

pub fails_past : {A B : Type 0} (f : CheckFault) (v : Verdict A) (go : A → Verdict B) (a : A) → v ≡ Right a → Fails f (go a) → Fails f (◌>>=◌ v go)
fails_past f v go a e h = fails_as f (◌>>=◌ v go) (go a) (ap (λ u. ◌>>=◌ u go) e) h

pub goes_on : {A B : Type 0} (v : Verdict A) (go : A → Verdict B) (a : A) (r : Verdict B) → v ≡ Right a → go a ≡ r → ◌>>=◌ v go ≡ r
goes_on v go a r e h = ap (λ u. ◌>>=◌ u go) e ∙ h

pub bind_assoc : {A B C : Type 0} (v : Verdict A) (f : A → Verdict B) (g : B → Verdict C) → ◌>>=◌ (◌>>=◌ v f) g ≡ ◌>>=◌ v (λ a. ◌>>=◌ (f a) g)
bind_assoc (Right a) f g = refl
bind_assoc (Wrong b) f g = refl
bind_assoc Foreign f g = refl

pub bind_same : {A B : Type 0} (v : Verdict A) (f g : A → Verdict B) → ((a : A) → f a ≡ g a) → ◌>>=◌ v f ≡ ◌>>=◌ v g
bind_same (Right a) f g h = h a
bind_same (Wrong b) f g h = refl
bind_same Foreign f g h = refl

pub bind_right : {A : Type 0} (v : Verdict A) → v ≡ ◌>>=◌ v (λ a. Right a)
bind_right (Right a) = refl
bind_right (Wrong b) = refl
bind_right Foreign = refl

-- facts of one call together
pub on_ok_both : {X E : Type 0} (A B : Type 0) (r : Result X E) → OnOk r A → OnOk r B → OnOk r (A × B)
on_ok_both A B (Ok x) a b = (a, b)
on_ok_both A B (Err e) a b = tt

pub if_ok_with : {X E : Type 0} (A : Type 0) (P Q : X → Type 0) (r : Result X E) → OnOk r A → IfOk r P → ((x : X) → A → P x → Q x) → IfOk r Q
if_ok_with A P Q (Ok x) a p k = k x a p
if_ok_with A P Q (Err e) a p k = tt
