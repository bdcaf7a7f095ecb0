-- What a verdict tells, step by step.
use Rattle.std.proofs.Common.{◌≡◌, refl, Bool, true, false, ℕ, Option, Some, None}
use Rattle.ob_grammar.specs.Tree
use Rattle.ob_typing.specs.declared.rule.Rule.{Rule}
use Rattle.ob_typing.specs.declared.rule.Rule.TheVariants.{BadConstant}
use Rattle.ob_typing.specs.declared.rule.BrokenRule.{BrokenRule}
use Rattle.ob_typing.specs.Arithmetic.{Evaluated, Gives, Traps}
use Rattle.ob_typing.specs.ExpressionFaults.{broken}
use Rattle.ob_typing.specs.Verdict.{Verdict, Right, Wrong, Foreign, ◌>>=◌, need, or_wrong, test, unless, unless_name, unless_broken, result}

-- one fact of what is right, another of what is wrong
abbrev pub Told : {A : Type 0} → (A → Type 0) → (BrokenRule → Type 0) → Verdict A → Type 0
Told R W (Right a) = R a
Told R W (Wrong fault) = W fault
Told R W Foreign = Unit {0}

module _ {B : Type 0} (R : B → Type 0) (W : BrokenRule → Type 0) where
  pub step : {A : Type 0} (P : A → Type 0) (Q : BrokenRule → Type 0) (v : Verdict A) (go : A → Verdict B) →
      Told P Q v → ((a : A) → P a → Told R W (go a)) → ((f : BrokenRule) → Q f → W f) → Told R W (◌>>=◌ v go)
  step P Q (Right a) go h k w = k a h
  step P Q (Wrong f) go h k w = w f h
  step P Q Foreign go h k w = tt

  pub step_need : {A : Type 0} (o : Option A) (go : A → Verdict B) →
      ((a : A) → o ≡ Some a → Told R W (go a)) → Told R W (◌>>=◌ (need o) go)
  step_need (Some a) go k = k a refl
  step_need None go k = tt

  pub step_or_wrong : {A : Type 0} (o : Option A) (rule : Rule) (place : ℕ) (go : A → Verdict B) →
      ((a : A) → o ≡ Some a → Told R W (go a)) → (o ≡ None → W (broken rule place)) → Told R W (◌>>=◌ (or_wrong o rule place) go)
  step_or_wrong (Some a) rule place go k w = k a refl
  step_or_wrong None rule place go k w = w refl

  pub step_test : (b : Bool) (rule : Rule) (place : ℕ) (go : Unit {0} → Verdict B) →
      (b ≡ true → Told R W (go tt)) → (b ≡ false → W (broken rule place)) → Told R W (◌>>=◌ (test b rule place) go)
  step_test true rule place go k w = k refl
  step_test false rule place go k w = w refl

  pub step_unless : (o : Option Rule) (place : ℕ) (go : Unit {0} → Verdict B) →
      (o ≡ None → Told R W (go tt)) → ((rule : Rule) → o ≡ Some rule → W (broken rule place)) → Told R W (◌>>=◌ (unless o place) go)
  step_unless None place go k w = k refl
  step_unless (Some rule) place go k w = w rule refl

  pub step_unless_name : (o : Option Tree.Name) (rule : Rule) (go : Unit {0} → Verdict B) →
      (o ≡ None → Told R W (go tt)) → ((name : Tree.Name) → o ≡ Some name → W (broken rule name.place)) → Told R W (◌>>=◌ (unless_name o rule) go)
  step_unless_name None rule go k w = k refl
  step_unless_name (Some name) rule go k w = w name refl

  pub step_unless_broken : (o : Option BrokenRule) (go : Unit {0} → Verdict B) →
      (o ≡ None → Told R W (go tt)) → ((fault : BrokenRule) → o ≡ Some fault → W fault) → Told R W (◌>>=◌ (unless_broken o) go)
  step_unless_broken None go k w = k refl
  step_unless_broken (Some fault) go k w = w fault refl

  pub step_result : {A : Type 0} (v : Evaluated A) (place : ℕ) (go : A → Verdict B) →
      ((a : A) → v ≡ Gives a → Told R W (go a)) → ((k : ℕ) → v ≡ Traps k → W (broken BadConstant place)) → Told R W (◌>>=◌ (result v place) go)
  step_result (Gives a) place go k w = k a refl
  step_result (Traps n) place go k w = w n refl
