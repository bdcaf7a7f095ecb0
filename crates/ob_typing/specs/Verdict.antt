-- What checking a part comes to: what it stands for, the rule that it breaks first, or neither, for a tree that no text derives.
use Rattle.std.specs.Prelude.{ℕ, Bool, true, false, Option, Some, None}
use Rattle.ob_grammar.specs.Tree
use Rattle.ob_typing.specs.declared.rule.Rule.{Rule}
use Rattle.ob_typing.specs.declared.rule.Rule.TheVariants.{BadConstant}
use Rattle.ob_typing.specs.declared.rule.BrokenRule.{BrokenRule}
use Rattle.ob_typing.specs.Arithmetic.{Evaluated, Gives, Traps}
use Rattle.ob_typing.specs.ExpressionFaults.{broken}

pub data Verdict (A : Type 0) : Type 0 where
  Right : A → Verdict A
  Wrong : BrokenRule → Verdict A
  Foreign : Verdict A

-- goes on behind what is right; the first fault is that of the whole
abbrev pub ◌>>=◌ : {A B : Type 0} → Verdict A → (A → Verdict B) → Verdict B
◌>>=◌ (Right a) go = go a
◌>>=◌ (Wrong fault) go = Wrong fault
◌>>=◌ Foreign go = Foreign

-- what is there in every tree of a text
abbrev pub need : {A : Type 0} → Option A → Verdict A
need (Some a) = Right a
need None = Foreign

-- what has to be there, or a rule fails at a place
abbrev pub or_wrong : {A : Type 0} → Option A → Rule → ℕ → Verdict A
or_wrong (Some a) rule place = Right a
or_wrong None rule place = Wrong (broken rule place)

-- what has to hold, or a rule fails at a place
abbrev pub test : Bool → Rule → ℕ → Verdict (Unit {0})
test true rule place = Right tt
test false rule place = Wrong (broken rule place)

-- the rule that was found broken, at a place, or none
abbrev pub unless : Option Rule → ℕ → Verdict (Unit {0})
unless None place = Right tt
unless (Some rule) place = Wrong (broken rule place)

-- a rule that fails at the name that was found, or none
abbrev pub unless_name : Option Tree.Name → Rule → Verdict (Unit {0})
unless_name None rule = Right tt
unless_name (Some name) rule = Wrong (broken rule name.place)

-- the fault that was found, or none
abbrev pub unless_broken : Option BrokenRule → Verdict (Unit {0})
unless_broken None = Right tt
unless_broken (Some fault) = Wrong fault

-- what is computed; a constant that traps is a fault
abbrev pub result : {A : Type 0} → Evaluated A → ℕ → Verdict A
result (Gives a) place = Right a
result (Traps k) place = Wrong (broken BadConstant place)
