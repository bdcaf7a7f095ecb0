-- A module is well typed as one program at most, or breaks one rule at most.
use Rattle.std.proofs.Common.{◌≡◌, sym, ◌∙◌}
use Rattle.ob_grammar.specs.Tree.{Module}
use Rattle.ob_typing.specs.declared.rule.BrokenRule.{BrokenRule}
use Rattle.ob_typing.specs.Program.{Program}
use Rattle.ob_typing.specs.Declarations.{WellTyped}
use Rattle.ob_typing.specs.DeclarationFaults.{Breaks}
use Rattle.ob_typing.proofs.Verdict.{one, never_both, one_fault}
use Rattle.ob_typing.proofs.CheckedModules.{module_typed, module_breaks}

pub one_program : (m : Module) (p q : Program) → WellTyped m p → WellTyped m q → p ≡ q
one_program m p q h k = one (sym (module_typed h) ∙ module_typed k)

pub no_fault : (m : Module) (p : Program) (fault : BrokenRule) → WellTyped m p → Breaks m fault → ⊥
no_fault m p fault h k = never_both (sym (module_typed h) ∙ module_breaks k)

pub first_rule : (m : Module) (f g : BrokenRule) → Breaks m f → Breaks m g → f ≡ g
first_rule m f g h k = one_fault {A = Program} (sym (module_breaks h) ∙ module_breaks k)
