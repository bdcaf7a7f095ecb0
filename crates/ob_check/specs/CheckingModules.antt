-- Why a module is refused.
use Rattle.ob_grammar.specs.Tree.{Module}
use Rattle.ob_typing.specs.DeclarationFaults.{Breaks}
use Rattle.ob_scopes.specs.declared.fault.CheckFault.{CheckFault}
use Rattle.ob_scopes.specs.declared.fault.CheckFault.TheVariants.{Broken, NoMemory}

-- the fault is the rule that the module breaks first, with its place; or it is want of memory
abbrev pub IsRefused : CheckFault → Module → Type 0
IsRefused (Broken fault) m = Breaks m fault
IsRefused NoMemory m = Unit {0}
