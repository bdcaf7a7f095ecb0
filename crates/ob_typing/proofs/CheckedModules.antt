-- Declarations and modules have one verdict.
use Rattle.std.proofs.Common.{◌≡◌, refl, ℕ, List}
use Rattle.ob_grammar.specs.Tree.{ConstDecl, TypeDecl, VarDecl, Section, Declarations, Procedures, Module}
use Rattle.ob_typing.specs.declared.rule.BrokenRule.{BrokenRule}
use Rattle.ob_typing.specs.Program
use Rattle.ob_typing.specs.Program.{Parameter, Variable, Procedure}
use Rattle.ob_typing.specs.Scopes.{Environment}
use Rattle.ob_typing.specs.Declarations as Typing
use Rattle.ob_typing.specs.Declarations.{Room, Constants, Types, Variables, Parameters, DeclaresProcedures, Declares, WellTyped}
use Rattle.ob_typing.specs.DeclarationFaults as Faults
use Rattle.ob_typing.specs.DeclarationFaults.{ConstantsFail, TypesFail, VariablesFail, ParametersFail, ProceduresFail, DeclarationsFail, Breaks}
use Rattle.ob_typing.specs.Verdict.{Right, Wrong}
use Rattle.ob_typing.proofs.FirstFaults.{parameters_unbroken, heading_unbroken}
use Rattle.ob_typing.proofs.CheckedTypes.{constant_typed, constant_fails, type_denoted, type_fails, formal_denoted, formal_fails}
use Rattle.ob_typing.proofs.CheckedStatements.{body_typed, body_fails}
use Rattle.ob_typing.specs.ModuleVerdicts.{variables, parameters, procedures, constants, types, declarations, checked}

-- what is right

constants_typed : {env after : Environment} {xs : List ConstDecl} → Constants env xs after → constants xs env ≡ Right after
constants_typed Typing.none = refl
constants_typed (Typing.more {env = env} new h k) = rw new (rw (constant_typed env h) (rw (constants_typed k) refl))

types_typed : {env after : Environment} {xs : List TypeDecl} → Types env xs after → types xs env ≡ Right after
types_typed Typing.none = refl
types_typed (Typing.more {env = env} new h k) = rw new (rw (type_denoted env h) (rw (types_typed k) refl))

variables_typed : {env after : Environment} {room : Room} {xs : List VarDecl} {vs : List Variable} →
    Variables env room xs after vs → variables xs env room ≡ Right (record { env = after; variables = vs })
variables_typed Typing.none = refl
variables_typed (Typing.more {env = env} new h small k) = rw new (rw (type_denoted env h) (rw small (rw (variables_typed k) refl)))

parameters_typed : {env after : Environment} {count : ℕ} {xs : List Section} {ps : List Parameter} →
    Parameters env count xs after ps → parameters xs env count ≡ Right (record { env = after; parameters = ps })
parameters_typed Typing.none = refl
parameters_typed (Typing.more {env = env} {count = count} {x = x} new h name simple k) =
    rw (parameters_unbroken env count x.names new) (rw (formal_denoted env h name) (rw simple (rw (parameters_typed k) refl)))

mutual
  procedures_typed : {env after : Environment} {n exported : ℕ} {xs : Procedures} {ps : List Procedure} →
      DeclaresProcedures env n exported xs after ps → procedures xs env n exported ≡ Right (record { env = after; procedures = ps })
  procedures_typed Typing.none = refl
  procedures_typed (Typing.procedure {env = env} {inside = inside} {exported = exported} {heading = heading} new p simple d b k) =
      rw (heading_unbroken env exported heading new) (rw (parameters_typed p) (rw simple (rw (declarations_typed d) (rw (body_typed inside b) (rw (procedures_typed k) refl)))))

  declarations_typed : {env after : Environment} {n : ℕ} {room : Room} {d : Declarations} {vs : List Variable} {ps : List Procedure} →
      Declares env n room d after vs ps → declarations d env n room ≡ Right (record { env = after; variables = vs; procedures = ps })
  declarations_typed (Typing.declarations c t v p) =
      rw (constants_typed c) (rw (types_typed t) (rw (variables_typed v) (rw (procedures_typed p) refl)))

pub module_typed : {m : Module} {program : Program.Program} → WellTyped m program → checked m ≡ Right program
module_typed (Typing.well_typed {inside = inside} d b) = rw (declarations_typed d) (rw (body_typed inside b) refl)

-- what is wrong

constants_fail : {env : Environment} {xs : List ConstDecl} {fault : BrokenRule} → ConstantsFail env xs fault → constants xs env ≡ Wrong fault
constants_fail (Faults.twice h) = rw h refl
constants_fail (Faults.value {env = env} new h) = rw new (rw (constant_fails env h) refl)
constants_fail (Faults.others {env = env} new h k) = rw new (rw (constant_typed env h) (rw (constants_fail k) refl))

types_fail : {env : Environment} {xs : List TypeDecl} {fault : BrokenRule} → TypesFail env xs fault → types xs env ≡ Wrong fault
types_fail (Faults.twice h) = rw h refl
types_fail (Faults.definition {env = env} new h) = rw new (rw (type_fails env h) refl)
types_fail (Faults.others {env = env} new h k) = rw new (rw (type_denoted env h) (rw (types_fail k) refl))

variables_fail : {env : Environment} {room : Room} {xs : List VarDecl} {fault : BrokenRule} → VariablesFail env room xs fault → variables xs env room ≡ Wrong fault
variables_fail (Faults.twice h) = rw h refl
variables_fail (Faults.of_type {env = env} new h) = rw new (rw (type_fails env h) refl)
variables_fail (Faults.beyond {env = env} new h small) = rw new (rw (type_denoted env h) (rw small refl))
variables_fail (Faults.others {env = env} new h small k) = rw new (rw (type_denoted env h) (rw small (rw (variables_fail k) refl)))

parameters_fail : {env : Environment} {count : ℕ} {xs : List Section} {fault : BrokenRule} → ParametersFail env count xs fault → parameters xs env count ≡ Wrong fault
parameters_fail (Faults.name h) = rw h refl
parameters_fail (Faults.of_type {env = env} new h) = rw new (rw (formal_fails env h) refl)
parameters_fail (Faults.structured {env = env} new h name simple) = rw new (rw (formal_denoted env h name) (rw simple refl))
parameters_fail (Faults.others {env = env} new h name simple k) =
    rw new (rw (formal_denoted env h name) (rw simple (rw (parameters_fail k) refl)))

mutual
  procedures_fail : {env : Environment} {n exported : ℕ} {xs : Procedures} {fault : BrokenRule} →
      ProceduresFail env n exported xs fault → procedures xs env n exported ≡ Wrong fault
  procedures_fail (Faults.name h) = rw h refl
  procedures_fail (Faults.parameters new p) = rw new (rw (parameters_fail p) refl)
  procedures_fail (Faults.export new p simple) = rw new (rw (parameters_typed p) (rw simple refl))
  procedures_fail (Faults.inner new p simple d) = rw new (rw (parameters_typed p) (rw simple (rw (declarations_fail d) refl)))
  procedures_fail (Faults.body {inside = inside} new p simple d b) =
      rw new (rw (parameters_typed p) (rw simple (rw (declarations_typed d) (rw (body_fails inside b) refl))))
  procedures_fail (Faults.other_procedures {inside = inside} new p simple d b k) =
      rw new (rw (parameters_typed p) (rw simple (rw (declarations_typed d) (rw (body_typed inside b) (rw (procedures_fail k) refl)))))

  declarations_fail : {env : Environment} {n : ℕ} {room : Room} {d : Declarations} {fault : BrokenRule} →
      DeclarationsFail env n room d fault → declarations d env n room ≡ Wrong fault
  declarations_fail (Faults.constants c) = rw (constants_fail c) refl
  declarations_fail (Faults.types c t) = rw (constants_typed c) (rw (types_fail t) refl)
  declarations_fail (Faults.variables c t v) = rw (constants_typed c) (rw (types_typed t) (rw (variables_fail v) refl))
  declarations_fail (Faults.procedures c t v p) =
      rw (constants_typed c) (rw (types_typed t) (rw (variables_typed v) (rw (procedures_fail p) refl)))

pub module_breaks : {m : Module} {fault : BrokenRule} → Breaks m fault → checked m ≡ Wrong fault
module_breaks (Faults.in_declarations d) = rw (declarations_fail d) refl
module_breaks (Faults.in_body {inside = inside} d b) = rw (declarations_typed d) (rw (body_fails inside b) refl)
