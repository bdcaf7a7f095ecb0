use Rattle.std.proofs.Common.{subst, sym}
use Rattle.std.proofs.Math.Logic.{∥∥₁_elim}
use Rattle.ob_meaning.specs.Resolved.{AreDistinct, module_scope}
use Rattle.ob_checked.specs.CheckedModule.{program_in, tree_in}
use Rattle.ob_carry.proofs.Variables.{distinct_prop}
use Rattle.ob_carry.proofs.carrying.carry.Goals as goal

pub carry_to-requires : goal.carry_to-requires
carry_to-requires c =
    let program = program_in c.args.checked.now in
    record {
      distinct =
          subst (λ p. AreDistinct (module_scope p)) (sym c.program.ensures.program)
          (∥∥₁_elim c.program.ensures.typed (distinct_prop (module_scope program))
          (λ w. (c.well_typed_is_resolved.ensures (tree_in c.args.checked.now) program w).distinct));
    }
