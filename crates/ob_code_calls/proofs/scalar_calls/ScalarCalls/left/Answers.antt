use Rattle.std.proofs.Common.{◌≡◌, ℕ, List, Option, Some, map, subst, sym}
use Rattle.std.specs.Prelude.{IfOk, IfSome}
use Rattle.ob_checked.specs.Types.{Entry}
use Rattle.ob_checked.specs.View.{variable_of}
use Rattle.ob_code_calls.specs.Scalars.{AreBehind, held_of}
use Rattle.ob_code_calls.proofs.OnScalars.{under_all}
use Rattle.ob_code_scheme.specs.Layout.{decoded}
use Rattle.ob_interface.specs.declared.scalar.Scalar.{Scalar}
use Rattle.smallvec.specs.SmallVec.{SmallVec as Items}
use Rattle.ob_code_calls.proofs.scalar_calls.ScalarCalls.left.Goals as goal

pub returns-in-None : goal.returns-in-None
returns-in-None c =
    let variables = c.args.variables.now in
    let block = c.args.block.now in
    let read = c.read_scalars.result in
    subst (λ (t : Option ℕ). IfOk read (λ o. IfSome o (λ after. AreBehind variables c.args.scalars.now block t after.items))) (sym c.in-None.is)
    (under_all (λ (types : List Entry) (after : Items Scalar). decoded (map (variable_of types) variables) block ≡ Some (map held_of after.items)) read c.read_scalars.ensures)
