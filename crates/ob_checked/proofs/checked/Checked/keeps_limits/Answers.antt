use Rattle.std.proofs.Math.Logic.{∥∥₁_elim}
use Rattle.std.proofs.Props.{props}
use Rattle.ob_checked.proofs.checked.Checked.keeps_limits.Goals as goal

pub returns : goal.returns
returns c = ∥∥₁_elim c.args.self.now.typed (hlevel props) (λ w. c.well_typed_keeps_limits.ensures _ _ w)
