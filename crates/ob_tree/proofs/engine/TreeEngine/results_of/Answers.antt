use Rattle.std.proofs.Common.{List, length, sym, ap, arith}
use Rattle.ob_interface.specs.declared.export.Formal.{Formal}
use Rattle.ob_checked.specs.CheckedModule.{program_in}
use Rattle.ob_tree.proofs.Known.{few}
use Rattle.ob_tree.proofs.engine.TreeEngine.results_of.Goals as goal

pub values_of-requires : goal.values_of-requires
values_of-requires c =
    let e = c.args.self.now in
    let limit = few (program_in e.checked.now) e.well c.args.number c.in-Some.export.now (sym c.in-Some.ensures) in
    let same = ap (λ (fs : List Formal). length fs) c.parameters.ensures in
    omega (arith, limit, same)
