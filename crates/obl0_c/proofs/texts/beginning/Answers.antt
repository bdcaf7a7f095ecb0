use Rattle.std.proofs.Common.{◌≤◌, arith, length, sym}
use Rattle.std.proofs.lemmas.List.{take_all}
use Rattle.obl0_c.proofs.WholeModules.{taken}
use Rattle.obl0_c.proofs.texts.beginning.Goals as goal

pub slice_bounds-result-end : goal.slice_bounds-result-end
slice_bounds-result-end c = taken 65537 c.args.module.now c.if-module-gt-MODULE_BYTES.true

pub returns-else-module-gt-MODULE_BYTES : goal.returns-else-module-gt-MODULE_BYTES
returns-else-module-gt-MODULE_BYTES c =
    let short : length c.args.module.now ≤ 65537 = omega (arith, c.if-module-gt-MODULE_BYTES.false) in
    sym (take_all 65537 c.args.module.now short)
