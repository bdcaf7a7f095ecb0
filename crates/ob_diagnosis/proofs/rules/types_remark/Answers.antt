use Rattle.std.proofs.Common.{refl}
use Rattle.ob_diagnosis.proofs.rules.types_remark.Goals as goal

pub told-requires : goal.told-requires
told-requires c = record {
  wanted = rw c.in_ok-types.ensures refl;
  found = rw c.in_ok-types.ensures refl;
  line = rw (c.declared_line.ensures, c.called_name-called.ensures) refl;
}
