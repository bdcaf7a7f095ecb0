use Rattle.std.proofs.Common.{refl}
use Rattle.ob_diagnosis.proofs.rules.length_remark.Goals as goal

pub told-requires : goal.told-requires
told-requires c = record {
  first = rw (c.deref.ensures.value, c.in_ok-first.ensures, c.in_ok-length.ensures) refl;
  noted = rw (c.of_facts.ensures, c.deref-2.ensures.value, c.in_ok-facts.ensures, c.is_known.ensures, c.in_ok-length.ensures) refl;
}
