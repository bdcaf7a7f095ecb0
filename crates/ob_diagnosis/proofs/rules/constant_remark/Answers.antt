use Rattle.std.proofs.Common.{refl}
use Rattle.ob_diagnosis.proofs.rules.constant_remark.Goals as goal

pub told-requires : goal.told-requires
told-requires c = record {
  first = rw (c.deref.ensures.value, c.in_ok-first.ensures, c.in_ok-before.ensures) refl;
  operator = rw (c.kind_or_name.ensures, c.here.ensures) refl;
  second = rw (c.deref-2.ensures.value, c.in_ok-second.ensures, c.in_ok-behind.ensures) refl;
  noted =
      rw (
        c.of_facts.ensures,
        c.deref-3.ensures.value,
        c.in_ok-facts.ensures,
        c.is_known.ensures,
        c.is_known-2.ensures,
        c.in_ok-before.ensures,
        c.in_ok-behind.ensures,
      ) refl;
}
