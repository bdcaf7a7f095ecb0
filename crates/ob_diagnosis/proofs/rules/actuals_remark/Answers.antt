use Rattle.std.proofs.Common.{refl}
use Rattle.ob_diagnosis.proofs.rules.actuals_remark.Goals as goal

pub told-requires : goal.told-requires
told-requires c = record {
  count = c.actual_count.ensures;
  most = rw (c.parameters.ensures, c.sort_there-sort.ensures) refl;
  line = rw (c.declared_line.ensures, c.declared-heading.ensures) refl;
  other_line = rw (c.declared_line-2.ensures, c.called_name-called.ensures) refl;
  noted = rw (c.of_facts.ensures, c.deref.ensures.value, c.in_ok-note.ensures, c.in_ok-facts.ensures, c.is_there.ensures, c.called_name-called.ensures, c.sort_there-sort.ensures) refl;
}
