use Rattle.std.proofs.Common.{refl}
use Rattle.ob_diagnosis.proofs.rules.twice_remark.Goals as goal

pub told-requires : goal.told-requires
told-requires c = record {
  in_record = c.is_in_record.result;
  within = c.is_in_record.ensures;
  line = rw (c.declared_line.ensures, c.declared-name.ensures) refl;
  noted = rw (c.of_facts.ensures, c.deref.ensures.value, c.in_ok-facts.ensures, c.is_there.ensures, c.declared-name.ensures) refl;
}
