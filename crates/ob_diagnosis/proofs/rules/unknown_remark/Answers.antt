use Rattle.std.proofs.Common.{refl}
use Rattle.ob_diagnosis.proofs.rules.unknown_remark.Goals as goal

pub told-requires : goal.told-requires
told-requires c = record {
  further_down = c.is_token.result;
  field = c.is_field.result;
  elsewhere = c.is_elsewhere.result;
  number_type = c.is_number_type.result;
  own_type = c.is_own_type.result;
  own_name = c.is_own_name.result;
  has_fields = c.is_token-2.result;
  name = rw (c.bytes_of.ensures, c.in_ok-near.ensures) refl;
  first = rw (c.deref-4.ensures.value, c.in_ok-first.ensures, c.deref.ensures.value, c.in_ok-fields.ensures) refl;
  noted = rw (c.of_facts.ensures, c.deref-3.ensures.value, c.in_ok-facts.ensures, c.is_near.ensures, c.in_ok-near.ensures) refl;
}
