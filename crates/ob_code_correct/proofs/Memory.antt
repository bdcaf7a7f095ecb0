-- All that is owed of memory.
use Rattle.std.proofs.Common.{inl, inr, arith}
use Rattle.ob_code_scheme.specs.Types.{words, variables_scope}
use Rattle.ob_code_scheme.specs.Memory as Owed
use Rattle.ob_code_scheme.specs.Memory.{MemoryHolds, part_word}
use Rattle.ob_code_correct.proofs.Paths.{AreApart, places_apart}
use Rattle.ob_code_correct.proofs.Machine.{word_at_holds, put_at_holds}
use Rattle.ob_code_correct.proofs.Looking.{total_lengths, position_lengths, reaches, looks, changes, refer}
use Rattle.ob_code_correct.proofs.Slots.{bases, lengths, variable_places, global_addresses, own_addresses, own_references, further_places, further_addresses, places_stay}
use Rattle.ob_code_correct.proofs.Positions.{grows, shrinks, initial_fits, variables_begin, results_fit, states_fit, first_is_state, encodes, encoded_lengths, decodes_encoded, encodes_decoded}

pub parts_apart : Owed.PlacesApart
parts_apart variables m n p q s t h g one other x y small few e =
    by (places_apart (variables_scope variables) m n p q s t h g one other)
  where
    by : AreApart (part_word variables m p) (words s) (part_word variables n q) (words t) → ⊥
    by (inl before) = omega (arith, before, small, few, e)
    by (inr before) = omega (arith, before, small, few, e)

pub memory_holds : MemoryHolds
memory_holds = record {
  bases = bases;
  lengths = lengths;
  total_lengths = total_lengths;
  position_lengths = position_lengths;
  reaches = reaches;
  looks = looks;
  changes = changes;
  refer = refer;
  variable_places = variable_places;
  global_addresses = global_addresses;
  own_addresses = own_addresses;
  own_references = own_references;
  further_places = further_places;
  further_addresses = further_addresses;
  places_stay = places_stay;
  grows = grows;
  shrinks = shrinks;
  initial_fits = initial_fits;
  begun_fits = variables_begin;
  results_fit = results_fit;
  states_fit = states_fit;
  first_is_state = first_is_state;
  encodes = encodes;
  encoded_lengths = encoded_lengths;
  decodes_encoded = decodes_encoded;
  encodes_decoded = encodes_decoded;
  places_apart = parts_apart;
  word_at = word_at_holds;
  put_at = put_at_holds;
}
