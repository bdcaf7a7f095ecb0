-- The value that the digits so far spell, below the power of ten of their number.
use Rattle.std.proofs.Common.{◌≡◌, ◌≤◌, ◌<◌, ◌^◌, ◌-◌, true, take}
use Rattle.std.specs.Char.{is_ascii_digit}
use Rattle.std.specs.List.{list_all}
use Rattle.ob_scan.specs.Spelling.{number_value}
use Rattle.ob_text_values_reading.proofs.text_beginning.front_number.Given as goal

abbrev pub invariant-loop-count : goal.invariant-loop-count
invariant-loop-count l = record {
  within : l.count ≤ l.most;
  value : l.value ≡ number_value (take l.count l.text);
  digits : list_all is_ascii_digit (take l.count l.text) ≡ true;
  small : l.value < 10 ^ l.count;
}

abbrev pub decreases-loop-count : goal.decreases-loop-count
decreases-loop-count l = l.most - l.count
