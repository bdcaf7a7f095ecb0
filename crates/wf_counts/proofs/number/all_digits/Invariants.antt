-- The lowest digits, and those of what is left.
use Rattle.std.proofs.Common.{◌≡◌, ◌≤◌, ◌++◌, ◌-◌}
use Rattle.wf_counts.specs.Digits.{digits}
use Rattle.wf_counts.proofs.number.all_digits.Given as goal

abbrev pub invariant-loop : goal.invariant-loop
invariant-loop l = record {
  some : l.counter ≤ l.many;
  digits : l.each.items ++ digits (l.many - l.counter) l.rest ≡ digits l.many l.number;
}
