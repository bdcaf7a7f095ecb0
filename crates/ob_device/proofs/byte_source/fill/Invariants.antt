use Rattle.std.proofs.Common.{◌≡◌, ◌-◌, ◌^◌, ◌≤◌, take, vec_len, vec_items}
use Rattle.std.specs.Io.KnownBytes.{Consumes}
use Rattle.ob_device.proofs.byte_source.fill.Given as goal

-- what is filled was read, and no read has failed
abbrev pub invariant-loop-count : goal.invariant-loop-count
invariant-loop-count g l = record {
  within : l.filled ≤ vec_len l.bytes;
  read : Consumes (g.R.Source.left l.initial.reader) (g.R.Source.left l.reader) (take l.filled (vec_items l.bytes));
  counted : g.R.Source.failures l.reader ≡ g.R.Source.failures l.initial.reader;
}

abbrev pub decreases-loop-count : goal.decreases-loop-count
decreases-loop-count g l = 2 ^ 64 - l.filled
