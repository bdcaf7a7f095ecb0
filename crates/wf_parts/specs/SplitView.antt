-- What the program's table of parts stands for.
use Rattle.std.specs.Prelude.{nat_eq}
use Rattle.std.specs.HashMap as hash
use Rattle.wf_parts.specs.Split.{SplitView}
use Rattle.wf_parts.specs.View.{parts_in}
use Rattle.wf_parts.specs.declared.split.Split.{Split}

abbrev pub split_in : Split → SplitView
split_in s = record { places = hash.get nat_eq s.places; last = hash.get nat_eq s.last; parts = parts_in s.parts.items }
