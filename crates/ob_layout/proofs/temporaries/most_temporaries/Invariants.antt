use Rattle.std.proofs.Common.{◌≡◌, List, min, max, map, drop}
use Rattle.ob_code_scheme.specs.Temporaries as Counts
use Rattle.ob_checked.specs.Types.{Entry}
use Rattle.ob_checked.specs.View.{procedure_of}
use Rattle.ob_layout.proofs.temporaries.most_temporaries.Given as goal

-- the most so far, and those of the procedures that are left
abbrev pub invariant-loop-procedure : goal.invariant-loop-procedure
invariant-loop-procedure l =
    (types : List Entry) →
    max l.most (min (Counts.most_temporaries (map (procedure_of types) (drop l.procedure-index l.procedures))) 18446744073709551615)
    ≡ min (Counts.most_temporaries (map (procedure_of types) l.procedures)) 18446744073709551615
