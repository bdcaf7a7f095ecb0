use Rattle.std.proofs.Common.{◌≡◌, ◌++◌, map, drop}
use Rattle.ob_checked.specs.View.{procedure_of, table_of}
use Rattle.ob_code_correct.specs.Compiled.{entrances_from}
use Rattle.ob_code_engine.proofs.entrance.entrances.Given as goal

-- the entrances so far, and those of the procedures that are left
abbrev pub invariant-loop-number : goal.invariant-loop-number
invariant-loop-number l =
    let types = table_of l.program.types in
    l.entrances.items ++ entrances_from l.number (map (procedure_of types) (drop l.number l.procedure-items))
    ≡ entrances_from 0 (map (procedure_of types) l.procedure-items)
