-- Where procedures begin.
use Rattle.std.specs.Prelude.{ℕ, ◌+◌, List, [], ◌∷◌, ◌++◌, length, get_or}
use Rattle.ob_typing.specs.Program as Program
use Rattle.ob_code_scheme.specs.Scheme.{procedure_size, statements_at, procedures_at, entries_from}
use Rattle.ob_code_scheme.specs.Types.{Scope}
use Rattle.ob_code_machine.specs.Code.{CodeParts}
use Rattle.ob_code_words.specs.declared.instr.Instr.TheVariants as Instrs
use Rattle.ob_code.specs.declared.entries.Entries.{Entries}

-- of a procedure that there is not, the end, as never in a checked program
abbrev pub entry_in : Entries → ℕ → ℕ
entry_in e procedure = get_or e.places.items procedure e.end

-- the instructions of procedures
abbrev pub procedures_size : List Program.Procedure → ℕ
procedures_size [] = 0
procedures_size (p ∷ ps) = procedure_size p + procedures_size ps

-- code whose next procedure begins at the end
abbrev pub with_entry : CodeParts → CodeParts
with_entry c = record c { entries = c.entries ++ length c.instructions ∷ [] }

-- code with one procedure behind it: the words of its variables, and its statements
abbrev pub with_procedure : (globals own : Scope) (entry : ℕ → ℕ) → CodeParts → ℕ → Program.Statements → CodeParts
with_procedure globals own entry c words body = record {
  instructions = c.instructions ++ Instrs.Frame words ∷ (statements_at globals own entry (length c.instructions + 1) body ++ Instrs.Return ∷ []);
  entries = c.entries ++ length c.instructions ∷ [];
}

-- the code of procedures, which begin at these places
abbrev pub code_by : (globals : Scope) (entry : ℕ → ℕ) → List Program.Procedure → CodeParts
code_by globals entry ps = record {
  instructions = procedures_at globals entry 0 ps;
  entries = entries_from 0 ps;
}
