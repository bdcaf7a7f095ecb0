-- What is said of a number of the command line that may not be, and of a module that is too long, which have no place in a text.
use Rattle.std.specs.Prelude.{ℕ, List, ◌++◌, codes, decimal}

-- each behind the line by which the other commands tell the fault
abbrev pub processes_explanation : (processes : ℕ) → List ℕ
processes_explanation processes = codes "N1\nthe number of processes, behind -n, is " ++ decimal processes ++ codes "; it may be 1 to 16\n"

abbrev pub budget_explanation : (budget : ℕ) → List ℕ
budget_explanation budget = codes "N3\nthe budget of turns, behind -b, is " ++ decimal budget ++ codes "; it may be 0 to 1000000\n"

abbrev pub long_text_explanation : List ℕ
long_text_explanation = codes "S5 at 65536\na module has at most 65536 bytes\n"

abbrev pub long_code_explanation : List ℕ
long_code_explanation = codes "G1\nthe code of the module's procedures would have over 65535 instructions; run --tree runs it without code\n"
