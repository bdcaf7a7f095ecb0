-- The numbers of an object, and the lines that tell them.
use Rattle.std.specs.Prelude.{◌≡◌, ℕ, ◌+◌, ◌*◌, List, ◌++◌, codes, decimal, length}
use Rattle.ob_code_engine.specs.Total.{body_limit}
use Rattle.ob_code_correct.specs.CodeMeaning.{code_meaning}
use Rattle.ob_object_perform.specs.declared.object_numbers.Numbers.{Numbers}
use Rattle.ob_object_compile.specs.Asked.{by_body}
use Rattle.ob_object_compile.specs.Compilation.{IsCompilation, ObjectParts}
use Rattle.wf_table.specs.Bound.{bound}
use Rattle.wf_table.specs.Start.{sizes_of}
use Rattle.wf_table.specs.StepTable.{block_words}
use Rattle.wf_table.specs.declared.process.Sizes.{Sizes}

-- the numbers of words that its machine works with
abbrev pub sizes_in : ObjectParts → Sizes
sizes_in o = sizes_of (code_meaning o.engine) o.processes

-- its own: the promised bound on own steps outside bodies, and that bound with what the budget pays for in two bodies for each process
abbrev pub numbers_of : ObjectParts → Numbers
numbers_of o = record {
  variables = (sizes_in o).variables;
  results = (sizes_in o).replies;
  arguments = (sizes_in o).arguments;
  block = block_words (sizes_in o);
  code = length o.engine.code.instructions;
  stack = o.layout.stack_words;
  outside = bound (sizes_in o);
  steps = bound (sizes_in o) + 2 * o.processes * body_limit o.engine;
}

-- a name, a blank and the number
abbrev pub number_line : List ℕ → ℕ → List ℕ
number_line name number = name ++ codes " " ++ decimal number ++ codes "\n"

abbrev pub numbers_text : Numbers → List ℕ
numbers_text k =
    number_line (codes "variables") k.variables ++ number_line (codes "results") k.results ++ number_line (codes "arguments") k.arguments
    ++ number_line (codes "block") k.block ++ number_line (codes "code") k.code ++ number_line (codes "stack") k.stack
    ++ number_line (codes "steps outside bodies") k.outside ++ number_line (codes "steps") k.steps

-- the bytes tell the numbers of the object of a text, for n processes with a budget
pub record IsBoundText (text : List ℕ) (n budget : ℕ) (output : List ℕ) : Type 0 where
  pub object : ObjectParts
  pub compiled : IsCompilation (by_body text n budget) object
  pub printed : output ≡ numbers_text (numbers_of object)
