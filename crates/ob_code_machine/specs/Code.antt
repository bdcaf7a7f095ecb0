-- Code: a list of instructions, numbered from 0.
use Rattle.std.specs.Prelude.{ℕ, List}
use Rattle.ob_code_words.specs.declared.instr.Instr.{Instr}

pub record CodeParts : Type 0 where
  pub instructions : List Instr
  pub entries : List ℕ  -- of each procedure the place of its first instruction
