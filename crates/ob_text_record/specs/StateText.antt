-- The text of a state of the machine: its lines, each with a line feed behind it.
use Rattle.std.specs.Prelude.{ℕ, zero, suc, ◌+◌, ℤ, Bool, List, [], ◌++◌, codes, decimal, length, slice_get, if◌then◌else◌, Option, Some, None}
use Rattle.std.specs.Fmt.{signed_decimal}
use Rattle.std.specs.List.{flat_map}
use Rattle.ll_cell.specs.Cell.{Cell, announcement_of, block_of, is_linked, own_of, word_at}
use Rattle.ob_text_words.specs.LabelNames.{label_name}
use Rattle.ob_text_record.specs.Uses.{uses_block, uses_list, uses_place, uses_process, uses_replies, uses_round, uses_save, uses_status, uses_word}
use Rattle.wf_table.specs.declared.process.Label.{Label}
use Rattle.wf_table.specs.declared.process.Registers.{Registers}
use Rattle.wf_table.specs.declared.process.Sizes.{Sizes}
use Rattle.wf_table.specs.Object.{State}
use Rattle.wf_table.specs.StepTable.{Process, own_block, part}

-- what is said of 0 to n - 1, one behind the other
abbrev pub over_each : (ℕ → List ℕ) → ℕ → List ℕ
over_each said zero = []
over_each said (suc n) = over_each said n ++ said n

-- ---- words

-- a space, and a word in decimal digits, with a `-` below 0
abbrev pub word_text : ℤ → List ℕ
word_text w = codes " " ++ signed_decimal w

abbrev pub words_text : List ℤ → List ℕ
words_text = flat_map word_text

-- so many of these words, from a place on
abbrev pub words_from : List ℤ → (first count : ℕ) → List ℕ
words_from words first = over_each (λ i. word_text (word_at words (first + i)))

-- ---- what a process keeps for itself

-- a name, and a number behind it; nothing where it isn't used
unfoldable pub number_where : Bool → (name : List ℕ) → ℕ → List ℕ
number_where used name n = if used then name ++ decimal n else []

unfoldable pub word_where : Bool → (name : List ℕ) → ℤ → List ℕ
word_where used name w = if used then name ++ word_text w else []

unfoldable pub words_where : Bool → (name : List ℕ) → List ℤ → List ℕ
words_where used name words = if used then name ++ words_text words else []

-- of the registers that are used at the label the round, and the block that is read
unfoldable pub round_text : Label → Registers → List ℕ
round_text l g = number_where (uses_round l) (codes " round ") g.round ++ number_where (uses_block l) (codes " r ") g.r

-- the word that is copied, and the place
unfoldable pub copied_text : Label → Registers → List ℕ
copied_text l g = word_where (uses_word l) (codes " acc") g.acc ++ number_where (uses_place l) (codes " i ") g.i

-- the process that is looked at or served, and the status of its body
unfoldable pub served_text : Label → Registers → List ℕ
served_text l g = number_where (uses_process l) (codes " j ") g.j ++ word_where (uses_status l) (codes " status") g.status

-- all of them
abbrev pub registers_text : Label → Registers → List ℕ
registers_text l g = round_text l g ++ copied_text l g ++ served_text l g

module _ {Run : Type 0} where
  -- and the lists of words
  unfoldable pub lists_text : Process Run → List ℕ
  lists_text q =
      words_where (uses_list q.label) (codes " list") q.list ++ words_where (uses_save q.label) (codes " save") q.save
      ++ words_where (uses_replies q.label) (codes " replies") q.replies

  -- P p LABEL, how many calls of its script have begun and how many it has, `linked` where nobody has stored since it linked, and what it uses
  abbrev pub process_line : Cell → ℕ → Process Run → List ℕ
  process_line c p q =
      codes "P " ++ decimal p ++ codes " " ++ label_name q.label ++ codes " " ++ decimal q.begun ++ codes "/" ++ decimal (length q.calls)
      ++ (if is_linked c p then codes " linked" else []) ++ registers_text q.label q.registers ++ lists_text q ++ codes "\n"

  abbrev pub process_by : Cell → ℕ → Option (Process Run) → List ℕ
  process_by c p None = []
  process_by c p (Some q) = process_line c p q

  abbrev pub process_at : State Run → ℕ → List ℕ
  process_at s p = process_by s.cell p (slice_get s.processes p)

-- ---- what the processes share

-- A p, the words of p's announcement, and its toggle
abbrev pub announced_line : Sizes → Cell → ℕ → List ℕ
announced_line z c p =
    codes "A " ++ decimal p ++ words_from (announcement_of c p) 0 z.arguments ++ codes " |" ++ words_from (announcement_of c p) z.arguments 1 ++ codes "\n"

-- a process's part of a block: status, values and toggle
abbrev pub part_text : Sizes → List ℤ → ℕ → List ℕ
part_text z block q = codes " |" ++ words_from block (part z q) (z.replies + 2)

-- the variables of a block, and behind them the part of each process
abbrev pub block_text : Sizes → List ℤ → List ℕ
block_text z block = codes " |" ++ words_from block 0 z.variables ++ over_each (part_text z block) z.processes ++ codes "\n"

-- R b, the root's block
abbrev pub root_line : Sizes → Cell → List ℕ
root_line z c = codes "R " ++ decimal c.root ++ block_text z (block_of c c.root)

-- B p b, the block that p owns
abbrev pub own_line : Sizes → Cell → ℕ → List ℕ
own_line z c p = codes "B " ++ decimal p ++ codes " " ++ decimal (own_of c p) ++ block_text z (own_block c p)

-- ---- all lines

-- n N, and the words of the variables, of a reply's values and of a call
abbrev pub sizes_text : Sizes → List ℕ
sizes_text z =
    codes "n " ++ decimal z.processes ++ codes "\nV " ++ decimal z.variables ++ codes " R " ++ decimal z.replies ++ codes " A " ++ decimal z.arguments ++ codes "\n"

-- the first line, the numbers, each process, each announcement, the root, and the block of each process
abbrev pub state_text : {Run : Type 0} → Sizes → State Run → List ℕ
state_text z s =
    codes "obl0 state 1\n" ++ sizes_text z ++ over_each (process_at s) z.processes
    ++ over_each (announced_line z s.cell) z.processes ++ root_line z s.cell ++ over_each (own_line z s.cell) z.processes
