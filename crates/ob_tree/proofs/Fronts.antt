-- What a run that is ready has in front: operands of 16 bits, and room for its parts.
use Rattle.std.proofs.Common.{◌≡◌, ℕ, suc, ◌+◌, ◌*◌, ◌≤◌, List, [], ◌∷◌, ◌++◌, Some, arith}
use Rattle.std.specs.Prelude.{slice_get}
use Rattle.std.proofs.Math.Logic.{∥∥₁_elim}
use Rattle.std.proofs.Math.Bridge.{le_prop}
use Rattle.std.proofs.Math.Nat.{le-max_left, le-max_right, mul-le-mul_right}
use Rattle.ob_typing.specs.Program.{DataType, Owner, OfModule, Own, Designated, Selectors, no_selector, field_of, element_of, Program}
use Rattle.ob_code_words.specs.declared.instr.Instr.{Instr}
use Rattle.ob_code_words.specs.declared.instr.Instr.TheVariants as Instrs
use Rattle.ob_code_machine.specs.declared.saved.Saved.{Saved}
use Rattle.ob_code_scheme.specs.Types.{words, part_type, part_offset, Space, Holding, Referring, Scope, word_in, space_at, scope_of, variables_scope}
use Rattle.ob_code_scheme.specs.Scheme.{size, entry_of, own_code, variable_code, code_of, HasAt, selectors_at}
use Rattle.ob_code_scheme.specs.WellFormed.{IsWellFormed}
use Rattle.ob_tree_law.specs.Work.{Task, Address, Selecting}
use Rattle.ob_tree_law.specs.Operands.{largest_word}
use Rattle.ob_tree_law.specs.Places.{Reads}
use Rattle.ob_tree_law.specs.Reserve.{activation_most, IsLow}
use Rattle.ob_tree_law.proofs.Opened.{open_element}
use Rattle.ob_tree_law.proofs.Small.{operands_found}
use Rattle.ob_tree_law.proofs.Within.{low_long}
use Rattle.ob_tree_tasks.specs.Opening.{IsSmallSelector, IsSmallTask, FirstFits}

module _ (program : Program) (well : ∥ IsWellFormed program ∥₁) where
  abbrev code : List Instr
  code = (code_of program).instructions

  abbrev g : Scope
  g = variables_scope program.variables

  abbrev Stands : List Task → ℕ → List Saved → Type 0
  Stands = Reads code g (entry_of program.procedures)

  found : (place : ℕ) (i : Instr) → slice_get code place ≡ Some i → largest_word i ≤ 65535
  found place i h = ∥∥₁_elim well le_prop (λ w. operands_found program place i w h)

  own_found : (pc word : ℕ) (space : Space) (tail : List Instr) → HasAt code pc (own_code word space ++ tail) → word ≤ 65535
  own_found pc word (Holding type) tail h = found pc (Instrs.Local word) h.0
  own_found pc word (Referring type) tail h = found pc (Instrs.Local word) h.0

  variable_found : (own : Scope) (pc : ℕ) (owner : Owner) (position : ℕ) (tail : List Instr) → HasAt code pc (variable_code g own owner position ++ tail) →
      word_in (scope_of g own owner) position ≤ 65535
  variable_found own pc OfModule position tail h = found pc (Instrs.Global (word_in g position)) h.0
  variable_found own pc Own position tail h = own_found pc (word_in own position) (space_at own position) tail h

  selector_found : (own : Scope) (pc : ℕ) (type : DataType) (ss : Selectors) → HasAt code pc (selectors_at g own pc type ss) → IsSmallSelector type ss
  selector_found own pc type no_selector h = tt
  selector_found own pc type (field_of position name rest) h = found pc (Instrs.Field (part_offset type position)) h.0
  selector_found own pc type (element_of n index rest) h =
      let s = open_element code g own pc type n index rest h in
      let few = found (pc + size own index) (Instrs.Index n (words (part_type type 0))) s.1 in
      let a = le-max_left n (words (part_type type 0)) in
      let b = le-max_right n (words (part_type type 0)) in
      (omega (arith, few, a), omega (arith, few, b))

  small_task : (t : Task) (rest : List Task) (pc : ℕ) (saved : List Saved) → Stands (t ∷ rest) pc saved → IsSmallTask g t
  small_task (Address own (Designated slot ss)) rest pc saved h = variable_found own pc slot.owner slot.position _ h.0
  small_task (Selecting own type ss) rest pc saved h = selector_found own pc type ss h.0
  small_task _ rest pc saved h = tt

  -- with room for all tasks and three more
  pub first_fits : (room depth : ℕ) (work : List Task) (pc : ℕ) (saved : List Saved) → room ≡ 64 * activation_most program.procedures + 3 → depth ≤ 63 →
      IsLow (activation_most program.procedures) work depth → Stands work pc saved → FirstFits g room work
  first_fits room depth [] pc saved is few low h = tt
  first_fits room depth (t ∷ rest) pc saved is few low h =
      let most = activation_most program.procedures in
      let long = low_long g most (t ∷ rest) depth low in
      let more : suc depth * most ≤ 64 * most = mul-le-mul_right most (omega (arith, few)) in
      (omega (arith, is, long, more), small_task t rest pc saved h)
