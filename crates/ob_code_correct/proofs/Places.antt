-- The code of a variable leaves its address, a selector makes of it that of a part, and GET the word there.
use Rattle.std.proofs.Common.{◌≡◌, ℕ, ◌+◌, ◌*◌, ◌^◌, ◌<◌, ◌≤◌, ltb, Bool, true, false, ◌||◌, cond, ℤ, pos, negsuc, List, [], ◌∷◌, ◌++◌, length, Some, refl, sym, ap, ◌∙◌, subst, ⊎_elim, append-nil, append_assoc, arith}
use Rattle.std.specs.Prelude.{slice_get, int_lt, int_le}
use Rattle.std.proofs.lemmas.Bool.{cases_lt}
use Rattle.std.proofs.lemmas.Bool.Decides.{nat_tests}
use Rattle.ob_interface.specs.declared.scalar.Scalar.{Scalar}
use Rattle.ob_interface.specs.declared.scalar.Scalar.TheVariants.{Int, Bool as Truth}
use Rattle.ob_interface.specs.declared.scalar.ScalarType.{ScalarType}
use Rattle.ob_interface.specs.declared.scalar.ScalarType.TheVariants.{Integer}
use Rattle.ob_typing.specs.Program.{DataType, Simple, Array, Record, Owner, OfModule, Own, Slot}
use Rattle.ob_typing.specs.Arithmetic.{Evaluated, Gives as Given, Traps as Fails, number_of}
use Rattle.ob_meaning.specs.ByPositionValue.{Value, scalar_of}
use Rattle.ob_meaning.specs.ByPositionStore.{Place, Store, place_owned, further_in, value_at}
use Rattle.ob_meaning.specs.OverStore.{within}
use Rattle.ob_code_scheme.specs.Types.{words, part_type, part_offset, Space, Holding, Referring, word_in, space_at, scope_of, address, IsScalarOf, HasPart, IsPlace, Fits}
use Rattle.ob_code_scheme.specs.WellFormed.{HasPosition, HasFieldAt, HasLength}
use Rattle.ob_code_scheme.specs.Layout.{word}
use Rattle.ob_code_words.specs.declared.instr.Instr.TheVariants as Instrs
use Rattle.ob_code_scheme.specs.Scheme.{own_size, variable_size, own_code, variable_code, HasAt}
use Rattle.ob_code_scheme.proofs.Small.{addresses_are_words}
use Rattle.ob_code_scheme.specs.Memory.{own_word, MemoryHolds}
use Rattle.ob_code_scheme.specs.Running.{Setting, globals_of, scopes_of, all_of, HasRoom, Evaluates}
use Rattle.ob_code_scheme.specs.Placing.{CodePlaced}
use Rattle.ob_code_correct.proofs.Instructions.{with_word, with_place, Leading, field_leads, index_leads, index_traps, global_leads, local_leads, get_leads, small}
use Rattle.ob_code_correct.proofs.ExpressionsGlue.{arrives, leads_behind}

-- ---- places within one another

pub further_none : (place : Place) → further_in place [] ≡ place
further_none place = ap (λ (path : List ℕ). record place { path = path }) (append-nil place.path)

pub further_twice : (place : Place) (i : ℕ) (path : List ℕ) → further_in (further_in place (i ∷ [])) path ≡ further_in place (i ∷ path)
further_twice place i path = ap (λ (whole : List ℕ). record place { path = whole }) (append_assoc place.path (i ∷ []) path)

-- ---- parts of a type

pub field_part : (from : DataType) (position : ℕ) → HasFieldAt from position → HasPart from position
field_part (Simple type) position h = absurd h
field_part (Array place length element) position h = absurd h
field_part (Record place fields) position h = h

element_part : (from : DataType) (n i : ℕ) → HasLength from n → i < n → HasPart from i
element_part (Simple type) n i h below = absurd h
element_part (Array place length element) n i h below = omega (arith, h, below)
element_part (Record place fields) n i h below = absurd h

element_type : (from : DataType) (n i : ℕ) → HasLength from n → part_type from i ≡ part_type from 0
element_type (Simple type) n i h = absurd h
element_type (Array place length element) n i h = refl
element_type (Record place fields) n i h = absurd h

element_offset : (from : DataType) (n i : ℕ) → HasLength from n → part_offset from i ≡ i * words (part_type from 0)
element_offset (Simple type) n i h = absurd h
element_offset (Array place length element) n i h = refl
element_offset (Record place fields) n i h = absurd h

-- the code of a variable has as many instructions as its size says
own_length : (word : ℕ) (space : Space) → length (own_code word space) ≡ own_size space
own_length word (Holding type) = refl
own_length word (Referring type) = refl

pub variable_length : (globals own : List Space) (owner : Owner) (position : ℕ) → length (variable_code globals own owner position) ≡ variable_size own owner position
variable_length globals own OfModule position = refl
variable_length globals own Own position = own_length (word_in own position) (space_at own position)

module _ (memory : MemoryHolds) (placed : CodePlaced) (at : Setting) (store : Store) (turns : ℕ) (fits : Fits (all_of at) store) where
  -- ---- variables

  -- the place of an own variable, and the address of its word
  own_leads : (position a : ℕ) (temps : List ℤ) (space : Space) → space_at at.own position ≡ space → HasPosition at.own position →
      HasAt at.code a (own_code (word_in at.own position) space) → HasRoom at temps 1 →
      Leading placed at store turns (own_size space) a temps (a + own_size space) (with_place at temps (place_owned Own store position))
  own_leads position a temps (Holding type) is there stands room =
      let slot : Slot = record { owner = Own; position = position; name = [] } in
      let place = place_owned Own store position in
      let at_word = memory.own_addresses (scopes_of at) store position type fits there is in
      let few = small placed at store turns memory fits place _ temps 1 (memory.variable_places (scopes_of at) store slot fits there) room in
      local_leads placed at store turns memory fits (word_in at.own position) (address (all_of at) place) a temps stands.0 room (sym at_word) few
  own_leads position a temps (Referring type) is there stands room =
      let place = place_owned Own store position in
      let w = own_word (scopes_of at) position in
      let r = memory.own_references (scopes_of at) store position type fits is in
      let based = memory.bases (scopes_of at) in
      let all_words = (memory.total_lengths (all_of at) store fits).0 in
      let few : w < 2 ^ 63 = omega (arith, r.below, all_words, based.total_is, room, addresses_are_words at.program at.fine) in
      leads_behind placed at store turns 1 1 2 a (a + 1) (a + 2) temps (temps ++ pos w ∷ []) (with_place at temps place) (omega arith)
      (local_leads placed at store turns memory fits (word_in at.own position) w a temps stands.0 room refl few)
      (arrives placed at store turns 1 (a + 1) (a + 1 + 1) (a + 2) (temps ++ pos w ∷ []) (with_place at temps place) (with_place at temps place) (omega arith) refl
      (get_leads placed at store turns memory fits w (a + 1) (pos (address (all_of at) place)) temps stands.1.0 r.below r.word_is))

  -- the address of a variable
  pub variable_leads : (owner : Owner) (position a : ℕ) (temps : List ℤ) → HasPosition (scope_of (globals_of at) at.own owner) position →
      HasAt at.code a (variable_code (globals_of at) at.own owner position) → HasRoom at temps 1 →
      Leading placed at store turns (variable_size at.own owner position) a temps (a + variable_size at.own owner position) (with_place at temps (place_owned owner store position))
  variable_leads OfModule position a temps there stands room =
      let w = word_in (globals_of at) position in
      arrives placed at store turns 1 a (a + 1) (a + 1) temps (temps ++ pos w ∷ []) (with_place at temps (place_owned OfModule store position)) refl
      (ap (λ (n : ℕ). temps ++ pos n ∷ []) (sym (memory.global_addresses (scopes_of at) store position)))
      (global_leads placed at store turns memory fits w a temps stands.0 room)
  variable_leads Own position a temps there stands room = own_leads position a temps (space_at at.own position) refl there stands room

  -- ---- selectors

  -- the address of a part is that of the whole and the words before the part
  part_address : (place : Place) (from : DataType) (i : ℕ) → IsPlace (all_of at) place from → address (all_of at) place + part_offset from i ≡ address (all_of at) (further_in place (i ∷ []))
  part_address place from i is = let further = memory.further_addresses (all_of at) place from (i ∷ []) is in omega (arith, further)

  pub field_runs : (place : Place) (from : DataType) (position a : ℕ) (temps : List ℤ) → IsPlace (all_of at) place from → HasFieldAt from position →
      slice_get at.code a ≡ Some (Instrs.Field (part_offset from position)) → HasRoom at temps 0 →
      IsPlace (all_of at) (further_in place (position ∷ [])) (part_type from position)
      × Leading placed at store turns 1 a (with_place at temps place) (a + 1) (with_place at temps (further_in place (position ∷ [])))
  field_runs place from position a temps is has stands room =
      let further = memory.further_places (all_of at) place from (part_type from position) (position ∷ []) is (field_part from position has, refl) in
      let few = small placed at store turns memory fits (further_in place (position ∷ [])) (part_type from position) temps 0 further room in
      (further, field_leads placed at store turns (part_offset from position) a temps (address (all_of at) place) (address (all_of at) (further_in place (position ∷ []))) stands (part_address place from position is) few)

  -- an index, on the word of a number
  abbrev Indexes : Place → DataType → ℕ → List ℤ → ℤ → Evaluated ℕ → Type 0
  Indexes place from a temps z e =
      Evaluates at store turns 1 a ((with_place at temps place) ++ z ∷ []) (λ i. IsPlace (all_of at) (further_in place (i ∷ [])) (part_type from 0))
      (λ i. with_place at temps (further_in place (i ∷ []))) e

  pub element_runs : (place : Place) (from : DataType) (n : ℕ) (x : Scalar) (a : ℕ) (temps : List ℤ) → IsPlace (all_of at) place from → HasLength from n → IsScalarOf Integer x →
      slice_get at.code a ≡ Some (Instrs.Index n (words (part_type from 0))) → HasRoom at temps 0 →
      Indexes place from a temps (word x) (within n (number_of x))
  element_runs place from n (Truth b) a temps is has typed stands room = absurd typed
  element_runs place from n (Int (negsuc z)) a temps is has typed stands room =
      index_traps placed at store turns n (words (part_type from 0)) a temps (address (all_of at) place) (negsuc z) stands refl
  element_runs place from n (Int (pos i)) a temps is has typed stands room =
      ⊎_elim
      (λ (below : i < n).
      let test : within n (pos i) ≡ Given i = ap (λ (b : Bool). cond b (Given i) (Fails 2)) (passes i n below) in
      let further = memory.further_places (all_of at) place from (part_type from 0) (i ∷ []) is (element_part from n i has below, element_type from n i has) in
      let few = small placed at store turns memory fits (further_in place (i ∷ [])) (part_type from 0) temps 0 further room in
      let there : address (all_of at) place + i * words (part_type from 0) ≡ address (all_of at) (further_in place (i ∷ [])) =
      ap (λ (m : ℕ). address (all_of at) place + m) (sym (element_offset from n i has)) ∙ part_address place from i is in
      subst (λ (e : Evaluated ℕ). Indexes place from a temps (pos i) e) (sym test)
      (further, index_leads placed at store turns n (words (part_type from 0)) a temps (address (all_of at) place) i (address (all_of at) (further_in place (i ∷ []))) stands below there few))
      (λ (beyond : n ≤ i).
      let test : within n (pos i) ≡ Fails 2 = ap (λ (b : Bool). cond b (Given i) (Fails 2)) (fails i n beyond) in
      subst (λ (e : Evaluated ℕ). Indexes place from a temps (pos i) e) (sym test)
      (index_traps placed at store turns n (words (part_type from 0)) a temps (address (all_of at) place) (pos i) stands (outside i n beyond)))
      (cases_lt i n)
    where
      passes : (i n : ℕ) → i < n → ltb i n ≡ true
      passes i n h = grind (arith, nat_tests)

      fails : (i n : ℕ) → n ≤ i → ltb i n ≡ false
      fails i n h = grind (arith, nat_tests)

      outside : (i n : ℕ) → n ≤ i → int_lt (pos i) (pos 0) || int_le (pos n) (pos i) ≡ true
      outside i n h = grind (arith, nat_tests)

  -- ---- the value of a place

  pub value_read : (place : Place) (t : ScalarType) (a : ℕ) (temps : List ℤ) → IsPlace (all_of at) place (Simple t) → slice_get at.code a ≡ Some Instrs.Get →
      Evaluates at store turns 1 a (with_place at temps place) (IsScalarOf t) (with_word temps) (Given (scalar_of (value_at store place)))
  value_read place t a temps is stands =
      let looked = memory.looks (all_of at) store place t fits is in
      subst
      (λ (v : Value). Evaluates at store turns 1 a (with_place at temps place) (IsScalarOf t) (with_word temps) (Given (scalar_of v)))
      (sym looked.value_is)
      (looked.typed, get_leads placed at store turns memory fits (address (all_of at) place) a (word looked.value) temps stands looked.below looked.word_is)
