-- The code of expressions, designators and selectors leaves what they mean, or traps as they do.
use Rattle.std.proofs.Common.{◌≡◌, ℕ, ◌+◌, ◌≤◌, true, false, ℤ, pos, List, [], ◌∷◌, ◌++◌, length, refl, sym, ap, subst, length-append, arith}
use Rattle.ob_interface.specs.declared.scalar.Scalar.{Scalar}
use Rattle.ob_interface.specs.declared.scalar.Scalar.TheVariants.{Int, Bool as Truth}
use Rattle.ob_interface.specs.declared.scalar.ScalarType.{ScalarType}
use Rattle.ob_interface.specs.declared.scalar.ScalarType.TheVariants.{Integer, Boolean}
use Rattle.ob_typing.specs.declared.operator.BinaryOperator.{BinaryOperator}
use Rattle.ob_typing.specs.declared.operator.BinaryOperator.TheVariants.{Plus, Minus, Times, Div, Mod, And, Or}
use Rattle.ob_typing.specs.Program.{DataType, Simple, Expression, Literal, ValueOf, Negated, Complement, Computed, Compared, Operations, no_operation, operation, Designator, Designated, Selectors, no_selector, field_of, element_of}
use Rattle.ob_typing.specs.Arithmetic.{Evaluated, Gives as Given, number_of, takes, applied, computed, negated, complement, compared, ◌>>=◌}
use Rattle.ob_meaning.specs.ByPositionValue.{scalar_of}
use Rattle.ob_meaning.specs.ByPositionStore.{Place, Store, place_owned, further_in, value_at}
use Rattle.ob_meaning.specs.ByPositionEvaluation.{value_of, value_behind, place_of, path_of}
use Rattle.ob_meaning.specs.OverStore.{within}
use Rattle.ob_code_scheme.specs.Types.{words, part_type, type_at, scope_of, address, IsScalarOf, IsPlace, Fits}
use Rattle.ob_code_scheme.specs.Temporaries.{behind_operator, temporaries, operations_temporaries, designator_temporaries, selectors_temporaries}
use Rattle.ob_code_scheme.specs.WellFormed.{IsOf, AreOf, Designates, Selects}
use Rattle.ob_code_scheme.specs.Layout.{word}
use Rattle.ob_code_words.specs.declared.instr.Instr.{Instr}
use Rattle.ob_code_words.specs.declared.instr.Instr.TheVariants as Instrs
use Rattle.ob_code_scheme.specs.Scheme.{variable_size, size, operations_size, designator_size, selectors_size, relation_instruction, operator_at, variable_code, code_at, operations_at, designator_at, selectors_at, HasAt}
use Rattle.ob_code_scheme.specs.Memory.{MemoryHolds}
use Rattle.ob_code_scheme.specs.Running.{Setting, globals_of, scopes_of, all_of, HasRoom, Evaluates}
use Rattle.ob_code_scheme.specs.Placing.{CodePlaced}
use Rattle.ob_code_correct.proofs.Instructions.{with_word, with_place, Leading, one_evaluates, two_evaluate, and_keeps, and_drops, or_keeps, or_drops, literal_leads}
use Rattle.ob_code_correct.proofs.Operators.{number_instruction, IsOfNumbers, number_of_two, computed_agrees, negated_agrees, complement_agrees, relation_of_two, compared_agrees}
use Rattle.ob_code_correct.proofs.ExpressionsGlue.{arrives, nothing, before, then_evaluates, made_of}
use Rattle.ob_code_correct.proofs.Places.{further_none, further_twice, variable_length, variable_leads, field_runs, element_runs, value_read}

-- the length of an operator's code
operator_length : (a : ℕ) (o : BinaryOperator) (n : ℕ) (operand : ℕ → List Instr) → ((b : ℕ) → length (operand b) ≡ n) → length (operator_at a o n operand) ≡ n + 1
operator_length a And n operand h = omega (arith, h (a + 1))
operator_length a Or n operand h = omega (arith, h (a + 1))
operator_length a Plus n operand h = omega (arith, h a, length-append (operand a) (Instrs.Add ∷ []))
operator_length a Minus n operand h = omega (arith, h a, length-append (operand a) (Instrs.Subtract ∷ []))
operator_length a Times n operand h = omega (arith, h a, length-append (operand a) (Instrs.Multiply ∷ []))
operator_length a Div n operand h = omega (arith, h a, length-append (operand a) (Instrs.Divide ∷ []))
operator_length a Mod n operand h = omega (arith, h a, length-append (operand a) (Instrs.Modulo ∷ []))

-- the value of the right operand is that of both, where the left one doesn't decide
and_right : (w : Scalar) → IsScalarOf Boolean w → computed And (Truth true) w ≡ Given w
and_right (Int z) h = absurd h
and_right (Truth b) h = refl

or_right : (w : Scalar) → IsScalarOf Boolean w → computed Or (Truth false) w ≡ Given w
or_right (Int z) h = absurd h
or_right (Truth b) h = refl

module _ (memory : MemoryHolds) (placed : CodePlaced) (at : Setting) (store : Store) (turns : ℕ) (fits : Fits (all_of at) store) where
  -- an expression's code does what it means, wherever it stands
  abbrev ValueHere : Expression → ScalarType → Type 0
  ValueHere e t =
      (a : ℕ) (temps : List ℤ) → HasAt at.code a (code_at (globals_of at) at.own a e) → HasRoom at temps (temporaries e) →
      Evaluates at store turns (size at.own e) a temps (IsScalarOf t) (with_word temps) (value_of store e)

  room_above : (temps : List ℤ) (w : ℤ) (n m : ℕ) → 1 + n ≤ m → HasRoom at temps m → HasRoom at (temps ++ w ∷ []) n
  room_above temps w n m h room = omega (arith, h, room, length-append temps (w ∷ []))

  room_for : (temps : List ℤ) (n m : ℕ) → n ≤ m → HasRoom at temps m → HasRoom at temps n
  room_for temps n m h room = omega (arith, h, room)

  -- ---- operators

  number_runs : (o : BinaryOperator) (e : Expression) (x : Scalar) (a : ℕ) (temps : List ℤ) → IsOfNumbers o → IsScalarOf Integer x → ValueHere e Integer →
      HasAt at.code a (code_at (globals_of at) at.own a e ++ number_instruction o ∷ []) → HasRoom at temps (1 + temporaries e) →
      Evaluates at store turns (size at.own e + 1) a (temps ++ word x ∷ []) (IsScalarOf Integer) (with_word temps) (◌>>=◌ (value_of store e) (λ w. computed o x w))
  number_runs o e x a temps numbers typed runs stands room =
      let code = code_at (globals_of at) at.own a e in
      let front = placed.has_front at.code a code (number_instruction o ∷ []) stands in
      let back = placed.has_back at.code a (size at.own e) code (number_instruction o ∷ []) (placed.lengths.expression (globals_of at) at.own a e) stands in
      then_evaluates placed at store turns (size at.own e) 1 (size at.own e + 1) a (temps ++ word x ∷ []) (IsScalarOf Integer) (with_word (temps ++ word x ∷ []))
      (IsScalarOf Integer) (with_word temps) (value_of store e) (λ w. computed o x w) refl
      (runs a (temps ++ word x ∷ []) front (room_above temps (word x) (temporaries e) (1 + temporaries e) (omega arith) room))
      (λ w right. two_evaluate placed at store turns (number_instruction o) (a + size at.own e) temps (word x) (word w) Integer (computed o x w) back.0 (number_of_two o numbers) (computed_agrees o x w numbers typed right))

  -- the right operand, behind an instruction that goes to it
  right_runs : (o : BinaryOperator) (e : Expression) (x : Scalar) (w : ℤ) (a : ℕ) (temps : List ℤ) → ValueHere e Boolean → ((y : Scalar) → IsScalarOf Boolean y → computed o x y ≡ Given y) →
      HasAt at.code (a + 1) (code_at (globals_of at) at.own (a + 1) e) → HasRoom at temps (temporaries e) → Leading placed at store turns 1 a (temps ++ w ∷ []) (a + 1) temps →
      Evaluates at store turns (size at.own e + 1) a (temps ++ w ∷ []) (IsScalarOf Boolean) (with_word temps) (◌>>=◌ (value_of store e) (λ w. computed o x w))
  right_runs o e x w a temps runs same stands room comes =
      before placed at store turns 1 (size at.own e) (size at.own e + 1) a (a + 1) (temps ++ w ∷ []) temps (IsScalarOf Boolean) (with_word temps)
      (◌>>=◌ (value_of store e) (λ w. computed o x w)) (omega arith) (omega arith) comes
      (then_evaluates placed at store turns (size at.own e) 0 (size at.own e) (a + 1) temps (IsScalarOf Boolean) (with_word temps) (IsScalarOf Boolean) (with_word temps)
      (value_of store e) (λ w. computed o x w) (omega arith) (runs (a + 1) temps stands room)
      (λ y typed.
      subst (λ (c : Evaluated Scalar). Evaluates at store turns 0 (a + 1 + size at.own e) (temps ++ word y ∷ []) (IsScalarOf Boolean) (with_word temps) c) (sym (same y typed))
      (typed, nothing placed at store turns (a + 1 + size at.own e) (temps ++ word y ∷ []))))

  -- the left value decides and stays: the right operand is passed over
  left_stays : (n a : ℕ) (temps : List ℤ) (x : Scalar) → IsScalarOf Boolean x → Leading placed at store turns 1 a (temps ++ word x ∷ []) (a + 1 + n) (temps ++ word x ∷ []) →
      Evaluates at store turns (n + 1) a (temps ++ word x ∷ []) (IsScalarOf Boolean) (with_word temps) (Given x)
  left_stays n a temps x typed comes =
      before placed at store turns 1 0 (n + 1) a (a + 1 + n) (temps ++ word x ∷ []) (temps ++ word x ∷ []) (IsScalarOf Boolean) (with_word temps) (Given x) (omega arith) (omega arith) comes
      (typed, nothing placed at store turns (a + 1 + n) (temps ++ word x ∷ []))

  operator_runs : (o : BinaryOperator) (e : Expression) (x : Scalar) (a : ℕ) (temps : List ℤ) → IsScalarOf (takes o) x → ValueHere e (takes o) →
      HasAt at.code a (operator_at a o (size at.own e) (λ b. code_at (globals_of at) at.own b e)) → HasRoom at temps (behind_operator o (temporaries e)) →
      Evaluates at store turns (size at.own e + 1) a (temps ++ word x ∷ []) (IsScalarOf (takes o)) (with_word temps) (applied o x (value_of store e))
  operator_runs Plus e x a temps typed runs stands room = number_runs Plus e x a temps tt typed runs stands room
  operator_runs Minus e x a temps typed runs stands room = number_runs Minus e x a temps tt typed runs stands room
  operator_runs Times e x a temps typed runs stands room = number_runs Times e x a temps tt typed runs stands room
  operator_runs Div e x a temps typed runs stands room = number_runs Div e x a temps tt typed runs stands room
  operator_runs Mod e x a temps typed runs stands room = number_runs Mod e x a temps tt typed runs stands room
  operator_runs And e (Int z) a temps typed runs stands room = absurd typed
  operator_runs And e (Truth true) a temps typed runs stands room =
      right_runs And e (Truth true) (pos 1) a temps runs and_right stands.1 room (and_drops placed at store turns (a + 1 + size at.own e) a temps stands.0)
  operator_runs And e (Truth false) a temps typed runs stands room =
      left_stays (size at.own e) a temps (Truth false) typed (and_keeps placed at store turns (a + 1 + size at.own e) a temps stands.0)
  operator_runs Or e (Int z) a temps typed runs stands room = absurd typed
  operator_runs Or e (Truth true) a temps typed runs stands room =
      left_stays (size at.own e) a temps (Truth true) typed (or_keeps placed at store turns (a + 1 + size at.own e) a temps stands.0)
  operator_runs Or e (Truth false) a temps typed runs stands room =
      right_runs Or e (Truth false) (pos 0) a temps runs or_right stands.1 room (or_drops placed at store turns (a + 1 + size at.own e) a temps stands.0)

  -- the same at the type that the operator takes
  operator_runs_at : (o : BinaryOperator) (e : Expression) (t : ScalarType) (x : Scalar) (a : ℕ) (temps : List ℤ) → takes o ≡ t → IsScalarOf t x → ValueHere e t →
      HasAt at.code a (operator_at a o (size at.own e) (λ b. code_at (globals_of at) at.own b e)) → HasRoom at temps (behind_operator o (temporaries e)) →
      Evaluates at store turns (size at.own e + 1) a (temps ++ word x ∷ []) (IsScalarOf t) (with_word temps) (applied o x (value_of store e))
  operator_runs_at o e t x a temps same typed runs stands room =
      subst
      (λ (s : ScalarType). IsScalarOf s x → ValueHere e s →
      Evaluates at store turns (size at.own e + 1) a (temps ++ word x ∷ []) (IsScalarOf s) (with_word temps) (applied o x (value_of store e)))
      same
      (λ typed runs. operator_runs o e x a temps typed runs stands room) typed runs

  -- from a part on: the path of what is within it, behind the part's position
  inside_runs : (place : Place) (i : ℕ) (to : DataType) (n a : ℕ) (temps : List ℤ) (paths : Evaluated (List ℕ)) →
      Evaluates at store turns n a (with_place at temps (further_in place (i ∷ []))) (λ path. IsPlace (all_of at) (further_in (further_in place (i ∷ [])) path) to)
      (λ path. with_place at temps (further_in (further_in place (i ∷ [])) path)) paths →
      Evaluates at store turns n a (with_place at temps (further_in place (i ∷ []))) (λ path. IsPlace (all_of at) (further_in place path) to)
      (λ path. with_place at temps (further_in place path)) (◌>>=◌ paths (λ path. Given (i ∷ path)))
  inside_runs place i to n a temps paths h =
      made_of placed at store turns (λ path. i ∷ path) n a (with_place at temps (further_in place (i ∷ [])))
      (λ path. IsPlace (all_of at) (further_in (further_in place (i ∷ [])) path) to) (λ path. with_place at temps (further_in (further_in place (i ∷ [])) path))
      (λ path. IsPlace (all_of at) (further_in place path) to) (λ path. with_place at temps (further_in place path)) paths
      (λ path is. (subst (λ (p : Place). IsPlace (all_of at) p to) (further_twice place i path) is, ap (λ (p : Place). with_place at temps p) (further_twice place i path))) h

  -- ---- one behind the other

  mutual
    pub value_runs : (e : Expression) (t : ScalarType) (a : ℕ) (temps : List ℤ) → IsOf (globals_of at) at.own e t → HasAt at.code a (code_at (globals_of at) at.own a e) → HasRoom at temps (temporaries e) →
        Evaluates at store turns (size at.own e) a temps (IsScalarOf t) (with_word temps) (value_of store e)
    value_runs (Literal s) t a temps fine stands room = (fine, literal_leads placed at store turns memory fits (word s) a temps stands.0 room)
    value_runs (ValueOf type d) t a temps fine stands room =
        let code = designator_at (globals_of at) at.own a d in
        let front = placed.has_front at.code a code (Instrs.Get ∷ []) stands in
        let back = placed.has_back at.code a (designator_size at.own d) code (Instrs.Get ∷ []) (placed.lengths.designator (globals_of at) at.own a d) stands in
        then_evaluates placed at store turns (designator_size at.own d) 1 (designator_size at.own d + 1) a temps (λ place. IsPlace (all_of at) place (Simple t)) (with_place at temps)
        (IsScalarOf t) (with_word temps) (place_of store d) (λ place. Given (scalar_of (value_at store place))) refl
        (place_runs d (Simple t) a temps fine front room)
        (λ place is. value_read memory placed at store turns fits place t (a + designator_size at.own d) temps is back.0)
    value_runs (Negated e) Boolean a temps fine stands room = absurd fine
    value_runs (Negated e) Integer a temps fine stands room =
        let code = code_at (globals_of at) at.own a e in
        let front = placed.has_front at.code a code (Instrs.Negate ∷ []) stands in
        let back = placed.has_back at.code a (size at.own e) code (Instrs.Negate ∷ []) (placed.lengths.expression (globals_of at) at.own a e) stands in
        then_evaluates placed at store turns (size at.own e) 1 (size at.own e + 1) a temps (IsScalarOf Integer) (with_word temps) (IsScalarOf Integer) (with_word temps)
        (value_of store e) negated refl (value_runs e Integer a temps fine front room)
        (λ x typed. one_evaluates placed at store turns Instrs.Negate (a + size at.own e) temps (word x) Integer (negated x) back.0 (λ reserve c. refl) (negated_agrees x typed))
    value_runs (Complement e) Integer a temps fine stands room = absurd fine
    value_runs (Complement e) Boolean a temps fine stands room =
        let code = code_at (globals_of at) at.own a e in
        let front = placed.has_front at.code a code (Instrs.Not ∷ []) stands in
        let back = placed.has_back at.code a (size at.own e) code (Instrs.Not ∷ []) (placed.lengths.expression (globals_of at) at.own a e) stands in
        then_evaluates placed at store turns (size at.own e) 1 (size at.own e + 1) a temps (IsScalarOf Boolean) (with_word temps) (IsScalarOf Boolean) (with_word temps)
        (value_of store e) (λ x. Given (complement x)) refl (value_runs e Boolean a temps fine front room)
        (λ x typed. one_evaluates placed at store turns Instrs.Not (a + size at.own e) temps (word x) Boolean (Given (complement x)) back.0 (λ reserve c. refl) (complement_agrees x typed))
    value_runs (Computed first rest) t a temps fine stands room =
        let code = code_at (globals_of at) at.own a first in
        let others = operations_at (globals_of at) at.own (a + size at.own first) rest in
        let front = placed.has_front at.code a code others stands in
        let back = placed.has_back at.code a (size at.own first) code others (placed.lengths.expression (globals_of at) at.own a first) stands in
        then_evaluates placed at store turns (size at.own first) (operations_size at.own rest) (size at.own first + operations_size at.own rest) a temps
        (IsScalarOf t) (with_word temps) (IsScalarOf t) (with_word temps)
        (value_of store first) (λ x. value_behind store x rest) refl
        (value_runs first t a temps fine.0 front (omega (arith, room)))
        (λ x typed. operations_run rest t x (a + size at.own first) temps typed fine.1 back (omega (arith, room)))
    value_runs (Compared relation left right) Integer a temps fine stands room = absurd fine
    value_runs (Compared relation left right) Boolean a temps fine stands room =
        let s = fine.0 in
        let n = size at.own left in
        let m = size at.own right in
        let first = code_at (globals_of at) at.own a left in
        let second = code_at (globals_of at) at.own (a + n) right in
        let last = relation_instruction relation ∷ [] in
        let front = placed.has_front at.code a first (second ++ last) stands in
        let back = placed.has_back at.code a n first (second ++ last) (placed.lengths.expression (globals_of at) at.own a left) stands in
        let middle = placed.has_front at.code (a + n) second last back in
        let behind = placed.has_back at.code (a + n) m second last (placed.lengths.expression (globals_of at) at.own (a + n) right) back in
        then_evaluates placed at store turns n (m + 1) (n + (m + 1)) a temps (IsScalarOf s) (with_word temps) (IsScalarOf Boolean) (with_word temps)
        (value_of store left) (λ x. ◌>>=◌ (value_of store right) (λ y. Given (compared relation x y))) refl
        (value_runs left s a temps fine.2 front (omega (arith, room)))
        (λ x typed.
        then_evaluates placed at store turns m 1 (m + 1) (a + n) (temps ++ word x ∷ []) (IsScalarOf s) (with_word (temps ++ word x ∷ [])) (IsScalarOf Boolean) (with_word temps)
        (value_of store right) (λ y. Given (compared relation x y)) refl
        (value_runs right s (a + n) (temps ++ word x ∷ []) fine.3 middle (omega (arith, room, length-append temps (word x ∷ []))))
        (λ y also. two_evaluate placed at store turns (relation_instruction relation) (a + n + m) temps (word x) (word y) Boolean (Given (compared relation x y)) behind.0 (relation_of_two relation) (compared_agrees relation s x y fine.1 typed also)))

    pub operations_run : (rest : Operations) (t : ScalarType) (first : Scalar) (a : ℕ) (temps : List ℤ) → IsScalarOf t first → AreOf (globals_of at) at.own rest t →
        HasAt at.code a (operations_at (globals_of at) at.own a rest) → HasRoom at temps (operations_temporaries rest) →
        Evaluates at store turns (operations_size at.own rest) a (temps ++ word first ∷ []) (IsScalarOf t) (with_word temps) (value_behind store first rest)
    operations_run no_operation t first a temps typed fine stands room = (typed, nothing placed at store turns a (temps ++ word first ∷ []))
    operations_run (operation o e rest) t first a temps typed fine stands room =
        let n = size at.own e in
        let code = operator_at a o n (λ b. code_at (globals_of at) at.own b e) in
        let others = operations_at (globals_of at) at.own (a + (n + 1)) rest in
        let front = placed.has_front at.code a code others stands in
        let long = operator_length a o n (λ b. code_at (globals_of at) at.own b e) (λ b. placed.lengths.expression (globals_of at) at.own b e) in
        let back = placed.has_back at.code a (n + 1) code others long stands in
        then_evaluates placed at store turns (n + 1) (operations_size at.own rest) (n + 1 + operations_size at.own rest) a (temps ++ word first ∷ [])
        (IsScalarOf t) (with_word temps) (IsScalarOf t) (with_word temps)
        (applied o first (value_of store e)) (λ x. value_behind store x rest) refl
        (operator_runs_at o e t first a temps fine.0 typed (λ b ts has high. value_runs e t b ts fine.1 has high) front
        (room_for temps (behind_operator o (temporaries e)) (operations_temporaries (operation o e rest)) (omega arith) room))
        (λ x next. operations_run rest t x (a + (n + 1)) temps next fine.2 back (room_for temps (operations_temporaries rest) (operations_temporaries (operation o e rest)) (omega arith) room))

    pub place_runs : (d : Designator) (type : DataType) (a : ℕ) (temps : List ℤ) → Designates (globals_of at) at.own d type →
        HasAt at.code a (designator_at (globals_of at) at.own a d) → HasRoom at temps (designator_temporaries d) →
        Evaluates at store turns (designator_size at.own d) a temps (λ place. IsPlace (all_of at) place type) (with_place at temps) (place_of store d)
    place_runs (Designated slot selectors) type a temps fine stands room =
        let n = variable_size at.own slot.owner slot.position in
        let from = type_at (scope_of (globals_of at) at.own slot.owner) slot.position in
        let place = place_owned slot.owner store slot.position in
        let code = variable_code (globals_of at) at.own slot.owner slot.position in
        let others = selectors_at (globals_of at) at.own (a + n) from selectors in
        let front = placed.has_front at.code a code others stands in
        let back = placed.has_back at.code a n code others (variable_length (globals_of at) at.own slot.owner slot.position) stands in
        let is = memory.variable_places (scopes_of at) store slot fits fine.0 in
        before placed at store turns n (selectors_size at.own selectors) (n + selectors_size at.own selectors) a (a + n) temps (with_place at temps place)
        (λ place. IsPlace (all_of at) place type) (with_place at temps) (◌>>=◌ (path_of store selectors) (λ path. Given (further_in place path)))
        (omega arith) (omega arith)
        (variable_leads memory placed at store turns fits slot.owner slot.position a temps fine.0 front (room_for temps 1 (designator_temporaries (Designated slot selectors)) (omega arith) room))
        (made_of placed at store turns (λ path. further_in place path) (selectors_size at.own selectors) (a + n) (with_place at temps place)
        (λ path. IsPlace (all_of at) (further_in place path) type) (λ path. with_place at temps (further_in place path))
        (λ place. IsPlace (all_of at) place type) (with_place at temps) (path_of store selectors) (λ path further. (further, refl))
        (selectors_run selectors place from type (a + n) temps is fine.1 back (room_for temps (selectors_temporaries selectors) (designator_temporaries (Designated slot selectors)) (omega arith) room)))

    pub selectors_run : (selectors : Selectors) (place : Place) (from to : DataType) (a : ℕ) (temps : List ℤ) → IsPlace (all_of at) place from → Selects (globals_of at) at.own from selectors to →
        HasAt at.code a (selectors_at (globals_of at) at.own a from selectors) → HasRoom at temps (selectors_temporaries selectors) →
        Evaluates at store turns (selectors_size at.own selectors) a (with_place at temps place) (λ path. IsPlace (all_of at) (further_in place path) to)
        (λ path. with_place at temps (further_in place path)) (path_of store selectors)
    selectors_run no_selector place from to a temps is fine stands room =
        let same = sym (further_none place) in (
          subst (λ (p : Place). IsPlace (all_of at) p to) same (subst (λ (t : DataType). IsPlace (all_of at) place t) fine is),
          arrives placed at store turns 0 a (a + 0) (a + 0) (with_place at temps place) (with_place at temps place) (with_place at temps (further_in place []))
              refl (ap (λ (p : Place). with_place at temps p) same) (nothing placed at store turns a (with_place at temps place)),
        )
    selectors_run (field_of position name rest) place from to a temps is fine stands room =
        let part = further_in place (position ∷ []) in
        let n = selectors_size at.own rest in
        let first = field_runs memory placed at store turns fits place from position a temps is fine.0 stands.0 (room_for temps 0 (selectors_temporaries rest) (omega arith) room) in
        before placed at store turns 1 n (1 + n) a (a + 1) (with_place at temps place) (with_place at temps part)
        (λ path. IsPlace (all_of at) (further_in place path) to) (λ path. with_place at temps (further_in place path)) (◌>>=◌ (path_of store rest) (λ path. Given (position ∷ path)))
        (omega arith) (omega arith) first.1
        (inside_runs place position to n (a + 1) temps (path_of store rest)
        (selectors_run rest part (part_type from position) to (a + 1) temps first.0 fine.1 stands.1 room))
    selectors_run (element_of length index rest) place from to a temps is fine stands room =
        let n = size at.own index in
        let m = selectors_size at.own rest in
        let top = with_place at temps place in
        let code = code_at (globals_of at) at.own a index in
        let others = Instrs.Index length (words (part_type from 0)) ∷ selectors_at (globals_of at) at.own (a + (n + 1)) (part_type from 0) rest in
        let front = placed.has_front at.code a code others stands in
        let back = placed.has_back at.code a n code others (placed.lengths.expression (globals_of at) at.own a index) stands in
        let place_after : a + (n + 1) ≡ a + n + 1 = omega arith in
        let after = subst (λ (b : ℕ). HasAt at.code (a + n + 1) (selectors_at (globals_of at) at.own b (part_type from 0) rest)) place_after back.1 in
        then_evaluates placed at store turns n (1 + m) (n + 1 + m) a top (IsScalarOf Integer) (with_word top)
        (λ path. IsPlace (all_of at) (further_in place path) to) (λ path. with_place at temps (further_in place path))
        (value_of store index) (λ x. ◌>>=◌ (within length (number_of x)) (λ i. ◌>>=◌ (path_of store rest) (λ path. Given (i ∷ path)))) (omega arith)
        (value_runs index Integer a top fine.1 front (omega (arith, room, length-append temps (pos (address (all_of at) place) ∷ []))))
        (λ x typed.
        then_evaluates placed at store turns 1 m (1 + m) (a + n) (top ++ word x ∷ [])
        (λ i. IsPlace (all_of at) (further_in place (i ∷ [])) (part_type from 0)) (λ i. with_place at temps (further_in place (i ∷ [])))
        (λ path. IsPlace (all_of at) (further_in place path) to) (λ path. with_place at temps (further_in place path))
        (within length (number_of x)) (λ i. ◌>>=◌ (path_of store rest) (λ path. Given (i ∷ path))) refl
        (element_runs memory placed at store turns fits place from length x (a + n) temps is fine.0 typed back.0 (omega (arith, room)))
        (λ i further. inside_runs place i to m (a + n + 1) temps (path_of store rest)
        (selectors_run rest (further_in place (i ∷ [])) (part_type from 0) to (a + n + 1) temps further fine.2 after (omega (arith, room)))))
