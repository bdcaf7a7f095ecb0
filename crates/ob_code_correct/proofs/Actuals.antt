-- The code of actuals leaves the words of what they hand over, and all that evaluation owes.
use Rattle.std.proofs.Common.{◌≡◌, ℕ, zero, suc, ◌+◌, ◌<◌, ℤ, List, [], ◌∷◌, ◌++◌, length, refl, sym, append-nil, append_assoc, length-append, arith}
use Rattle.ob_typing.specs.Program.{DataType, Simple, Array, Record, Actual, ByValue, ByPlace}
use Rattle.ob_typing.specs.Arithmetic.{Gives as Given, ◌>>=◌}
use Rattle.ob_meaning.specs.ByPositionValue.{Single}
use Rattle.ob_meaning.specs.ByPositionStore.{Held, Holds, Refers, Store}
use Rattle.ob_meaning.specs.ByPositionEvaluation.{value_of, place_of, handed, all_handed}
use Rattle.ob_code_scheme.specs.Types.{Space, Holding, Referring, Scope, scope_at, IsScalarOf, IsPlaceIn, IsPlace, FitsHeld, FitsHanded, Fits}
use Rattle.ob_code_scheme.specs.Temporaries.{actual_temporaries, actuals_temporaries}
use Rattle.ob_code_scheme.specs.WellFormed.{IsActual, AreActuals}
use Rattle.ob_code_scheme.specs.Scheme.{actual_size, actuals_size, actual_at, actuals_at, HasAt}
use Rattle.ob_code_scheme.specs.Image.{held_words, position_words}
use Rattle.ob_code_scheme.specs.Memory.{MemoryHolds}
use Rattle.ob_code_scheme.specs.Running.{Setting, globals_of, all_of, HasRoom, Evaluates, EvaluationRuns}
use Rattle.ob_code_scheme.specs.Placing.{CodePlaced}
use Rattle.ob_code_correct.proofs.Instructions.{with_word, with_place}
use Rattle.ob_code_correct.proofs.ExpressionsGlue.{arrives, nothing, then_evaluates, made_of}
use Rattle.ob_code_correct.proofs.Expressions.{value_runs, operations_run, place_runs, selectors_run}

-- a place is of a position that there is
below_all : (scopes : List Scope) (k position : ℕ) (path : List ℕ) (type : DataType) → IsPlaceIn (scope_at scopes k) position path type → k < length scopes
below_all [] k position path type h = absurd h
below_all (s ∷ scopes) zero position path type h = omega arith
below_all (s ∷ scopes) (suc k) position path type h = omega (arith, below_all scopes k position path type h)

module _ (memory : MemoryHolds) (placed : CodePlaced) (at : Setting) (store : Store) (turns : ℕ) (fits : Fits (all_of at) store) where
  -- what is handed over fits its space, and has one word
  abbrev IsHanded : Space → Held → Type 0
  IsHanded space held = FitsHeld (all_of at) (length (all_of at)) space held × (length (held_words (all_of at) held) ≡ 1)

  actual_runs : (actual : Actual) (space : Space) (a : ℕ) (temps : List ℤ) → IsActual (globals_of at) at.own actual space →
      HasAt at.code a (actual_at (globals_of at) at.own a actual) → HasRoom at temps (actual_temporaries actual) →
      Evaluates at store turns (actual_size at.own actual) a temps (λ held. IsHanded space held) (λ held. temps ++ held_words (all_of at) held) (handed store actual)
  actual_runs (ByValue e) (Holding (Simple t)) a temps fine stands room =
      made_of placed at store turns (λ v. Holds (Single v)) (actual_size at.own (ByValue e)) a temps (IsScalarOf t) (with_word temps)
      (λ held. IsHanded (Holding (Simple t)) held) (λ held. temps ++ held_words (all_of at) held) (value_of store e) (λ x typed. ((typed, refl), refl))
      (value_runs memory placed at store turns fits e t a temps fine stands room)
  actual_runs (ByValue e) (Holding (Array place length element)) a temps fine stands room = absurd fine
  actual_runs (ByValue e) (Holding (Record place fields)) a temps fine stands room = absurd fine
  actual_runs (ByValue e) (Referring type) a temps fine stands room = absurd fine
  actual_runs (ByPlace d) (Holding type) a temps fine stands room = absurd fine
  actual_runs (ByPlace d) (Referring type) a temps fine stands room =
      made_of placed at store turns (λ place. Refers place) (actual_size at.own (ByPlace d)) a temps (λ place. IsPlace (all_of at) place type) (with_place at temps)
      (λ held. IsHanded (Referring type) held) (λ held. temps ++ held_words (all_of at) held) (place_of store d)
      (λ place is. (((below_all (all_of at) place.activation place.position place.path type is, is), refl), refl))
      (place_runs memory placed at store turns fits d type a temps fine stands room)

  pub actuals_run : (actuals : List Actual) (parameters : Scope) (a : ℕ) (temps : List ℤ) → AreActuals (globals_of at) at.own actuals parameters →
      HasAt at.code a (actuals_at (globals_of at) at.own a actuals) → HasRoom at temps (actuals_temporaries actuals) →
      Evaluates at store turns (actuals_size at.own actuals) a temps (λ handed. FitsHanded (all_of at) parameters handed) (λ handed. temps ++ position_words (all_of at) handed) (all_handed store actuals)
  actuals_run [] [] a temps fine stands room =
      (tt, arrives placed at store turns 0 a (a + 0) (a + 0) temps temps (temps ++ []) refl (sym (append-nil temps)) (nothing placed at store turns a temps))
  actuals_run [] (s ∷ parameters) a temps fine stands room = absurd fine
  actuals_run (actual ∷ actuals) [] a temps fine stands room = absurd fine
  actuals_run (actual ∷ actuals) (s ∷ parameters) a temps fine stands room =
      let n = actual_size at.own actual in
      let m = actuals_size at.own actuals in
      let code = actual_at (globals_of at) at.own a actual in
      let others = actuals_at (globals_of at) at.own (a + n) actuals in
      let front = placed.has_front at.code a code others stands in
      let back = placed.has_back at.code a n code others (actual_length a actual) stands in
      then_evaluates placed at store turns n m (n + m) a temps (λ held. IsHanded s held) (λ held. temps ++ held_words (all_of at) held)
      (λ handed. FitsHanded (all_of at) (s ∷ parameters) handed) (λ handed. temps ++ position_words (all_of at) handed)
      (handed store actual) (λ first. ◌>>=◌ (all_handed store actuals) (λ rest. Given (first ∷ rest))) refl
      (actual_runs actual s a temps fine.0 front (omega (arith, room)))
      (λ first fitting.
      made_of placed at store turns (λ rest. first ∷ rest) m (a + n) (temps ++ held_words (all_of at) first)
      (λ rest. FitsHanded (all_of at) parameters rest) (λ rest. (temps ++ held_words (all_of at) first) ++ position_words (all_of at) rest)
      (λ handed. FitsHanded (all_of at) (s ∷ parameters) handed) (λ handed. temps ++ position_words (all_of at) handed) (all_handed store actuals)
      (λ rest also. ((fitting.0, also), append_assoc temps (held_words (all_of at) first) (position_words (all_of at) rest)))
      (actuals_run actuals parameters (a + n) (temps ++ held_words (all_of at) first) fine.1 back
      (omega (arith, room, fitting.1, length-append temps (held_words (all_of at) first)))))
    where
      actual_length : (a : ℕ) (actual : Actual) → length (actual_at (globals_of at) at.own a actual) ≡ actual_size at.own actual
      actual_length a (ByValue e) = placed.lengths.expression (globals_of at) at.own a e
      actual_length a (ByPlace d) = placed.lengths.designator (globals_of at) at.own a d

-- all that evaluation owes, of memory and placing as they are
pub evaluation_runs : MemoryHolds → CodePlaced → EvaluationRuns
evaluation_runs memory placed = record {
  value_runs = λ at e t store turns a temps fits fine stands room. value_runs memory placed at store turns fits e t a temps fine stands room;
  operations_run = λ at rest t first store turns a temps fits typed fine stands room. operations_run memory placed at store turns fits rest t first a temps typed fine stands room;
  place_runs = λ at d type store turns a temps fits fine stands room. place_runs memory placed at store turns fits d type a temps fine stands room;
  selectors_run = λ at selectors place from to store turns a temps fits is fine stands room. selectors_run memory placed at store turns fits selectors place from to a temps is fine stands room;
  actuals_run = λ at actuals parameters store turns a temps fits fine stands room. actuals_run memory placed at store turns fits actuals parameters a temps fine stands room;
}
