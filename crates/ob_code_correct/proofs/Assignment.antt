-- An assignment: the target's place, the value, PUT.
use Rattle.std.proofs.Common.{◌≡◌, ℕ, ◌+◌, ◌<◌, ℤ, pos, List, [], ◌∷◌, ◌++◌, length, drop, set, Some, Option, sym, ap, ◌∙◌, subst, append-nil, append_assoc, arith}
use Rattle.std.specs.Prelude.{slice_get}
use Rattle.ob_interface.specs.declared.scalar.Scalar.{Scalar}
use Rattle.ob_interface.specs.declared.scalar.ScalarType.{ScalarType}
use Rattle.ob_typing.specs.Program.{Simple, Expression, Designator, Assign}
use Rattle.ob_meaning.specs.ByPositionValue.{Single}
use Rattle.ob_meaning.specs.ByPositionStore.{Place, Store, activation_at, stored}
use Rattle.ob_meaning.specs.ByPositionEvaluation.{value_of, place_of}
use Rattle.ob_meaning.specs.ByPositionStatements.{Calls, Done, after, meaning}
use Rattle.ob_code_scheme.specs.Types.{address, IsScalarOf, IsPlace, Fits}
use Rattle.ob_code_scheme.specs.Temporaries.{statement_temporaries}
use Rattle.ob_code_scheme.specs.WellFormed.{Designates, IsOf}
use Rattle.ob_code_scheme.specs.Layout.{word}
use Rattle.ob_code_words.specs.declared.instr.Instr.{Instr}
use Rattle.ob_code_words.specs.declared.instr.Instr.TheVariants as Instrs
use Rattle.ob_code_words.specs.Words.{Made, ◌>>=◌}
use Rattle.ob_code_words.specs.Effect.{popped, put_at}
use Rattle.ob_code_words.specs.Effect as Effects
use Rattle.ob_code_machine.specs.Machine.{Unfinished, made_then, goes_on, act_at, turn}
use Rattle.ob_code_scheme.specs.Scheme.{size, designator_size, statement_size, entry_of, code_at, designator_at, statement_at, HasAt}
use Rattle.ob_code_scheme.specs.Image.{position_words, store_words}
use Rattle.ob_code_scheme.specs.Running.{Setting, globals_of, scopes_of, all_of, reserve_of, here, HasRoom}
use Rattle.ob_code_correct.proofs.StatementsOwed.{Owed}
use Rattle.ob_code_correct.proofs.Steps.{popped_push}
use Rattle.ob_code_correct.proofs.StatementsGlue.{RunsIn, after_runs}

-- an address and a word on top: the word is put there
pub stored_top : (block s : List ℤ) (a w : ℤ) → Effects.stored block (s ++ a ∷ w ∷ []) ≡ put_at block (s ++ []) a w
stored_top block s a w =
    let same : s ++ a ∷ w ∷ [] ≡ ((s ++ []) ++ a ∷ []) ++ w ∷ [] = ap (λ (l : List ℤ). l ++ a ∷ w ∷ []) (sym (append-nil s)) ∙ sym (append_assoc (s ++ []) (a ∷ []) (w ∷ [])) in
    ap (Effects.stored block) same
    ∙ ap (λ (p : Made (ℤ × List ℤ)). p >>= (λ (y : ℤ × List ℤ). popped y.1 >>= (λ (x : ℤ × List ℤ). put_at block x.1 x.0 y.0))) (popped_push ((s ++ []) ++ a ∷ []) w)
    ∙ ap (λ (p : Made (ℤ × List ℤ)). p >>= (λ (x : ℤ × List ℤ). put_at block x.1 x.0 w)) (popped_push (s ++ []) a)

module _ (owed : Owed) (at : Setting) (store : Store) (fits : Fits (all_of at) store) where
  abbrev block_of : Store → List ℤ
  block_of s = position_words (all_of at) (activation_at s 0)

  abbrev stack_of : Store → List ℤ
  stack_of s = store_words (all_of at) (drop 1 s)

  -- PUT: the store with the value
  put_turn : (place : Place) (t : ScalarType) (s : Scalar) (n pc : ℕ) → IsPlace (all_of at) place (Simple t) → IsScalarOf t s → slice_get at.code pc ≡ Some Instrs.Put →
      turn at.code (reserve_of at) (here at store n pc (pos (address (all_of at) place) ∷ word s ∷ [])) ≡ Unfinished (here at (stored store place (Single s)) n (pc + 1) [])
  put_turn place t s n pc is_place typed stands =
      let next = stored store place (Single s) in
      let a = address (all_of at) place in
      let w = word s in
      let c = here at store n pc (pos a ∷ w ∷ []) in
      let changed = owed.changes (all_of at) store place t s fits is_place typed in
      let before = owed.lengths (scopes_of at) store fits in
      let behind = owed.lengths (scopes_of at) next changed.fits in
      let below : a < length (block_of store ++ stack_of store) = subst (λ (l : List ℤ). a < length l) before.parts (owed.looks (all_of at) store place t fits is_place).below in
      let long : length (block_of next) ≡ length (block_of store) = behind.block ∙ sym before.block in
      let words : block_of next ++ stack_of next ≡ set (block_of store ++ stack_of store) a w = sym behind.parts ∙ changed.words_are ∙ ap (λ (l : List ℤ). set l a w) before.parts in
      let put = owed.put_at (block_of store) (stack_of store) [] (block_of next) (stack_of next) a w below long words in
      ap (λ (o : Option Instr). act_at (reserve_of at) o c) stands
      ∙ ap (λ (m : Made (List ℤ × List ℤ)). made_then m (goes_on c)) (stored_top (block_of store) (stack_of store) (pos a) w ∙ put)

  -- the whole assignment
  pub assignment_runs : (call : Calls) (target : Designator) (e : Expression) (t : ScalarType) (n a : ℕ) →
      Designates (globals_of at) at.own target (Simple t) → IsOf (globals_of at) at.own e t →
      HasAt at.code a (statement_at (globals_of at) at.own (entry_of at.program.procedures) a (Assign target e)) → HasRoom at [] (statement_temporaries (Assign target e)) →
      RunsIn at (statement_size at.own (Assign target e)) n (here at store n a []) (a + statement_size at.own (Assign target e)) (meaning call (Assign target e) n store)
  assignment_runs call target e t n a designates of has room =
      let first = designator_at (globals_of at) at.own a target in
      let b = a + designator_size at.own target in
      let second = code_at (globals_of at) at.own b e in
      let d = b + size at.own e in
      let end = a + statement_size at.own (Assign target e) in
      let back = owed.has_back at.code a (designator_size at.own target) first (second ++ Instrs.Put ∷ []) (owed.code_lengths.designator (globals_of at) at.own a target) has in
      let put = (owed.has_back at.code b (size at.own e) second (Instrs.Put ∷ []) (owed.code_lengths.expression (globals_of at) at.own b e) back).0 in
      let last : d + 1 ≡ end = omega arith in
      after_runs owed Place at store n (designator_size at.own target) (size at.own e + 1) (statement_size at.own (Assign target e)) a end []
      (λ place. IsPlace (all_of at) place (Simple t)) (λ place. pos (address (all_of at) place) ∷ []) (place_of store target)
      (λ place. after (value_of store e) (λ v. Done n (stored store place (Single v)))) (omega arith)
      (owed.place_runs at target (Simple t) store n a [] fits designates (owed.has_front at.code a first (second ++ Instrs.Put ∷ []) has) (omega (arith, room)))
      (λ place is_place.
      after_runs owed Scalar at store n (size at.own e) 1 (size at.own e + 1) b end (pos (address (all_of at) place) ∷ [])
      (λ v. IsScalarOf t v) (λ v. pos (address (all_of at) place) ∷ word v ∷ []) (value_of store e)
      (λ v. Done n (stored store place (Single v))) (omega arith)
      (owed.value_runs at e t store n b (pos (address (all_of at) place) ∷ []) fits of (owed.has_front at.code b second (Instrs.Put ∷ []) back) (omega (arith, room)))
      (λ v typed.
      let next = stored store place (Single v) in
      let start = here at store n d (pos (address (all_of at) place) ∷ word v ∷ []) in
      subst (λ (pc : ℕ). RunsIn at 1 n start pc (Done n next)) last
      ((owed.runs at.code (reserve_of at) (scopes_of at) at.saved).done n next start 1 (d + 1)
      (owed.changes (all_of at) store place t v fits is_place typed).fits
      ((owed.leads at.code (reserve_of at)).one start (here at next n (d + 1) []) (put_turn place t v n d is_place typed put)))))
