-- The words that a plain body's code holds above the frame, and the words of types within the limits.
use Rattle.std.proofs.Common.{◌≡◌, ℕ, suc, ◌+◌, ◌*◌, ◌≤◌, List, [], ◌∷◌, length, Some, refl, ap, arith}
use Rattle.std.specs.Prelude.{slice_get, nat_le}
use Rattle.std.proofs.Math.Nat.{mul-le-mul_left, mul-le-mul_right}
use Rattle.std.proofs.lemmas.Bool.{and_parts, leb-true}
use Rattle.ob_typing.specs.Program.{DataType, Simple, Array, Record, Fields, no_field, field, Actual, Statement, Assign, Call, If, While, Repeat, Statements, no_statement, statement, Branches, no_branch, otherwise, branch, Parameter, Procedure}
use Rattle.ob_typing.specs.Scopes as Scopes
use Rattle.ob_meaning.specs.Resolved as Resolved
use Rattle.ob_code_scheme.specs.Types.{words, words_of_fields}
use Rattle.ob_code_scheme.specs.Temporaries.{statement_temporaries, statements_temporaries, branches_temporaries}
use Rattle.ob_code_scheme.specs.WellFormed.{IsSmall, AreSmall}
use Rattle.ob_code_correct.proofs.Plain.{IsPlainStatement, ArePlainStatements, ArePlainBranches, IsBuilt, AreBuilt}
use Rattle.ob_code_correct.proofs.Names.{IsFineType}

-- ---- temporaries: at most 8 actuals of a call

module _ (outer own : List Parameter) (procedures : List Procedure) (few : (n : ℕ) (p : Procedure) → slice_get procedures n ≡ Some p → length p.parameters ≤ 8) where
  as_many : (ps : List Parameter) (given : List Actual) → Resolved.Fit outer own ps given → length given ≡ length ps
  as_many [] [] h = refl
  as_many [] (a ∷ given) h = absurd h
  as_many (p ∷ ps) [] h = absurd h
  as_many (p ∷ ps) (a ∷ given) h = ap suc (as_many ps given h.1)

  module _ (bound : ℕ) where
    mutual
      one_held : (s : Statement) → IsPlainStatement bound s → Resolved.IsGood outer own procedures s → statement_temporaries s ≤ bound + 7
      one_held (Assign target e) p h = omega (arith, p.2, p.3)
      one_held (Call number given) p h =
          let limit = few number h.0 h.1.0 in
          let count = as_many h.0.parameters given h.1.1 in
          omega (arith, p.1, limit, count)
      one_held (If branches) p h = branches_held branches p h
      one_held (While condition body) p h = let x = statements_held body p.2 h.1 in omega (arith, p.1, x)
      one_held (Repeat body condition) p h = let x = statements_held body p.0 h.0 in omega (arith, p.2, x)

      pub statements_held : (ss : Statements) → ArePlainStatements bound ss → Resolved.AreGood outer own procedures ss → statements_temporaries ss ≤ bound + 7
      statements_held no_statement p h = omega arith
      statements_held (statement first rest) p h =
          let x = one_held first p.0 h.0 in
          let y = statements_held rest p.1 h.1 in
          omega (arith, x, y)

      branches_held : (bs : Branches) → ArePlainBranches bound bs → Resolved.AreGoodBranches outer own procedures bs → branches_temporaries bs ≤ bound + 7
      branches_held no_branch p h = omega arith
      branches_held (otherwise ss) p h = statements_held ss p h
      branches_held (branch condition ss rest) p h =
          let x = statements_held ss p.2 h.1.0 in
          let y = branches_held rest p.3 h.1.1 in
          omega (arith, p.1, x, y)

-- ---- words of types: in all limits a record without fields counts as one

mutual
  pub fewer_words : (t : DataType) → words t ≤ Scopes.words t
  fewer_words (Simple type) = omega arith
  fewer_words (Array place n element) = mul-le-mul_left n (fewer_words element)
  fewer_words (Record place fields) = let h = fewer_in_fields fields in omega (arith, h)

  fewer_in_fields : (fs : Fields) → words_of_fields fs ≤ Scopes.words_of_fields fs
  fewer_in_fields no_field = omega arith
  fewer_in_fields (field name type rest) =
      let h = fewer_words type in
      let k = fewer_in_fields rest in
      omega (arith, h, k)

one_at_least : (n w : ℕ) → 1 ≤ n → 1 ≤ w → 1 ≤ n * w
one_at_least n w h k = let e = mul-le-mul_left n k in omega (arith, h, e)

some_words : (t : DataType) → IsBuilt t → 1 ≤ Scopes.words t
some_words (Simple type) h = omega arith
some_words (Array place n element) h = one_at_least n (Scopes.words element) h.0 (some_words element h.1)
some_words (Record place fields) h = omega arith

mutual
  small : (t : DataType) → IsBuilt t → Scopes.words t ≤ 4096 → IsSmall t
  small (Simple type) h le = tt
  small (Array place n element) h le =
      let some = some_words element h.1 in
      let fewer = fewer_words element in
      let long = mul-le-mul_left n some in
      let wide = mul-le-mul_right (Scopes.words element) h.0 in
      let each : Scopes.words element ≤ 4096 = omega (arith, wide, le) in
      (omega (arith, long, le), omega (arith, fewer, each), small element h.1 each)
  small (Record place fields) h le =
      let fewer = fewer_in_fields fields in
      (omega (arith, fewer, le), small_fields fields h (omega (arith, le)))

  small_fields : (fs : Fields) → AreBuilt fs → Scopes.words_of_fields fs ≤ 4096 → AreSmall fs
  small_fields no_field h le = tt
  small_fields (field name type rest) h le = (small type h.0 (omega (arith, le)), small_fields rest h.1 (omega (arith, le)))

pub small_type : (t : DataType) → IsFineType t → IsSmall t
small_type t h =
    small t h.0 (leb-true (Scopes.words t) 4096 (and_parts (nat_le (Scopes.words t) 4096) (nat_le (Scopes.depth t) 100) h.1).0)
