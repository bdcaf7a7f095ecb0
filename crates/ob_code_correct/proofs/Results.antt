-- A call from outside: what it hands over, and what its results are.
use Rattle.std.proofs.Common.{◌≡◌, ℕ, zero, suc, ◌+◌, ◌≤◌, Bool, true, false, ℤ, pos, List, [], ◌∷◌, ◌++◌, length, map, refl, ap, ◌∙◌, subst, append_assoc, length-append, All, arith}
use Rattle.std.proofs.lemmas.List.Elements.{All-head, All-tail}
use Rattle.ob_interface.specs.declared.scalar.Scalar.{Scalar}
use Rattle.ob_typing.specs.Program.{DataType, Simple, Name, Parameter}
use Rattle.ob_meaning.specs.ByPositionValue.{Single, Parts, scalar_of}
use Rattle.ob_meaning.specs.ByPositionStore.{Held, Holds, Refers, Activation, value_held}
use Rattle.ob_meaning.specs.ByNameObject.{first_argument, other_arguments}
use Rattle.ob_meaning.specs.ByPositionObject.{outside_handed, values_of_results}
use Rattle.ob_code_scheme.specs.Types.{Space, Holding, Scope, words, extent, word_in, results_scope, parameters_scope, IsValueOf, IsPlaceIn, FitsHeld, FitsActivation}
use Rattle.ob_code_scheme.specs.WellFormed.{IsSimple}
use Rattle.ob_code_scheme.specs.Layout.{word}
use Rattle.ob_code_machine.specs.Body.{result_count, handed}
use Rattle.ob_code_scheme.specs.Image.{held_words, position_words}
use Rattle.ob_code_scheme.specs.Correct.{arguments_of, words_of}
use Rattle.ob_code_scheme.specs.Executing.{IsScalarIn, AreArgumentsOf, AreValuesOf}

abbrev one : Name → Bool → DataType → Parameter
one name is_var type = record { name = name; is_var = is_var; type = type }

abbrev pub IsSimpleParameter : Parameter → Type 0
IsSimpleParameter q = IsSimple q.type

-- ---- the parameters of an export are scalars

simple_word : (type : DataType) → IsSimple type → words type ≡ 1
simple_word (Simple t) h = refl
simple_word (DataType.Array place n element) h = absurd h
simple_word (DataType.Record place fields) h = absurd h

counted_one : (name : Name) (is_var : Bool) (type : DataType) (ps : List Parameter) (arguments : List Scalar) → IsSimple type →
    ((args : List Scalar) → extent (results_scope ps) ≡ result_count (arguments_of ps args)) →
    extent (results_scope (one name is_var type ∷ ps)) ≡ result_count (arguments_of (one name is_var type ∷ ps) arguments)
counted_one name true type ps arguments simple further =
    let here = simple_word type simple in
    let rest = further arguments in
    omega (arith, here, rest)
counted_one name false type ps arguments simple further = further (other_arguments arguments)

-- as many results as VAR parameters, a word each
pub counted : (ps : List Parameter) (arguments : List Scalar) → All IsSimpleParameter ps → extent (results_scope ps) ≡ result_count (arguments_of ps arguments)
counted [] arguments simple = refl
counted (p ∷ ps) arguments simple =
    counted_one p.name p.is_var p.type ps arguments (All-head IsSimpleParameter p ps simple) (λ args. counted ps args (All-tail IsSimpleParameter p ps simple))

few_one : (name : Name) (is_var : Bool) (type : DataType) (ps : List Parameter) (arguments : List Scalar) →
    ((args : List Scalar) → result_count (arguments_of ps args) ≤ length ps) → result_count (arguments_of (one name is_var type ∷ ps) arguments) ≤ suc (length ps)
few_one name true type ps arguments further = let rest = further arguments in omega (arith, rest)
few_one name false type ps arguments further = let rest = further (other_arguments arguments) in omega (arith, rest)

-- no more than parameters
pub few_results : (ps : List Parameter) (arguments : List Scalar) → result_count (arguments_of ps arguments) ≤ length ps
few_results [] arguments = omega arith
few_results (p ∷ ps) arguments = few_one p.name p.is_var p.type ps arguments (few_results ps)

handed_one : (name : Name) (is_var : Bool) (type : DataType) (ps : List Parameter) (arguments : List Scalar) (variables before : ℕ) →
    ((args : List Scalar) (n : ℕ) → length (handed variables n (arguments_of ps args)) ≡ length ps) →
    length (handed variables before (arguments_of (one name is_var type ∷ ps) arguments)) ≡ suc (length ps)
handed_one name true type ps arguments variables before further = ap suc (further arguments (suc before))
handed_one name false type ps arguments variables before further = ap suc (further (other_arguments arguments) before)

-- a word for each parameter
pub handed_length : (ps : List Parameter) (arguments : List Scalar) (variables before : ℕ) → length (handed variables before (arguments_of ps arguments)) ≡ length ps
handed_length [] arguments variables before = refl
handed_length (p ∷ ps) arguments variables before = handed_one p.name p.is_var p.type ps arguments variables before (λ args n. handed_length ps args variables n)

-- ---- what is handed over from outside: where the results are the positions of this scope

place_behind : (front : Scope) (type : DataType) (rest : Scope) (n : ℕ) → length front ≡ n → IsPlaceIn (front ++ Holding type ∷ rest) n [] type
place_behind [] type rest zero e = refl
place_behind [] type rest (suc n) e = absurd (omega (arith, e))
place_behind (s ∷ front) type rest zero e = absurd (omega (arith, e))
place_behind (s ∷ front) type rest (suc n) e = place_behind front type rest n (omega (arith, e))

word_behind : (front : Scope) (type : DataType) (rest : Scope) (n : ℕ) → length front ≡ n → word_in (front ++ Holding type ∷ rest) n ≡ extent front
word_behind [] type rest zero e = refl
word_behind [] type rest (suc n) e = absurd (omega (arith, e))
word_behind (s ∷ front) type rest zero e = absurd (omega (arith, e))
word_behind (s ∷ front) type rest (suc n) e = let further = word_behind front type rest n (omega (arith, e)) in omega (arith, further)

scalar_value : (type : DataType) (s : Scalar) → IsScalarIn type s → IsValueOf type (Single s)
scalar_value (Simple t) s h = h
scalar_value (DataType.Array place n element) s h = absurd h
scalar_value (DataType.Record place fields) s h = absurd h

extent-more : (front : Scope) (s : Space) → extent (front ++ s ∷ []) ≡ extent front + extent (s ∷ [])
extent-more [] s = omega arith
extent-more (t ∷ front) s = let further = extent-more front s in omega (arith, further)

module _ (globals whole own : Scope) where
  abbrev scopes : List Scope
  scopes = globals ∷ whole ∷ own ∷ []

  -- so many results stand before those of these parameters
  abbrev Stand : Scope → ℕ → List Parameter → Type 0
  Stand front n ps = (length front ≡ n) × (extent front ≡ n) × (front ++ results_scope ps ≡ whole)

  -- what is handed over fits the parameters, and its words are those that the machine begins with
  pub record Handed (n : ℕ) (ps : List Parameter) (arguments : List Scalar) : Type 0 where
    pub fits : FitsActivation scopes 2 (parameters_scope ps) (outside_handed n ps arguments)
    pub words_are : position_words scopes (outside_handed n ps arguments) ≡ handed (extent globals) n (arguments_of ps arguments)

  outside_one : (name : Name) (is_var : Bool) (type : DataType) (ps : List Parameter) (arguments : List Scalar) (front : Scope) (n : ℕ) → IsSimple type →
      Stand front n (one name is_var type ∷ ps) → AreArgumentsOf (one name is_var type ∷ ps) arguments →
      ((args : List Scalar) (f : Scope) (m : ℕ) → Stand f m ps → AreArgumentsOf ps args → Handed m ps args) → Handed n (one name is_var type ∷ ps) arguments
  outside_one name true type ps arguments front n simple stand fit further =
      let at_end : IsPlaceIn whole n [] type = subst (λ (s : Scope). IsPlaceIn s n [] type) stand.2 (place_behind front type (results_scope ps) n stand.0) in
      let words_before : word_in whole n ≡ extent front = subst (λ (s : Scope). word_in s n ≡ extent front) stand.2 (word_behind front type (results_scope ps) n stand.0) in
      let address_is : (extent globals + 0) + (word_in whole n + 0) ≡ extent globals + n = omega (arith, words_before, stand.1) in
      let longer : length (front ++ Holding type ∷ []) ≡ suc n = length-append front (Holding type ∷ []) ∙ omega (arith, stand.0) in
      let wider : extent (front ++ Holding type ∷ []) ≡ suc n = let more = extent-more front (Holding type) in let here = simple_word type simple in omega (arith, more, here, stand.1) in
      let rest = further arguments (front ++ Holding type ∷ []) (suc n) (longer, wider, append_assoc front (Holding type ∷ []) (results_scope ps) ∙ stand.2) fit in
      record {
        fits = ((omega arith, at_end), rest.fits);
        words_are =
            ap (λ (a : ℕ). pos a ∷ position_words scopes (outside_handed (suc n) ps arguments)) address_is
            ∙ ap (λ (ws : List ℤ). pos (extent globals + n) ∷ ws) rest.words_are;
      }
  outside_one name false type ps arguments front n simple stand fit further =
      let rest = further (other_arguments arguments) front n stand fit.1 in
      record {
        fits = (scalar_value type (first_argument arguments) fit.0, rest.fits);
        words_are = ap (λ (ws : List ℤ). word (first_argument arguments) ∷ ws) rest.words_are;
      }

  pub outside : (ps : List Parameter) (arguments : List Scalar) (front : Scope) (n : ℕ) → All IsSimpleParameter ps → Stand front n ps → AreArgumentsOf ps arguments → Handed n ps arguments
  outside [] arguments front n simple stand fit = record { fits = tt; words_are = refl }
  outside (p ∷ ps) arguments front n simple stand fit =
      outside_one p.name p.is_var p.type ps arguments front n (All-head IsSimpleParameter p ps simple) stand fit
      (λ args f m s h. outside ps args f m (All-tail IsSimpleParameter p ps simple) s h)

-- ---- what the results are in the end

scalar_held : (all : List Scope) (k : ℕ) (type : DataType) (held : Held) → IsSimple type → FitsHeld all k (Holding type) held →
    (held_words all held ≡ word (scalar_of (value_held held)) ∷ []) × IsScalarIn type (scalar_of (value_held held))
scalar_held all k (Simple t) (Holds (Single s)) simple h = (refl, h)
scalar_held all k (Simple t) (Holds (Parts vs)) simple h = absurd h
scalar_held all k (Simple t) (Refers place) simple h = absurd h
scalar_held all k (DataType.Array place n element) held simple h = absurd simple
scalar_held all k (DataType.Record place fields) held simple h = absurd simple

-- each is a scalar of its type, and their words are those of these scalars
pub results_are : (all : List Scope) (k : ℕ) (qs : List Parameter) (a : Activation) → All IsSimpleParameter qs → FitsActivation all k (map (λ (q : Parameter). Holding q.type) qs) a →
    (position_words all a ≡ words_of (values_of_results a)) × AreValuesOf qs (values_of_results a)
results_are all k [] [] simple h = (refl, tt)
results_are all k [] (x ∷ a) simple h = absurd h
results_are all k (q ∷ qs) [] simple h = absurd h
results_are all k (q ∷ qs) (x ∷ a) simple h =
    let here = scalar_held all k q.type x (All-head IsSimpleParameter q qs simple) h.0 in
    let rest = results_are all k qs a (All-tail IsSimpleParameter q qs simple) h.1 in (
      ap (λ (ws : List ℤ). held_words all x ++ ws) rest.0 ∙ ap (λ (ws : List ℤ). ws ++ words_of (values_of_results a)) here.0,
      (here.1, rest.1),
    )
