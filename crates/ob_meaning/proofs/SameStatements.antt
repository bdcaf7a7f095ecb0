-- Statements and calls by position and by name come to the same.
use Rattle.std.proofs.Common.{◌≡◌, refl, ap, sym, subst, ◌∙◌, arith, ℕ, zero, suc, pred, ◌<◌, ◌≤◌, ◌+◌, Bool, true, false, List, [], ◌∷◌, ◌++◌, map, length, take, if◌then◌else◌}
use Rattle.std.specs.Prelude.{slice_get, Some}
use Rattle.std.proofs.lemmas.List.{length-append}
use Rattle.ob_interface.specs.declared.scalar.ScalarType.{ScalarType}
use Rattle.ob_interface.specs.declared.scalar.ScalarType.TheVariants as ScalarTypes
use Rattle.ob_interface.specs.declared.scalar.ScalarType.TheVariants.{Boolean}
use Rattle.ob_typing.specs.Program.{Name, DataType, Simple, Array, Record, Fields, no_field, field, Expression, Statement, Assign, Call, If, While, Repeat, Statements, no_statement, statement, Branches, no_branch, otherwise, branch, Parameter, Variable, Procedure, Program}
use Rattle.ob_typing.specs.Arithmetic.{Evaluated, Gives, Traps, type_of, truth_of, no_turn_left}
use Rattle.ob_meaning.specs.ByNameValue as Named
use Rattle.ob_meaning.specs.ByNameStore as Names
use Rattle.ob_meaning.specs.ByNameEvaluation as Evaluations
use Rattle.ob_meaning.specs.ByNameStatements as Meanings
use Rattle.ob_meaning.specs.ByNameObject as Objects
use Rattle.ob_meaning.specs.ByNameObject.{most_activations}
use Rattle.ob_meaning.specs.ByPositionObject.{opening}
use Rattle.ob_meaning.specs.ByPositionValue.{Value, Single, copies, initial, initial_fields}
use Rattle.ob_meaning.specs.ByPositionStore.{Place, Held, Holds, Refers, Activation, Store, running}
use Rattle.ob_meaning.specs.ByPositionEvaluation as Evaluation
use Rattle.ob_meaning.specs.ByPositionStatements.{Outcome, Done, Trap, Run, Calls, after, then_run, with_turn, loop_once, loop, rounds_once, rounds, meaning, meaning_of_all, meaning_of_branches, begun, activation_of, left, activated, calls}
use Rattle.ob_meaning.specs.Resolved.{as_parameter, scope_of, module_scope, IsAt, AreDistinct, IsOf, IsGood, AreGood, AreGoodBranches, IsProcedure, IsResolved}
use Rattle.ob_meaning.specs.Same.{SameScalar, SameElements, SameValue, SameFields, SamePlace, Scopes, scope_at, SameHeld, SameHanded, SameActivation, SameFrom, SameStore, SameEvaluated, SameOutcome}
use Rattle.ob_meaning.proofs.SameStores.{stored_same, store_length}
use Rattle.ob_meaning.proofs.SameExpressions.{value_same, place_same, all_handed_same}

-- one run: from one store to one outcome
abbrev pub SameRun : Scopes → Meanings.Run → Run → Type 0
SameRun scopes f g = (t : ℕ) (ms : Names.Store) (ss : Store) → SameStore scopes ms ss → SameOutcome scopes (f t ms) (g t ss)

same_after : {A B : Type 0} (scopes : Scopes) (R : A → B → Type 0) (v : Evaluated A) (w : Evaluated B) (f : A → Meanings.Outcome) (g : B → Outcome) →
    SameEvaluated R v w → ((a : A) (b : B) → R a b → SameOutcome scopes (f a) (g b)) → SameOutcome scopes (Meanings.after v f) (after w g)
same_after scopes R (Gives a) (Gives b) f g h k = k a b h
same_after scopes R (Gives a) (Traps n) f g h k = absurd h
same_after scopes R (Traps n) (Gives b) f g h k = absurd h
same_after scopes R (Traps n) (Traps m) f g h k = h

same_then : (scopes : Scopes) (o : Meanings.Outcome) (p : Outcome) (f : Meanings.Run) (g : Run) → SameOutcome scopes o p → SameRun scopes f g →
    SameOutcome scopes (Meanings.then_run o f) (then_run p g)
same_then scopes (Meanings.Done t ms) (Done u ss) f g h k = subst (λ x. SameOutcome scopes (f t ms) (g x ss)) h.0 (k t ms ss h.1)
same_then scopes (Meanings.Done t ms) (Trap n) f g h k = absurd h
same_then scopes (Meanings.Trap n) (Done u ss) f g h k = absurd h
same_then scopes (Meanings.Trap n) (Trap m) f g h k = h

same_turn : (scopes : Scopes) (f : ℕ → Meanings.Outcome) (g : ℕ → Outcome) → ((t : ℕ) → SameOutcome scopes (f t) (g t)) → (t : ℕ) →
    SameOutcome scopes (Meanings.with_turn f t) (with_turn g t)
same_turn scopes f g h zero = refl
same_turn scopes f g h (suc t) = h t

same_if : (scopes : Scopes) (a b : Bool) (f f' : Meanings.Run) (g g' : Run) → a ≡ b → SameRun scopes f g → SameRun scopes f' g' →
    SameRun scopes (if a then f else f') (if b then g else g')
same_if scopes true true f f' g g' e h k = h
same_if scopes true false f f' g g' e h k = absurd cc
same_if scopes false true f f' g g' e h k = absurd cc
same_if scopes false false f f' g g' e h k = k

-- what variables begin as

copies_same : (R : Named.Value → Value → Type 0) (n : ℕ) (v : Named.Value) (w : Value) → R v w → SameElements R n (Named.copies n v) (copies n w)
copies_same R zero v w h = tt
copies_same R (suc n) v w h = (h, copies_same R n v w h)

first_type : (t : ScalarType) → type_of (Named.first_scalar t) ≡ t
first_type ScalarTypes.Integer = refl
first_type ScalarTypes.Boolean = refl

mutual
  pub initial_same : (t : DataType) → SameValue t (Named.initial t) (initial t)
  initial_same (Simple t) = (refl, first_type t)
  initial_same (Array place n element) = copies_same (SameValue element) n (Named.initial element) (initial element) (initial_same element)
  initial_same (Record place fs) = initial_fields_same fs

  initial_fields_same : (fs : Fields) → SameFields fs (Named.initial_fields fs) (initial_fields fs)
  initial_fields_same no_field = tt
  initial_fields_same (field n t rest) = (refl, (initial_same t, initial_fields_same rest))

pub begun_same : (scopes : Scopes) (k : ℕ) (vs : List Variable) → AreDistinct (map as_parameter vs) →
    SameActivation scopes k (map as_parameter vs) (Meanings.begun vs) (begun vs)
begun_same scopes k [] h = tt
begun_same scopes k (v ∷ vs) h = ((refl, h.0), ((refl, initial_same v.type), begun_same scopes k vs h.1))

bound_same : (scopes all : Scopes) (ps : List Parameter) (vs : List Variable) (ms : List Names.Held) (gs : List Held) → AreDistinct (ps ++ map as_parameter vs) →
    ((p : Parameter) (m : Names.Held) (g : Held) → SameHeld scopes (length scopes) p m g → SameHeld all (length scopes) p m g) →
    SameHanded scopes ps ms gs → SameActivation all (length scopes) (ps ++ map as_parameter vs) (Meanings.bound ps ms ++ Meanings.begun vs) (gs ++ begun vs)
bound_same scopes all [] vs [] [] d up h = begun_same all (length scopes) vs d
bound_same scopes all [] vs [] (g ∷ gs) d up h = absurd h
bound_same scopes all [] vs (m ∷ ms) gs d up h = absurd h
bound_same scopes all (p ∷ ps) vs [] gs d up h = absurd h
bound_same scopes all (p ∷ ps) vs (m ∷ ms) [] d up h = absurd h
bound_same scopes all (p ∷ ps) vs (m ∷ ms) (g ∷ gs) d up h = ((refl, d.0), (up p m g h.0, bound_same scopes all ps vs ms gs d.1 up h.1))

-- an activation more, and an activation less

scope_before : (scopes : Scopes) (s : List Parameter) (k : ℕ) → k < length scopes → scope_at (scopes ++ s ∷ []) k ≡ scope_at scopes k
scope_before [] s k h = absurd (omega (arith, h))
scope_before (x ∷ scopes) s zero h = refl
scope_before (x ∷ scopes) s (suc k) h = scope_before scopes s k (omega (arith, h))

scope_last : (scopes : Scopes) (s : List Parameter) → scope_at (scopes ++ s ∷ []) (length scopes) ≡ s
scope_last [] s = refl
scope_last (x ∷ scopes) s = scope_last scopes s

module _ (one other : Scopes) (n : ℕ) (agree : (k : ℕ) → k < n → scope_at one k ≡ scope_at other k) where
  place_moved : (t : DataType) (a : Names.Place) (b : Place) → SamePlace one t a b → b.activation < n → SamePlace other t a b
  place_moved t a b p h =
      record {
        activation = p.activation;
        variable = p.variable;
        there = subst (λ s. IsAt s a.name b.position p.variable) (agree b.activation h) p.there;
        own = p.own;
        path = p.path;
      }

  held_moved : (k : ℕ) → k ≤ n → (p : Parameter) (m : Names.Held) (g : Held) → SameHeld one k p m g → SameHeld other k p m g
  held_moved k le p (Names.Holds v) (Holds w) h = h
  held_moved k le p (Names.Holds v) (Refers b) h = absurd h
  held_moved k le p (Names.Refers a) (Holds w) h = absurd h
  held_moved k le p (Names.Refers a) (Refers b) h =
      let less = h.1.1 in
      (h.0, (place_moved p.type a b h.1.0 (omega (arith, less, le)), less))

  pub activation_moved : (k : ℕ) → k ≤ n → (ps : List Parameter) (bs : Names.Activation) (hs : Activation) → SameActivation one k ps bs hs → SameActivation other k ps bs hs
  activation_moved k le [] [] [] h = tt
  activation_moved k le [] [] (g ∷ hs) h = absurd h
  activation_moved k le [] (b ∷ bs) hs h = absurd h
  activation_moved k le (p ∷ ps) [] hs h = absurd h
  activation_moved k le (p ∷ ps) (b ∷ bs) [] h = absurd h
  activation_moved k le (p ∷ ps) (b ∷ bs) (g ∷ hs) h = (h.0, (held_moved k le p b.held g h.1.0, activation_moved k le ps bs hs h.1.1))

  from_moved : (k : ℕ) (rest : Scopes) (ms : Names.Store) (ss : Store) → k + length rest ≤ suc n → SameFrom one k rest ms ss → SameFrom other k rest ms ss
  from_moved k [] [] [] le h = tt
  from_moved k [] [] (b ∷ ss) le h = absurd h
  from_moved k [] (a ∷ ms) ss le h = absurd h
  from_moved k (s ∷ rest) [] ss le h = absurd h
  from_moved k (s ∷ rest) (a ∷ ms) [] le h = absurd h
  from_moved k (s ∷ rest) (a ∷ ms) (b ∷ ss) le h =
      (activation_moved k (omega (arith, le)) s a b h.0, from_moved (suc k) rest ms ss (omega (arith, le)) h.1)

from_entered : (all : Scopes) (k : ℕ) (rest : Scopes) (ms : Names.Store) (ss : Store) (s : List Parameter) (a : Names.Activation) (b : Activation) (n : ℕ) → n ≡ k + length rest →
    SameFrom all k rest ms ss → SameActivation all n s a b → SameFrom all k (rest ++ s ∷ []) (ms ++ a ∷ []) (ss ++ b ∷ [])
from_entered all k [] [] [] s a b n e h new = let same : n ≡ k = omega (arith, e) in (subst (λ x. SameActivation all x s a b) same new, tt)
from_entered all k [] [] (y ∷ ss) s a b n e h new = absurd h
from_entered all k [] (x ∷ ms) ss s a b n e h new = absurd h
from_entered all k (r ∷ rest) [] ss s a b n e h new = absurd h
from_entered all k (r ∷ rest) (x ∷ ms) [] s a b n e h new = absurd h
from_entered all k (r ∷ rest) (x ∷ ms) (y ∷ ss) s a b n e h new =
    (h.0, from_entered all (suc k) rest ms ss s a b n (omega (arith, e)) h.1 new)

no_store : (all : Scopes) (k : ℕ) (rest : Scopes) (s : List Parameter) (ss : Store) → SameFrom all k (rest ++ s ∷ []) [] ss → ⊥
no_store all k [] s ss h = h
no_store all k (r ∷ rest) s ss h = h

no_named : (all : Scopes) (k : ℕ) (rest : Scopes) (s : List Parameter) (ms : Names.Store) → SameFrom all k (rest ++ s ∷ []) ms [] → ⊥
no_named all k [] s [] h = h
no_named all k [] s (a ∷ ms) h = h
no_named all k (r ∷ rest) s [] h = h
no_named all k (r ∷ rest) s (a ∷ ms) h = h

from_left : (all : Scopes) (k : ℕ) (rest : Scopes) (s : List Parameter) (ms : Names.Store) (ss : Store) → SameFrom all k (rest ++ s ∷ []) ms ss →
    SameFrom all k rest (take (pred (length ms)) ms) (take (pred (length ss)) ss)
from_left all k [] s [] ss h = absurd h
from_left all k [] s (a ∷ ms) [] h = absurd h
from_left all k [] s (a ∷ []) (b ∷ []) h = tt
from_left all k [] s (a ∷ x ∷ ms) (b ∷ ss) h = absurd h.1
from_left all k [] s (a ∷ []) (b ∷ y ∷ ss) h = absurd h.1
from_left all k (r ∷ rest) s [] ss h = absurd h
from_left all k (r ∷ rest) s (a ∷ ms) [] h = absurd h
from_left all k (r ∷ rest) s (a ∷ []) (b ∷ ss) h = absurd (no_store all (suc k) rest s ss h.1)
from_left all k (r ∷ rest) s (a ∷ x ∷ ms) (b ∷ []) h = absurd (no_named all (suc k) rest s (x ∷ ms) h.1)
from_left all k (r ∷ rest) s (a ∷ x ∷ ms) (b ∷ y ∷ ss) h = (h.0, from_left all (suc k) rest s (x ∷ ms) (y ∷ ss) h.1)

pub entered : (scopes : Scopes) (ms : Names.Store) (ss : Store) (p : Procedure) (hs : List Names.Held) (gs : List Held) → AreDistinct (scope_of p) →
    SameStore scopes ms ss → SameHanded scopes p.parameters hs gs →
    SameStore (scopes ++ scope_of p ∷ []) (ms ++ Meanings.activation_of p hs ∷ []) (ss ++ activation_of p gs ∷ [])
entered scopes ms ss p hs gs d h k =
    let s = scope_of p in
    let all = scopes ++ s ∷ [] in
    let agree : (i : ℕ) → i < length scopes → scope_at scopes i ≡ scope_at all i = λ i b. sym (scope_before scopes s i b) in
    from_entered all 0 scopes ms ss s (Meanings.activation_of p hs) (activation_of p gs) (length scopes) (omega arith)
    (from_moved scopes all (length scopes) agree 0 scopes ms ss (omega arith) h)
    (bound_same scopes all p.parameters p.variables hs gs d (held_moved scopes all (length scopes) agree (length scopes) (omega arith)) k)

pub left_same : (scopes : Scopes) (s : List Parameter) (o : Meanings.Outcome) (p : Outcome) → SameOutcome (scopes ++ s ∷ []) o p →
    SameOutcome scopes (Meanings.left o) (left p)
left_same scopes s (Meanings.Done t ms) (Done u ss) h =
    let all = scopes ++ s ∷ [] in
    (h.0, from_moved all scopes (length scopes) (scope_before scopes s) 0 scopes _ _ (omega arith) (from_left all 0 scopes s ms ss h.1))
left_same scopes s (Meanings.Done t ms) (Trap n) h = absurd h
left_same scopes s (Meanings.Trap n) (Done u ss) h = absurd h
left_same scopes s (Meanings.Trap n) (Trap m) h = h

-- statements

abbrev IsPlain : List Parameter → Type 0
IsPlain outer = (name : Name) (i : ℕ) (p : Parameter) → IsAt outer name i p → p.is_var ≡ false

pub variables_plain : (vs : List Variable) → IsPlain (map as_parameter vs)
variables_plain [] name i p at = absurd at
variables_plain (v ∷ vs) name zero p at = ap (λ q. q.is_var) (sym at.1)
variables_plain (v ∷ vs) name (suc i) p at = variables_plain vs name i p at.1

running_last : (scopes : Scopes) (s : List Parameter) (ms : Names.Store) (ss : Store) → SameStore (scopes ++ s ∷ []) ms ss → scope_at (scopes ++ s ∷ []) (running ss) ≡ s
running_last scopes s ms ss h =
    let one : length scopes + 1 ≡ suc (length scopes) = omega arith in
    let n : running ss ≡ length scopes = ap pred (store_length (scopes ++ s ∷ []) ms ss h ∙ length-append scopes (s ∷ []) ∙ one) in
    ap (scope_at (scopes ++ s ∷ [])) n ∙ scope_last scopes s

module _ (program : Program) (good : IsResolved program) (call : Meanings.Calls) (made : Calls) (scopes : Scopes) (own : List Parameter)
    (module_here : scope_at (scopes ++ own ∷ []) 0 ≡ module_scope program)
    (call_same : (n : ℕ) (p : Procedure) (hs : List Names.Held) (gs : List Held) → slice_get program.procedures n ≡ Some p →
    (t : ℕ) (ms : Names.Store) (ss : Store) → SameStore (scopes ++ own ∷ []) ms ss → SameHanded (scopes ++ own ∷ []) p.parameters hs gs →
    SameOutcome (scopes ++ own ∷ []) (call n hs t ms) (made n gs t ss)) where
  abbrev all : Scopes
  all = scopes ++ own ∷ []

  abbrev outer : List Parameter
  outer = module_scope program

  condition_same : (c : Expression) (ms : Names.Store) (ss : Store) → SameStore all ms ss → IsOf outer own c Boolean →
      SameEvaluated (SameScalar Boolean) (Evaluations.value_of ms c) (Evaluation.value_of ss c)
  condition_same c ms ss h k =
      value_same all ms ss h outer own module_here (running_last scopes own ms ss h) (variables_plain program.variables) c Boolean k

  loop_step : (c : Expression) (body again : Meanings.Run) (done repeated : Run) → IsOf outer own c Boolean → SameRun all body done → SameRun all again repeated →
      SameRun all (Meanings.loop_once c body again) (loop_once c done repeated)
  loop_step c body again done repeated k b a t ms ss h =
      same_after all (SameScalar Boolean) (Evaluations.value_of ms c) (Evaluation.value_of ss c) _ _ (condition_same c ms ss h k)
      (λ x y e. same_if all (truth_of x) (truth_of y)
      (λ t s. Meanings.with_turn (λ l. Meanings.then_run (body l s) again) t) Meanings.Done (λ t s. with_turn (λ l. then_run (done l s) repeated) t) Done (ap truth_of e.0)
      (λ t ms ss h. same_turn all (λ l. Meanings.then_run (body l ms) again) (λ l. then_run (done l ss) repeated)
      (λ l. same_then all (body l ms) (done l ss) again repeated (b l ms ss h) a) t)
      (λ t ms ss h. (refl, h)) t ms ss h)

  loop_same : (n : ℕ) (c : Expression) (body : Meanings.Run) (done : Run) → IsOf outer own c Boolean → SameRun all body done →
      SameRun all (Meanings.loop n c body) (loop n c done)
  loop_same zero c body done k b = loop_step c body (λ t s. Meanings.Trap no_turn_left) done (λ t s. Trap no_turn_left) k b (λ t ms ss h. refl)
  loop_same (suc n) c body done k b = loop_step c body (Meanings.loop n c body) done (loop n c done) k b (loop_same n c body done k b)

  -- the test of a loop that tests behind its body
  tested_same : (c : Expression) (again : Meanings.Run) (repeated : Run) → IsOf outer own c Boolean → SameRun all again repeated →
      SameRun all (λ t s. Meanings.after (Evaluations.value_of s c) (λ v. (if truth_of v then Meanings.Done else again) t s))
      (λ t s. after (Evaluation.value_of s c) (λ v. (if truth_of v then Done else repeated) t s))
  tested_same c again repeated k a t ms ss h =
      same_after all (SameScalar Boolean) (Evaluations.value_of ms c) (Evaluation.value_of ss c) _ _ (condition_same c ms ss h k)
      (λ x y e. same_if all (truth_of x) (truth_of y) Meanings.Done again Done repeated (ap truth_of e.0) (λ t ms ss h. (refl, h)) a t ms ss h)

  round_step : (body : Meanings.Run) (c : Expression) (again : Meanings.Run) (done repeated : Run) → SameRun all body done → IsOf outer own c Boolean →
      SameRun all again repeated → SameRun all (Meanings.rounds_once body c again) (rounds_once done c repeated)
  round_step body c again done repeated b k a t ms ss h =
      same_turn all _ _ (λ l. same_then all (body l ms) (done l ss) _ _ (b l ms ss h) (tested_same c again repeated k a)) t

  rounds_same : (n : ℕ) (body : Meanings.Run) (c : Expression) (done : Run) → SameRun all body done → IsOf outer own c Boolean →
      SameRun all (Meanings.rounds n body c) (rounds n done c)
  rounds_same zero body c done b k t ms ss h = refl
  rounds_same (suc n) body c done b k t ms ss h =
      round_step body c (Meanings.rounds n body c) done (rounds n done c) b k (rounds_same n body c done b k) t ms ss h

  mutual
    statement_same : (st : Statement) → IsGood outer own program.procedures st → SameRun all (Meanings.meaning call st) (meaning made st)
    statement_same (Assign target e) k t ms ss h =
        let r = running_last scopes own ms ss h in
        same_after all (SamePlace all (Simple k.0)) (Evaluations.place_of ms target) (Evaluation.place_of ss target) _ _
        (place_same all ms ss h outer own module_here r (variables_plain program.variables) target (Simple k.0) k.1.0)
        (λ a b p. same_after all (SameScalar k.0) (Evaluations.value_of ms e) (Evaluation.value_of ss e) _ _
        (value_same all ms ss h outer own module_here r (variables_plain program.variables) e k.0 k.1.1)
        (λ x y q. (refl, stored_same all ms ss (Simple k.0) a b (Named.Single x) (Single y) h p q)))
    statement_same (Call n actuals) k t ms ss h =
        same_after all (SameHanded all k.0.parameters) (Evaluations.all_handed ms actuals) (Evaluation.all_handed ss actuals) _ _
        (all_handed_same all ms ss h outer own module_here (running_last scopes own ms ss h) (variables_plain program.variables) k.0.parameters actuals k.1.1)
        (λ hs gs q. call_same n k.0 hs gs k.1.0 t ms ss h q)
    statement_same (If branches) k t ms ss h = branches_same branches k t ms ss h
    statement_same (While c body) k t ms ss h =
        loop_same t c (Meanings.meaning_of_all call body) (meaning_of_all made body) k.0 (statements_same body k.1) t ms ss h
    statement_same (Repeat body c) k t ms ss h =
        rounds_same t (Meanings.meaning_of_all call body) c (meaning_of_all made body) (statements_same body k.0) k.1 t ms ss h

    pub statements_same : (sts : Statements) → AreGood outer own program.procedures sts → SameRun all (Meanings.meaning_of_all call sts) (meaning_of_all made sts)
    statements_same no_statement k t ms ss h = (refl, h)
    statements_same (statement first rest) k t ms ss h =
        same_then all (Meanings.meaning call first t ms) (meaning made first t ss) (Meanings.meaning_of_all call rest) (meaning_of_all made rest)
        (statement_same first k.0 t ms ss h) (statements_same rest k.1)

    branches_same : (bs : Branches) → AreGoodBranches outer own program.procedures bs → SameRun all (Meanings.meaning_of_branches call bs) (meaning_of_branches made bs)
    branches_same no_branch k t ms ss h = (refl, h)
    branches_same (otherwise sts) k t ms ss h = statements_same sts k t ms ss h
    branches_same (branch c sts rest) k t ms ss h =
        same_after all (SameScalar Boolean) (Evaluations.value_of ms c) (Evaluation.value_of ss c) _ _ (condition_same c ms ss h k.0)
        (λ x y e. same_if all (truth_of x) (truth_of y) _ _ _ _ (ap truth_of e.0) (statements_same sts k.1.0) (branches_same rest k.1.1) t ms ss h)

-- calls

pub first_of : (scopes : Scopes) (s : List Parameter) (outer : List Parameter) → 0 < length scopes → scope_at scopes 0 ≡ outer → scope_at (scopes ++ s ∷ []) 0 ≡ outer
first_of [] s outer b h = absurd (omega (arith, b))
first_of (x ∷ scopes) s outer b h = h

module _ (program : Program) (good : IsResolved program) where
  activated_same : (call : Meanings.Calls) (made : Calls) (scopes : Scopes) (p : Procedure) (hs : List Names.Held) (gs : List Held) →
      0 < length scopes → scope_at scopes 0 ≡ module_scope program → IsProcedure program p →
      ((n : ℕ) (q : Procedure) (hs : List Names.Held) (gs : List Held) → slice_get program.procedures n ≡ Some q →
      (t : ℕ) (ms : Names.Store) (ss : Store) → SameStore (scopes ++ scope_of p ∷ []) ms ss → SameHanded (scopes ++ scope_of p ∷ []) q.parameters hs gs →
      SameOutcome (scopes ++ scope_of p ∷ []) (call n hs t ms) (made n gs t ss)) →
      (t : ℕ) (ms : Names.Store) (ss : Store) → SameStore scopes ms ss → SameHanded scopes p.parameters hs gs →
      SameOutcome scopes (Meanings.activated call (Some p) hs t ms) (activated made (Some p) gs t ss)
  activated_same call made scopes p hs gs b m k calls_same t ms ss h q =
      left_same scopes (scope_of p) _ _
      (statements_same program good call made scopes (scope_of p) (first_of scopes (scope_of p) (module_scope program) b m) calls_same p.body k.body t _ _
      (entered scopes ms ss p hs gs k.distinct h q))

  pub calls_same : (more : ℕ) (scopes : Scopes) → 0 < length scopes → scope_at scopes 0 ≡ module_scope program →
      (n : ℕ) (p : Procedure) (hs : List Names.Held) (gs : List Held) → slice_get program.procedures n ≡ Some p →
      (t : ℕ) (ms : Names.Store) (ss : Store) → SameStore scopes ms ss → SameHanded scopes p.parameters hs gs →
      SameOutcome scopes (Meanings.calls program more n hs t ms) (calls program more n gs t ss)
  calls_same zero scopes b m n p hs gs is t ms ss h q = refl
  calls_same (suc more) scopes b m n p hs gs is t ms ss h q =
      same_turn scopes
      (λ rest. Meanings.activated (Meanings.calls program more) (slice_get program.procedures n) hs rest ms)
      (λ rest. activated (calls program more) (slice_get program.procedures n) gs rest ss)
      (λ rest. subst (λ o. SameOutcome scopes (Meanings.activated (Meanings.calls program more) o hs rest ms) (activated (calls program more) o gs rest ss)) (sym is)
      (activated_same (Meanings.calls program more) (calls program more) scopes p hs gs b m (good.procedures n p is)
      (calls_same more (scopes ++ scope_of p ∷ []) (let l = length-append scopes (scope_of p ∷ []) in omega (arith, l)) (first_of scopes (scope_of p) (module_scope program) b m))
      rest ms ss h q)) t

-- the opening

pub opening_same : (program : Program) → IsResolved program → (turns : ℕ) →
    SameOutcome (module_scope program ∷ []) (Objects.opening program turns) (opening program turns)
opening_same program good turns =
    let scopes : Scopes = module_scope program ∷ [] in
    let some : 0 < length scopes = omega arith in
    statements_same program good (Meanings.calls program most_activations) (calls program most_activations) [] (module_scope program) refl
    (λ n p hs gs is t ms ss h q. calls_same program good most_activations scopes some refl n p hs gs is t ms ss h q)
    program.body good.body turns (Meanings.begun program.variables ∷ []) (begun program.variables ∷ [])
    (begun_same scopes 0 program.variables good.distinct, tt)
