-- Without the sites it is the meaning.
use Rattle.std.proofs.Common.{◌≡◌, refl, ap, ◌∙◌, ℕ, zero, suc, Bool, true, false, List, [], ◌∷◌, if◌then◌else◌, Option, Some, None}
use Rattle.std.specs.Prelude.{slice_get}
use Rattle.ob_interface.specs.declared.scalar.Scalar.{Scalar}
use Rattle.ob_typing.specs.declared.operator.BinaryOperator.{BinaryOperator}
use Rattle.ob_typing.specs.Program.{Expression, Literal, ValueOf, Negated, Complement, Computed, Compared, Operations, no_operation, operation, Designator, Designated, Selectors, no_selector, field_of, element_of, Actual, ByValue, ByPlace, Statement, Assign, Call, If, While, Repeat, Statements, no_statement, statement, Branches, no_branch, otherwise, branch, Procedure, Program}
use Rattle.ob_typing.specs.Arithmetic.{Evaluated, Gives, Traps, number_of, computed, decides, negated, complement, compared, truth_of, applied, no_turn_left}
use Rattle.ob_typing.specs.Arithmetic as Arithmetic
use Rattle.ob_meaning.specs.OverStore as Plain
use Rattle.ob_meaning.specs.OverStore.{Stores, Outcome, Done, Trap, within}
use Rattle.ob_trap_places.specs.Site.{Cause, Operating, Negating, Indexing, Turning, here, Sited, Yields, TrapsAt, at, of_part, of_procedure, evaluated, outcome}
use Rattle.ob_trap_places.specs.Site as Site
use Rattle.ob_trap_places.specs.SitesOverStore as Sites

abbrev bind : {A B : Type 0} → Sited A → (A → Sited B) → Sited B
bind = Site.◌>>=◌

abbrev plain_bind : {A B : Type 0} → Evaluated A → (A → Evaluated B) → Evaluated B
plain_bind = Arithmetic.◌>>=◌

binds : {A B : Type 0} (x : Sited A) (y : Evaluated A) (f : A → Sited B) (g : A → Evaluated B) →
    evaluated x ≡ y → ((a : A) → evaluated (f a) ≡ g a) → evaluated (bind x f) ≡ plain_bind y g
binds (Yields a) y f g h k = k a ∙ ap (λ z. plain_bind z g) h
binds (TrapsAt site) y f g h k = ap (λ z. plain_bind z g) h

part_evaluated : {A : Type 0} (part : ℕ) (x : Sited A) → evaluated (of_part part x) ≡ evaluated x
part_evaluated part (Yields a) = refl
part_evaluated part (TrapsAt site) = refl

parts_evaluated : {A : Type 0} (part inner : ℕ) (x : Sited A) → evaluated (of_part part (of_part inner x)) ≡ evaluated x
parts_evaluated part inner x = part_evaluated part (of_part inner x) ∙ part_evaluated inner x

at_evaluated : {A : Type 0} (part : ℕ) (c : Cause) (v : Evaluated A) → evaluated (at part c v) ≡ v
at_evaluated part c (Gives a) = refl
at_evaluated part c (Traps k) = refl

evaluated_if : {A : Type 0} (b : Bool) (x y : Sited A) (v w : Evaluated A) → evaluated x ≡ v → evaluated y ≡ w →
    evaluated (if b then x else y) ≡ (if b then v else w)
evaluated_if true x y v w h k = h
evaluated_if false x y v w h k = k

applied_evaluated : (o : BinaryOperator) (v : Scalar) (right : Sited Scalar) (plain : Evaluated Scalar) → evaluated right ≡ plain →
    evaluated (Sites.applied o v right) ≡ applied o v plain
applied_evaluated o v right plain h =
    evaluated_if (decides o v) (Yields v) (bind (of_part 1 right) (λ w. at 0 (Operating o v w) (computed o v w))) (Gives v) (plain_bind plain (λ w. computed o v w)) refl
    (binds (of_part 1 right) plain (λ w. at 0 (Operating o v w) (computed o v w)) (λ w. computed o v w) (part_evaluated 1 right ∙ h)
    (λ w. at_evaluated 0 (Operating o v w) (computed o v w)))

indexed_evaluated : (length : ℕ) (index : Sited Scalar) (plain : Evaluated Scalar) → evaluated index ≡ plain →
    evaluated (Sites.indexed length index) ≡ plain_bind plain (λ x. within length (number_of x))
indexed_evaluated length index plain h =
    binds (of_part 1 index) plain (λ x. at 0 (Indexing length (number_of x)) (within length (number_of x))) (λ x. within length (number_of x)) (part_evaluated 1 index ∙ h)
    (λ x. at_evaluated 0 (Indexing length (number_of x)) (within length (number_of x)))

-- one step behind another
in_turn : {A B C : Type 0} (v : Evaluated A) (f : A → Evaluated B) (g : B → Evaluated C) → plain_bind (plain_bind v f) g ≡ plain_bind v (λ a. plain_bind (f a) g)
in_turn (Gives a) f g = refl
in_turn (Traps k) f g = refl

module _ (stores : Stores) where
  open stores use {Store, Place, Step, Held}

  module _ (store : Store) where
    mutual
      pub value : (e : Expression) → evaluated (Sites.value_of stores store e) ≡ Plain.value_of stores store e
      value (Literal s) = refl
      value (ValueOf type variable) = binds (Sites.place_of stores store variable) (Plain.place_of stores store variable) _ _ (place variable) (λ p. refl)
      value (Negated e) =
          binds (of_part 1 (Sites.value_of stores store e)) (Plain.value_of stores store e) _ _
          (part_evaluated 1 (Sites.value_of stores store e) ∙ value e) (λ x. at_evaluated 0 (Negating x) (negated x))
      value (Complement e) =
          binds (of_part 1 (Sites.value_of stores store e)) (Plain.value_of stores store e) _ _
          (part_evaluated 1 (Sites.value_of stores store e) ∙ value e) (λ x. refl)
      value (Computed first rest) =
          binds (of_part 0 (Sites.value_of stores store first)) (Plain.value_of stores store first) _ _
          (part_evaluated 0 (Sites.value_of stores store first) ∙ value first) (λ x. behind 1 x rest)
      value (Compared relation left right) =
          binds (of_part 0 (Sites.value_of stores store left)) (Plain.value_of stores store left) _ _
          (part_evaluated 0 (Sites.value_of stores store left) ∙ value left) (λ x.
          binds (of_part 2 (Sites.value_of stores store right)) (Plain.value_of stores store right) _ _
          (part_evaluated 2 (Sites.value_of stores store right) ∙ value right) (λ y. refl))

      behind : (n : ℕ) (x : Scalar) (operations : Operations) →
          evaluated (Sites.value_behind stores store n x operations) ≡ Plain.value_behind stores store x operations
      behind n x no_operation = refl
      behind n x (operation o e rest) =
          binds (of_part n (Sites.applied o x (Sites.value_of stores store e))) (applied o x (Plain.value_of stores store e)) _ _
          (part_evaluated n (Sites.applied o x (Sites.value_of stores store e))
          ∙ applied_evaluated o x (Sites.value_of stores store e) (Plain.value_of stores store e) (value e)) (λ y. behind (suc n) y rest)

      pub place : (d : Designator) → evaluated (Sites.place_of stores store d) ≡ Plain.place_of stores store d
      place (Designated slot selectors) = binds (Sites.path_of stores store 0 selectors) (Plain.path_of stores store selectors) _ _ (path 0 selectors) (λ p. refl)

      pub path : (n : ℕ) (selectors : Selectors) → evaluated (Sites.path_of stores store n selectors) ≡ Plain.path_of stores store selectors
      path n no_selector = refl
      path n (field_of position name rest) = binds (Sites.path_of stores store (suc n) rest) (Plain.path_of stores store rest) _ _ (path (suc n) rest) (λ p. refl)
      path n (element_of length index rest) =
          let further : ℕ → Evaluated (List Step) = λ i. plain_bind (Plain.path_of stores store rest) (λ p. Gives (stores.element_step i ∷ p)) in
          binds (of_part n (Sites.indexed length (Sites.value_of stores store index))) (plain_bind (Plain.value_of stores store index) (λ x. within length (number_of x))) _ further
          (part_evaluated n (Sites.indexed length (Sites.value_of stores store index))
          ∙ indexed_evaluated length (Sites.value_of stores store index) (Plain.value_of stores store index) (value index)) (λ i.
          binds (Sites.path_of stores store (suc n) rest) (Plain.path_of stores store rest) _ _ (path (suc n) rest) (λ p. refl))
          ∙ in_turn (Plain.value_of stores store index) (λ x. within length (number_of x)) further

    handed : (actual : Actual) → evaluated (Sites.handed stores store actual) ≡ Plain.handed stores store actual
    handed (ByValue e) = binds (Sites.value_of stores store e) (Plain.value_of stores store e) _ _ (value e) (λ v. refl)
    handed (ByPlace d) = binds (Sites.place_of stores store d) (Plain.place_of stores store d) _ _ (place d) (λ p. refl)

    all_handed : (n : ℕ) (actuals : List Actual) → evaluated (Sites.all_handed stores store n actuals) ≡ Plain.all_handed stores store actuals
    all_handed n [] = refl
    all_handed n (actual ∷ actuals) =
        binds (of_part n (Sites.handed stores store actual)) (Plain.handed stores store actual) _ _
        (part_evaluated n (Sites.handed stores store actual) ∙ handed actual) (λ first.
        binds (Sites.all_handed stores store (suc n) actuals) (Plain.all_handed stores store actuals) _ _ (all_handed (suc n) actuals) (λ rest. refl))

  -- runs

  afters : {A : Type 0} (x : Sited A) (y : Evaluated A) (f : A → Sited (ℕ × Store)) (g : A → Outcome Store) →
      evaluated x ≡ y → ((a : A) → outcome (f a) ≡ g a) → outcome (bind x f) ≡ Plain.after y g
  afters (Yields a) y f g h k = k a ∙ ap (λ z. Plain.after z g) h
  afters (TrapsAt site) y f g h k = ap (λ z. Plain.after z g) h

  thens : (x : Sited (ℕ × Store)) (y : Outcome Store) (f : Sites.Run stores) (g : Plain.Run stores) →
      outcome x ≡ y → ((t : ℕ) (s : Store) → outcome (f t s) ≡ g t s) → outcome (Sites.then_run stores x f) ≡ Plain.then_run y g
  thens (Yields (t, s)) y f g h k = k t s ∙ ap (λ z. Plain.then_run z g) h
  thens (TrapsAt site) y f g h k = ap (λ z. Plain.then_run z g) h

  turns_left : (f : ℕ → Sited (ℕ × Store)) (g : ℕ → Outcome Store) → ((l : ℕ) → outcome (f l) ≡ g l) → (t : ℕ) →
      outcome (Sites.with_turn f t) ≡ Plain.with_turn g t
  turns_left f g h zero = refl
  turns_left f g h (suc t) = h t

  part_outcome : (part : ℕ) (x : Sited (ℕ × Store)) → outcome (of_part part x) ≡ outcome x
  part_outcome part (Yields (t, s)) = refl
  part_outcome part (TrapsAt site) = refl

  procedure_outcome : (number : ℕ) (x : Sited (ℕ × Store)) → outcome (of_procedure number x) ≡ outcome x
  procedure_outcome number (Yields (t, s)) = refl
  procedure_outcome number (TrapsAt site) = refl

  abbrev Same : Sites.Run stores → Plain.Run stores → Type 0
  Same f g = (t : ℕ) (s : Store) → outcome (f t s) ≡ g t s

  same_if : (b : Bool) (f f' : Sites.Run stores) (g g' : Plain.Run stores) → Same f g → Same f' g' → Same (if b then f else f') (if b then g else g')
  same_if true f f' g g' h k = h
  same_if false f f' g g' h k = k

  same_part : (part : ℕ) (f : Sites.Run stores) (g : Plain.Run stores) → Same f g → Same (Sites.run_part stores part f) g
  same_part part f g h t s = part_outcome part (f t s) ∙ h t s

  done_same : Same (Sites.done stores) Done
  done_same t s = refl

  once_same : (c : Expression) (body again : Sites.Run stores) (plain plain_again : Plain.Run stores) → Same body plain → Same again plain_again →
      Same (Sites.loop_once stores c body again) (Plain.loop_once stores c plain plain_again)
  once_same c body again plain plain_again h k t s =
      afters (of_part 1 (Sites.value_of stores s c)) (Plain.value_of stores s c) _ _ (part_evaluated 1 (Sites.value_of stores s c) ∙ value s c) (λ v.
      same_if (truth_of v) (λ t s. Sites.with_turn (λ l. Sites.then_run stores (of_part 2 (body l s)) again) t) (Sites.done stores)
      (λ t s. Plain.with_turn (λ l. Plain.then_run (plain l s) plain_again) t) Done
      (λ t s. turns_left (λ l. Sites.then_run stores (of_part 2 (body l s)) again) (λ l. Plain.then_run (plain l s) plain_again)
      (λ l. thens (of_part 2 (body l s)) (plain l s) again plain_again (part_outcome 2 (body l s) ∙ h l s) k) t)
      done_same t s)

  loop_same : (n : ℕ) (c : Expression) (body : Sites.Run stores) (plain : Plain.Run stores) → Same body plain → Same (Sites.loop stores n c body) (Plain.loop stores n c plain)
  loop_same zero c body plain h = once_same c body (λ t s. TrapsAt (here 0 no_turn_left Turning)) plain (λ t s. Trap no_turn_left) h (λ t s. refl)
  loop_same (suc n) c body plain h = once_same c body (Sites.loop stores n c body) plain (Plain.loop stores n c plain) h (loop_same n c body plain h)

  -- what comes behind the body of a loop that tests there
  tested : Expression → Sites.Run stores → Sites.Run stores
  tested c again t s = bind (of_part 2 (Sites.value_of stores s c)) (λ v. (if truth_of v then Sites.done stores else again) t s)

  plain_tested : Expression → Plain.Run stores → Plain.Run stores
  plain_tested c again t s = Plain.after (Plain.value_of stores s c) (λ v. (if truth_of v then Done else again) t s)

  tested_same : (c : Expression) (again : Sites.Run stores) (plain_again : Plain.Run stores) → Same again plain_again → Same (tested c again) (plain_tested c plain_again)
  unfolding tested plain_tested
  tested_same c again plain_again k t s =
      afters (of_part 2 (Sites.value_of stores s c)) (Plain.value_of stores s c) _ _ (part_evaluated 2 (Sites.value_of stores s c) ∙ value s c)
      (λ v. same_if (truth_of v) (Sites.done stores) again Done plain_again done_same k t s)

  round_same : (body : Sites.Run stores) (plain : Plain.Run stores) (c : Expression) (again : Sites.Run stores) (plain_again : Plain.Run stores) → Same body plain → Same again plain_again →
      Same (Sites.rounds_once stores body c again) (Plain.rounds_once stores plain c plain_again)
  unfolding tested plain_tested
  round_same body plain c again plain_again h k t s =
      turns_left (λ l. Sites.then_run stores (of_part 1 (body l s)) (tested c again)) (λ l. Plain.then_run (plain l s) (plain_tested c plain_again))
      (λ l. thens (of_part 1 (body l s)) (plain l s) (tested c again) (plain_tested c plain_again) (part_outcome 1 (body l s) ∙ h l s) (tested_same c again plain_again k)) t

  rounds_same : (n : ℕ) (body : Sites.Run stores) (plain : Plain.Run stores) (c : Expression) → Same body plain → Same (Sites.rounds stores n body c) (Plain.rounds stores n plain c)
  rounds_same zero body plain c h t s = refl
  rounds_same (suc n) body plain c h t s =
      round_same body plain c (Sites.rounds stores n body c) (Plain.rounds stores n plain c) h (rounds_same n body plain c h) t s

  module _ (call : Sites.Calls stores) (plain_call : Plain.Calls stores) (same : (n : ℕ) (hs : List Held) → Same (call n hs) (plain_call n hs)) where
    mutual
      statement_same : (st : Statement) → Same (Sites.meaning stores call st) (Plain.meaning stores plain_call st)
      statement_same (Assign target e) t s =
          afters (of_part 0 (Sites.place_of stores s target)) (Plain.place_of stores s target) _ _
          (part_evaluated 0 (Sites.place_of stores s target) ∙ place s target) (λ p.
          afters (of_part 1 (Sites.value_of stores s e)) (Plain.value_of stores s e) _ _
          (part_evaluated 1 (Sites.value_of stores s e) ∙ value s e) (λ v. refl))
      statement_same (Call n actuals) t s =
          afters (Sites.all_handed stores s 1 actuals) (Plain.all_handed stores s actuals) _ _ (all_handed s 1 actuals) (λ hs. same n hs t s)
      statement_same (If branches) t s = branches_same 0 branches t s
      statement_same (While c body) t s =
          loop_same t c (Sites.meaning_of_all stores call 0 body) (Plain.meaning_of_all stores plain_call body) (statements_same 0 body) t s
      statement_same (Repeat body c) t s =
          rounds_same t (Sites.meaning_of_all stores call 0 body) (Plain.meaning_of_all stores plain_call body) c (statements_same 0 body) t s

      pub statements_same : (n : ℕ) (ss : Statements) → Same (Sites.meaning_of_all stores call n ss) (Plain.meaning_of_all stores plain_call ss)
      statements_same n no_statement t s = refl
      statements_same n (statement first rest) t s =
          thens (of_part n (Sites.meaning stores call first t s)) (Plain.meaning stores plain_call first t s)
          (Sites.meaning_of_all stores call (suc n) rest) (Plain.meaning_of_all stores plain_call rest)
          (part_outcome n (Sites.meaning stores call first t s) ∙ statement_same first t s) (statements_same (suc n) rest)

      branches_same : (n : ℕ) (bs : Branches) → Same (Sites.meaning_of_branches stores call n bs) (Plain.meaning_of_branches stores plain_call bs)
      branches_same n no_branch t s = refl
      branches_same n (otherwise ss) t s = same_part n (Sites.meaning_of_all stores call 0 ss) (Plain.meaning_of_all stores plain_call ss) (statements_same 0 ss) t s
      branches_same n (branch c ss rest) t s =
          afters (of_part n (of_part 0 (Sites.value_of stores s c))) (Plain.value_of stores s c) _ _ (parts_evaluated n 0 (Sites.value_of stores s c) ∙ value s c) (λ v.
          same_if (truth_of v) (Sites.run_part stores n (Sites.run_part stores 1 (Sites.meaning_of_all stores call 0 ss))) (Sites.meaning_of_branches stores call (suc n) rest)
          (Plain.meaning_of_all stores plain_call ss) (Plain.meaning_of_branches stores plain_call rest)
          (same_part n (Sites.run_part stores 1 (Sites.meaning_of_all stores call 0 ss)) (Plain.meaning_of_all stores plain_call ss)
          (same_part 1 (Sites.meaning_of_all stores call 0 ss) (Plain.meaning_of_all stores plain_call ss) (statements_same 0 ss)))
          (branches_same (suc n) rest) t s)

    left_outcome : (x : Sited (ℕ × Store)) (y : Outcome Store) → outcome x ≡ y → outcome (Sites.left stores x) ≡ Plain.left stores y
    left_outcome (Yields (t, s)) y h = ap (Plain.left stores) h
    left_outcome (TrapsAt site) y h = ap (Plain.left stores) h

    activated_same : (p : Option Procedure) (hs : List Held) → Same (Sites.activated stores call p hs) (Plain.activated stores plain_call p hs)
    activated_same None hs t s = refl
    activated_same (Some p) hs t s =
        left_outcome (Sites.meaning_of_all stores call 0 p.body t (stores.entered s p hs)) (Plain.meaning_of_all stores plain_call p.body t (stores.entered s p hs))
        (statements_same 0 p.body t (stores.entered s p hs))

  pub calls_same : (program : Program) (more n : ℕ) (hs : List Held) → Same (Sites.calls stores program more n hs) (Plain.calls stores program more n hs)
  calls_same program zero n hs t s = refl
  calls_same program (suc more) n hs t s =
      turns_left (λ l. of_procedure n (Sites.activated stores (Sites.calls stores program more) (slice_get program.procedures n) hs l s))
      (λ l. Plain.activated stores (Plain.calls stores program more) (slice_get program.procedures n) hs l s)
      (λ l. procedure_outcome n (Sites.activated stores (Sites.calls stores program more) (slice_get program.procedures n) hs l s)
      ∙ activated_same (Sites.calls stores program more) (Plain.calls stores program more) (calls_same program more) (slice_get program.procedures n) hs l s) t

  pub body_same : (program : Program) (more : ℕ) (ss : Statements) (t : ℕ) (s : Store) →
      outcome (Sites.meaning_of_all stores (Sites.calls stores program more) 0 ss t s) ≡ Plain.meaning_of_all stores (Plain.calls stores program more) ss t s
  body_same program more ss t s = statements_same (Sites.calls stores program more) (Plain.calls stores program more) (calls_same program more) 0 ss t s
