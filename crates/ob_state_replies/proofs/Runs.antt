-- What runs of bodies that keep the rule come to: one reply, whatever the arguments are.
use Rattle.std.proofs.Common.{◌≡◌, refl, ap, sym, ◌∙◌, ℕ, zero, suc, ◌-◌, Bool, true, false, List, [], ◌∷◌, ◌++◌, map, if◌then◌else◌, Option, Some, inl, inr}
use Rattle.std.specs.Prelude.{slice_get}
use Rattle.std.proofs.lemmas.Option.{same_Some}
use Rattle.ob_interface.specs.declared.scalar.Scalar.{Scalar}
use Rattle.ob_interface.specs.Call.{Answers}
use Rattle.ob_typing.specs.Program.{OfModule, Designated, Expression, Literal, ValueOf, Statement, Assign, Statements, no_statement, statement, Parameter, Procedure, Program, exports}
use Rattle.ob_typing.specs.Arithmetic.{Evaluated, Gives}
use Rattle.ob_meaning.specs.ByNameObject.{most_activations, first_argument, other_arguments, results_position}
use Rattle.ob_meaning.specs.ByPositionValue.{Single, scalar_of}
use Rattle.ob_meaning.specs.ByPositionStore.{Place, Held, Holds, Refers, Activation, Store, held_at, place_held, place_owned, further_in, value_at, with_held, stored}
use Rattle.ob_meaning.specs.ByPositionEvaluation.{value_of, place_of}
use Rattle.ob_meaning.specs.ByPositionStatements.{Outcome, Done, Calls, after, then_run, meaning, meaning_of_all, activation_of, calls}
use Rattle.ob_meaning.specs.ByPositionObject.{effect, effect_of, effect_of_procedure, results_begun, outside_handed, values_of_results}
use Rattle.ob_state_replies.specs.AnswersAndNotes.{IsWhole, IsOfModule, IsPlain, IsAnswer, IsNote, AnswersThenNotes, KeepsTheRule}
use Rattle.ob_state_replies.specs.StateReplies.{IsOfState}

-- a place of the results
abbrev result_at : ℕ → Place
result_at j = record { activation = results_position; position = j; path = [] }

-- the value of a literal or a variable
plain_value : (store : Store) (e : Expression) → IsPlain IsWhole e → (v : Scalar) × (value_of store e ≡ Gives v)
plain_value store (Literal s) h = (s, refl)
plain_value store (ValueOf type (Designated slot selectors)) h =
    (scalar_of (value_at store (further_in (place_owned slot.owner store slot.position) [])), ap (λ ss. value_of store (ValueOf type (Designated slot ss))) h)
plain_value store _ h = absurd h

-- where the variable is of the module, it is of the state alone
state_value : (m : Activation) (e : Expression) → IsPlain IsOfModule e → (v : Scalar) × ((behind : Store) → value_of (m ∷ behind) e ≡ Gives v)
state_value m (Literal s) h = (s, λ behind. refl)
state_value m (ValueOf type (Designated slot selectors)) h = (
  scalar_of (value_at (m ∷ []) (further_in (place_owned OfModule (m ∷ []) slot.position) [])),
  λ behind.
      ap (λ ss. value_of (m ∷ behind) (ValueOf type (Designated slot ss))) h.1
      ∙ ap (λ o. Gives (scalar_of (value_at (m ∷ behind) (further_in (place_owned o (m ∷ behind) slot.position) [])))) h.0,
)
state_value m _ h = absurd h

module _ (call : Calls) where
  -- an assignment of a value that is known to a place that is known
  assigned : (turns : ℕ) (store : Store) (target : _) (e : Expression) (place : Place) (v : Scalar) → place_of store target ≡ Gives place → value_of store e ≡ Gives v →
      meaning call (Assign target e) turns store ≡ Done turns (stored store place (Single v))
  assigned turns store target e place v there is =
      ap (λ (p : Evaluated Place). after p (λ q. after (value_of store e) (λ w. Done turns (stored store q (Single w))))) there
      ∙ ap (λ (x : Evaluated Scalar). after x (λ w. Done turns (stored store place (Single w)))) is

  -- a note changes the module's variables alone
  note_run : (turns : ℕ) (m : Activation) (behind : Store) (s : Statement) → IsNote s → (n : Activation) × (meaning call s turns (m ∷ behind) ≡ Done turns (n ∷ behind))
  note_run turns m behind (Assign (Designated slot selectors) e) h =
      let store : Store = m ∷ behind in
      let v = plain_value store e h.1 in
      let place : Place = record { activation = 0; position = slot.position; path = [] } in (
        with_held m slot.position [] (Single v.0),
        assigned turns store (Designated slot selectors) e place v.0
            (ap (λ ss. place_of store (Designated slot ss)) h.0.1 ∙ ap (λ o. Gives (further_in (place_owned o store slot.position) [])) h.0.0) v.1,
      )
  note_run turns m behind _ h = absurd h

  module _ (modes : List Bool) where
    notes_run : (turns : ℕ) (m : Activation) (behind : Store) (ss : Statements) → AnswersThenNotes modes false ss →
        (n : Activation) × (meaning_of_all call ss turns (m ∷ behind) ≡ Done turns (n ∷ behind))
    notes_run turns m behind no_statement h = (m, refl)
    notes_run turns m behind (statement first rest) h =
        elim h [
          | inl answer ↦ absurd (let no = answer.0 in cc)
          | inr note ↦
              let one = note_run turns m behind first note.0 in
              let more = notes_run turns one.0 behind rest note.1 in
              (more.0, ap (λ (o : Outcome). then_run o (meaning_of_all call rest)) one.1 ∙ more.1)
        ]

    -- activations, one for each list of arguments, whose VAR parameters stand for the same places
    module _ (act : List Scalar → Activation) (refer : (k : ℕ) → slice_get modes k ≡ Some true → (j : ℕ) × ((arguments : List Scalar) → held_at (act arguments) k ≡ Refers (result_at j))) where
      -- an answer changes the results alone, the same way for all arguments
      answer_run : (m r : Activation) (s : Statement) → IsAnswer modes s →
          (q : Activation) × ((turns : ℕ) (arguments : List Scalar) → meaning call s turns (m ∷ r ∷ act arguments ∷ []) ≡ Done turns (m ∷ q ∷ act arguments ∷ []))
      answer_run m r (Assign (Designated slot selectors) e) h =
          let v = state_value m e h.1 in
          let place = refer slot.position h.0.1 in (
            with_held r place.0 [] (Single v.0),
            λ turns arguments.
                let store : Store = m ∷ r ∷ act arguments ∷ [] in
                assigned turns store (Designated slot selectors) e (result_at place.0) v.0
                (ap (λ ss. place_of store (Designated slot ss)) h.0.2
                ∙ ap (λ o. Gives (further_in (place_owned o store slot.position) [])) h.0.0
                ∙ ap (λ x. Gives (further_in (place_held x 2 slot.position) [])) (place.1 arguments))
                (v.1 (r ∷ act arguments ∷ [])),
          )
      answer_run m r _ h = absurd h

      body_run : (m r : Activation) (ss : Statements) → AnswersThenNotes modes true ss →
          (q : Activation) × ((turns : ℕ) (arguments : List Scalar) → (n : Activation) × (meaning_of_all call ss turns (m ∷ r ∷ act arguments ∷ []) ≡ Done turns (n ∷ q ∷ act arguments ∷ [])))
      body_run m r no_statement h = (r, λ turns arguments. (m, refl))
      body_run m r (statement first rest) h =
          elim h [
            | inl answer ↦
                let one = answer_run m r first answer.1 in
                let more = body_run m one.0 rest answer.2 in (
                  more.0,
                  λ turns arguments.
                      let later = more.1 turns arguments in
                      (later.0, ap (λ (o : Outcome). then_run o (meaning_of_all call rest)) (one.1 turns arguments) ∙ later.1),
                )
            | inr note ↦ (r, λ turns arguments. notes_run turns m (r ∷ act arguments ∷ []) (statement first rest) (inr note))
          ]

-- what comes behind one parameter more
one_behind : (b : Bool) (k : ℕ) (x y : List Scalar → Held) (xs ys : List Scalar → Activation) →
    (j : ℕ) × ((arguments : List Scalar) (rest : Activation) → held_at (xs arguments ++ rest) k ≡ Refers (result_at j)) →
    (j : ℕ) × ((arguments : List Scalar) (rest : Activation) → held_at (ys arguments ++ rest) k ≡ Refers (result_at j)) →
    (j : ℕ) × ((arguments : List Scalar) (rest : Activation) → held_at ((if b then x arguments ∷ xs arguments else y arguments ∷ ys arguments) ++ rest) (suc k) ≡ Refers (result_at j))
one_behind true k x y xs ys h g = h
one_behind false k x y xs ys h g = g

-- what a VAR parameter of a call from outside stands for depends on no argument
refers_at : (ps : List Parameter) (n k : ℕ) → slice_get (map (λ p. p.is_var) ps) k ≡ Some true →
    (j : ℕ) × ((arguments : List Scalar) (rest : Activation) → held_at (outside_handed n ps arguments ++ rest) k ≡ Refers (result_at j))
refers_at [] n k at = absurd cc
refers_at (p ∷ ps) n zero at = (
  n,
  λ arguments rest.
      ap
      (λ (b : Bool). held_at
      ((if b then Refers (result_at n) ∷ outside_handed (suc n) ps arguments else Holds (Single (first_argument arguments)) ∷ outside_handed n ps (other_arguments arguments)) ++ rest) 0)
      (same_Some p.is_var true at),
)
refers_at (p ∷ ps) n (suc k) at =
    let behind = refers_at ps n k at in
    one_behind p.is_var k (λ arguments. Refers (result_at n)) (λ arguments. Holds (Single (first_argument arguments))) (outside_handed (suc n) ps)
    (λ arguments. outside_handed n ps (other_arguments arguments)) (refers_at ps (suc n) k at)
    (behind.0, λ arguments. behind.1 (other_arguments arguments))

-- an export whose body keeps the rule replies of the state
pub rule_replies : (program : Program) (export : ℕ) (p : Procedure) → slice_get (exports program) export ≡ Some p → KeepsTheRule p → IsOfState program export
rule_replies program export p here rule budget arguments others state =
    let act : List Scalar → Activation = λ given. activation_of p (outside_handed 0 p.parameters given) in
    let run = body_run (calls program (most_activations - 1)) (map (λ q. q.is_var) p.parameters) act
    (λ k at. let j = refers_at p.parameters 0 k at in (j.0, λ given. j.1 given _)) state (results_begun p.parameters) p.body rule in
    let is : (given : List Scalar) → (effect program (record { export = export; arguments = given }) budget state).reply ≡ Answers (values_of_results run.0) = λ given.
    ap (λ (o : Option Procedure). (effect_of_procedure program o given budget state).reply) here
    ∙ ap (λ (o : Outcome). (effect_of state o).reply) (run.1 budget given).1 in
    is arguments ∙ sym (is others)
