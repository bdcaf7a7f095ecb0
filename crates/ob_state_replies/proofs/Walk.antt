-- What is told on the way through a body, and of its parts.
use Rattle.std.proofs.Common.{◌≡◌, ℕ, ◌+◌, ◌<◌, ◌≤◌, ◌∙◌, Bool, true, false, List, ◌∷◌, drop, length, get_or, sym, subst, ap, inl, inr}
use Rattle.std.proofs.lemmas.List.{drop_more, drop_all}
use Rattle.ob_interface.specs.declared.scalar.ScalarType.{ScalarType}
use Rattle.ob_typing.specs.Program as Program
use Rattle.ob_checked.specs.declared.program.Designator.{Designator}
use Rattle.ob_checked.specs.declared.program.Expression.{Expression}
use Rattle.ob_checked.specs.declared.program.Expression.TheVariants as Expressions
use Rattle.ob_checked.specs.declared.program.Statement.{Statement}
use Rattle.ob_checked.specs.View.{designator_of, expression_of, statement_of, statements_in}
use Rattle.ob_checked.proofs.Rows.{expression_of-value}
use Rattle.ob_state_replies.specs.AnswersAndNotes.{AnswersThenNotes, IsAnswer, IsNote, IsPlain}

-- where what is left keeps the rule, all does
abbrev pub GoesOn : List Bool → List Statement → ℕ → Bool → Type 0
GoesOn modes xs i may_answer = AnswersThenNotes modes may_answer (statements_in (drop i xs)) → AnswersThenNotes modes true (statements_in xs)

module _ (modes : List Bool) (xs : List Statement) (i : ℕ) (x : Statement) (within : i < length xs) (is : x ≡ get_or xs i x) where
  next : (b : Bool) → AnswersThenNotes modes b (statements_in (x ∷ drop (i + 1) xs)) → AnswersThenNotes modes b (statements_in (drop i xs))
  next b h =
      subst (λ (ys : List Statement). AnswersThenNotes modes b (statements_in ys)) (sym (drop_more xs i x within ∙ ap (λ (y : Statement). y ∷ drop (i + 1) xs) (sym is))) h

  pub behind_answer : (b : Bool) → b ≡ true → IsAnswer modes (statement_of x) → GoesOn modes xs i b → GoesOn modes xs (i + 1) true
  behind_answer b may answer so_far rest = so_far (next b (inl (may, answer, rest)))

  pub behind_note : (b : Bool) → IsNote (statement_of x) → GoesOn modes xs i b → GoesOn modes xs (i + 1) false
  behind_note b note so_far rest = so_far (next b (inr (note, rest)))

pub at_end : (modes : List Bool) (xs : List Statement) (i : ℕ) (b : Bool) → length xs ≤ i → GoesOn modes xs i b → AnswersThenNotes modes true (statements_in xs)
at_end modes xs i b past so_far = so_far (subst (λ (ys : List Statement). AnswersThenNotes modes b (statements_in ys)) (sym (drop_all i xs past)) tt)

-- the value of a variable
pub plain_of : (Fits : Program.Designator → Type 0) (e : Expression) (type : ScalarType) (d : Designator) → e ≡ Expressions.ValueOf type d → Fits (designator_of d) →
    IsPlain Fits (expression_of e)
plain_of Fits e type d is fits = subst (IsPlain Fits) (sym (ap expression_of is ∙ expression_of-value type d)) fits
