-- The line of how many processes there are, and the openings of variables.
use Rattle.std.proofs.Common.{◌≡◌, ◌↔◌, ◌∙◌, ℕ, ap₂, option_map, List, [], ◌∷◌, IsTrue, Option, Some, None, codes, is_some, length, slice_get, refl, sym, ap, subst}
use Rattle.std.proofs.lemmas.Bool.{false≢true}
use Rattle.std.proofs.lemmas.Option.{same_Some}
use Rattle.ob_meaning.specs.ByPositionValue.{Value}
use Rattle.ob_text_reading.specs.HistoryLines as Lines
use Rattle.ob_text_reading.specs.HistoryLines.{IsAnyCount}
use Rattle.ob_text_reading.specs.Reading.{Heard, Opens}
use Rattle.ob_text_values_reading.specs.Numbers.{FindsProcess}
use Rattle.ob_text_values_reading.specs.declared.kind.Stage.{Stage}
use Rattle.ob_meaning.specs.ByPositionStore.{Activation}
use Rattle.ob_interface.specs.Call.{ObjectCall, Reply}
use Rattle.wf_history.specs.History.{Event}
use Rattle.ob_text_reading.proofs.OneEvent.{other_words}
use Rattle.ob_text_reading.specs.Openings.{IsOpening}
use Rattle.ob_text_reading.specs.RecordLines.{Line}
use Rattle.ob_text_words.specs.Words.{IsDigits, Word}
use Rattle.ob_typing.specs.Program.{Program, Variable}

-- what the line is
record Counted (line : Line) : Type 0 where
  number : Word
  n : ℕ
  is : line ≡ codes "n" ∷ number ∷ []
  digits : IsDigits 9 number n

counted : {line : Line} → IsAnyCount line → Counted line
counted (Lines.count {number = number} {n = n} h) = record { number = number; n = n; is = refl; digits = h }

pub count_found : (ws : List Word) (found : Option ℕ) → FindsProcess ws found → IsTrue (is_some found) ↔ IsAnyCount (codes "n" ∷ ws)
count_found ws None h = (λ t. absurd (false≢true t), λ k. let c = counted k in absurd (h c.number c.n (ap other_words c.is) c.digits))
count_found ws (Some p) h = (λ t. subst (λ (vs : List Word). IsAnyCount (codes "n" ∷ vs)) (sym h.1) (Lines.count h.2), λ k. refl)

-- what is told with other values
pub with_held : (stage : Stage) (budget : Option ℕ) (events : List (Event ObjectCall Reply)) {a b : Activation} → a ≡ b →
    ◌≡◌ {A = Heard} (record { stage = stage; budget = budget; held = a; events = events }) (record { stage = stage; budget = budget; held = b; events = events })
with_held stage budget events e = ap (λ (x : Activation). record { stage = stage; budget = budget; held = x; events = events }) e

-- where the next variable's opening is not said
pub no_opening : (program : Program) (h next : Heard) (line : Line) (v : Variable) → slice_get program.variables (length h.held) ≡ Some v →
    ((w : Value) → IsOpening v line w → ⊥) → Opens program h line next → ⊥
no_opening program h next line v own never o =
    never o.value (subst (λ (x : Variable). IsOpening x line o.value) (same_Some o.variable v (sym o.own ∙ own)) o.says)

-- the variable of a number, where another list and number are the same
pub next_own : {X : Type 0} (vs ws : List Variable) (n m : ℕ) (found : Option X) (f : X → Variable) (x : X) → option_map f found ≡ slice_get ws n → found ≡ Some x → ws ≡ vs → n ≡ m →
    slice_get vs m ≡ Some (f x)
next_own vs ws n m found f x at is same number = ap₂ slice_get (sym same) (sym number) ∙ sym at ∙ ap (option_map f) is
