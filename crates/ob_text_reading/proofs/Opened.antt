-- What is read of the openings of variables, one line after the other.
use Rattle.std.proofs.Common.{◌≡◌, ◌≢◌, ◌∙◌, ℕ, ◌+◌, ◌<◌, ◌≤◌, suc, List, [], ◌∷◌, ◌++◌, Option, Some, None, Result, Ok, Err, IfOk, length, take, drop, get_or, refl, sym, ap, subst, arith, append_assoc, length-append, option_map, add-one, drop-cons}
use Rattle.std.proofs.lemmas.List.{map-append, take-append-drop, take_all, take_more, length-take}
use Rattle.ob_carry.specs.Carried.{Entry}
use Rattle.ob_carry.specs.Values.{IsFitted, IsValueOf}
use Rattle.ob_interface.specs.declared.no_memory.NoMemory.{NoMemory}
use Rattle.ob_meaning.specs.ByPositionStore.{Activation, Holds}
use Rattle.ob_store.specs.View.{value_in, variables_in}
use Rattle.ob_store.specs.declared.value.Value as Stored
use Rattle.ob_text_reading.proofs.OpeningLines.{counted, one_more}
use Rattle.ob_text_reading.specs.Openings as Openings
use Rattle.ob_text_reading.specs.Openings.{AreOpenings, IsOpening, OpensWith, StopsAt}
use Rattle.ob_text_values_reading.proofs.VariableLines.{one_line}
use Rattle.ob_text_values_reading.specs.RecordTexts.{Line}
use Rattle.ob_text_values_reading.specs.Variables.{IsVariableLine}
use Rattle.ob_text_words.specs.Finding.{FindsAs}
use Rattle.ob_typing.specs.Program.{Variable}

-- ---- one line

module _ (variable : Variable) (line : Line) (e : Entry) (says : IsVariableLine 73 line e) where
  pub other_name : e.name ≢ variable.name → (w : _) → IsOpening variable line w → ⊥
  other_name differ w h = differ (ap (λ (x : Entry). x.name) (one_line says h.says) ∙ h.named)

  unfit : (IsValueOf variable.type e.value → ⊥) → (w : _) → IsOpening variable line w → ⊥
  unfit bad w h = bad (subst (λ (x : Entry). IsValueOf variable.type x.value) (one_line h.says says) h.of_type)

  pub fitted_opening : e.name ≡ variable.name → (r : Result (Option Stored.Value) NoMemory) → IfOk r (λ x. IsFitted variable.type e.value (option_map value_in x)) →
      IfOk r (FindsAs value_in (IsOpening variable line))
  fitted_opening named (Ok None) h = unfit h
  fitted_opening named (Ok (Some w)) h = record { entry = e; says = says; named = named; of_type = h.0; same = h.1 }
  fitted_opening named (Err x) h = tt

-- ---- the lines so far

-- the openings of the first variables have been read, and these lines are left
pub record OpenedTo (variables : List Variable) (all left : List Line) (held : Activation) (index number : ℕ) : Type 0 where
  pub before : List Line
  pub parts : all ≡ before ++ left
  pub each : AreOpenings (take index variables) before held
  pub counted : number ≡ index + 3
  pub within : index ≤ length variables

pub none_opened : (variables : List Variable) (all : List Line) (held : Activation) → held ≡ [] → OpenedTo variables all all held 0 3
none_opened variables all held e = rw e (record { before = []; parts = refl; each = Openings.none; counted = refl; within = omega arith })

module _ (variables : List Variable) (all left : List Line) (held : Activation) (index number : ℕ) (o : OpenedTo variables all left held index number) where
  as_many : length o.before ≡ index
  as_many = omega (arith, counted o.each, length-take index variables, o.within)

  pub opened_within : number + 1 ≤ length all + 4
  opened_within = let long = ap length o.parts ∙ length-append o.before left in omega (arith, long, as_many, o.counted)

  module _ (variable : Variable) (below : index < length variables) (at : variable ≡ get_or variables index variable) where
    next_one : take (index + 1) variables ≡ take index variables ++ variable ∷ []
    next_one = take_more variables index variable below ∙ ap (λ x. take index variables ++ x ∷ []) (sym at)

    pub opened_more : (line : Line) (rest : List Line) (next : Activation) (w : _) → left ≡ line ∷ rest → IsOpening variable line w → next ≡ held ++ Holds w ∷ [] →
        OpenedTo variables all rest next (index + 1) (number + 1)
    opened_more line rest next w is h e =
        rw e
        (record {
          before = o.before ++ line ∷ [];
          parts = o.parts ∙ ap (λ ls. o.before ++ ls) is ∙ sym (append_assoc o.before (line ∷ []) rest);
          each = subst (λ (vs : List Variable). AreOpenings vs (o.before ++ line ∷ []) (held ++ Holds w ∷ [])) (sym next_one) (one_more variable line w o.each h);
          counted = omega (arith, o.counted);
          within = omega (arith, below);
        })

    in_order : variables ≡ take index variables ++ variable ∷ drop (index + 1) variables
    in_order =
        sym (take-append-drop index variables)
        ∙ ap (λ vs. take index variables ++ vs) (drop-cons variables index variable below ∙ ap (λ x. x ∷ drop (suc index) variables) (sym at) ∙ ap (λ i. variable ∷ drop i variables) (sym (add-one index)))

    pub stops_here : ((line : Line) (rest : List Line) (w : _) → left ≡ line ∷ rest → IsOpening variable line w → ⊥) → StopsAt variables all (number + 1)
    stops_here stops =
        record {
          first = take index variables;
          variable = variable;
          others = drop (index + 1) variables;
          order = in_order;
          before = o.before;
          left = left;
          held = held;
          parts = o.parts;
          each = o.each;
          counted = omega (arith, as_many, o.counted);
          stops = stops;
        }

    pub no_line_left : left ≡ [] → StopsAt variables all (number + 1)
    no_line_left none = stops_here (λ line rest w is h. nothing line rest (sym none ∙ is))
      where
        nothing : (line : Line) (rest : List Line) → [] ≡ line ∷ rest → ⊥
        nothing line rest e = cc

    pub wrong_line : (line : Line) (rest : List Line) → left ≡ line ∷ rest → ((w : _) → IsOpening variable line w → ⊥) → StopsAt variables all (number + 1)
    wrong_line line rest is bad = stops_here (λ other more w e h. bad w (subst (λ (l : Line). IsOpening variable l w) (first_of (sym e ∙ is)) h))
      where
        first_of : {x y : Line} {xs ys : List Line} → x ∷ xs ≡ y ∷ ys → x ≡ y
        first_of e = cc

  pub all_opened : index ≡ length variables → OpensWith variables all left held
  all_opened e =
      record {
        openings = o.before;
        parts = o.parts;
        each = subst (λ (vs : List Variable). AreOpenings vs o.before held) (take_all index variables (omega (arith, e))) o.each;
      }

-- one value more
pub variables_in-push : (values : List Stored.Value) (w : Stored.Value) (next : List Stored.Value) → next ≡ values ++ w ∷ [] → variables_in next ≡ variables_in values ++ Holds (value_in w) ∷ []
variables_in-push values w next e = ap variables_in e ∙ map-append (λ (v : Stored.Value). Holds (value_in v)) values (w ∷ [])
