-- What code makes of scalars is what the call makes of their state.
use Rattle.std.proofs.Common.{◌≡◌, ◌∙◌, ap, refl, sym, subst, ℕ, List, [], ◌∷◌, map, Some, None, arith}
use Rattle.std.specs.Prelude.{Option, IfSome}
use Rattle.std.specs.Coded.{Coded, Coded-set, coded×, coded_list, coded_ℕ}
use Rattle.std.proofs.Math.Logic.{∥∥₁_elim, ∥∥₁_map}
use base.Stored.{coded_via}
use Rattle.ob_code_calls.specs.Led.{IsLed}
use Rattle.ob_code_calls.specs.Parts.{parts_in}
use Rattle.ob_code_calls.specs.Scalars.{IsMadeOf, held_of}
use Rattle.ob_code_calls.specs.declared.scalar_calls.Led.{Led}
use Rattle.ob_code_calls.specs.declared.scalar_calls.Led.TheVariants as Leds
use Rattle.ob_code_calls.specs.declared.scalar_calls.ScalarCalls.{ScalarCalls}
use Rattle.ob_code_correct.specs.CodeMeaning.{EngineParts}
use Rattle.ob_code_correct.specs.Compiled.{parts_of}
use Rattle.ob_code_scheme.specs.WellFormed.{IsWellFormed}
use Rattle.ob_object_search.specs.Code.{HasCode, IsLedSo}
use Rattle.ob_interface.specs.Call.{ObjectCall, Reply, Answers, Trapped}
use Rattle.ob_interface.specs.declared.scalar.Scalar.{Scalar}
use Rattle.ob_object_run.specs.LegalOrder.{CallEnds}
use Rattle.ob_object_search.specs.Laws.{scalar_apart, words_told_apart}
use Rattle.ob_object_search.specs.Words.{word_of, words_of}
use Rattle.ob_meaning.specs.ByPositionObject.{Effect, effect}
use Rattle.ob_meaning.specs.ByPositionStore.{Activation}
use Rattle.ob_typing.specs.Program.{Program}
use Rattle.ob_checked.specs.View.{program_of, table_of, variable_of}
use Rattle.ob_checked.specs.declared.program.Program as Declared
use Rattle.ob_checked.specs.declared.program.Variable as Variables

-- ---- what a call comes to, in numbers, from which it can be read back

abbrev reply_words : Reply → List ℕ
reply_words (Answers values) = 0 ∷ map word_of values
reply_words (Trapped k) = 1 ∷ k ∷ []

scalars_apart : (vs ws : List Scalar) → map word_of vs ≡ map word_of ws → vs ≡ ws
scalars_apart [] [] h = refl
scalars_apart [] (w ∷ ws) h = absurd (cc)
scalars_apart (v ∷ vs) [] h = absurd (cc)
scalars_apart (v ∷ vs) (w ∷ ws) h =
    let first : word_of v ≡ word_of w = cc in
    let others : map word_of vs ≡ map word_of ws = cc in
    let here : v ≡ w = scalar_apart v w first in
    let rest : vs ≡ ws = scalars_apart vs ws others in
    cc

differ : (x y : ℕ) (xs ys : List ℕ) → x ∷ xs ≡ y ∷ ys → (x ≡ y → ⊥) → ⊥
differ x y xs ys h apart = apart (cc)

replies_apart : (a b : Reply) → reply_words a ≡ reply_words b → a ≡ b
replies_apart (Answers vs) (Answers ws) h = let same : map word_of vs ≡ map word_of ws = cc in ap Answers (scalars_apart vs ws same)
replies_apart (Answers vs) (Trapped k) h = absurd (differ 0 1 (map word_of vs) (k ∷ []) h (omega arith))
replies_apart (Trapped k) (Answers ws) h = absurd (differ 1 0 (k ∷ []) (map word_of ws) h (omega arith))
replies_apart (Trapped j) (Trapped k) h = ap Trapped (cc)

effects_apart : (a b : Effect) → words_of a.state ≡ words_of b.state → reply_words a.reply ≡ reply_words b.reply → a ≡ b
effects_apart a b state reply =
    ap (λ (s : Activation). record { state = s; reply = a.reply }) (words_told_apart a.state b.state state)
    ∙ ap (λ (r : Reply). record { state = b.state; reply = r }) (replies_apart a.reply b.reply reply)

pub coded_effect : Coded Effect
coded_effect =
    coded_via (coded× (coded_list coded_ℕ) (coded_list coded_ℕ)) (λ (e : Effect). (words_of e.state, reply_words e.reply))
    (λ a b h. effects_apart a b (λ i. (h i).0) (λ i. (h i).1))

-- ---- what calls of the code say, at a checked module

-- of its variables
pub variables_are : (p : Declared.Program) (q : Program) (vs : List Variables.Variable) → program_of p ≡ q → vs ≡ p.variables.items → map (variable_of (table_of p.types)) vs ≡ q.variables
variables_are p q vs is same = ap (map (variable_of (table_of p.types))) same ∙ ap (λ (x : Program). x.variables) is

pub some_at : {A : Type 0} (o : Option A) (x : A) (P : A → Type 0) → o ≡ Some x → IfSome o P → P x
some_at {A} o x P e h = subst (λ (q : Option A). IfSome q P) e h

-- ---- the code of a program

module _ (program : Program) (parts : EngineParts) (budget : ℕ) where
  -- its parts are the program's, with this budget
  pub has_code : (code : ScalarCalls) → parts_in code.calls ≡ parts → parts ≡ parts_of program budget → ∥ IsWellFormed program ∥₁ → ∥ HasCode program budget code ∥₁
  has_code code same are well =
      let whole = same ∙ are in
      let turns = ap (λ (q : EngineParts). q.budget) whole in
      ∥∥₁_map well (λ w. record { compiled = record { well = w; parts_are = whole ∙ ap (parts_of program) (sym turns) }; turns = turns })

  -- what it makes of scalars is what the call of the history comes to
  pub leads : parts.budget ≡ budget → (asked call : ObjectCall) → asked ≡ call → (scalars after : List Scalar) (reply : Reply) → (state : Activation) → map held_of scalars ≡ state →
      IsMadeOf program parts asked scalars after reply → CallEnds program budget call state (map held_of after) reply
  leads turns asked call same scalars after reply state is made =
      subst (λ (b : ℕ). CallEnds program b call state (map held_of after) reply) turns
      (subst (λ (x : ObjectCall). CallEnds program parts.budget x state (map held_of after) reply) same
      (subst (λ (s : Activation). CallEnds program parts.budget asked s (map held_of after) reply) is made))

-- ---- where it leads with a reply that may be known

pub coded_reply : Coded Reply
coded_reply = coded_via (coded_list coded_ℕ) reply_words replies_apart

-- where a reply comes that isn't the known one, another one is known
other_known : (known : Option Reply) (r : Reply) → ¬ IfSome known (λ x. x ≡ r) → (x : Reply) × (known ≡ Some x) × (x ≡ r → ⊥)
other_known None r not = absurd (not tt)
other_known (Some x) r not = (x, refl, not)

module _ (program : Program) (budget : ℕ) (code : ScalarCalls) (has : ∥ HasCode program budget code ∥₁) (asked call : ObjectCall) (same : asked ≡ call) (scalars : List Scalar) (known : Option Reply) where
  -- what the call comes to
  abbrev ends : Effect
  ends = effect program call budget (map held_of scalars)

  ends_so : HasCode program budget code → effect program asked (parts_in code.calls).budget (map held_of scalars) ≡ ends
  ends_so h = ap (λ (b : ℕ). effect program asked b (map held_of scalars)) h.turns ∙ ap (λ (x : ObjectCall). effect program x budget (map held_of scalars)) same

  replies_so : (k : Option Reply) → (HasCode program budget code → IfSome k (λ x. x ≡ ends.reply)) → IfSome k (λ x. x ≡ ends.reply)
  replies_so None replies = tt
  replies_so (Some x) replies = ∥∥₁_elim has (Coded-set coded_reply _ _) replies

  led_so : (led : Led) → (HasCode program budget code → IsLed program (parts_in code.calls) asked scalars known led) → IsLedSo (CallEnds program budget call) (map held_of scalars) known led
  led_so (Leds.To after) f = (
    ends.reply,
    ∥∥₁_elim has (Coded-set coded_effect _ _) (λ h. ap (λ (s : Activation). record { state = s; reply = ends.reply }) (ap (λ (e : Effect). e.state) (sym (ends_so h)) ∙ (f h).0)),
    replies_so known (λ h. subst (λ (e : Effect). IfSome known (λ x. x ≡ e.reply)) (ends_so h) (f h).1),
  )
  led_so Leds.Elsewhere f =
      let other : ¬ IfSome known (λ x. x ≡ ends.reply) =
      λ is. ∥∥₁_elim has (λ a b. absurd a) (λ h. f h (subst (λ (e : Effect). IfSome known (λ x. x ≡ e.reply)) (sym (ends_so h)) is)) in
      let it = other_known known ends.reply other in
      (ends.state, ends.reply, refl, it.0, it.1, it.2)
  led_so Leds.Nowhere f = tt

  -- the same of the state that holds the scalars, and of what comes of the call by another name
  pub led_as : (state : Activation) → map held_of scalars ≡ state → (led : Led) → (HasCode program budget code → IsLed program (parts_in code.calls) asked scalars known led) → (came : Led) → led ≡ came →
      IsLedSo (CallEnds program budget call) state known came
  led_as state holds led f came named =
      subst (λ (l : Led). IsLedSo (CallEnds program budget call) state known l) named (subst (λ (s : Activation). IsLedSo (CallEnds program budget call) s known led) holds (led_so led f))
