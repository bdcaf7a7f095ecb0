-- Lists of calls made one at a time: one more at the end, a longer history, and what they lead to.
use Rattle.std.proofs.Common.{◌≡◌, ℕ, suc, ◌≤◌, List, [], ◌∷◌, ◌++◌, length, refl, sym, ap, arith, cond, inl, inr, subst}
use Rattle.std.specs.Prelude.{ℤ, nat_eq}
use Rattle.std.specs.List.{Contains}
use Rattle.std.proofs.lemmas.List.{take-append-le, take_all}
use Rattle.std.proofs.lemmas.List.Elements.{Contains-append_left, Contains-push_cases}
use Rattle.ob_interface.specs.Call.{ObjectCall, Reply}
use Rattle.wf_history.specs.declared.event.CallId.{CallId}
use Rattle.wf_history.specs.History.{Event, IsHistory}
use Rattle.wf_history.specs.Legal.{NoRepeats, OneAtATime, none, more, HasBegun}
use Rattle.wf_table.specs.Meaning.{Meaning}
use Rattle.wf_table.specs.Marks.{applied_in}
use Rattle.wf_table.specs.HelpAlone.{Alone}
use Rattle.wf_table.specs.Contents.{last_words, IsMade}
use Rattle.wf_table.specs.Helps.{upto}
use Rattle.wf_table.proofs.Alones.{alone_same}
use Rattle.wf_table.proofs.Begun.{begun_once}

-- prefix: what the first events applied stays when the history grows
pub upto-append : (h : ℕ) (xs ys : List (Event ObjectCall Reply)) → h ≤ length xs → upto h (xs ++ ys) ≡ upto h xs
upto-append h xs ys le = ap applied_in (take-append-le h xs ys le)

pub upto_all : (xs : List (Event ObjectCall Reply)) → upto (length xs) xs ≡ applied_in xs
upto_all xs = ap applied_in (take_all (length xs) xs (omega arith))

pub no_repeats_push : (ids : List CallId) (id : CallId) → NoRepeats ids → ¬ Contains ids id → NoRepeats (ids ++ id ∷ [])
no_repeats_push [] id h absent = ((λ within. absurd (omega (arith, within.1))), tt)
no_repeats_push (x ∷ xs) id h absent = (
  (λ within. elim (Contains-push_cases xs id x within) [
    | inl there ↦ h.0 there
    | inr is ↦ absent (0, omega arith, sym is)
  ]),
  no_repeats_push xs id h.1 (λ within. absent (suc within.0, omega (arith, within.1), within.2)),
)

-- the words of the last call, with one more call behind
pub last_words-push : (first : List ℤ) (p : ℕ) (ids : List CallId) (words : List (List ℤ)) (id : CallId) (w : List ℤ) → length words ≡ length ids → last_words first p (ids ++ id ∷ []) (words ++ w ∷ []) ≡ cond (nat_eq id.process p) w (last_words first p ids words)
last_words-push first p [] [] id w e = refl
last_words-push first p [] (v ∷ words) id w e = absurd (omega (arith, e))
last_words-push first p (x ∷ ids) [] id w e = absurd (omega (arith, e))
last_words-push first p (x ∷ ids) (v ∷ words) id w e = last_words-push (cond (nat_eq x.process p) v first) p ids words id w (omega (arith, e))

module _ {State Call Answer : Type 0} (Effect : Call → State → State → Answer → Type 0) where
  pub one_more : (Made : CallId → Call → Type 0) (a b c : State) (ids : List CallId) (id : CallId) (call : Call) (answers : List Answer) (answer : Answer) → OneAtATime Made Effect a ids answers b → Made id call → Effect call b c answer → OneAtATime Made Effect a (ids ++ id ∷ []) (answers ++ answer ∷ []) c
  one_more Made a b c [] id call answers answer none made effect = more made effect none
  one_more Made a b c (x ∷ ids) id call answers answer (more {between = s} {answers = vs} first does rest) made effect = more first does (one_more Made s b c ids id call vs answer rest made effect)

  pub more_made : (Made Made' : CallId → Call → Type 0) → ((id : CallId) (call : Call) → Made id call → Made' id call) → (a b : State) (ids : List CallId) (answers : List Answer) → OneAtATime Made Effect a ids answers b → OneAtATime Made' Effect a ids answers b
  more_made Made Made' wider a b [] answers none = none
  more_made Made Made' wider a b (x ∷ ids) answers (more {between = s} {call = call} {answers = vs} first does rest) = more (wider x call first) does (more_made Made Made' wider s b ids vs rest)

  pub length_answers : (Made : CallId → Call → Type 0) (a b : State) (ids : List CallId) (answers : List Answer) → OneAtATime Made Effect a ids answers b → length answers ≡ length ids
  length_answers Made a b [] answers none = refl
  length_answers Made a b (x ∷ ids) answers (more {between = s} {answers = vs} first does rest) = omega (arith, length_answers Made s b ids vs rest)

-- the calls that have begun stay begun
pub begun_more : (xs ys : List (Event ObjectCall Reply)) (id : CallId) (call : ObjectCall) → HasBegun xs id call → HasBegun (xs ++ ys) id call
begun_more xs ys id call h = Contains-append_left xs ys _ h

module _ {Run : Type 0} (m : Meaning Run) (lawful : List ℤ → Type 0) (opening : List ℤ) where
  pub made_longer : (xs ys : List (Event ObjectCall Reply)) (ids : List CallId) (words : List (List ℤ)) (last : List ℤ) → IsMade m lawful opening xs ids words last → IsMade m lawful opening (xs ++ ys) ids words last
  made_longer xs ys ids words last h = record {
    once = h.once;
    made = more_made (Alone m) (HasBegun xs) (HasBegun (xs ++ ys)) (begun_more xs ys) opening last ids words h.made;
    lawful_last = h.lawful_last;
  }

  -- a list of calls leads to one end, where an id is of one call
  pub same_end : (Made : CallId → ObjectCall → Type 0) → ((id : CallId) (c d : ObjectCall) → Made id c → Made id d → c ≡ d) → (a b₁ b₂ : List ℤ) (ids : List CallId) (w₁ w₂ : List (List ℤ)) → OneAtATime Made (Alone m) a ids w₁ b₁ → OneAtATime Made (Alone m) a ids w₂ b₂ → (b₁ ≡ b₂) × (w₁ ≡ w₂)
  same_end Made one a b₁ b₂ [] w₁ w₂ none none = (refl, refl)
  same_end Made one a b₁ b₂ (x ∷ ids) w₁ w₂ (more {between = s₁} {call = c₁} {answer = v₁} {answers = vs₁} made₁ does₁ rest₁) (more {between = s₂} {call = c₂} {answer = v₂} {answers = vs₂} made₂ does₂ rest₂) =
      let calls : c₁ ≡ c₂ = one x c₁ c₂ made₁ made₂ in
      let first = alone_same m c₂ a s₁ s₂ v₁ v₂ (subst (λ (c : ObjectCall). Alone m c a s₁ v₁) calls does₁) does₂ in
      let rest = same_end Made one s₂ b₁ b₂ ids vs₁ vs₂ (subst (λ (s : List ℤ). OneAtATime Made (Alone m) s ids vs₁ b₁) first.0 rest₁) rest₂ in
      let head : v₁ ≡ v₂ = first.1 in
      let tail : vs₁ ≡ vs₂ = rest.1 in
      (rest.0, cc)

  -- so the words of an order are one thing
  pub made_once : (history : List (Event ObjectCall Reply)) → IsHistory history → (ids : List CallId) (w₁ w₂ : List (List ℤ)) (b₁ b₂ : List ℤ) → IsMade m lawful opening history ids w₁ b₁ → IsMade m lawful opening history ids w₂ b₂ → (b₁ ≡ b₂) × (w₁ ≡ w₂)
  made_once history turns ids w₁ w₂ b₁ b₂ h k = same_end (HasBegun history) (begun_once history turns) opening b₁ b₂ ids w₁ w₂ h.made k.made
