-- The lemmas of Steps over states of the parser, so that a method's answer is a path of its calls.
use Rattle.std.proofs.Common.{◌≡◌, ℕ, suc, ◌≤◌, length, Some, None, true, false, IsTrue, IsSome, ◌↔◌, ◌⊎◌, inl, inr, Option, option_map, slice_get, Result, Ok, Err, refl, sym, ◌∙◌, ap, subst, arith}
use Rattle.std.specs.Option.{option_map_or}
use Rattle.std.specs.Result.{IsErrAnd}
use Rattle.ob_scan.specs.declared.token.Kind.{Kind}
use Rattle.ob_scan.specs.Lexemes.{Lexeme, place_of}
use Rattle.ob_scan.specs.Tokens.{TokenizedText}
use Rattle.ob_grammar.specs.EndNamesAndNesting.{name_differs, too_deep}
use Rattle.ob_grammar.proofs.Exits.{exits}
use Rattle.ob_scan.specs.Sources.{State, Stands, Steps}
use Rattle.ob_parser.specs.declared.parser.ParseFault.{ParseFault}
use Rattle.ob_parser.specs.declared.parser.ParseFault.TheVariants.{Unexpected, TooDeep, NameDiffers, NoMemory}
use Rattle.ob_parser.specs.ParseFaults.{lexemes_of, HasPlace}
use Rattle.ob_parser.specs.Reading.{Form, Sequel, behind_part, Reads, Reason, Refuses, unexpected, breaks, kind_of, kind_at, place_at}
use Rattle.ob_parser.specs.Forms.{token, both, linked}
use Rattle.ob_parser.specs.Answers.{IsAt, place_here, place_of_fault, Went, Refused, Fails, FailsHere, Answers, AnswersPart}
use Rattle.ob_parser.proofs.Steps.{Leads, Fills, leads_on, leads_itself, leads_as, leads_reads, leads_refuses, Follows, leads_second, first_refuses, always, reads_token, Begins, refuses_beginning}

-- the token that stands here, in whatever text

pub at_here : {s : State} {source : TokenizedText} {p : ℕ} {kind : Kind} → Stands s source p → IsAt s kind →
    kind_at (lexemes_of source) p ≡ Some kind
at_here w here = ap (option_map kind_of) w.next ∙ here

pub here_at : {s : State} {source : TokenizedText} {p : ℕ} {kind : Kind} → Stands s source p →
    kind_at (lexemes_of source) p ≡ Some kind → IsAt s kind
here_at w there = sym (ap (option_map kind_of) w.next) ∙ there

pub away : {s : State} {source : TokenizedText} {p : ℕ} {kind : Kind} → Stands s source p → (IsAt s kind → ⊥) →
    kind_at (lexemes_of source) p ≡ Some kind → ⊥
away w missing there = missing (here_at w there)

pub either_here : {s : State} {source : TokenizedText} {p : ℕ} {one other : Kind} → Stands s source p → IsAt s one ⊎ IsAt s other →
    (kind_at (lexemes_of source) p ≡ Some one) ⊎ (kind_at (lexemes_of source) p ≡ Some other)
either_here w (inl here) = inl (at_here w here)
either_here w (inr here) = inr (at_here w here)

pub place_there : {s : State} {source : TokenizedText} {p : ℕ} → Stands s source p → place_here s ≡ place_at 0 (lexemes_of source) p
place_there w = sym (ap (λ (t : Option Lexeme). option_map_or place_of t 0) w.next)

pub fault_there : {s : State} {source : TokenizedText} {p : ℕ} → Stands s source p →
    place_of_fault s ≡ place_at (length source.text) (lexemes_of source) p
fault_there {s = s} {source = source} w =
    ap (λ text. option_map_or place_of s.here (length text)) (sym w.text)
    ∙ sym (ap (λ (t : Option Lexeme). option_map_or place_of t (length source.text)) w.next)

some_here : (t : Option Lexeme) (kind : Kind) → option_map kind_of t ≡ Some kind → IsSome t
some_here None kind h = absurd (cc)
some_here (Some t) kind h = refl

-- where a token of some kind stands, one does
pub token_there : (s : State) {kind : Kind} → IsAt s kind → IsSome s.here
token_there s {kind = kind} here = some_here s.here kind here

-- From s to t the parser read what is in front of G in a phrase F; f makes the tree of F of the tree of G.
pub record Path {A B : Type 0} (F : Form A) (s : State) (G : Form B) (t : State) (f : B → A) : Type 0 where
  pub kept : t.text ≡ s.text
  pub onward : t.left ≤ s.left
  pub leads : (source : TokenizedText) (p : ℕ) → Stands s source p →
      (q : ℕ) × Stands t source q × Leads F (lexemes_of source) p G q f

pub path_on : {A B C : Type 0} {F : Form A} {G : Form B} {H : Form C} {s t u : State} {f : B → A} {g : C → B} →
    Path F s G t f → Path G t H u g → Path F s H u (λ x. f (g x))
path_on a b = record {
  kept = b.kept ∙ a.kept;
  onward = (let h = a.onward in let k = b.onward in omega arith);
  leads = λ source p w. (let m = a.leads source p w in let n = b.leads source m.0 m.1 in (n.0, n.1, leads_on m.2 n.2));
}

-- a phrase begins where another does
pub starts : {A B : Type 0} {F : Form A} {G : Form B} {s : State} {f : B → A} →
    ((source : TokenizedText) (p : ℕ) → Stands s source p → Leads F (lexemes_of source) p G p f) → Path F s G s f
starts a = record { kept = refl; onward = omega arith; leads = λ source p w. (p, w, a source p w) }

pub reaches : {A B : Type 0} {F : Form A} {G : Form B} {s t : State} {f : B → A} {x : B} →
    Path F s G t f → {u : State} → Went G t x u → Went F s (f x) u
reaches a b = record {
  kept = b.kept ∙ a.kept;
  onward = (let h = a.onward in let k = b.onward in omega arith);
  reads = λ source p w. (let m = a.leads source p w in let n = b.reads source m.0 m.1 in (n.0, n.1, leads_reads m.2 n.2));
}

refused_on : {A B : Type 0} {F : Form A} {G : Form B} {s t u : State} {f : B → A} {reason : Reason} {IsThere : TokenizedText → ℕ → Type 0} →
    Path F s G t f → Refused G t u reason IsThere → Refused F s u reason IsThere
refused_on a b = record {
  kept = b.kept ∙ a.kept;
  refuses = λ source p w. (let m = a.leads source p w in let n = b.refuses source m.0 m.1 in (n.0, n.1, leads_refuses m.2 n.2));
}

pub fails : {A B : Type 0} {F : Form A} {G : Form B} {s t : State} {f : B → A} →
    Path F s G t f → (u : State) (e : ParseFault) → Fails G t e u → Fails F s e u
fails a u (Unexpected place) h = refused_on a h
fails a u (TooDeep place) h = refused_on a h
fails a u (NameDiffers place) h = refused_on a h
fails a u NoMemory h = tt

pub second_linked : {A B : Type 0} {F : Form A} {S : Sequel A B} {s t : State} {x : A} →
    ((z : A) → Follows F (behind_part S z)) → Went F s x t → Path (linked F S) s (behind_part S x) t (λ y. (x, y))
second_linked follows a = record {
  kept = a.kept;
  onward = a.onward;
  leads = λ source p w. (let m = a.reads source p w in (m.0, m.1, leads_second follows m.2));
}

first_refused : {A B : Type 0} {F : Form A} {S : Sequel A B} {s t : State} {reason : Reason} {IsThere : TokenizedText → ℕ → Type 0} →
    ((z : A) → Follows F (behind_part S z)) → ((z : A) → Fills (behind_part S z)) →
    Refused F s t reason IsThere → Refused (linked F S) s t reason IsThere
first_refused follows fills a = record {
  kept = a.kept;
  refuses = λ source p w. (let m = a.refuses source p w in (m.0, m.1, first_refuses follows fills m.2));
}

pub first_fails : {A B : Type 0} {F : Form A} {S : Sequel A B} (s t : State) →
    ((z : A) → Follows F (behind_part S z)) → ((z : A) → Fills (behind_part S z)) →
    (e : ParseFault) → Fails F s e t → Fails (linked F S) s e t
first_fails s t follows fills (Unexpected place) h = first_refused follows fills h
first_fails s t follows fills (TooDeep place) h = first_refused follows fills h
first_fails s t follows fills (NameDiffers place) h = first_refused follows fills h
first_fails s t follows fills NoMemory h = tt

-- past the first of two phrases, whose tree the second one hangs on
pub past_linked : {A B C : Type 0} {F : Form A} {G : Form B} {S : Sequel B C} {s t : State} {f : B × C → A} →
    Path F s (linked G S) t f → ((z : B) → Follows G (behind_part S z)) → {u : State} {x : B} → Went G t x u →
    Path F s (behind_part S x) u (λ y. f (x, y))
past_linked a follows b = path_on a (second_linked follows b)

-- a fault in the first of two such phrases
pub fails_in_linked : {A B C : Type 0} {F : Form A} {G : Form B} {S : Sequel B C} {s t : State} {f : B × C → A} →
    Path F s (linked G S) t f → ((z : B) → Follows G (behind_part S z)) → ((z : B) → Fills (behind_part S z)) →
    (u : State) (e : ParseFault) → Fails G t e u → Fails F s e u
fails_in_linked {t = t} a follows fills u e h = fails a u e (first_fails t u follows fills e h)

-- past the first of two phrases
pub past : {A B C : Type 0} {F : Form A} {G : Form B} {H : Form C} {s t : State} {f : B × C → A} →
    Path F s (both G H) t f → Follows G H → {u : State} {x : B} → Went G t x u → Path F s H u (λ y. f (x, y))
past {G = G} {H = H} a follows b = path_on a (second_linked {F = G} {S = always H} (λ z. follows) b)

-- a fault in the first of two phrases
pub fails_in : {A B C : Type 0} {F : Form A} {G : Form B} {H : Form C} {s t : State} {f : B × C → A} →
    Path F s (both G H) t f → Follows G H → Fills H → (u : State) (e : ParseFault) → Fails G t e u → Fails F s e u
fails_in {G = G} {H = H} {t = t} a follows fills u e h =
    fails a u e (first_fails {F = G} {S = always H} t u (λ z. follows) (λ z. fills) e h)

-- one token on

pub went_one : {A : Type 0} {F : Form A} {s t : State} {x : A} → Steps s t →
    ((source : TokenizedText) (p : ℕ) → Stands s source p → Reads F (lexemes_of source) p x (suc p)) → Went F s x t
went_one steps a = record {
  kept = steps.kept;
  onward = (let h = steps.less in omega arith);
  reads = λ source p w. (suc p, steps.on source p w, a source p w);
}

pub went_token : {kind : Kind} {s t : State} (place : ℕ) → Steps s t → IsAt s kind → place ≡ place_here s → Went (token kind) s place t
went_token {kind = kind} place steps here e =
    went_one steps
    (λ source p w.
    (let P : ℕ → Type 0 = λ x. Reads (token kind) (lexemes_of source) p x (suc p) in
    subst P (sym (e ∙ place_there w)) (reads_token (at_here w here))))

-- the token that stands here, or the end, is at fault
pub refused_here : {A : Type 0} {F : Form A} (s : State) {e : ParseFault} → e ≡ Unexpected (place_of_fault s) →
    ((source : TokenizedText) (p : ℕ) → Stands s source p → Refuses F (lexemes_of source) p unexpected p) → Fails F s e s
refused_here {F = F} s e r =
    let P : ParseFault → Type 0 = λ d. Fails F s d s in
    subst P (sym e) (record { kept = refl; refuses = λ source p w. (p, fault_there w, r source p w) })

pub fails_here : {A : Type 0} {F : Form A} {kind : Kind} (s : State) → Begins F kind → Fills F →
    (t : State) (e : ParseFault) → FailsHere kind s e t → Fails F s e t
fails_here s h fills t (Unexpected place) (kept, e, missing) =
    record { kept = kept; refuses = λ source p w. (p, e ∙ fault_there w, refuses_beginning h fills (away w missing)) }
fails_here s h fills t (TooDeep place) h' = absurd h'
fails_here s h fills t (NameDiffers place) h' = absurd h'
fails_here s h fills t NoMemory h' = tt

pub path_as : {A B : Type 0} {F : Form A} {G : Form B} {s t : State} {f g : B → A} →
    ((x : B) → f x ≡ g x) → Path F s G t f → Path F s G t g
path_as e a = record {
  kept = a.kept;
  onward = a.onward;
  leads = λ source p w. (let m = a.leads source p w in (m.0, m.1, leads_as e m.2));
}

pub no_way : {A : Type 0} {F : Form A} (s : State) → Path F s F s (λ x. x)
no_way s = starts (λ source p w. leads_itself)

-- a phrase for which no token is read
pub stays : {A : Type 0} {F : Form A} {s : State} {x : A} →
    ((source : TokenizedText) (p : ℕ) → Stands s source p → Reads F (lexemes_of source) p x p) → Went F s x s
stays a = record { kept = refl; onward = omega arith; reads = λ source p w. (p, w, a source p w) }

pub went_as : {A : Type 0} {F : Form A} {s t : State} {x y : A} → x ≡ y → Went F s x t → Went F s y t
went_as {A = A} {F = F} {s = s} {t = t} e a = let P : A → Type 0 = λ z. Went F s z t in subst P e a

-- the exit of a `?`: the callee's fault is the caller's
pub passed : {X A : Type 0} (view : X → A) (F : Form A) (s t : State) (r : Result X ParseFault) (e : ParseFault) →
    IsErrAnd r (λ d. d ≡ e) → Fails F s e t → Answers view F s r t
passed view F s t r e h bad = exits (λ v. Answers view F s v t) r e h bad

pub passed_part : {X P A : Type 0} (whole : X → P → A) (F : Form A) (s t : State) (r : Result X ParseFault) (e : ParseFault) →
    IsErrAnd r (λ d. d ≡ e) → Fails F s e t → AnswersPart whole F s r t
passed_part whole F s t r e h bad = exits (λ v. AnswersPart whole F s v t) r e h bad

-- what the last call of a method answers, behind what the method has read
pub ends_part : {X P A B : Type 0} (view : X → B) (whole : X → P → A) {F : Form A} {G : Form B} {s t : State} (u : State) {f : B → A} (p : P)
    (r : Result X ParseFault) → ((x : X) → f (view x) ≡ whole x p) → Path F s G t f → Answers view G t r u → AnswersPart whole F s r u
ends_part view whole u p (Ok x) e way h = (p, went_as (e x) (reaches way h))
ends_part view whole u p (Err fault) e way h = fails way u fault h

pub false_at : {P : Type 0} → (IsTrue false ↔ P) → P → ⊥
false_at h p = let e : false ≡ true = h.1 p in cc

pub true_at : {P : Type 0} → (IsTrue true ↔ P) → P
true_at h = h.0 refl
