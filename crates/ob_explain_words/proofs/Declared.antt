-- Names that tokens declare, token by token.
use Rattle.std.proofs.Common.{◌≡◌, ◌↔◌, ◌-◌, ◌<◌, ◌≤◌, ℕ, Bool, true, false, cond, ◌&&◌, IsTrue, List, [], ◌∷◌, ◌++◌, Option, Some, None}
use Rattle.std.proofs.Common.{length, take, drop, get_or, refl, sym, subst, ap, ◌∙◌, arith, append_assoc}
use Rattle.std.specs.Prelude.{find, reverse}
use Rattle.std.proofs.lemmas.Bool.{false≢true}
use Rattle.std.proofs.lemmas.List.{append-nil, length-drop, reverse-append, take_all}
use Rattle.ob_scan.specs.declared.token.Kind.{Kind}
use Rattle.ob_scan.specs.declared.token.Kind.TheVariants as Kinds
use Rattle.ob_scan.specs.declared.token.Token.{Token}
use Rattle.ob_explain_tokens.specs.Kinds.{is_colon, is_comma, is_name}
use Rattle.ob_explain_words.specs.Declaring.{BeginsEquation, Declares, IsDeclaredAt, IsListed, IsWord, are_equations, is_in_equations, last_kind}
use Rattle.ob_explain_words.specs.Declaring.{leads, leads_there, ends, goes_on, procedure, equation, listed}

-- ---- lists of names

no_colon : (k : Kind) → is_comma k ≡ true → is_colon k ≡ false
no_colon Kinds.Comma is = refl
no_colon _ is = absurd (false≢true is)

-- all tokens but the first ones
rest_is : (n : ℕ) (ts : List Token) → take (length ts - n) (drop n ts) ≡ drop n ts
rest_is n ts = take_all (length ts - n) (drop n ts) (omega (arith, length-drop n ts))

name_first : (ts : List Token) (d : Token) → is_name (get_or ts 0 d).kind ≡ false → IsListed ts → ⊥
name_first _ d not (ends name colon n c) = false≢true (sym not ∙ n)
name_first _ d not (goes_on name comma n c l) = false≢true (sym not ∙ n)

pub no_name : (ts : List Token) (d : Token) → is_name (get_or ts 0 d).kind ≡ false → IsTrue false ↔ IsListed ts
no_name ts d not = (λ h. absurd (false≢true h), λ l. absurd (name_first ts d not l))

colon_next : (ts : List Token) (d : Token) → is_comma (get_or ts 1 d).kind ≡ false → IsListed ts → is_colon (get_or ts 1 d).kind ≡ true
colon_next _ d not (ends name colon n c) = c
colon_next _ d not (goes_on name comma n c l) = absurd (false≢true (sym not ∙ c))

listed_last : (ts : List Token) (d : Token) → 2 ≤ length ts → is_name (get_or ts 0 d).kind ≡ true → is_colon (get_or ts 1 d).kind ≡ true → IsListed ts
listed_last [] d long n c = absurd (omega (arith, long))
listed_last (t ∷ []) d long n c = absurd (omega (arith, long))
listed_last (t ∷ u ∷ rest) d long n c = ends t u n c

pub ends_list : (all ts : List Token) (d : Token) (is : Bool) → 2 ≤ length ts → is_name (get_or ts 0 d).kind ≡ true → is_comma (get_or ts 1 d).kind ≡ false →
    is ≡ is_colon (get_or ts 1 d).kind → IsListed ts ↔ IsListed all → IsTrue is ↔ IsListed all
ends_list all ts d is long n not e h = (λ t. h.0 (listed_last ts d long n (sym e ∙ t)), λ l. e ∙ colon_next ts d not (h.1 l))

listed_on : (ts : List Token) (d : Token) → is_comma (get_or ts 1 d).kind ≡ true → IsListed ts → IsListed (drop 2 ts)
listed_on _ d is (ends name colon n c) = absurd (false≢true (sym (no_colon colon.kind is) ∙ c))
listed_on _ d is (goes_on name comma n c l) = l

listed_more : (ts : List Token) (d : Token) → 2 ≤ length ts → is_name (get_or ts 0 d).kind ≡ true → is_comma (get_or ts 1 d).kind ≡ true →
    IsListed (drop 2 ts) → IsListed ts
listed_more [] d long n c l = absurd (omega (arith, long))
listed_more (t ∷ []) d long n c l = absurd (omega (arith, long))
listed_more (t ∷ u ∷ rest) d long n c l = goes_on t u n c l

pub list_goes_on : (all ts : List Token) (d : Token) → 2 ≤ length ts → is_name (get_or ts 0 d).kind ≡ true → is_comma (get_or ts 1 d).kind ≡ true →
    IsListed ts ↔ IsListed all → IsListed (take (length ts - 2) (drop 2 ts)) ↔ IsListed all
list_goes_on all ts d long n c h = (
  λ l. h.0 (listed_more ts d long n c (subst (λ (us : List Token). IsListed us) (rest_is 2 ts) l)),
  λ l. subst (λ (us : List Token). IsListed us) (sym (rest_is 2 ts)) (listed_on ts d c (h.1 l)),
)

short_list : (ts : List Token) → length ts < 2 → IsListed ts → ⊥
short_list _ short (ends name colon {rest = rest} n c) = omega (arith, short)
short_list _ short (goes_on name comma {rest = rest} n c l) = omega (arith, short)

pub list_ended : (all ts : List Token) → length ts < 2 → IsListed ts ↔ IsListed all → IsTrue false ↔ IsListed all
list_ended all ts short h = (λ f. absurd (false≢true f), λ l. absurd (short_list ts short (h.1 l)))

-- ---- names

-- one of the tokens is the word, and declared where it stands behind these others
pub data DeclaresFrom (text word : List ℕ) : (before tokens : List Token) → Type 0 where
  here : {before : List Token} (t : Token) {rest : List Token} → IsWord text word t → IsDeclaredAt before (t ∷ rest) →
      DeclaresFrom text word before (t ∷ rest)
  further : {before : List Token} (t : Token) {rest : List Token} → DeclaresFrom text word (t ∷ before) rest → DeclaresFrom text word before (t ∷ rest)

turned : (t : Token) (ahead before : List Token) → reverse (t ∷ ahead) ++ before ≡ reverse ahead ++ (t ∷ before)
turned t ahead before = ap (λ (us : List Token). us ++ before) (reverse-append (t ∷ []) ahead) ∙ append_assoc (reverse ahead) (t ∷ []) before

from_there : (text word : List ℕ) (before ahead : List Token) (name : Token) (behind : List Token) → IsWord text word name →
    IsDeclaredAt (reverse ahead ++ before) (name ∷ behind) → DeclaresFrom text word before (ahead ++ name ∷ behind)
from_there text word before [] name behind w d = here name w d
from_there text word before (t ∷ ahead) name behind w d =
    further t (from_there text word (t ∷ before) ahead name behind w
    (subst (λ (ts : List Token). IsDeclaredAt ts (name ∷ behind)) (turned t ahead before) d))

record Parted (text word : List ℕ) (before tokens : List Token) : Type 0 where
  ahead : List Token
  name : Token
  behind : List Token
  parted : tokens ≡ ahead ++ name ∷ behind
  is_word : IsWord text word name
  declared : IsDeclaredAt (reverse ahead ++ before) (name ∷ behind)

found : (text word : List ℕ) (before tokens : List Token) → DeclaresFrom text word before tokens → Parted text word before tokens
found text word before _ (here t {rest = rest} w d) = record { ahead = []; name = t; behind = rest; parted = refl; is_word = w; declared = d }
found text word before _ (further t {rest = rest} h) =
    let p = found text word (t ∷ before) rest h in
    record {
      ahead = t ∷ p.ahead;
      name = p.name;
      behind = p.behind;
      parted = ap (λ (ts : List Token). t ∷ ts) p.parted;
      is_word = p.is_word;
      declared = subst (λ (ts : List Token). IsDeclaredAt ts (p.name ∷ p.behind)) (sym (turned t p.ahead before)) p.declared;
    }

to_declares : (text word : List ℕ) (tokens : List Token) → DeclaresFrom text word [] tokens → Declares text tokens word
to_declares text word tokens h =
    let p = found text word [] tokens h in
    record {
      before = p.ahead;
      name = p.name;
      behind = p.behind;
      parted = p.parted;
      is_word = p.is_word;
      declared = subst (λ (ts : List Token). IsDeclaredAt ts (p.name ∷ p.behind)) (append-nil (reverse p.ahead)) p.declared;
    }

of_declares : (text word : List ℕ) (tokens : List Token) → Declares text tokens word → DeclaresFrom text word [] tokens
of_declares text word tokens d =
    subst (λ (ts : List Token). DeclaresFrom text word [] ts) (sym d.parted)
    (from_there text word [] d.before d.name d.behind d.is_word
    (subst (λ (ts : List Token). IsDeclaredAt ts (d.name ∷ d.behind)) (sym (append-nil (reverse d.before))) d.declared))

-- ---- one name

pub procedure_there : (before ts : List Token) (last : Option Kind) → last ≡ Some Kinds.Procedure → last ≡ last_kind before → IsTrue true ↔ IsDeclaredAt before ts
procedure_there before ts last is e = (λ h. procedure (sym e ∙ is), λ d. refl)

-- the same behind these tokens, whose last one is of the kind
begins_behind : (before ts : List Token) (last : Option Kind) (equations : Bool) → last ≡ last_kind before → equations ≡ is_in_equations before →
    BeginsEquation last equations ts → BeginsEquation (last_kind before) (is_in_equations before) ts
begins_behind before ts last equations e f is =
    subst (λ (k : Option Kind). BeginsEquation k (is_in_equations before) ts) e (subst (λ (b : Bool). BeginsEquation last b ts) f is)

begins_before : (before ts : List Token) (last : Option Kind) (equations : Bool) → last ≡ last_kind before → equations ≡ is_in_equations before →
    BeginsEquation (last_kind before) (is_in_equations before) ts → BeginsEquation last equations ts
begins_before before ts last equations e f is =
    subst (λ (k : Option Kind). BeginsEquation k equations ts) (sym e) (subst (λ (b : Bool). BeginsEquation (last_kind before) b ts) (sym f) is)

pub equation_there : (before ts : List Token) (last : Option Kind) (equations : Bool) → BeginsEquation last equations ts →
    last ≡ last_kind before → equations ≡ is_in_equations before → IsTrue true ↔ IsDeclaredAt before ts
equation_there before ts last equations is e f = (λ h. equation (begins_behind before ts last equations e f is), λ d. refl)

only_listed : (before ts : List Token) (last : Option Kind) (equations : Bool) → (last ≡ Some Kinds.Procedure → ⊥) →
    (BeginsEquation last equations ts → ⊥) → last ≡ last_kind before → equations ≡ is_in_equations before → IsDeclaredAt before ts → IsListed ts
only_listed before ts last equations other none e f (procedure is) = absurd (other (e ∙ is))
only_listed before ts last equations other none e f (equation is) = absurd (none (begins_before before ts last equations e f is))
only_listed before ts last equations other none e f (listed l) = l

pub listed_there : (before ts : List Token) (last : Option Kind) (equations is : Bool) → (last ≡ Some Kinds.Procedure → ⊥) →
    (BeginsEquation last equations ts → ⊥) → last ≡ last_kind before → equations ≡ is_in_equations before →
    IsTrue is ↔ IsListed ts → IsTrue is ↔ IsDeclaredAt before ts
listed_there before ts last equations is other none e f h = (λ t. listed (h.0 t), λ d. h.1 (only_listed before ts last equations other none e f d))

-- constants and types behind a token
pub equations_behind : (k : Kind) (start end : ℕ) (before : List Token) (equations : Bool) → equations ≡ is_in_equations before →
    leads k ≡ false → equations ≡ is_in_equations (record { kind = k; start = start; end = end } ∷ before)
equations_behind k start end before equations e not =
    e ∙ sym (ap (λ b. are_equations (cond b (Some (record { kind = k; start = start; end = end })) (find leads_there before))) not)

-- ---- what is looked at, token by token

-- the tokens that are left declare the word where all do, and this stands before them
pub record Left (text word : List ℕ) (last : Option Kind) (equations : Bool) (all left : List Token) : Type 0 where
  pub before : List Token
  pub last_is : last ≡ last_kind before
  pub equations_are : equations ≡ is_in_equations before
  pub there : DeclaresFrom text word [] all → DeclaresFrom text word before left
  pub back : DeclaresFrom text word before left → DeclaresFrom text word [] all

pub all_left : (text word : List ℕ) (all : List Token) → Left text word None false all all
all_left text word all = record { before = []; last_is = refl; equations_are = refl; there = λ h. h; back = λ h. h }

here_first : (text word : List ℕ) (before ts : List Token) (d : Token) → 1 ≤ length ts → IsWord text word (get_or ts 0 d) → IsDeclaredAt before ts →
    DeclaresFrom text word before ts
here_first text word before [] d some w at = absurd (omega (arith, some))
here_first text word before (t ∷ rest) d some w at = here t w at

pub found_here : (text word : List ℕ) (last : Option Kind) (equations is there : Bool) (all ts : List Token) (d : Token) → Left text word last equations all ts →
    1 ≤ length ts → IsTrue is ↔ IsWord text word (get_or ts 0 d) →
    ((before : List Token) → last ≡ last_kind before → equations ≡ is_in_equations before → IsTrue there ↔ IsDeclaredAt before ts) →
    is ≡ true → there ≡ true → IsTrue true ↔ Declares text all word
found_here text word last equations is there all ts d l some w h e f =
    (λ t. to_declares text word all (l.back (here_first text word l.before ts d some (w.0 e) ((h l.before l.last_is l.equations_are).0 f))), λ d. refl)

only_further : (text word : List ℕ) (before ts : List Token) (d : Token) → 1 ≤ length ts → (IsWord text word (get_or ts 0 d) → IsDeclaredAt before ts → ⊥) →
    DeclaresFrom text word before ts → DeclaresFrom text word (get_or ts 0 d ∷ before) (drop 1 ts)
only_further text word before _ d some not (here _ w at) = absurd (not w at)
only_further text word before _ d some not (further _ h) = h

back_further : (text word : List ℕ) (before ts : List Token) (d : Token) → 1 ≤ length ts →
    DeclaresFrom text word (get_or ts 0 d ∷ before) (drop 1 ts) → DeclaresFrom text word before ts
back_further text word before [] d some h = absurd (omega (arith, some))
back_further text word before (t ∷ rest) d some h = further t h

-- the name is not declared there
pub looked_on : (text word : List ℕ) (last : Option Kind) (equations behind : Bool) (all ts : List Token) (d : Token) → Left text word last equations all ts →
    1 ≤ length ts →
    ((before : List Token) → last ≡ last_kind before → equations ≡ is_in_equations before → IsWord text word (get_or ts 0 d) → IsDeclaredAt before ts → ⊥) →
    ((before : List Token) → (t : Token) → equations ≡ is_in_equations before → (get_or ts 0 d).kind ≡ t.kind → behind ≡ is_in_equations (t ∷ before)) →
    Left text word (Some (get_or ts 0 d).kind) behind all (take (length ts - 1) (drop 1 ts))
looked_on text word last equations behind all ts d l some not is =
    let t : Token = get_or ts 0 d in
    subst (λ (us : List Token). Left text word (Some t.kind) behind all us) (sym (rest_is 1 ts))
    (record {
      before = t ∷ l.before;
      last_is = refl;
      equations_are = is l.before t l.equations_are refl;
      there = λ h. only_further text word l.before ts d some (not l.before l.last_is l.equations_are) (l.there h);
      back = λ h. l.back (back_further text word l.before ts d some h);
    })

nowhere : (text word : List ℕ) (before ts : List Token) → length ts < 1 → DeclaresFrom text word before ts → ⊥
nowhere text word before _ none (here t {rest = rest} w at) = omega (arith, none)
nowhere text word before _ none (further t {rest = rest} h) = omega (arith, none)

pub none_left : (text word : List ℕ) (last : Option Kind) (equations : Bool) (all ts : List Token) → Left text word last equations all ts → length ts < 1 →
    IsTrue false ↔ Declares text all word
none_left text word last equations all ts l none =
    (λ f. absurd (false≢true f), λ d. absurd (nowhere text word l.before ts none (l.there (of_declares text word all d))))
