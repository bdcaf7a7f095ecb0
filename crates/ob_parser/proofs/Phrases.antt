-- The phrases that hold other phrases: what is left of each, by the token that stands there. Each lemma once, over any form.
use Rattle.std.proofs.Common.{drop, ◌≡◌, ℕ, suc, Bool, true, false, List, [], ◌∷◌, ◌++◌, Option, Some, None, refl, sym, ◌∙◌, ap, subst, arith}
use Rattle.ob_scan.specs.declared.token.Kind.{Kind}
use Rattle.ob_grammar.specs.Grammar.{Lexemes, Phrase, Takes, TakesAt, takes, TakesWord, Each, Separated, Perhaps, Behind, PartBehind}
use Rattle.ob_grammar.specs.Tree.{DeclarationPart}
use Rattle.ob_grammar.specs.Grammar as Grammar
use Rattle.ob_grammar.specs.EndNamesAndNesting.{Breach}
use Rattle.ob_parser.specs.Reading.{Form, Stops, Reads, kind_at, place_at}
use Rattle.ob_parser.specs.Forms as forms
use Rattle.ob_parser.specs.Forms.{token, Both, both}
use Rattle.ob_parser.proofs.Steps.{Leads, Follows, Fills, Begins, Passes, takes_same, no_takes_same, same_token, stops_at, not_stopped, weaker, kind_within, shorter}

-- [ "word" ], as whether it stands there

word_true : {word : Kind} {C : Kind → Bool} {a b rest : Lexemes} {place : ℕ} {y : Bool} → TakesAt word place a b → C word ≡ true →
    TakesWord word a y rest → Stops C rest → (y ≡ true) × (rest ≡ b)
word_true t e Grammar.absent s = absurd (not_stopped e t s)
word_true t e (Grammar.present d) s = (refl, (same_token t d.1).2)

pub reads_word : {word : Kind} {C : Kind → Bool} {tokens : Lexemes} {p : ℕ} → kind_at tokens p ≡ Some word → C word ≡ true →
    Reads (forms.word C word) tokens p true (suc p)
reads_word {word = word} {tokens = tokens} {p = p} here e = record {
  order = omega arith;
  within = λ h. (let k = kind_within tokens p word here in omega arith);
  sound = λ other same. Grammar.present (place_at 0 other p, takes_same other here same);
  only = λ other same y rest d stops. word_true (takes_same other here (shorter (omega arith) same)) e d stops;
  kept = refl;
}

word_false : {word : Kind} {a rest : Lexemes} {y : Bool} → ((place : ℕ) (b : Lexemes) → TakesAt word place a b → ⊥) →
    TakesWord word a y rest → (y ≡ false) × (rest ≡ a)
word_false h Grammar.absent = (refl, refl)
word_false h (Grammar.present d) = absurd (h _ _ d.1)

pub reads_no_word : {word : Kind} {C : Kind → Bool} {tokens : Lexemes} {p : ℕ} → (kind_at tokens p ≡ Some word → ⊥) →
    Reads (forms.word C word) tokens p false p
reads_no_word missing = record {
  order = omega arith;
  within = λ h. h;
  sound = λ other same. Grammar.absent;
  only = λ other same y rest d stops. word_false (λ place b t. no_takes_same missing same t) d;
  kept = refl;
}

pub fill_word : {word : Kind} {C : Kind → Bool} → Fills (forms.word C word)
fill_word = record { more = []; tree = false; derives = λ rest. Grammar.absent; kept = refl }

word_passes : {word : Kind} {D : Kind → Bool} {a rest : Lexemes} {y : Bool} → D word ≡ false → TakesWord word a y rest →
    Stops D rest → Stops D a
word_passes e Grammar.absent s = s
word_passes e (Grammar.present d) s = stops_at e d.1

pub passes_word : {A : Type 0} {F : Form A} {word : Kind} {C : Kind → Bool} → F.continues word ≡ false → Passes F (forms.word C word)
passes_word e = record { passes = λ a x rest d s. word_passes e d s }

-- [phrase]

-- what continues a phrase that may be missing: what it begins with, and what continues it where it stands
pub record Optional {A : Type 0} (C : Kind → Bool) (breaks : Option A → List Breach) (F : Form A) (kind : Kind) : Type 0 where
  pub begins : Begins F kind
  pub absent : C kind ≡ true
  pub inner : (k : Kind) → C k ≡ false → F.continues k ≡ false
  pub none : breaks None ≡ []
  pub some : (x : A) → breaks (Some x) ≡ F.breaches x

some_only : {A : Type 0} {R : Phrase A} {C : Kind → Bool} {kind : Kind} {a b rest : Lexemes} {place : ℕ} {y : Option A} →
    TakesAt kind place a b → C kind ≡ true → Perhaps R a y rest → Stops C rest → (x : A) × (y ≡ Some x) × R a x rest
some_only t e Grammar.absent s = absurd (not_stopped e t s)
some_only t e (Grammar.present {x = x} d) s = (x, refl, d)

pub leads_some : {A : Type 0} {C : Kind → Bool} {breaks : Option A → List Breach} {F : Form A} {kind : Kind} {tokens : Lexemes} {p : ℕ} →
    Optional C breaks F kind → kind_at tokens p ≡ Some kind → Leads (forms.perhaps C breaks F) tokens p F p (λ x. Some x)
leads_some o here = record {
  order = omega arith;
  within = λ h. h;
  into = λ other same x rest d. Grammar.present d;
  onto = λ other same y rest d stops.
      (let m = some_only (takes_same other here same) o.absent d stops in (m.0, m.1, m.2, weaker o.inner stops));
  breaches = λ x. o.some x;
}

none_only : {A : Type 0} {R : Phrase A} {a rest : Lexemes} {y : Option A} → ((x : A) → R a x rest → ⊥) → Perhaps R a y rest →
    (y ≡ None) × (rest ≡ a)
none_only h Grammar.absent = (refl, refl)
none_only h (Grammar.present {x = x} d) = absurd (h x d)

pub reads_none : {A : Type 0} {C : Kind → Bool} {breaks : Option A → List Breach} {F : Form A} {kind : Kind} {tokens : Lexemes} {p : ℕ} →
    Optional C breaks F kind → (kind_at tokens p ≡ Some kind → ⊥) → Reads (forms.perhaps C breaks F) tokens p None p
reads_none {F = F} {p = p} o missing = record {
  order = omega arith;
  within = λ h. h;
  sound = λ other same. Grammar.absent;
  only = λ other same y rest d stops.
      none_only {R = F.relation} (λ x e. no_takes_same missing same (o.begins.begins (drop p other) x rest e).2) d;
  kept = o.none;
}

pub fill_perhaps : {A : Type 0} {C : Kind → Bool} {breaks : Option A → List Breach} {F : Form A} {kind : Kind} →
    Optional C breaks F kind → Fills (forms.perhaps C breaks F)
fill_perhaps o = record { more = []; tree = None; derives = λ rest. Grammar.absent; kept = o.none }

perhaps_passes : {A : Type 0} {R : Phrase A} {D : Kind → Bool} {a rest : Lexemes} {y : Option A} →
    ((x : A) → R a x rest → Stops D a) → Perhaps R a y rest → Stops D rest → Stops D a
perhaps_passes h Grammar.absent s = s
perhaps_passes h (Grammar.present {x = x} d) s = h x d

pub passes_perhaps : {A B : Type 0} {F : Form A} {C : Kind → Bool} {breaks : Option B → List Breach} {G : Form B} {kind : Kind} →
    Optional C breaks G kind → F.continues kind ≡ false → Passes F (forms.perhaps C breaks G)
passes_perhaps {G = G} o e = record {
  passes = λ a x rest d s. perhaps_passes {R = G.relation} (λ y f. stops_at e (o.begins.begins a y rest f).2) d s;
}

-- "word" phrase

behind_only : {A : Type 0} {kind : Kind} {R : Phrase A} {a rest : Lexemes} {y : A} → Behind kind R a y rest →
    (x : ℕ × A) × (y ≡ x.1) × Both (λ b place c. TakesAt kind place b c) R a x rest
behind_only (Grammar.behind {x = x} t d) = ((t.0, x), refl, (_, t.1, d))

pub leads_behind : {A : Type 0} {F : Form A} {kind : Kind} {tokens : Lexemes} {p : ℕ} →
    Leads (forms.behind kind F) tokens p (both (token kind) F) p (λ x. x.1)
leads_behind = record {
  order = omega arith;
  within = λ h. h;
  into = λ other same x rest d. Grammar.behind (x.0, d.1) d.2;
  onto = λ other same y rest d stops. (let m = behind_only d in (m.0, m.1, m.2, stops));
  breaches = λ x. refl;
}

pub begins_behind : {A : Type 0} {F : Form A} {kind : Kind} → Begins (forms.behind kind F) kind
begins_behind = record { begins = λ a x rest d. (let m = behind_only d in (m.0.0, m.2.0, m.2.1)) }

-- "word" phrase, with the place of the word

part_only : {A : Type 0} {kind : Kind} {R : Phrase (List A)} {a rest : Lexemes} {y : DeclarationPart A} → PartBehind kind R a y rest →
    (x : ℕ × List A) × (y ≡ record { place = x.0; declared = x.1 }) × Both (λ b place c. TakesAt kind place b c) R a x rest
part_only (Grammar.part {x = x} t d) = ((x.place, x.declared), refl, (_, t, d))

pub leads_part : {A : Type 0} (F : Form (List A)) {kind : Kind} {tokens : Lexemes} {p : ℕ} →
    Leads (forms.part kind F) tokens p (both (token kind) F) p (λ x. record { place = x.0; declared = x.1 })
leads_part F = record {
  order = omega arith;
  within = λ h. h;
  into = λ other same x rest d. Grammar.part d.1 d.2;
  onto = λ other same y rest d stops. (let m = part_only d in (m.0, m.1, m.2, stops));
  breaches = λ x. refl;
}

pub begins_part : {A : Type 0} (F : Form (List A)) {kind : Kind} → Begins (forms.part kind F) kind
begins_part F = record { begins = λ a x rest d. (let m = part_only d in (m.0.0, m.2.0, m.2.1)) }

-- {phrase}

-- what continues a repetition: what the phrase begins with, and what continues the phrase
pub record Repeated {A : Type 0} (C : Kind → Bool) (breaks : List A → List Breach) (F : Form A) (kind : Kind) : Type 0 where
  pub begins : Begins F kind
  pub more : C kind ≡ true
  pub stops : F.continues kind ≡ false
  pub inner : (k : Kind) → C k ≡ false → F.continues k ≡ false
  pub none : breaks [] ≡ []
  pub some : (x : A) (xs : List A) → breaks (x ∷ xs) ≡ F.breaches x ++ breaks xs

each_only : {A : Type 0} {R : Phrase A} {C : Kind → Bool} {kind : Kind} {a b rest : Lexemes} {place : ℕ} {y : List A} →
    TakesAt kind place a b → C kind ≡ true → Each R a y rest → Stops C rest →
    (x : A × List A) × (y ≡ x.0 ∷ x.1) × Both R (Each R) a x rest
each_only t e Grammar.none s = absurd (not_stopped e t s)
each_only t e (Grammar.more {x = x} {xs = xs} d f) s = ((x, xs), refl, (_, d, f))

pub leads_each : {A : Type 0} {C : Kind → Bool} {breaks : List A → List Breach} {F : Form A} {kind : Kind} {tokens : Lexemes} {p : ℕ} →
    Repeated C breaks F kind → kind_at tokens p ≡ Some kind →
    Leads (forms.each C breaks F) tokens p (both F (forms.each C breaks F)) p (λ x. x.0 ∷ x.1)
leads_each r here = record {
  order = omega arith;
  within = λ h. h;
  into = λ other same x rest d. Grammar.more d.1 d.2;
  onto = λ other same y rest d stops. (let m = each_only (takes_same other here same) r.more d stops in (m.0, m.1, m.2, stops));
  breaches = λ x. r.some x.0 x.1;
}

no_each : {A : Type 0} {R : Phrase A} {a rest : Lexemes} {y : List A} → ((x : A) (b : Lexemes) → R a x b → ⊥) → Each R a y rest →
    (y ≡ []) × (rest ≡ a)
no_each h Grammar.none = (refl, refl)
no_each h (Grammar.more d e) = absurd (h _ _ d)

pub reads_no_each : {A : Type 0} {C : Kind → Bool} {breaks : List A → List Breach} {F : Form A} {kind : Kind} {tokens : Lexemes} {p : ℕ} →
    Repeated C breaks F kind → (kind_at tokens p ≡ Some kind → ⊥) → Reads (forms.each C breaks F) tokens p [] p
reads_no_each {F = F} {p = p} r missing = record {
  order = omega arith;
  within = λ h. h;
  sound = λ other same. Grammar.none;
  only = λ other same y rest d stops.
      no_each {R = F.relation} (λ x b e. no_takes_same missing same (r.begins.begins (drop p other) x b e).2) d;
  kept = r.none;
}

pub fill_each : {A : Type 0} {C : Kind → Bool} {breaks : List A → List Breach} {F : Form A} {kind : Kind} →
    Repeated C breaks F kind → Fills (forms.each C breaks F)
fill_each r = record { more = []; tree = []; derives = λ rest. Grammar.none; kept = r.none }

each_stops : {A : Type 0} {R : Phrase A} {D : Kind → Bool} {a rest : Lexemes} {y : List A} →
    ((x : A) (b : Lexemes) → R a x b → Stops D a) → Each R a y rest → Stops D rest → Stops D a
each_stops h Grammar.none s = s
each_stops h (Grammar.more d e) s = h _ _ d

-- a phrase and the next one
pub each_follows : {A : Type 0} {C : Kind → Bool} {breaks : List A → List Breach} {F : Form A} {kind : Kind} →
    Repeated C breaks F kind → Follows F (forms.each C breaks F)
each_follows {F = F} r = record {
  stops = λ a x rest d s.
      each_stops {R = F.relation} (λ y b e. stops_at r.stops (r.begins.begins a y b e).2) d (weaker r.inner s);
}

-- phrase {separator phrase}

-- {separator phrase}
pub data Tail {A : Type 0} (separator : Kind) (R : Phrase A) : Lexemes → List A → Lexemes → Type 0 where
  end_of_tail : {a : Lexemes} → Tail separator R a [] a
  next : {a b c d : Lexemes} {x : A} {xs : List A} {place : ℕ} →
      TakesAt separator place a b → R b x c → Tail separator R c xs d → Tail separator R a (x ∷ xs) d

abbrev pub tail : {A : Type 0} → Kind → (Kind → Bool) → (List A → List Breach) → Form A → Form (List A)
tail separator continues breaks F = record { relation = Tail separator F.relation; continues = continues; breaches = breaks }

-- what continues a list: the separator, and what continues the phrase
pub record Listed {A : Type 0} (separator : Kind) (C : Kind → Bool) (breaks : List A → List Breach) (F : Form A) : Type 0 where
  pub more : C separator ≡ true
  pub stops : F.continues separator ≡ false
  pub inner : (k : Kind) → C k ≡ false → F.continues k ≡ false
  pub none : breaks [] ≡ []
  pub some : (x : A) (xs : List A) → breaks (x ∷ xs) ≡ F.breaches x ++ breaks xs

tail_next : {A : Type 0} {R : Phrase A} {separator : Kind} {a b c d : Lexemes} {x : A} {xs ys : List A} {place : ℕ} →
    ys ≡ x ∷ xs → TakesAt separator place a b → R b x c → Tail separator R c xs d → Tail separator R a ys d
tail_next {A = A} {R = R} {separator = separator} {a = a} {d = d} e t u v =
    let P : List A → Type 0 = λ zs. Tail separator R a zs d in subst P (sym e) (next t u v)

tail_from : {A : Type 0} {R : Phrase A} {separator : Kind} {a b : Lexemes} {y : List A} → Separated separator R a y b →
    (x : A × List A) × (y ≡ x.0 ∷ x.1) × Both R (Tail separator R) a x b
tail_from (Grammar.one {x = x} d) = ((x, []), refl, (_, d, end_of_tail))
tail_from (Grammar.more {x = x} {xs = xs} d t e) =
    let m = tail_from e in
    ((x, xs), refl, (_, d, tail_next m.1 t.1 m.2.1 m.2.2))

tail_into : {A : Type 0} {R : Phrase A} {separator : Kind} {a b c : Lexemes} {x : A} {xs : List A} →
    R a x b → Tail separator R b xs c → Separated separator R a (x ∷ xs) c
tail_into d end_of_tail = Grammar.one d
tail_into d (next {place = place} t e f) = Grammar.more d (place, t) (tail_into e f)

pub leads_separated : {A : Type 0} {separator : Kind} {C : Kind → Bool} {breaks : List A → List Breach} {F : Form A} {tokens : Lexemes} {p : ℕ} →
    Listed separator C breaks F →
    Leads (forms.separated separator C breaks F) tokens p (both F (tail separator C breaks F)) p (λ x. x.0 ∷ x.1)
leads_separated l = record {
  order = omega arith;
  within = λ h. h;
  into = λ other same x rest d. tail_into d.1 d.2;
  onto = λ other same y rest d stops. (let m = tail_from d in (m.0, m.1, m.2, stops));
  breaches = λ x. l.some x.0 x.1;
}

tail_only : {A : Type 0} {R : Phrase A} {separator : Kind} {C : Kind → Bool} {a b rest : Lexemes} {place : ℕ} {y : List A} →
    TakesAt separator place a b → C separator ≡ true → Tail separator R a y rest → Stops C rest →
    (x : ℕ × (A × List A)) × (y ≡ x.1.0 ∷ x.1.1) × Both (λ d q e. TakesAt separator q d e) (Both R (Tail separator R)) a x rest
tail_only t e end_of_tail s = absurd (not_stopped e t s)
tail_only t e (next {x = x} {xs = xs} {place = place} d f g) s = ((place, (x, xs)), refl, (_, d, (_, f, g)))

pub leads_tail : {A : Type 0} {separator : Kind} {C : Kind → Bool} {breaks : List A → List Breach} {F : Form A} {tokens : Lexemes} {p : ℕ} →
    Listed separator C breaks F → kind_at tokens p ≡ Some separator →
    Leads (tail separator C breaks F) tokens p (both (token separator) (both F (tail separator C breaks F))) p (λ x. x.1.0 ∷ x.1.1)
leads_tail l here = record {
  order = omega arith;
  within = λ h. h;
  into = λ other same x rest d. next d.1 d.2.1 d.2.2;
  onto = λ other same y rest d stops. (let m = tail_only (takes_same other here same) l.more d stops in (m.0, m.1, m.2, stops));
  breaches = λ x. l.some x.1.0 x.1.1;
}

no_tail : {A : Type 0} {R : Phrase A} {separator : Kind} {a rest : Lexemes} {y : List A} →
    ((place : ℕ) (b : Lexemes) → TakesAt separator place a b → ⊥) → Tail separator R a y rest → (y ≡ []) × (rest ≡ a)
no_tail h end_of_tail = (refl, refl)
no_tail h (next d e f) = absurd (h _ _ d)

pub reads_no_tail : {A : Type 0} {separator : Kind} {C : Kind → Bool} {breaks : List A → List Breach} {F : Form A} {tokens : Lexemes} {p : ℕ} →
    Listed separator C breaks F → (kind_at tokens p ≡ Some separator → ⊥) → Reads (tail separator C breaks F) tokens p [] p
reads_no_tail l missing = record {
  order = omega arith;
  within = λ h. h;
  sound = λ other same. end_of_tail;
  only = λ other same y rest d stops. no_tail (λ place b t. no_takes_same missing same t) d;
  kept = l.none;
}

pub fill_tail : {A : Type 0} {separator : Kind} {C : Kind → Bool} {breaks : List A → List Breach} {F : Form A} →
    Listed separator C breaks F → Fills (tail separator C breaks F)
fill_tail l = record { more = []; tree = []; derives = λ rest. end_of_tail; kept = l.none }

tail_stops : {A : Type 0} {R : Phrase A} {separator : Kind} {D : Kind → Bool} {a rest : Lexemes} {y : List A} →
    D separator ≡ false → Tail separator R a y rest → Stops D rest → Stops D a
tail_stops e end_of_tail s = s
tail_stops e (next t d f) s = stops_at e t

-- a phrase and what stands behind it in a list
pub tail_follows : {A : Type 0} {separator : Kind} {C : Kind → Bool} {breaks : List A → List Breach} {F : Form A} →
    Listed separator C breaks F → Follows F (tail separator C breaks F)
tail_follows l = record { stops = λ a x rest d s. tail_stops l.stops d (weaker l.inner s) }

separated_begins : {A : Type 0} {R : Phrase A} {separator : Kind} {a rest : Lexemes} {y : List A} → Separated separator R a y rest →
    (x : A) × (b : Lexemes) × R a x b
separated_begins (Grammar.one {b = b} {x = x} d) = (x, b, d)
separated_begins (Grammar.more {b = b} {x = x} d t e) = (x, b, d)

pub begins_separated : {A : Type 0} {separator : Kind} {C : Kind → Bool} {breaks : List A → List Breach} {F : Form A} {kind : Kind} →
    Begins F kind → Begins (forms.separated separator C breaks F) kind
begins_separated h = record {
  begins = λ a x rest d. (let m = separated_begins d in h.begins a m.0 m.1 m.2);
}

pub fill_separated : {A : Type 0} {separator : Kind} {C : Kind → Bool} {breaks : List A → List Breach} {F : Form A} →
    Listed separator C breaks F → Fills F → Fills (forms.separated separator C breaks F)
fill_separated {breaks = breaks} l f = record {
  more = f.more;
  tree = f.tree ∷ [];
  derives = λ rest. Grammar.one (f.derives rest);
  kept = l.some f.tree [] ∙ ap (λ ds. ds ++ breaks []) f.kept ∙ l.none;
}
