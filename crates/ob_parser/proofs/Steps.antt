-- How facts on phrases go together: each lemma once, over any form.
use Rattle.std.proofs.Common.{◌≡◌, ℕ, suc, ◌<◌, ◌≤◌, Bool, true, false, List, [], ◌∷◌, ◌++◌, drop, Option, Some, refl, sym, ◌∙◌, ap, subst, arith, option_map, zero, take, length, append_assoc, slice_get}
use Rattle.std.specs.Option.{option_map_or}
use Rattle.std.proofs.lemmas.List.Elements.{Contains-append_left}
use Rattle.ob_scan.specs.declared.token.Kind.{Kind}
use Rattle.ob_scan.specs.Lexemes.{Lexeme, lexeme, place_of}
use Rattle.ob_grammar.specs.Grammar.{Lexemes, TakesAt, takes}
use Rattle.ob_grammar.specs.EndNamesAndNesting.{Breach}
use Rattle.ob_parser.specs.Reading.{Form, Sequel, behind_part, Same, Stops, Reads, Reason, unexpected, breaks, Explains, Refuses, kind_of, kind_at, place_at, GoesOnWell}
use Rattle.ob_parser.specs.Forms.{nothing, token, both, linked}

-- What is left of F at p is G at q, and f makes the tree of F of the tree of G.
pub record Leads {A B : Type 0} (F : Form A) (tokens : Lexemes) (p : ℕ) (G : Form B) (q : ℕ) (f : B → A) : Type 0 where
  pub order : p ≤ q
  pub within : p ≤ length tokens → q ≤ length tokens
  pub into : (other : Lexemes) → Same q tokens other →
      (x : B) (rest : Lexemes) → G.relation (drop q other) x rest → F.relation (drop p other) (f x) rest
  pub onto : (other : Lexemes) → Same (suc q) tokens other →
      (y : A) (rest : Lexemes) → F.relation (drop p other) y rest → Stops F.continues rest →
      (x : B) × (y ≡ f x) × G.relation (drop q other) x rest × Stops G.continues rest
  pub breaches : (x : B) → F.breaches (f x) ≡ G.breaches x

pub shorter : {m n : ℕ} {tokens other : Lexemes} → m ≤ n → Same n tokens other → Same m tokens other
shorter h s = record { at = λ i below. s.at i (omega arith) }

same_take : (tokens : Lexemes) (n : ℕ) (more : Lexemes) (j : ℕ) → j < n → n ≤ length tokens → slice_get (take n tokens ++ more) j ≡ slice_get tokens j
same_take [] zero more j h k = absurd (omega arith)
same_take [] (suc n) more j h k = absurd (omega arith)
same_take (t ∷ tokens) zero more j h k = absurd (omega arith)
same_take (t ∷ tokens) (suc n) more zero h k = refl
same_take (t ∷ tokens) (suc n) more (suc j) h k = same_take tokens n more j (omega arith) (omega arith)

pub same_before : (tokens : Lexemes) (n : ℕ) (more : Lexemes) → n ≤ length tokens → Same n tokens (take n tokens ++ more)
same_before tokens n more h = record { at = λ j below. same_take tokens n more j below h }

pub drop_before : (tokens : Lexemes) (n : ℕ) (more : Lexemes) → n ≤ length tokens → drop n (take n tokens ++ more) ≡ more
drop_before [] zero more h = refl
drop_before [] (suc n) more h = absurd (omega arith)
drop_before (t ∷ tokens) zero more h = refl
drop_before (t ∷ tokens) (suc n) more h = drop_before tokens n more (omega arith)

-- a phrase of some tokens that keeps the conditions
pub record Fills {A : Type 0} (F : Form A) : Type 0 where
  pub more : Lexemes
  pub tree : A
  pub derives : (rest : Lexemes) → F.relation (more ++ rest) tree rest
  pub kept : F.breaches tree ≡ []

-- at the place where a phrase begins, it may stand
pub alive_here : {A : Type 0} {F : Form A} (tokens : Lexemes) (p : ℕ) → Fills F → p ≤ length tokens → GoesOnWell F (take p tokens) p
alive_here {F = F} tokens p fills h = record {
  goes_on = record {
    more = fills.more;
    tree = fills.tree;
    derives = λ rest.
        (let P : Lexemes → Type 0 = λ l. F.relation l fills.tree rest in
        subst P (sym (drop_before tokens p (fills.more ++ rest) h)) (fills.derives rest));
  };
  kept = fills.kept;
}

pub itself : (n : ℕ) (tokens : Lexemes) → Same n tokens tokens
itself n tokens = record { at = λ i below. refl }

pub leads_on : {A B C : Type 0} {F : Form A} {G : Form B} {H : Form C} {tokens : Lexemes} {p q r : ℕ} {f : B → A} {g : C → B} →
    Leads F tokens p G q f → Leads G tokens q H r g → Leads F tokens p H r (λ x. f (g x))
leads_on {F = F} {G = G} {H = H} {f = f} {g = g} a b = record {
  order = (let h1 = a.order in let h2 = b.order in omega arith);
  within = λ h. b.within (a.within h);
  into = λ other same x rest d. (let k = b.order in a.into other (shorter (omega arith) same) (g x) rest (b.into other same x rest d));
  onto = λ other same y rest d stops.
      (let k = b.order in
      let m = a.onto other (shorter (omega arith) same) y rest d stops in
      let n = b.onto other same m.0 rest m.2 m.3 in
      (n.0, m.1 ∙ ap f n.1, n.2, n.3));
  breaches = λ x. a.breaches (g x) ∙ b.breaches x;
}

pub leads_itself : {A : Type 0} {F : Form A} {tokens : Lexemes} {p : ℕ} → Leads F tokens p F p (λ x. x)
leads_itself = record {
  order = omega arith;
  within = λ h. h;
  into = λ other same x rest d. d;
  onto = λ other same y rest d stops. (y, refl, d, stops);
  breaches = λ x. refl;
}

-- the tree may be made in another way
pub leads_as : {A B : Type 0} {F : Form A} {G : Form B} {tokens : Lexemes} {p q : ℕ} {f g : B → A} →
    ((x : B) → f x ≡ g x) → Leads F tokens p G q f → Leads F tokens p G q g
leads_as {A = A} {F = F} {tokens = tokens} {p = p} e a = record {
  order = a.order;
  within = a.within;
  into = λ other same x rest d. (let P : A → Type 0 = λ y. F.relation (drop p other) y rest in subst P (e x) (a.into other same x rest d));
  onto = λ other same y rest d stops.
      (let m = a.onto other same y rest d stops in (m.0, m.1 ∙ e m.0, m.2, m.3));
  breaches = λ x. sym (ap F.breaches (e x)) ∙ a.breaches x;
}

pub leads_reads : {A B : Type 0} {F : Form A} {G : Form B} {tokens : Lexemes} {p q r : ℕ} {f : B → A} {x : B} →
    Leads F tokens p G q f → Reads G tokens q x r → Reads F tokens p (f x) r
leads_reads {F = F} {G = G} {tokens = tokens} {r = r} {f = f} {x = x} a b = record {
  order = (let h1 = a.order in let h2 = b.order in omega arith);
  within = λ h. b.within (a.within h);
  sound = λ other same. (let k = b.order in a.into other (shorter (omega arith) same) x (drop r other) (b.sound other same));
  only = λ other same y rest d stops.
      (let k = b.order in
      let m = a.onto other (shorter (omega arith) same) y rest d stops in
      let n = b.only other same m.0 rest m.2 m.3 in
      (m.1 ∙ ap f n.0, n.1));
  kept = a.breaches x ∙ b.kept;
}

pub leads_refuses : {A B : Type 0} {F : Form A} {G : Form B} {tokens : Lexemes} {p q r : ℕ} {f : B → A} {reason : Reason} →
    Leads F tokens p G q f → Refuses G tokens q reason r → Refuses F tokens p reason r
leads_refuses {F = F} {G = G} {tokens = tokens} {r = r} {f = f} {reason = reason} a b = record {
  order = (let h1 = a.order in let h2 = b.order in omega arith);
  never = λ other same y rest d stops.
      (let k = b.order in
      let m = a.onto other (shorter (omega arith) same) y rest d stops in
      let n = b.never other same m.0 rest m.2 m.3 in
      let P : List Breach → Type 0 = λ breaches. Explains reason breaches in
      subst P (sym (ap F.breaches m.1 ∙ a.breaches m.0)) n);
  within = λ h. b.within (a.within h);
  alive = λ h.
      (let k = b.order in
      let m = b.alive (a.within h) in
      let g = m.goes_on in record {
        goes_on = record {
          more = g.more;
          tree = f g.tree;
          derives = λ rest.
              a.into (take r tokens ++ (g.more ++ rest))
              (shorter (omega arith) (same_before tokens r (g.more ++ rest) (b.within (a.within h)))) g.tree rest (g.derives rest);
        };
        kept = a.breaches g.tree ∙ m.kept;
      });
  there = b.there;
  reached = λ breach h.
      (let k = b.order in
      let g = b.reached breach (a.within h) in record {
        more = g.more;
        tree = f g.tree;
        derives = λ rest.
            a.into (take (suc r) tokens ++ (g.more ++ rest))
            (shorter (omega arith) (same_before tokens (suc r) (g.more ++ rest) (let t = b.there breach in omega arith)))
            g.tree rest (g.derives rest);
      });
}

-- what stands in front of G does not continue F
pub record Follows {A B : Type 0} (F : Form A) (G : Form B) : Type 0 where
  pub stops : (a : Lexemes) (x : B) (rest : Lexemes) → G.relation a x rest → Stops G.continues rest → Stops F.continues a

-- behind a first phrase that was read, the second one is left
pub leads_second : {A B : Type 0} {F : Form A} {S : Sequel A B} {tokens : Lexemes} {p q : ℕ} {x : A} →
    ((z : A) → Follows F (behind_part S z)) → Reads F tokens p x q → Leads (linked F S) tokens p (behind_part S x) q (λ y. (x, y))
leads_second {F = F} {S = S} {tokens = tokens} {q = q} {x = x} follows a = record {
  order = a.order;
  within = a.within;
  into = λ other same y rest d. (drop q other, a.sound other same, d);
  onto = λ other same y rest d stops.
      (let m = a.only other same y.0 d.0 d.1 ((follows y.0).stops d.0 y.1 rest d.2 stops) in
      let P : Lexemes → Type 0 = λ b. S.relation b y.1 rest in
      (y.1, ap (λ k. (k, y.1)) m.0, subst P m.1 d.2, stops));
  breaches = λ y. ap (λ ds. ds ++ S.breaches x y) a.kept;
}

explains_first : (reason : Reason) (first more : List Breach) → Explains reason first → Explains reason (first ++ more)
explains_first unexpected first more h = h
explains_first (breaks breach) first more h = Contains-append_left first more breach h

-- a first phrase that is refused
pub first_refuses : {A B : Type 0} {F : Form A} {S : Sequel A B} {tokens : Lexemes} {p q : ℕ} {reason : Reason} →
    ((z : A) → Follows F (behind_part S z)) → ((z : A) → Fills (behind_part S z)) →
    Refuses F tokens p reason q → Refuses (linked F S) tokens p reason q
first_refuses {F = F} {S = S} {tokens = tokens} {p = p} {q = q} {reason = reason} follows fills a = record {
  order = a.order;
  never = λ other same y rest d stops.
      explains_first reason _ _ (a.never other same y.0 d.0 d.1 ((follows y.0).stops d.0 y.1 rest d.2 stops));
  within = a.within;
  alive = λ h.
      (let m = a.alive h in
      let x = m.goes_on.tree in
      let g = fills x in record {
        goes_on = record {
          more = m.goes_on.more ++ g.more;
          tree = (x, g.tree);
          derives = λ rest.
              (let P : Lexemes → Type 0 = λ l. (linked F S).relation (drop p (take q tokens ++ l)) (x, g.tree) rest in
              subst P (sym (append_assoc m.goes_on.more g.more rest))
              (g.more ++ rest, m.goes_on.derives (g.more ++ rest), g.derives rest));
        };
        kept = ap (λ ds. ds ++ S.breaches x g.tree) m.kept ∙ g.kept;
      });
  there = a.there;
  reached = λ breach h.
      (let m = a.reached breach h in
      let g = fills m.tree in record {
        more = m.more ++ g.more;
        tree = (m.tree, g.tree);
        derives = λ rest.
            (let P : Lexemes → Type 0 = λ l. (linked F S).relation (drop p (take (suc q) tokens ++ l)) (m.tree, g.tree) rest in
            subst P (sym (append_assoc m.more g.more rest))
            (g.more ++ rest, m.derives (g.more ++ rest), g.derives rest));
      });
}

-- tokens

pub lexeme_there : (tokens : Lexemes) (p : ℕ) {kind : Kind} → kind_at tokens p ≡ Some kind →
    (bytes : List ℕ) × (slice_get tokens p ≡ Some (lexeme kind (place_at 0 tokens p) bytes))
lexeme_there [] p e = absurd (cc)
lexeme_there (lexeme k place bytes ∷ tokens) zero e =
    let same : k ≡ _ = cc in
    (bytes, ap (λ k. Some (lexeme k place bytes)) same)
lexeme_there (t ∷ tokens) (suc p) e = lexeme_there tokens p e

pub same_kind : {n i : ℕ} {tokens other : Lexemes} → Same n tokens other → i < n → kind_at other i ≡ kind_at tokens i
same_kind {i = i} s below = ap (option_map kind_of) (s.at i below)

pub same_place : {n i : ℕ} {tokens other : Lexemes} → Same n tokens other → i < n → place_at 0 other i ≡ place_at 0 tokens i
same_place {i = i} s below = ap (λ (t : Option Lexeme). option_map_or place_of t 0) (s.at i below)

pub takes_at : (tokens : Lexemes) (p : ℕ) {kind : Kind} → kind_at tokens p ≡ Some kind →
    TakesAt kind (place_at 0 tokens p) (drop p tokens) (drop (suc p) tokens)
takes_at [] p e = absurd (cc)
takes_at (lexeme k place bytes ∷ tokens) zero e =
    let P : Kind → Type 0 = λ l. TakesAt l place (lexeme k place bytes ∷ tokens) tokens in
    let same : k ≡ _ = cc in
    subst P same takes
takes_at (t ∷ tokens) (suc p) e = takes_at tokens p e

takes_first : {t : Lexeme} {kind : Kind} {a b : Lexemes} {place : ℕ} →
    TakesAt kind place (t ∷ a) b → (kind_of t ≡ kind) × (place ≡ place_of t) × (b ≡ a)
takes_first takes = (refl, refl, refl)

takes_none : {kind : Kind} {b : Lexemes} {place : ℕ} → TakesAt kind place [] b → ⊥
takes_none h = elim h [ ]

-- one token stands in one place
pub same_token : {k l : Kind} {p q : ℕ} {a b c : Lexemes} → TakesAt k p a b → TakesAt l q a c → (l ≡ k) × (q ≡ p) × (c ≡ b)
same_token takes takes = (refl, refl, refl)

pub takes_at_only : (tokens : Lexemes) (p : ℕ) {kind : Kind} {b : Lexemes} {place : ℕ} →
    TakesAt kind place (drop p tokens) b → (kind_at tokens p ≡ Some kind) × (place ≡ place_at 0 tokens p) × (b ≡ drop (suc p) tokens)
takes_at_only [] zero h = absurd (takes_none h)
takes_at_only [] (suc p) h = absurd (takes_none h)
takes_at_only (t ∷ tokens) zero h = let m = takes_first h in (ap Some m.0, m.1, m.2)
takes_at_only (t ∷ tokens) (suc p) h = takes_at_only tokens p h

pub kind_within : (tokens : Lexemes) (p : ℕ) (kind : Kind) → kind_at tokens p ≡ Some kind → p < length tokens
kind_within [] p kind h = absurd (cc)
kind_within (t ∷ tokens) zero kind h = omega arith
kind_within (t ∷ tokens) (suc p) kind h = let k = kind_within tokens p kind h in omega arith

pub fill_token : {kind : Kind} → Fills (token kind)
fill_token {kind = kind} = record { more = lexeme kind 0 [] ∷ []; tree = 0; derives = λ rest. takes; kept = refl }

pub fill_linked : {A B : Type 0} {F : Form A} {S : Sequel A B} → Fills F → ((x : A) → Fills (behind_part S x)) → Fills (linked F S)
fill_linked {F = F} {S = S} f h =
    let g = h f.tree in record {
      more = f.more ++ g.more;
      tree = (f.tree, g.tree);
      derives = λ rest.
          (let P : Lexemes → Type 0 = λ l. (linked F S).relation l (f.tree, g.tree) rest in
          subst P (sym (append_assoc f.more g.more rest)) (g.more ++ rest, f.derives (g.more ++ rest), g.derives rest));
      kept = ap (λ ds. ds ++ S.breaches f.tree g.tree) f.kept ∙ g.kept;
    }

-- a second phrase that does not hang on the first
abbrev pub always : {A B : Type 0} → Form B → Sequel A B
always G = record { relation = G.relation; continues = G.continues; breaches = λ x. G.breaches }

pub fill_both : {A B : Type 0} {F : Form A} {G : Form B} → Fills F → Fills G → Fills (both F G)
fill_both {F = F} {G = G} f g = fill_linked {F = F} {S = always G} f (λ x. g)

pub reads_token : {kind : Kind} {tokens : Lexemes} {p : ℕ} →
    kind_at tokens p ≡ Some kind → Reads (token kind) tokens p (place_at 0 tokens p) (suc p)
reads_token {kind = kind} {tokens = tokens} {p = p} e = record {
  order = omega arith;
  within = λ h. (let k = kind_within tokens p kind e in omega arith);
  sound = λ other same.
      (let below : p < suc p = omega arith in
      let P : ℕ → Type 0 = λ place. TakesAt kind place (drop p other) (drop (suc p) other) in
      subst P (same_place same below) (takes_at other p (same_kind same below ∙ e)));
  only = λ other same y rest d stops.
      (let m = takes_at_only other p d in
      let below : p < suc (suc p) = omega arith in
      (m.1 ∙ same_place same below, m.2));
  kept = refl;
}

pub refuses_token : {kind : Kind} {tokens : Lexemes} {p : ℕ} →
    (kind_at tokens p ≡ Some kind → ⊥) → Refuses (token kind) tokens p unexpected p
refuses_token {tokens = tokens} {p = p} missing = record {
  order = omega arith;
  never = λ other same y rest d stops.
      (let below : p < suc p = omega arith in
      missing (sym (same_kind same below) ∙ (takes_at_only other p d).0));
  within = λ h. h;
  alive = alive_here tokens p fill_token;
  there = λ breach. absurd breach;
  reached = λ breach. absurd breach;
}

-- in tokens that are the same up to the one at p, the same kind of token stands there
pub takes_same : {kind : Kind} {tokens : Lexemes} {p : ℕ} (other : Lexemes) →
    kind_at tokens p ≡ Some kind → Same (suc p) tokens other → TakesAt kind (place_at 0 other p) (drop p other) (drop (suc p) other)
takes_same {p = p} other e same =
    let below : p < suc p = omega arith in
    takes_at other p (same_kind same below ∙ e)

pub no_takes_same : {kind : Kind} {tokens b other : Lexemes} {p place : ℕ} →
    (kind_at tokens p ≡ Some kind → ⊥) → Same (suc p) tokens other → TakesAt kind place (drop p other) b → ⊥
no_takes_same {other = other} {p = p} missing same h =
    let below : p < suc p = omega arith in
    missing (sym (same_kind same below) ∙ (takes_at_only other p h).0)

-- what may follow

pub nothing_stops : (rest : Lexemes) → Stops nothing rest
nothing_stops [] = record { by = tt }
nothing_stops (t ∷ rest) = record { by = refl }

pub stops_at : {continues : Kind → Bool} {kind : Kind} {a b : Lexemes} {place : ℕ} →
    continues kind ≡ false → TakesAt kind place a b → Stops continues a
stops_at e takes = record { by = e }

pub not_stopped : {continues : Kind → Bool} {kind : Kind} {a b : Lexemes} {place : ℕ} →
    continues kind ≡ true → TakesAt kind place a b → Stops continues a → ⊥
not_stopped e takes s = let h = s.by in cc

pub weaker : {C D : Kind → Bool} {a : Lexemes} → ((k : Kind) → C k ≡ false → D k ≡ false) → Stops C a → Stops D a
weaker {a = []} h s = record { by = tt }
weaker {a = t ∷ rest} h s = record { by = h (kind_of t) s.by }

-- before a token that does not continue F
pub before : {A B : Type 0} {F : Form A} {kind : Kind} (G : Form B) → F.continues kind ≡ false → Follows F (both (token kind) G)
before G e = record { stops = λ a x rest d s. stops_at e d.1 }

pub before_last : {A : Type 0} {F : Form A} {kind : Kind} → F.continues kind ≡ false → Follows F (token kind)
before_last e = record { stops = λ a x rest d s. stops_at e d }

-- before anything, where nothing continues F
pub closed : {A B : Type 0} {F : Form A} {G : Form B} → ((k : Kind) → F.continues k ≡ false) → Follows F G
closed h = record { stops = λ a x rest d s. weaker (λ k e. h k) (nothing_stops a) }

-- each phrase begins with a token of this kind
pub record Begins {A : Type 0} (F : Form A) (kind : Kind) : Type 0 where
  pub begins : (a : Lexemes) (x : A) (rest : Lexemes) → F.relation a x rest → (place : ℕ) × (b : Lexemes) × TakesAt kind place a b

-- no phrase stands where its first token does not
pub refuses_beginning : {A : Type 0} {F : Form A} {kind : Kind} {tokens : Lexemes} {p : ℕ} → Begins F kind → Fills F →
    (kind_at tokens p ≡ Some kind → ⊥) → Refuses F tokens p unexpected p
refuses_beginning {tokens = tokens} {p = p} h fills missing = record {
  order = omega arith;
  never = λ other same y rest d stops. no_takes_same missing same (h.begins (drop p other) y rest d).2;
  within = λ h. h;
  alive = alive_here tokens p fills;
  there = λ breach. absurd breach;
  reached = λ breach. absurd breach;
}

pub begins_both : {A B : Type 0} {F : Form A} {kind : Kind} (G : Form B) → Begins F kind → Begins (both F G) kind
begins_both G h = record { begins = λ a x rest d. h.begins a x.0 d.0 d.1 }

-- before a phrase that begins with a token that does not continue F
pub before_beginning : {A B : Type 0} {F : Form A} {G : Form B} {kind : Kind} → Begins G kind → F.continues kind ≡ false → Follows F G
before_beginning h e = record { stops = λ a x rest d s. stops_at e (h.begins a x rest d).2 }

-- what stands in front of G does not continue F, if what stands behind it does not
pub record Passes {A B : Type 0} (F : Form A) (G : Form B) : Type 0 where
  pub passes : (a : Lexemes) (x : B) (rest : Lexemes) → G.relation a x rest → Stops F.continues rest → Stops F.continues a

pub across : {A B C : Type 0} {F : Form A} {G : Form B} {H : Form C} → Passes F G → Follows F H → Follows F (both G H)
across g h = record { stops = λ a x rest d s. g.passes a x.0 d.0 d.1 (h.stops d.0 x.1 rest d.2 s) }

pub across_last : {A B : Type 0} {F : Form A} {G : Form B} → Passes F G → ((k : Kind) → G.continues k ≡ false → F.continues k ≡ false) → Follows F G
across_last g h = record { stops = λ a x rest d s. g.passes a x rest d (weaker h s) }
