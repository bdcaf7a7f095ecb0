-- From the phrase of the whole text to what `parse` answers.
use Rattle.std.proofs.Common.{◌≡◌, ℕ, suc, zero, ◌<◌, ◌≤◌, true, false, [], ◌∷◌, ◌++◌, take, drop, length, slice_get, Option, Some, None, refl, sym, ◌∙◌, ap, subst, arith, ◌⊎◌, inl, inr, option_map, is_some}
use Rattle.std.specs.Option.{option_map_or}
use Rattle.std.proofs.lemmas.Option.{slice_get_within}
use Rattle.std.proofs.lemmas.List.{append-nil, take_all}
use Rattle.ob_parser.specs.declared.parser.ParseFault.{ParseFault}
use Rattle.ob_parser.specs.declared.parser.ParseFault.TheVariants.{Unexpected, TooDeep, NameDiffers, NoMemory}
use Rattle.ob_scan.specs.declared.token.Lent.{Lent}
use Rattle.ob_scan.specs.Tokens.{TokenizedText, HasTokens}
use Rattle.ob_scan.specs.Lexemes.{Lexeme, place_of}
use Rattle.ob_grammar.specs.Tree.{Module}
use Rattle.ob_grammar.specs.Grammar.{Lexemes, Derives, BeginsModule}
use Rattle.ob_grammar.specs.EndNamesAndNesting.{Breach, name_differs, too_deep, breaches, NameDiffersAt, TooDeepAt}
use Rattle.ob_grammar.specs.Texts.{HasText}
use Rattle.ob_scan.proofs.TokenFacts.{lexemes_spelled}
use Rattle.ob_parser.specs.ParseFaults.{lexemes_of, BeginsGoodModule, HasPlace, BreaksCondition, IsParseFault}
use Rattle.ob_parser.specs.Reading.{Same, Explains, breaks, Reads, Refuses, GoesOn, GoesOnWell, place_at}
use Rattle.ob_parser.specs.Forms as forms
use Rattle.ob_scan.specs.Sources.{State, Stands, lexeme_of}
use Rattle.ob_parser.specs.Answers.{place_of_fault, Went, Fails, ReadsModule, FailsModule}
use Rattle.ob_parser.proofs.Steps.{same_before, drop_before, itself, nothing_stops}
use Rattle.ob_parser.proofs.States.{fault_there}

-- the faults

same_front : (tokens : Lexemes) (i : ℕ) (more : Lexemes) → i < length tokens → Same (suc i) tokens (take (suc i) tokens ++ more)
same_front tokens i more h = same_before tokens (suc i) more (omega arith)

begins : (tokens : Lexemes) → GoesOnWell forms.module_text tokens 0 → BeginsGoodModule tokens
begins tokens h =
    let g = h.goes_on in
    let P : Lexemes → Type 0 = λ l. forms.module_text.relation (tokens ++ l) g.tree [] in
    (g.more, g.tree, subst P (append-nil g.more) (g.derives []), h.kept)

goes_on : (tokens : Lexemes) → GoesOn forms.module_text tokens 0 → BeginsModule tokens
goes_on tokens g =
    let P : Lexemes → Type 0 = λ l. forms.module_text.relation (tokens ++ l) g.tree [] in
    (g.more, g.tree, subst P (append-nil g.more) (g.derives []))

token_or_end : (tokens : Lexemes) (i : ℕ) → ((t : Lexeme) × (slice_get tokens i ≡ Some t)) ⊎ (slice_get tokens i ≡ None)
token_or_end [] i = inr refl
token_or_end (t ∷ tokens) zero = inl (t, refl)
token_or_end (t ∷ tokens) (suc i) = token_or_end tokens i

past_end : (tokens : Lexemes) (i : ℕ) → slice_get tokens i ≡ None → length tokens ≤ i
past_end [] i e = omega arith
past_end (t ∷ tokens) zero e = absurd (cc)
past_end (t ∷ tokens) (suc i) e = let h = past_end tokens i e in omega arith

-- the token at i is at fault, or the end
unexpected_fault : (source : TokenizedText) (place i : ℕ) → place ≡ place_at (length source.text) (lexemes_of source) i →
    BeginsGoodModule (take i (lexemes_of source)) →
    (i < length (lexemes_of source) → BeginsModule (take (suc i) (lexemes_of source)) → ⊥) →
    (length (lexemes_of source) ≤ i → (m : Module) → Derives (lexemes_of source) m → ⊥) →
    IsParseFault source (Unexpected place)
unexpected_fault source place i e good none_here none_at_all =
    let tokens = lexemes_of source in
    let end : ℕ = length source.text in
    let at : Option Lexeme → ℕ = λ t. option_map_or place_of t end in
    elim (token_or_end tokens i) [
      | inl t ↦ inl (record {
        index = i;
        there = ap (option_map place_of) t.1 ∙ ap Some (sym (e ∙ ap at t.1));
        before = good;
        none = none_here (slice_get_within tokens i t.0 t.1);
      })
      | inr n ↦ (let past = past_end tokens i n in
          let P : Lexemes → Type 0 = λ l. BeginsGoodModule l in
          inr (record { there = e ∙ ap at n; before = subst P (take_all i tokens past) good; none = none_at_all past }))
    ]

-- the token at i breaks a condition
breaks_fault : {IsBroken : Module → ℕ → Type 0} (breach : Breach) (tokens : Lexemes) (place i : ℕ) → HasPlace tokens i place →
    ((m : Module) → Explains (breaks breach) (breaches m) → IsBroken m place) →
    Refuses forms.module_text tokens 0 (breaks breach) i → BreaksCondition IsBroken tokens place
breaks_fault breach tokens place i h at r = record {
  index = i;
  there = h;
  before = begins (take i tokens) (r.alive (omega arith));
  some = goes_on (take (suc i) tokens) (r.reached tt (omega arith));
  broken = λ more m d. at m (r.never (take (suc i) tokens ++ more) (same_front tokens i more (r.there tt)) m [] d (nothing_stops []));
}

faults : (s t : State) (source : TokenizedText) (e : ParseFault) → Stands s source 0 → Fails forms.module_text s e t → IsParseFault source e
faults s t source (Unexpected place) w f =
    let tokens = lexemes_of source in
    let m = f.refuses source 0 w in
    let i = m.0 in
    let r = m.2 in
    unexpected_fault source place i m.1 (begins (take i tokens) (r.alive (omega arith)))
    (λ below b. r.never (take (suc i) tokens ++ b.0) (same_front tokens i b.0 below) b.1 [] b.2 (nothing_stops []))
    (λ past m d. r.never tokens (itself _ tokens) m [] d (nothing_stops []))
faults s t source (TooDeep place) w f =
    let m = f.refuses source 0 w in
    breaks_fault {IsBroken = TooDeepAt} (too_deep place) (lexemes_of source) place m.0 m.1 (λ m b. b) m.2
faults s t source (NameDiffers place) w f =
    let m = f.refuses source 0 w in
    breaks_fault {IsBroken = NameDiffersAt} (name_differs place) (lexemes_of source) place m.0 m.1 (λ m b. b) m.2
faults s t source NoMemory w f = tt

still : (s t : State) (e : ParseFault) → Fails forms.module_text s e t → (e ≡ NoMemory → ⊥) → t.text ≡ s.text
still s t (Unexpected place) f numbered = f.kept
still s t (TooDeep place) f numbered = f.kept
still s t (NameDiffers place) f numbered = f.kept
still s t NoMemory f numbered = absurd (numbered refl)

-- a fault of the module is one of the whole text
pub whole_fails : (s t : State) (e : ParseFault) → Fails forms.module_text s e t → FailsModule s e t
whole_fails s t e f = record { kept = still s t e f; fails = λ source w. faults s t source e w f }

-- the module

drop_past : (tokens : Lexemes) (q : ℕ) → length tokens ≤ q → drop q tokens ≡ []
drop_past [] zero h = refl
drop_past [] (suc q) h = refl
drop_past (t ∷ tokens) zero h = absurd (omega arith)
drop_past (t ∷ tokens) (suc q) h = drop_past tokens q (omega arith)

derived : (source : TokenizedText) (m : Module) (q : ℕ) → Reads forms.module_text (lexemes_of source) 0 m q →
    slice_get (lexemes_of source) q ≡ None → Derives (lexemes_of source) m
derived source m q h n =
    let tokens = lexemes_of source in
    let P : Lexemes → Type 0 = λ rest. forms.module_text.relation tokens m rest in
    subst P (drop_past tokens q (past_end tokens q n)) (h.sound tokens (itself _ tokens))

-- no other module is the whole text, since nothing follows it
alone : (source : TokenizedText) (m : Module) (q : ℕ) → Reads forms.module_text (lexemes_of source) 0 m q →
    (other : Module) → Derives (lexemes_of source) other → other ≡ m
alone source m q h other d = let tokens = lexemes_of source in (h.only tokens (itself _ tokens) other [] d (nothing_stops [])).0

none_at_end : (tokens : Lexemes) (q : ℕ) → [] ≡ drop q tokens → slice_get tokens q ≡ None
none_at_end [] q h = refl
none_at_end (t ∷ tokens) zero h = absurd (cc)
none_at_end (t ∷ tokens) (suc q) h = none_at_end tokens q h

-- a token behind the module
too_long : (source : TokenizedText) (m : Module) (q place : ℕ) (t : Lexeme) → Reads forms.module_text (lexemes_of source) 0 m q →
    slice_get (lexemes_of source) q ≡ Some t → place ≡ place_at (length source.text) (lexemes_of source) q →
    IsParseFault source (Unexpected place)
too_long source m q place t h here e =
    let tokens = lexemes_of source in
    let below : q < length tokens = slice_get_within tokens q t here in
    let P : Lexemes → Type 0 = λ rest. forms.module_text.relation (take q tokens ++ []) m rest in
    let good : BeginsGoodModule (take q tokens) = (
      [],
      m,
      subst P (drop_before tokens q [] (omega arith)) (h.sound (take q tokens ++ []) (same_before tokens q [] (omega arith))),
      h.kept,
    ) in
    unexpected_fault source place q e good
    (λ more b.
    (let other : Lexemes = take (suc q) tokens ++ b.0 in
    let same = same_front tokens q b.0 below in
    let k = h.only other same b.1 [] b.2 (nothing_stops []) in
    let nil = none_at_end other q k.1 in
    let one = same.at q (omega arith) in
    cc))
    (λ past y d. absurd (omega arith))

-- the text behind the module

pub token_of : (o : Option Lent) → true ≡ is_some o → (t : Lexeme) × (option_map lexeme_of o ≡ Some t)
token_of None e = absurd (cc)
token_of (Some t) e = (lexeme_of t, refl)

pub none_of : (o : Option Lent) → false ≡ is_some o → option_map lexeme_of o ≡ None
none_of None e = refl
none_of (Some t) e = absurd (cc)

-- a token stands behind the module
pub goes_past : {s t : State} (m : Module) (here : Lexeme) (r : ParseFault) → Went forms.module_text s m t → t.here ≡ Some here →
    r ≡ Unexpected (place_of_fault t) → FailsModule s r t
goes_past m here r went more fault = record {
  kept = λ numbered. went.kept;
  fails = λ source w.
      (let read = went.reads source 0 w in
      let P : ParseFault → Type 0 = λ e. IsParseFault source e in
      subst P (sym (fault ∙ ap Unexpected (fault_there read.1)))
      (too_long source m read.0 _ here read.2 (read.1.next ∙ more) refl));
}

-- the module is the whole text
pub whole_reads : {s t : State} (m : Module) → Went forms.module_text s m t → t.here ≡ None → ReadsModule s m t
whole_reads m went none = record {
  kept = went.kept;
  derives = λ source w. (let read = went.reads source 0 w in derived source m read.0 read.2 (read.1.next ∙ none));
  alone = λ source w. (let read = went.reads source 0 w in alone source m read.0 read.2);
  keeps = λ source w. (went.reads source 0 w).2.kept;
}

-- tokens with spellings derive the module
pub has_text : (source : TokenizedText) (m : Module) → HasTokens source.text source.tokens → Derives (lexemes_of source) m → HasText m
has_text source m scanned derives = record { tokens = lexemes_of source; spelled = lexemes_spelled scanned; derives = derives }
