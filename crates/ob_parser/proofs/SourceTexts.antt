-- What the parser has answered of a source that scans a text, once all of the text is scanned.
use Rattle.std.proofs.Common.{◌≡◌, ◌≢◌, ℕ, suc, ◌<◌, List, ◌++◌, length, take, drop, ap, sym, ◌∙◌, subst, inl, inr, refl, arith}
use Rattle.std.proofs.lemmas.List.{take-append-drop}
use Rattle.ob_scan.specs.Tokens.{HasTokens, TokenizedText}
use Rattle.ob_grammar.specs.EndNamesAndNesting.{KeepsConditions, breaches}
use Rattle.ob_grammar.specs.Grammar.{Derives, Lexemes}
use Rattle.ob_grammar.specs.Texts.{HasText, IsTextOf}
use Rattle.ob_grammar.specs.Tree.{Module}
use Rattle.ob_scan.specs.Scanned.{Scan, HasSomeTokens, scanned, Begins}
use Rattle.ob_parser.specs.declared.parser.ParseFault.{ParseFault}
use Rattle.ob_parser.specs.declared.parser.ParseFault.TheVariants.{Unexpected, TooDeep, NameDiffers, NoMemory}
use Rattle.ob_parser.specs.ParseFaults.{lexemes_of, BreaksCondition, IsParseFault, IsParseFaultOf}
use Rattle.ob_parser.specs.declared.parser.source.SourceFault.TheVariants.{Parse}
use Rattle.ob_parser.specs.SourceFaults.{IsSourceFault}
use Rattle.ob_parser.specs.Answers.{ReadsModule, FailsModule}
use Rattle.ob_parser.proofs.Whole.{has_text}

-- ---- a tree

module _ {text : List ℕ} {s t : Scan} {m : Module} (b : Begins text s) (r : ReadsModule (scanned s) m (scanned t)) where
  pub has_tree : HasSomeTokens t.scanner.text → IsTextOf text m
  has_tree some =
      let P : List ℕ → Type 0 = λ x. HasTokens x some.tokens in
      let all : HasTokens text some.tokens = subst P (r.kept ∙ b.same) some.all in
      let w = b.stands some.tokens all in
      let source : TokenizedText = record { text = text; tokens = some.tokens } in
      record { tokens = some.tokens; scanned = all; derives = r.derives source w; keeps = r.keeps source w }

  pub one_tree : (other : Module) → IsTextOf text other → other ≡ m
  one_tree other o = r.alone (record { text = text; tokens = o.tokens }) (b.stands o.tokens o.scanned) other o.derives

pub tree_has_text : {text : List ℕ} (m : Module) → IsTextOf text m → HasText m
tree_has_text {text = text} m o = has_text (record { text = text; tokens = o.tokens }) m o.scanned o.derives

-- ---- no tree

-- the tokens up to one and those behind it
parted : (tokens : Lexemes) (m : Module) (n : ℕ) → Derives tokens m → Derives (take n tokens ++ drop n tokens) m
parted tokens m n h = subst (λ (ts : Lexemes). Derives ts m) (sym (take-append-drop n tokens)) h

breaks : {IsBroken : Module → ℕ → Type 0} (tokens : Lexemes) (place : ℕ) → BreaksCondition IsBroken tokens place → (m : Module) → Derives tokens m → IsBroken m place
breaks tokens place b m h = b.broken (drop (suc b.index) tokens) m (parted tokens m (suc b.index) h)

no_tree : (t : TokenizedText) (e : ParseFault) → IsParseFault t e → e ≢ NoMemory →
    (m : Module) → Derives (lexemes_of t) m → KeepsConditions m → ⊥
no_tree t (Unexpected place) (inl r) numbered m h keeps =
    r.none (drop (suc r.index) (lexemes_of t), m, parted (lexemes_of t) m (suc r.index) h)
no_tree t (Unexpected place) (inr r) numbered m h keeps = r.none m h
no_tree t (TooDeep place) b numbered m h keeps =
    let broken = breaks (lexemes_of t) place b m h in
    let within : broken.0 < length (breaches m) = broken.1 in
    let none : length (breaches m) ≡ 0 = ap length keeps in
    omega (arith, within, none)
no_tree t (NameDiffers place) b numbered m h keeps =
    let broken = breaks (lexemes_of t) place b m h in
    let within : broken.0 < length (breaches m) = broken.1 in
    let none : length (breaches m) ≡ 0 = ap length keeps in
    omega (arith, within, none)
no_tree t NoMemory b numbered m h keeps = absurd (numbered refl)

told : (text : List ℕ) (e : ParseFault) → e ≢ NoMemory → IsParseFaultOf text e → IsSourceFault text (Parse e)
told text (Unexpected place) numbered h = h
told text (TooDeep place) numbered h = h
told text (NameDiffers place) numbered h = h
told text NoMemory numbered h = tt

module _ {text : List ℕ} {s t : Scan} {e : ParseFault} (b : Begins text s) (f : FailsModule (scanned s) e (scanned t)) where
  pub parse_fault : e ≢ NoMemory → HasSomeTokens t.scanner.text → IsSourceFault text (Parse e)
  parse_fault numbered some =
      let P : List ℕ → Type 0 = λ x. HasTokens x some.tokens in
      let all : HasTokens text some.tokens = subst P (f.kept numbered ∙ b.same) some.all in
      told text e numbered
      (record {
        tokens = some.tokens;
        scanned = all;
        fails = f.fails (record { text = text; tokens = some.tokens }) (b.stands some.tokens all);
      })

  pub parsed_none : e ≢ NoMemory → (m : Module) → IsTextOf text m → ⊥
  parsed_none numbered m o =
      let source : TokenizedText = record { text = text; tokens = o.tokens } in
      no_tree source e (f.fails source (b.stands o.tokens o.scanned)) numbered m o.derives o.keeps
