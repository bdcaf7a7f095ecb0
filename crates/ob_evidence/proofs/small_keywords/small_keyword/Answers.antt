use Rattle.std.proofs.Common.{◌≡◌, ◌∙◌, List, ℕ, Option, Some, None, IfNone, IfSome, ap, map, subst, sym}
use Rattle.std.specs.Char.{to_ascii_uppercase}
use Rattle.std.proofs.lemmas.Bool.{false≢true}
use Rattle.ob_scan.specs.declared.token.Kind.{Kind}
use Rattle.ob_scan.specs.declared.token.Token.{Token}
use Rattle.ob_evidence.specs.Keywords.{IsKeyword, IsNew, TellsSmallKeyword}
use Rattle.ob_evidence.specs.Sites.{Scene, word_of}
use Rattle.ob_evidence.proofs.small_keywords.small_keyword.Goals as goal

told : (s : Scene) (name : Token) (capitals : List ℕ) (keyword : Option Kind) → IsNew s name →
    capitals ≡ map to_ascii_uppercase (word_of s.text (Some name)) → IfSome keyword (IsKeyword capitals) →
    IfNone keyword ((kind : Kind) → IsKeyword capitals kind → ⊥) → TellsSmallKeyword s name keyword
told s name capitals None new same some none = λ kind small. none kind (subst (λ (w : List ℕ). IsKeyword w kind) (sym same) small.spells)
told s name capitals (Some kind) new same some none =
    record { is_new = new; spells = subst (λ (w : List ℕ). IsKeyword w kind) same some }

pub returns-then-not-is_new : goal.returns-then-not-is_new
returns-then-not-is_new c = λ kind small. false≢true (sym c.if-not-is_new.true ∙ c.is_new.ensures.1 small.is_new)

pub returns : goal.returns
returns c =
    told _ _ c.deref.result.now c.keyword_of.result (c.is_new.ensures.0 c.if-not-is_new.false)
    (c.deref.ensures.value ∙ c.in_ok-capitals.ensures ∙ ap (λ (w : List ℕ). map to_ascii_uppercase w) c.word_of.ensures)
    c.keyword_of.ensures.is c.keyword_of.ensures.none
