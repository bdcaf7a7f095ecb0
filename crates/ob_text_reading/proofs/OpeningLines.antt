-- The openings of variables: they are said in one way, and it is seen where they end.
use Rattle.std.proofs.Common.{◌≡◌, ◌∙◌, ◌<◌, suc, List, [], ◌∷◌, ◌++◌, length, refl, sym, ap, subst, arith}
use Rattle.ob_meaning.specs.Same.{SameValue}
use Rattle.ob_carry.proofs.Carried.{same_placed}
use Rattle.ob_carry.specs.Carried.{Entry}
use Rattle.ob_meaning.specs.ByNameValue as Named
use Rattle.ob_meaning.specs.ByPositionStore.{Activation, Holds}
use Rattle.ob_meaning.specs.ByPositionValue.{Value}
use Rattle.ob_text_reading.specs.Openings as Openings
use Rattle.ob_text_reading.specs.Openings.{AreOpenings, IsOpening}
use Rattle.ob_text_values_reading.proofs.VariableLines.{one_line}
use Rattle.ob_text_values_reading.specs.RecordTexts.{Line}
use Rattle.ob_typing.specs.Program.{DataType, Variable}

-- a named value is one value by position
one_place : (t : DataType) (v : Named.Value) (a b : Value) → SameValue t v a → SameValue t v b → a ≡ b
one_place t v a b h k = same_placed t v a h ∙ sym (same_placed t v b k)

pub one_opening : {variable : Variable} {line : Line} {a b : Value} → IsOpening variable line a → IsOpening variable line b → a ≡ b
one_opening {variable} {line} {a} {b} h k =
    one_place variable.type h.entry.value a b h.same (subst (λ (e : Entry). SameValue variable.type e.value b) (one_line k.says h.says) k.same)

pub first_of : {X : Type 0} {x y : X} {xs ys : List X} → x ∷ xs ≡ y ∷ ys → x ≡ y
first_of e = cc

pub rest_of : {X : Type 0} {x y : X} {xs ys : List X} → x ∷ xs ≡ y ∷ ys → xs ≡ ys
rest_of e = cc

-- openings of the same variables at the beginning of the same lines
pub record SameOpenings (ls ks : List Line) (a b : Activation) (r s : List Line) : Type 0 where
  pub lines : ls ≡ ks
  pub held : a ≡ b
  pub rest : r ≡ s

pub one_list : {vs : List Variable} {ls ks : List Line} {a b : Activation} (r s : List Line) → AreOpenings vs ls a → AreOpenings vs ks b → ls ++ r ≡ ks ++ s → SameOpenings ls ks a b r s
one_list r s Openings.none Openings.none e = record { lines = refl; held = refl; rest = e }
one_list r s (Openings.more {variable = v} {line = x} {ls = ls} {w = w} {held = a} h hs) (Openings.more {line = y} {ls = ks} {w = u} {held = b} k ks') e =
    let line : x ≡ y = first_of e in
    let others = one_list r s hs ks' (rest_of e) in
    let value : w ≡ u = one_opening (subst (λ (l : Line). IsOpening v l w) line h) k in
    let lines : ls ≡ ks = others.lines in
    let held : a ≡ b = others.held in
    record { lines = rw (line, lines) refl; held = rw (value, held) refl; rest = others.rest }

-- as many as there are variables
pub counted : {vs : List Variable} {ls : List Line} {held : Activation} → AreOpenings vs ls held → length ls ≡ length vs
counted Openings.none = refl
counted (Openings.more h hs) = ap suc (counted hs)

-- behind the openings of the first variables, a line among openings of more of them is that of the next one
pub next_opening : {first vs : List Variable} {before ls : List Line} {a b : Activation} (variable : Variable) (others more : List Variable) (line : Line) (r s : List Line) →
    AreOpenings first before a → AreOpenings vs ls b → first ++ variable ∷ others ≡ vs ++ more → before ++ line ∷ r ≡ ls ++ s → length first < length vs →
    (w : Value) × IsOpening variable line w
next_opening variable others more line r s Openings.none Openings.none order parts long = absurd (omega (arith, long))
next_opening variable others more line r s Openings.none (Openings.more {variable = v} {line = l} {w = w} h hs) order parts long =
    (w, subst (λ (x : Line). IsOpening variable x w) (sym (first_of parts)) (subst (λ (x : Variable). IsOpening x l w) (sym (first_of order)) h))
next_opening variable others more line r s (Openings.more h hs) Openings.none order parts long = absurd (omega (arith, long))
next_opening variable others more line r s (Openings.more h hs) (Openings.more k ks) order parts long =
    next_opening variable others more line r s hs ks (rest_of order) (rest_of parts) (omega (arith, long))

-- one more
pub joined : {vs ws : List Variable} {ls ks : List Line} {a b : Activation} → AreOpenings vs ls a → AreOpenings ws ks b → AreOpenings (vs ++ ws) (ls ++ ks) (a ++ b)
joined Openings.none h = h
joined (Openings.more k ks) h = Openings.more k (joined ks h)

pub one_more : {vs : List Variable} {ls : List Line} {a : Activation} (variable : Variable) (line : Line) (w : Value) → AreOpenings vs ls a → IsOpening variable line w →
    AreOpenings (vs ++ variable ∷ []) (ls ++ line ∷ []) (a ++ Holds w ∷ [])
one_more variable line w h k = joined h (Openings.more k Openings.none)
