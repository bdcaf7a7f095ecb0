-- By the scalars, or else by the words.
use Rattle.std.proofs.Common.{◌≡◌, refl, ap, sym, ◌∙◌, List, [], ◌∷◌, map, nat_eq}
use Rattle.std.proofs.lemmas.Bool.Decides.{Decides-eqb}
use Rattle.std.proofs.lemmas.Slice.Eq.{slice_eq-Decides}
use Rattle.ob_code_calls.specs.Scalars.{held_of}
use Rattle.ob_interface.specs.declared.scalar.Scalar.{Scalar}
use Rattle.ob_object_search.specs.Kept.{kept_in}
use Rattle.ob_object_search.specs.Laws.{words_told_apart}
use Rattle.ob_object_search.specs.Words.{words_of}
use Rattle.wf_history.proofs.Same.{scalar_eq, scalar_decides}
use Rattle.ob_object_search.proofs.instance.ModuleObjectObject.is_same.Goals as goal

held_apart : (a b : List Scalar) → map held_of a ≡ map held_of b → a ≡ b
held_apart [] [] e = refl
held_apart [] (y ∷ ys) e = absurd (cc)
held_apart (x ∷ xs) [] e = absurd (cc)
held_apart (x ∷ xs) (y ∷ ys) e =
    let rest : map held_of xs ≡ map held_of ys = cc in
    let first : x ≡ y = cc in
    let others = held_apart xs ys rest in
    cc

pub returns-in-Scalars-Scalars : goal.returns-in-Scalars-Scalars
returns-in-Scalars-Scalars c =
    let eq = slice_eq-Decides {E = scalar_eq} scalar_decides c.as_slice.result.now c.as_slice-in-Scalars-Scalars.result.now c.eq.result c.eq.ensures in
    let one = ap kept_in c.in-Scalars-Scalars.is-0 ∙ ap (map held_of) (sym c.as_slice.ensures) in
    let two = ap kept_in c.in-Scalars-Scalars.is-1 ∙ ap (map held_of) (sym c.as_slice-in-Scalars-Scalars.ensures) in
    (λ t. one ∙ ap (map held_of) (eq.0 t) ∙ sym two, λ same. eq.1 (held_apart c.as_slice.result.now c.as_slice-in-Scalars-Scalars.result.now (sym one ∙ same ∙ two)))

pub returns : goal.returns
returns c =
    let eq = slice_eq-Decides {E = nat_eq} Decides-eqb c.as_slice-2.result.now c.as_slice-3.result.now c.eq-2.result c.eq-2.ensures in
    let one = c.as_slice-2.ensures ∙ c.in_ok-words.ensures in
    let two = c.as_slice-3.ensures ∙ c.in_ok-others.ensures in
    (λ t. words_told_apart (kept_in c.args.state.now) (kept_in c.args.other.now) (sym one ∙ eq.0 t ∙ two), λ same. eq.1 (one ∙ ap words_of same ∙ sym two))
