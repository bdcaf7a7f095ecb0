-- Positions of a scope one behind the other.
use Rattle.std.proofs.Common.{◌≡◌, ℕ, zero, suc, ◌+◌, ◌<◌, ◌≤◌, ◌^◌, subst, List, [], ◌∷◌, ◌++◌, map, length, drop, get_or, Some, refl, ap, sym, ◌∙◌, arith, ◌⊎◌, inl, inr, ⊎_elim}
use Rattle.std.specs.Prelude.{slice_get}
use Rattle.std.proofs.lemmas.List.{drop_more}
use Rattle.ob_typing.specs.Program as Program
use Rattle.ob_code_scheme.specs.Types.{Space, Scope, width, extent, word_in, Holding}
use Rattle.ob_checked.specs.declared.program.Parameter.{Parameter}
use Rattle.ob_checked.specs.declared.program.Variable.{Variable}
use Rattle.ob_checked.specs.declared.program.Procedure.{Procedure}
use Rattle.ob_layout.specs.declared.frames.Space as Spaces
use Rattle.ob_layout.specs.declared.frames.Frame.{Frame}
use Rattle.ob_code_scheme.specs.Temporaries.{largest}
use Rattle.ob_code_scheme.proofs.Fine.{extent-append}
use Rattle.ob_layout.specs.Frames.{space_by, scope_by, variables_by, variable_by, parameters_by, parameter_by, frame_by, extents_by, IsFrame, AreFrames}
use Rattle.ob_code_scheme.specs.Types as Sizes

-- so much room is left for the next one
pub room_left : (n : ℕ) (a b c d rest : Scope) (s : Space) → a ++ b ≡ c ++ d → b ≡ s ∷ rest → extent c + extent d < n → extent a + width s < n
room_left n a b c d rest s h is small =
    let left = extent-append a b in
    let right = extent-append c d in
    let same = ap extent h in
    let first = ap extent is in
    omega (arith, left, right, same, first, small)

module _ (ts : List Program.DataType) where
  extent_more : (xs : List Spaces.Space) (s : Spaces.Space) → extent (map (space_by ts) (xs ++ s ∷ [])) ≡ extent (map (space_by ts) xs) + width (space_by ts s)
  extent_more [] s = omega arith
  extent_more (x ∷ xs) s = let rest = extent_more xs s in omega (arith, rest)

  placed : (xs : List Spaces.Space) (s t : Spaces.Space) (i : ℕ) → slice_get (xs ++ s ∷ []) i ≡ Some t →
      ((slice_get xs i ≡ Some t) × (word_in (map (space_by ts) (xs ++ s ∷ [])) i ≡ word_in (map (space_by ts) xs) i))
      ⊎ ((s ≡ t) × (word_in (map (space_by ts) (xs ++ s ∷ [])) i ≡ extent (map (space_by ts) xs)))
  placed [] s t zero at = inr (cc, refl)
  placed [] s t (suc i) at = absurd cc
  placed (x ∷ xs) s t zero at = inl (at, refl)
  placed (x ∷ xs) s t (suc i) at =
      ⊎_elim (λ h. inl (h.0, ap (λ n. width (space_by ts x) + n) h.1)) (λ h. inr (h.0, ap (λ n. width (space_by ts x) + n) h.1)) (placed xs s t i at)

  pub frame_more : (f g : Frame) (s : Spaces.Space) → IsFrame ts f → g.spaces.items ≡ f.spaces.items ++ s ∷ [] → s.word ≡ f.words → g.words ≡ f.words + width (space_by ts s) → extent (scope_by ts f) + width (space_by ts s) < 2 ^ 63 → IsFrame ts g
  frame_more f g s h items word words room =
      record {
        words = words ∙ ap (λ n. n + width (space_by ts s)) h.words ∙ sym (extent_more f.spaces.items s) ∙ sym (ap (λ xs. extent (map (space_by ts) xs)) items);
        small = let before = h.words in omega (arith, room, words, before);
        each = λ i t at. each_more i t (ap (λ xs. slice_get xs i) (sym items) ∙ at) ∙ sym (ap (λ xs. word_in (map (space_by ts) xs) i) items);
      }
    where
      each_more : (i : ℕ) (t : Spaces.Space) → slice_get (f.spaces.items ++ s ∷ []) i ≡ Some t → t.word ≡ word_in (map (space_by ts) (f.spaces.items ++ s ∷ [])) i
      each_more i t at =
          ⊎_elim (λ p. h.each i t p.0 ∙ sym p.1) (λ p. ap (λ (x : Spaces.Space). x.word) (sym p.0) ∙ word ∙ h.words ∙ sym p.1) (placed f.spaces.items s t i at)

  pub variables_left : (vs : List Variable) (i : ℕ) (v : Variable) → i < length vs → v ≡ get_or vs i v →
      variables_by ts (drop i vs) ≡ Holding (variable_by ts v).type ∷ variables_by ts (drop (i + 1) vs)
  variables_left vs i v here found =
      ap (variables_by ts) (drop_more vs i v here) ∙ ap (λ u. variables_by ts (u ∷ drop (i + 1) vs)) (sym found)

  pub parameters_left : (ps : List Parameter) (i : ℕ) (p : Parameter) → i < length ps → p ≡ get_or ps i p →
      parameters_by ts (drop i ps) ≡ Sizes.parameter_space (parameter_by ts p) ∷ parameters_by ts (drop (i + 1) ps)
  parameters_left ps i p here found =
      ap (parameters_by ts) (drop_more ps i p here) ∙ ap (λ u. parameters_by ts (u ∷ drop (i + 1) ps)) (sym found)

  pub largest_at : (ps : List Procedure) (i : ℕ) (p : Procedure) → i < length ps → p ≡ get_or ps i p → extent (frame_by ts p) ≤ largest (extents_by ts ps)
  largest_at [] i p here found = absurd (omega (arith, here))
  largest_at (q ∷ ps) zero p here found = let same = ap (λ r. extent (frame_by ts r)) found in omega (arith, same)
  largest_at (q ∷ ps) (suc i) p here found = let rest = largest_at ps i p (omega (arith, here)) found in omega (arith, rest)

  pub frames_more : (fs : List Frame) (f : Frame) → AreFrames ts fs → IsFrame ts f → AreFrames ts (fs ++ f ∷ [])
  frames_more [] f h is zero g at = let same : f ≡ g = cc in subst (IsFrame ts) same is
  frames_more [] f h is (suc i) g at = absurd cc
  frames_more (e ∷ fs) f h is zero g at = h zero g at
  frames_more (e ∷ fs) f h is (suc i) g at = frames_more fs f (λ j d a. h (suc j) d a) is i g at

  pub scopes_more : (fs : List Frame) (f : Frame) (ps : List Procedure) (i : ℕ) (p : Procedure) → i < length ps → p ≡ get_or ps i p → scope_by ts f ≡ frame_by ts p →
      map (scope_by ts) fs ++ map (frame_by ts) (drop i ps) ≡ map (frame_by ts) ps →
      map (scope_by ts) (fs ++ f ∷ []) ++ map (frame_by ts) (drop (i + 1) ps) ≡ map (frame_by ts) ps
  scopes_more fs f ps i p here found same h =
      moved fs f (map (frame_by ts) (drop (i + 1) ps))
      ∙ ap (λ s. map (scope_by ts) fs ++ (s ∷ map (frame_by ts) (drop (i + 1) ps))) (same ∙ ap (frame_by ts) found)
      ∙ sym (ap (λ qs. map (scope_by ts) fs ++ map (frame_by ts) qs) (drop_more ps i p here)) ∙ h
    where
      moved : (fs : List Frame) (f : Frame) (rest : List Scope) → map (scope_by ts) (fs ++ f ∷ []) ++ rest ≡ map (scope_by ts) fs ++ (scope_by ts f ∷ rest)
      moved [] f rest = refl
      moved (e ∷ fs) f rest = ap (λ l. scope_by ts e ∷ l) (moved fs f rest)
