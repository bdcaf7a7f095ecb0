-- The words of a program's frames and what a layout finds of them.
use Rattle.std.proofs.Common.{◌≡◌, ℕ, zero, suc, ◌+◌, ◌*◌, ◌^◌, ◌<◌, ◌≤◌, List, [], ◌∷◌, map, length, Option, Some, None, IfSome, false, drop, get_or, refl, ap, sym, ◌∙◌, arith}
use Rattle.std.specs.Prelude.{slice_get, IfNone}
use Rattle.ob_typing.specs.Program as Program
use Rattle.ob_code_scheme.specs.Types.{Holding, Scope, width, extent, word_in, space_at, scope_at, frame_scope, variables_scope}
use Rattle.ob_code_scheme.specs.Temporaries.{largest, largest_frame, frame_words, most_temporaries, stack_words}
use Rattle.ob_checked.specs.declared.program.Procedure.{Procedure}
use Rattle.ob_checked.specs.declared.program.Variable.{Variable}
use Rattle.ob_checked.specs.declared.program.Program as Programs
use Rattle.ob_interface.specs.declared.scalar.ScalarType.TheVariants.{Integer}
use Rattle.ob_checked.specs.Types as Given
use Rattle.ob_checked.specs.Types.{type_by}
use Rattle.ob_checked.specs.View.{program_of, procedure_of, table_of}
use Rattle.ob_layout.specs.declared.frames.Space as Spaces
use Rattle.ob_layout.specs.declared.frames.Frame.{Frame}
use Rattle.ob_layout.specs.Frames.{frame_words_of, space_of, IsEnd, space_by, scope_by, variable_by, variables_by, frame_by, extents_by, IsFrame, AreFrames}
use Rattle.ob_typing.specs.Limits.{KeepsLimits}
use Rattle.ob_layout.specs.Layout.{LayoutParts}
use Rattle.ob_layout.specs.Counted.{counted}
use Rattle.ob_layout.proofs.Small.{small_block, small_frames}

-- ---- of a program

frames_same : (es : List Given.Entry) (ps : List Procedure) → map (frame_by (Given.types_of es)) ps ≡ map frame_scope (map (procedure_of es) ps)
frames_same es [] = refl
frames_same es (p ∷ ps) = ap (λ l. frame_scope (procedure_of es p) ∷ l) (frames_same es ps)

extents_same : (es : List Given.Entry) (ps : List Procedure) → extents_by (Given.types_of es) ps ≡ map frame_words (map (procedure_of es) ps)
extents_same es [] = refl
extents_same es (p ∷ ps) = ap (λ l. frame_words (procedure_of es p) ∷ l) (extents_same es ps)

extents_mapped : (ts : List Program.DataType) (ps : List Procedure) → map extent (map (frame_by ts) ps) ≡ extents_by ts ps
extents_mapped ts [] = refl
extents_mapped ts (p ∷ ps) = ap (λ l. extent (frame_by ts p) ∷ l) (extents_mapped ts ps)

words_mapped : (ts : List Program.DataType) (fs : List Frame) → AreFrames ts fs → map frame_words_of fs ≡ map extent (map (scope_by ts) fs)
words_mapped ts [] h = refl
words_mapped ts (f ∷ fs) h =
    ap (λ n. n ∷ map frame_words_of fs) ((h 0 f refl).words) ∙ ap (λ l. extent (scope_by ts f) ∷ l) (words_mapped ts fs (λ i g at. h (suc i) g at))

module _ (p : Programs.Program) (q : Program.Program) (is : program_of p ≡ q) (ts : List Program.DataType) (same : ts ≡ Given.types_of (table_of p.types)) where
  pub variables_are : (vs : List Variable) → vs ≡ p.variables.items → map (variable_by ts) vs ≡ q.variables
  variables_are vs at =
      ap (λ us. map (variable_by us) vs) same ∙ ap (map (variable_by (Given.types_of (table_of p.types)))) at ∙ ap (λ (r : Program.Program). r.variables) is

  pub block_small : (vs : List Variable) → vs ≡ p.variables.items → KeepsLimits q → extent (variables_by ts vs) < 2 ^ 63
  block_small vs at limits =
      let here = ap (λ us. extent (variables_scope us)) (variables_are vs at) in
      let small = small_block q.variables in
      omega (arith, here, small, limits.variables)

  module _ (ps : List Procedure) (at : ps ≡ p.procedures.items) where
    procedures_are : map (procedure_of (table_of p.types)) ps ≡ q.procedures
    procedures_are = ap (map (procedure_of (table_of p.types))) at ∙ ap (λ (r : Program.Program). r.procedures) is

    pub frames_are : map (frame_by ts) ps ≡ map frame_scope q.procedures
    frames_are = ap (λ us. map (frame_by us) ps) same ∙ frames_same (table_of p.types) ps ∙ ap (map frame_scope) procedures_are

    pub largest_is : largest (extents_by ts ps) ≡ largest_frame q.procedures
    largest_is = ap (λ us. largest (extents_by us ps)) same ∙ ap largest (extents_same (table_of p.types) ps) ∙ ap largest_frame procedures_are

    pub largest_small : KeepsLimits q → largest (extents_by ts ps) < 2 ^ 63
    largest_small limits =
        let here = largest_is in
        let small = small_frames q.procedures limits.procedures in
        omega (arith, here, small)

    pub largest_counted : (fs : List Frame) → AreFrames ts fs → map (scope_by ts) fs ≡ map (frame_by ts) ps → largest (map frame_words_of fs) ≡ largest_frame q.procedures
    largest_counted fs framed scopes =
        ap largest (words_mapped ts fs framed ∙ ap (map extent) scopes ∙ extents_mapped ts ps) ∙ largest_is

    pub stack_counted : (largest n k : ℕ) → largest ≡ largest_frame q.procedures → n ≡ counted (most_temporaries (map (procedure_of (table_of p.types)) ps)) →
        k ≡ counted (8 + 64 * (largest + n)) → k ≡ counted (stack_words q.procedures)
    stack_counted largest n k frame most is =
        let here = ap most_temporaries procedures_are in
        omega (arith, here, frame, most, is)

-- the parts of a layout, one by one
abbrev pub parts : List Program.Variable → List Scope → ℕ → LayoutParts
parts vs fs n = record { variables = vs; frames = fs; stack_words = n }

pub parts_are : (vs ws : List Program.Variable) (fs gs : List Scope) (n k : ℕ) → vs ≡ ws → fs ≡ gs → n ≡ k → parts vs fs n ≡ parts ws gs k
parts_are vs ws fs gs n k v f s = ap (λ x. parts x fs n) v ∙ ap (λ x. parts ws x n) f ∙ ap (λ x. parts ws gs x) s

-- ---- of a layout

module _ (ts : List Program.DataType) where
  -- behind the last position
  pub word_past : (ss : List Spaces.Space) (i : ℕ) → None ≡ slice_get ss i → word_in (map (space_by ts) ss) i ≡ extent (map (space_by ts) ss)
  word_past [] i h = refl
  word_past (s ∷ ss) zero h = absurd cc
  word_past (s ∷ ss) (suc i) h = ap (λ n. width (space_by ts s) + n) (word_past ss i h)

  -- the space of a variable, and behind the last one
  pub variable_space : (vs : List Variable) (i : ℕ) (v : Variable) → i < length vs → v ≡ get_or vs i v → Holding (type_by ts v.data_type) ≡ space_at (variables_scope (map (variable_by ts) vs)) i
  variable_space [] i v h at = absurd (omega (arith, h))
  variable_space (u ∷ vs) zero v h at = ap (λ (x : Variable). Holding (type_by ts x.data_type)) at
  variable_space (u ∷ vs) (suc i) v h at = variable_space vs i v (omega (arith, h)) at

  pub variable_past : (vs : List Variable) (i : ℕ) → length vs ≤ i → Holding (Program.Simple Integer) ≡ space_at (variables_scope (map (variable_by ts) vs)) i
  variable_past [] i h = refl
  variable_past (u ∷ vs) zero h = absurd (omega (arith, h))
  variable_past (u ∷ vs) (suc i) h = variable_past vs i (omega (arith, h))

  space_there : (ss : List Spaces.Space) (i : ℕ) (s : Spaces.Space) → slice_get ss i ≡ Some s → space_by ts s ≡ space_at (map (space_by ts) ss) i
  space_there [] i s h = absurd cc
  space_there (r ∷ ss) zero s h = let same : r ≡ s = cc in sym (ap (space_by ts) same)
  space_there (r ∷ ss) (suc i) s h = space_there ss i s h

  space_past : (ss : List Spaces.Space) (i : ℕ) → slice_get ss i ≡ None → Holding (Program.Simple Integer) ≡ space_at (map (space_by ts) ss) i
  space_past [] i h = refl
  space_past (s ∷ ss) zero h = absurd cc
  space_past (s ∷ ss) (suc i) h = space_past ss i h

  end_is : (n : ℕ) (s : Spaces.Space) → IsEnd n s → space_by ts s ≡ Holding (Program.Simple Integer)
  end_is n s h = ap (λ b. space_of ts b s.data_type) h.is_value ∙ ap (λ t. space_of ts false t) h.type

  -- what is found at a position of a frame
  module _ (f : Frame) (i : ℕ) (s : Spaces.Space) (there : IfSome (slice_get f.spaces.items i) (λ r. s ≡ r)) (end : IfNone (slice_get f.spaces.items i) (IsEnd f.words s)) where
    pub own_space : space_by ts s ≡ space_at (scope_by ts f) i
    own_space = by (slice_get f.spaces.items i) refl there end
      where
        by : (o : Option Spaces.Space) → slice_get f.spaces.items i ≡ o → IfSome o (λ r. s ≡ r) → IfNone o (IsEnd f.words s) → space_by ts s ≡ space_at (scope_by ts f) i
        by None at t e = end_is f.words s e ∙ space_past f.spaces.items i at
        by (Some r) at t e = ap (space_by ts) t ∙ space_there f.spaces.items i r at

    pub own_word : IsFrame ts f → s.word ≡ word_in (scope_by ts f) i
    own_word h = by (slice_get f.spaces.items i) refl there end
      where
        by : (o : Option Spaces.Space) → slice_get f.spaces.items i ≡ o → IfSome o (λ r. s ≡ r) → IfNone o (IsEnd f.words s) → s.word ≡ word_in (scope_by ts f) i
        by None at t e = e.word ∙ h.words ∙ sym (word_past f.spaces.items i (sym at))
        by (Some r) at t e = ap (λ (x : Spaces.Space). x.word) t ∙ h.each i r at

  pub scope_there : (fs : List Frame) (k : ℕ) (f : Frame) → slice_get fs k ≡ Some f → scope_at (map (scope_by ts) fs) k ≡ scope_by ts f
  scope_there [] k f h = absurd cc
  scope_there (g ∷ fs) zero f h = let same : g ≡ f = cc in ap (scope_by ts) same
  scope_there (g ∷ fs) (suc k) f h = scope_there fs k f h

  pub scope_past : (fs : List Frame) (k : ℕ) → length fs ≤ k → scope_at (map (scope_by ts) fs) k ≡ []
  scope_past [] k h = refl
  scope_past (g ∷ fs) zero h = absurd (omega (arith, h))
  scope_past (g ∷ fs) (suc k) h = scope_past fs k (omega (arith, h))

-- the words of a scope before a position and from it on
pub words_apart : (scope : Scope) (i : ℕ) → extent scope ≡ word_in scope i + extent (drop i scope)
words_apart [] zero = refl
words_apart [] (suc i) = refl
words_apart (s ∷ scope) zero = omega arith
words_apart (s ∷ scope) (suc i) = let rest = words_apart scope i in omega (arith, rest)
