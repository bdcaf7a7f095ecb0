-- One step back along a way.
use Rattle.std.proofs.Common.{◌≡◌, refl, sym, ap, ◌∙◌, ℕ, ◌+◌, zero, suc, List, [], ◌∷◌, ◌++◌, get_or, take, reverse, None, Some, option_map, append_assoc, add-one}
use Rattle.std.proofs.Math.Seq.{take-suc}
use Rattle.std.proofs.lemmas.List.{reverse-append}
use Rattle.std.proofs.lemmas.Option.{get_or_from_slice_get, slice_get_within, slice_get-map}
use Rattle.std.specs.List.{slice_get}
use Rattle.wf_whole_outcomes.specs.Layers.{way_on, ways_of, ways_on}
use Rattle.wf_whole_outcomes.specs.declared.growing.Came.{Came}
use Rattle.wf_whole_outcomes.proofs.Layering.{ways_push}
use Rattle.wf_whole_outcomes.proofs.Listing.{in_map}

get_or_from_none : {A : Type 0} (xs : List A) (k : ℕ) (d : A) → slice_get xs k ≡ None → get_or xs k d ≡ d
get_or_from_none [] k d none = refl
get_or_from_none (x ∷ xs) zero d none = absurd (cc)
get_or_from_none (x ∷ xs) (suc k) d none = get_or_from_none xs k d none

abbrev one_way : List (List ℕ)
one_way = [] ∷ []

-- the one way with no step, or none
pub no_steps : (k : ℕ) → get_or one_way k [] ≡ []
no_steps zero = refl
no_steps (suc k) = refl

abbrev pub ways_to : (depth : ℕ) → List (List Came) → List (List ℕ)
ways_to depth trail = ways_of ([] ∷ []) (take depth trail)

module _ (trail : List (List Came)) (depth before : ℕ) (one : depth ≡ before + 1) (came : List Came) (last : slice_get trail before ≡ Some came) where
  last_ways : ways_to depth trail ≡ ways_on (ways_to before trail) came
  last_ways =
      ap (λ (n : ℕ). ways_to n trail) (one ∙ add-one before)
      ∙ ap (ways_of ([] ∷ [])) (take-suc trail before [] (slice_get_within trail before came last) ∙ ap (λ (l : List Came). take before trail ++ l ∷ []) (get_or_from_slice_get trail before came [] last))
      ∙ ways_push ([] ∷ []) (take before trail) came

  -- where none came from, there is no way
  pub none_back : (k : ℕ) → slice_get came k ≡ None → get_or (ways_to depth trail) k [] ≡ []
  none_back k none =
      ap (λ (w : List (List ℕ)). get_or w k []) last_ways ∙ get_or_from_none (ways_on (ways_to before trail) came) k [] (slice_get-map (way_on (ways_to before trail)) came k ∙ ap (option_map (way_on (ways_to before trail))) none)

  module _ (k : ℕ) (c : Came) (there : slice_get came k ≡ Some c) where
    -- to where it came from, and then its step
    pub one_back : get_or (ways_to depth trail) k [] ≡ get_or (ways_to before trail) c.from [] ++ c.by ∷ []
    one_back =
        ap (λ (w : List (List ℕ)). get_or w k []) last_ways
        ∙ get_or_from_slice_get (ways_on (ways_to before trail) came) k (way_on (ways_to before trail) c) [] (in_map (way_on (ways_to before trail)) came k c there)

    pub back_on : (back : List ℕ) → get_or (ways_to depth trail) k [] ++ reverse back ≡ get_or (ways_to before trail) c.from [] ++ reverse (back ++ c.by ∷ [])
    back_on back =
        ap (λ (w : List ℕ). w ++ reverse back) one_back ∙ append_assoc (get_or (ways_to before trail) c.from []) (c.by ∷ []) (reverse back)
        ∙ ap (λ (w : List ℕ). get_or (ways_to before trail) c.from [] ++ w) (sym (reverse-append back (c.by ∷ [])))
