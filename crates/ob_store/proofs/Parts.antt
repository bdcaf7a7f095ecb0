-- The parts of a value: a vector within a value as a list, and one of them read or replaced.
use Rattle.std.proofs.Common.{◌≡◌, List, [], ◌∷◌, ◌++◌, refl, ap, sym, ◌∙◌, ℕ, zero, suc, Vec, Option, Some, None, get_or, set, take, drop, length, ◌+◌, ◌<◌, ◌≤◌, arith}
use Rattle.std.specs.declared.alloc.Global.{Global}
use Rattle.std.proofs.lemmas.List.{take_more}
use mathlib.Core.Former.{Count}
use Rattle.ob_store.specs.declared.value.Value.{Value, Row_of-Value, end_of-Value, more_of-Value, items-the_row-Value, items_hidden-the_row-Value-0}
use Rattle.ob_store.specs.declared.value.Value.TheVariants as Variants
use Rattle.ob_interface.specs.declared.scalar.Scalar.{Scalar}
use Rattle.ob_store.specs.View.{value_in, parts_in, values_in, put_back}
use Rattle.ob_meaning.specs.ByPositionValue as Values

parts_row : (n : _) (row : Row_of-Value n) → parts_in row ≡ values_in (items-the_row-Value n row)
parts_row n end_of-Value = refl
parts_row n (more_of-Value v rest) = ap (Values.part (value_in v)) (parts_row _ rest)

abbrev row_of : Value → (n : Count) × Row_of-Value n
row_of (Variants.Parts' shape row) = (_, row)
row_of _ = (_, end_of-Value)

pub value_in-parts : (parts : Vec Value Global) → value_in (Variants.Parts parts) ≡ Values.Parts (values_in parts.items)
value_in-parts parts =
    let row = row_of (Variants.Parts parts) in
    ap Values.Parts (parts_row row.0 row.1 ∙ ap values_in (items_hidden-the_row-Value-0 parts))

-- a part that is read is the part at its position
pub part_at-read : (vs : List Value) (i : ℕ) (d : Value) → i < length vs → value_in (get_or vs i d) ≡ Values.part_at (values_in vs) i
part_at-read [] i d h = absurd (omega (arith, h))
part_at-read (v ∷ vs) zero d h = refl
part_at-read (v ∷ vs) (suc i) d h = part_at-read vs i d (omega (arith, h))

-- behind the last part there is none
pub part_at-beyond : (vs : List Value) (i : ℕ) → length vs ≤ i → Values.part_at (values_in vs) i ≡ Values.zero_value
part_at-beyond [] i h = refl
part_at-beyond (v ∷ vs) zero h = absurd (omega (arith, h))
part_at-beyond (v ∷ vs) (suc i) h = part_at-beyond vs i (omega (arith, h))

-- another part at a position
pub values_in-set : (vs : List Value) (i : ℕ) (w : Value) → values_in (set vs i w) ≡ Values.with_part (values_in vs) i (value_in w)
values_in-set [] i w = refl
values_in-set (v ∷ vs) zero w = refl
values_in-set (v ∷ vs) (suc i) w = ap (Values.part (value_in v)) (values_in-set vs i w)

-- behind the last part nothing is replaced
pub with_part-beyond : (vs : List Value) (i : ℕ) (w : Values.Value) → length vs ≤ i → Values.with_part (values_in vs) i w ≡ values_in vs
with_part-beyond [] i w h = refl
with_part-beyond (v ∷ vs) zero w h = absurd (omega (arith, h))
with_part-beyond (v ∷ vs) (suc i) w h = ap (Values.part (value_in v)) (with_part-beyond vs i w (omega (arith, h)))

-- a scalar has no parts within
pub selected-single : (s : Scalar) (path : List ℕ) → Values.selected (Values.Single s) path ≡ Values.Single s
selected-single s [] = refl
selected-single s (i ∷ path) = selected-single s path

-- values behind others
pub values_in-append : (vs ws us : List Value) → values_in vs ≡ values_in us → values_in (vs ++ ws) ≡ values_in (us ++ ws)
values_in-append [] ws [] h = refl
values_in-append [] ws (u ∷ us) h = absurd cc
values_in-append (v ∷ vs) ws [] h = absurd cc
values_in-append (v ∷ vs) ws (u ∷ us) h =
    let first : value_in v ≡ value_in u = cc in
    let rest : values_in vs ≡ values_in us = cc in
    let more = values_in-append vs ws us rest in
    cc

pub values_in-same_last : (us : List Value) (v w : Value) → value_in v ≡ value_in w → values_in (us ++ v ∷ []) ≡ values_in (us ++ w ∷ [])
values_in-same_last [] v w h = ap (λ x. Values.part x Values.no_part) h
values_in-same_last (u ∷ us) v w h = ap (Values.part (value_in u)) (values_in-same_last us v w h)

-- one copy more
pub copied_more : (vs copies next : List Value) (i : ℕ) (v w : Value) → i < length vs → v ≡ get_or vs i v → next ≡ copies ++ w ∷ [] →
    value_in w ≡ value_in v → values_in copies ≡ values_in (take i vs) → values_in next ≡ values_in (take (i + 1) vs)
copied_more vs copies next i v w below here pushed same so_far =
    ap values_in pushed ∙ values_in-append copies (w ∷ []) (take i vs) so_far ∙ values_in-same_last (take i vs) w v same
    ∙ sym (ap values_in (take_more vs i v below ∙ ap (λ x. take i vs ++ x ∷ []) (sym here)))

-- where a position leads to no part, all that are left lead to none
pub selected-none : (v : Values.Value) (path : List ℕ) (i : ℕ) → i < length path → Values.zero_value ≡ Values.inside v (get_or path i 0) →
    Values.zero_value ≡ Values.selected v (drop i path)
selected-none v [] i h e = absurd (omega (arith, h))
selected-none v (p ∷ path) zero h e = sym (ap (λ w. Values.selected w path) (sym e) ∙ selected-single _ path)
selected-none v (p ∷ path) (suc i) h e = selected-none v path i (omega (arith, h)) e

-- parts with others at a position, one behind the other
with_part-twice : (vs : Values.Values) (i : ℕ) (v w : Values.Value) → Values.with_part (Values.with_part vs i v) i w ≡ Values.with_part vs i w
with_part-twice Values.no_part i v w = refl
with_part-twice (Values.part u vs) zero v w = refl
with_part-twice (Values.part u vs) (suc i) v w = ap (Values.part u) (with_part-twice vs i v w)

with_part-itself : (vs : Values.Values) (i : ℕ) → Values.with_part vs i (Values.part_at vs i) ≡ vs
with_part-itself Values.no_part i = refl
with_part-itself (Values.part u vs) zero = refl
with_part-itself (Values.part u vs) (suc i) = ap (Values.part u) (with_part-itself vs i)

part_at-with : (vs : List Value) (i : ℕ) (w : Values.Value) → i < length vs → Values.part_at (Values.with_part (values_in vs) i w) i ≡ w
part_at-with [] i w h = absurd (omega (arith, h))
part_at-with (v ∷ vs) zero w h = refl
part_at-with (v ∷ vs) (suc i) w h = part_at-with vs i w (omega (arith, h))

-- the parts of a value with another part of one of them
parts_set : (parts next : Vec Value Global) (i : ℕ) (new : Value) → next.items ≡ set parts.items i new →
    value_in (Variants.Parts next) ≡ Values.Parts (Values.with_part (values_in parts.items) i (value_in new))
parts_set parts next i new written = value_in-parts next ∙ ap Values.Parts (ap values_in written ∙ values_in-set parts.items i new)

module _ (parts next : Vec Value Global) (whole : Value) (i : ℕ) (rest : List ℕ) (is : whole ≡ Variants.Parts parts) where
  whole_is : value_in whole ≡ Values.Parts (values_in parts.items)
  whole_is = ap value_in is ∙ value_in-parts parts

  module _ (new old : Value) (written : next.items ≡ set parts.items i new) (below : i < length parts.items) (read : old ≡ get_or parts.items i old) where
    old_is : value_in old ≡ Values.part_at (values_in parts.items) i
    old_is = ap value_in read ∙ part_at-read parts.items i old below

    -- a value in the place of a part of one of the parts
    pub replaced_here : (w : Values.Value) → value_in new ≡ Values.replaced (value_in old) rest w →
        value_in (Variants.Parts next) ≡ Values.replaced (value_in whole) (i ∷ rest) w
    replaced_here w replaced =
        parts_set parts next i new written
        ∙ ap (λ v. Values.Parts (Values.with_part (values_in parts.items) i v)) (replaced ∙ ap (λ v. Values.replaced v rest w) old_is)
        ∙ sym (ap (λ v. Values.replaced v (i ∷ rest) w) whole_is)

    back_to : (v : Values.Value) → v ≡ value_in old → Values.Parts (Values.with_part (values_in parts.items) i v) ≡ value_in whole
    back_to v same =
        ap (λ x. Values.Parts (Values.with_part (values_in parts.items) i x)) (same ∙ old_is)
        ∙ ap Values.Parts (with_part-itself (values_in parts.items) i) ∙ sym whole_is

    -- and what was there put back
    pub back_here : (was : Option Value) → put_back (value_in new) rest was ≡ value_in old → put_back (value_in (Variants.Parts next)) (i ∷ rest) was ≡ value_in whole
    back_here None back = parts_set parts next i new written ∙ back_to (value_in new) back
    back_here (Some was) back =
        let vs = values_in parts.items in
        let w = value_in was in
        ap (λ v. Values.replaced v (i ∷ rest) w) (parts_set parts next i new written)
        ∙ ap Values.Parts (with_part-twice vs i (value_in new) _)
        ∙ ap (λ v. Values.Parts (Values.with_part vs i (Values.replaced v rest w))) (part_at-with parts.items i (value_in new) below)
        ∙ back_to (Values.replaced (value_in new) rest w) back

  module _ (same : next.items ≡ parts.items) where
    -- where there is no such part, nothing is replaced
    pub replaced_nowhere : (w : Values.Value) → length parts.items ≤ i → value_in (Variants.Parts next) ≡ Values.replaced (value_in whole) (i ∷ rest) w
    replaced_nowhere w beyond =
        value_in-parts next
        ∙ ap Values.Parts (ap values_in same ∙ sym (with_part-beyond parts.items i (Values.replaced (Values.part_at (values_in parts.items) i) rest w) beyond))
        ∙ sym (ap (λ v. Values.replaced v (i ∷ rest) w) whole_is)

    -- and nothing is put back
    pub back_nowhere : value_in (Variants.Parts next) ≡ value_in whole
    back_nowhere = value_in-parts next ∙ ap Values.Parts (ap values_in same) ∙ sym whole_is
