-- Lists that are kept once each.
use Rattle.std.proofs.Common.{◌≡◌, refl, sym, ap, ◌∙◌, subst, ℕ, ◌+◌, ◌<◌, zero, suc, Bool, true, false, ◌&&◌, List, [], ◌∷◌, ◌++◌, length, get_or, Some, ◌↔◌, inl, inr, arith, length-append}
use Rattle.std.proofs.Math.Dec.{eqb}
use Rattle.std.proofs.lemmas.Bool.Decides.{Decides-eqb}
use Rattle.std.proofs.lemmas.List.{get_or_append_left}
use Rattle.std.proofs.lemmas.Option.{same_Some, slice_get-get_or, slice_get_within}
use Rattle.std.specs.List.{slice_get}
use Rattle.indexmap.specs.IndexSet.{insert_key}
use Rattle.wf_history.proofs.Positions.{place_here, place_left, place_push}
use Rattle.wf_whole_outcomes.specs.Graph.{AreApart}
use Rattle.wf_whole_outcomes.specs.Nodes.{AreLinked, list_with}
use Rattle.wf_whole_outcomes.specs.declared.nodes.Link.{Link}
use Rattle.wf_whole_outcomes.proofs.Arriving.{IsIn, arrived}
use Rattle.wf_whole_outcomes.proofs.Listing.{in_map, item_at}

-- one item more, which is new
pub apart_push : {V : Type 0} (vs : List V) (v : V) → AreApart vs → ((k : ℕ) → slice_get vs k ≡ Some v → ⊥) → AreApart (vs ++ v ∷ [])
apart_push vs v apart fresh j k a at also =
    elim (place_push vs v j a at) [
      | inl one ↦ elim (place_push vs v k a also) [
        | inl two ↦ apart j k a one two
        | inr two ↦ absurd (fresh j (one ∙ ap Some (sym two.1)))
      ]
      | inr one ↦ elim (place_push vs v k a also) [
        | inl two ↦ absurd (fresh k (two ∙ ap Some (sym one.1)))
        | inr two ↦ one.0 ∙ sym two.0
      ]
    ]

-- `==` of links
abbrev pub link_eq : Link → Link → Bool
link_eq a b = eqb a.list b.list && eqb a.reply b.reply

same_link : (a b : Link) → a.list ≡ b.list → a.reply ≡ b.reply → a ≡ b
same_link a b list reply = ap (λ (n : ℕ). record { list = n; reply = a.reply }) list ∙ ap (λ (n : ℕ). record { list = b.list; reply = n }) reply

pub exact_links : (a b : Link) → (link_eq a b ≡ true) ↔ (a ≡ b)
exact_links a b = (
  (λ e. by (eqb a.list b.list) (eqb a.reply b.reply) refl refl e),
  (λ same. subst (λ (x : Link). link_eq a x ≡ true) same (self a)),
)
  where
    self : (x : Link) → link_eq x x ≡ true
    self x = ap (λ (l : Bool). l && eqb x.reply x.reply) ((Decides-eqb x.list x.list).1 refl) ∙ (Decides-eqb x.reply x.reply).1 refl

    by : (p q : Bool) → eqb a.list b.list ≡ p → eqb a.reply b.reply ≡ q → (eqb a.list b.list && eqb a.reply b.reply) ≡ true → a ≡ b
    by true true is_p is_q h = same_link a b ((Decides-eqb a.list b.list).0 is_p) ((Decides-eqb a.reply b.reply).0 is_q)
    by true false is_p is_q h = absurd (cc)
    by false q is_p is_q h = absurd (cc)

-- lists with the same item behind them, or with others
last_same : {A : Type 0} (xs ys : List A) (x y : A) → xs ++ x ∷ [] ≡ ys ++ y ∷ [] → (xs ≡ ys) × (x ≡ y)
last_same [] [] x y e = (refl, cc)
last_same [] (b ∷ ys) x y e = let size = ap length e in let more = length-append ys (y ∷ []) in absurd (omega (arith, size, more))
last_same (a ∷ xs) [] x y e = let size = ap length e in let more = length-append xs (x ∷ []) in absurd (omega (arith, size, more))
last_same (a ∷ xs) (b ∷ ys) x y e =
    let first : a ≡ b = cc in
    let rest = last_same xs ys x y (cc) in
    (ap (λ l. a ∷ l) rest.0 ∙ ap (λ c. c ∷ ys) first, rest.1)

module _ (links : List Link) (lists : List (List ℕ)) (h : AreLinked links lists) (x : Link) (within : x.list < length lists) where
  abbrev pub made : List ℕ
  made = list_with lists x.list x.reply

  -- the same lists stand there, when there is one more
  still_with : (list reply : ℕ) → list < length lists → list_with lists list reply ≡ list_with (lists ++ made ∷ []) list reply
  still_with list reply there = ap (λ (l : List ℕ). l ++ reply ∷ []) (sym (get_or_append_left lists (made ∷ []) [] list there))

  -- a list behind the first one is of a link
  link_at : (k : ℕ) (l : List ℕ) → slice_get lists k ≡ Some l → 0 < k → (j : ℕ) × (y : Link) × (k ≡ j + 1) × (slice_get links j ≡ Some y)
  link_at zero l at behind = absurd (omega (arith, behind))
  link_at (suc k) l at behind =
      let size = h.size in
      let there = slice_get_within lists (suc k) l at in
      let y = item_at links k (omega (arith, size, there)) in
      (k, y.0, omega arith, y.1)

  -- the link of the list that is made is this one
  pub is_of : (k : ℕ) → slice_get lists k ≡ Some made → IsIn links x
  is_of zero at =
      let e = ap length (same_Some [] made (sym h.first ∙ at)) in
      let size = length-append (get_or lists x.list []) (x.reply ∷ []) in
      absurd (omega (arith, e, size))
  is_of (suc k) at =
      let behind : 0 < suc k = omega arith in
      let l = link_at (suc k) made at behind in
      let j = l.0 in
      let y = l.1 in
      let e = h.each j y l.3 in
      let here : slice_get lists (suc k) ≡ Some (list_with lists y.list y.reply) = ap (slice_get lists) l.2 ∙ e.1 in
      let same = last_same (get_or lists y.list []) (get_or lists x.list []) y.reply x.reply (same_Some (list_with lists y.list y.reply) made (sym here ∙ at)) in
      let before = e.0 in
      let there = slice_get_within lists (suc k) made at in
      let is = l.2 in
      let own : y.list < length lists = omega (arith, before, there, is) in
      let list : y.list ≡ x.list = h.apart y.list x.list (get_or lists x.list []) (slice_get-get_or lists y.list [] own ∙ ap Some same.0) (slice_get-get_or lists x.list [] within) in
      (j, l.3 ∙ ap Some (same_link y x list same.1))

  module _ (fresh : (k : ℕ) → slice_get links k ≡ Some x → ⊥) where
    each_on : (k : ℕ) (l : Link) → slice_get (links ++ x ∷ []) k ≡ Some l →
        (l.list < k + 1) × (slice_get (lists ++ made ∷ []) (k + 1) ≡ Some (list_with (lists ++ made ∷ []) l.list l.reply))
    each_on k l at =
        elim (place_push links x k l at) [
          | inl one ↦
              let e = h.each k l one in
              let before = e.0 in
              let there = slice_get_within lists (k + 1) (list_with lists l.list l.reply) e.1 in
              (before, place_left lists (made ∷ []) (k + 1) (list_with lists l.list l.reply) e.1 ∙ ap Some (still_with l.list l.reply (omega (arith, before, there))))
          | inr one ↦
              let is = one.0 in
              let size = h.size in
              let end : k + 1 ≡ length lists = omega (arith, is, size) in (
                subst (λ (y : Link). y.list < k + 1) one.1 (omega (arith, within, end)),
                ap (slice_get (lists ++ made ∷ [])) end ∙ place_here lists [] made
                    ∙ ap Some (still_with x.list x.reply within ∙ ap (λ (y : Link). list_with (lists ++ made ∷ []) y.list y.reply) one.1),
              )
        ]

    linked_here : AreLinked (links ++ x ∷ []) (lists ++ made ∷ [])
    linked_here = record {
      size = let one = length-append lists (made ∷ []) in let two = length-append links (x ∷ []) in let size = h.size in omega (arith, one, two, size);
      first = place_left lists (made ∷ []) 0 [] h.first;
      each = each_on;
      apart = apart_push lists made h.apart (λ k at. let there = is_of k at in fresh there.0 there.1);
    }

  -- what there is when the link was looked up, and its list was made if it was new
  module _ (after : List Link) (inserted : after ≡ insert_key link_eq links x) where
    abbrev Any : Link → Type 0
    Any l = Unit {0}

    pub old_link : Rattle.std.specs.List.list_any (link_eq x) links ≡ true → after ≡ links
    old_link there =
        elim (arrived link_eq (λ l. l) Any exact_links_good links x (λ k d less. tt) tt after inserted) [
          | inl old ↦ old.2
          | inr new ↦ let e = new.0 in absurd (cc)
        ]
      where
        exact_links_good : (a b : Link) → Any a → Any b → (link_eq a b ≡ true) ↔ (a ≡ b)
        exact_links_good a b p q = exact_links a b

    pub new_linked : Rattle.std.specs.List.list_any (link_eq x) links ≡ false → (longer : List (List ℕ)) → longer ≡ lists ++ made ∷ [] → AreLinked after longer
    new_linked none longer one =
        elim (arrived link_eq (λ l. l) Any exact_links_good links x (λ k d less. tt) tt after inserted) [
          | inl old ↦ let e = old.0 in absurd (cc)
          | inr new ↦
              subst (λ (l : List Link). AreLinked l longer) (sym new.2) (subst (λ (l : List (List ℕ)). AreLinked (links ++ x ∷ []) l) (sym one)
              (linked_here (λ k at. new.1 k (in_map (λ l. l) links k x at))))
        ]
      where
        exact_links_good : (a b : Link) → Any a → Any b → (link_eq a b ≡ true) ↔ (a ≡ b)
        exact_links_good a b p q = exact_links a b
