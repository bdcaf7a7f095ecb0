-- A history has one part of each value, and one list of values; and by other names for processes they are the same.
use Rattle.std.proofs.Common.{◌≡◌, ◌∙◌, ℕ, zero, suc, ◌+◌, ◌<◌, ◌≤◌, arith, List, [], ◌∷◌, ◌++◌, length, Some, None, sym, ap, subst, refl, slice_get}
use Rattle.std.proofs.Math.Nat.{pow-le-pow_right}
use Rattle.std.proofs.lemmas.List.{map-append}
use Rattle.std.proofs.lemmas.Option.{same_Some}
use Rattle.std.specs.List.{Contains}
use Rattle.ob_interface.specs.Call.{ObjectCall, Reply}
use Rattle.ob_interface.specs.declared.scalar.Scalar.{Scalar}
use Rattle.ob_object_search.proofs.Renamed.{comes_back, contains_map, contains_mapped, named_begin, placed_id}
use Rattle.ob_text_reading.specs.Names.{AreApart, AreBelow, IsBelow, named, named_all, named_id}
use Rattle.wf_history.proofs.Positions.{contains_at, place_of}
use Rattle.wf_history.specs.declared.event.CallId.{CallId}
use Rattle.wf_history.specs.History.{Event, Begin, Applied, End}
use Rattle.wf_order.specs.Verdict.{enough}
use Rattle.wf_parts.specs.Numbering.{PartView, whole_event, whole_events}
use Rattle.wf_parts.specs.Parts.{ArePicked, BringValues, Events, IsOwn, IsPart, IsShort, IsWith, argument_at, none, own, other, quiet, known, new}

some_none : {A : Type 0} (x : A) → Some x ≡ None → ⊥
some_none x h = cc

module _ (all : Events) (by : ℕ) (value : Scalar) where
  pub picked_once : {es p q : Events} → ArePicked all by value es p → ArePicked all by value es q → p ≡ q
  picked_once none none = refl
  picked_once (own {e = e} is first) (own also second) = ap (λ (l : Events). e ∷ l) (picked_once first second)
  picked_once (own is first) (other not second) = absurd (not is)
  picked_once (other not first) (own is second) = absurd (not is)
  picked_once (other not first) (other also second) = picked_once first second

  pub picked_size : {es p : Events} → ArePicked all by value es p → length p ≤ length es
  picked_size none = omega arith
  picked_size (own is rest) = let n = picked_size rest in omega (arith, n)
  picked_size (other not rest) = let n = picked_size rest in omega (arith, n)

  pub picked_at : {es p : Events} → ArePicked all by value es p → (k : ℕ) (x : Event ObjectCall Reply) → slice_get p k ≡ Some x → (j : ℕ) × (slice_get es j ≡ Some x)
  picked_at none k x at = absurd (cc)
  picked_at (own is rest) zero x at = (0, at)
  picked_at (own is rest) (suc k) x at = let r = picked_at rest k x at in (suc r.0, r.1)
  picked_at (other not rest) k x at = let r = picked_at rest k x at in (suc r.0, r.1)

-- for fewer events fewer configurations are enough
pub fewer_events : (n few many : ℕ) → few ≤ many → enough n few ≤ enough n many
fewer_events n few many le =
    let positive : 0 < n + 2 = omega arith in
    let exponent : few + 1 ≤ many + 1 = omega (arith, le) in
    pow-le-pow_right positive exponent

module _ (by : ℕ) where
  pub values_once : {vs ws us : List Scalar} {es : Events} → BringValues by vs es ws → BringValues by vs es us → ws ≡ us
  values_once none none = refl
  values_once (quiet is first) (quiet also second) = values_once first second
  values_once (quiet is first) (known {id = id} {call = call} v at there second) = absurd (is id call refl)
  values_once (quiet is first) (new {id = id} {call = call} v at there second) = absurd (is id call refl)
  values_once (known {id = id} {call = call} v at there first) (quiet is second) = absurd (is id call refl)
  values_once (known v at there first) (known w of here second) = values_once first second
  values_once {vs} (known v at there first) (new w of here second) = absurd (here (subst (λ (x : Scalar). Contains vs x) (same_Some v w (sym at ∙ of)) there))
  values_once (new {id = id} {call = call} v at there first) (quiet is second) = absurd (is id call refl)
  values_once {vs} (new v at there first) (known w of here second) = absurd (there (subst (λ (x : Scalar). Contains vs x) (same_Some w v (sym of ∙ at)) here))
  values_once {vs} {ws} {us} (new {es = es} v at there first) (new w of here second) =
      values_once first (subst (λ (x : Scalar). BringValues by (vs ++ x ∷ []) es us) (same_Some w v (sym of ∙ at)) second)

  pub values_short : (before rest : Events) (id : CallId) (call : ObjectCall) {vs ws : List Scalar} → argument_at by call ≡ None → BringValues by vs (before ++ Begin id call ∷ rest) ws → ⊥
  values_short [] rest id call missing (quiet is more) = is id call refl
  values_short [] rest id call missing (known v at there more) = some_none v (sym at ∙ missing)
  values_short [] rest id call missing (new v at there more) = some_none v (sym at ∙ missing)
  values_short (e ∷ before) rest id call missing (quiet is more) = values_short before rest id call missing more
  values_short (e ∷ before) rest id call missing (known v at there more) = values_short before rest id call missing more
  values_short (e ∷ before) rest id call missing (new v at there more) = values_short before rest id call missing more

  pub none_short : (events : Events) (values : List Scalar) (id : CallId) → IsShort by events id → BringValues by [] events values → ⊥
  none_short events values id s h = values_short s.before s.rest id s.call s.short (subst (λ (es : Events). BringValues by [] es values) s.parts h)

-- by the names of processes

no_begin : (names : List ℕ) (e : Event ObjectCall Reply) → ((id : CallId) (call : ObjectCall) → e ≡ Begin id call → ⊥) → (id : CallId) (call : ObjectCall) → named names e ≡ Begin id call → ⊥
no_begin names e none_begun id call h = let b = named_begin names e id call h in none_begun b.0 call b.1

module _ (names : List ℕ) (by : ℕ) where
  pub values_named : {vs ws : List Scalar} {es : Events} → BringValues by vs es ws → BringValues by vs (named_all names es) ws
  values_named none = none
  values_named (quiet {e = e} is more) = quiet (no_begin names e is) (values_named more)
  values_named (known v at there more) = known v at there (values_named more)
  values_named (new v at there more) = new v at there (values_named more)

  pub short_named : (events : Events) (id : CallId) → IsShort by events id → IsShort by (named_all names events) (named_id names id)
  short_named events id s = record {
    before = named_all names s.before;
    call = s.call;
    rest = named_all names s.rest;
    parts = ap (named_all names) s.parts ∙ map-append (named names) s.before (Begin id s.call ∷ s.rest);
    short = s.short;
    values = s.values;
    earlier = values_named s.earlier;
  }

  module _ (all : Events) (apart : AreApart names) (few : AreBelow (length names) all) (value : Scalar) where
    with_named : (id : CallId) → IsWith all by value id → IsWith (named_all names all) by value (named_id names id)
    with_named id w = record { call = w.call; begun = contains_map (named names) all (Begin id w.call) w.begun; argument = w.argument }

    with_back : (id : CallId) → id.process < length names → IsWith (named_all names all) by value (named_id names id) → IsWith all by value id
    with_back id low w =
        let m = contains_mapped (named names) all (Begin (named_id names id) w.call) w.begun in
        let b = named_begin names m.0 (named_id names id) w.call m.2 in
        let there = subst (λ (e : Event ObjectCall Reply). Contains all e) b.1 m.1 in
        let same : b.0 ≡ id = sym (comes_back names apart b.0 (few (Begin b.0 w.call) there)) ∙ ap (placed_id names) b.2 ∙ comes_back names apart id low in
        record { call = w.call; begun = subst (λ (x : CallId). Contains all (Begin x w.call)) same there; argument = w.argument }

    own_named : (e : Event ObjectCall Reply) → IsOwn all by value e → IsOwn (named_all names all) by value (named names e)
    own_named (Begin id call) w = with_named id w
    own_named (Applied ids) w = w
    own_named (End id reply) w = with_named id w

    own_back : (e : Event ObjectCall Reply) → IsBelow (length names) e → IsOwn (named_all names all) by value (named names e) → IsOwn all by value e
    own_back (Begin id call) low w = with_back id low w
    own_back (Applied ids) low w = w
    own_back (End id reply) low w = with_back id low w

    pick_named : {es p : Events} → AreBelow (length names) es → ArePicked all by value es p → ArePicked (named_all names all) by value (named_all names es) (named_all names p)
    pick_named below none = none
    pick_named below (own {e = e} {es = es} is more) = own (own_named e is) (pick_named (λ x c. let k = place_of es x c in below x (contains_at (e ∷ es) (suc k.0) x k.1)) more)
    pick_named below (other {e = e} {es = es} not more) =
        other (λ is. not (own_back e (below e (contains_at (e ∷ es) 0 e refl)) is)) (pick_named (λ x c. let k = place_of es x c in below x (contains_at (e ∷ es) (suc k.0) x k.1)) more)

    pub part_named : (p : Events) → IsPart all by value p → IsPart (named_all names all) by value (named_all names p)
    part_named p h = pick_named few h

-- the processes of a part are those of the history

below_back : (n : ℕ) (rows : List (List ℕ)) (e : Event ObjectCall Reply) → IsBelow n (whole_event rows e) → IsBelow n e
below_back n rows (Begin id call) h = h
below_back n rows (Applied ids) h = tt
below_back n rows (End id reply) h = h

pub below_part : (all : Events) (by n : ℕ) (p : PartView) → AreBelow n all → IsPart all by p.value (whole_events p.rows p.events) → AreBelow n p.events
below_part all by n p below h e c =
    let k = place_of (whole_events p.rows p.events) (whole_event p.rows e) (contains_map (whole_event p.rows) p.events e c) in
    let j = picked_at all by p.value h k.0 (whole_event p.rows e) k.1 in
    below_back n p.rows e (below (whole_event p.rows e) (contains_at all j.0 (whole_event p.rows e) j.1))
