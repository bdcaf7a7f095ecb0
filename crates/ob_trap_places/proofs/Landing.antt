-- When the sites of an evaluation or of a run have places: among the parts of a construct, or in a procedure that was called.
use Rattle.std.proofs.Common.{◌≡◌, refl, ap, sym, subst, ◌∙◌, arith, ℕ, suc, ◌+◌, Bool, true, false, List, [], ◌∷◌, if◌then◌else◌, Option, Some, None}
use Rattle.ob_typing.specs.Arithmetic.{Evaluated, Gives, Traps}
use Rattle.ob_trap_places.specs.Site.{Cause, Site, here, Sited, Yields, TrapsAt, at, of_part, of_procedure}
use Rattle.ob_trap_places.specs.Site as Sites
use Rattle.ob_trap_places.specs.Places.{Places, Parts, before, itself, of_parts}

abbrev pub bind : {A B : Type 0} → Sited A → (A → Sited B) → Sited B
bind = Sites.◌>>=◌

abbrev pub HasPlace : Option ℕ → Type 0
HasPlace o = (place : ℕ) × (o ≡ Some place)

-- a path through parts of which the first has this number
pub record LandsFrom (parts : Parts) (n : ℕ) (path : List ℕ) : Type 0 where
  pub further : ℕ
  pub behind : List ℕ
  pub is : path ≡ (n + further) ∷ behind
  pub place : HasPlace (parts further behind)

-- where the procedures of a module have places
module _ (procedures : ℕ → Places) where
  abbrev pub Lands : Places → Option ℕ → List ℕ → Type 0
  Lands places None path = HasPlace (places path)
  Lands places (Some number) path = HasPlace (procedures number path)

  abbrev pub LandsAmong : Parts → ℕ → Option ℕ → List ℕ → Type 0
  LandsAmong parts n None path = LandsFrom parts n path
  LandsAmong parts n (Some number) path = HasPlace (procedures number path)

  -- the sites of a construct
  abbrev pub Fits : {A : Type 0} → Places → Sited A → Type 0
  Fits places (Yields a) = Unit {0}
  Fits places (TrapsAt site) = Lands places site.procedure site.path

  -- the sites of parts, of which the first has this number
  abbrev pub FitsFrom : {A : Type 0} → Parts → ℕ → Sited A → Type 0
  FitsFrom parts n (Yields a) = Unit {0}
  FitsFrom parts n (TrapsAt site) = LandsAmong parts n site.procedure site.path

  pub bound : {A B : Type 0} (places : Places) (x : Sited A) (f : A → Sited B) → Fits places x → ((a : A) → Fits places (f a)) → Fits places (bind x f)
  bound places (Yields a) f h k = k a
  bound places (TrapsAt site) f h k = h

  pub bound_from : {A B : Type 0} (parts : Parts) (n : ℕ) (x : Sited A) (f : A → Sited B) → FitsFrom parts n x → ((a : A) → FitsFrom parts n (f a)) →
      FitsFrom parts n (bind x f)
  bound_from parts n (Yields a) f h k = k a
  bound_from parts n (TrapsAt site) f h k = h

  lands_whole : (parts : Parts) (procedure : Option ℕ) (path : List ℕ) → LandsAmong parts 0 procedure path → Lands (of_parts parts) procedure path
  lands_whole parts None path h =
      let none : 0 + h.further ≡ h.further = omega arith in
      subst (λ p. HasPlace (of_parts parts p)) (sym (h.is ∙ ap (λ k. k ∷ h.behind) none)) h.place
  lands_whole parts (Some number) path h = h

  pub whole : {A : Type 0} (parts : Parts) (x : Sited A) → FitsFrom parts 0 x → Fits (of_parts parts) x
  whole parts (Yields a) h = tt
  whole parts (TrapsAt site) h = lands_whole parts site.procedure site.path h

  lands_later : (first : Places) (rest : Parts) (n : ℕ) (procedure : Option ℕ) (path : List ℕ) → LandsAmong rest (suc n) procedure path →
      LandsAmong (before first rest) n procedure path
  lands_later first rest n None path h =
      let same : suc n + h.further ≡ n + suc h.further = omega arith in
      record { further = suc h.further; behind = h.behind; is = h.is ∙ ap (λ k. k ∷ h.behind) same; place = h.place }
  lands_later first rest n (Some number) path h = h

  pub later : {A : Type 0} (first : Places) (rest : Parts) (n : ℕ) (x : Sited A) → FitsFrom rest (suc n) x → FitsFrom (before first rest) n x
  later first rest n (Yields a) h = tt
  later first rest n (TrapsAt site) h = lands_later first rest n site.procedure site.path h

  lands_first : (first : Places) (rest : Parts) (n : ℕ) (procedure : Option ℕ) (path : List ℕ) → Lands first procedure path →
      LandsAmong (before first rest) n procedure (Sites.path_from procedure n path)
  lands_first first rest n None path h =
      let same : n ≡ n + 0 = omega arith in
      record { further = 0; behind = path; is = ap (λ k. k ∷ path) same; place = h }
  lands_first first rest n (Some number) path h = h

  pub first_part : {A : Type 0} (first : Places) (rest : Parts) (n : ℕ) (x : Sited A) → Fits first x → FitsFrom (before first rest) n (of_part n x)
  first_part first rest n (Yields a) h = tt
  first_part first rest n (TrapsAt site) h = lands_first first rest n site.procedure site.path h

  pub this_part : (place n : ℕ) (rest : Parts) → LandsFrom (before (itself place) rest) n (n ∷ [])
  this_part place n rest =
      let same : n ≡ n + 0 = omega arith in
      record { further = 0; behind = []; is = ap (λ k. k ∷ []) same; place = (place, refl) }

  pub at_part : {A : Type 0} (place : ℕ) (rest : Parts) (n : ℕ) (c : Cause) (v : Evaluated A) → FitsFrom (before (itself place) rest) n (at n c v)
  at_part place rest n c (Gives a) = tt
  at_part place rest n c (Traps k) = this_part place n rest

  pub in_either : {A : Type 0} (parts : Parts) (n : ℕ) (b : Bool) (x y : Sited A) → FitsFrom parts n x → FitsFrom parts n y → FitsFrom parts n (if b then x else y)
  in_either parts n true x y h k = h
  in_either parts n false x y h k = k

  lands_called : (places : Places) (parts : Parts) (n number : ℕ) (procedure : Option ℕ) (path : List ℕ) →
      ((path : List ℕ) → HasPlace (places path) → HasPlace (procedures number path)) → Lands places procedure path →
      HasPlace (procedures (Sites.innermost procedure number) path)
  lands_called places parts n number None path here h = here path h
  lands_called places parts n number (Some inner) path here h = h

  -- within a procedure that was called
  pub called : {A : Type 0} (places : Places) (parts : Parts) (n number : ℕ) (x : Sited A) →
      ((path : List ℕ) → HasPlace (places path) → HasPlace (procedures number path)) → Fits places x → FitsFrom parts n (of_procedure number x)
  called places parts n number (Yields a) here h = tt
  called places parts n number (TrapsAt site) here h = lands_called places parts n number site.procedure site.path here h
