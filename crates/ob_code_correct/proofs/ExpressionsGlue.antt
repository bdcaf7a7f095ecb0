-- How evaluations come one behind the other.
use Rattle.std.proofs.Common.{◌≡◌, ℕ, ◌+◌, ◌≤◌, ℤ, List, refl, subst, arith}
use Rattle.ob_typing.specs.Arithmetic.{Evaluated, Gives, Traps, ◌>>=◌}
use Rattle.ob_meaning.specs.ByPositionStore.{Store}
use Rattle.ob_code_scheme.specs.Running.{Setting, reserve_of, here, Evaluates}
use Rattle.ob_code_scheme.specs.Placing.{CodePlaced}
use Rattle.ob_code_correct.proofs.Instructions.{Leading}

module _ (placed : CodePlaced) (at : Setting) (store : Store) (turns : ℕ) where
  -- the place or the temporaries that are reached, under another name
  pub arrives : (m pc pc1 pc2 : ℕ) (temps : List ℤ) (ts us : List ℤ) → pc1 ≡ pc2 → ts ≡ us → Leading placed at store turns m pc temps pc1 ts → Leading placed at store turns m pc temps pc2 us
  arrives m pc pc1 pc2 temps ts us p e l =
      subst (λ (n : ℕ). Leading placed at store turns m pc temps n us) p (subst (λ (xs : List ℤ). Leading placed at store turns m pc temps pc1 xs) e l)

  -- one behind the other
  pub leads_behind : (m n size pc pc1 pc2 : ℕ) (ts us vs : List ℤ) → m + n ≤ size → Leading placed at store turns m pc ts pc1 us → Leading placed at store turns n pc1 us pc2 vs → Leading placed at store turns size pc ts pc2 vs
  leads_behind m n size pc pc1 pc2 ts us vs h k l =
      let glue = placed.leads at.code (reserve_of at) in
      glue.more (m + n) size (here at store turns pc ts) (here at store turns pc2 vs) h
      (glue.on m n (here at store turns pc ts) (here at store turns pc1 us) (here at store turns pc2 vs) k l)

  -- no instruction
  pub nothing : (pc : ℕ) (ts : List ℤ) → Leading placed at store turns 0 pc ts (pc + 0) ts
  nothing pc ts =
      let same : pc ≡ pc + 0 = omega arith in
      arrives 0 pc pc (pc + 0) ts ts ts same refl ((placed.leads at.code (reserve_of at)).none (here at store turns pc ts))

  -- instructions before an evaluation
  pub before : {A : Type 0} (m n size pc pc1 : ℕ) (ts us : List ℤ) (Is : A → Type 0) (behind : A → List ℤ) (e : Evaluated A) → m + n ≤ size → pc1 + n ≡ pc + size →
      Leading placed at store turns m pc ts pc1 us → Evaluates at store turns n pc1 us Is behind e → Evaluates at store turns size pc ts Is behind e
  before m n size pc pc1 ts us Is behind (Gives x) few end l h =
      (h.0, arrives size pc (pc1 + n) (pc + size) ts (behind x) (behind x) end refl (leads_behind m n size pc pc1 (pc1 + n) ts us (behind x) few l h.1))
  before m n size pc pc1 ts us Is behind (Traps k) few end l h =
      let glue = placed.leads at.code (reserve_of at) in
      glue.stops_more (m + n) size (here at store turns pc ts) k few
      (glue.stops_on m n (here at store turns pc ts) (here at store turns pc1 us) k l h)

  -- an evaluation behind another one
  pub then_evaluates : {A B : Type 0} (m n size pc : ℕ) (ts : List ℤ) (Is : A → Type 0) (behind : A → List ℤ) (Next : B → Type 0) (next : B → List ℤ) (e : Evaluated A) (go : A → Evaluated B) →
      m + n ≡ size → Evaluates at store turns m pc ts Is behind e →
      ((x : A) → Is x → Evaluates at store turns n (pc + m) (behind x) Next next (go x)) → Evaluates at store turns size pc ts Next next (◌>>=◌ e go)
  then_evaluates m n size pc ts Is behind Next next (Gives x) go whole h further =
      before m n size pc (pc + m) ts (behind x) Next next (go x) (omega arith) (omega arith) h.1 (further x h.0)
  then_evaluates m n size pc ts Is behind Next next (Traps k) go whole h further =
      (placed.leads at.code (reserve_of at)).stops_more m size (here at store turns pc ts) k (omega arith) h

  -- what is made of what an evaluation gives
  pub made_of : {A B : Type 0} (f : A → B) (size pc : ℕ) (ts : List ℤ) (Is : A → Type 0) (behind : A → List ℤ) (Next : B → Type 0) (next : B → List ℤ) (e : Evaluated A) →
      ((x : A) → Is x → Next (f x) × (behind x ≡ next (f x))) → Evaluates at store turns size pc ts Is behind e →
      Evaluates at store turns size pc ts Next next (◌>>=◌ e (λ x. Gives (f x)))
  made_of f size pc ts Is behind Next next (Gives x) same h =
      let s = same x h.0 in
      (s.0, arrives size pc (pc + size) (pc + size) ts (behind x) (next (f x)) refl s.1 h.1)
  made_of f size pc ts Is behind Next next (Traps k) same h = h
