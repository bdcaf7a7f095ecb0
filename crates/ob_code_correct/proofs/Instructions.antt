-- One instruction on the image of a store: what it makes of the temporaries on top, and the trap where it traps.
use Rattle.std.proofs.Common.{◌≡◌, ℕ, ◌+◌, ◌-◌, ◌*◌, ◌^◌, ◌<◌, ltb, leb, ℤ, pos, Bool, true, false, cond, List, [], ◌∷◌, ◌++◌, length, take, drop, get_or, Some, Option, refl, sym, ap, ◌∙◌, append_assoc, length-append, arith}
use Rattle.std.specs.Prelude.{slice_get, ◌+ℤ◌, ◌*ℤ◌, ◌||◌, int_lt, int_le, if◌then◌else◌}
use Rattle.std.specs.Ordering.{int_eq}
use Rattle.std.proofs.lemmas.Bool.Decides.{nat_tests}
use Rattle.std.proofs.lemmas.List.{get_or_at, take_at}
use Rattle.ob_interface.specs.declared.scalar.Scalar.{Scalar}
use Rattle.ob_interface.specs.declared.scalar.ScalarType.{ScalarType}
use Rattle.ob_typing.specs.Arithmetic.{Evaluated, Gives as Given, Traps as Fails}
use Rattle.ob_typing.specs.Program.{DataType}
use Rattle.ob_meaning.specs.ByPositionStore.{Place, Store, activation_at}
use Rattle.ob_code_scheme.specs.Types.{extent, total, address as place_address, IsScalarOf, IsPlace, Fits}
use Rattle.ob_code_scheme.specs.Layout.{word}
use Rattle.ob_code_words.specs.declared.instr.Instr.{Instr}
use Rattle.ob_code_words.specs.declared.instr.Instr.TheVariants as Instrs
use Rattle.ob_code_words.specs.Words.{Made, Gives, Traps, Sticks, ◌>>=◌, address, made_of_one, made_of_two}
use Rattle.ob_code_words.specs.Effect.{popped, pushed, of_one, of_two, loaded, word_at}
use Rattle.ob_code_machine.specs.Machine.{Configuration, Unfinished, Trapped, made_then, goes_to, jump_if_decided, goes_on, act, act_at}
use Rattle.ob_code_scheme.specs.Image.{position_words, store_words, Leads, Stops}
use Rattle.ob_code_scheme.proofs.Small.{addresses_are_words}
use Rattle.ob_code_scheme.specs.Memory.{Measured, MemoryHolds}
use Rattle.ob_code_scheme.specs.Running.{Setting, globals_of, scopes_of, all_of, reserve_of, here, HasRoom, Evaluates}
use Rattle.ob_code_scheme.specs.Placing.{CodePlaced}

-- ---- the stack: words of the store, temporaries, and words on top

below : (m n : ℕ) → m < n → ltb m n ≡ true
below m n h = grind (arith, nat_tests)

-- the word on top
popped_push : (s : List ℤ) (w : ℤ) → popped (s ++ w ∷ []) ≡ Gives (w, s)
popped_push s w =
    let n : length (s ++ w ∷ []) ≡ length s + 1 = length-append s (w ∷ []) in
    let last : length (s ++ w ∷ []) - 1 ≡ length s = omega (arith, n) in
    let some : ltb 0 (length (s ++ w ∷ [])) ≡ true = below 0 (length (s ++ w ∷ [])) (omega (arith, n)) in
    ap (λ (b : Bool). cond b (Gives (get_or (s ++ w ∷ []) (length (s ++ w ∷ []) - 1) (pos 0), take (length (s ++ w ∷ []) - 1) (s ++ w ∷ []))) Sticks) some
    ∙ ap (λ (i : ℕ). Gives (get_or (s ++ w ∷ []) i (pos 0), take i (s ++ w ∷ []))) last
    ∙ ap (λ (x : ℤ). Gives (x, take (length s) (s ++ w ∷ []))) (get_or_at s w [] (pos 0) (length s) refl)
    ∙ ap (λ (l : List ℤ). Gives (w, l)) (take_at s (w ∷ []) (length s) refl)

pub popped_top : (s t : List ℤ) (w : ℤ) → popped (s ++ (t ++ w ∷ [])) ≡ Gives (w, s ++ t)
popped_top s t w = ap popped (sym (append_assoc s t (w ∷ []))) ∙ popped_push (s ++ t) w

pub pushed_top : (reserve : ℕ) (s t : List ℤ) (w : ℤ) → length s + length t < reserve → pushed reserve (s ++ t) w ≡ Gives (s ++ (t ++ w ∷ []))
pushed_top reserve s t w room =
    ap (λ (b : Bool). cond b (Gives ((s ++ t) ++ w ∷ [])) Sticks) (below (length (s ++ t)) reserve (omega (arith, room, length-append s t)))
    ∙ ap (λ (l : List ℤ). Gives l) (append_assoc s t (w ∷ []))

-- what is made of one word on top, and of two
abbrev on_top : List ℤ → List ℤ → Made ℤ → Made (List ℤ)
on_top s t m = m >>= (λ made. Gives (s ++ (t ++ made ∷ [])))

on_top_is : (s t : List ℤ) (m : Made ℤ) → (m >>= (λ made. Gives ((s ++ t) ++ made ∷ []))) ≡ on_top s t m
on_top_is s t (Gives z) = ap (λ (l : List ℤ). Gives l) (append_assoc s t (z ∷ []))
on_top_is s t (Traps k) = refl
on_top_is s t Sticks = refl

pub one_top : (f : ℤ → Made ℤ) (s t : List ℤ) (x : ℤ) → of_one f (s ++ (t ++ x ∷ [])) ≡ on_top s t (f x)
one_top f s t x =
    ap (λ (p : Made (ℤ × List ℤ)). p >>= (λ (x : ℤ × List ℤ). f x.0 >>= (λ made. Gives (x.1 ++ made ∷ [])))) (popped_top s t x)
    ∙ on_top_is s t (f x)

pub two_top : (f : ℤ → ℤ → Made ℤ) (s t : List ℤ) (x y : ℤ) → of_two f (s ++ ((t ++ x ∷ []) ++ y ∷ [])) ≡ on_top s t (f x y)
two_top f s t x y =
    ap (λ (p : Made (ℤ × List ℤ)). p >>= (λ (y : ℤ × List ℤ). popped y.1 >>= (λ (x : ℤ × List ℤ). f x.0 y.0 >>= (λ made. Gives (x.1 ++ made ∷ []))))) (popped_top s (t ++ x ∷ []) y)
    ∙ ap (λ (p : Made (ℤ × List ℤ)). p >>= (λ (x : ℤ × List ℤ). f x.0 y >>= (λ made. Gives (x.1 ++ made ∷ [])))) (popped_top s t x)
    ∙ on_top_is s t (f x y)

pub loaded_top : (block s t : List ℤ) (a w : ℤ) → word_at block (s ++ t) a ≡ Gives w → loaded block (s ++ (t ++ a ∷ [])) ≡ Gives (s ++ (t ++ w ∷ []))
loaded_top block s t a w h =
    ap (λ (p : Made (ℤ × List ℤ)). p >>= (λ (x : ℤ × List ℤ). word_at block x.1 x.0 >>= (λ w. Gives (x.1 ++ w ∷ [])))) (popped_top s t a)
    ∙ ap (λ (m : Made ℤ). m >>= (λ w. Gives ((s ++ t) ++ w ∷ []))) h
    ∙ ap (λ (l : List ℤ). Gives l) (append_assoc s t (w ∷ []))

pub address_small : (n : ℕ) → n < 2 ^ 63 → address (pos n) ≡ Gives (pos n)
address_small n h = ap (λ (b : Bool). cond b (Gives (pos n)) Sticks) (below n 9223372036854775808 h)

-- ---- instructions of a kind: they go on behind, with another stack and the same block

abbrev Leaves : (ℕ → Configuration → Made (List ℤ)) → Instr → Type 0
Leaves made i =
    (reserve : ℕ) (c : Configuration) → act reserve i c ≡ made_then (made reserve c >>= (λ after. Gives (c.block, after))) (goes_on c)

-- one word gives way to what is made of it, or two words
abbrev pub IsOfOne : Instr → Type 0
IsOfOne i = Leaves (λ reserve c. of_one (made_of_one i) c.body.stack) i

abbrev pub IsOfTwo : Instr → Type 0
IsOfTwo i = Leaves (λ reserve c. of_two (made_of_two i) c.body.stack) i

-- what the machine makes is the word of a scalar that the source gives, or it traps with the source
abbrev pub Agrees : ScalarType → Made ℤ → Evaluated Scalar → Type 0
Agrees t m (Given x) = IsScalarOf t x × (m ≡ Gives (word x))
Agrees t m (Fails k) = m ≡ Traps k

-- with the word of a scalar on top, or the address of a place
abbrev pub with_word : List ℤ → Scalar → List ℤ
with_word temps x = temps ++ word x ∷ []

abbrev pub with_place : Setting → List ℤ → Place → List ℤ
with_place at temps place = temps ++ pos (place_address (all_of at) place) ∷ []

module _ (placed : CodePlaced) (at : Setting) (store : Store) (turns : ℕ) where
  abbrev pub block : List ℤ
  block = position_words (all_of at) (activation_at store 0)

  abbrev pub others : List ℤ
  others = store_words (all_of at) (drop 1 store)

  abbrev pub Leading : ℕ → ℕ → List ℤ → ℕ → List ℤ → Type 0
  Leading most pc temps pc' temps' =
      Leads at.code (reserve_of at) most (here at store turns pc temps) (here at store turns pc' temps')

  abbrev pub Stopping : ℕ → ℕ → List ℤ → ℕ → Type 0
  Stopping most pc temps k = Stops at.code (reserve_of at) most (here at store turns pc temps) k

  -- an instruction that stands there
  module _ (i : Instr) (pc : ℕ) (temps : List ℤ) (stands : slice_get at.code pc ≡ Some i) where
    pub comes : (c : Configuration) → act (reserve_of at) i (here at store turns pc temps) ≡ Unfinished c → Leads at.code (reserve_of at) 1 (here at store turns pc temps) c
    comes c h =
        (placed.leads at.code (reserve_of at)).one (here at store turns pc temps) c
        (ap (λ (o : Option Instr). act_at (reserve_of at) o (here at store turns pc temps)) stands ∙ h)

    pub traps : (k : ℕ) → act (reserve_of at) i (here at store turns pc temps) ≡ Trapped k → Stopping 1 pc temps k
    traps k h =
        (placed.leads at.code (reserve_of at)).stops_one (here at store turns pc temps) k
        (ap (λ (o : Option Instr). act_at (reserve_of at) o (here at store turns pc temps)) stands ∙ h)

    module _ (made : ℕ → Configuration → Made (List ℤ)) (leaves : Leaves made i) where
      pub steps : (temps' : List ℤ) → made (reserve_of at) (here at store turns pc temps) ≡ Gives (others ++ temps') → Leading 1 pc temps (pc + 1) temps'
      steps temps' h =
          comes (here at store turns (pc + 1) temps')
          (leaves (reserve_of at) (here at store turns pc temps)
          ∙ ap (λ (m : Made (List ℤ)). made_then (m >>= (λ after. Gives (block, after))) (goes_on (here at store turns pc temps))) h)

      pub trapped : (k : ℕ) → made (reserve_of at) (here at store turns pc temps) ≡ Traps k → Stopping 1 pc temps k
      trapped k h =
          traps k
          (leaves (reserve_of at) (here at store turns pc temps)
          ∙ ap (λ (m : Made (List ℤ)). made_then (m >>= (λ after. Gives (block, after))) (goes_on (here at store turns pc temps))) h)

  -- what one word gives way to, and what two
  pub one_evaluates : (i : Instr) (pc : ℕ) (temps : List ℤ) (x : ℤ) (t : ScalarType) (e : Evaluated Scalar) → slice_get at.code pc ≡ Some i → IsOfOne i → Agrees t (made_of_one i x) e →
      Evaluates at store turns 1 pc (temps ++ x ∷ []) (IsScalarOf t) (with_word temps) e
  one_evaluates i pc temps x t (Given y) stands leaves h = (
    h.0,
    steps i pc (temps ++ x ∷ []) stands (λ reserve c. of_one (made_of_one i) c.body.stack) leaves (temps ++ word y ∷ [])
        (one_top (made_of_one i) others temps x ∙ ap (λ (m : Made ℤ). on_top others temps m) h.1),
  )
  one_evaluates i pc temps x t (Fails k) stands leaves h =
      trapped i pc (temps ++ x ∷ []) stands (λ reserve c. of_one (made_of_one i) c.body.stack) leaves k
      (one_top (made_of_one i) others temps x ∙ ap (λ (m : Made ℤ). on_top others temps m) h)

  pub two_evaluate : (i : Instr) (pc : ℕ) (temps : List ℤ) (x y : ℤ) (t : ScalarType) (e : Evaluated Scalar) → slice_get at.code pc ≡ Some i → IsOfTwo i → Agrees t (made_of_two i x y) e →
      Evaluates at store turns 1 pc ((temps ++ x ∷ []) ++ y ∷ []) (IsScalarOf t) (with_word temps) e
  two_evaluate i pc temps x y t (Given z) stands leaves h = (
    h.0,
    steps i pc ((temps ++ x ∷ []) ++ y ∷ []) stands (λ reserve c. of_two (made_of_two i) c.body.stack) leaves (temps ++ word z ∷ [])
        (two_top (made_of_two i) others temps x y ∙ ap (λ (m : Made ℤ). on_top others temps m) h.1),
  )
  two_evaluate i pc temps x y t (Fails k) stands leaves h =
      trapped i pc ((temps ++ x ∷ []) ++ y ∷ []) stands (λ reserve c. of_two (made_of_two i) c.body.stack) leaves k
      (two_top (made_of_two i) others temps x y ∙ ap (λ (m : Made ℤ). on_top others temps m) h)

  -- FLD and IDX: an address gives way to another one
  pub field_leads : (offset pc : ℕ) (temps : List ℤ) (a b : ℕ) → slice_get at.code pc ≡ Some (Instrs.Field offset) → a + offset ≡ b → b < 2 ^ 63 →
      Leading 1 pc (temps ++ pos a ∷ []) (pc + 1) (temps ++ pos b ∷ [])
  field_leads offset pc temps a b stands e small =
      steps (Instrs.Field offset) pc (temps ++ pos a ∷ []) stands (λ reserve c. of_one (made_of_one (Instrs.Field offset)) c.body.stack) (λ reserve c. refl) (temps ++ pos b ∷ [])
      (one_top (made_of_one (Instrs.Field offset)) others temps (pos a)
      ∙ ap (λ (m : Made ℤ). on_top others temps m) (ap (λ (n : ℕ). address (pos n)) e ∙ address_small b small))

  pub index_leads : (count width pc : ℕ) (temps : List ℤ) (a i b : ℕ) → slice_get at.code pc ≡ Some (Instrs.Index count width) → i < count → a + i * width ≡ b → b < 2 ^ 63 →
      Leading 1 pc ((temps ++ pos a ∷ []) ++ pos i ∷ []) (pc + 1) (temps ++ pos b ∷ [])
  index_leads count width pc temps a i b stands inside e small =
      steps (Instrs.Index count width) pc ((temps ++ pos a ∷ []) ++ pos i ∷ []) stands (λ reserve c. of_two (made_of_two (Instrs.Index count width)) c.body.stack) (λ reserve c. refl) (temps ++ pos b ∷ [])
      (two_top (made_of_two (Instrs.Index count width)) others temps (pos a) (pos i)
      ∙ ap (λ (m : Made ℤ). on_top others temps m)
      (ap (λ (t : Bool). cond t (Traps 2) (address (pos (a + i * width)))) (above count i inside) ∙ ap (λ (n : ℕ). address (pos n)) e ∙ address_small b small))
    where
      above : (m n : ℕ) → n < m → ltb n 0 || leb m n ≡ false
      above m n h = grind (arith, nat_tests)

  pub index_traps : (count width pc : ℕ) (temps : List ℤ) (a : ℕ) (z : ℤ) → slice_get at.code pc ≡ Some (Instrs.Index count width) → int_lt z (pos 0) || int_le (pos count) z ≡ true →
      Stopping 1 pc ((temps ++ pos a ∷ []) ++ z ∷ []) 2
  index_traps count width pc temps a z stands outside =
      trapped (Instrs.Index count width) pc ((temps ++ pos a ∷ []) ++ z ∷ []) stands (λ reserve c. of_two (made_of_two (Instrs.Index count width)) c.body.stack) (λ reserve c. refl) 2
      (two_top (made_of_two (Instrs.Index count width)) others temps (pos a) z
      ∙ ap (λ (m : Made ℤ). on_top others temps m) (ap (λ (t : Bool). cond t (Traps 2) (address (pos a +ℤ z *ℤ pos width))) outside))

  -- ANDJ and ORJ: where the word decides it stays
  kept : (decides w : ℤ) (target pc : ℕ) (temps : List ℤ) → int_eq w decides ≡ true →
      jump_if_decided decides target (here at store turns pc (temps ++ w ∷ [])) ≡ Unfinished (here at store turns target (temps ++ w ∷ []))
  kept decides w target pc temps same =
      let c = here at store turns pc (temps ++ w ∷ []) in
      ap (λ (m : Made (ℤ × List ℤ)). made_then m (λ x. if int_eq x.0 decides then goes_to c target c.body.stack else goes_to c (pc + 1) x.1)) (popped_top others temps w)
      ∙ ap (λ (t : Bool). if t then goes_to c target c.body.stack else goes_to c (pc + 1) (others ++ temps)) same

  dropped : (decides w : ℤ) (target pc : ℕ) (temps : List ℤ) → int_eq w decides ≡ false →
      jump_if_decided decides target (here at store turns pc (temps ++ w ∷ [])) ≡ Unfinished (here at store turns (pc + 1) temps)
  dropped decides w target pc temps other =
      let c = here at store turns pc (temps ++ w ∷ []) in
      ap (λ (m : Made (ℤ × List ℤ)). made_then m (λ x. if int_eq x.0 decides then goes_to c target c.body.stack else goes_to c (pc + 1) x.1)) (popped_top others temps w)
      ∙ ap (λ (t : Bool). if t then goes_to c target c.body.stack else goes_to c (pc + 1) (others ++ temps)) other

  pub and_keeps : (target pc : ℕ) (temps : List ℤ) → slice_get at.code pc ≡ Some (Instrs.AndJump target) → Leading 1 pc (temps ++ pos 0 ∷ []) target (temps ++ pos 0 ∷ [])
  and_keeps target pc temps stands =
      comes (Instrs.AndJump target) pc (temps ++ pos 0 ∷ []) stands (here at store turns target (temps ++ pos 0 ∷ [])) (kept (pos 0) (pos 0) target pc temps refl)

  pub and_drops : (target pc : ℕ) (temps : List ℤ) → slice_get at.code pc ≡ Some (Instrs.AndJump target) → Leading 1 pc (temps ++ pos 1 ∷ []) (pc + 1) temps
  and_drops target pc temps stands =
      comes (Instrs.AndJump target) pc (temps ++ pos 1 ∷ []) stands (here at store turns (pc + 1) temps) (dropped (pos 0) (pos 1) target pc temps refl)

  pub or_keeps : (target pc : ℕ) (temps : List ℤ) → slice_get at.code pc ≡ Some (Instrs.OrJump target) → Leading 1 pc (temps ++ pos 1 ∷ []) target (temps ++ pos 1 ∷ [])
  or_keeps target pc temps stands =
      comes (Instrs.OrJump target) pc (temps ++ pos 1 ∷ []) stands (here at store turns target (temps ++ pos 1 ∷ [])) (kept (pos 1) (pos 1) target pc temps refl)

  pub or_drops : (target pc : ℕ) (temps : List ℤ) → slice_get at.code pc ≡ Some (Instrs.OrJump target) → Leading 1 pc (temps ++ pos 0 ∷ []) (pc + 1) temps
  or_drops target pc temps stands =
      comes (Instrs.OrJump target) pc (temps ++ pos 0 ∷ []) stands (here at store turns (pc + 1) temps) (dropped (pos 1) (pos 0) target pc temps refl)

  -- where the store fits
  module _ (memory : MemoryHolds) (fits : Fits (all_of at) store) where
    abbrev measured : Measured (scopes_of at) store
    measured = memory.lengths (scopes_of at) store fits

    pub height : length others ≡ total at.lower + extent at.own
    height = measured.stack

    -- LIT, GLOB, LOC: a word more
    pub literal_leads : (w : ℤ) (pc : ℕ) (temps : List ℤ) → slice_get at.code pc ≡ Some (Instrs.Literal w) → HasRoom at temps 1 → Leading 1 pc temps (pc + 1) (temps ++ w ∷ [])
    literal_leads w pc temps stands room =
        steps (Instrs.Literal w) pc temps stands (λ reserve c. pushed reserve c.body.stack w) (λ reserve c. refl) (temps ++ w ∷ [])
        (pushed_top (reserve_of at) others temps w (omega (arith, room, height)))

    pub global_leads : (a pc : ℕ) (temps : List ℤ) → slice_get at.code pc ≡ Some (Instrs.Global a) → HasRoom at temps 1 → Leading 1 pc temps (pc + 1) (temps ++ pos a ∷ [])
    global_leads a pc temps stands room =
        steps (Instrs.Global a) pc temps stands (λ reserve c. pushed reserve c.body.stack (pos a)) (λ reserve c. refl) (temps ++ pos a ∷ [])
        (pushed_top (reserve_of at) others temps (pos a) (omega (arith, room, height)))

    pub local_leads : (w a pc : ℕ) (temps : List ℤ) → slice_get at.code pc ≡ Some (Instrs.Local w) → HasRoom at temps 1 →
        extent (globals_of at) + total at.lower + w ≡ a → a < 2 ^ 63 → Leading 1 pc temps (pc + 1) (temps ++ pos a ∷ [])
    local_leads w a pc temps stands room e small =
        let there : length block + total at.lower + w ≡ a = omega (arith, e, measured.block) in
        steps (Instrs.Local w) pc temps stands (λ reserve c. address (pos (length c.block + c.body.fp + w)) >>= (λ a. pushed reserve c.body.stack a)) (λ reserve c. refl) (temps ++ pos a ∷ [])
        (ap (λ (m : ℕ). address (pos m) >>= (λ a. pushed (reserve_of at) (others ++ temps) a)) there
        ∙ ap (λ (m : Made ℤ). m >>= (λ a. pushed (reserve_of at) (others ++ temps) a)) (address_small a small)
        ∙ pushed_top (reserve_of at) others temps (pos a) (omega (arith, room, height)))

    -- GET: the word at an address of the store
    pub get_leads : (a pc : ℕ) (w : ℤ) (temps : List ℤ) → slice_get at.code pc ≡ Some Instrs.Get → a < length (store_words (all_of at) store) →
        get_or (store_words (all_of at) store) a (pos 0) ≡ w → Leading 1 pc (temps ++ pos a ∷ []) (pc + 1) (temps ++ w ∷ [])
    get_leads a pc w temps stands inside is =
        let within : a < length (block ++ others) = omega (arith, inside, ap length measured.parts) in
        steps Instrs.Get pc (temps ++ pos a ∷ []) stands (λ reserve c. loaded c.block c.body.stack) (λ reserve c. refl) (temps ++ w ∷ [])
        (loaded_top block others temps (pos a) w
        (memory.word_at block others temps a within
        ∙ ap (λ (l : List ℤ). Gives (get_or l a (pos 0))) (sym measured.parts)
        ∙ ap (λ (x : ℤ). Gives x) is))

    -- each address of a place is a word
    pub small : (place : Place) (type : DataType) (temps : List ℤ) (n : ℕ) → IsPlace (all_of at) place type → HasRoom at temps n → place_address (all_of at) place < 2 ^ 63
    small place type temps n is room =
        let reached = memory.reaches (all_of at) place type is in
        let based = memory.bases (scopes_of at) in
        omega (arith, reached, based.total_is, room, addresses_are_words at.program at.fine)
