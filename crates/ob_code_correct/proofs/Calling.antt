-- The instructions of calls on images: CALL and FRAME, which begin an activation, and RET, which ends it.
use Rattle.std.proofs.Common.{◌≡◌, ℕ, suc, ◌+◌, ◌-◌, ◌<◌, ◌≤◌, leb, ltb, Bool, true, false, cond, ℤ, pos, List, [], ◌∷◌, ◌++◌, length, take, drop, replicate, Some, Option, sym, ap, ◌∙◌, subst, append-nil, append_assoc, length-append, arith}
use Rattle.std.specs.Prelude.{pred, slice_get}
use Rattle.std.proofs.lemmas.Bool.Decides.{nat_tests}
use Rattle.std.proofs.lemmas.List.{length-replicate}
use Rattle.ob_code_scheme.proofs.Fine.{fine_procedure, parameters_words}
use Rattle.ob_typing.specs.Program.{Procedure, Program}
use Rattle.ob_meaning.specs.ByPositionStore.{Held, Store, activation_at}
use Rattle.ob_meaning.specs.ByPositionStatements.{activation_of}
use Rattle.ob_code_scheme.specs.Types.{Scope, extent, total, parameters_scope, frame_scope, FitsHanded, Fits}
use Rattle.ob_code_scheme.specs.WellFormed.{IsWellFormed}
use Rattle.ob_code_scheme.specs.Layout.{variable_words}
use Rattle.ob_code_words.specs.declared.instr.Instr.{Instr}
use Rattle.ob_code_words.specs.declared.instr.Instr.TheVariants as Instrs
use Rattle.ob_code_words.specs.Words.{Made, Gives, Sticks, ◌>>=◌}
use Rattle.ob_code_words.specs.Effect.{cleared}
use Rattle.ob_code_machine.specs.declared.saved.Saved.{Saved}
use Rattle.ob_code_machine.specs.Machine.{Configuration, Unfinished, Trapped, Stuck, made_then, goes_on, taking_turn, entering, called, back_to, act_at}
use Rattle.ob_code_scheme.specs.Image.{position_words, store_words, Leads, Stops}
use Rattle.ob_code_scheme.specs.Memory.{MemoryHolds}
use Rattle.ob_code_scheme.specs.Running.{Setting, scopes_of, all_of, reserve_of, here, HasRoom}
use Rattle.ob_code_scheme.specs.Executing.{inside}
use Rattle.ob_code_scheme.specs.Placing.{CodePlaced}
use Rattle.ob_code_correct.proofs.Instructions.{comes, traps}

-- each parameter has one word
pub parameter_words : (program : Program) → IsWellFormed program → (i : ℕ) (p : Procedure) → slice_get program.procedures i ≡ Some p → extent (parameters_scope p.parameters) ≡ length p.parameters
parameter_words program fine i p is = parameters_words p.parameters (fine_procedure program i p fine is).values

-- the words of one scope more
pub total_more : (scopes : List Scope) (own : Scope) → total (scopes ++ own ∷ []) ≡ total scopes + extent own
total_more [] own = omega arith
total_more (s ∷ scopes) own = omega (arith, total_more scopes own)

deep : (n : ℕ) → 63 ≤ n → leb 63 n ≡ true
deep n h = grind (arith, nat_tests)

not_deep : (n : ℕ) → n < 63 → leb 63 n ≡ false
not_deep n h = grind (arith, nat_tests)

enough : (m n : ℕ) → m ≤ n → leb m n ≡ true
enough m n h = grind (arith, nat_tests)

not_few : (m n : ℕ) → n ≤ m → ltb m n ≡ false
not_few m n h = grind (arith, nat_tests)

module _ (placed : CodePlaced) (at : Setting) where
  -- ---- CALL where it traps

  pub call_too_deep : (store : Store) (turns entry parameters pc : ℕ) (temps : List ℤ) → slice_get at.code pc ≡ Some (Instrs.Call entry parameters) → 63 ≤ length at.saved →
      Stops at.code (reserve_of at) 1 (here at store turns pc temps) 4
  call_too_deep store turns entry parameters pc temps stands h =
      let c = here at store turns pc temps in
      traps placed at store turns (Instrs.Call entry parameters) pc temps stands 4 (ap (λ (b : Bool). cond b (Trapped 4) (taking_turn turns (entering entry parameters c))) (deep (length at.saved) h))

  pub call_no_turn : (store : Store) (entry parameters pc : ℕ) (temps : List ℤ) → slice_get at.code pc ≡ Some (Instrs.Call entry parameters) → length at.saved < 63 →
      Stops at.code (reserve_of at) 1 (here at store 0 pc temps) 5
  call_no_turn store entry parameters pc temps stands h =
      traps placed at store 0 (Instrs.Call entry parameters) pc temps stands 5 (ap (λ (b : Bool). cond b (Trapped 4) (Trapped 5)) (not_deep (length at.saved) h))

  -- ---- CALL and FRAME: an activation of a procedure with what was handed over

  pub record Begins (p : Procedure) (store : Store) (left a entry : ℕ) (handed : List Held) : Type 0 where
    pub fits : Fits (all_of (inside at p a)) (store ++ activation_of p handed ∷ [])
    pub leads : Leads at.code (reserve_of at) 2 (here at store (suc left) a (position_words (all_of at) handed)) (here (inside at p a) (store ++ activation_of p handed ∷ []) left (entry + 1) [])

  pub begins : MemoryHolds → (i : ℕ) (p : Procedure) (store : Store) (left a entry : ℕ) (handed : List Held) → slice_get at.program.procedures i ≡ Some p → Fits (all_of at) store →
      FitsHanded (all_of at) (parameters_scope p.parameters) handed → slice_get at.code a ≡ Some (Instrs.Call entry (length p.parameters)) → slice_get at.code entry ≡ Some (Instrs.Frame (variable_words p.variables)) →
      length at.saved < 63 → HasRoom (inside at p a) [] 0 → Begins p store left a entry handed
  begins memory i p store left a entry handed is fits fitting call frame shallow room =
      let scopes = all_of at in
      let block = position_words scopes (activation_at store 0) in
      let others = store_words scopes (drop 1 store) in
      let ps = position_words scopes handed in
      let zeros = replicate (variable_words p.variables) (pos 0) in
      let activation = activation_of p handed in
      let whole = memory.begun_fits scopes (length scopes) (parameters_scope p.parameters) handed p.variables fitting in
      let grown = memory.grows (scopes_of at) (frame_scope p) store activation fits whole.0 in
      let measured = memory.lengths (scopes_of at) store fits in
      let few = (memory.position_lengths scopes (length scopes) (parameters_scope p.parameters) handed fitting).0 in
      let each = parameter_words at.program at.fine i p is in
      let more = total_more at.lower at.own in
      let base : length (others ++ ps) - length p.parameters ≡ total (at.lower ++ at.own ∷ []) = omega (arith, length-append others ps, few, each, measured.stack, more) in
      let pair : Saved = record { pc = a + 1; fp = total at.lower } in
      let c = here at store (suc left) a ps in
      let one : Configuration = record { block = block; body = record { pc = entry; stack = others ++ ps; fp = total (at.lower ++ at.own ∷ []); saved = pair ∷ at.saved; turns = left } } in
      let there : slice_get at.code a ≡ Some (Instrs.Call entry (length p.parameters)) = call in
      let high : length p.parameters ≤ length (others ++ ps) = omega (arith, length-append others ps, few, each) in
      let entered_is : called entry (length p.parameters) c ≡ Unfinished one =
      ap (λ (b : Bool). cond b (Trapped 4) (entering entry (length p.parameters) c left)) (not_deep (length at.saved) shallow)
      ∙ ap
      (λ (b : Bool). cond b
      (Unfinished (record { block = block; body = record { pc = entry; stack = others ++ ps; fp = length (others ++ ps) - length p.parameters; saved = pair ∷ at.saved; turns = left } }))
      Stuck) (enough (length p.parameters) (length (others ++ ps)) high)
      ∙ ap (λ (n : ℕ). Unfinished (record { block = block; body = record { pc = entry; stack = others ++ ps; fp = n; saved = pair ∷ at.saved; turns = left } })) base in
      let first = comes placed at store (suc left) (Instrs.Call entry (length p.parameters)) a ps call one entered_is in
      let two : Configuration = record { block = block; body = record { pc = entry + 1; stack = (others ++ ps) ++ zeros; fp = total (at.lower ++ at.own ∷ []); saved = pair ∷ at.saved; turns = left } } in
      let own_words : length ps + variable_words p.variables ≡ extent (frame_scope p) =
      sym (length-append ps zeros ∙ ap (λ (n : ℕ). length ps + n) (length-replicate (variable_words p.variables) (pos 0))) ∙ sym (ap length whole.1)
      ∙ (memory.position_lengths scopes (length scopes) (frame_scope p) activation whole.0).0 in
      let fitting_stack : length (others ++ ps) + variable_words p.variables ≤ reserve_of at = omega (arith, room, more, own_words, measured.stack, length-append others ps) in
      let made : cleared (reserve_of at) (variable_words p.variables) (others ++ ps) ≡ Gives ((others ++ ps) ++ zeros) =
      ap (λ (b : Bool). cond b (Gives ((others ++ ps) ++ zeros)) Sticks) (enough (length (others ++ ps) + variable_words p.variables) (reserve_of at) fitting_stack) in
      let glue = placed.leads at.code (reserve_of at) in
      let second = glue.one one two
      (ap (λ (o : Option Instr). act_at (reserve_of at) o one) frame
      ∙ ap (λ (m : Made (List ℤ)). made_then (m >>= (λ after. Gives (block, after))) (goes_on one)) made) in
      let stack_is : (others ++ ps) ++ zeros ≡ store_words (all_of (inside at p a)) (drop 1 (store ++ activation ∷ [])) ++ [] =
      append_assoc others ps zeros ∙ ap (λ (ws : List ℤ). others ++ ws) (sym whole.1) ∙ sym grown.stack ∙ sym (append-nil (store_words (all_of (inside at p a)) (drop 1 (store ++ activation ∷ [])))) in
      let last : two ≡ here (inside at p a) (store ++ activation ∷ []) left (entry + 1) [] =
      ap (λ (ws : List ℤ). record { block = ws; body = record { pc = entry + 1; stack = (others ++ ps) ++ zeros; fp = total (at.lower ++ at.own ∷ []); saved = pair ∷ at.saved; turns = left } }) (sym grown.block)
      ∙ ap
      (λ (ws : List ℤ). record { block = position_words (all_of (inside at p a)) (activation_at (store ++ activation ∷ []) 0); body = record { pc = entry + 1; stack = ws; fp = total (at.lower ++ at.own ∷ []); saved = pair ∷ at.saved; turns = left } })
      stack_is in
      record {
        fits = grown.fits;
        leads = subst (λ (d : Configuration). Leads at.code (reserve_of at) 2 c d) last (glue.on 1 1 c one two first second);
      }

  -- ---- RET: the activation is gone

  pub record Ends (p : Procedure) (store : Store) (turns a pc : ℕ) : Type 0 where
    pub fits : Fits (all_of at) (take (pred (length store)) store)
    pub leads : Leads at.code (reserve_of at) 1 (here (inside at p a) store turns pc []) (here at (take (pred (length store)) store) turns (a + 1) [])

  pub ends : MemoryHolds → (p : Procedure) (store : Store) (turns a pc : ℕ) → Fits (all_of (inside at p a)) store → slice_get at.code pc ≡ Some Instrs.Return → Ends p store turns a pc
  ends memory p store turns a pc fits stands =
      let inner = inside at p a in
      let shrunk = memory.shrinks (scopes_of at) (frame_scope p) store fits in
      let measured = memory.lengths (scopes_of inner) store fits in
      let words = store_words (all_of inner) (drop 1 store) in
      let block = position_words (all_of inner) (activation_at store 0) in
      let fp = total (at.lower ++ at.own ∷ []) in
      let after = take (pred (length store)) store in
      let c = here inner store turns pc [] in
      let high : fp ≤ length (words ++ []) = omega (arith, measured.stack, length-append words []) in
      let cut : take fp (words ++ []) ≡ store_words (all_of at) (drop 1 after) ++ [] =
      ap (λ (ws : List ℤ). take fp ws) (append-nil words) ∙ sym shrunk.stack ∙ sym (append-nil (store_words (all_of at) (drop 1 after))) in
      record {
        fits = shrunk.fits;
        leads =
            comes placed inner store turns Instrs.Return pc [] stands (here at after turns (a + 1) [])
            (ap (λ (b : Bool). cond b Stuck (back_to (record { pc = a + 1; fp = total at.lower } ∷ at.saved) (take fp (words ++ [])) c)) (not_few (length (words ++ [])) fp high)
            ∙ ap (λ (ws : List ℤ). Unfinished (record { block = block; body = record { pc = a + 1; stack = ws; fp = total at.lower; saved = at.saved; turns = turns } })) cut
            ∙ ap
            (λ (ws : List ℤ). Unfinished (record { block = ws; body = record { pc = a + 1; stack = store_words (all_of at) (drop 1 after) ++ []; fp = total at.lower; saved = at.saved; turns = turns } }))
            (sym shrunk.block));
      }
