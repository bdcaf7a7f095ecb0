-- Procedures one behind the other.
use Rattle.std.proofs.Common.{◌≡◌, ℕ, zero, suc, ◌+◌, ◌<◌, ◌≤◌, List, [], ◌∷◌, ◌++◌, length, map, drop, get_or, min, refl, ap, sym, ◌∙◌, append_assoc, append-nil, arith}
use Rattle.std.proofs.lemmas.List.{at_drop_more, at_drop_all}
use mathlib.Core.Path.{fun_ext}
use Rattle.ob_typing.specs.Program as Program
use Rattle.ob_code_scheme.specs.Types.{Scope, extent, scope_at, parameters_scope, frame_scope, variables_scope}
use Rattle.ob_code_scheme.specs.Scheme as Scheme
use Rattle.ob_code_correct.proofs.Lengths.{joined, statements_long, procedure_long}
use Rattle.ob_code_machine.specs.Code.{CodeParts}
use Rattle.ob_code_words.specs.declared.instr.Instr.{Instr}
use Rattle.ob_code_words.specs.declared.instr.Instr.TheVariants as Instrs
use Rattle.ob_checked.specs.Types as Given
use Rattle.ob_checked.specs.declared.program.Parameter.{Parameter}
use Rattle.ob_checked.specs.declared.program.Procedure.{Procedure}
use Rattle.ob_checked.specs.declared.program.Statement.{Statement}
use Rattle.ob_checked.specs.View.{parameter_of, procedure_of, statements_in}
use Rattle.ob_code.specs.declared.entries.Entries.{Entries}
use Rattle.ob_code.specs.Entering.{entry_in, procedures_size, with_procedure}
use Rattle.ob_code.specs.Growing.{grown}
use Rattle.ob_code.proofs.Grown.{behind}
use Rattle.ob_code.proofs.Constructs.{with_statements}

abbrev pub code_with : List Instr → List ℕ → CodeParts
code_with is es = record { instructions = is; entries = es }

-- c, an entry more d, FRAME e, the statements f, RET h
pub procedure_put : (g o : Scope) (entry : ℕ → ℕ) (c d e f h : CodeParts) (body ss : List Statement) (words extents : ℕ) →
    words ≡ extents → ss ≡ body → d ≡ record c { entries = c.entries ++ length c.instructions ∷ [] } → e ≡ grown d (Instrs.Frame words ∷ []) → f ≡ with_statements g o entry e ss →
    h ≡ grown f (Instrs.Return ∷ []) → h ≡ with_procedure g o entry c extents (statements_in body)
procedure_put g o entry c d e f h body ss words extents many items begun frame inside last =
    let inner = behind e f h (Scheme.statements_at g o entry (length e.instructions) (statements_in ss)) (λ b. Instrs.Return ∷ []) (Scheme.statements_size o (statements_in ss)) inside
    (statements_long g o entry (length e.instructions) (statements_in ss)) last in
    behind d e h (Instrs.Frame words ∷ []) (λ b. Scheme.statements_at g o entry b (statements_in ss) ++ Instrs.Return ∷ []) 1 frame refl inner
    ∙ ap (λ (k : CodeParts). grown k (Instrs.Frame words ∷ (Scheme.statements_at g o entry (length k.instructions + 1) (statements_in ss) ++ Instrs.Return ∷ []))) begun
    ∙ ap (λ w. with_procedure g o entry c w (statements_in ss)) many
    ∙ ap (λ xs. with_procedure g o entry c extents (statements_in xs)) items

module _ (types : List Given.Entry) where
  -- the scope of a procedure by its number
  pub scope_found : (frames : List Scope) (ps : List Procedure) (i : ℕ) (p : Procedure) → frames ≡ map frame_scope (map (procedure_of types) ps) → i < length ps → p ≡ get_or ps i p →
      scope_at frames i ≡ frame_scope (procedure_of types p)
  scope_found frames ps i p are here is = ap (λ fs. scope_at fs i) are ∙ found ps i here ∙ ap (λ q. frame_scope (procedure_of types q)) (sym is)
    where
      found : (qs : List Procedure) (k : ℕ) → k < length qs → scope_at (map frame_scope (map (procedure_of types) qs)) k ≡ frame_scope (procedure_of types (get_or qs k p))
      found [] k l = absurd (omega (arith, l))
      found (q ∷ qs) zero l = refl
      found (q ∷ qs) (suc k) l = found qs k (omega (arith, l))

  -- behind the parameters stand the variables
  behind_parameters : (ps : List Parameter) (behind : Scope) → drop (length ps) (parameters_scope (map (parameter_of types) ps) ++ behind) ≡ behind
  behind_parameters [] behind = refl
  behind_parameters (p ∷ ps) behind = behind_parameters ps behind

  abbrev pub left_of : List Procedure → List Program.Procedure
  left_of ps = map (procedure_of types) ps

  module _ (g : Scope) (entry : ℕ → ℕ) where
    abbrev pub with_procedures : CodeParts → List Procedure → CodeParts
    with_procedures c ps = record {
      instructions = c.instructions ++ Scheme.procedures_at g entry (length c.instructions) (left_of ps);
      entries = c.entries ++ Scheme.entries_from (length c.instructions) (left_of ps);
    }

    pub procedures_go : (c d e : CodeParts) (frames : List Scope) (ps : List Procedure) (i : ℕ) (p : Procedure) →
        frames ≡ map frame_scope (left_of ps) → i < length ps → p ≡ get_or ps i p →
        d ≡ with_procedure g (scope_at frames i) entry c (extent (drop (length p.parameters.items) (scope_at frames i))) (statements_in p.body.items) →
        with_procedures c (drop i ps) ≡ e → with_procedures d (drop (i + 1) ps) ≡ e
    procedures_go c d e frames ps i p are here is put so_far =
        let q = procedure_of types p in
        let a = length c.instructions in
        let code = Scheme.procedure_at g entry a q in
        let rest = left_of (drop (i + 1) ps) in
        let known : d ≡ code_with (c.instructions ++ code) (c.entries ++ a ∷ []) =
        put ∙ ap (λ s. with_procedure g s entry c (extent (drop (length p.parameters.items) s)) (statements_in p.body.items)) (scope_found frames ps i p are here is)
        ∙ ap (λ s. with_procedure g (frame_scope q) entry c (extent s) (statements_in p.body.items)) (behind_parameters p.parameters.items (variables_scope q.variables)) in
        let count : length (c.instructions ++ code) ≡ a + Scheme.procedure_size q = joined c.instructions code a (Scheme.procedure_size q) refl (procedure_long g entry a q) in
        ap (λ k. with_procedures k (drop (i + 1) ps)) known
        ∙ ap (λ n. code_with ((c.instructions ++ code) ++ Scheme.procedures_at g entry n rest) ((c.entries ++ a ∷ []) ++ Scheme.entries_from n rest)) count
        ∙ ap (λ xs. code_with xs ((c.entries ++ a ∷ []) ++ Scheme.entries_from (a + Scheme.procedure_size q) rest))
        (append_assoc c.instructions code (Scheme.procedures_at g entry (a + Scheme.procedure_size q) rest))
        ∙ ap (λ xs. code_with (c.instructions ++ (code ++ Scheme.procedures_at g entry (a + Scheme.procedure_size q) rest)) xs)
        (append_assoc c.entries (a ∷ []) (Scheme.entries_from (a + Scheme.procedure_size q) rest))
        ∙ ap (λ y. with_procedures c (y ∷ drop (i + 1) ps)) is
        ∙ sym (at_drop_more (λ ys. with_procedures c ys) ps i p here)
        ∙ so_far

    pub procedures_end : (c e : CodeParts) (ps : List Procedure) (i : ℕ) → length ps ≤ i → with_procedures c (drop i ps) ≡ e → c ≡ e
    procedures_end c e ps i past so_far =
        sym (ap (λ xs. code_with xs (c.entries ++ [])) (append-nil c.instructions) ∙ ap (λ xs. code_with c.instructions xs) (append-nil c.entries))
        ∙ sym (at_drop_all (λ ys. with_procedures c ys) ps i past) ∙ so_far

  -- entries: the places so far, and those that are left
  pub entries_go : (places more all : List ℕ) (frames : List Scope) (ps : List Procedure) (i : ℕ) (p : Procedure) (ss : List Statement) (end next inside : ℕ) →
      frames ≡ map frame_scope (left_of ps) → i < length ps → p ≡ get_or ps i p → ss ≡ p.body.items →
      inside ≡ min (Scheme.statements_size (scope_at frames i) (statements_in ss)) 18446744073709551615 → next ≡ min (inside + (end + 2)) 18446744073709551615 →
      more ≡ places ++ end ∷ [] → places ++ Scheme.entries_from end (left_of (drop i ps)) ≡ all → next ≤ 65535 → more ++ Scheme.entries_from next (left_of (drop (i + 1) ps)) ≡ all
  entries_go places more all frames ps i p ss end next inside are here is items counted sum pushed so_far small =
      let q = procedure_of types p in
      let rest = left_of (drop (i + 1) ps) in
      let size : Scheme.statements_size (scope_at frames i) (statements_in ss) ≡ Scheme.statements_size (frame_scope q) (statements_in p.body.items) =
      ap (λ s. Scheme.statements_size s (statements_in ss)) (scope_found frames ps i p are here is) ∙ ap (λ xs. Scheme.statements_size (frame_scope q) (statements_in xs)) items in
      let place : next ≡ end + Scheme.procedure_size q = omega (arith, size, counted, sum, small) in
      ap (λ xs. xs ++ Scheme.entries_from next rest) pushed
      ∙ append_assoc places (end ∷ []) (Scheme.entries_from next rest)
      ∙ ap (λ n. places ++ end ∷ Scheme.entries_from n rest) place
      ∙ ap (λ y. places ++ Scheme.entries_from end (left_of (y ∷ drop (i + 1) ps))) is
      ∙ sym (at_drop_more (λ ys. places ++ Scheme.entries_from end (left_of ys)) ps i p here)
      ∙ so_far

  -- the end so far, and what is left
  pub end_goes : (frames : List Scope) (ps : List Procedure) (i : ℕ) (p : Procedure) (ss : List Statement) (end next inside : ℕ) →
      frames ≡ map frame_scope (left_of ps) → i < length ps → p ≡ get_or ps i p → ss ≡ p.body.items →
      inside ≡ min (Scheme.statements_size (scope_at frames i) (statements_in ss)) 18446744073709551615 → next ≡ min (inside + (end + 2)) 18446744073709551615 →
      end + procedures_size (left_of (drop i ps)) ≡ procedures_size (left_of ps) →
      (next ≤ 65535 → next + procedures_size (left_of (drop (i + 1) ps)) ≡ procedures_size (left_of ps)) × (65535 < next → 65535 < procedures_size (left_of ps))
  end_goes frames ps i p ss end next inside are here is items counted sum so_far =
      let q = procedure_of types p in
      let size : Scheme.statements_size (scope_at frames i) (statements_in ss) ≡ Scheme.statements_size (frame_scope q) (statements_in p.body.items) =
      ap (λ s. Scheme.statements_size s (statements_in ss)) (scope_found frames ps i p are here is) ∙ ap (λ xs. Scheme.statements_size (frame_scope q) (statements_in xs)) items in
      let step : procedures_size (left_of (drop i ps)) ≡ Scheme.procedure_size q + procedures_size (left_of (drop (i + 1) ps)) =
      at_drop_more (λ ys. procedures_size (left_of ys)) ps i p here ∙ ap (λ y. procedures_size (left_of (y ∷ drop (i + 1) ps))) (sym is) in
      (λ small. omega (arith, size, counted, sum, so_far, step, small), λ large. omega (arith, size, counted, sum, so_far, step, large))

  -- where there are no more of all, the next end is a place of code
  pub end_fits : (frames : List Scope) (ps : List Procedure) (i : ℕ) (p : Procedure) (ss : List Statement) (end next inside : ℕ) →
      frames ≡ map frame_scope (left_of ps) → i < length ps → p ≡ get_or ps i p → ss ≡ p.body.items →
      inside ≡ min (Scheme.statements_size (scope_at frames i) (statements_in ss)) 18446744073709551615 → next ≡ min (inside + (end + 2)) 18446744073709551615 →
      end + procedures_size (left_of (drop i ps)) ≡ procedures_size (left_of ps) → procedures_size (left_of ps) ≤ 65535 → next ≤ 65535
  end_fits frames ps i p ss end next inside are here is items counted sum so_far few =
      let q = procedure_of types p in
      let size : Scheme.statements_size (scope_at frames i) (statements_in ss) ≡ Scheme.statements_size (frame_scope q) (statements_in p.body.items) =
      ap (λ s. Scheme.statements_size s (statements_in ss)) (scope_found frames ps i p are here is) ∙ ap (λ xs. Scheme.statements_size (frame_scope q) (statements_in xs)) items in
      let step : procedures_size (left_of (drop i ps)) ≡ Scheme.procedure_size q + procedures_size (left_of (drop (i + 1) ps)) =
      at_drop_more (λ ys. procedures_size (left_of ys)) ps i p here ∙ ap (λ y. procedures_size (left_of (y ∷ drop (i + 1) ps))) (sym is) in
      omega (arith, size, counted, sum, so_far, step, few)

  pub entries_end : (places all : List ℕ) (ps : List Procedure) (i end : ℕ) → length ps ≤ i → places ++ Scheme.entries_from end (left_of (drop i ps)) ≡ all → places ≡ all
  entries_end places all ps i end past so_far =
      sym (append-nil places) ∙ sym (at_drop_all (λ ys. places ++ Scheme.entries_from end (left_of ys)) ps i past) ∙ so_far

  pub end_ends : (ps : List Procedure) (i end all : ℕ) → length ps ≤ i → end + procedures_size (left_of (drop i ps)) ≡ all → end ≡ all
  end_ends ps i end all past so_far =
      let none : procedures_size (left_of (drop i ps)) ≡ 0 = at_drop_all (λ ys. procedures_size (left_of ys)) ps i past in
      omega (arith, so_far, none)

-- the entries are those of the scheme
entry_is : (place : ℕ) (ps : List Program.Procedure) (i : ℕ) → get_or (Scheme.entries_from place ps) i (place + procedures_size ps) ≡ place + Scheme.entry_of ps i
entry_is place [] i = refl
entry_is place (p ∷ ps) zero = omega arith
entry_is place (p ∷ ps) (suc i) =
    let n = Scheme.procedure_size p in
    let one : place + (n + procedures_size ps) ≡ place + n + procedures_size ps = omega arith in
    let two : place + n + Scheme.entry_of ps i ≡ place + (n + Scheme.entry_of ps i) = omega arith in
    ap (λ d. get_or (Scheme.entries_from (place + n) ps) i d) one ∙ entry_is (place + n) ps i ∙ two

pub entries_are : (e : Entries) (ps : List Program.Procedure) → e.places.items ≡ Scheme.entries_from 0 ps → e.end ≡ procedures_size ps → entry_in e ≡ Scheme.entry_of ps
entries_are e ps places end =
    fun_ext (λ i. ap (λ xs. get_or xs i e.end) places ∙ ap (λ d. get_or (Scheme.entries_from 0 ps) i d) (end ∙ zero_plus (procedures_size ps)) ∙ entry_is 0 ps i ∙ sym (zero_plus (Scheme.entry_of ps i)))
  where
    zero_plus : (n : ℕ) → n ≡ 0 + n
    zero_plus n = omega arith

pub procedures_long : (g : Scope) (entry : ℕ → ℕ) (a : ℕ) (ps : List Program.Procedure) → length (Scheme.procedures_at g entry a ps) ≡ procedures_size ps
procedures_long g entry a [] = refl
procedures_long g entry a (p ∷ ps) =
    joined (Scheme.procedure_at g entry a p) (Scheme.procedures_at g entry (a + Scheme.procedure_size p) ps) (Scheme.procedure_size p) (procedures_size ps)
    (procedure_long g entry a p) (procedures_long g entry (a + Scheme.procedure_size p) ps)

-- where there are so many instructions, or more
pub code_fits : (p : Program.Program) → procedures_size p.procedures ≤ 65535 → length (Scheme.code_of p).instructions ≤ 65535
code_fits p h = let long = procedures_long (variables_scope p.variables) (Scheme.entry_of p.procedures) 0 p.procedures in omega (arith, long, h)

pub code_is_long : (p : Program.Program) → 65535 < procedures_size p.procedures → 65535 < length (Scheme.code_of p).instructions
code_is_long p h = let long = procedures_long (variables_scope p.variables) (Scheme.entry_of p.procedures) 0 p.procedures in omega (arith, long, h)

pub procedures_fit : (p : Program.Program) → length (Scheme.code_of p).instructions ≤ 65535 → procedures_size p.procedures ≤ 65535
procedures_fit p h = let long = procedures_long (variables_scope p.variables) (Scheme.entry_of p.procedures) 0 p.procedures in omega (arith, long, h)

-- the code of a program, from that of its procedures by these entries
pub code_made : (c : CodeParts) (e : Entries) (p q : Program.Program) (variables : List Program.Variable) →
    c.instructions ≡ Scheme.procedures_at (variables_scope variables) (entry_in e) 0 p.procedures → c.entries ≡ Scheme.entries_from 0 p.procedures →
    e.places.items ≡ Scheme.entries_from 0 p.procedures → e.end ≡ procedures_size p.procedures → variables ≡ q.variables → p ≡ q → c ≡ Scheme.code_of q
code_made c e p q variables instructions entries places end same is =
    ap (λ xs. code_with xs c.entries) instructions
    ∙ ap (λ es. code_with (Scheme.procedures_at (variables_scope variables) (entry_in e) 0 p.procedures) es) entries
    ∙ ap (λ f. code_with (Scheme.procedures_at (variables_scope variables) f 0 p.procedures) (Scheme.entries_from 0 p.procedures)) (entries_are e p.procedures places end)
    ∙ ap (λ vs. code_with (Scheme.procedures_at (variables_scope vs) (Scheme.entry_of p.procedures) 0 p.procedures) (Scheme.entries_from 0 p.procedures)) same
    ∙ ap (λ (r : Program.Program). code_with (Scheme.procedures_at (variables_scope q.variables) (Scheme.entry_of r.procedures) 0 r.procedures) (Scheme.entries_from 0 r.procedures)) is
