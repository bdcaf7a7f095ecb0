-- Calls in the text do what they mean, by induction on the activations that may still be made.
use Rattle.std.proofs.Common.{◌≡◌, ℕ, zero, suc, pred, ◌+◌, ◌-◌, ◌*◌, ◌<◌, ◌≤◌, ℤ, pos, List, [], ◌∷◌, ◌++◌, length, take, drop, replicate, Some, Option, sym, ap, ◌∙◌, subst, append-nil, append_assoc, length-append, arith}
use Rattle.std.specs.Prelude.{slice_get}
use Rattle.ob_typing.specs.Program.{Procedure}
use Rattle.ob_meaning.specs.ByPositionStore.{Held, Activation, Store, activation_at}
use Rattle.ob_meaning.specs.ByPositionStatements.{Outcome, Done, Trap, meaning_of_all, activation_of, activated, calls}
use Rattle.ob_meaning.specs.ByPositionStatements as Meaning
use Rattle.ob_code_scheme.specs.Types.{extent, total, parameters_scope, variables_scope, frame_scope, FitsHanded, Fits}
use Rattle.ob_code_scheme.specs.Temporaries.{most_temporaries}
use Rattle.ob_code_scheme.specs.Layout.{variable_words}
use Rattle.ob_code_words.specs.declared.instr.Instr.TheVariants as Instrs
use Rattle.ob_code_machine.specs.declared.saved.Saved.{Saved}
use Rattle.ob_code_machine.specs.Machine.{Configuration, Unfinished, turn}
use Rattle.ob_code_scheme.specs.Scheme.{statements_size, entry_of}
use Rattle.ob_code_scheme.specs.Image.{position_words, store_words, Leads}
use Rattle.ob_code_scheme.specs.Running.{Setting, globals_of, scopes_of, all_of, reserve_of, here, HasRoom}
use Rattle.ob_code_scheme.specs.Memory.{Grown}
use Rattle.ob_code_scheme.specs.Placing.{LeadsGlue}
use Rattle.ob_code_scheme.specs.Executing.{inside, CallsRun}
use Rattle.ob_code_correct.proofs.StatementsOwed.{Owed}
use Rattle.ob_code_correct.proofs.Room.{total-more, low_has_room, stays_low}
use Rattle.ob_code_correct.proofs.StatementsGlue.{RunsIn}
use Rattle.ob_code_correct.proofs.Opened.{ProcedureStands, procedure_opened}
use Rattle.ob_code_correct.proofs.Statements.{each_list}
use Rattle.ob_code_scheme.proofs.Fine.{temporaries_most, fine_procedure, extent-append, parameters_words}
use Rattle.ob_code_correct.proofs.Frames.{with_frame, frames, returns, calls_deep, calls_none, calls_on}

module _ (owed : Owed) (at : Setting) (number : ℕ) (p : Procedure) (is : slice_get at.program.procedures number ≡ Some p) (a : ℕ) where
  abbrev leads : LeadsGlue at.code (reserve_of at)
  leads = owed.leads at.code (reserve_of at)

  abbrev entry : ℕ
  entry = entry_of at.program.procedures number

  abbrev body_size : ℕ
  body_size = statements_size (frame_scope p) p.body

  abbrev end : ℕ
  end = entry + 1 + body_size

  -- the setting of the procedure that is called
  abbrev there : Setting
  there = inside at p a

  stands : ProcedureStands owed at.code (globals_of at) (entry_of at.program.procedures) entry p
  stands = procedure_opened owed at.code (globals_of at) (entry_of at.program.procedures) entry p (at.stand number p is)

  -- ---- CALL and FRAME

  module _ (handed : List Held) (store : Store) (fits : Fits (all_of at) store) (fit : FitsHanded (all_of at) (parameters_scope p.parameters) handed) where
    abbrev block : List ℤ
    block = position_words (all_of at) (activation_at store 0)

    abbrev stack : List ℤ
    stack = store_words (all_of at) (drop 1 store)

    abbrev handed_over : List ℤ
    handed_over = position_words (all_of at) handed

    abbrev zeros : List ℤ
    zeros = replicate (variable_words p.variables) (pos 0)

    abbrev activation : Activation
    activation = activation_of p handed

    abbrev grown_store : Store
    grown_store = store ++ activation ∷ []

    abbrev frame : ℕ
    frame = total (at.lower ++ at.own ∷ [])

    abbrev saved_there : List Saved
    saved_there = record { pc = a + 1; fp = total at.lower } ∷ at.saved

    grown : Grown (scopes_of at) (frame_scope p) store activation
    grown =
        owed.grows (scopes_of at) (frame_scope p) store activation fits
        (owed.begun_fits (all_of at) (length (all_of at)) (parameters_scope p.parameters) handed p.variables fit).0

    height : length (stack ++ handed_over) ≡ frame + length p.parameters
    height =
        let below = (owed.lengths (scopes_of at) store fits).stack in
        let own = total-more at.lower at.own in
        let parts = length-append stack handed_over in
        let over = (owed.position_lengths (all_of at) (length (all_of at)) (parameters_scope p.parameters) handed fit).0 in
        let few = parameters_words p.parameters (fine_procedure at.program number p at.fine is).values in
        omega (arith, below, own, parts, over, few)

    frame_begins : length (stack ++ handed_over) - length p.parameters ≡ frame
    frame_begins = omega (arith, height)

    frame_stack : (stack ++ handed_over) ++ zeros ≡ store_words (all_of there) (drop 1 grown_store) ++ []
    frame_stack =
        let words = (owed.begun_fits (all_of at) (length (all_of at)) (parameters_scope p.parameters) handed p.variables fit).1 in
        append_assoc stack handed_over zeros
        ∙ ap (λ (l : List ℤ). stack ++ l) (sym words)
        ∙ sym grown.stack
        ∙ sym (append-nil (store_words (all_of there) (drop 1 grown_store)))

    room_words : (frame n vars params own_words : ℕ) → own_words ≡ params + vars → frame + own_words + 0 + n ≤ reserve_of at → frame + params + vars ≤ reserve_of at
    room_words frame n vars params own_words whole room = omega (arith, whole, room)

    entered : (left : ℕ) → length at.saved < 63 → HasRoom there [] (most_temporaries at.program.procedures) →
        slice_get at.code a ≡ Some (Instrs.Call entry (length p.parameters)) →
        Leads at.code (reserve_of at) 2 (here at store (suc left) a handed_over) (here there grown_store left (entry + 1) [])
    entered left high room here_call =
        let few = parameters_words p.parameters (fine_procedure at.program number p at.fine is).values in
        let parts = extent-append (parameters_scope p.parameters) (variables_scope p.variables) in
        let enough : length (stack ++ handed_over) + variable_words p.variables ≤ reserve_of at =
        subst (λ (n : ℕ). n + variable_words p.variables ≤ reserve_of at) (sym height)
        (room_words frame (most_temporaries at.program.procedures) (variable_words p.variables) (length p.parameters) (extent (frame_scope p)) (omega (arith, few, parts)) room) in
        let start = here at store (suc left) a handed_over in
        let middle = with_frame at.code (reserve_of at) block frame saved_there left entry (stack ++ handed_over) in
        let finish = here there grown_store left (entry + 1) [] in
        let called : turn at.code (reserve_of at) start ≡ Unfinished middle =
        calls_on at.code (reserve_of at) block (total at.lower) at.saved left a entry (length p.parameters) (stack ++ handed_over) here_call high (omega (arith, height))
        ∙ ap (λ (n : ℕ). Unfinished (with_frame at.code (reserve_of at) block n saved_there left entry (stack ++ handed_over))) frame_begins in
        let framed : turn at.code (reserve_of at) middle ≡ Unfinished finish =
        frames at.code (reserve_of at) block frame saved_there left entry (variable_words p.variables) (stack ++ handed_over) stands.frame_stands enough
        ∙ ap (λ (s : List ℤ). Unfinished (with_frame at.code (reserve_of at) block frame saved_there left (entry + 1) s)) frame_stack
        ∙ ap (λ (b : List ℤ). Unfinished (with_frame at.code (reserve_of at) b frame saved_there left (entry + 1) (store_words (all_of there) (drop 1 grown_store) ++ []))) (sym grown.block) in
        leads.on 1 1 start middle finish (leads.one start middle called) (leads.one middle finish framed)

  -- ---- RET

  left_again : (left : ℕ) (store : Store) → Fits (all_of there) store →
      Leads at.code (reserve_of at) 1 (here there store left end []) (here at (take (pred (length store)) store) left (a + 1) [])
  left_again left store fits =
      let shrunk = owed.shrinks (scopes_of at) (frame_scope p) store fits in
      let words = store_words (all_of there) (drop 1 store) in
      let block = position_words (all_of there) (activation_at store 0) in
      let frame = total (at.lower ++ at.own ∷ []) in
      let shorter = take (pred (length store)) store in
      let start = here there store left end [] in
      let finish = here at shorter left (a + 1) [] in
      let high : frame ≤ length (words ++ []) = omega (arith, (owed.lengths (scopes_of there) store fits).stack, length-append words []) in
      leads.one start finish
      (returns at.code (reserve_of at) block frame there.saved left end (words ++ []) stands.return_stands high
      ∙ ap (λ (s : List ℤ). Unfinished (with_frame at.code (reserve_of at) block (total at.lower) at.saved left (a + 1) (take frame s))) (append-nil words)
      ∙ ap (λ (s : List ℤ). Unfinished (with_frame at.code (reserve_of at) block (total at.lower) at.saved left (a + 1) s)) (sym shrunk.stack ∙ sym (append-nil (store_words (all_of at) (drop 1 shorter))))
      ∙ ap (λ (b : List ℤ). Unfinished (with_frame at.code (reserve_of at) b (total at.lower) at.saved left (a + 1) (store_words (all_of at) (drop 1 shorter) ++ []))) (sym shrunk.block))

  -- ---- the call

  paid : (body code used : ℕ) → 1 + body + 1 ≤ code → 2 + (body + code * used) + 1 ≤ 1 + code * suc used
  paid body code used fits = omega (arith, fits)

  paid_trap : (body code used : ℕ) → 1 + body + 1 ≤ code → 2 + (body + code * used) ≤ 1 + code * suc used
  paid_trap body code used fits = omega (arith, fits)

  call_done : (left : ℕ) (c d : Configuration) (o : Outcome) → Leads at.code (reserve_of at) 2 c d → RunsIn there body_size left d end o →
      RunsIn at 1 (suc left) c (a + 1) (Meaning.left o)
  call_done left c d (Done t s) l r =
      let back = take (pred (length s)) s in
      let whole = leads.on (2 + (body_size + length at.code * r.used)) 1 c (here there s t end []) (here at back t (a + 1) [])
      (leads.on 2 (body_size + length at.code * r.used) c d (here there s t end []) l r.leads) (left_again t s r.fits) in
      record {
        used = suc r.used;
        turns = omega (arith, r.turns);
        fits = (owed.shrinks (scopes_of at) (frame_scope p) s r.fits).fits;
        leads =
            leads.more (2 + (body_size + length at.code * r.used) + 1) (1 + length at.code * suc r.used) c (here at back t (a + 1) []) (paid body_size (length at.code) r.used stands.long) whole;
      }
  call_done left c d (Trap k) l r =
      leads.stops_more (2 + (body_size + length at.code * left)) (1 + length at.code * suc left) c k (paid_trap body_size (length at.code) left stands.long)
      (leads.stops_on 2 (body_size + length at.code * left) c d k l r)

module _ (owed : Owed) where
  pub calls_run : CallsRun
  calls_run at zero low number p handed n store a is fits fit call_stands =
      let c = here at store n a (position_words (all_of at) handed) in
      (owed.runs at.code (reserve_of at) (scopes_of at) at.saved).traps n 1 (a + 1) 4 c
      ((owed.leads at.code (reserve_of at)).stops_one c 4
      (calls_deep at.code (reserve_of at) (position_words (all_of at) (activation_at store 0)) (total at.lower) at.saved n a (entry_of at.program.procedures number) (length p.parameters)
      (store_words (all_of at) (drop 1 store) ++ position_words (all_of at) handed) call_stands (omega (arith, low.depth))))
  calls_run at (suc more) low number p handed zero store a is fits fit call_stands =
      let c = here at store 0 a (position_words (all_of at) handed) in
      (owed.runs at.code (reserve_of at) (scopes_of at) at.saved).traps 0 1 (a + 1) 5 c
      ((owed.leads at.code (reserve_of at)).stops_one c 5
      (calls_none at.code (reserve_of at) (position_words (all_of at) (activation_at store 0)) (total at.lower) at.saved a (entry_of at.program.procedures number) (length p.parameters)
      (store_words (all_of at) (drop 1 store) ++ position_words (all_of at) handed) call_stands (omega (arith, low.depth))))
  calls_run at (suc more) low number p handed (suc left) store a is fits fit call_stands =
      let low_there = stays_low at more number a p is low in
      let there = inside at p a in
      let room = low_has_room there more low_there in
      let most = temporaries_most at.program.procedures number p is in
      let store' = store ++ activation_of p handed ∷ [] in
      let entry = entry_of at.program.procedures number in
      let c = here at store (suc left) a (position_words (all_of at) handed) in
      let d = here there store' left (entry + 1) [] in
      let body_runs = each_list owed there (calls at.program more) (calls_run there more low_there) p.body left store' (entry + 1)
      (grown owed at number p is a handed store fits fit).fits (fine_procedure at.program number p at.fine is).body (stands owed at number p is a).body_stands (omega (arith, room, most)) in
      subst (λ (o : Option Procedure). RunsIn at 1 (suc left) c (a + 1) (activated (calls at.program more) o handed left store)) (sym is)
      (call_done owed at number p is a left c d (meaning_of_all (calls at.program more) p.body left store')
      (entered owed at number p is a handed store fits fit left (omega (arith, low.depth)) room call_stands) body_runs)
