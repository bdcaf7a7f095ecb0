-- How runs of the machine are put together.
use Rattle.std.proofs.Common.{◌≡◌, ℕ, suc, ◌+◌, ◌*◌, ◌≤◌, List, [], length, refl, ap, ◌∙◌, subst, arith}
use Rattle.ob_meaning.specs.ByPositionStore.{Store}
use Rattle.ob_meaning.specs.ByPositionStatements.{Outcome, Run, Done, Trap, then_run}
use Rattle.ob_code_scheme.specs.Types.{Fits}
use Rattle.ob_code_words.specs.declared.instr.Instr.{Instr}
use Rattle.ob_code_machine.specs.Machine as Machine
use Rattle.ob_code_machine.specs.declared.saved.Saved.{Saved}
use Rattle.ob_code_machine.specs.Machine.{Configuration, Unfinished, Trapped, turn, carried, exec}
use Rattle.ob_code_scheme.specs.Image.{Scopes, all, image, Leads, Stops, Runs}

module _ (code : List Instr) (reserve : ℕ) where
  -- ---- Leads and Stops

  pub leads_none : (most : ℕ) (c : Configuration) → Leads code reserve most c c
  leads_none most c = record { by = λ k. (k, omega arith, refl) }

  pub leads_same : (most : ℕ) (a b : Configuration) → a ≡ b → Leads code reserve most a b
  leads_same most a b e = subst (λ (c : Configuration). Leads code reserve most a c) e (leads_none most a)

  pub leads_more : (m n : ℕ) (a b : Configuration) → m ≤ n → Leads code reserve m a b → Leads code reserve n a b
  leads_more m n a b le l = record { by = λ k. let j = l.by k in (j.0, omega (arith, j.1, le), j.2) }

  pub leads_one : (c c' : Configuration) → turn code reserve c ≡ Unfinished c' → Leads code reserve 1 c c'
  leads_one c c' h = record { by = λ k. (suc k, omega arith, ap (λ (o : Machine.Outcome). carried o (exec code reserve k)) h) }

  pub leads_on : (m n : ℕ) (a b c : Configuration) → Leads code reserve m a b → Leads code reserve n b c → Leads code reserve (m + n) a c
  leads_on m n a b c l k =
      record { by = λ i. let second = k.by i in let first = l.by second.0 in (first.0, omega (arith, first.1, second.1), first.2 ∙ second.2) }

  pub stops_more : (m n : ℕ) (a : Configuration) (k : ℕ) → m ≤ n → Stops code reserve m a k → Stops code reserve n a k
  stops_more m n a k le s = record { count = s.count; few = omega (arith, s.few, le); trapped = s.trapped }

  pub stops_one : (c : Configuration) (k : ℕ) → turn code reserve c ≡ Trapped k → Stops code reserve 1 c k
  stops_one c k h = record { count = 1; few = omega arith; trapped = ap (λ (o : Machine.Outcome). carried o (exec code reserve 0)) h }

  pub stops_on : (m n : ℕ) (a b : Configuration) (k : ℕ) → Leads code reserve m a b → Stops code reserve n b k → Stops code reserve (m + n) a k
  stops_on m n a b k l s = let first = l.by s.count in record { count = first.0; few = omega (arith, first.1, s.few); trapped = first.2 ∙ s.trapped }

  -- ---- Runs

  module _ (scopes : Scopes) (saved : List Saved) where
    abbrev at : ℕ → ℕ → Store → Configuration
    at left pc store = image scopes saved store left pc []

    abbrev Comes : ℕ → ℕ → Configuration → ℕ → Outcome → Type 0
    Comes = Runs code reserve scopes saved

    pub runs_more : (m n turns : ℕ) (c : Configuration) (pc : ℕ) (o : Outcome) → m ≤ n → Comes m turns c pc o → Comes n turns c pc o
    runs_more m n turns c pc (Done left store) le r =
        record {
          used = r.used;
          turns = r.turns;
          fits = r.fits;
          leads = leads_more (m + length code * r.used) (n + length code * r.used) c (at left pc store) (omega (arith, le)) r.leads;
        }
    runs_more m n turns c pc (Trap k) le r = stops_more (m + length code * turns) (n + length code * turns) c k (omega (arith, le)) r

    -- of what is done at once
    pub runs_none : (size turns : ℕ) (store : Store) (pc : ℕ) → Fits (all scopes) store → Comes size turns (at turns pc store) pc (Done turns store)
    runs_none size turns store pc fits = record { used = 0; turns = omega arith; fits = fits; leads = leads_none (size + length code * 0) (at turns pc store) }

    -- of what comes to its end by instructions without a turn
    pub runs_led : (size turns : ℕ) (c : Configuration) (pc : ℕ) (store : Store) → Fits (all scopes) store → Leads code reserve size c (at turns pc store) → Comes size turns c pc (Done turns store)
    runs_led size turns c pc store fits l =
        record { used = 0; turns = omega arith; fits = fits; leads = leads_more size (size + length code * 0) c (at turns pc store) (omega arith) l }

    pub runs_stopped : (size turns : ℕ) (c : Configuration) (pc k : ℕ) → Stops code reserve size c k → Comes size turns c pc (Trap k)
    runs_stopped size turns c pc k s = stops_more size (size + length code * turns) c k (omega arith) s

    -- behind instructions without a turn
    pub runs_behind : (m n turns : ℕ) (a b : Configuration) (pc : ℕ) (o : Outcome) → Leads code reserve m a b → Comes n turns b pc o → Comes (m + n) turns a pc o
    runs_behind m n turns a b pc (Done left store) l r =
        record {
          used = r.used;
          turns = r.turns;
          fits = r.fits;
          leads = leads_more (m + (n + length code * r.used)) (m + n + length code * r.used) a (at left pc store) (omega arith)
              (leads_on m (n + length code * r.used) a b (at left pc store) l r.leads);
        }
    runs_behind m n turns a b pc (Trap k) l r =
        stops_more (m + (n + length code * turns)) (m + n + length code * turns) a k (omega arith) (stops_on m (n + length code * turns) a b k l r)

    -- behind a turn, which pays for as many instructions as the code has
    pub runs_paid : (m n left : ℕ) (a b : Configuration) (pc : ℕ) (o : Outcome) (size : ℕ) → m + n ≤ size + length code → Leads code reserve m a b → Comes n left b pc o → Comes size (suc left) a pc o
    runs_paid m n left a b pc (Done rest store) size le l r =
        record {
          used = suc r.used;
          turns = omega (arith, r.turns);
          fits = r.fits;
          leads = leads_more (m + (n + length code * r.used)) (size + length code * suc r.used) a (at rest pc store) (omega (arith, le))
              (leads_on m (n + length code * r.used) a b (at rest pc store) l r.leads);
        }
    runs_paid m n left a b pc (Trap k) size le l r =
        stops_more (m + (n + length code * left)) (size + length code * suc left) a k (omega (arith, le)) (stops_on m (n + length code * left) a b k l r)

    -- before instructions that change the place alone
    pub runs_before : (m n turns : ℕ) (c : Configuration) (pc pc' : ℕ) (o : Outcome) →
        ((left : ℕ) (store : Store) → Fits (all scopes) store → Leads code reserve n (at left pc store) (at left pc' store)) → Comes m turns c pc o → Comes (m + n) turns c pc' o
    runs_before m n turns c pc pc' (Done left store) l r =
        record {
          used = r.used;
          turns = r.turns;
          fits = r.fits;
          leads = leads_more (m + length code * r.used + n) (m + n + length code * r.used) c (at left pc' store) (omega arith)
              (leads_on (m + length code * r.used) n c (at left pc store) (at left pc' store) r.leads (l left store r.fits));
        }
    runs_before m n turns c pc pc' (Trap k) l r = stops_more (m + length code * turns) (m + n + length code * turns) c k (omega arith) r

    -- one behind the other
    pub runs_then : (m n turns : ℕ) (a : Configuration) (pc end : ℕ) (o : Outcome) (run : Run) → Comes m turns a pc o →
        ((left : ℕ) (store : Store) → left ≤ turns → Fits (all scopes) store → Comes n left (at left pc store) end (run left store)) →
        Comes (m + n) turns a end (then_run o run)
    runs_then m n turns a pc end (Done left store) run r go = by (run left store) (go left store (omega (arith, r.turns)) r.fits)
      where
        paid : r.used + left ≡ turns
        paid = r.turns

        all_paid : length code * turns ≡ length code * r.used + length code * left
        all_paid = let e = ap (λ (x : ℕ). length code * x) paid in omega (arith, e)

        by : (o : Outcome) → Comes n left (at left pc store) end o → Comes (m + n) turns a end o
        by (Done rest s) second =
            record {
              used = r.used + second.used;
              turns = omega (arith, second.turns, paid);
              fits = second.fits;
              leads = leads_more (m + length code * r.used + (n + length code * second.used)) (m + n + length code * (r.used + second.used)) a (at rest end s) (omega arith)
                  (leads_on (m + length code * r.used) (n + length code * second.used) a (at left pc store) (at rest end s) r.leads second.leads);
            }
        by (Trap k) second =
            stops_more (m + length code * r.used + (n + length code * left)) (m + n + length code * turns) a k (omega (arith, all_paid))
            (stops_on (m + length code * r.used) (n + length code * left) a (at left pc store) k r.leads second)
    runs_then m n turns a pc end (Trap k) run r go =
        stops_more (m + length code * turns) (m + n + length code * turns) a k (omega arith) r
