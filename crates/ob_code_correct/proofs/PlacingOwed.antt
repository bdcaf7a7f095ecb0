-- What is owed of placing and of runs.
use Rattle.std.proofs.Common.{ℕ, ◌+◌, List, ◌∷◌, refl, arith}
use Rattle.ob_typing.specs.Arithmetic.{Gives, Traps}
use Rattle.ob_meaning.specs.ByPositionStatements.{then_run}
use Rattle.ob_code_words.specs.declared.instr.Instr.{Instr}
use Rattle.ob_code_machine.specs.declared.saved.Saved.{Saved}
use Rattle.ob_code_scheme.specs.Image.{Scopes}
use Rattle.ob_code_scheme.specs.Running.{scopes_of, reserve_of, here}
use Rattle.ob_code_scheme.specs.Placing.{CodeLengths, HasBack, HasWithin, LeadsGlue, RunsGlue, AfterRuns, CodePlaced}
use Rattle.ob_code_correct.proofs.Lengths.{code_long, operations_long, designator_long, selectors_long, actuals_long, statement_long, statements_long, branches_long, procedure_long}
use Rattle.ob_code_correct.proofs.Placed as Placed
use Rattle.ob_code_correct.proofs.Placed.{has_behind}
use Rattle.ob_code_correct.proofs.Entries.{procedure_stands, entry_is}
use Rattle.ob_code_correct.proofs.Running.{leads_none, leads_one, leads_on, leads_more, stops_one, stops_on, stops_more, runs_more, runs_led, runs_stopped, runs_behind, runs_paid, runs_before, runs_then}

code_lengths : CodeLengths
code_lengths = record {
  expression = code_long;
  operations = operations_long;
  designator = designator_long;
  selectors = selectors_long;
  actuals = actuals_long;
  statement = statement_long;
  statements = statements_long;
  branches = branches_long;
  procedure = procedure_long;
}

has_back : HasBack
has_back code a n xs ys long h = has_behind code a xs ys n (a + n) long refl h

has_within : HasWithin
has_within code a i is h = let k = Placed.has_within code a (i ∷ is) h (omega arith) in omega (arith, k)

module _ (code : List Instr) (reserve : ℕ) where
  leads_glue : LeadsGlue code reserve
  leads_glue = record {
    none = leads_none code reserve 0;
    one = leads_one code reserve;
    stops_one = stops_one code reserve;
    on = leads_on code reserve;
    stops_on = stops_on code reserve;
    more = leads_more code reserve;
    stops_more = stops_more code reserve;
  }

  module _ (scopes : Scopes) (saved : List Saved) where
    runs_glue : RunsGlue code reserve scopes saved
    runs_glue = record {
      done = λ n store c size pc fits l. runs_led code reserve scopes saved size n c pc store fits l;
      traps = λ n size pc k c s. runs_stopped code reserve scopes saved size n c pc k s;
      on = λ m n size whole pc a b o le l r.
          runs_more code reserve scopes saved (m + size) whole n a pc o le (runs_behind code reserve scopes saved m size n a b pc o l r);
      turned = λ m n size whole pc a b o le l r. runs_paid code reserve scopes saved m size n a b pc o whole le l r;
      behind = λ m n size whole pc pc' c o le l r.
          runs_more code reserve scopes saved (size + m) whole n c pc' o le (runs_before code reserve scopes saved size m n c pc pc' o l r);
      then_runs = λ n first second whole pc pc' c o run le r go.
          runs_more code reserve scopes saved (first + second) whole n c pc' (then_run o run) le (runs_then code reserve scopes saved first second n c pc pc' o run r go);
    }

pub code_placed : CodePlaced
code_placed = record {
  lengths = code_lengths;
  has_front = Placed.has_front;
  has_back = has_back;
  has_within = has_within;
  procedures_stand = procedure_stands;
  entries_are = entry_is;
  leads = leads_glue;
  runs = runs_glue;
}

pub after_runs : {A : Type 0} → AfterRuns A
after_runs at store n size rest whole a pc before Is behind (Gives x) go le e h =
    runs_more at.code (reserve_of at) (scopes_of at) at.saved (size + rest) whole n (here at store n a before) pc (go x) le
    (runs_behind at.code (reserve_of at) (scopes_of at) at.saved size rest n (here at store n a before) (here at store n (a + size) (behind x)) pc (go x) e.1 (h x e.0))
after_runs at store n size rest whole a pc before Is behind (Traps k) go le e h =
    runs_stopped at.code (reserve_of at) (scopes_of at) at.saved whole n (here at store n a before) pc k
    (stops_more at.code (reserve_of at) size whole (here at store n a before) k (omega (arith, le)) e)
