-- Where an export stands among the procedures of its program, and how many parameters it has.
use Rattle.std.proofs.Common.{◌≡◌, ℕ, zero, suc, ◌+◌, ◌≤◌, Bool, true, false, cond, List, [], ◌∷◌, length, map, filter, Some, refl, sym, ap, ◌∙◌, subst, arith}
use Rattle.std.proofs.lemmas.List.{length-map}
use Rattle.std.specs.Prelude.{slice_get}
use Rattle.ob_interface.specs.declared.export.Formal.{Formal}
use Rattle.ob_interface.specs.Export.{Signature}
use Rattle.ob_typing.specs.Program.{Name, Variable, Parameter, Procedure, Program, Statements}
use Rattle.ob_code_scheme.specs.WellFormed.{IsWellFormed}
use Rattle.ob_code_scheme.specs.Correct.{scalar_type_of, formals_of}
use Rattle.ob_code_scheme.proofs.Fine.{fine_procedure}
use Rattle.ob_code_correct.specs.CodeMeaning.{Entrance, most, result_count, value_count}
use Rattle.ob_code_correct.specs.Compiled.{entrances_from}

abbrev pub entrance : ℕ → Procedure → Entrance
entrance n p = record { procedure = n; parameters = formals_of p.parameters }

-- the export of a number, among procedures that are numbered from n
pub record Found (n : ℕ) (ps : List Procedure) (i : ℕ) (x : Entrance) : Type 0 where
  pub index : ℕ
  pub procedure : Procedure
  pub there : slice_get ps index ≡ Some procedure
  pub number : x.procedure ≡ n + index
  pub parameters : x.parameters ≡ formals_of procedure.parameters
  pub is_exported : procedure.is_exported ≡ true
  pub exported : slice_get (filter (λ p. p.is_exported) ps) i ≡ Some procedure

-- a procedure, taken apart so that cases of whether it is exported compute
abbrev one : Name → Bool → List Parameter → List Variable → Statements → Procedure
one name is_exported parameters variables body =
    record { name = name; is_exported = is_exported; parameters = parameters; variables = variables; body = body }

found_one : (n : ℕ) (name : Name) (b : Bool) (parameters : List Parameter) (variables : List Variable) (body : Statements) (ps : List Procedure) →
    ((j : ℕ) (x : Entrance) → slice_get (entrances_from (suc n) ps) j ≡ Some x → Found (suc n) ps j x) →
    (i : ℕ) (x : Entrance) → slice_get (entrances_from n (one name b parameters variables body ∷ ps)) i ≡ Some x → Found n (one name b parameters variables body ∷ ps) i x
found_one n name true parameters variables body ps further zero x h =
    let same : entrance n (one name true parameters variables body) ≡ x = cc in
    subst (λ (y : Entrance). Found n (one name true parameters variables body ∷ ps) 0 y) same
    (record { index = 0; procedure = one name true parameters variables body; there = refl; number = omega arith; parameters = refl; is_exported = refl; exported = refl })
found_one n name true parameters variables body ps further (suc i) x h =
    let f = further i x h in
    record { index = suc f.index; procedure = f.procedure; there = f.there; number = omega (arith, f.number); parameters = f.parameters; is_exported = f.is_exported; exported = f.exported }
found_one n name false parameters variables body ps further i x h =
    let f = further i x h in
    record { index = suc f.index; procedure = f.procedure; there = f.there; number = omega (arith, f.number); parameters = f.parameters; is_exported = f.is_exported; exported = f.exported }

pub found : (n : ℕ) (ps : List Procedure) (i : ℕ) (x : Entrance) → slice_get (entrances_from n ps) i ≡ Some x → Found n ps i x
found n [] i x h = absurd (cc)
found n (p ∷ ps) i x h = found_one n p.name p.is_exported p.parameters p.variables p.body ps (found (suc n) ps) i x h

-- ---- numbers of parameters

pub few : (program : Program) → IsWellFormed program → (i : ℕ) (x : Entrance) → slice_get (entrances_from 0 program.procedures) i ≡ Some x → length x.parameters ≤ 8
few program fine i x h =
    let f = found 0 program.procedures i x h in
    let limit = (fine_procedure program f.index f.procedure fine f.there).few in
    let long = ap (λ (fs : List Formal). length fs) f.parameters ∙ length-map f.procedure.parameters (λ (p : Parameter). record { is_var = p.is_var; scalar_type = scalar_type_of p.type }) in
    omega (arith, limit, long)

-- counts of parameters
abbrev IsCount : (List Formal → ℕ) → Type 0
IsCount count = (fs : List Formal) → count fs ≤ length fs

results_one : (b : Bool) (n m : ℕ) → n ≤ m → cond b (suc n) n ≤ suc m
results_one true n m h = omega (arith, h)
results_one false n m h = omega (arith, h)

pub results_few : IsCount result_count
results_few [] = omega arith
results_few (f ∷ fs) = results_one f.is_var (result_count fs) (length fs) (results_few fs)

values_one : (b : Bool) (n m : ℕ) → n ≤ m → cond b n (suc n) ≤ suc m
values_one true n m h = omega (arith, h)
values_one false n m h = omega (arith, h)

pub values_few : IsCount value_count
values_few [] = omega arith
values_few (f ∷ fs) = values_one f.is_var (value_count fs) (length fs) (values_few fs)

most_few : (count : List Formal → ℕ) → IsCount count → (xs : List Entrance) → ((i : ℕ) (x : Entrance) → slice_get xs i ≡ Some x → length x.parameters ≤ 8) → most count xs ≤ 8
most_few count fine [] h = omega arith
most_few count fine (x ∷ xs) h =
    let here = h 0 x refl in
    let counted = fine x.parameters in
    let rest = most_few count fine xs (λ i y e. h (suc i) y e) in
    omega (arith, here, counted, rest)

pub most_of : (count : List Formal → ℕ) → IsCount count → (program : Program) → IsWellFormed program → most count (entrances_from 0 program.procedures) ≤ 8
most_of count fine program well = most_few count fine (entrances_from 0 program.procedures) (few program well)

pub most_has : (count : List Formal → ℕ) (xs : List Entrance) (i : ℕ) (x : Entrance) → slice_get xs i ≡ Some x → count x.parameters ≤ most count xs
most_has count [] i x h = absurd (cc)
most_has count (y ∷ xs) zero x h =
    let same : y ≡ x = cc in
    subst (λ (z : Entrance). count z.parameters ≤ most count (y ∷ xs)) same (omega arith)
most_has count (y ∷ xs) (suc i) x h = let rest = most_has count xs i x h in omega (arith, rest)

-- ---- exports as a caller knows them

abbrev signed : Procedure → Signature
signed p = record { name = p.name; formals = formals_of p.parameters }

-- the entrance that has the formals of a signature
pub record Entered (n : ℕ) (ps : List Procedure) (i : ℕ) (s : Signature) : Type 0 where
  pub entrance : Entrance
  pub there : slice_get (entrances_from n ps) i ≡ Some entrance
  pub formals : entrance.parameters ≡ s.formals

entered_one : (n : ℕ) (name : Name) (b : Bool) (parameters : List Parameter) (variables : List Variable) (body : Statements) (ps : List Procedure) →
    ((j : ℕ) (s : Signature) → slice_get (map signed (filter (λ p. p.is_exported) ps)) j ≡ Some s → Entered (suc n) ps j s) →
    (i : ℕ) (s : Signature) → slice_get (map signed (filter (λ p. p.is_exported) (one name b parameters variables body ∷ ps))) i ≡ Some s → Entered n (one name b parameters variables body ∷ ps) i s
entered_one n name true parameters variables body ps further zero s h =
    let same : signed (one name true parameters variables body) ≡ s = cc in
    record { entrance = entrance n (one name true parameters variables body); there = refl; formals = ap (λ (s : Signature). s.formals) same }
entered_one n name true parameters variables body ps further (suc i) s h =
    let f = further i s h in record { entrance = f.entrance; there = f.there; formals = f.formals }
entered_one n name false parameters variables body ps further i s h =
    let f = further i s h in record { entrance = f.entrance; there = f.there; formals = f.formals }

pub entered_at : (n : ℕ) (ps : List Procedure) (i : ℕ) (s : Signature) → slice_get (map signed (filter (λ p. p.is_exported) ps)) i ≡ Some s → Entered n ps i s
entered_at n [] i s h = absurd (cc)
entered_at n (p ∷ ps) i s h =
    entered_one n p.name p.is_exported p.parameters p.variables p.body ps (entered_at (suc n) ps) i s h

-- and the signature of an entrance
pub record Signed (n : ℕ) (ps : List Procedure) (i : ℕ) (x : Entrance) : Type 0 where
  pub signature : Signature
  pub here : slice_get (map signed (filter (λ p. p.is_exported) ps)) i ≡ Some signature
  pub formals : x.parameters ≡ signature.formals

signed_one : (n : ℕ) (name : Name) (b : Bool) (parameters : List Parameter) (variables : List Variable) (body : Statements) (ps : List Procedure) →
    ((j : ℕ) (x : Entrance) → slice_get (entrances_from (suc n) ps) j ≡ Some x → Signed (suc n) ps j x) →
    (i : ℕ) (x : Entrance) → slice_get (entrances_from n (one name b parameters variables body ∷ ps)) i ≡ Some x → Signed n (one name b parameters variables body ∷ ps) i x
signed_one n name true parameters variables body ps further zero x h =
    let same : entrance n (one name true parameters variables body) ≡ x = cc in
    record { signature = signed (one name true parameters variables body); here = refl; formals = ap (λ (x : Entrance). x.parameters) (sym same) }
signed_one n name true parameters variables body ps further (suc i) x h =
    let f = further i x h in record { signature = f.signature; here = f.here; formals = f.formals }
signed_one n name false parameters variables body ps further i x h =
    let f = further i x h in record { signature = f.signature; here = f.here; formals = f.formals }

pub signed_at : (n : ℕ) (ps : List Procedure) (i : ℕ) (x : Entrance) → slice_get (entrances_from n ps) i ≡ Some x → Signed n ps i x
signed_at n [] i x h = absurd (cc)
signed_at n (p ∷ ps) i x h = signed_one n p.name p.is_exported p.parameters p.variables p.body ps (signed_at (suc n) ps) i x h
