-- The entrances of the first procedure and of those behind it, and the types of their parameters.
use Rattle.std.proofs.Common.{◌≡◌, ℕ, zero, suc, Bool, true, false, cond, List, [], ◌∷◌, ◌++◌, get_or, refl, sym, ap, ◌∙◌, append_assoc}
use Rattle.ob_interface.specs.declared.export.Formal.{Formal}
use Rattle.ob_interface.specs.declared.scalar.ScalarType.TheVariants.{Integer}
use Rattle.ob_typing.specs.Program.{DataType, Simple, Procedure}
use Rattle.ob_checked.specs.Types.{Entry, entry_by, structure_by, types_behind, types_of}
use Rattle.ob_checked.specs.declared.types.Structure.{Structure}
use Rattle.ob_checked.specs.declared.types.Structure.TheVariants.{Array, Record}
use Rattle.ob_code_scheme.specs.Correct.{scalar_type_of, formals_of}
use Rattle.ob_code_correct.specs.CodeMeaning.{Entrance}
use Rattle.ob_code_correct.specs.Compiled.{entrances_from}

-- ---- no number of a table stands for a scalar's type

abbrev IsOf : DataType → Type 0
IsOf t = scalar_type_of t ≡ Integer

-- of each of these
abbrev AreOf : List DataType → Type 0
AreOf ts = (n : ℕ) → IsOf (get_or ts n (Simple Integer))

none_are : AreOf []
none_are n = refl

more_are : (ts : List DataType) (t : DataType) → AreOf ts → IsOf t → AreOf (ts ++ t ∷ [])
more_are [] t h is zero = is
more_are [] t h is (suc n) = refl
more_are (x ∷ ts) t h is zero = h 0
more_are (x ∷ ts) t h is (suc n) = more_are ts t (λ k. h (suc k)) is n

entry_is : (ts : List DataType) (place : ℕ) (s : Structure) → IsOf (structure_by ts place s)
entry_is ts place (Array length element) = refl
entry_is ts place (Record fields) = refl

behind_are : (ts : List DataType) (es : List Entry) → AreOf ts → AreOf (types_behind ts es)
behind_are ts [] h = h
behind_are ts (e ∷ es) h = behind_are (ts ++ entry_by ts e ∷ []) es (more_are ts (entry_by ts e) h (entry_is ts e.place e.structure))

pub structured_are : (es : List Entry) (n : ℕ) → scalar_type_of (get_or (types_of es) n (Simple Integer)) ≡ Integer
structured_are es = behind_are [] es none_are

-- ---- entrances

abbrev pub made : ℕ → List Formal → Entrance
made n fs = record { procedure = n; parameters = fs }

abbrev pub entrance : ℕ → Procedure → Entrance
entrance n p = made n (formals_of p.parameters)

pub exported : (n : ℕ) (p : Procedure) (ps : List Procedure) → p.is_exported ≡ true → entrances_from n (p ∷ ps) ≡ entrance n p ∷ entrances_from (suc n) ps
exported n p ps h = ap (λ (b : Bool). cond b (entrance n p ∷ entrances_from (suc n) ps) (entrances_from (suc n) ps)) h

pub hidden : (n : ℕ) (p : Procedure) (ps : List Procedure) → p.is_exported ≡ false → entrances_from n (p ∷ ps) ≡ entrances_from (suc n) ps
hidden n p ps h = ap (λ (b : Bool). cond b (entrance n p ∷ entrances_from (suc n) ps) (entrances_from (suc n) ps)) h

-- one more entrance
pub one_more : (before : List Entrance) (x : Entrance) (n : ℕ) (p : Procedure) (ps : List Procedure) → p.is_exported ≡ true → x ≡ entrance n p →
    (before ++ x ∷ []) ++ entrances_from (suc n) ps ≡ before ++ entrances_from n (p ∷ ps)
one_more before x n p ps h e =
    append_assoc before (x ∷ []) (entrances_from (suc n) ps)
    ∙ ap (λ (y : Entrance). before ++ y ∷ entrances_from (suc n) ps) e
    ∙ ap (λ (xs : List Entrance). before ++ xs) (sym (exported n p ps h))

pub same_entrance : (n m : ℕ) (fs gs : List Formal) → n ≡ m → fs ≡ gs → made n fs ≡ made m gs
same_entrance n m fs gs e f = ap (λ (k : ℕ). made k fs) e ∙ ap (made m) f
